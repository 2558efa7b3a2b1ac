-- The calls of palette.rs on colours: `check_color`, `fixed_choices`, `set_color`, `add_color`. Definitions only. Assumes nothing.
use Rattle.std.specs.Prelude.{◌≡◌, ℕ, ◌*◌, ◌/◌, Bool, ◌&&◌, cond, List, [], ◌∷◌, ◌++◌, map, ltb, leb, length, take}
use Rattle.std.proofs.Math.Option.{Option, none, some}
use Rattle.base.specs.Limits.{max_entries}
use Rattle.base.specs.Numbers.{no_such_entry, entry_locked, palette_full, colour_not_permitted, no_space}
use Rattle.base.specs.Checks.{Check, ◌when◌, first_of, checked}
use Rattle.base.specs.declared.Rgb.{Rgb}
use Rattle.base.specs.Answer.{Told, Done, choices_told}
use Rattle.base.specs.Answer.Told.{result, alone}
use Rattle.base.specs.Lists.{range, over}
use Rattle.sheet.specs.Sheet.{Sheet}
use Rattle.sheet.specs.Checks.{permitted_checks, mark_checks, sheet_checks}
use Rattle.sheet.specs.Document.{mark}
use Rattle.base.specs.Triples.{rgb_at}
use Rattle.base.specs.declared.Edit.TheVariants.{PaletteSet, PaletteAdd}
use Rattle.edit.specs.Locks.{lock_at}
use Rattle.edit.specs.Checks.{Permitted, listed, barred}
use Rattle.edit_entries.specs.Unfilled.{no_lab}
use Rattle.base.specs.declared.Choices.{Choices}
use Rattle.base.specs.declared.Edit.{Edit}

-- 1 of the permitted colours, which stands before 2 and 3 as the sheet's own 1 does; then 1, 2, 3 of the sheet, with `more` at 1
unfoldable pub palette_checks : List Check → Sheet → Permitted → List Check
palette_checks more s p = permitted_checks p.limited p.colours ++ sheet_checks more s

-- the number of the first of these that applies, and what 0 means
pub record PaletteJudged (more : List Check) (Fine : Type 0) (s : Sheet) (p : Permitted) (n : ℕ) : Type 0 where
  pub value : n ≡ first_of (palette_checks more s p)
  pub fine : n ≡ 0 → Fine

-- ---- `check_color`: "A named palette accepts only its own colors"
unfoldable pub check_color_of : Permitted → Rgb → Told (Unit {0})
check_color_of p c = checked (permitted_checks p.limited p.colours ++ (colour_not_permitted when barred p c ∷ [])) alone Done

-- ---- `fixed_choices`: "The named palette's colors, each with whether an entry already has it; `None` for a free palette"
-- how many colours a list has, three bytes each
abbrev pub colour_count : List ℕ → ℕ
colour_count colours = length colours / 3

-- a mark for each of the first n permitted colours: whether one of the k entries has it
unfoldable pub used_of : List ℕ → List ℕ → ℕ → List ℕ
used_of entries colours n = map (λ i. mark (listed entries (rgb_at colours i))) (range 0 n)

pub record Chosen : Type 0 where
  pub answer : Told (Option ℕ)
  pub used : List ℕ

abbrev pub choosing : Told (Option ℕ) → List ℕ → Chosen
choosing told used = record { answer = told; used = used }

abbrev pub chosen : Choices → List ℕ → Chosen
chosen answer used = choosing (choices_told answer) used

unfoldable pub fixed_choices_of : Sheet → Permitted → List ℕ → Chosen
fixed_choices_of s p used =
    let n = colour_count p.colours in
    checked (palette_checks [] s p ++ (no_space when (p.limited && ltb (length used) n) ∷ []))
    (λ m. choosing (alone m) used)
    (cond p.limited (choosing (result (some n)) (over (used_of (take (3 * s.k) s.palette) p.colours n) used)) (choosing (result none) used))

-- ---- `set_color`: 7, 24, 10; `add_color`: 8, 10
-- "Turned away: 24 "entry locked", directly after 7" (document 02, E5)
unfoldable pub set_checks : Sheet → List Bool → Permitted → ℕ → Rgb → List Check
set_checks s locks p i c = no_such_entry when leb s.k i ∷ entry_locked when lock_at locks i ∷ colour_not_permitted when barred p c ∷ []

unfoldable pub set_color_of : Sheet → List Bool → Permitted → ℕ → Rgb → Told Edit
set_color_of s locks p i c =
    checked (palette_checks (mark_checks locks) s p ++ set_checks s locks p i c)
    alone
    (result (PaletteSet i (rgb_at s.palette i) c no_lab))

unfoldable pub add_color_of : Sheet → Permitted → Rgb → Told Edit
add_color_of s p c =
    checked (palette_checks [] s p ++ (palette_full when leb max_entries s.k ∷ colour_not_permitted when barred p c ∷ []))
    alone
    (result (PaletteAdd c))
