-- 1 of the permitted colours, then 1 to 3 of the sheet, with what else is held to number 1: what they find, and a call's further checks after them.
-- Assumes nothing.
use mathlib.Core.Path.{◌≡◌, sym, ◌∙◌}
use mathlib.Core.List.{List, ◌++◌}
use Prim.Native.Nat.{ℕ}
use Rattle.base.specs.Checks.{Check, first_of, checked}
use Rattle.base.proofs.First.{first_past, first-here, refused-first}
use Rattle.sheet.specs.Sheet.{Sheet}
use Rattle.sheet.specs.Checks.{permitted_checks, sheet_checks}
use Rattle.edit.specs.Checks.{Permitted}
use Rattle.palette_model.specs.Colours.{palette_checks, PaletteJudged}

module _ (more : List Check) (Fine : Type 0) (s : Sheet) (p : Permitted) where
  pub opened-permitted : (n : ℕ) → n ≡ first_of (permitted_checks p.limited p.colours) → (n ≡ 0 → ⊥) → PaletteJudged more Fine s p n
  unfolding palette_checks
  opened-permitted n e h = record { value = first-here (permitted_checks p.limited p.colours) (sheet_checks more s) n e h; fine = λ z. absurd (h z) }

  pub opened-sheet : (n : ℕ) → first_of (permitted_checks p.limited p.colours) ≡ 0 → n ≡ first_of (sheet_checks more s) → (n ≡ 0 → Fine) → PaletteJudged more Fine s p n
  unfolding palette_checks
  opened-sheet n e v f = record { value = v ∙ sym (first_past (permitted_checks p.limited p.colours) (sheet_checks more s) e); fine = f }

  -- a call's further checks, `ds`
  pub past-opened : (n : ℕ) → PaletteJudged more Fine s p n → n ≡ 0 → (ds : List Check) → first_of (palette_checks more s p ++ ds) ≡ first_of ds
  past-opened n o e ds = first_past (palette_checks more s p) ds (sym o.value ∙ e)

  pub refused-opened : {R : Type 0} (ds : List Check) (refused : ℕ → R) (result : R) (n : ℕ) → PaletteJudged more Fine s p n → (n ≡ 0 → ⊥)
      → refused n ≡ checked (palette_checks more s p ++ ds) refused result
  refused-opened ds refused result n o h = refused-first (palette_checks more s p ++ ds) refused result n (first-here (palette_checks more s p) ds n o.value h) h
