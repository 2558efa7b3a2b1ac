-- Change request E10, "One spelling of a sheet": the line of a sheet, and the call that writes it. Definitions only. Assumes nothing.
use Rattle.std.specs.Prelude.{◌≡◌, List, [], ◌∷◌, ◌++◌, ℕ, ◌≤◌, ltb, ℤ, length}
use Rattle.base.specs.Numbers.{no_space}
use Rattle.base.specs.Checks.{Check, ◌when◌, first_of, checked}
use Rattle.base.specs.Answer.{Filled, leaving}
use Rattle.base.specs.Answer.Told.{result, alone}
use Rattle.base.specs.Lists.{over}
use Rattle.sheet.specs.Sheet.{Sheet}
use Rattle.sheet.specs.Checks.{sheet_checks, WellFormed}
use Rattle.panel_hex.specs.Hex.{hex_of}
use Rattle.panel_frames.specs.Opening.{open_bytes, colours_of, side_checks}

-- "`panel`'s opening frame, upper case, one newline"
unfoldable pub open_line : ℕ → ℕ → ℕ → List ℕ → List ℤ → List ℕ
open_line w h k colours indices = hex_of (open_bytes w h k colours indices) ++ (10 ∷ [])

-- the line of a sheet: "LAB and lock marks are not written"
unfoldable pub spelt : Sheet → List ℕ
spelt s = open_line s.w s.h s.k (colours_of s) s.indices

-- "any well-formed sheet with sides up to 64 .. A larger sheet gets 1", before 2 and 3; then 16
unfoldable pub spell_checks : Sheet → ℕ → List Check
spell_checks s room = side_checks s ++ (sheet_checks [] s ++ (no_space when ltb room (length (spelt s)) ∷ []))

-- ---- `spell`: the line at the front of the text, and its length
unfoldable pub spell_of : Sheet → List ℕ → Filled ℕ
spell_of s text =
    checked (spell_checks s (length text))
    (λ n. leaving (alone n) text)
    (leaving (result (length (spelt s))) (over (spelt s) text))

-- what is known of a sheet that has a line
pub record Small (s : Sheet) : Type 0 where
  pub fits : WellFormed s
  pub narrow : s.w ≤ 64
  pub low : s.h ≤ 64

-- the number of the first check that applies, and what 0 means
pub record Spellable (s : Sheet) (room n : ℕ) : Type 0 where
  pub value : n ≡ first_of (spell_checks s room)
  pub small : n ≡ 0 → Small s
  pub fits : n ≡ 0 → length (spelt s) ≤ room
