-- What the calls of tools.rs that make a clip leave, and the indices of a clip. Definitions only. Assumes nothing.
use Rattle.std.specs.Prelude.{ℕ, ◌+◌, ◌*◌, List, [], ◌∷◌, ◌++◌, map, ltb, ℤ, length}
use Rattle.base.specs.Numbers.{no_space}
use Rattle.base.specs.Checks.{Check, ◌when◌, checked}
use Rattle.base.specs.Lists.{over}
use Rattle.selection_spans.specs.Positions.{Position}
use Rattle.base.specs.declared.Copied.{Copied}
use Rattle.base.specs.Answer.{Told, Sides, sides, copied_told}
use Rattle.base.specs.Answer.Told.{result, alone}

-- what a call that makes a clip leaves: its answer, and the buffer
pub record Clipped : Type 0 where
  pub answer : Told Sides
  pub buffer : List ℤ

abbrev pub clipping : Told Sides → List ℤ → Clipped
clipping told buffer = record { answer = told; buffer = buffer }

abbrev pub clipped : Copied → List ℤ → Clipped
clipped answer buffer = clipping (copied_told answer) buffer

-- a call's checks, then 16; a clip of w by h, its indices row by row at the front of the buffer
unfoldable pub clip_of : List Check → ℕ → ℕ → List ℤ → List ℤ → Clipped
clip_of checks w h indices out =
    checked (checks ++ (no_space when ltb (length out) (length indices) ∷ []))
    (λ n. clipping (alone n) out)
    (clipping (result (sides w h)) (over indices out))

-- what the pixels at these positions give, out of rows that are w wide
unfoldable pub from_rows : ℕ → (ℕ → ℤ) → List Position → List ℤ
from_rows w pixel ps = map (λ p. pixel (p.y * w + p.x)) ps
