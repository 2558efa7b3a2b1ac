-- DOCUMENT 02, E8: what holds of two sheets that `join` did not refuse. Proved: `one-palette` in
-- proofs/OnePalette.antt. Definitions only. Assumes nothing.
use Rattle.std.specs.Prelude.{◌≡◌, Bool, true, List, map, ℕ, ◌*◌, ◌≤◌, length, take}
use Rattle.base.specs.Checks.{first_of}
use Rattle.base.specs.Answer.{Joint}
use Rattle.base.specs.Answer.Told.{result}
use Rattle.base.specs.Lists.{All}
use Rattle.sheet.specs.Sheet.{Sheet, sheet_of}
use Rattle.sheet.specs.Checks.{mark_checks, sheet_checks}
use Rattle.sheet_diff.specs.Mask.{shown}
use Rattle.join_model.specs.Joined.{Entry, entries_of, rgb_of, has}
use Rattle.sheet_lent.specs.Lent.{Buffers, Lent}
use Rattle.join_model.specs.Join.{Left, join_of}

-- a lent sheet, once written, as a sheet of n entries
abbrev pub sheet_in : Sheet → ℕ → Buffers → Sheet
sheet_in s n x = sheet_of s.w s.h n x.palette x.lab x.indices

pub record OnePalette (a : Sheet) (locks : List Bool) (b : Sheet) (locks2 : List Bool) (left : Left) (n : ℕ)
    : Type 0 where
  -- "the first's entries in order": bytes, LAB bits and marks
  pub begins-colours : take (3 * a.k) left.first.palette ≡ take (3 * a.k) a.palette
  pub begins-labs : take (3 * a.k) left.first.lab ≡ take (3 * a.k) a.lab
  pub begins-marks : take a.k left.first.locks ≡ take a.k locks
  -- "one palette for all": both outcomes have the same entries
  pub same-colours : take (3 * n) left.first.palette ≡ take (3 * n) left.second.palette
  pub same-labs : take (3 * n) left.first.lab ≡ take (3 * n) left.second.lab
  pub same-marks : take n left.first.locks ≡ take n left.second.locks
  -- "First indices are unchanged"
  pub unchanged : left.first.indices ≡ a.indices
  -- "Every pixel shows the colour it had"
  pub first-shows : map (shown left.first.palette) left.first.indices ≡ map (shown a.palette) a.indices
  pub second-shows : map (shown left.second.palette) left.second.indices ≡ map (shown b.palette) b.indices
  -- "No palette that begins with the first's entries and holds every colour of the second has fewer entries": by
  -- colours alone
  pub least : (palette : List Entry)
      → map rgb_of (take a.k palette) ≡ map rgb_of (entries_of a.k a.palette a.lab locks)
      → All (λ e. has palette e.rgb ≡ true) (entries_of b.k b.palette b.lab locks2) → n ≤ length palette
  -- both outcomes are sheets that none of 1 to 3 refuses
  pub first-formed : first_of (sheet_checks (mark_checks left.first.locks) (sheet_in a n left.first)) ≡ 0
  pub second-formed : first_of (sheet_checks (mark_checks left.second.locks) (sheet_in b n left.second)) ≡ 0

abbrev pub JoinsSheets : Type 0
JoinsSheets =
    (a : Sheet) (locks : List Bool) (b : Sheet) (locks2 : List Bool) (x y : Lent) (j : Joint)
    → (join_of a locks b locks2 x y).answer ≡ result j
    → OnePalette a locks b locks2 (join_of a locks b locks2 x y) j.k
