-- The places that `extend` has for its numbers. Definitions only. Assumes nothing.
use Rattle.std.specs.Prelude.{ℕ, cond, ◌||◌, List, map, ltb, length, take}
use Rattle.base.specs.Answer.{Filled}
use Rattle.edit.specs.Change.{unpacked}
use Rattle.change_list.specs.Listed.{listed}
use Rattle.change_stroke.specs.Stroke.{extended, extend_checks}

-- the scratch's, or none where flat has fewer than the stroke has changes, or more has fewer than the list has
unfoldable pub room_for : ℕ → ℕ → ℕ → ℕ → ℕ → ℕ
room_for flat more room count n = cond (ltb flat count || ltb more n) 0 room

-- `extend_call` of a stroke and a list, over any buffer as long as the stroke
unfoldable pub extend_over : ℕ → ℕ → List ℕ → List ℕ → List ℕ → Filled ℕ
extend_over room count list stroke out =
    listed (extend_checks count (length stroke) (length list) room)
    (extended (map unpacked (take count stroke)) (map unpacked list)) out
