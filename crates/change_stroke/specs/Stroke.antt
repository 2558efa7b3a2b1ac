-- `Stroke` of tools.rs over a lent buffer. Definitions only. Assumes nothing.
use Rattle.std.specs.Prelude.{ℕ, ◌+◌, List, [], ◌∷◌, ◌++◌, map, ltb, length, take}
use Rattle.base.specs.Limits.{max_changes}
use Rattle.base.specs.Numbers.{no_space, list_too_long}
use Rattle.base.specs.Checks.{Check, ◌when◌, checked}
use Rattle.base.specs.Answer.{Told, Filled}
use Rattle.base.specs.Answer.Told.{result, alone}
use Rattle.edit.specs.Change.{Change, unpacked}
use Rattle.change_list.specs.Listed.{listed}
use Rattle.change_normal.specs.Normal.{normalize_of}
use Rattle.change_op.specs.Op.{MadeList, making, pixels_call}

-- `self.changes.extend(changes); self.changes = normalize(..)`
unfoldable pub extended : List Change → List Change → List Change
extended stroke cs = normalize_of (stroke ++ cs)

-- 21 for either list, then 16: for a count of changes that the buffer does not have, and for scratch with fewer places than both lists have changes
unfoldable pub extend_checks : ℕ → ℕ → ℕ → ℕ → List Check
extend_checks count places n room =
    list_too_long when ltb max_changes count
    ∷ list_too_long when ltb max_changes n
    ∷ no_space when ltb places count
    ∷ no_space when ltb room (count + n)
    ∷ []

-- the first `count` of the buffer, and then the list, normalised over the buffer's front; room is the scratch's length
unfoldable pub extend_call : ℕ → ℕ → List ℕ → List ℕ → Filled ℕ
extend_call room count list stroke =
    listed (extend_checks count (length stroke) (length list) room) (extended (map unpacked (take count stroke)) (map unpacked list)) stroke

-- ---- a stroke of which the buffer is read: 21 for its count, then 16 for a count of changes that the buffer does not have
unfoldable pub stroke_checks : ℕ → ℕ → List Check
stroke_checks count places = list_too_long when ltb max_changes count ∷ no_space when ltb places count ∷ []

-- `&self.changes`: the first `count` of a buffer of `places`
unfoldable pub changes_of : ℕ → ℕ → Told ℕ
changes_of count places = checked (stroke_checks count places) alone (result count)

-- `Op::pixels(&self.tool, self.changes)`, its list over the buffer's front; room is the scratch's length
unfoldable pub into_op_call : ℕ → ℕ → ℕ → List ℕ → MadeList
into_op_call tool room count stroke =
    checked (stroke_checks count (length stroke)) (λ n. making (alone n) stroke) (pixels_call tool room (take count stroke) stroke)
