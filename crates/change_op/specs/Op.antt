-- The calls of op.rs on a list of changes: `normalize`, `Op::pixels`, `is_empty`. Definitions only. Assumes nothing.
use Rattle.std.specs.Prelude.{ℕ, Bool, List, [], ◌∷◌, map, ltb, length}
use Rattle.base.specs.Limits.{max_changes}
use Rattle.base.specs.Numbers.{no_space, list_too_long}
use Rattle.base.specs.Checks.{Check, ◌when◌, checked}
use Rattle.base.specs.Answer.{Told, Filled, Op, op, op_count, made_op_told}
use Rattle.base.specs.Answer.Told.{result, alone}
use Rattle.base.specs.declared.Edit.{Edit}
use Rattle.base.specs.declared.Edit.TheVariants.{Pixels}
use Rattle.edit.specs.Change.{unpacked}
use Rattle.edit.specs.List.{list_of, empty_pixels}
use Rattle.change_list.specs.Listed.{listed}
use Rattle.change_normal.specs.Normal.{normalize_of}
use Rattle.base.specs.declared.MadeOp.{MadeOp}

-- 21, then 16: the scratch holds one number a change
unfoldable pub normalize_checks : ℕ → ℕ → List Check
normalize_checks n room = list_too_long when ltb max_changes n ∷ no_space when ltb room n ∷ []

-- a list's normal form, over the front of a buffer; room is the scratch's length
unfoldable pub normalize_call : ℕ → List ℕ → List ℕ → Filled ℕ
normalize_call room list out = listed (normalize_checks (length list) room) (normalize_of (map unpacked list)) out

-- ---- `Op::pixels`: the edit beside its list
pub record MadeList : Type 0 where
  pub answer : Told Op
  pub out : List ℕ

abbrev pub making : Told Op → List ℕ → MadeList
making told out = record { answer = told; out = out }

abbrev pub made : MadeOp → List ℕ → MadeList
made answer out = making (made_op_told answer) out

-- how many changes its list has, none where it is a refusal
abbrev pub made_count : MadeOp → ℕ
made_count answer = op_count (made_op_told answer)

-- an edit of pixels, whose list was counted
unfoldable pub pixels_of : ℕ → Told ℕ → Told Op
pixels_of tool (result n) = result (op (Pixels tool) n)
pixels_of tool (alone n) = alone n

unfoldable pub pixels_call : ℕ → ℕ → List ℕ → List ℕ → MadeList
pixels_call tool room list out = let r = normalize_call room list out in making (pixels_of tool r.answer) r.buffer

-- ---- 21, then `is_empty`: "A `Pixels` op without changes"
unfoldable pub is_empty_of : Edit → List ℕ → Told Bool
is_empty_of edit list = checked (list_too_long when ltb max_changes (length list) ∷ []) alone (result (empty_pixels (list_of edit) (length list)))
