-- What the calls on a stroke answer that read its buffer, by what their tests find. Assumes nothing.
use Prim.Native.Nat.{ℕ, ◌≤◌}
use mathlib.Core.Path.{◌≡◌, ◌∙◌}
use mathlib.Core.List.{List}
use native.Mathlib.Omega.{arith}
use borrow.Author.Tests.{ltb-false}
use lib.Dec.{ltb}
use lib.ListN.{length, take}
use Rattle.base.specs.Limits.{max_changes}
use Rattle.base.specs.Numbers.{no_space, list_too_long}
use Rattle.base.specs.Checks.{◌when◌, first_of}
use Rattle.base.specs.Answer.Told.{result, alone}
use Rattle.base.proofs.First.{refused-first, result-first, past}
use Rattle.base.specs.declared.MadeOp.TheVariants as made_of
use Rattle.change_op.specs.Op.{MadeList, made, pixels_call}
use Rattle.change_stroke.specs.Stroke.{stroke_checks, changes_of, into_op_call}

module _ (count places : ℕ) where
  -- where none applies, the buffer has the changes
  pub stroke-held : first_of (stroke_checks count places) ≡ 0 → count ≤ places
  unfolding stroke_checks
  stroke-held e =
      let a = past (list_too_long when ltb max_changes count) _ (omega arith) e in
      ltb-false places count (past (no_space when ltb places count) _ (omega arith) a.rest).off

  -- ---- `changes`
  pub changes-refused : (n : ℕ) → n ≡ first_of (stroke_checks count places) → (n ≡ 0 → ⊥) → alone n ≡ changes_of count places
  unfolding changes_of
  changes-refused n e h = refused-first (stroke_checks count places) alone (result count) n e h

  pub changes-told : first_of (stroke_checks count places) ≡ 0 → result count ≡ changes_of count places
  unfolding changes_of
  changes-told e = result-first (stroke_checks count places) alone (result count) e

-- ---- `into_op`
module _ (tool room count : ℕ) (stroke : List ℕ) where
  pub into-refused : (n : ℕ) → n ≡ first_of (stroke_checks count (length stroke)) → (n ≡ 0 → ⊥) → made (made_of.Refused n) stroke ≡ into_op_call tool room count stroke
  unfolding into_op_call
  into-refused n e h = refused-first (stroke_checks count (length stroke)) (λ m. made (made_of.Refused m) stroke) (pixels_call tool room (take count stroke) stroke) n e h

  pub into-made : {m : MadeList} → first_of (stroke_checks count (length stroke)) ≡ 0 → m ≡ pixels_call tool room (take count stroke) stroke → m ≡ into_op_call tool room count stroke
  unfolding into_op_call
  into-made e d = d ∙ result-first (stroke_checks count (length stroke)) (λ m. made (made_of.Refused m) stroke) (pixels_call tool room (take count stroke) stroke) e
