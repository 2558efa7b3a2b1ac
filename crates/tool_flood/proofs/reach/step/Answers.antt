-- `step`: off the picture, marked, not passed, or pushed. Assumes nothing.
use Prim.Native.Nat.{◌<◌}
use mathlib.Core.Path.{refl, sym, ◌∙◌}
use native.Mathlib.Omega.{arith}
use lib.ListN.{length}
use borrow.Author.Tests.{not-true, not-false}
use Rattle.base.proofs.Back.{never}
use Rattle.tool_fill_model.specs.Cells.{stay, push}
use Rattle.tool_fill_model.proofs.Queue.{odds-lt, is-pushed}
use Rattle.tool_fill_model.proofs.Passable.{off-picture}
use Rattle.tool_fill_model.proofs.Filling.{few-cells}
use borrow.Author.Rules.{rules}
use Rattle.tool_flood.proofs.reach.step.Goals as goal
use Rattle.tool_flood.proofs.reach.step.Goals.{Else-s-q-eq1}

room : (c : Else-s-q-eq1) → c.args.tail < length c.args.s.now
room c = let h = odds-lt c.args.s.now c.args.q (omega arith) c.if-s-q-eq1.false in omega (arith, c.requires.1)

pub returns-then-s-q : goal.returns-then-s-q
returns-then-s-q c = stay refl refl (λ e. never (sym (off-picture _ _ _ _ _ (let g = c.requires.0.cells in omega arith)) ∙ e))

pub returns-then-s-q-eq1 : goal.returns-then-s-q-eq1
returns-then-s-q-eq1 c = stay refl refl (λ e. c.if-s-q-eq1.true)

pub returns-then-not-passes : goal.returns-then-not-passes
returns-then-not-passes c = stay refl refl (λ e. never (sym (sym c.passes.ensures ∙ c.if-not-passes.true) ∙ e))

pub push-requires : goal.push-requires
push-requires c = (omega arith, room (goal.at.push-requires c).Else-s-q-eq1, few-cells c.requires.0, c.if-s-q-eq1.false)

pub overflow_add-result : goal.overflow_add-result
overflow_add-result c = record { fits = omega (arith, room (goal.at.overflow_add-result c).Else-s-q-eq1, few-cells c.requires.0) }

pub returns : goal.returns
returns c = push refl (sym c.passes.ensures ∙ c.if-not-passes.false) (rw c.push.ensures (is-pushed _ _ _ (omega arith) (room (goal.at.returns c).Else-s-q-eq1) c.if-s-q-eq1.false))
