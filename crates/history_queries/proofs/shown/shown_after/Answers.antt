-- `shown_after`: what is left to step says what the whole says. Assumes nothing.
use mathlib.Core.Path.{◌≡◌, sym, ap, ◌∙◌}
use Prim.Native.Nat.{◌+◌, ◌-◌}
use native.Mathlib.Omega.{arith}
use Rattle.base.specs.Answer.{next_told}
use Rattle.history_queries.specs.Looks.{shown_after}
use Rattle.history_queries.proofs.NextShown.{after_none, after-record, after_nothing, after-refused}
use Rattle.history_queries.proofs.NextTold.{redo-told}
use Rattle.history_queries.proofs.shown.shown_after.Goals as goal
use Rattle.history_queries.proofs.shown.shown_after.Goals.{In-loop}

-- a step is left
more : (c : In-loop) → c.args.n - c.loop.counter ≡ 0 → ⊥
more c e = omega (arith, e)

pub stepped_forth-cursor-requires : goal.stepped_forth-cursor-requires
stepped_forth-cursor-requires c = let t = redo-told _ _ _ (sym c.next_redo.ensures ∙ ap next_told c.in-Record.is) in record { n_bound = t.ends; position_lt_count = t.left }

pub returns-in-Nothing : goal.returns-in-Nothing
returns-in-Nothing c = after_nothing _ _ _ _ (more (goal.at.returns-in-Nothing c).In-loop) _ c.next_redo.ensures c.in-Nothing.is ∙ c.loop.invariant

pub returns-in-Refused : goal.returns-in-Refused
returns-in-Refused c = after-refused _ _ _ _ (more (goal.at.returns-in-Refused c).In-loop) _ c.next_redo.ensures c.in-Refused.is ∙ c.loop.invariant

pub loop-preserved : goal.loop-preserved
loop-preserved c =
    let less : c.args.n - (c.loop.counter + 1) ≡ c.args.n - c.loop.counter - 1 = omega arith in
    rw less
    (ap (shown_after _ _ _) c.stepped_forth-cursor.ensures
    ∙ after-record _ _ _ _ (more (goal.at.loop-preserved c).In-loop) _ c.next_redo.ensures c.in-Record.is
    ∙ c.loop.invariant)

pub returns : goal.returns
returns c = after_none _ _ _ _ _ c.next_redo-2.ensures (omega arith) ∙ c.loop.invariant
