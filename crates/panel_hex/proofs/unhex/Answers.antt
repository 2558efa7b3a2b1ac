-- `unhex`: the pairs so far are read. Assumes nothing.
use Rattle.panel_hex.proofs.Hexes.{unhex-odd, spelling-start, spelling-step, spelling-bad, spelling-end}
use Rattle.panel_hex.specs.Spelt.{spelt}
use native.Mathlib.Omega.{arith}
use mathlib.Core.Path.{◌∙◌}
use Rattle.panel_hex.proofs.unhex.Goals as goal

pub returns-then-line-ne0-clause-out_after : goal.returns-then-line-ne0-clause-out_after
unfolding spelt
returns-then-line-ne0-clause-out_after c = unhex-odd c.args.line.now c.if-line-ne0.true

pub loop-n-init : goal.loop-n-init
loop-n-init c = (cc, spelling-start _ _ _ _ (cc) (cc))

pub returns-in_err-out-clause-out_after : goal.returns-in_err-out-clause-out_after
unfolding spelt
returns-in_err-out-clause-out_after c =
    let s = c.in-Some.ensures.steps in
    rw c.from_residual.ensures (spelling-bad _ _ _ _ _ c.loop-n.invariant.1 _ _ s.0.1.0 (s.0.1.1 ∙ c.loop-n.invariant.0) c.in_err-out.ensures)

pub loop-n-preserved : goal.loop-n-preserved
loop-n-preserved c =
    let s = c.in-Some.ensures.steps in
    (s.0.0 ∙ c.loop-n.invariant.0, spelling-step _ _ _ _ _ c.loop-n.invariant.1 _ _ _ _ _ s.0.1.0 (s.0.1.1 ∙ c.loop-n.invariant.0) s.1 s.2 c.requires c.in_ok-out.ensures)

pub returns-clause-out_after : goal.returns-clause-out_after
unfolding spelt
returns-clause-out_after c = spelling-end _ _ _ _ _ c.loop-n.invariant.1 c.if-line-ne0.false (omega (arith, c.in-None.ensures.steps.0.1.0, c.loop-n.invariant.0))
