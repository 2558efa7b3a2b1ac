-- `layers_no`: the first i are well-formed. Assumes nothing.
use Prim.Native.Nat.{◌+◌, ◌*◌, ◌≤◌}
use native.Mathlib.Omega.{arith}
use lib.ListN.{get_or, drop}
use Rattle.sheet.specs.Checks.{Judged}
use Rattle.layer_checks.specs.Judged.{bottom}
use Rattle.layer_checks.proofs.Judging.{Rest, rest-none, rest-refused, rest-lent, rest-cells, rest-next}
use Rattle.layer_checks.proofs.layers_no.Goals as goal
use Rattle.layer_checks.proofs.layers_no.Goals.{After-first_no-no, Else-no-ne0}

-- the first of those that are left is judged
judged : (c : After-first_no-no) → let a = c.args in let l = c.loop-i in
    Judged (bottom (drop (3 * l.i) a.sizes.now) (drop (765 * l.i) a.palettes.now) (drop (765 * l.i) a.labs.now) (drop l.at a.indices.now)) c.first_no-no.result
judged c = rest-lent _ _ _ _ c.loop-i.invariant (omega arith) _ c.first_no-no.ensures

-- it is well-formed: what it takes is there
next : (c : Else-no-ne0) → let a = c.args in let l = c.loop-i in
    Rest a.sizes.now a.palettes.now a.labs.now a.indices.now (3 * (l.i + 1)) (765 * (l.i + 1))
    (l.at + get_or a.sizes.now (3 * l.i) 0 * get_or a.sizes.now (3 * l.i + 1) 0)
next c =
    rest-next _ _ _ _ c.loop-i.invariant (omega arith) ((judged (goal.at.Else-no-ne0 c).After-first_no-no).fine c.if-no-ne0.false)
    _ _ (omega arith) (omega arith)

cells : (c : Else-no-ne0) → let a = c.args in let l = c.loop-i in get_or a.sizes.now (3 * l.i) 0 * get_or a.sizes.now (3 * l.i + 1) 0 ≤ 1048576
cells c = rest-cells _ _ _ _ c.loop-i.invariant (omega arith) ((judged (goal.at.Else-no-ne0 c).After-first_no-no).fine c.if-no-ne0.false)

pub returns-then-no-ne0 : goal.returns-then-no-ne0
returns-then-no-ne0 c =
    rest-refused _ _ _ _ c.loop-i.invariant (omega arith) _ (judged (goal.at.returns-then-no-ne0 c).After-first_no-no) c.if-no-ne0.true

pub overflow_mul-at : goal.overflow_mul-at
overflow_mul-at c = omega (arith, cells (goal.at.overflow_mul-at c).Else-no-ne0)

pub overflow_add-at-in-loop-i : goal.overflow_add-at-in-loop-i
overflow_add-at-in-loop-i c = omega (arith, cells (goal.at.overflow_add-at-in-loop-i c).Else-no-ne0)

pub loop-i-preserved : goal.loop-i-preserved
loop-i-preserved c = next (goal.at.loop-i-preserved c).Else-no-ne0

pub returns : goal.returns
returns c = rest-none _ _ _ _ c.loop-i.invariant (omega arith)
