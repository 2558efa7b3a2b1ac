-- `reach`: places before the queue's head have their neighbours marked, and what is marked is reached. Assumes nothing.
use Prim.Native.Nat.{◌-◌}
use mathlib.Core.Path.{sym, ap, ◌∙◌}
use native.Mathlib.Omega.{arith}
use lib.ListN.{length, replicate}
use Rattle.tool_fill_model.proofs.Flooding.{tail-in, zeros-even}
use Rattle.tool_fill_model.proofs.Filling.{Flow, Side, fill-begin, fill_step, fill-next, fill_end, few}
use borrow.Author.Rules.{rules}
use Rattle.tool_flood.proofs.reach.reach.Goals as goal

pub push-requires : goal.push-requires
push-requires c =
    let g = c.requires in
    let e = g.cells in
    let b = g.begins in
    let k = c.fill.ensures.len in
    (omega arith, omega arith, omega (arith, few g), rw (c.fill.ensures.after (λ y e. e)) (zeros-even (length c.args.s.now) c.args.start))

pub loop-head-init : goal.loop-head-init
loop-head-init c = fill-begin _ _ _ _ c.requires.wide c.requires.begins _ _ (c.fill.ensures.after (λ y e. e) ∙ ap (λ n. replicate n 0) c.requires.cells) c.push.ensures

pub offset_bounds-s-head : goal.offset_bounds-s-head
offset_bounds-s-head c = record { fits = (let t = tail-in _ _ _ _ _ _ _ _ c.loop-head.invariant in omega (arith, few c.requires)) }

pub bounds-s-head : goal.bounds-s-head
bounds-s-head c = let t = tail-in _ _ _ _ _ _ _ _ c.loop-head.invariant in let l = c.loop-head.invariant.long in omega arith

pub loop-d-init : goal.loop-d-init
loop-d-init c = record { state = c.loop-head.invariant; place = sym c.place_in-p.ensures; ahead = c.loop-head-test.true; side = omega arith }

pub neighbour-q-requires : goal.neighbour-q-requires
neighbour-q-requires c = (c.requires.wide, c.requires.narrow, rw (← c.loop-d.invariant.place) (c.loop-d.invariant.state.within _ c.loop-d.invariant.ahead), few c.requires)

pub step-tail-requires : goal.step-tail-requires
step-tail-requires c =
    let g = c.requires in
    let s = c.loop-d.invariant.state in
    (record { wide = g.wide; narrow = g.narrow; rows = g.rows; begins = g.begins; cells = s.long }, s.total)

pub loop-d-preserved : goal.loop-d-preserved
loop-d-preserved c = fill_step _ _ _ _ c.requires.wide c.requires.begins c.loop-d.invariant c.loop-d-test.true c.neighbour-q.ensures c.step-tail.auto.s c.step-tail.ensures

pub overflow_add-head : goal.overflow_add-head
overflow_add-head c = record { fits = (let g = c.loop-d.invariant.ahead in let t = tail-in _ _ _ _ _ _ _ _ c.loop-d.invariant.state in omega (arith, few c.requires)) }

pub loop-head-smaller : goal.loop-head-smaller
loop-head-smaller c = let g = c.loop-d.invariant.ahead in let t = tail-in _ _ _ _ _ _ _ _ c.loop-d.invariant.state in omega arith

pub loop-head-preserved : goal.loop-head-preserved
loop-head-preserved c = fill-next _ _ _ _ c.requires.wide c.requires.begins c.loop-d.invariant c.loop-d-test.false

pub shape_of-s : goal.shape_of-s
shape_of-s c = c.loop-head.invariant.long ∙ sym c.requires.cells

pub returns : goal.returns
returns c = fill_end _ _ _ _ c.requires.wide c.requires.begins c.loop-head.invariant c.loop-head-test.false
