-- `write::write`: each turn writes one record more. Assumes nothing.
use native.Mathlib.Omega.{arith}
use Rattle.history_convert.proofs.Writing.{writing-none, writing-room, writing-next, writing-most, writing-all}
use Rattle.history_convert.proofs.write.write.Goals as goal

pub loop-init : goal.loop-init
loop-init c = λ r. writing-none _ _ _ _ _ _ r.raws r.reads r.wide

pub write_record-one-requires : goal.write_record-one-requires
write_record-one-requires c =
    let a = c.args in
    let r = c.requires.ready in
    let t = c.loop.invariant r in
    record { w_bound = (c.requires.w_bound.0, t.inside, c.requires.w_bound.1); by_index = writing-room a.form a.w a.n a.bytes.now a.to a.out.now r.raws _ _ _ _ r.roomy t c.loop-test.true }

pub overflow_add-at : goal.overflow_add-at
overflow_add-at c =
    let a = c.args in
    let m = writing-next a.form a.w a.n a.bytes.now a.to a.out.now c.requires.ready.raws _ _ _ _ c.requires.ready.roomy (c.loop.invariant c.requires.ready) c.loop-test.true _ _ _ c.write_record-one.ensures in
    omega (arith, m.inside)

pub overflow_add-put : goal.overflow_add-put
overflow_add-put c =
    let a = c.args in
    let m = writing-next a.form a.w a.n a.bytes.now a.to a.out.now c.requires.ready.raws _ _ _ _ c.requires.ready.roomy (c.loop.invariant c.requires.ready) c.loop-test.true _ _ _ c.write_record-one.ensures in
    omega (arith, writing-most a.form a.w a.n a.bytes.now a.to a.out.now c.requires.ready.raws _ _ _ _ c.requires.ready.roomy m)

pub loop-preserved : goal.loop-preserved
loop-preserved c =
    let a = c.args in
    λ r. writing-next a.form a.w a.n a.bytes.now a.to a.out.now r.raws _ _ _ _ r.roomy (c.loop.invariant r) c.loop-test.true _ _ _ c.write_record-one.ensures

pub returns : goal.returns
returns c =
    let a = c.args in
    let r = c.requires.ready in
    writing-all a.form a.w a.n a.bytes.now a.to a.out.now r.raws _ _ _ _ (c.loop.invariant r) c.loop-test.false r.reads
