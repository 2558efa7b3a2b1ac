-- `measure::measure`: what is left says what the whole says, added to what was measured. Assumes nothing.
use mathlib.Core.Path.{◌∙◌}
use native.Mathlib.Omega.{arith}
use Rattle.journal_raw.specs.Raw.{other}
use Rattle.history_convert.proofs.Measuring.{measuring-none, measuring-bad, measuring-next, measuring-all, measuring-short}
use Rattle.history_convert.proofs.measure.measure.Goals as goal

pub loop-init : goal.loop-init
loop-init c = measuring-none _ _ _ _ _ _

pub overflow_add-at : goal.overflow_add-at
overflow_add-at c =
    let a = c.args in
    let m = measuring-next a.form (other a.form) a.w a.h a.bytes.now a.n _ _ _ c.loop.invariant c.loop-test.true _ _ c.measure_record.ensures c.in_ok-one.was in
    omega (arith, m.inside)

pub overflow_add-size : goal.overflow_add-size
overflow_add-size c =
    let a = c.args in
    let m = measuring-next a.form (other a.form) a.w a.h a.bytes.now a.n _ _ _ c.loop.invariant c.loop-test.true _ _ c.measure_record.ensures c.in_ok-one.was in
    omega (arith, m.most, m.inside, c.requires.2)

pub returns-in_err-one : goal.returns-in_err-one
returns-in_err-one c =
    let a = c.args in
    c.from_residual.ensures ∙ measuring-bad a.form (other a.form) a.w a.h a.bytes.now a.n _ _ _ c.loop.invariant c.loop-test.true _ c.measure_record.ensures c.in_err-one.was

pub loop-preserved : goal.loop-preserved
loop-preserved c =
    let a = c.args in
    let m = measuring-next a.form (other a.form) a.w a.h a.bytes.now a.n _ _ _ c.loop.invariant c.loop-test.true _ _ c.measure_record.ensures c.in_ok-one.was in
    m

pub returns-then-at-bytes : goal.returns-then-at-bytes
returns-then-at-bytes c =
    let a = c.args in
    measuring-short a.form (other a.form) a.w a.h a.bytes.now a.n _ _ _ c.loop.invariant c.loop-test.false c.if-at-bytes.true

pub returns : goal.returns
returns c =
    let a = c.args in
    measuring-all a.form (other a.form) a.w a.h a.bytes.now a.n _ _ _ c.loop.invariant c.loop-test.false c.if-at-bytes.false
