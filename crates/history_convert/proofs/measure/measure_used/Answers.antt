-- `measure::measure_used`: both parts, each measured. Assumes nothing.
use native.Mathlib.Omega.{arith}
use lib.ListN.{length}
use Rattle.history_ledger.proofs.Soundness.{sound-facts}
use Rattle.journal_raw.specs.Raw.{other}
use Rattle.history_convert.proofs.Both.{used-measured}
use Rattle.history_convert.proofs.measure.measure_used.Goals as goal

pub slice_bounds-measure-end : goal.slice_bounds-measure-end
slice_bounds-measure-end c =
    let s = sound-facts (length c.args.journal.now) c.args.handle c.requires.handle_value in
    omega (arith, s.ends, s.fits)

pub slice_bounds-measure-count-2 : goal.slice_bounds-measure-count-2
slice_bounds-measure-count-2 c =
    let s = sound-facts (length c.args.journal.now) c.args.handle c.requires.handle_value in
    omega (arith, s.ends)

pub slice_bounds-measure-start-2 : goal.slice_bounds-measure-start-2
slice_bounds-measure-start-2 c =
    let s = sound-facts (length c.args.journal.now) c.args.handle c.requires.handle_value in
    omega (arith, s.ends)

pub slice_bounds-measure-end-2 : goal.slice_bounds-measure-end-2
slice_bounds-measure-end-2 c =
    let s = sound-facts (length c.args.journal.now) c.args.handle c.requires.handle_value in
    omega (arith, s.fits)

pub overflow_sub-count : goal.overflow_sub-count
overflow_sub-count c =
    let s = sound-facts (length c.args.journal.now) c.args.handle c.requires.handle_value in
    omega (arith, s.stands)

pub returns : goal.returns
returns c = let a = c.args in
    used-measured a.form (other a.form) a.w a.h a.journal.now a.handle _ _ _ c.measure-past.ensures c.measure-future.ensures c.both.ensures
