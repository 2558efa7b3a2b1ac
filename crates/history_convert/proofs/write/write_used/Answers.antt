-- `write::write_used`: the first part at the front, and the second behind it. Assumes nothing.
use native.Mathlib.Omega.{arith}
use lib.ListN.{length}
use Rattle.history_ledger.proofs.Soundness.{sound-facts}
use Rattle.history_convert.proofs.Calling.{all-written}
use Rattle.history_convert.proofs.write.write_used.Goals as goal

pub slice_bounds-write-end : goal.slice_bounds-write-end
slice_bounds-write-end c =
    let s = sound-facts (length c.args.journal.now) c.args.handle c.requires.handle_value in
    omega (arith, s.ends, s.fits)

pub slice_bounds-write-count-2 : goal.slice_bounds-write-count-2
slice_bounds-write-count-2 c =
    let s = sound-facts (length c.args.journal.now) c.args.handle c.requires.handle_value in
    omega (arith, s.ends)

pub slice_bounds-write-start-2 : goal.slice_bounds-write-start-2
slice_bounds-write-start-2 c =
    let s = sound-facts (length c.args.journal.now) c.args.handle c.requires.handle_value in
    omega (arith, s.ends)

pub slice_bounds-write-end-2 : goal.slice_bounds-write-end-2
slice_bounds-write-end-2 c =
    let s = sound-facts (length c.args.journal.now) c.args.handle c.requires.handle_value in
    omega (arith, s.fits)

pub overflow_sub-count : goal.overflow_sub-count
overflow_sub-count c =
    let s = sound-facts (length c.args.journal.now) c.args.handle c.requires.handle_value in
    omega (arith, s.stands)

pub returns : goal.returns
returns c =
    let a = c.args in
    all-written a.form a.w a.journal.now a.handle a.past a.out.now _ _ c.requires.rewritable c.write.ensures c.write-2.ensures
