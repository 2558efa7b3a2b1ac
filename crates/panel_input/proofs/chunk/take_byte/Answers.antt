-- `take_byte`: the line's end, a byte kept, or one too many. Assumes nothing.
use Rattle.panel_lines.proofs.Feeding.{byte-kept, byte-skipped}
use Rattle.panel_calls.specs.Panel.{step_of}
use Rattle.panel_input.proofs.Turns.{byte-ends}
use Rattle.panel_session.proofs.Steps.{refits}
use Rattle.panel_open.specs.Memory.{panel_in}
use lib.ListN.{length-set, take}
use native.Mathlib.Omega.{arith}
use mathlib.Core.Path.{◌∙◌}
use Rattle.panel_input.proofs.chunk.take_byte.Goals as goal

pub returns-then-b-eq10 : goal.returns-then-b-eq10
returns-then-b-eq10 c =
    let a = c.args in
    let s = c.step-s in
    let hold = c.requires.holds in
    record {
      out_after = byte-ends s.result (panel_in a.t.core a.palette.now a.lab.now a.indices.now a.locks.now a.journal.now) _ (take a.t.len a.line.now) a.out.now _ a.t.at a.b a.line.now s.ensures c.requires.at_in_bounds c.if-b-eq10.true;
      fits_2 = refits c.requires.fits s.ensures.small s.auto.palette s.auto.lab s.auto.indices s.auto.locks s.auto.journal s.auto.bytes s.auto.list;
      holds_2 = (record { line-length = hold.line-length; within = omega arith }, omega (arith, s.ensures.end_is, s.ensures.short));
    }

pub returns-then-len-lt-HELD : goal.returns-then-len-lt-HELD
returns-then-len-lt-HELD c =
    let a = c.args in
    let hold = c.requires.holds in
    record {
      out_after = byte-kept step_of (panel_in a.t.core a.palette.now a.lab.now a.indices.now a.locks.now a.journal.now) a.line.now a.out.now a.t.len a.t.at a.b hold.line-length c.if-b-eq10.false c.if-len-lt-HELD.true;
      fits_2 = c.requires.fits;
      holds_2 = (record { line-length = length-set a.line.now a.t.len a.b ∙ hold.line-length; within = omega arith }, omega arith);
    }

pub returns : goal.returns
returns c =
    let a = c.args in
    let hold = c.requires.holds in
    record {
      out_after = byte-skipped step_of (panel_in a.t.core a.palette.now a.lab.now a.indices.now a.locks.now a.journal.now) a.line.now a.out.now a.t.len a.t.at a.b hold.line-length c.if-b-eq10.false hold.within c.if-len-lt-HELD.false;
      fits_2 = c.requires.fits;
      holds_2 = (record { line-length = hold.line-length; within = hold.within }, omega arith);
    }
