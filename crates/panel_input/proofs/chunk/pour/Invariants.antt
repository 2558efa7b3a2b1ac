-- `pour`: the first i bytes that are left of the chunk are taken. Assumes nothing.
use Rattle.panel_input.proofs.Pours.{Pouring}
use Rattle.panel_open.specs.Memory.{panel_in, Fits}
use Rattle.panel_input.specs.Chunks.{Holds}
use lib.ListN.{length, take, drop}
use Rattle.panel_input.proofs.chunk.pour.Given as goal

abbrev pub invariant-loop-i : goal.invariant-loop-i
invariant-loop-i l =
    let before = l.initial in
    record {
      fits : Fits l.t.core (length l.palette) (length l.lab) (length l.indices) (length l.locks) (length l.journal) (length l.bytes) (length l.list);
      holds : Holds l.t (length l.line);
      poured : Pouring (panel_in before.t.core before.palette before.lab before.indices before.locks before.journal) (take before.t.len before.line) (drop l.from l.chunk)
          (panel_in l.t.core l.palette l.lab l.indices l.locks l.journal) (take l.t.len l.line) l.out l.t.at l.i;
    }
