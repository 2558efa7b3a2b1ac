use Rattle.std.proofs.Common.{◌≡◌, ◌-◌, length, take}
use Rattle.panel_calls.specs.Panel.{step_of}
use Rattle.panel_open.specs.Memory.{panel_in, Fits}
use Rattle.panel_input.specs.Chunks.{Holds}
use Rattle.panel_streams.proofs.Writing.{Writing}
use Rattle.panel_chunk.proofs.answer_chunk.Given as goal

abbrev pub invariant-loop-from : goal.invariant-loop-from
invariant-loop-from g l = record {
  fits : Fits l.s.core (length l.palette) (length l.lab) (length l.indices) (length l.locks) (length l.journal) (length l.bytes) (length l.list);
  holds : Holds l.s (length l.line);
  room : length l.out ≡ 65536;
  written : Writing step_of (panel_in l.initial.s.core l.initial.palette l.initial.lab l.initial.indices l.initial.locks l.initial.journal) (take l.initial.s.len l.initial.line) l.chunk
      (panel_in l.s.core l.palette l.lab l.indices l.locks l.journal) (take l.s.len l.line) l.said l.from
      (g.W.Write.contents l.initial.to) (g.W.Write.contents l.to);
}

abbrev pub decreases-loop-from : goal.decreases-loop-from
decreases-loop-from g l = length l.chunk - l.from
