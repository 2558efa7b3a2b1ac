use Rattle.std.proofs.Common.{◌≡◌, length, take}
use Rattle.panel_calls.specs.Panel.{step_of}
use Rattle.panel_open.specs.Memory.{panel_in, Fits}
use Rattle.panel_input.specs.Chunks.{Holds}
use Rattle.panel_streams.specs.Streams.{Streamed}
use Rattle.panel_console.proofs.reads.answer_reads.Given as goal

abbrev pub invariant-loop : goal.invariant-loop
invariant-loop g l = record {
  fits : Fits l.s.core (length l.palette) (length l.lab) (length l.indices) (length l.locks) (length l.journal) (length l.bytes) (length l.list);
  holds : Holds l.s (length l.line);
  room : length l.out ≡ 65536;
  asked : length l.chunk ≡ 4096;
  counted : l.reads ≡ l.counter;
  streamed : Streamed step_of (panel_in l.initial.s.core l.initial.palette l.initial.lab l.initial.indices l.initial.locks l.initial.journal) (take l.initial.s.len l.initial.line)
      (panel_in l.s.core l.palette l.lab l.indices l.locks l.journal) (take l.s.len l.line) l.heard l.said
      (g.R.Read.remaining l.initial.input) (g.R.Read.remaining l.input) (g.W.Write.contents l.initial.output) (g.W.Write.contents l.output);
}
