use Rattle.std.proofs.Common.{◌≡◌, ◌≤◌, [], length, take}
use Rattle.panel_streams.specs.Streams.{Streamed}
use Rattle.panel_library.specs.Texts.{step_of}
use Rattle.panel_library.proofs.reads.answer_reads.Given as goal

abbrev pub invariant-loop : goal.invariant-loop
invariant-loop g l = record {
  held : l.len ≤ 16385;
  room : length l.line ≡ 16385;
  space : length l.text ≡ 9735;
  asked : length l.chunk ≡ 4096;
  counted : l.reads ≡ l.counter;
  streamed : Streamed step_of tt [] tt (take l.len l.line) l.heard l.said
      (g.R.Read.remaining l.initial.input) (g.R.Read.remaining l.input) (g.W.Write.contents l.initial.output) (g.W.Write.contents l.output);
}
