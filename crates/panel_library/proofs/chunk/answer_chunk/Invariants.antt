use Rattle.std.proofs.Common.{◌≡◌, ◌≤◌, length, take}
use Rattle.panel_streams.proofs.Writing.{Writing}
use Rattle.panel_library.specs.Texts.{step_of}
use Rattle.panel_library.proofs.chunk.answer_chunk.Given as goal

abbrev pub invariant-loop-byte : goal.invariant-loop-byte
invariant-loop-byte g l = record {
  few : l.held ≤ 16385;
  room : length l.line ≡ 16385;
  space : length l.text ≡ 9735;
  written : Writing step_of tt (take l.initial.held l.initial.line) l.chunk tt (take l.held l.line) l.said l.byte-index (g.W.Write.contents l.initial.to) (g.W.Write.contents l.to);
}
