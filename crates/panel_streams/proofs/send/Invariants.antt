use Rattle.std.proofs.Common.{◌≡◌, ◌≤◌, length, take}
use Rattle.std.specs.Io.KnownBytes.{Appends}
use Rattle.panel_streams.proofs.send.Given as goal

abbrev pub invariant-loop : goal.invariant-loop
invariant-loop g l = record {
  fits : l.n ≤ length l.text;
  counted : l.calls ≡ l.counter;
  written : Appends (g.W.Write.contents l.initial.to) (g.W.Write.contents l.to) (take l.n l.text);
}
