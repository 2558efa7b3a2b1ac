-- `put_bytes`: the digits of the first i bytes stand. Assumes nothing.
use Rattle.panel_hex.proofs.Digits.{Hexing}
use Rattle.panel_hex.proofs.put_bytes.Given as goal

abbrev pub invariant-loop-i : goal.invariant-loop-i
invariant-loop-i l = Hexing l.bytes l.initial.out l.at l.out l.i
