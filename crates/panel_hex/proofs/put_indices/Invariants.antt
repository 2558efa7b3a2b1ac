-- `put_indices`: the digits of the first i indices stand. Assumes nothing.
use mathlib.Core.List.{map}
use Rattle.panel_hex.proofs.Digits.{Hexing}
use Rattle.panel_hex.specs.Hex.{byte_of}
use Rattle.panel_hex.proofs.put_indices.Given as goal

abbrev pub invariant-loop-i : goal.invariant-loop-i
invariant-loop-i l = Hexing (map byte_of l.indices) l.initial.out l.at l.out l.i
