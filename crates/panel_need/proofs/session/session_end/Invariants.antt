use Rattle.std.proofs.Common.{◌≤◌, ◌-◌, length}
use Rattle.panel_need.proofs.session.session_end.Given as goal

abbrev pub invariant-loop-i : goal.invariant-loop-i
invariant-loop-i l = record { onward : l.at ≤ l.i; inside : l.i ≤ length l.text }

abbrev pub decreases-loop-i : goal.decreases-loop-i
decreases-loop-i l = length l.text - l.i
