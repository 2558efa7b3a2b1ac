-- What a read or a write means, and what a text that is written promises. Definitions only. Assumes nothing.
use Rattle.std.specs.Prelude.{ℕ, ◌≤◌, ◌<◌, ◌≡◌, true, Result, Ok, Err}
use Rattle.panel_streams.specs.declared.Sent.{Sent}

-- how many bytes a read or a write moved, none where it failed
abbrev pub moved : {E : Type 0} → Result ℕ E → ℕ
moved (Ok n) = n
moved (Err e) = 0

-- of a text at most its bytes were taken, and fewer only after a write that is not to be repeated, or after as many writes as can be counted
pub record Sends (r : Sent) (length : ℕ) : Type 0 where
  pub fits : r.n ≤ length
  pub bound : r.more ≡ true → r.n < length → r.calls ≡ 18446744073709551615
