-- What the two ends of a session promise. Definitions only. Assumes nothing.
use Rattle.std.specs.Prelude.{ℕ, ◌*◌, ◌≤◌, ◌≡◌, Bool, List, ℤ, Float, take}
use Rattle.std.proofs.Math.Option.{none}
use Rattle.panel_open.specs.Memory.{panel_in}
use Rattle.panel_input.specs.declared.Turn.{Turn}

-- nothing is open, whatever stands in the buffers, and nothing is held
pub record Begins (t : Turn) : Type 0 where
  pub unopened : (palette : List ℕ) (lab : List Float) (indices : List ℤ) (locks : List Bool) (journal : List ℕ)
      → panel_in t.core palette lab indices locks journal ≡ none
  pub nothing-held : t.len ≡ 0
  pub small : t.core.w * t.core.h ≤ 4096

-- a text of n bytes stands at the front of a list
pub record Ends (n : ℕ) (out text : List ℕ) : Type 0 where
  pub text-is : take n out ≡ text
  pub fits : n ≤ 8203
