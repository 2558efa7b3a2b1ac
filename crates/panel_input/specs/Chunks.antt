-- What the functions on a chunk of input promise each other. Definitions only. Assumes nothing.
use Rattle.std.specs.Prelude.{ℕ, ◌≤◌, ◌<◌, ◌≡◌}
use Rattle.panel_input.specs.declared.Turn.{Turn}

-- the line that is held
pub record Holds (t : Turn) (line : ℕ) : Type 0 where
  pub line-length : line ≡ 16385
  pub within : t.len ≤ 16385

-- a part of a chunk is taken: some of it, where any is left, with a text that fits
pub record Onward (from length next at : ℕ) : Type 0 where
  pub some : from < length → from < next
  pub inside : next ≤ length
  pub fits : at ≤ 65536
