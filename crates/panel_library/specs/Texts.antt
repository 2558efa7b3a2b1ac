-- What the functions on a line promise. Definitions only. Assumes nothing.
use Rattle.std.specs.Prelude.{◌≡◌, ℕ, ◌≤◌, List, take}
use Rattle.panel_lines.specs.Lines.{Said, said}
use Rattle.panel_spelling.specs.Library.{respelt}

-- a line is answered by itself: the program has no state
abbrev pub step_of : Unit {0} → List ℕ → Said (Unit {0})
step_of u line = said u (respelt line)

-- a text of n bytes stands at the front of a list
pub record Front (n : ℕ) (list text : List ℕ) : Type 0 where
  pub is : take n list ≡ text
  pub fits : n ≤ 9735
