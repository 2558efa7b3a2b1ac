-- Entries that a list names, stored one after the other. Definitions only. Assumes nothing.
use Rattle.std.specs.Prelude.{◌≡◌, Bool, ℕ, ◌<◌, Float}
use mathlib.Core.List.{List, ◌++◌, map}
use Rattle.base.specs.Lists.{All, over}
use Rattle.join_model.specs.Joined.{Entry, entry_at, entries_of, colours_of, labs_of, marks_of}

-- each of a list is below k
unfoldable pub Below : ℕ → List ℕ → Type 0
Below k l = All (λ i. i < k) l

-- the joined entries as the code has them: the first's, and those of the second that a list names
unfoldable pub all_of : ℕ → List ℕ → List Float → List Bool → List ℕ → List Float → List Bool → List ℕ → List Entry
all_of k palette lab locks palette2 lab2 locks2 named =
    entries_of k palette lab locks ++ map (entry_at palette2 lab2 locks2) named

-- palette, LAB and marks with entries in front; the rest keeps
pub record Entered (all : List Entry) (palette : List ℕ) (lab : List Float) (locks : List Bool)
    (palette' : List ℕ) (lab' : List Float) (locks' : List Bool) : Type 0 where
  pub colours : palette' ≡ over (colours_of all) palette
  pub labs : lab' ≡ over (labs_of all) lab
  pub marks : locks' ≡ over (marks_of all) locks
