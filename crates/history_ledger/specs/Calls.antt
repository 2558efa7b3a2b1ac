-- Calls, their answers, and a list of calls one after the other, over any state. Definitions only. Assumes nothing.
use Rattle.std.specs.Prelude.{true, List, [], ◌∷◌, ℕ, suc}
use Rattle.base.specs.Checks.{Check, ◌when◌, checked}
use Rattle.base.specs.Answer.{Told, Done, Still}
use Rattle.base.specs.Answer.Told.{alone}

-- the calls of demand 3: "push, undo, redo and mark-saved", a push with its arguments
pub data Call (Edit : Type 0) : Type 0 where
  push : Edit → Call Edit
  undo redo mark : Call Edit

-- a number: "00 done, FF still, else number"
abbrev pub Answer : Type 0
Answer = Told (Unit {0})

-- what a call answers, and what it leaves of what it was handed
pub record Outcome (S : Type 0) : Type 0 where
  pub answer : Answer
  pub leaves : S

abbrev pub done : {S : Type 0} → S → Outcome S
done s = record { answer = Done; leaves = s }

abbrev pub still : {S : Type 0} → S → Outcome S
still s = record { answer = Still; leaves = s }

-- "A refusal returns its number alone; lent memory and handle keep their bits"
abbrev pub refused : {S : Type 0} → S → ℕ → Outcome S
refused s n = record { answer = alone n; leaves = s }

-- the first check that applies refuses, else comes the outcome
abbrev pub guarded : {S : Type 0} → S → List Check → Outcome S → Outcome S
guarded s cs outcome = checked cs (refused s) outcome

-- a group of checks, by the number of the first of them that applies, 0 where none does
abbrev pub group : ℕ → Check
group n = n when true

-- the answers to a list of calls, in order, and what the last one leaves
pub record Played (S : Type 0) : Type 0 where
  pub answers : List Answer
  pub ends : S

-- "Each call gets the sheet, journal and handle that the one before returned or left, a refused one too"
unfoldable pub play : {S C : Type 0} → (S → C → Outcome S) → S → List C → Played S
play step s [] = record { answers = []; ends = s }
play step s (c ∷ cs) =
    let now = step s c in
    let later = play step now.leaves cs in
    record { answers = now.answer ∷ later.answers; ends = later.ends }

-- a call, and the places of scratch that it is lent
pub record Lent (C : Type 0) : Type 0 where
  pub call : C
  pub room : ℕ

-- each call has its own: number i has `rooms i` places
unfoldable pub lend : {C : Type 0} → (ℕ → ℕ) → List C → List (Lent C)
lend rooms [] = []
lend rooms (c ∷ cs) = record { call = c; room = rooms 0 } ∷ lend (λ i. rooms (suc i)) cs
