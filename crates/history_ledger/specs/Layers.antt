-- Several histories side by side: "Every layer keeps a ledger of its own" (document 02, E1), stated over any algebra of
-- edits. Proved of every algebra that keeps specs/Laws.antt: `own-histories` in proofs/Layers.antt. Definitions only.
-- Assumes nothing.
use Rattle.std.specs.Prelude.{◌≡◌, cond, List, [], ◌∷◌, map, ℕ, ◌≤◌, length, eqb}
use Rattle.base.specs.Limits.{max_journal}
use Rattle.base.specs.Lists.{All}
use Rattle.history_ledger.specs.Calls.{Call, Outcome, Lent, Played, play, lend}
use Rattle.history_ledger.specs.Algebra.{Algebra, WellFormedIn}
use Rattle.history_ledger.specs.Journal.{opened, stepLent}
use Rattle.history_ledger.specs.Ledger.{begun, enter}
use Rattle.history_ledger.specs.Demand.{unstruck, TypedCalls, SameHistory}

-- a call, and the number of the layer that it is made on
pub record OnLayer (C : Type 0) : Type 0 where
  pub layer : ℕ
  pub call : C

-- the calls on layer i, in order; and of a list that goes with the calls, as their answers do, what goes with those
unfoldable pub calls_on : {C : Type 0} → ℕ → List (OnLayer C) → List C
calls_on i [] = []
calls_on i (c ∷ cs) = cond (eqb i c.layer) (c.call ∷ calls_on i cs) (calls_on i cs)

unfoldable pub of_layer : {C X : Type 0} → ℕ → List (OnLayer C) → List X → List X
of_layer i [] xs = []
of_layer i (c ∷ cs) [] = []
of_layer i (c ∷ cs) (x ∷ xs) = cond (eqb i c.layer) (x ∷ of_layer i cs xs) (of_layer i cs xs)

-- layers by their numbers, each with a state of its own: a call meets its layer's, and leaves the others as they are
unfoldable pub layered : {S C : Type 0} → (S → C → Outcome S) → (ℕ → S) → OnLayer C → Outcome (ℕ → S)
layered step layers c =
    let o = step (layers c.layer) c.call in
    record { answer = o.answer; leaves = λ i. cond (eqb i c.layer) o.leaves (layers i) }

-- layer i's part of a run of them all
abbrev pub part_of : {S C : Type 0} → ℕ → List (OnLayer C) → Played (ℕ → S) → Played S
part_of i calls ran = record { answers = of_layer i calls ran.answers; ends = ran.ends i }

-- calls without their scratch
abbrev pub calls_in : {C : Type 0} → List (Lent C) → List C
calls_in lent = map (λ c. c.call) lent

module _ (A : Algebra) where
  open A use {Sheet, Edit, view, places}

  -- Demand 3, layer by layer: for every list of calls, each on some layer and with scratch of its own, and every layer
  -- i: its answers, sheet and positions are those of document 01's ledger that is fed its opening sheet and its own
  -- calls, and those of a run of that layer alone in a journal that is not shorter, the calls answered "journal full"
  -- struck. Nothing is asked of the other layers, nor of the calls on them.
  abbrev pub OwnHistories : Type 0
  OwnHistories =
      (sheets : ℕ → Sheet) (i : ℕ)
      → let s = sheets i in
      WellFormedIn A s
      → (journals : ℕ → List ℕ) (longer : List ℕ) → length (journals i) ≤ length longer → length longer ≤ max_journal
      → (calls : List (OnLayer (Lent (Call Edit))))
      → let own = calls_on i calls in
      TypedCalls A (calls_in own) → All (λ c. places (view s) ≤ c.room) own
      → (rooms' : ℕ → ℕ) → ((n : ℕ) → places (view s) ≤ rooms' n)
      → let first = part_of i calls (play (layered (stepLent A)) (λ j. opened A (sheets j) (journals j)) calls) in
      let left = unstruck (calls_in own) first.answers in
      let second = play (stepLent A) (opened A s longer) (lend rooms' left) in
      let ledger = play (enter A) (begun A (view s)) left in
      SameHistory A (unstruck first.answers first.answers) first second ledger
