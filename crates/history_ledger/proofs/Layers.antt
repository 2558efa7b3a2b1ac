-- Calls on several layers: each layer goes as it would go by itself, with its own calls. So demand 3 holds of every
-- layer. Assumes nothing.
use mathlib.Core.Path.{◌≡◌, refl, sym, ap, subst, ◌∙◌}
use mathlib.Core.Bool.{Bool, true, false, cond}
use mathlib.Core.List.{List, [], ◌∷◌, map}
use Prim.Native.Nat.{ℕ, zero, suc, ◌≤◌}
use lib.Dec.{eqb}
use native.Mathlib.Omega.{arith}
use lib.ListN.{get_or}
use borrow.Author.Tests.{eqb-true}
use Rattle.base.specs.Lists.{All}
use Rattle.history_ledger.specs.Calls.{Call, Outcome, Lent, Played, play, lend}
use Rattle.history_ledger.specs.Algebra.{Algebra}
use Rattle.history_ledger.specs.Laws.{Laws}
use Rattle.history_ledger.specs.Journal.{State, opened, stepLent}
use Rattle.history_ledger.specs.Ledger.{begun, enter}
use Rattle.history_ledger.specs.Demand.{unstruck, SameHistory}
use Rattle.history_ledger.specs.Layers.{OnLayer, of_layer, calls_on, layered, part_of, calls_in, OwnHistories}
use Rattle.history_ledger.proofs.Playing.{onward}
use Rattle.history_ledger.proofs.Whole.{whole-history}

module _ {S C : Type 0} (step : S → C → Outcome S) (i : ℕ) where
  -- a call on this layer, and on another
  module _ (c : OnLayer C) (cs : List (OnLayer C)) (layers : ℕ → S) where
    abbrev next : ℕ → S
    next = (layered step layers c).leaves

    here : eqb i c.layer ≡ true → part_of i cs (play (layered step) next cs) ≡ play step (next i) (calls_on i cs)
        → part_of i (c ∷ cs) (play (layered step) layers (c ∷ cs)) ≡ play step (layers i) (calls_on i (c ∷ cs))
    unfolding layered play of_layer calls_on
    here e later =
        let j : c.layer ≡ i = sym (eqb-true i c.layer e) in
        rw e (ap (onward (step (layers c.layer) c.call).answer) (rw e at later) ∙ ap (λ (k : ℕ). play step (layers k) (c.call ∷ calls_on i cs)) j)

    elsewhere : eqb i c.layer ≡ false → part_of i cs (play (layered step) next cs) ≡ play step (next i) (calls_on i cs)
        → part_of i (c ∷ cs) (play (layered step) layers (c ∷ cs)) ≡ play step (layers i) (calls_on i (c ∷ cs))
    unfolding layered play of_layer calls_on
    elsewhere e later = rw e (rw e at later)

  pub alone : (cs : List (OnLayer C)) (layers : ℕ → S) → part_of i cs (play (layered step) layers cs) ≡ play step (layers i) (calls_on i cs)
  unfolding play of_layer calls_on
  alone [] layers = refl
  alone (c ∷ cs) layers = go (eqb i c.layer) refl (alone cs (layered step layers c).leaves)
    where
      go : (t : Bool) → eqb i c.layer ≡ t → part_of i cs (play (layered step) (layered step layers c).leaves cs) ≡ play step ((layered step layers c).leaves i) (calls_on i cs)
          → part_of i (c ∷ cs) (play (layered step) layers (c ∷ cs)) ≡ play step (layers i) (calls_on i (c ∷ cs))
      go true e later = here c cs layers e later
      go false e later = elsewhere c cs layers e later

-- ---- calls that carry their scratch are calls that are lent it by number; past the last any will do
module _ {C : Type 0} (enough : ℕ) where
  rooms : List (Lent C) → ℕ → ℕ
  rooms cs n = get_or (map (λ c. c.room) cs) n enough

  lent_again : (cs : List (Lent C)) → lend (rooms cs) (calls_in cs) ≡ cs
  unfolding lend rooms
  lent_again [] = refl
  lent_again (c ∷ cs) = ap (λ l. c ∷ l) (lent_again cs)

  rooms-enough : (cs : List (Lent C)) → All (λ c. enough ≤ c.room) cs → (n : ℕ) → enough ≤ rooms cs n
  unfolding All rooms
  rooms-enough [] a n = omega arith
  rooms-enough (c ∷ cs) a zero = a.0
  rooms-enough (c ∷ cs) a (suc n) = rooms-enough cs a.1 n

module _ (A : Algebra) (L : Laws A) where
  open A use {Sheet, view, places}

  pub own-histories : OwnHistories A
  own-histories sheets i fits journals longer b b' calls ts c rooms' c' =
      let s = sheets i in
      let own = calls_on i calls in
      let enough = places (view s) in
      let same = ap (play (stepLent A) (opened A s (journals i))) (lent_again enough own) ∙ sym (alone (stepLent A) i calls (λ j. opened A (sheets j) (journals j))) in
      subst
      (λ (first : Played (State Sheet)).
      let left = unstruck (calls_in own) first.answers in
      SameHistory A (unstruck first.answers first.answers) first (play (stepLent A) (opened A s longer) (lend rooms' left)) (play (enter A) (begun A (view s)) left))
      same
      (whole-history A L s fits (journals i) longer b b' (rooms enough own) rooms' (rooms-enough enough own c) c' (calls_in own) ts)
