-- The handle's test is true exactly where the facts of its clauses hold. Assumes nothing.
use mathlib.Core.Path.{◌≡◌, refl}
use mathlib.Core.Bool.{Bool, true, false, ◌||◌, beq, and-eq-true_iff}
use mathlib.Core.List.{List, [], ◌∷◌}
use mathlib.Core.Logic.{◌⊎◌, inl, inr}
use Prim.Native.Nat.{ℕ, ◌-◌, ◌*◌, ◌≤◌}
use lib.Dec.{leb, eqb}
use borrow.Author.Tests.{le-leb, leb-true, eq-eqb, eqb-true, eqb-false}
use Rattle.base.specs.declared.Handle.{Handle}
use Rattle.history_ledger.specs.Handle.{nowhere, clauses, all_of, sound}

-- ---- a list of tests, one by one
abbrev Each : List Bool → Type 0
Each [] = Unit {0}
Each (b ∷ bs) = (b ≡ true) × Each bs

each : (bs : List Bool) → all_of bs ≡ true → Each bs
each [] e = tt
each (b ∷ bs) e = let both = (and-eq-true_iff b (all_of bs)).0 e in (both.0, each bs both.1)

all : (bs : List Bool) → Each bs → all_of bs ≡ true
all [] e = refl
all (b ∷ bs) e = (and-eq-true_iff b (all_of bs)).1 (e.0, all bs e.1)

-- ---- two of the clauses
either-saved : (saved count : ℕ) → (saved ≡ nowhere) ⊎ (saved ≤ count) → (eqb saved nowhere || leb saved count) ≡ true
either-saved saved count (inl e) = rw (eq-eqb saved nowhere e)
either-saved saved count (inr h) = go (eqb saved nowhere)
  where
    go : (x : Bool) → (x || leb saved count) ≡ true
    go true = refl
    go false = le-leb saved count h

saved-either : (saved count : ℕ) → (eqb saved nowhere || leb saved count) ≡ true → (saved ≡ nowhere) ⊎ (saved ≤ count)
saved-either saved count e = go (eqb saved nowhere) refl e
  where
    go : (x : Bool) → eqb saved nowhere ≡ x → (x || leb saved count) ≡ true → (saved ≡ nowhere) ⊎ (saved ≤ count)
    go true p e = inl (eqb-true saved nowhere p)
    go false p e = inr (leb-true saved count e)

pub exactly : (a b c d : ℕ) → (a ≡ b → c ≡ d) → (c ≡ d → a ≡ b) → beq (eqb a b) (eqb c d) ≡ true
exactly a b c d f g = go (eqb a b) refl (eqb c d) refl
  where
    go : (x : Bool) → eqb a b ≡ x → (y : Bool) → eqb c d ≡ y → beq x y ≡ true
    go true p true q = refl
    go true p false q = absurd (eqb-false c d q (f (eqb-true a b p)))
    go false p true q = absurd (eqb-false a b p (g (eqb-true c d q)))
    go false p false q = refl

-- ---- the facts
pub record Sound (size : ℕ) (h : Handle) : Type 0 where
  pub ends : h.offset ≤ h.end
  pub fits : h.end ≤ size
  pub stands : h.position ≤ h.count
  pub saves : (h.saved ≡ nowhere) ⊎ (h.saved ≤ h.count)
  pub before : 8 * h.position ≤ h.offset
  pub after : 8 * (h.count - h.position) ≤ h.end - h.offset
  pub first : beq (eqb h.offset 0) (eqb h.position 0) ≡ true
  pub last : beq (eqb h.offset h.end) (eqb h.position h.count) ≡ true

pub sound-yes : (size : ℕ) (h : Handle) → Sound size h → sound size h ≡ true
unfolding sound clauses
sound-yes size h s =
    all (clauses size h)
    (le-leb _ _ s.ends, (le-leb _ _ s.fits, (le-leb _ _ s.stands, (either-saved _ _ s.saves, (le-leb _ _ s.before, (le-leb _ _ s.after, (s.first, (s.last, tt))))))))

pub sound-facts : (size : ℕ) (h : Handle) → sound size h ≡ true → Sound size h
unfolding sound clauses
sound-facts size h e =
    let t = each (clauses size h) e in
    record {
      ends = leb-true _ _ t.0;
      fits = leb-true _ _ t.1.0;
      stands = leb-true _ _ t.1.1.0;
      saves = saved-either _ _ t.1.1.1.0;
      before = leb-true _ _ t.1.1.1.1.0;
      after = leb-true _ _ t.1.1.1.1.1.0;
      first = t.1.1.1.1.1.1.0;
      last = t.1.1.1.1.1.1.1.0;
    }

pub sound-no : (size : ℕ) (h : Handle) → (Sound size h → ⊥) → sound size h ≡ false
sound-no size h n = go (sound size h) refl
  where
    go : (x : Bool) → sound size h ≡ x → sound size h ≡ false
    go true e = absurd (n (sound-facts size h e))
    go false e = e

-- ---- two handles are equal by their numbers
pub same-handle : {h g : Handle} → h.offset ≡ g.offset → h.end ≡ g.end → h.position ≡ g.position → h.count ≡ g.count → h.saved ≡ g.saved → h ≡ g
same-handle o e p c s = λ i. record { offset = o i; end = e i; position = p i; count = c i; saved = s i }
