-- A saved position, as the handle's number and as the ledger's position or none. Assumes nothing.
use mathlib.Core.Path.{◌≡◌, refl}
use mathlib.Core.Bool.{Bool, true, false, cond}
use mathlib.Core.Option.{Option, none, some}
use mathlib.Core.Logic.{◌⊎◌, inl, inr}
use Prim.Native.Nat.{ℕ, ◌≤◌, ◌<◌}
use native.Mathlib.Omega.{arith}
use lib.Dec.{leb, eqb}
use borrow.Author.Tests.{leb-true, ne_eqb}
use Rattle.history_ledger.specs.Handle.{nowhere}
use Rattle.history_ledger.specs.Ledger.{forget}

-- the handle's number for a saved position or none
abbrev pub saved_number : Option ℕ → ℕ
saved_number none = nowhere
saved_number (some k) = k

abbrev pub SavedWithin : ℕ → Option ℕ → Type 0
SavedWithin count none = Unit {0}
SavedWithin count (some k) = k ≤ count

-- a push forgets in the handle what it forgets in the ledger
pub forget-number : (m : ℕ) (w : Option ℕ) → cond (leb (saved_number w) m) (saved_number w) nowhere ≡ saved_number (forget m w)
unfolding forget
forget-number m none = go (leb nowhere m)
  where
    go : (x : Bool) → cond x nowhere nowhere ≡ nowhere
    go true = refl
    go false = refl
forget-number m (some k) = go (leb k m)
  where
    go : (x : Bool) → cond x k nowhere ≡ saved_number (cond x (some k) none)
    go true = refl
    go false = refl

pub forget-within : (m count : ℕ) (w : Option ℕ) → m ≤ count → SavedWithin count (forget m w)
unfolding forget
forget-within m count none b = tt
forget-within m count (some k) b = go (leb k m) refl
  where
    go : (x : Bool) → leb k m ≡ x → SavedWithin count (cond x (some k) none)
    go true p = omega (arith, leb-true k m p)
    go false p = tt

pub saved-sound : (count : ℕ) (w : Option ℕ) → SavedWithin count w → (saved_number w ≡ nowhere) ⊎ (saved_number w ≤ count)
saved-sound count none b = inl refl
saved-sound count (some k) b = inr b

-- the number says none only where it stands for none
pub saved_read : (count : ℕ) (w : Option ℕ) → count < nowhere → SavedWithin count w
    → cond (eqb (saved_number w) nowhere) none (some (saved_number w)) ≡ w
saved_read count none b h = refl
saved_read count (some k) b h = rw (ne_eqb k nowhere (λ z. omega arith))
