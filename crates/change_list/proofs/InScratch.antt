-- A result at the front of the scratch: none of it, another call that leaves the same, and the result copied over a buffer. Assumes nothing.
use Prim.Native.Nat.{ℕ, ◌≤◌}
use mathlib.Core.Path.{◌≡◌, sym}
use mathlib.Core.List.{List}
use native.Mathlib.Omega.{arith}
use lib.ListN.{length, take}
use Rattle.base.specs.Lists.{over}
use Rattle.change_list.specs.Listed.{InScratch}

module _ {B : Type 0} {room : ℕ} {s : List ℕ} {leaves call : List ℕ → B} where
  -- a refusal, which has no result
  pub scratch-none : ((out : List ℕ) → length out ≡ room → leaves out ≡ call out) → InScratch 0 room s leaves call
  unfolding over
  scratch-none f = record { fits = omega arith; held = omega arith; value = f }

  -- what a call leaves that ends with another
  pub scratch-then : {n : ℕ} {C : Type 0} {leaves' call' : List ℕ → C} → InScratch n room s leaves call
      → ((out after : List ℕ) → length out ≡ room → leaves after ≡ call out → leaves' after ≡ call' out) → InScratch n room s leaves' call'
  scratch-then c f = record { fits = c.fits; held = c.held; value = λ out e. f out _ e (c.value out e) }

  module _ {n m : ℕ} (c : InScratch n room s leaves call) (q : m ≡ n) where
    -- the result can be copied
    pub copy-fits : (m ≤ length s) × (m ≤ room)
    copy-fits = let a = c.fits in let b = c.held in (omega arith, omega arith)

    -- and what it leaves then
    pub copied : (out : List ℕ) {after : List ℕ} → room ≡ length out → after ≡ over (take m s) out → leaves after ≡ call out
    copied out e p = rw (p, q) (c.value out (sym e))
