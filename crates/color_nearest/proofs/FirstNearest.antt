-- Where the target and the entries are finite, `nearest_of` is the first of the entries at the least distance, and the
-- distance that it kept is that entry's own `dist2`. Assumes nothing.
use mathlib.Core.Path.{◌≡◌, refl}
use mathlib.Core.Bool.{Bool, true, false, cond}
use mathlib.Core.List.{List}
use Prim.Native.Nat.{ℕ, zero, suc, ◌*◌, ◌<◌, ◌≤◌}
use native.Mathlib.Nat.{le_step, lt-suc_self, not-suc-le-zero}
use native.Mathlib.Numerals.{add-one}
use borrow.Author.Count.{below_none, below_more}
use lib.Dec.{T}
use lib.ListN.{length, take}
use lib.Ieee.{Float, inf, lt}
use Rattle.base.specs.Lists.{some}
use Rattle.base.specs.declared.Lab.{Lab}
use Rattle.color_nearest.specs.declared.Near.{Near}
use Rattle.color_doubles.specs.Finite.{unfit, unfit_triple}
use Rattle.color_nearest.specs.Nearest.{distance, closer, nearest_of, FirstNearest}
use Rattle.color_doubles.proofs.Signs.{Plus, infinity, number}
use Rattle.color_doubles.proofs.Order.{le-self, not-lt→le, lt-le→lt, lt→le}
use Rattle.color_nearest.proofs.Distances.{distance-plus}

-- s is what is found among the first n entries: the first of the nearest, and its own distance
pub record Found (p : Lab) (lab : List Float) (n : ℕ) (s : Near) : Type 0 where
  pub own : s.distance ≡ distance p lab s.entry
  pub nearest : FirstNearest p lab n s.entry

-- what holds below n and at n holds below suc n
below_suc : (P : ℕ → Type 0) (n : ℕ) → ((j : ℕ) → j < n → P j) → P n → (j : ℕ) → j < suc n → P j
below_suc P n all here = rw add-one at (below_more P n all here)

abbrev near : ℕ → Float → Near
near i x = record { entry = i; distance = x }

-- from the infinity where the search starts, entry 0 is found, at its own distance
from-infinity : {x : Float} → Plus x → cond (lt x (inf false)) (near 0 x) (near 0 (inf false)) ≡ near 0 x
unfolding lt
from-infinity infinity = refl
from-infinity (number m e) = refl

module _ (p : Lab) (lab : List Float) where
  abbrev d : ℕ → Float
  d j = distance p lab j

  -- none of the first n distances is a NaN or negative
  abbrev AllPlus : ℕ → Type 0
  AllPlus n = (j : ℕ) → j < n → Plus (d j)

  but_last : {n : ℕ} → AllPlus (suc n) → AllPlus n
  but_last plus j h = plus j (le_step h)

  start : AllPlus 1 → Found p lab 1 (nearest_of p lab 1)
  unfolding nearest_of closer
  start plus =
      let here = plus 0 (lt-suc_self 0) in
      rw (from-infinity here)
      (record {
        own = refl;
        nearest = record { inside = lt-suc_self 0; least = below_suc _ 0 (below_none _) (le-self here); first = below_none _ };
      })

  -- a turn: entry n takes over from entry i, or i stays
  module _ (n : ℕ) (plus : AllPlus (suc n)) (i : ℕ) (f : FirstNearest p lab n i) where
    here : Plus (d n)
    here = plus n (lt-suc_self n)

    held : Plus (d i)
    held = but_last plus i f.inside

    nearer : lt (d n) (d i) ≡ true → (j : ℕ) → j < n → T (lt (d n) (d j))
    nearer e j h = lt-le→lt here held (but_last plus j h) (rw e tt) (f.least j h)

    takes-over : lt (d n) (d i) ≡ true → FirstNearest p lab (suc n) n
    takes-over e = record { inside = lt-suc_self n; least = below_suc _ n (λ j h. lt→le _ _ (nearer e j h)) (le-self here); first = nearer e }

    stays : lt (d n) (d i) ≡ false → FirstNearest p lab (suc n) i
    stays e = record { inside = le_step f.inside; least = below_suc _ n f.least (not-lt→le here held e); first = f.first }

  next : (n : ℕ) (s : Near) → AllPlus (suc n) → Found p lab n s → Found p lab (suc n) (closer p lab n s)
  unfolding closer
  next n s plus f = go (lt (d n) s.distance) refl
    where
      go : (b : Bool) → lt (d n) s.distance ≡ b → Found p lab (suc n) (cond b (near n (d n)) s)
      go true e = record { own = refl; nearest = takes-over n plus s.entry f.nearest (rw f.own at e) }
      go false e = record { own = f.own; nearest = stays n plus s.entry f.nearest (rw f.own at e) }

  among : (n : ℕ) → AllPlus (suc n) → Found p lab (suc n) (nearest_of p lab (suc n))
  unfolding nearest_of
  among zero plus = start plus
  among (suc n) plus = next (suc n) (nearest_of p lab (suc n)) plus (among n (but_last plus))

pub found : (p : Lab) (lab : List Float) (k : ℕ)
    → unfit_triple p ≡ false
    → some unfit (take (3 * k) lab) ≡ false
    → 3 * k ≤ length lab
    → 0 < k
    → Found p lab k (nearest_of p lab k)
found p lab zero e none room h = absurd (not-suc-le-zero h)
found p lab (suc n) e none room h = among p lab n (distance-plus lab (suc n) none room p e)
