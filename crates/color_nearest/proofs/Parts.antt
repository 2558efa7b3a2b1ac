-- The search over a list that stands in two parts: each is searched by itself, and what is found in the second takes over where it is strictly
-- nearer, its place counted on from the first part's entries. Assumes nothing.
use mathlib.Core.Path.{◌≡◌, refl, sym, ap, ◌∙◌}
use mathlib.Core.Bool.{Bool, true, false, cond, true≢false}
use mathlib.Core.List.{List, ◌++◌}
use Prim.Native.Nat.{ℕ, zero, suc, ◌+◌, ◌*◌, ◌<◌, ◌≤◌}
use native.Mathlib.Nat.{le_refl}
use native.Mathlib.Omega.{arith}
use lib.ListN.{length, get_or, get_or-append}
use lib.Seq.{get_or-append-add}
use lib.Ieee.{Float, nan, inf, lt}
use Rattle.base.specs.declared.Lab.{Lab}
use Rattle.color_nearest.specs.declared.Near.{Near}
use Rattle.color_nearest.specs.Nearest.{distance, closer, nearest_of}
use Rattle.base.specs.Triples.{lab_at}
use Rattle.color_doubles.proofs.Signs.{Plus, infinity, number}
use Rattle.color_nearest.proofs.Halves.{Reading, plus, read-dist2, lt-plus, not_beyond, far, both, from, nearest-plus, in_two}

-- what is nearer than something is less far than the infinity
finite-plus : {x y : Float} → Plus x → Plus y → lt x y ≡ true → lt x (inf false) ≡ true
unfolding lt
finite-plus infinity Y e = absurd (true≢false (sym e ∙ not_beyond Y))
finite-plus (number m d) Y e = refl

below-infinity : {x y : Float} → Reading x → Plus y → lt x y ≡ true → lt x (inf false) ≡ true
below-infinity {x} {y} X Y e = finite-plus (lt-plus y X e) Y e

-- what was found among later entries, its place counted on; the start of the search stays as it is
abbrev counted-on : ℕ → Near → Near
counted-on a s = cond (lt s.distance (inf false)) (record { entry = a + s.entry; distance = s.distance }) s

same-distance : (a : ℕ) (s : Near) → (counted-on a s).distance ≡ s.distance
same-distance a s = go (lt s.distance (inf false))
  where
    go : (b : Bool) → (cond b (record { entry = a + s.entry; distance = s.distance }) s).distance ≡ s.distance
    go true = refl
    go false = refl

module _ (p : Lab) (ks ls : List Float) (a : ℕ) (e : length ks ≡ 3 * a) where
  front : (j : ℕ) → j < a → lab_at (ks ++ ls) j ≡ lab_at ks j
  unfolding lab_at
  front j h =
      rw (get_or-append ks ls nan (3 * j) (omega arith), get_or-append ks ls nan (3 * j + 1) (omega arith), get_or-append ks ls nan (3 * j + 2) (omega arith))

  nearest-front : (n : ℕ) → n ≤ a → nearest_of p (ks ++ ls) n ≡ nearest_of p ks n
  unfolding nearest_of closer
  nearest-front zero h = refl
  nearest-front (suc n) h = rw (front n h, nearest-front n (omega arith))

  later : (i j : ℕ) → i ≡ 3 * a + j → get_or (ks ++ ls) i nan ≡ get_or ls j nan
  later i j q = ap (λ (n : ℕ). get_or (ks ++ ls) n nan) (q ∙ ap (λ (n : ℕ). n + j) (sym e)) ∙ get_or-append-add ks ls j nan

  back : (m : ℕ) → lab_at (ks ++ ls) (a + m) ≡ lab_at ls m
  unfolding lab_at
  back m =
      rw (later (3 * (a + m)) (3 * m) (omega arith), later (3 * (a + m) + 1) (3 * m + 1) (omega arith), later (3 * (a + m) + 2) (3 * m + 2) (omega arith))

  -- a turn of the search among the later entries
  turn-back : (m : ℕ) (s : Near) → Plus s.distance → closer p (ks ++ ls) (a + m) (counted-on a s) ≡ counted-on a (closer p ls m s)
  unfolding closer
  turn-back m s S = rw (back m, same-distance a s) (go (lt (distance p ls m) s.distance) refl)
    where
      z : Float
      z = distance p ls m

      go : (b : Bool) → lt z s.distance ≡ b
          → cond b (record { entry = a + m; distance = z }) (counted-on a s) ≡ counted-on a (cond b (record { entry = m; distance = z }) s)
      go true b = rw (below-infinity (read-dist2 p _) S b)
      go false b = refl

  from_back : (n : ℕ) → from p (ks ++ ls) far a n ≡ counted-on a (nearest_of p ls n)
  unfolding from nearest_of lt
  from_back zero = refl
  from_back (suc n) = rw (from_back n) (turn-back n (nearest_of p ls n) (nearest-plus p ls n))

  joined : (n : ℕ) → nearest_of p (ks ++ ls) (a + n) ≡ both (nearest_of p ks a) (counted-on a (nearest_of p ls n))
  joined n = sym (in_two p (ks ++ ls) a n) ∙ rw (nearest-front a (le_refl a), from_back n)

  pub parts : (n : ℕ) → nearest_of p (ks ++ ls) (a + n) ≡ both (nearest_of p ks a) (record { entry = a + (nearest_of p ls n).entry; distance = (nearest_of p ls n).distance })
  parts n = joined n ∙ rw (same-distance a (nearest_of p ls n)) (go (lt (nearest_of p ls n).distance (nearest_of p ks a).distance) refl)
    where
      s : Near
      s = nearest_of p ks a

      u : Near
      u = nearest_of p ls n

      go : (b : Bool) → lt u.distance s.distance ≡ b → cond b (counted-on a u) s ≡ cond b (record { entry = a + u.entry; distance = u.distance }) s
      go true b = rw (below-infinity (plus (nearest-plus p ls n)) (nearest-plus p ks a) b)
      go false b = refl

-- the entry found is one of those looked at, or 0
pub nearest-within : (p : Lab) (lab : List Float) (k : ℕ) → (nearest_of p lab k).entry ≤ k
unfolding nearest_of closer
nearest-within p lab zero = le_refl 0
nearest-within p lab (suc k) = go (lt (distance p lab k) (nearest_of p lab k).distance) (nearest-within p lab k)
  where
    go : (b : Bool) → (nearest_of p lab k).entry ≤ k → (cond b (record { entry = k; distance = distance p lab k }) (nearest_of p lab k)).entry ≤ suc k
    go true h = omega arith
    go false h = omega arith
