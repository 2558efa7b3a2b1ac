-- The search for the nearest entry, a turn at a time, and cut in two: what is found among the later entries by themselves takes over where it is
-- strictly nearer. Assumes nothing.
use mathlib.Core.Path.{◌≡◌, refl, sym, ◌∙◌}
use mathlib.Core.Bool.{Bool, true, false, cond, true≢false}
use mathlib.Core.List.{List}
use Prim.Native.Nat.{ℕ, zero, suc, ◌+◌}
use native.Mathlib.Nat.{add-zero, add-suc}
use native.Mathlib.Numerals.{towards_suc}
use lib.Dec.{T}
use lib.Ieee.{Float, nan, inf, fin, lt, add, mul}
use Rattle.base.specs.declared.Lab.{Lab}
use Rattle.color_nearest.specs.declared.Near.{Near}
use Rattle.color_doubles.specs.Arithmetic.{◌⊕◌, ◌⊗◌}
use Rattle.color_nearest.specs.Nearest.{dist2_of, distance, closer, nearest_of}
use Rattle.color_doubles.proofs.Signs.{Plus, infinity, number, square-plus, add-plus}
use Rattle.color_doubles.proofs.Order.{not-lt→le, lt-le→lt, lt→le}

-- ---- a distance is not negative, or a NaN, which nothing is nearer than
pub data Reading : Float → Type 0 where
  plus : {x : Float} → Plus x → Reading x
  none : Reading nan

read-square : (x : Float) → Reading (x ⊗ x)
unfolding mul
read-square nan = none
read-square (inf s) = plus (square-plus (s, infinity))
read-square (fin s m e) = plus (square-plus (s, number m e))

read-add : {x y : Float} → Reading x → Reading y → Reading (x ⊕ y)
unfolding add
read-add (plus h) (plus k) = plus (add-plus h k)
read-add none k = none
read-add (plus infinity) none = none
read-add (plus (number m e)) none = none

pub read-dist2 : (p q : Lab) → Reading (dist2_of p q)
unfolding dist2_of
read-dist2 p q = read-add (read-add (read-square _) (read-square _)) (read-square _)

pub lt-plus : {x : Float} (y : Float) → Reading x → lt x y ≡ true → Plus x
unfolding lt
lt-plus y (plus h) e = h
lt-plus y none e = absurd (true≢false (sym e))

pub not_beyond : {x : Float} → Plus x → lt (inf false) x ≡ false
unfolding lt
not_beyond infinity = refl
not_beyond (number m e) = refl

holds : {b : Bool} → b ≡ true → T b
holds e = rw e tt

is_true : (b : Bool) → T b → b ≡ true
is_true true h = refl
is_true false h = absurd h

-- z < y < x
through-both : {x y z : Float} → Plus x → Plus y → Reading z → lt y x ≡ true → lt z y ≡ true → lt z x ≡ true
through-both X Y Z a b = is_true _ (lt-le→lt (lt-plus _ Z b) Y X (holds b) (lt→le _ _ (holds a)))

-- x ≤ y ≤ z, or z is a NaN
not-before : {x y z : Float} → Plus x → Plus y → Reading z → lt y x ≡ false → lt z y ≡ false → lt z x ≡ false
not-before {x} {y} {z} X Y Z a b = go (lt z x) refl
  where
    go : (t : Bool) → lt z x ≡ t → t ≡ false
    go true e = absurd (true≢false (sym (is_true _ (lt-le→lt (lt-plus _ Z e) X Y (holds e) (not-lt→le Y X a))) ∙ b))
    go false e = refl

-- ---- the search
abbrev pub far : Near
far = record { entry = 0; distance = inf false }

-- u, where it is strictly nearer than s
abbrev pub both : Near → Near → Near
both s u = cond (lt u.distance s.distance) u s

module _ (p : Lab) (lab : List Float) where
  -- n entries from a on, after s
  unfoldable pub from : Near → ℕ → ℕ → Near
  from s a zero = s
  from s a (suc n) = closer p lab (a + n) (from s a n)

  pub from-turn : (s u : Near) (a i : ℕ) → u ≡ from s a i → closer p lab (a + i) u ≡ from s a (i + 1)
  unfolding from
  from-turn s u a i e = simp (e, towards_suc)

  -- the later entries, after what was found among the first a
  pub after : (a n : ℕ) → from (nearest_of p lab a) a n ≡ nearest_of p lab (a + n)
  unfolding from nearest_of
  after a zero = rw add-zero
  after a (suc n) = rw (add-suc, after a n)

  closer-plus : (i : ℕ) (s : Near) → Plus s.distance → Plus (closer p lab i s).distance
  unfolding closer
  closer-plus i s h = go (lt (distance p lab i) s.distance) refl
    where
      go : (b : Bool) → lt (distance p lab i) s.distance ≡ b → Plus (cond b (record { entry = i; distance = distance p lab i }) s).distance
      go true e = lt-plus _ (read-dist2 p _) e
      go false e = h

  from-plus : (s : Near) (a n : ℕ) → Plus s.distance → Plus (from s a n).distance
  unfolding from
  from-plus s a zero h = h
  from-plus s a (suc n) h = closer-plus (a + n) (from s a n) (from-plus s a n h)

  pub nearest-plus : (k : ℕ) → Plus (nearest_of p lab k).distance
  unfolding nearest_of
  nearest-plus zero = infinity
  nearest-plus (suc k) = closer-plus k (nearest_of p lab k) (nearest-plus k)

  -- a turn of either search
  both-turn : (i : ℕ) (s u : Near) → Plus s.distance → Plus u.distance → closer p lab i (both s u) ≡ both s (closer p lab i u)
  unfolding closer
  both-turn i s u S U = go (lt u.distance s.distance) refl (lt (distance p lab i) u.distance) refl
    where
      z : Float
      z = distance p lab i

      new : Near
      new = record { entry = i; distance = z }

      Z : Reading z
      Z = read-dist2 p _

      go : (a : Bool) → lt u.distance s.distance ≡ a → (b : Bool) → lt z u.distance ≡ b
          → cond (lt z (cond a u s).distance) new (cond a u s) ≡ cond (lt (cond b new u).distance s.distance) (cond b new u) s
      go true a true b = rw (b, through-both S U Z a b)
      go true a false b = rw (b, a)
      go false a true b = refl
      go false a false b = rw (not-before S U Z a b, a)

  -- what is found by the later search alone, joined with what was found before
  joined : (s : Near) (a n : ℕ) → Plus s.distance → from s a n ≡ both s (from far a n)
  unfolding from
  joined s a zero S = rw (not_beyond S)
  joined s a (suc n) S = rw (joined s a n S) (both-turn (a + n) s (from far a n) S (from-plus far a n infinity))

  pub in_two : (a n : ℕ) → both (nearest_of p lab a) (from far a n) ≡ nearest_of p lab (a + n)
  in_two a n = sym (joined (nearest_of p lab a) a n (nearest-plus a)) ∙ after a n
