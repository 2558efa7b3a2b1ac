-- The search and the sum of its distances: a sum that is finite has finite parts, and a finite distance is that of finite numbers. Assumes nothing.
use mathlib.Core.Path.{◌≡◌, refl, sym, ap, subst, ◌∙◌}
use mathlib.Core.Logic.{◌⊎◌, inl, inr}
use mathlib.Core.Bool.{Bool, true, false, cond, true≢false, beq}
use mathlib.Core.List.{List}
use Prim.Native.Nat.{ℕ, zero, suc, ◌+◌, ◌-◌, ◌*◌, ◌/◌, ◌%◌, ◌<◌, ◌≤◌}
use native.Mathlib.Nat.{zero-add, not-suc-le-zero}
use native.Mathlib.Omega.{arith}
use borrow.Author.Count.{below_more}
use lib.ListN.{length, get_or, take}
use lib.Seq.{get_or-take, length-take-le}
use lib.Ieee.{Float, nan, inf, fin, add, sub, mul, neg}
use Rattle.base.proofs.Nowhere.{nowhere-of}
use Rattle.base.specs.declared.Lab.{Lab}
use Rattle.color_doubles.specs.Arithmetic.{◌⊕◌, ◌⊖◌, ◌⊗◌}
use Rattle.color_doubles.specs.Finite.{unfit, unfit_triple}
use Rattle.color_doubles.proofs.Units.{below_or_not}
use Rattle.color_nearest.specs.declared.Search.{Search}
use Rattle.color_nearest.specs.Nearest.{dist2_of, nearest_of, searched, joined, Searched}
use Rattle.base.specs.Triples.{lab_at}
use Rattle.color_nearest.proofs.Distances.{each-fit}
use Rattle.color_nearest.proofs.Halves.{far, from, from-turn, after, in_two}

abbrev Fit : Float → Type 0
Fit x = unfit x ≡ false

-- ---- finite results have finite operands
unfit-either : (b : Bool) (x y : Float) → unfit x ≡ true → unfit y ≡ true → unfit (cond b x y) ≡ true
unfit-either true x y h k = h
unfit-either false x y h k = k

sum-fit : (x y : Float) → Fit (x ⊕ y) → Fit x × Fit y
unfolding add unfit
sum-fit nan y h = absurd (true≢false h)
sum-fit (inf s) nan h = absurd (true≢false h)
sum-fit (inf s) (inf t) h = absurd (true≢false (sym (unfit-either (beq s t) (inf s) nan refl refl) ∙ h))
sum-fit (inf s) (fin t n d) h = absurd (true≢false h)
sum-fit (fin s m e) nan h = absurd (true≢false h)
sum-fit (fin s m e) (inf t) h = absurd (true≢false h)
sum-fit (fin s m e) (fin t n d) h = (refl, refl)

neg-fit : (y : Float) → Fit (neg y) → Fit y
unfolding neg unfit
neg-fit nan h = h
neg-fit (inf s) h = h
neg-fit (fin s m e) h = refl

difference-fit : (x y : Float) → Fit (x ⊖ y) → Fit y
unfolding sub
difference-fit x y h = neg-fit y (sum-fit x (neg y) h).1

square-fit : (x : Float) → Fit (x ⊗ x) → Fit x
unfolding mul unfit
square-fit nan h = h
square-fit (inf s) h = h
square-fit (fin s m e) h = refl

distance-fit : (p q : Lab) → Fit (dist2_of p q) → unfit_triple q ≡ false
unfolding dist2_of unfit_triple
distance-fit p q h =
    let sums = sum-fit _ _ h in
    let front = sum-fit _ _ sums.0 in
    rw (difference-fit _ _ (square-fit _ front.0), difference-fit _ _ (square-fit _ front.1), difference-fit _ _ (square-fit _ sums.1))

-- ---- n entries looked at from entry a on
module _ (p : Lab) (lab : List Float) where
  pub record Part (a n : ℕ) (s : Search) : Type 0 where
    pub near : s.near ≡ from p lab far a n
    pub fit : Fit s.total → (j : ℕ) → j < n → unfit_triple (lab_at lab (a + j)) ≡ false

  pub part_none : (a : ℕ) (s : Search) → s.near ≡ far → Part a 0 s
  unfolding from
  part_none a s e = record { near = e; fit = λ h j l. absurd (not-suc-le-zero l) }

  -- what holds of each of n places from a on, and of the next, holds of n + 1
  one_more : (P : ℕ → Type 0) (a n i : ℕ) → i ≡ a + n → ((j : ℕ) → j < n → P (a + j)) → P i → (j : ℕ) → j < n + 1 → P (a + j)
  one_more P a n i e all here = below_more (λ j. P (a + j)) n all (subst P e here)

  pub part-turn : (a n i : ℕ) (s : Search) → i ≡ a + n → Part a n s → Part a (n + 1) (searched p lab i s)
  unfolding searched
  part-turn a n i s e h =
      record {
        near = rw e (from-turn p lab far s.near a n h.near);
        fit = λ f. let parts = sum-fit _ _ f in one_more (λ j. unfit_triple (lab_at lab j) ≡ false) a n i e (h.fit parts.0) (distance-fit p _ parts.1);
      }

  from_start : (n : ℕ) → from p lab far 0 n ≡ nearest_of p lab n
  unfolding nearest_of
  from_start n = after p lab 0 n ∙ ap (nearest_of p lab) (zero-add n)

  -- the places below h, and the n from h on
  either-part : (P : ℕ → Type 0) (h n : ℕ) → ((j : ℕ) → j < h → P (0 + j)) → ((j : ℕ) → j < n → P (h + j)) → (j : ℕ) → j < h + n → P (0 + j)
  either-part P h n low high j l = go (below_or_not j h)
    where
      go : (j < h) ⊎ (h ≤ j) → P (0 + j)
      go (inl b) = low j b
      go (inr b) = subst P (omega arith) (high (j - h) (omega arith))

  pub part_join : (h n : ℕ) (s u : Search) → Part 0 h s → Part h n u → Part 0 (h + n) (joined s u)
  unfolding joined
  part_join h n s u S U =
      record {
        near = rw (S.near, U.near, from_start h, from_start (h + n)) (in_two p lab h n);
        fit = λ f. let parts = sum-fit _ _ f in either-part (λ j. unfit_triple (lab_at lab j) ≡ false) h n (S.fit parts.0) (U.fit parts.1);
      }

  -- number i of the storage is one of the three of entry i / 3
  number-fit : (i : ℕ) → unfit_triple (lab_at lab (i / 3)) ≡ false → Fit (get_or lab i nan)
  unfolding lab_at
  number-fit i h = go (i % 3) (omega arith)
    where
      each : (unfit (get_or lab (3 * (i / 3)) nan) ≡ false) × (unfit (get_or lab (3 * (i / 3) + 1) nan) ≡ false) × (unfit (get_or lab (3 * (i / 3) + 2) nan) ≡ false)
      each = each-fit (lab_at lab (i / 3)) h

      at : (n : ℕ) → n ≡ i → Fit (get_or lab n nan) → Fit (get_or lab i nan)
      at n e f = subst (λ m. Fit (get_or lab m nan)) e f

      go : (r : ℕ) → i ≡ 3 * (i / 3) + r → Fit (get_or lab i nan)
      go zero e = at _ (omega arith) each.0
      go (suc zero) e = at _ (sym e) each.1
      go (suc (suc zero)) e = at _ (sym e) each.2
      go (suc (suc (suc r))) e = absurd (omega arith)

  pub searched-all : (n k : ℕ) (s : Search) → n ≡ k → 3 * k ≤ length lab → Part 0 n s → Searched p lab k s
  searched-all n k s e room h =
      record {
        near = h.near ∙ from_start n ∙ ap (nearest_of p lab) e;
        finite = λ f. nowhere-of unfit (take (3 * k) lab) nan
            (λ i l. let b : i < 3 * k = rw (length-take-le (3 * k) lab room) at l in rw (get_or-take (3 * k) lab i nan b) (number-fit i (rw (zero-add (i / 3)) at (h.fit f (i / 3) (omega arith)))));
      }
