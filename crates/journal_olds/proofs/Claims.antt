-- Places claimed from the last change back, and released: a place is claimed exactly where a change behind names it, so the change that claims it is
-- the last that paints it; and each release gives the index back. Assumes nothing.
use mathlib.Core.Path.{◌≡◌, refl, sym, ap, ◌∙◌}
use mathlib.Core.Bool.{Bool, true, false, not, cond, ◌&&◌, ◌||◌, or_comm}
use mathlib.Core.List.{List, [], ◌∷◌}
use Prim.Native.Nat.{ℕ, zero, suc, ◌+◌, ◌<◌, ◌≤◌}
use native.Mathlib.Omega.{arith}
use borrow.Author.Tests.{leb-false, le-leb, lt-leb, eqb-true, eqb-false}
use lib.Dec.{eqb}
use lib.IntN.{ℤ, pos, negsuc, ◌+ℤ◌, +ℤ-neg_ℤ_cancel}
use lib.ListN.{length, drop, get_or, set, length-set}
use lib.Seq.{get_or-set_same, get_or-set_other, ext_get_or}
use Rattle.base.specs.Lists.{some}
use Rattle.base.proofs.Scan.{drop-end, some-none}
use Rattle.base.proofs.Nowhere.{or-both}
use Rattle.base.proofs.Back.{never}
use Rattle.sheet.specs.Sheet.{stray}
use Rattle.sheet.proofs.Strays.{stray-more}
use Rattle.edit.specs.Change.{Change, place, painted, old_of}
use Rattle.edit.specs.Checks.{named}
use Rattle.edit_pixels.proofs.Nth.{Nth}
use Rattle.journal_olds.specs.Claims.{claimed, claim_of, release_of, Claims}
use Rattle.journal_olds.proofs.Fresh.{painted-fresh}

-- ---- one index of a picture
free : (z : ℤ) → stray 256 z ≡ false → claimed z ≡ false
unfolding stray claimed
free (pos n) e = lt-leb 500 n (omega (arith, leb-false 256 n e))
free (negsuc n) e = refl

held : (z : ℤ) → stray 256 z ≡ false → claimed (z +ℤ pos 1000) ≡ true
unfolding stray claimed
held (pos n) e = le-leb 500 (n + 1000) (omega arith)
held (negsuc zero) e = refl
held (negsuc (suc n)) e = never (sym e)

claim-held : (z : ℤ) → stray 256 z ≡ false → claimed (claim_of z) ≡ true
unfolding claim_of
claim-held z e = rw (free z e) (held z e)

claim-kept : (y : ℤ) → claimed y ≡ true → claim_of y ≡ y
unfolding claim_of
claim-kept y q = rw q

claim-again : (z : ℤ) → stray 256 z ≡ false → claim_of (claim_of z) ≡ claim_of z
claim-again z e = claim-kept (claim_of z) (claim-held z e)

release-free : (z : ℤ) → stray 256 z ≡ false → release_of z ≡ z
unfolding release_of
release-free z e = rw (free z e)

release-claim : (z : ℤ) → stray 256 z ≡ false → release_of (claim_of z) ≡ z
unfolding release_of claim_of
release-claim z e = rw (free z e, held z e) (+ℤ-neg_ℤ_cancel z (pos 1000))

-- ---- claims
module _ {w : ℕ} {cs : List Change} {l m : List ℤ} (a : Claims w cs l m) where
  at-range : (p : ℕ) → p < length l → stray 256 (get_or l p (pos 0)) ≡ false
  at-range p h = some-none (stray 256) l p (pos 0) a.in-range h

  -- a place is claimed where a change names it
  claims-tell : (p : ℕ) → p < length l → claimed (get_or m p (pos 0)) ≡ named w cs p
  claims-tell p h = rw (a.says p h) (go (named w cs p))
    where
      z : ℤ
      z = get_or l p (pos 0)

      go : (t : Bool) → claimed (cond t (claim_of z) z) ≡ t
      go true = claim-held z (at-range p h)
      go false = free z (at-range p h)

  claims-more : (c : Change) → place w c < length l → Claims w (c ∷ cs) l (set m (place w c) (claim_of (get_or m (place w c) (pos 0))))
  unfolding named some
  claims-more c h =
      record {
        in-range = a.in-range;
        long = length-set m P X ∙ a.long;
        says = says-more;
      }
    where
      P : ℕ
      P = place w c

      X : ℤ
      X = claim_of (get_or m P (pos 0))

      claimed-here : X ≡ claim_of (get_or l P (pos 0))
      claimed-here = rw (a.says P h) (by (named w cs P))
        where
          by : (t : Bool) → claim_of (cond t (claim_of (get_or l P (pos 0))) (get_or l P (pos 0))) ≡ claim_of (get_or l P (pos 0))
          by true = claim-again (get_or l P (pos 0)) (at-range P h)
          by false = refl

      says-by : (p : ℕ) → p < length l → (t : Bool) → eqb P p ≡ t → get_or (set m P X) p (pos 0) ≡ cond (named w (c ∷ cs) p) (claim_of (get_or l p (pos 0))) (get_or l p (pos 0))
      says-by p k true q = rw (q, ← eqb-true P p q, get_or-set_same m P X (pos 0) (omega (arith, a.long))) claimed-here
      says-by p k false q = rw (q, get_or-set_other m P p X (pos 0) (λ r. eqb-false P p q (sym r))) (a.says p k)

      says-more : (p : ℕ) → p < length l → get_or (set m P X) p (pos 0) ≡ cond (named w (c ∷ cs) p) (claim_of (get_or l p (pos 0))) (get_or l p (pos 0))
      says-more p k = says-by p k (eqb P p) refl

-- ---- the loop that claims
pub record Claiming (w k : ℕ) (cs : List Change) (l₀ : List ℤ) (i : ℕ) (l : List ℤ) (bad : Bool) : Type 0 where
  pub few : i ≤ length cs
  pub clean : some (stray k) l₀ ≡ false
  pub claims : Claims w (drop i cs) l₀ l
  pub bad-is : bad ≡ some (stray k) (painted old_of w (drop i cs) l₀)

pub claiming-none : (w k : ℕ) (cs : List Change) (l : List ℤ) (n : ℕ) → length cs ≡ n → k ≤ 256 → some (stray k) l ≡ false → Claiming w k cs l n l false
unfolding named some painted
claiming-none w k cs l n q h e =
    let none : drop n cs ≡ [] = drop-end cs n (omega (arith, q)) in
    record {
      few = omega (arith, q);
      clean = e;
      claims = rw none (record { in-range = stray-more k 256 l h e; long = refl; says = λ p b. (refl) });
      bad-is = rw none (sym e);
    }

module _ {w k : ℕ} {cs : List Change} {l₀ l : List ℤ} {i : ℕ} {bad : Bool} (a : Claiming w k cs l₀ i l bad) where
  pub claiming-next : {j : ℕ} {c : Change} {m : List ℤ} {hit flag : Bool} → Nth cs j c → j + 1 ≡ i → place w c < length l₀
      → m ≡ set l (place w c) (claim_of (get_or l (place w c) (pos 0)))
      → hit ≡ not (claimed (get_or l (place w c) (pos 0))) && stray k (old_of c)
      → flag ≡ bad || hit → Claiming w k cs l₀ j m flag
  unfolding painted
  claiming-next {j} {c} {m} {hit} {flag} b e h em eh ef =
      let P : ℕ = place w c in
      let rest : List Change = drop i cs in
      let next : drop j cs ≡ c ∷ rest = b.left ∙ ap (λ (y : ℕ). c ∷ drop y cs) e in
      record {
        few = omega (arith, a.few);
        clean = a.clean;
        claims = rw (next, em) (claims-more a.claims c h);
        bad-is =
            rw (ef, eh, a.bad-is, claims-tell a.claims P h, next)
            (or_comm (some (stray k) (painted old_of w rest l₀)) (not (named w rest P) && stray k (old_of c))
            ∙ sym (painted-fresh (stray k) old_of w rest l₀ P (old_of c) h (some-none (stray k) l₀ P (pos 0) a.clean h)));
      }

  pub claiming-all : i ≡ 0 → Claims w cs l₀ l × (bad ≡ some (stray k) (painted old_of w cs l₀))
  claiming-all e = (rw e at a.claims, rw e at a.bad-is)

-- ---- the loop that releases: m is l but where what is left names a claimed place
record Freed (w : ℕ) (cs : List Change) (l m : List ℤ) : Type 0 where
  in-range : some (stray 256) l ≡ false
  long : length m ≡ length l
  back : (p : ℕ) → p < length l → release_of (get_or m p (pos 0)) ≡ get_or l p (pos 0)
  off : (p : ℕ) → p < length l → named w cs p ≡ false → get_or m p (pos 0) ≡ get_or l p (pos 0)

freed-none : {w : ℕ} {cs : List Change} {l m : List ℤ} → Claims w cs l m → Freed w cs l m
freed-none {w} {cs} {l} {m} a =
    record {
      in-range = a.in-range;
      long = a.long;
      back = λ p h. ap release_of (a.says p h) ∙ by (get_or l p (pos 0)) (at-range a p h) (named w cs p);
      off = λ p h e. a.says p h ∙ rw e;
    }
  where
    by : (z : ℤ) → stray 256 z ≡ false → (t : Bool) → release_of (cond t (claim_of z) z) ≡ z
    by z e true = release-claim z e
    by z e false = release-free z e

freed-more : {w : ℕ} {c : Change} {cs : List Change} {l m : List ℤ} → place w c < length l → Freed w (c ∷ cs) l m → Freed w cs l (set m (place w c) (release_of (get_or m (place w c) (pos 0))))
unfolding named some
freed-more {w} {c} {cs} {l} {m} h a =
    record {
      in-range = a.in-range;
      long = length-set m P X ∙ a.long;
      back = λ p k. back_by p k (eqb P p) refl;
      off = λ p k e. off-by p k e (eqb P p) refl;
    }
  where
    P : ℕ
    P = place w c

    X : ℤ
    X = release_of (get_or m P (pos 0))

    here : (p : ℕ) → p < length l → eqb P p ≡ true → get_or (set m P X) p (pos 0) ≡ get_or l p (pos 0)
    here p k q = rw (← eqb-true P p q, get_or-set_same m P X (pos 0) (omega (arith, a.long))) (a.back P h)

    there : (p : ℕ) → eqb P p ≡ false → get_or (set m P X) p (pos 0) ≡ get_or m p (pos 0)
    there p q = get_or-set_other m P p X (pos 0) (λ r. eqb-false P p q (sym r))

    back_by : (p : ℕ) → p < length l → (t : Bool) → eqb P p ≡ t → release_of (get_or (set m P X) p (pos 0)) ≡ get_or l p (pos 0)
    back_by p k true q = ap release_of (here p k q) ∙ release-free (get_or l p (pos 0)) (some-none (stray 256) l p (pos 0) a.in-range k)
    back_by p k false q = ap release_of (there p q) ∙ a.back p k

    off-by : (p : ℕ) → p < length l → named w cs p ≡ false → (t : Bool) → eqb P p ≡ t → get_or (set m P X) p (pos 0) ≡ get_or l p (pos 0)
    off-by p k e true q = here p k q
    off-by p k e false q = there p q ∙ a.off p k (or-both q e)

freed-all : {w : ℕ} {l m : List ℤ} → Freed w [] l m → m ≡ l
unfolding named some
freed-all {w} {l} {m} a = ext_get_or (pos 0) m l a.long (λ p h. a.off p (omega (arith, a.long)) refl)

pub record Releasing (w : ℕ) (cs : List Change) (m₀ : List ℤ) (i : ℕ) (m : List ℤ) : Type 0 where
  pub long : length m ≡ length m₀
  frees : (l : List ℤ) → Claims w cs l m₀ → Freed w (drop i cs) l m

pub releasing-none : (w : ℕ) (cs : List Change) (m : List ℤ) → Releasing w cs m 0 m
releasing-none w cs m = record { long = refl; frees = λ l a. freed-none a }

module _ {w : ℕ} {cs : List Change} {m₀ m : List ℤ} {i : ℕ} (a : Releasing w cs m₀ i m) where
  pub releasing-next : {c : Change} {r : List ℤ} → Nth cs i c → place w c < length m₀ → r ≡ set m (place w c) (release_of (get_or m (place w c) (pos 0))) → Releasing w cs m₀ (i + 1) r
  releasing-next {c} {r} n k e =
      let P : ℕ = place w c in
      record {
        long = ap length e ∙ length-set m P (release_of (get_or m P (pos 0))) ∙ a.long;
        frees = λ l b. rw e (freed-more (rw b.long at k) (rw n.left at (a.frees l b)));
      }

  pub releasing-all : length cs ≤ i → (l : List ℤ) → Claims w cs l m₀ → m ≡ l
  releasing-all h l b = freed-all (rw (drop-end cs i h) at (a.frees l b))
