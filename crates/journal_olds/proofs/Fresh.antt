-- Painting over one place more: what a picture has afterwards, by what it had and whether the place is painted again; so whether a painted picture has
-- a stray index is one answer for all pictures that had none. Assumes nothing.
use mathlib.Core.Path.{◌≡◌, refl, sym, ◌∙◌}
use mathlib.Core.Bool.{Bool, true, false, not, ◌&&◌, ◌||◌}
use mathlib.Core.List.{List, [], ◌∷◌}
use Prim.Native.Nat.{ℕ, zero, suc, ◌<◌}
use native.Mathlib.Nat.{le_of_suc-le-suc, not-suc-le-zero}
use native.Mathlib.Omega.{arith}
use borrow.Author.Tests.{eqb-true, eqb-false, ltb-true, ltb-false}
use lib.Dec.{eqb, ltb}
use lib.IntN.{ℤ, pos}
use lib.ListN.{length, get_or, set, length-set}
use lib.Seq.{get_or-set_other, set-set, set_comm, set_out}
use Rattle.base.specs.Lists.{some}
use Rattle.base.proofs.Scan.{some-none}
use Rattle.edit.specs.Change.{Change, place, painted}
use Rattle.edit.specs.Checks.{named}

or_swap : (a b c : Bool) → a || (b || c) ≡ b || (a || c)
or_swap true true c = refl
or_swap true false c = refl
or_swap false b c = refl

module _ (q : ℤ → Bool) where
  some-set : (l : List ℤ) (p : ℕ) (v : ℤ) → p < length l → q (get_or l p (pos 0)) ≡ false → some q (set l p v) ≡ q v || some q l
  unfolding some
  some-set [] p v h e = absurd (not-suc-le-zero h)
  some-set (x ∷ l) zero v h e = rw e
  some-set (x ∷ l) (suc p) v h e = rw (some-set l p v (le_of_suc-le-suc h) e) (or_swap (q x) (q v) (some q l))

  module _ (f : Change → ℤ) (w : ℕ) where
    -- v is at p in the end where no later change names p
    pub painted-fresh : (cs : List Change) (l : List ℤ) (p : ℕ) (v : ℤ) → p < length l → q (get_or l p (pos 0)) ≡ false
        → some q (painted f w cs (set l p v)) ≡ (not (named w cs p) && q v) || some q (painted f w cs l)
    unfolding painted named some
    painted-fresh [] l p v h e = some-set l p v h e
    painted-fresh (c ∷ cs) l p v h e = go (painted-fresh cs (set l P (f c)) p v (rw length-set h)) (eqb P p) refl
      where
        P : ℕ
        P = place w c

        go : (q (get_or (set l P (f c)) p (pos 0)) ≡ false
            → some q (painted f w cs (set (set l P (f c)) p v)) ≡ (not (named w cs p) && q v) || some q (painted f w cs (set l P (f c))))
            → (t : Bool) → eqb P p ≡ t
            → some q (painted f w cs (set (set l p v) P (f c))) ≡ (not (t || named w cs p) && q v) || some q (painted f w cs (set l P (f c)))
        go later true r = rw (eqb-true P p r, set-set l p v (f c))
        go later false r =
            rw (set_comm l p P v (f c) (λ z. eqb-false P p r (sym z)))
            (later (rw (get_or-set_other l P p (f c) (pos 0) (λ z. eqb-false P p r (sym z))) e))

    -- pictures of one length that have no q
    pub painted-alike : (cs : List Change) (l m : List ℤ) → length l ≡ length m → some q l ≡ false → some q m ≡ false
        → some q (painted f w cs l) ≡ some q (painted f w cs m)
    unfolding painted
    painted-alike [] l m n a b = a ∙ sym b
    painted-alike (c ∷ cs) l m n a b = go (painted-alike cs l m n a b) (ltb P (length l)) refl
      where
        P : ℕ
        P = place w c

        go : some q (painted f w cs l) ≡ some q (painted f w cs m) → (t : Bool) → ltb P (length l) ≡ t
            → some q (painted f w cs (set l P (f c))) ≡ some q (painted f w cs (set m P (f c)))
        go later true r =
            let h : P < length l = ltb-true P (length l) r in
            let k : P < length m = omega arith in
            rw (painted-fresh cs l P (f c) h (some-none q l P (pos 0) a h), painted-fresh cs m P (f c) k (some-none q m P (pos 0) b k), later)
        go later false r = rw (set_out l P (f c) (ltb-false P (length l) r), set_out m P (f c) (omega (arith, ltb-false P (length l) r))) later
