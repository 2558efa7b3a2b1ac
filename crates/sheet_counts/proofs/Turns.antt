-- A table of counts, one pixel more a turn. Assumes nothing.
use mathlib.Core.Path.{◌≡◌, refl, sym, ◌∙◌}
use mathlib.Core.Logic.{⊎_elim}
use mathlib.Core.Bool.{Bool, true, false, cond}
use mathlib.Core.List.{List, [], ◌∷◌, ◌++◌}
use Prim.Native.Nat.{ℕ, zero, suc, ◌+◌, ◌<◌, ◌≤◌, zero-le}
use native.Mathlib.Omega.{arith}
use native.Mathlib.Nat.{not-suc-le-zero, le_of_suc-le-suc, eq-or-lt_of_le}
use native.Mathlib.Numerals.{add-one}
use borrow.Author.Tests.{ltb-true, leb-false}
use lib.Dec.{eqb-zero-suc, eqb-suc-zero, eqb-suc-suc}
use lib.IntN.{ℤ, pos, negsuc, nat_abs}
use lib.Signed.{lt_z}
use lib.ListN.{length, take, get_or, set, replicate, length-set, length-append, length-take, replicate-append-replicate, get_or-append}
use lib.Seq.{take_all, get_or_at, ext_get_or, set-append_left}
use mir.Syntax.{Width}
use mir.Val.{to_z, of_z, SFits}
use mir.Facts.{to_z-of_z}
use Rattle.base.specs.Ints.{eq_z}
use Rattle.base.proofs.Back.{never}
use Rattle.sheet.specs.Sheet.{stray}
use Rattle.sheet_counts.specs.Counts.{count_of, counts_of}
use Rattle.sheet_counts.specs.Tables.{tally, Room}
use Rattle.sheet.proofs.Front.{take_next}
use Rattle.sheet_counts.proofs.Totals.{counts-length}

-- ---- the counts
count-more : (v : ℤ) (l : List ℤ) (z : ℤ) → count_of v (l ++ (z ∷ [])) ≡ count_of v l + cond (eq_z v z) 1 0
unfolding count_of
count-more v [] z = omega arith
count-more v (x ∷ l) z = omega (arith, count-more v l z)

one_at_most : (b : Bool) → cond b 1 0 ≤ 1
one_at_most true = omega arith
one_at_most false = omega arith

count_small : (v : ℤ) (l : List ℤ) → count_of v l ≤ length l
unfolding count_of
count_small v [] = zero-le
count_small v (z ∷ l) = omega (arith, one_at_most (eq_z v z), count_small v l)

counts-at : (k e : ℕ) (l : List ℤ) → e < k → get_or (counts_of k l) e 0 ≡ count_of (pos e) l
unfolding counts_of
counts-at zero e l h = absurd (not-suc-le-zero h)
counts-at (suc k) e l h =
    ⊎_elim
    (λ q. rw q (get_or_at (counts_of k l) (count_of (pos k) l) [] 0 k (counts-length k l)))
    (λ less. get_or-append (counts_of k l) (count_of (pos k) l ∷ []) 0 e (rw (counts-length k l) less) ∙ counts-at k e l less)
    (eq-or-lt_of_le (le_of_suc-le-suc h))

counts-none : (k : ℕ) → counts_of k [] ≡ replicate k 0
unfolding counts_of count_of
counts-none zero = refl
counts-none (suc k) = rw (counts-none k) (replicate-append-replicate k 1 0 ∙ rw (add-one k))

-- ---- one more at an entry
tally-length : (t : List ℕ) (z : ℤ) → length (tally t z) ≡ length t
unfolding tally
tally-length t (pos n) = length-set t n _
tally-length t (negsuc n) = refl

tally-at : (t : List ℕ) (z : ℤ) (e : ℕ) → e < length t → get_or (tally t z) e 0 ≡ get_or t e 0 + cond (eq_z (pos e) z) 1 0
unfolding tally eq_z
tally-at t (negsuc n) e h = omega arith
tally-at [] (pos n) e h = absurd (not-suc-le-zero h)
tally-at (x ∷ t) (pos zero) zero h = refl
tally-at (x ∷ t) (pos zero) (suc e) h = rw (eqb-suc-zero e) (omega arith)
tally-at (x ∷ t) (pos (suc n)) zero h = rw (eqb-zero-suc n) (omega arith)
tally-at (x ∷ t) (pos (suc n)) (suc e) h = rw (eqb-suc-suc e n) (tally-at t (pos n) e (le_of_suc-le-suc h))

-- what a count at n does, where n is read from an index that is not negative
pub record Entry (t : List ℕ) (z : ℤ) (n : ℕ) : Type 0 where
  pub inside : n < length t
  pub small : get_or t n 0 < 4294967295
  pub counted : set t n (get_or t n 0 + 1) ≡ tally t z

entry-is : (t : List ℕ) (z : ℤ) → lt_z z (pos 0) ≡ false → Room t z → Entry t z (nat_abs z)
unfolding Room tally
entry-is t (pos n) e r = record { inside = r.0; small = r.1; counted = refl }
entry-is t (negsuc n) e r = never (sym e)

pub entry_read : {w : Width} {t : List ℕ} {z : ℤ} → SFits w z → lt_z (to_z w (of_z w z)) (pos 0) ≡ false → Room t z → Entry t z (nat_abs (to_z w (of_z w z)))
entry_read {t = t} {z = z} h e r = rw (to_z-of_z h) (entry-is t z (rw (to_z-of_z h) at e) r)

pub none-counted : (t : List ℕ) (z : ℤ) → lt_z z (pos 0) ≡ true → t ≡ tally t z
unfolding tally
none-counted t (pos n) e = absurd (omega (arith, ltb-true n 0 e))
none-counted t (negsuc n) e = refl

-- what stands past the counts keeps
tally-front : (w rest : List ℕ) (z : ℤ) → stray (length w) z ≡ false → tally (w ++ rest) z ≡ tally w z ++ rest
unfolding tally stray
tally-front w rest (pos n) e =
    let h : n < length w = leb-false (length w) n e in
    rw (get_or-append w rest 0 n h, set-append_left w rest n (get_or w n 0 + 1) h)
tally-front w rest (negsuc n) e = refl

-- a pixel more is one more at its entry
counts-more : (k : ℕ) (l : List ℤ) (z : ℤ) → counts_of k (l ++ (z ∷ [])) ≡ tally (counts_of k l) z
counts-more k l z =
    ext_get_or 0 (counts_of k (l ++ (z ∷ []))) (tally (counts_of k l) z)
    (counts-length k (l ++ (z ∷ [])) ∙ sym (tally-length (counts_of k l) z ∙ counts-length k l))
    (λ e h.
    let less : e < k = rw (counts-length k (l ++ (z ∷ []))) at h in
    let less' : e < length (counts_of k l) = rw (counts-length k l) less in
    omega (arith, counts-at k e (l ++ (z ∷ [])) less, count-more (pos e) l z, counts-at k e l less, tally-at (counts_of k l) z e less'))

-- ---- a loop over the pixels: the counts of the first i, then what stood there
pub record Counted (k : ℕ) (l : List ℤ) (rest : List ℕ) (i : ℕ) (out : List ℕ) : Type 0 where
  pub is : out ≡ counts_of k (take i l) ++ rest

-- it starts from zeros
pub counted_none : (k : ℕ) (l : List ℤ) (out rest : List ℕ) → out ≡ replicate k 0 ++ rest → Counted k l rest 0 out
counted_none k l out rest e = record { is = e ∙ rw (counts-none k) }

module _ {k : ℕ} {l : List ℤ} {rest : List ℕ} {i : ℕ} {out : List ℕ} (c : Counted k l rest i out) where
  pub counted-room : length l ≤ 1048576 → (z : ℤ) → stray k z ≡ false → Room out z
  unfolding Room stray
  counted-room h (pos n) e =
      let less : n < k = leb-false k n e in
      let in-front : n < length (counts_of k (take i l)) = rw (counts-length k (take i l)) less in
      rw c.is (
        simp length-append (omega arith),
        rw (get_or-append (counts_of k (take i l)) rest 0 n in-front, counts-at k n (take i l) less) (omega (arith, count_small (pos n) (take i l), length-take i l)),
      )
  counted-room h (negsuc n) e = tt

  pub counted_next : {z : ℤ} {next : List ℕ} → i < length l → z ≡ get_or l i (pos 0) → stray k z ≡ false → next ≡ tally out z → Counted k l rest (i + 1) next
  counted_next {z} h r e v =
      record {
        is =
            rw (v, c.is, take_next l i (pos 0) h, ← r, counts-more k (take i l) z)
            (tally-front (counts_of k (take i l)) rest z (rw (counts-length k (take i l)) e));
      }

  pub counted-all : length l ≤ i → out ≡ counts_of k l ++ rest
  counted-all h = c.is ∙ rw (take_all i l h)
