-- The scan for a pixel of the entry that is not remapped, by the marks. Assumes nothing.
use mathlib.Core.Path.{◌≡◌, refl, sym, ap, ◌∙◌}
use mathlib.Core.Bool.{Bool, true, false, not, ◌&&◌, ◌||◌, or-true}
use mathlib.Core.List.{List, [], ◌∷◌}
use Prim.Native.Nat.{ℕ, zero, suc, ◌+◌, ◌-◌, ◌*◌, ◌<◌, ◌≤◌}
use native.Mathlib.Omega.{arith}
use native.Mathlib.Nat.{le_of_suc-le-suc, not-suc-le-zero, zero-lt-suc, add-zero, zero-add, add-suc, suc-add, add_assoc, suc-mul, zero-mul, mul_comm, le_antisymm, mul-le-mul_right}
use native.Mathlib.Numerals.{add-one}
use borrow.Author.Count.{below_more}
use lib.Dec.{eqb}
use lib.IntN.{ℤ, pos}
use lib.ListN.{length, get_or, take, drop, length-drop, length-take}
use lib.Seq.{get_or-take, get_or-drop, length-take-le}
use mir.Syntax.{w16}
use mir.Val.{to_z, of_z, SFits}
use Rattle.std.proofs.Common.{⊎_elim}
use Rattle.std.proofs.lemmas.Bool.{cases_lt}
use Rattle.base.specs.Lists.{some, range}
use Rattle.base.proofs.Scan.{Flagged, flag-step, flag-end, some-none}
use Rattle.base.proofs.Collect.{length-range}
use Rattle.base.specs.Ints.{eq_z}
use Rattle.base.proofs.Back.{by_value}
use Rattle.edit.specs.Change.{Change}
use Rattle.edit.specs.Checks.{named, left_from}
use Rattle.edit_pixels.specs.Inside.{marked, Marks, left_at}

-- as the code reads it
pub left-read : (i : ℕ) (l : List ℤ) (marks : List ℕ) (q : ℕ) {z : ℤ} {m : ℕ} {r : Bool} → z ≡ get_or l q (pos 0) → m ≡ get_or marks q 0
    → r ≡ eq_z (to_z w16 (of_z w16 z)) (pos i) && eqb m 0 → SFits w16 z → left_at i l marks q ≡ r
left-read i l marks q {z} {m} at mark e h = sym (by_value {w = w16} (λ y. eq_z y (pos i) && eqb m 0) h e ∙ rw (at, mark))

-- ---- a part of the sheet, and of the marks
part_length : {A : Type 0} (a n : ℕ) (l : List A) → a + n ≤ length l → length (take n (drop a l)) ≡ n
part_length a n l h = length-take-le n (drop a l) (rw (length-drop a l) (omega arith))

pub parts_same : {A B : Type 0} (a n : ℕ) (l : List A) (m : List B) → length m ≡ length l → length (take n (drop a m)) ≡ length (take n (drop a l))
parts_same a n l m e = rw (length-take n (drop a m), length-take n (drop a l), length-drop a m, length-drop a l, e)

left-part : (i : ℕ) (l : List ℤ) (marks : List ℕ) (a n x : ℕ) → x < n → left_at i (take n (drop a l)) (take n (drop a marks)) x ≡ left_at i l marks (a + x)
left-part i l marks a n x h = rw (get_or-take n (drop a l) x (pos 0) h, get_or-drop a l x (pos 0), get_or-take n (drop a marks) x 0 h, get_or-drop a marks x 0)

-- ---- the scan of a row, which has no early exit: the flag says whether one of the first x is
range_at : (s n x : ℕ) → x < n → get_or (range s n) x 0 ≡ s + x
unfolding range
range_at s zero x h = absurd (not-suc-le-zero h)
range_at s (suc n) zero h = sym (add-zero s)
range_at s (suc n) (suc x) h = range_at (suc s) n x (le_of_suc-le-suc h) ∙ suc-add s x ∙ sym (add-suc s x)

module _ (p : ℕ → Bool) (n : ℕ) where
  at_place : (x : ℕ) → x < n → p (get_or (range 0 n) x 0) ≡ p x
  at_place x h = ap p (range_at 0 n x h ∙ zero-add x)

  pub row_step : {x : ℕ} {flag t u : Bool} → Flagged p (range 0 n) x flag → x < n → p x ≡ t → u ≡ flag || t → Flagged p (range 0 n) (x + 1) u
  row_step {x} f h e g = flag-step 0 f (rw (length-range 0 n) h) (sym (at_place x h ∙ e)) g

  pub row-end : {x : ℕ} {flag : Bool} → Flagged p (range 0 n) x flag → n ≤ x → flag ≡ some p (range 0 n)
  row-end f h = flag-end f (rw (length-range 0 n) h)

  -- where none is, the one at x is not
  pub row-not : some p (range 0 n) ≡ false → (x : ℕ) → x < n → p x ≡ false
  row-not e x h = sym (at_place x h) ∙ some-none p (range 0 n) x 0 e (rw (length-range 0 n) h)

-- none of the first n is
pub record NoneLeft (i : ℕ) (l : List ℤ) (marks : List ℕ) (n : ℕ) : Type 0 where
  none : (q : ℕ) → q < n → left_at i l marks q ≡ false

-- ---- the definition, by the pixel at a place
module _ (w i : ℕ) (cs : List Change) where
  from-none : (l : List ℤ) (p : ℕ) → ((q : ℕ) → q < length l → eq_z (get_or l q (pos 0)) (pos i) && not (named w cs (p + q)) ≡ false) → left_from w i cs p l ≡ false
  unfolding left_from
  from-none [] p f = refl
  from-none (z ∷ l) p f =
      let first : eq_z z (pos i) && not (named w cs p) ≡ false = rw (add-zero p) at (f 0 (zero-lt-suc (length l))) in
      rw first (from-none l (suc p) (λ q h. rw (suc-add p q, ← add-suc p q) (f (suc q) (omega arith))))

  from-hit : (l : List ℤ) (p q : ℕ) → q < length l → eq_z (get_or l q (pos 0)) (pos i) && not (named w cs (p + q)) ≡ true → left_from w i cs p l ≡ true
  unfolding left_from
  from-hit [] p q h e = absurd (not-suc-le-zero h)
  from-hit (z ∷ l) p zero h e = let first : eq_z z (pos i) && not (named w cs p) ≡ true = rw (add-zero p) at e in rw first
  from-hit (z ∷ l) p (suc q) h e =
      rw (from-hit l (suc p) q (le_of_suc-le-suc h) (rw (suc-add p q, ← add-suc p q) e)) (or-true (eq_z z (pos i) && not (named w cs p)))

-- ---- the same by the marks
not-not : (b : Bool) → b ≡ not (not b)
not-not true = refl
not-not false = refl

module _ (i : ℕ) (l : List ℤ) (marks : List ℕ) {w : ℕ} {cs : List Change} (m : Marks w cs marks) where
  by-mark : (q : ℕ) → q < length marks → left_at i l marks q ≡ (eq_z (get_or l q (pos 0)) (pos i) && not (named w cs (0 + q)))
  unfolding marked
  by-mark q h = rw (zero-add q, ← m.says q h) (ap (λ (b : Bool). eq_z (get_or l q (pos 0)) (pos i) && b) (not-not (eqb (get_or marks q 0) 0)))

  -- what the scan answers
  pub left-hit : (q : ℕ) → q < length l → q < length marks → left_at i l marks q ≡ true → true ≡ left_from w i cs 0 l
  left-hit q h k e = sym (from-hit w i cs l 0 q h (sym (by-mark q k) ∙ e))

  left-none : length marks ≡ length l → NoneLeft i l marks (length l) → false ≡ left_from w i cs 0 l
  left-none s all = sym (from-none w i cs l 0 (λ q k. sym (by-mark q (rw s k)) ∙ all.none q k))

-- ---- the scan over rows and columns
pub row_ends : (w : ℕ) {h y : ℕ} → y < h → y * w + w ≤ w * h
row_ends w {h} {y} a = omega (arith, mul-le-mul_right w a, suc-mul y w, mul_comm h w)

module _ {i : ℕ} {l : List ℤ} {marks : List ℕ} {n : ℕ} (p : NoneLeft i l marks n) where
  none_is : {m : ℕ} → n ≡ m → NoneLeft i l marks m
  none_is e = rw e at p

  none_more : left_at i l marks n ≡ false → NoneLeft i l marks (n + 1)
  none_more e = record { none = below_more (λ q. left_at i l marks q ≡ false) n p.none e }

module _ {i : ℕ} {l : List ℤ} {marks : List ℕ} where
  pub none_yet : (w : ℕ) → NoneLeft i l marks (0 * w)
  none_yet w = none_is (record { none = λ q h. absurd (not-suc-le-zero h) }) (sym (zero-mul w))

  pub none-start : (y w : ℕ) → NoneLeft i l marks (y * w) → NoneLeft i l marks (y * w + 0)
  none-start y w p = none_is p (sym (add-zero (y * w)))

  pub none-column : (a x : ℕ) → NoneLeft i l marks (a + x) → left_at i l marks (a + x) ≡ false → NoneLeft i l marks (a + (x + 1))
  none-column a x p e = none_is (none_more p e) (add_assoc a x 1)

  pub none_row : (y w x : ℕ) → NoneLeft i l marks (y * w + x) → x ≤ w → w ≤ x → NoneLeft i l marks ((y + 1) * w)
  none_row y w x p h k = none_is p (ap (λ (n : ℕ). y * w + n) (le_antisymm h k) ∙ sym (suc-mul y w) ∙ ap (λ (n : ℕ). n * w) (sym (add-one y)))

  -- a row in which none is
  row-after : (y w : ℕ) → NoneLeft i l marks (y * w) → ((x : ℕ) → x < w → left_at i l marks (y * w + x) ≡ false) → NoneLeft i l marks ((y + 1) * w)
  row-after y w p f = record { none = λ q h. ⊎_elim (λ before. p.none q before) (λ past. on q h past) (cases_lt q (y * w)) }
    where
      on : (q : ℕ) → q < (y + 1) * w → y * w ≤ q → left_at i l marks q ≡ false
      on q h past =
          let e : y * w + (q - y * w) ≡ q = omega (arith, past) in
          rw e at (f (q - y * w) (omega (arith, h, past, suc-mul y w)))

  pub none_rows : (y w h : ℕ) → NoneLeft i l marks (y * w) → y ≤ h → h ≤ y → length l ≡ w * h → length marks ≡ w * h → {cs : List Change} → Marks w cs marks → false ≡ left_from w i cs 0 l
  none_rows y w h p a b e s m = left-none i l marks m (s ∙ sym e) (none_is p (ap (λ (n : ℕ). n * w) (le_antisymm a b) ∙ mul_comm h w ∙ sym e))

-- ---- a row of the sheet, as a part of it
module _ (i : ℕ) (l : List ℤ) (marks : List ℕ) (y w n : ℕ) (e : n ≡ w) (h : y * w + w ≤ length l) where
  long : length (take n (drop (y * w) l)) ≡ w
  long = part_length (y * w) n l (omega arith) ∙ e

  pub row-clear : NoneLeft i l marks (y * w) → some (left_at i (take n (drop (y * w) l)) (take n (drop (y * w) marks))) (range 0 (length (take n (drop (y * w) l)))) ≡ false
      → NoneLeft i l marks ((y + 1) * w)
  row-clear p none =
      row-after y w p (λ x k. sym (left-part i l marks (y * w) n x (omega arith)) ∙ row-not (left_at i (take n (drop (y * w) l)) (take n (drop (y * w) marks))) _ none x (rw long k))
