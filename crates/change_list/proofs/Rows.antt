-- The changes between two pictures, row by row, in numbers. Assumes nothing.
use Prim.Native.Nat.{ℕ, suc, ◌+◌, ◌-◌, ◌*◌, ◌/◌, ◌%◌, ◌≤◌, ◌<◌, ◌^◌}
use mathlib.Core.Path.{◌≡◌, refl, sym, ap, ◌∙◌}
use mathlib.Core.Bool.{Bool, true, false, cond}
use mathlib.Core.List.{List, [], ◌∷◌, ◌++◌, map, append_assoc, append-nil}
use native.Mathlib.Omega.{arith}
use native.Mathlib.Decide.{ℕ_discrete}
use native.Mathlib.Numerals.{add-one}
use native.Mathlib.Nat.{add-zero, zero-add, add-mul, suc-mul, mul-le-mul_right}
use borrow.Author.Tests.{eq-eqb, ne_eqb}
use lib.Dec.{eqb}
use lib.Arith.{digits_div, digits_mod}
use lib.IntN.{ℤ, pos}
use lib.ListN.{length, take, drop, get_or, set, length-drop, drop_of_length-le}
use lib.Seq.{drop-cons, drop-drop, get_or-drop, length-take-le, take-add}
use mir.Syntax.{w16}
use lib.Signed.{mag}
use mir.Val.{Fits, SFits, to_z, of_z, hbits}
use mir.ValLaws.{of_z-to_z, to_z-Fits}
use Rattle.base.specs.Ints.{eq_z}
use Rattle.base.proofs.Back.{eq-back, by_value}
use Rattle.edit.specs.Change.{packed}
use Rattle.base.specs.Lists.{All}
use Rattle.base.proofs.Each.{all-at}
use Rattle.change_list.specs.Between.{between_from, laid_out, rows_of, between_rows, HasRows, difference_of, row_from}
use Rattle.change_list.specs.Fronts.{Front, Put}
use Rattle.change_list.proofs.Fronts.{front_of, put-one, put-none}
use Rattle.change_list.proofs.Parts.{rows-read, length-rows, no_rows}

-- the index that a number's lowest 16 bits are
abbrev index_of : ℕ → ℤ
index_of v = to_z w16 (v % 2 ^ 16)

fits : (v : ℕ) → Fits w16 (v % 2 ^ 16)
fits v = record { fits = omega arith }

same_bits : (a : ℤ) (v : ℕ) → SFits w16 a → eq_z a (index_of v) ≡ eqb (of_z w16 a) (v % 2 ^ 16)
same_bits a v h = sym (eq-back h (to_z-Fits w16 (v % 2 ^ 16) (fits v))) ∙ ap (eqb (of_z w16 a)) (of_z-to_z w16 (v % 2 ^ 16) (fits v))

-- one place of row y
module _ (w y x : ℕ) (h : x < w) (a : ℤ) (v : ℕ) (f : SFits w16 a) where
  numbered : packed (record { x = (y * w + x) % w; y = (y * w + x) / w; old = a; new = index_of v }) ≡ y * 2 ^ 16 + x + of_z w16 a * 2 ^ 32 + v % 2 ^ 16 * 2 ^ 48
  unfolding packed
  numbered = rw (digits_mod y h, digits_div y h, of_z-to_z w16 (v % 2 ^ 16) (fits v)) (omega arith)

  one_place : (l m : List ℤ) → map packed (between_from w (y * w + x) (a ∷ l) (index_of v ∷ m))
      ≡ difference_of (y * 2 ^ 16 + x) (of_z w16 a) (v % 2 ^ 16) ++ map packed (between_from w (suc (y * w + x)) l m)
  unfolding between_from difference_of
  one_place l m = rw (same_bits a v f) (pick (eqb (of_z w16 a) (v % 2 ^ 16)))
    where
      pick : (b : Bool) → map packed (cond b (between_from w (suc (y * w + x)) l m) (record { x = (y * w + x) % w; y = (y * w + x) / w; old = a; new = index_of v } ∷ between_from w (suc (y * w + x)) l m))
          ≡ cond b [] ((y * 2 ^ 16 + x + of_z w16 a * 2 ^ 32 + v % 2 ^ 16 * 2 ^ 48) ∷ []) ++ map packed (between_from w (suc (y * w + x)) l m)
      pick true = refl
      pick false = rw numbered

-- what is left of row y, and then the rows below
pub row-between : (w y x : ℕ) (row l : List ℤ) (vs : List ℕ) → length row ≤ length vs → x + length row ≤ w → All (SFits w16) row
    → map packed (between_from w (y * w + x) (row ++ l) (map index_of vs))
    ≡ row_from (y * 2 ^ 16 + x) row vs ++ map packed (between_from w (y * w + (x + length row)) l (map index_of (drop (length row) vs)))
unfolding row_from All
row-between w y x [] l vs e h f = rw (add-zero x)
row-between w y x (a ∷ row) l [] e h f = absurd (omega arith)
row-between w y x (a ∷ row) l (v ∷ vs) e h f =
    let next : suc (y * w + x) ≡ y * w + suc x = omega arith in
    let place : suc (y * 2 ^ 16 + x) ≡ y * 2 ^ 16 + suc x = omega arith in
    let end : x + suc (length row) ≡ suc x + length row = omega arith in
    let below : List ℕ = map packed (between_from w (y * w + (x + suc (length row))) l (map index_of (drop (length row) vs))) in
    let rest : map packed (between_from w (suc (y * w + x)) (row ++ l) (map index_of vs)) ≡ row_from (suc (y * 2 ^ 16 + x)) row vs ++ below =
    rw (next, place, end) (row-between w y (suc x) row l vs (omega arith) (omega arith) f.1) in
    one_place w y x (omega arith) a v f.0 (row ++ l) (map index_of vs)
    ∙ ap (λ (k : List ℕ). difference_of (y * 2 ^ 16 + x) (of_z w16 a) (v % 2 ^ 16) ++ k) rest
    ∙ sym (append_assoc (difference_of (y * 2 ^ 16 + x) (of_z w16 a) (v % 2 ^ 16)) (row_from (suc (y * 2 ^ 16 + x)) row vs) below)

-- row y of k + 1, and the rows from z on, the next
row-splits : (w y z k : ℕ) (l : List ℤ) (vs : List ℕ) → z * w ≡ y * w + w → y * w + w ≤ length l → length l ≤ length vs
    → All (SFits w16) (take w (drop (y * w) l))
    → map packed (between_from w (y * w) (rows_of w y (suc k) l) (map index_of (drop (y * w) vs)))
    ≡ row_from (y * 2 ^ 16) (take w (drop (y * w) l)) (drop (y * w) vs) ++ map packed (between_from w (z * w) (rows_of w z k l) (map index_of (drop (z * w) vs)))
unfolding rows_of
row-splits w y z k l vs next h e f =
    let row : List ℤ = take w (drop (y * w) l) in
    let below : List ℤ = take (k * w) (drop (y * w + w) l) in
    let lr : length row ≡ w = length-take-le w (drop (y * w) l) (omega (arith, length-drop (y * w) l)) in
    let size : suc k * w ≡ w + k * w = omega (arith, suc-mul k w) in
    let split : take (suc k * w) (drop (y * w) l) ≡ row ++ below =
    ap (λ (n : ℕ). take n (drop (y * w) l)) size ∙ take-add w (k * w) (drop (y * w) l) ∙ ap (λ (m : List ℤ). row ++ take (k * w) m) (drop-drop w (y * w) l) in
    rw (split, next)
    (rw (lr, zero-add, add-zero (y * w), add-zero (y * 2 ^ 16), drop-drop w (y * w) vs)
    at (row-between w y 0 row below (drop (y * w) vs) (omega (arith, lr, length-drop (y * w) vs)) (omega (arith, lr)) f))

-- more bits than there are indices
pub between-take : (w p : ℕ) (l m : List ℤ) → between_from w p l m ≡ between_from w p l (take (length l) m)
unfolding between_from
between-take w p [] m = refl
between-take w p (a ∷ l) [] = refl
between-take w p (a ∷ l) (b ∷ m) = rw (← between-take w (suc p) l m)

-- ---- one difference
module _ (l : List ℕ) (m k old new : ℕ) where
  pub put-alike : old ≡ new → Put l m (difference_of k old new) (m + 1) l m
  unfolding difference_of
  put-alike e = rw (eq-eqb old new e) (put-none l m)

  pub put_other : (old ≡ new → ⊥) → m < length l → Put l m (difference_of k old new) (m + 1) (set l m (k + old * 2 ^ 32 + new * 2 ^ 48)) (m + 1)
  unfolding difference_of
  put_other n h = rw (ne_eqb old new n) (put-one l m (k + old * 2 ^ 32 + new * 2 ^ 48) h)

-- ---- one row, as the loop writes it
module _ (row : List ℤ) (first at : ℕ) (s₀ : List ℕ) (m₀ : ℕ) where
  pub record Rowing (s : List ℕ) (m x : ℕ) : Type 0 where
    pub low : m ≤ at + x
    pub behind : drop (at + x) s ≡ drop (at + x) s₀
    pub fits : (i : ℕ) → i < x → SFits w16 (get_or row i (pos 0))
    pub done : take m s ++ row_from (first + x) (drop x row) (drop (at + x) s₀) ≡ take m₀ s₀ ++ row_from first row (drop at s₀)

  module _ {s : List ℕ} {m x : ℕ} (r : Rowing s m x) where
    -- what is read is a bit pattern of the picture
    read : get_or s (at + x) 0 ≡ get_or s₀ (at + x) 0
    read = rw (add-zero (at + x)) at (sym (get_or-drop (at + x) s 0 0) ∙ ap (λ (l : List ℕ). get_or l 0 0) r.behind ∙ get_or-drop (at + x) s₀ 0 0)

    module _ (h : x < length row) (fit : at + length row ≤ length s₀) where
      next : row_from (first + x) (drop x row) (drop (at + x) s₀)
          ≡ difference_of (first + x) (of_z w16 (get_or row x (pos 0))) (get_or s₀ (at + x) 0 % 2 ^ 16) ++ row_from (first + (x + 1)) (drop (x + 1) row) (drop (at + (x + 1)) s₀)
      unfolding row_from
      next =
          let a : first + (x + 1) ≡ suc (first + x) = omega arith in
          let b : at + (x + 1) ≡ suc (at + x) = omega arith in
          let c : x + 1 ≡ suc x = omega arith in
          rw (drop-cons row x (pos 0) h, drop-cons s₀ (at + x) 0 (omega arith), a, b, c)

      pub rowing-next : {s' : List ℕ} {old new r' : ℕ} → mag (get_or row x (pos 0)) < 2 ^ hbits w16 → old ≡ of_z w16 (to_z w16 (of_z w16 (get_or row x (pos 0)))) → new ≡ get_or s (at + x) 0 % 2 ^ 16
          → Put s m (difference_of (first + x) old new) (m + 1) s' r' → Rowing s' r' (x + 1)
      rowing-next {s'} {old} {new} {r'} g e f u =
          let fit-here : SFits w16 (get_or row x (pos 0)) = record { sfits = g } in
          let lo = r.low in
          let mo = u.most in
          let more : ℕ = at + x - m in
          let z : m + 1 + more ≡ at + (x + 1) = omega arith in
          let one : at + x + 1 ≡ at + (x + 1) = omega arith in
          let kept : drop (at + (x + 1)) s' ≡ drop (at + (x + 1)) s =
          rw (← z) (sym (drop-drop more (m + 1) s') ∙ ap (drop more) u.behind ∙ drop-drop more (m + 1) s) in
          let rest : List ℕ = row_from (first + (x + 1)) (drop (x + 1) row) (drop (at + (x + 1)) s₀) in
          let here : difference_of (first + x) old new ≡ difference_of (first + x) (of_z w16 (get_or row x (pos 0))) (get_or s₀ (at + x) 0 % 2 ^ 16) = rw (by_value (of_z w16) fit-here e, f, read) in
          record {
            low = omega arith;
            behind = kept ∙ rw (← one) (sym (drop-drop 1 (at + x) s) ∙ ap (drop 1) r.behind ∙ drop-drop 1 (at + x) s₀);
            fits = λ i k. elim (ℕ_discrete i x) [ yes q ↦ rw q fit-here | no q ↦ r.fits i (omega arith) ];
            done = ap (λ (k : List ℕ). k ++ rest) u.front ∙ append_assoc (take m s) (difference_of (first + x) old new) rest
                ∙ ap (λ (k : List ℕ). take m s ++ k) (ap (λ (k : List ℕ). k ++ rest) here ∙ sym next) ∙ r.done;
          }

    pub rowing-end : x ≡ length row → Put s₀ m₀ (row_from first row (drop at s₀)) (at + length row) s m
    unfolding row_from
    rowing-end e =
        let none : drop x row ≡ [] = drop_of_length-le row (omega arith) in
        record {
          front = sym (append-nil (take m s)) ∙ (rw none at r.done);
          most = rw (← e) r.low;
          behind = rw (← e) r.behind;
        }

    pub rowing-fits : length row ≤ x → All (SFits w16) row
    rowing-fits h = all-at (SFits w16) (pos 0) row (λ i k. r.fits i (omega arith))

-- ---- count rows from `first` on
module _ (w first count : ℕ) (l : List ℤ) (s₀ : List ℕ) where
  -- the changes of the rows from y on
  abbrev left : ℕ → List ℕ
  left y = map packed (between_from w (y * w) (rows_of w y (first + count - y) l) (map index_of (drop (y * w) s₀)))

  pub record Listing (s : List ℕ) (m y : ℕ) : Type 0 where
    pub low : m ≤ y * w
    pub behind : drop (y * w) s ≡ drop (y * w) s₀
    pub done : take m s ++ left y ≡ left first

  -- row y as it is lent
  abbrev lent : ℕ → List ℤ
  lent y = take (y * w + w - y * w) (drop (y * w) l)

  module _ (in-picture : HasRows w first count (length l) (length s₀)) {s : List ℕ} {m y : ℕ} (g : Listing s m y) where
    module _ (k : y < first + count) where
      pub row_inside : y * w + w ≤ length l
      row_inside = let i = in-picture.inside in omega (arith, suc-mul y w, mul-le-mul_right w k)

      length-lent : length (lent y) ≡ w
      length-lent = length-take-le (y * w + w - y * w) (drop (y * w) l) (omega (arith, length-drop (y * w) l, row_inside)) ∙ omega arith

      pub listing-next : first ≤ y → All (SFits w16) (lent y) → {s' : List ℕ} {r : ℕ}
          → Put s m (row_from (y * 2 ^ 16) (lent y) (drop (y * w) s)) (y * w + length (lent y)) s' r → Listing s' r (y + 1)
      listing-next b f {s'} {r} u =
          let wide : y * w + w - y * w ≡ w = omega arith in
          let nx : (y + 1) * w ≡ y * w + w = rw add-one (omega (arith, suc-mul y w)) in
          let end : y * w + length (lent y) ≡ (y + 1) * w = omega (arith, length-lent) in
          let more : first + count - y ≡ suc (first + count - (y + 1)) = omega arith in
          let split : left y ≡ row_from (y * 2 ^ 16) (lent y) (drop (y * w) s₀) ++ left (y + 1) =
          rw (more, wide) (row-splits w y (y + 1) (first + count - (y + 1)) l s₀ nx row_inside in-picture.roomy (rw wide at f)) in
          let n : ℕ = length (lent y) in
          let passed : drop (y * w + n) s ≡ drop (y * w + n) s₀ = sym (drop-drop n (y * w) s) ∙ ap (drop n) g.behind ∙ drop-drop n (y * w) s₀ in
          record {
            low = rw (← end) u.most;
            behind = rw (← end) (u.behind ∙ passed);
            done = ap (λ (b : List ℕ). b ++ left (y + 1)) (u.front ∙ ap (λ (b : List ℕ). take m s ++ row_from (y * 2 ^ 16) (lent y) b) g.behind)
                ∙ append_assoc (take m s) (row_from (y * 2 ^ 16) (lent y) (drop (y * w) s₀)) (left (y + 1))
                ∙ ap (λ (b : List ℕ). take m s ++ b) (sym split) ∙ g.done;
          }

    pub listing-end : length s ≡ length s₀ → y ≡ first + count → Front (map packed (between_rows w first count l (laid_out (length l) s₀))) s m
    unfolding between_rows between_from
    listing-end lg e =
        let i = in-picture.inside in
        let o = in-picture.roomy in
        let lo = g.low in
        let fits : first * w + count * w ≤ length l = omega (arith, add-mul first count w) in
        let rows : length (rows_of w first count l) ≡ count * w = length-rows w first count l fits in
        let z : first + count - first ≡ count = omega arith in
        front_of
        (sym (append-nil (take m s)) ∙ ap (λ (x : List ℕ). take m s ++ x) (sym none_left) ∙ (rw z at g.done)
        ∙ ap (map packed) (between-take w (first * w) (rows_of w first count l) (map index_of (drop (first * w) s₀))
        ∙ ap (λ (n : ℕ). between_from w (first * w) (rows_of w first count l) (take n (map index_of (drop (first * w) s₀)))) rows
        ∙ ap (between_from w (first * w) (rows_of w first count l)) (sym (rows-read w first count (length l) s₀ fits))))
        (omega (arith, (rw e at lo)))
      where
        none_left : left y ≡ []
        none_left = let z : first + count - y ≡ 0 = omega arith in rw (z, no_rows w y l)
