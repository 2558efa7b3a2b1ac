-- Little-endian numbers, over the width: how long they are, how they split, and that what was written is read. Assumes nothing.
use Prim.Native.Nat.{ℕ, zero, suc, ◌+◌, ◌-◌, ◌*◌, ◌/◌, ◌%◌, ◌^◌, ◌≤◌, ◌<◌}
use mathlib.Core.Path.{◌≡◌, refl, sym, ap, ◌∙◌}
use mathlib.Core.List.{List, [], ◌∷◌, ◌++◌}
use native.Mathlib.Nat.{add_assoc, suc-add, zero-add, pow-suc, pow-succ', pow-zero, one-mul, div-one, div-div-eq-div-mul, mul_assoc, mod-eq_of_lt, sub-zero, zero-sub, suc-sub-suc}
use native.Mathlib.Numerals.{add-one}
use native.Mathlib.Omega.{arith}
use lib.Arith.{mod-mul}
use lib.Dec.{lit<}
use lib.ListN.{length, take, drop, get_or, length-take, length-drop}
use lib.Seq.{drop-cons, drop-drop, take_at, drop_at, take-add, take-take, take-nil}
use Rattle.journal_record.specs.Bytes.{le, unle, le_at}

power : (k : ℕ) → 0 < 256 ^ k
power zero = rw (pow-zero 256) (lit< tt)
power (suc k) = rw (pow-suc 256 k) (let h : 0 < 256 ^ k = power k in omega arith)

digits : (k v : ℕ) → v % 256 ^ suc k ≡ (v / 256 % 256 ^ k) * 256 + v % 256
digits k v = rw (pow-suc 256 k) (mod-mul v {m = 256 ^ k} {c = 256} (power k) (lit< tt))

pub length-le : (k v : ℕ) → length (le k v) ≡ k
unfolding le
length-le zero v = refl
length-le (suc k) v = ap suc (length-le k (v / 256))

-- j bytes, and then k bytes of what is left
pub le-add : (j k v : ℕ) → le (j + k) v ≡ le j v ++ le k (v / 256 ^ j)
unfolding le
le-add zero k v = rw (zero-add k, pow-zero 256, div-one v)
le-add (suc j) k v = rw (suc-add j k, pow-succ' 256 j, ← div-div-eq-div-mul v 256 (256 ^ j)) (ap (λ (r : List ℕ). v % 256 ∷ r) (le-add j k (v / 256)))

-- only the k lowest bytes are looked at
pub le-mod : (k v : ℕ) → le k (v % 256 ^ k) ≡ le k v
unfolding le
le-mod zero v = refl
le-mod (suc k) v =
    let e : v % 256 ^ suc k ≡ (v / 256 % 256 ^ k) * 256 + v % 256 = digits k v in
    let low : v % 256 ^ suc k % 256 ≡ v % 256 = omega arith in
    let high : v % 256 ^ suc k / 256 ≡ v / 256 % 256 ^ k = omega arith in
    rw (low, high) (ap (λ (r : List ℕ). v % 256 ∷ r) (le-mod k (v / 256)))

pub unle-le : (k v : ℕ) → unle (le k v) ≡ v % 256 ^ k
unfolding le unle
unle-le zero v = omega arith
unle-le (suc k) v = rw (unle-le k (v / 256), digits k v) (omega arith)

unle-append : (a b : List ℕ) → unle (a ++ b) ≡ unle a + 256 ^ length a * unle b
unfolding unle
unle-append [] b = rw (pow-zero 256, one-mul (unle b), zero-add (unle b))
unle-append (x ∷ a) b = rw (unle-append a b, pow-succ' 256 (length a), mul_assoc 256 (256 ^ length a) (unle b)) (omega arith)

module _ (s : List ℕ) (at : ℕ) where
  -- the lowest byte, and then the others
  le_at-next : (k : ℕ) → at < length s → le_at (suc k) s at ≡ get_or s at 0 + 256 * le_at k s (at + 1)
  unfolding le_at unle
  le_at-next k h = rw (add-one, drop-cons s at 0 h)

  -- j bytes, and then k bytes
  pub le_at-add : (j k : ℕ) → at + j ≤ length s → le_at (j + k) s at ≡ le_at j s at + 256 ^ j * le_at k s (at + j)
  unfolding le_at
  le_at-add j k h =
      let e : length (take j (drop at s)) ≡ j = simp (length-take, length-drop) (omega arith) in
      rw (take-add j k (drop at s), unle-append (take j (drop at s)), e, drop-drop j at s)

-- numbers of few bytes
pub le_at-two : (s : List ℕ) (at : ℕ) → at + 2 ≤ length s → le_at 2 s at ≡ get_or s at 0 + 256 * get_or s (at + 1) 0
unfolding le_at unle
le_at-two s at h = omega (arith, le_at-next s at 1 (omega arith), le_at-next s (at + 1) 0 (omega arith))

pub le_at-three : (s : List ℕ) (at : ℕ) → at + 3 ≤ length s → le_at 3 s at ≡ get_or s at 0 + 256 * (get_or s (at + 1) 0 + 256 * get_or s (at + 2) 0)
le_at-three s at h = le_at-next s at 2 (omega arith) ∙ rw (le_at-two s (at + 1) (omega arith), add_assoc at 1 1)

pub le_at-four : (s : List ℕ) (at : ℕ) → at + 4 ≤ length s → le_at 4 s at ≡ get_or s at 0 + 256 * (get_or s (at + 1) 0 + 256 * (get_or s (at + 2) 0 + 256 * get_or s (at + 3) 0))
le_at-four s at h = le_at-next s at 3 (omega arith) ∙ rw (le_at-three s (at + 1) (omega arith), add_assoc at 1 1, add_assoc at 1 2)

-- what was written is read
pub le_at-of : (k v : ℕ) (s p q : List ℕ) (at : ℕ) → s ≡ p ++ (le k v ++ q) → length p ≡ at → v < 256 ^ k → le_at k s at ≡ v
unfolding le_at
le_at-of k v s p q at e l h = rw (e, drop_at p (le k v ++ q) at l, take_at (le k v) q k (length-le k v), unle-le k v) (mod-eq_of_lt h)

pub drop-take : {A : Type 0} (m n : ℕ) (l : List A) → drop m (take n l) ≡ take (n - m) (drop m l)
drop-take zero n l = rw (sub-zero n)
drop-take (suc m) zero l = rw (zero-sub (suc m))
drop-take (suc m) (suc n) [] = sym (take-nil (suc n - suc m))
drop-take (suc m) (suc n) (x ∷ l) = drop-take m n l ∙ rw (suc-sub-suc n m)

-- of the bytes before an end
pub le_at-take : (k : ℕ) (s : List ℕ) (end at : ℕ) → at + k ≤ end → le_at k (take end s) at ≡ le_at k s at
unfolding le_at
le_at-take k s end at h = rw (drop-take at end s, take-take k (end - at) (drop at s) (omega arith))
