-- Pieces that a list names, stored one after the other, and the entries of palette, LAB and marks as such pieces. Assumes nothing.
use mathlib.Core.Path.{◌≡◌, refl, sym, ap, ◌∙◌}
use mathlib.Core.Bool.{Bool, false}
use mathlib.Core.List.{List, [], ◌∷◌, ◌++◌, map, flat_map}
use Prim.Native.Nat.{ℕ, ◌+◌, ◌*◌, ◌<◌, ◌≤◌}
use native.Mathlib.Nat.{mul-le-mul_left}
use native.Mathlib.Omega.{arith}
use borrow.Rule.Slice.PartMut.{put_mid}
use lib.Ieee.{Float, nan}
use lib.ListN.{length, take, drop, get_or, length-append, length-drop}
use lib.Seq.{drop-cons, length-take-le}
use Rattle.base.specs.Lists.{All, over, range}
use Rattle.base.specs.Triples.{rgb_at, lab_at}
use Rattle.base.proofs.Collect.{flat_map-append, flat_map-one}
use Rattle.base.proofs.Each.{at_all, all_take}
use Rattle.base.proofs.Over.{joined}
use Rattle.edit.specs.Locks.{lock_at}
use Rattle.edit.specs.Storage.{bytes_of, numbers_of}
use Rattle.sheet.proofs.Entries.{three, entry}
use Rattle.sheet.proofs.Front.{take_next}
use Rattle.join_model.proofs.Bytes.{colours-front, labs-front, locks-front}
use Rattle.join_model.specs.Stored.{Below}
use Rattle.join_model.proofs.Named.{colours_at, labs_at, locks_at}
use Rattle.join_palette.specs.Pieces.{pieces}

-- piece i of those of n elements ends within 255 of them
inside : (n i : ℕ) → i < 255 → n * i + n ≤ n * 255
inside n i h = let q : i + 1 ≤ 255 = omega arith in omega (arith, mul-le-mul_left n q)

-- so does the one that a list names
pub named_inside : (n : ℕ) (named : List ℕ) (j : ℕ) → Below 255 named → j < length named
    → n * get_or named j 0 + n ≤ n * 255
unfolding Below
named_inside n named j b h = inside n (get_or named j 0) (at_all (λ i. i < 255) 0 named b j h)

module _ {A : Type 0} where
  pub pieces-length : (n : ℕ) (l : List A) (named : List ℕ) → Below 255 named → length l ≡ n * 255
      → length (pieces n l named) ≡ n * length named
  unfolding pieces flat_map Below All
  pieces-length n l [] b e = omega arith
  pieces-length n l (i ∷ named) b e =
      let one : length (take n (drop (n * i) l)) ≡ n =
      length-take-le n (drop (n * i) l) (omega (arith, length-drop (n * i) l, inside n i b.0)) in
      length-append (take n (drop (n * i) l)) (pieces n l named)
      ∙ omega (arith, one, pieces-length n l named b.1 e)

  -- one piece more
  pieces-next : (n : ℕ) (l : List A) (named : List ℕ) (j : ℕ) → j < length named
      → pieces n l (take (j + 1) named) ≡ pieces n l (take j named) ++ take n (drop (n * get_or named j 0) l)
  unfolding pieces
  pieces-next n l named j h =
      let f = λ (i : ℕ). take n (drop (n * i) l) in
      ap (flat_map f) (take_next named j 0 h)
      ∙ flat_map-append f (take j named) (get_or named j 0 ∷ [])
      ∙ ap (λ r. flat_map f (take j named) ++ r) (flat_map-one f (get_or named j 0))

  -- a piece written behind the front
  behind : (f v l s : List A) (n k : ℕ) → length f ≡ n → s ≡ over f l → length v ≡ k
      → put_mid n k s v ≡ over (f ++ v) l
  unfolding over
  behind f v l s n k e q h = rw (q, ← h) (joined f v l n e)

  pub piece_more : (n : ℕ) (l before s v : List A) (named : List ℕ) (j k p : ℕ) → Below 255 named → length l ≡ n * 255
      → j < length named → s ≡ over (pieces n l (take j named)) before
      → v ≡ take p (drop (n * get_or named j 0) l) → p ≡ n → k ≡ n
      → put_mid (n * j) k s v ≡ over (pieces n l (take (j + 1) named)) before
  unfolding Below
  piece_more n l before s v named j k p b e h q r t m =
      let i = get_or named j 0 in
      let is = rw t at r in
      let one : length v ≡ k =
      ap length is ∙ length-take-le n (drop (n * i) l) (omega (arith, length-drop (n * i) l, named_inside n named j b h)) ∙ sym m in
      let long : length (pieces n l (take j named)) ≡ n * j =
      pieces-length n l (take j named) (all_take (λ i. i < 255) j named b) e
      ∙ ap (λ (m : ℕ). n * m) (length-take-le j named (omega arith)) in
      behind (pieces n l (take j named)) v before s (n * j) k long q one
      ∙ ap (λ r. over r before) (ap (λ r. pieces n l (take j named) ++ r) is ∙ sym (pieces-next n l named j h))

-- ---- entries are such pieces
module _ {A : Type 0} (n : ℕ) (l : List A) (f : ℕ → List A)
    (same : (i : ℕ) → i < 255 → take n (drop (n * i) l) ≡ f i) where
  pieces-are : (named : List ℕ) → Below 255 named → pieces n l named ≡ flat_map f named
  unfolding pieces flat_map Below All
  pieces-are [] b = refl
  pieces-are (i ∷ named) b = ap (λ r. r ++ pieces n l named) (same i b.0) ∙ ap (λ r. f i ++ r) (pieces-are named b.1)

pieces-colours : (l named : List ℕ) → Below 255 named → length l ≡ 765 → pieces 3 l named ≡ colours_at l named
unfolding colours_at
pieces-colours l named b e = pieces-are 3 l (λ (i : ℕ). bytes_of (rgb_at l i)) (λ i h. entry l i (omega arith)) named b

pieces-labs : (l : List Float) (named : List ℕ) → Below 255 named → length l ≡ 765 → pieces 3 l named ≡ labs_at l named
unfolding labs_at lab_at
pieces-labs l named b e =
    pieces-are 3 l (λ (i : ℕ). numbers_of (lab_at l i)) (λ i h. three l (3 * i) nan (omega arith)) named b

pieces-locks : (l : List Bool) (named : List ℕ) → Below 255 named → length l ≡ 255 → pieces 1 l named ≡ locks_at l named
unfolding locks_at flat_map
pieces-locks l named b e = pieces-are 1 l (λ (i : ℕ). lock_at l i ∷ []) one named b ∙ single named
  where
    one : (i : ℕ) → i < 255 → take 1 (drop (1 * i) l) ≡ lock_at l i ∷ []
    one i h = let q : 1 * i ≡ i = omega arith in rw (q, drop-cons l i false (omega arith))

    single : (is : List ℕ) → flat_map (λ (i : ℕ). lock_at l i ∷ []) is ≡ map (lock_at l) is
    single [] = refl
    single (i ∷ is) = ap (λ r. lock_at l i ∷ r) (single is)

-- the first's k entries, then those of the second
module _ (k : ℕ) (named : List ℕ) (h : k ≤ 255) (b : Below 255 named) where
  pub joined-colours : (l m : List ℕ) → length l ≡ 765 → length m ≡ 765
      → take (3 * k) l ++ pieces 3 m named ≡ colours_at l (range 0 k) ++ colours_at m named
  joined-colours l m p q = rw (colours-front k l (omega arith), pieces-colours m named b q)

  pub joined-labs : (l m : List Float) → length l ≡ 765 → length m ≡ 765
      → take (3 * k) l ++ pieces 3 m named ≡ labs_at l (range 0 k) ++ labs_at m named
  joined-labs l m p q = rw (labs-front k l (omega arith), pieces-labs m named b q)

  pub joined-locks : (l m : List Bool) → length l ≡ 255 → length m ≡ 255
      → take (1 * k) l ++ pieces 1 m named ≡ locks_at l (range 0 k) ++ locks_at m named
  joined-locks l m p q =
      let one : 1 * k ≡ k = omega arith in
      rw (one, locks-front k l (omega arith), pieces-locks m named b q)
