-- A mask that is written a pixel a turn. Assumes nothing.
use mathlib.Core.Path.{◌≡◌, refl, ap, ◌∙◌}
use mathlib.Core.List.{List, [], ◌∷◌, ◌++◌}
use Prim.Native.Nat.{ℕ, suc, ◌+◌, ◌<◌, ◌≤◌}
use native.Mathlib.Omega.{arith}
use lib.IntN.{ℤ, pos}
use lib.ListN.{length, take, drop, get_or, set}
use lib.Seq.{length-take-le, take_all}
use Rattle.sheet_diff.specs.Mask.{differs, mask_of}
use Rattle.sheet.specs.Document.{mark}
use Rattle.sheet.proofs.Front.{take_next, written}

-- a mark for each pixel
pub mask-length : (p q : List ℕ) (l m : List ℤ) → length l ≡ length m → length (mask_of p q l m) ≡ length l
unfolding mask_of
mask-length p q [] m e = refl
mask-length p q (a ∷ l) [] e = absurd (omega arith)
mask-length p q (a ∷ l) (b ∷ m) e = ap suc (mask-length p q l m (omega arith))

-- the mask of the first i pixels, then what stood there
pub record Masked (p q : List ℕ) (l m : List ℤ) (rest : List ℕ) (i : ℕ) (mask : List ℕ) : Type 0 where
  pub is : mask ≡ mask_of p q (take i l) (take i m) ++ drop i rest

mask-more : (p q : List ℕ) (l m : List ℤ) (a b : ℤ) → length l ≡ length m → mask_of p q (l ++ (a ∷ [])) (m ++ (b ∷ [])) ≡ mask_of p q l m ++ (mark (differs p q a b) ∷ [])
unfolding mask_of
mask-more p q [] [] a b e = refl
mask-more p q [] (y ∷ m) a b e = absurd (omega arith)
mask-more p q (x ∷ l) [] a b e = absurd (omega arith)
mask-more p q (x ∷ l) (y ∷ m) a b e = ap (λ (t : List ℕ). mark (differs p q x y) ∷ t) (mask-more p q l m a b (omega arith))

pub masked-none : (p q : List ℕ) (l m : List ℤ) (mask : List ℕ) → Masked p q l m mask 0 mask
unfolding mask_of
masked-none p q l m mask = record { is = refl }

module _ {p q : List ℕ} {l m : List ℤ} {rest : List ℕ} {i : ℕ} {mask : List ℕ} (c : Masked p q l m rest i mask) (same : length l ≡ length m) where
  pub masked-next : {x : ℕ} → i < length l → length l ≤ length rest → x ≡ mark (differs p q (get_or l i (pos 0)) (get_or m i (pos 0))) → Masked p q l m rest (i + 1) (set mask i x)
  masked-next {x} h room e =
      let fl : length (take i l) ≡ i = length-take-le i l (omega arith) in
      let fm : length (take i m) ≡ i = length-take-le i m (omega arith) in
      record {
        is =
            rw (c.is, take_next l i (pos 0) h, take_next m i (pos 0) (omega arith), mask-more p q (take i l) (take i m) (get_or l i (pos 0)) (get_or m i (pos 0)) (omega arith), ← e)
            (written (mask_of p q (take i l) (take i m)) (x ∷ []) rest i (mask-length p q (take i l) (take i m) (omega arith) ∙ fl) (omega arith));
      }

  pub masked-all : i ≤ length l → length l ≤ i → mask ≡ mask_of p q l m ++ drop (length l) rest
  masked-all h k =
      let end : i ≡ length l = omega arith in
      c.is ∙ rw (take_all i l k, take_all i m (omega arith), end)
