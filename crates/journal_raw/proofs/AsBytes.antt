-- Bytes are those of the number that they say. Assumes nothing.
use Prim.Native.Nat.{ℕ, ◌+◌, ◌*◌, ◌/◌, ◌%◌, ◌^◌, ◌≤◌, ◌<◌}
use mathlib.Core.Path.{◌≡◌, refl, ap}
use mathlib.Core.List.{List, [], ◌∷◌}
use native.Mathlib.Nat.{pow-suc, pow-zero}
use native.Mathlib.Omega.{arith}
use lib.ListN.{length, take, drop, length-take, length-drop}
use Rattle.base.specs.Lists.{All}
use Rattle.base.proofs.Each.{all_take, all_drop}
use Rattle.journal_record.specs.Bytes.{le, unle, le_at}
use Rattle.journal_raw.specs.Raw.{AllBytes}

le-unle : (l : List ℕ) → AllBytes l → le (length l) (unle l) ≡ l
unfolding le unle All
le-unle [] h = refl
le-unle (b ∷ l) h =
    let small : b < 256 = h.0 in
    let low : (b + 256 * unle l) % 256 ≡ b = omega arith in
    let high : (b + 256 * unle l) / 256 ≡ unle l = omega arith in
    rw (low, high) (ap (λ (r : List ℕ). b ∷ r) (le-unle l h.1))

unle-below : (l : List ℕ) → AllBytes l → unle l < 256 ^ length l
unfolding unle All
unle-below [] h = rw (pow-zero 256) (omega arith)
unle-below (b ∷ l) h =
    let small : b < 256 = h.0 in
    let rest : unle l < 256 ^ length l = unle-below l h.1 in
    rw (pow-suc 256 (length l)) (omega arith)

module _ (k : ℕ) (s : List ℕ) (at : ℕ) (bytes : AllBytes s) (fits : at + k ≤ length s) where
  long : length (take k (drop at s)) ≡ k
  long = simp (length-take, length-drop) (omega arith)

  there : AllBytes (take k (drop at s))
  there = all_take _ k (drop at s) (all_drop _ at s bytes)

  -- k bytes, written as the number that they are
  pub le-again : le k (le_at k s at) ≡ take k (drop at s)
  unfolding le_at
  le-again = rw long at (le-unle (take k (drop at s)) there)

  pub le_at-below : le_at k s at < 256 ^ k
  unfolding le_at
  le_at-below = rw long at (unle-below (take k (drop at s)) there)
