-- The cache: a slot that was filled holds its own colour's entry; the others are as they were. Assumes nothing.
use mathlib.Core.Path.{◌≡◌, refl, ◌∙◌}
use mathlib.Core.List.{List, [], ◌∷◌}
use Prim.Native.Nat.{ℕ, zero, suc, ◌+◌, ◌*◌, ◌/◌, ◌%◌, ◌<◌, ◌≤◌}
use native.Mathlib.Omega.{arith}
use lib.Arith.{digits_div, digits_mod}
use lib.Ieee.{Float}
use lib.ListN.{get_or, set, replicate}
use Rattle.base.specs.declared.Rgb.{Rgb}
use Rattle.base.specs.declared.Lab.{Lab}
use Rattle.color_nearest.proofs.Parts.{nearest-within}
use Rattle.tool_snap.specs.Snap.{entry_of}
use Rattle.tool_snap.specs.Cache.{rgb_of, Numbered, slot_ok, all_ok}

-- a colour's number has its bytes
pub numbered : (c : Rgb) → c.r < 256 → c.g < 256 → c.b < 256 → Numbered c (c.r + 256 * c.g + 65536 * c.b)
unfolding rgb_of
numbered c r g b =
    let n = c.r + 256 * c.g + 65536 * c.b in
    let low : (c.b * 256 + c.g) * 256 + c.r ≡ n = omega arith in
    let high : c.b * 65536 + (c.g * 256 + c.r) ≡ n = omega arith in
    let rest : n / 256 ≡ c.b * 256 + c.g = rw low at (digits_div (c.b * 256 + c.g) r) in
    let first : n % 256 ≡ c.r = rw low at (digits_mod (c.b * 256 + c.g) r) in
    let second : n / 256 % 256 ≡ c.g = rw rest (digits_mod c.b g) in
    let below : c.g * 256 + c.r < 65536 = omega arith in
    let third : n / 65536 ≡ c.b = rw high at (digits_div c.b below) in
    record { colour = rw (first, second, third); small = omega arith }

module _ (curve : Rgb → Lab) (lab : List Float) (k : ℕ) where
  pub entry-small : (c : Rgb) {n : ℕ} → n ≡ entry_of curve lab k c → n ≤ k
  unfolding entry_of
  entry-small c e = rw e (nearest-within (curve c) lab k)

  filled : (c : Rgb) (n f : ℕ) → rgb_of n ≡ c → f ≡ entry_of curve lab k c → f ≤ 255 → slot_ok curve lab k (n * 512 + f + 1)
  unfolding slot_ok
  filled c n f q e h v =
      let colour : (n * 512 + f + 1) / 512 ≡ n = omega arith in
      let entry : (n * 512 + f + 1) % 512 ≡ f + 1 = omega arith in
      rw (colour, q, entry, e)

  all_set : (l : List ℕ) (i v : ℕ) → ((j : ℕ) → slot_ok curve lab k (get_or l j 0)) → slot_ok curve lab k v → (j : ℕ) → slot_ok curve lab k (get_or (set l i v) j 0)
  all_set [] i v ok o j = ok j
  all_set (x ∷ l) zero v ok o zero = o
  all_set (x ∷ l) zero v ok o (suc j) = ok (suc j)
  all_set (x ∷ l) (suc i) v ok o zero = ok zero
  all_set (x ∷ l) (suc i) v ok o (suc j) = all_set l i v (λ m. ok (suc m)) o j

  pub all-filled : (cache : List ℕ) (slot : ℕ) (c : Rgb) (n f : ℕ) → all_ok curve lab k cache → rgb_of n ≡ c → f ≡ entry_of curve lab k c → f ≤ 255 → all_ok curve lab k (set cache slot (n * 512 + f + 1))
  unfolding all_ok
  all-filled cache slot c n f ok q e h = all_set cache slot (n * 512 + f + 1) ok (filled c n f q e h)

  -- a hit
  pub hit : (cache : List ℕ) (slot : ℕ) (c : Rgb) (n : ℕ) → all_ok curve lab k cache → rgb_of n ≡ c → (get_or cache slot 0 ≡ 0 → ⊥) → get_or cache slot 0 / 512 ≡ n
      → get_or cache slot 0 % 512 ≡ entry_of curve lab k c + 1
  unfolding all_ok slot_ok
  hit cache slot c n ok q v e = ok slot v ∙ rw (e, q)

  -- an empty one
  pub all-empty : (n : ℕ) → all_ok curve lab k (replicate n 0)
  unfolding all_ok slot_ok
  all-empty n = go n
    where
      go : (n j : ℕ) → slot_ok curve lab k (get_or (replicate n 0) j 0)
      go zero j = λ v. absurd (v refl)
      go (suc n) zero = λ v. absurd (v refl)
      go (suc n) (suc j) = go n j
