-- The changes of a pixel frame, copied one by one. Assumes nothing.
use Prim.Native.Nat.{ℕ, zero, suc, ◌+◌, ◌*◌, ◌/◌, ◌%◌, ◌^◌, ◌<◌}
use mathlib.Core.Path.{◌≡◌, refl, ap, ◌∙◌}
use mathlib.Core.List.{List, [], ◌∷◌, map}
use native.Mathlib.Omega.{arith}
use lib.IntN.{pos}
use lib.ListN.{length, get_or}
use mir.Syntax.{w16}
use mir.Val.{to_z}
use Rattle.edit.specs.Change.{unpacked}
use Rattle.panel_frames.specs.Reading.{change_at, changes_from}

-- ---- one change, put together
module _ (x y z : ℕ) (hx : x < 65536) (hy : y < 65536) (hz : z < 65536) where
  part-x : (x + 65536 * y + 281474976710656 * z) % 2 ^ 16 ≡ x
  part-x = omega arith

  part-y : (x + 65536 * y + 281474976710656 * z) / 2 ^ 16 % 2 ^ 16 ≡ y
  part-y = omega arith

  part-old : (x + 65536 * y + 281474976710656 * z) / 2 ^ 32 % 2 ^ 16 ≡ 0
  part-old = omega arith

  part-new : (x + 65536 * y + 281474976710656 * z) / 2 ^ 48 % 2 ^ 16 ≡ z
  part-new = omega arith

  pub put-together : unpacked (x + 65536 * y + 281474976710656 * z) ≡ record { x = x; y = y; old = pos 0; new = to_z w16 z }
  unfolding unpacked
  put-together = rw (part-x, part-y, part-old, part-new)

-- ---- all of them
module _ (bs : List ℕ) where
  pub length-changes : (i n : ℕ) → length (changes_from bs i n) ≡ n
  unfolding changes_from
  length-changes i zero = refl
  length-changes i (suc n) = ap suc (length-changes (i + 6) n)

  -- numbers that are the changes one by one
  pub changes_all : (cs : List ℕ) (j n : ℕ) → length cs ≡ n → ((k : ℕ) → k < n → unpacked (get_or cs k 0) ≡ change_at bs (j + 6 * k)) → map unpacked cs ≡ changes_from bs j n
  unfolding changes_from
  changes_all [] j zero l h = refl
  changes_all [] j (suc n) l h = absurd (omega (arith, l))
  changes_all (c ∷ cs) j zero l h = absurd (omega (arith, l))
  changes_all (c ∷ cs) j (suc n) l h =
      let first : unpacked c ≡ change_at bs j = h 0 (omega arith) ∙ ap (change_at bs) (omega arith) in
      let rest : map unpacked cs ≡ changes_from bs (j + 6) n = changes_all cs (j + 6) n (omega (arith, l)) (λ k q. h (suc k) (omega arith) ∙ ap (change_at bs) (omega arith)) in
      rw (first, rest)
