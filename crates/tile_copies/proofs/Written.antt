-- What is written of a number is what it has pending, where old and new differ, as one number. Assumes nothing.
use Prim.Native.Nat.{ℕ, ◌+◌, ◌*◌, ◌/◌, ◌%◌, ◌<◌, ◌^◌}
use mathlib.Core.Path.{◌≡◌, refl, sym}
use mathlib.Core.Bool.{Bool, true, false, not, cond}
use mathlib.Core.List.{List, [], ◌∷◌, map}
use native.Mathlib.Omega.{arith}
use lib.Dec.{eqb}
use lib.IntN.{ℤ, pos}
use lib.ListN.{get_or}
use mir.Syntax.{w16}
use mir.Val.{SFits, to_z, of_z}
use mir.ValLaws.{of_z-to_z, to_z-of_z, of_z_fits}
use Rattle.edit.specs.Change.{packed}
use Rattle.change_normal.specs.Normal.{changing}
use Rattle.base.specs.Lists.{kept}
use Rattle.change_list.specs.Between.{difference_of}
use Rattle.change_normal.proofs.Packing.{eq_z-bits}
use Rattle.tile_marks.specs.Marks.{new_bits}
use Rattle.tile_copies.specs.Pending.{old_in, emitted}
use Rattle.tile_copies.proofs.AtPlace.{waitingAt}

module _ (w : ℕ) (l : List ℤ) (p v : ℕ) (fits : SFits w16 (get_or l p (pos 0))) where
  abbrev bits : ℕ
  bits = old_in (of_z w16 (get_or l p (pos 0))) v

  bits_small : bits < 2 ^ 16
  unfolding old_in
  bits_small = pick (eqb (v / 2 ^ 43 % 2) 1)
    where
      pick : (b : Bool) → cond b (v % 2 ^ 16) (of_z w16 (get_or l p (pos 0))) < 2 ^ 16
      pick true = omega arith
      pick false = (of_z_fits w16 (get_or l p (pos 0)) fits).fits

  bits-old : cond (eqb (v / 2 ^ 43 % 2) 1) (to_z w16 (v % 2 ^ 16)) (get_or l p (pos 0)) ≡ to_z w16 bits
  unfolding old_in
  bits-old = pick (eqb (v / 2 ^ 43 % 2) 1)
    where
      pick : (b : Bool) → cond b (to_z w16 (v % 2 ^ 16)) (get_or l p (pos 0)) ≡ to_z w16 (cond b (v % 2 ^ 16) (of_z w16 (get_or l p (pos 0))))
      pick true = refl
      pick false = sym (to_z-of_z w16 (get_or l p (pos 0)) fits)

  numbered : packed (record { x = p % w; y = p / w; old = to_z w16 bits; new = to_z w16 (new_bits v) }) ≡ p % w + p / w * 2 ^ 16 + bits * 2 ^ 32 + new_bits v * 2 ^ 48
  unfolding packed
  numbered = rw (of_z-to_z w16 bits (record { fits = bits_small }), of_z-to_z w16 (new_bits v) (record { fits = omega arith }))

  one : difference_of (p % w + p / w * 2 ^ 16) bits (new_bits v) ≡ map packed (kept changing (record { x = p % w; y = p / w; old = to_z w16 bits; new = to_z w16 (new_bits v) } ∷ []))
  unfolding difference_of kept changing
  one = rw (eq_z-bits bits (new_bits v) bits_small (omega arith)) (pick (eqb bits (new_bits v)))
    where
      pick : (b : Bool) → cond b [] ((p % w + p / w * 2 ^ 16 + bits * 2 ^ 32 + new_bits v * 2 ^ 48) ∷ [])
          ≡ map packed (cond (not b) (record { x = p % w; y = p / w; old = to_z w16 bits; new = to_z w16 (new_bits v) } ∷ []) [])
      pick true = refl
      pick false = rw numbered

  pub emitted-is : emitted w l p v ≡ map packed (kept changing (waitingAt w l p v))
  unfolding emitted waitingAt kept
  emitted-is = rw bits-old (pick (eqb (v / 2 ^ 42 % 2) 1))
    where
      pick : (b : Bool) → cond b (difference_of (p % w + p / w * 2 ^ 16) bits (new_bits v)) [] ≡ map packed (kept changing (cond b (record { x = p % w; y = p / w; old = to_z w16 bits; new = to_z w16 (new_bits v) } ∷ []) []))
      pick true = one
      pick false = refl
