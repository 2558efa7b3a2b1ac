-- Slots found, and a table of words filled. Assumes nothing.
use mathlib.Core.Path.{◌≡◌, refl, sym, ap, ◌∙◌}
use mathlib.Core.Bool.{true, false}
use mathlib.Core.List.{List}
use Prim.Native.Nat.{ℕ, suc, ◌+◌, ◌*◌, ◌-◌, ◌<◌, ◌≤◌}
use native.Mathlib.Omega.{arith}
use native.Mathlib.Nat.{mul-le-mul_left, mul-suc}
use native.Mathlib.Numerals.{add-one}
use borrow.Author.Tests.{ltb-true}
use lib.IntN.{ℤ, pos, negsuc, nat_abs}
use lib.Signed.{lt_z}
use lib.ListN.{length, get_or, take, drop, length-drop}
use lib.Seq.{get_or-take, get_or-drop, length-take-le}
use Rattle.base.specs.Lists.{some}
use Rattle.base.proofs.Back.{never}
use Rattle.base.proofs.Nowhere.{nowhere-take, nowhere-drop}
use Rattle.sheet.specs.Sheet.{stray}
use Rattle.layer_slot.specs.Slots.{slot_over, slot_up_to, SlotsOver, Slotted}

-- ---- a slot
pub slot-below : (z : ℤ) (low below : ℕ) → lt_z z (pos 0) ≡ true → below ≡ slot_over z low below
unfolding slot_over
slot-below (pos m) low below e = absurd (omega (arith, ltb-true m 0 e))
slot-below (negsuc m) low below e = refl

pub slot-own : (z : ℤ) (low below : ℕ) → lt_z z (pos 0) ≡ false → nat_abs z + low ≡ slot_over z low below
unfolding slot_over
slot-own (pos m) low below e = refl
slot-own (negsuc m) low below e = never (sym e)

-- ---- the slots of a layer's first j places
pub record Slotting (low : ℕ) (indices : List ℤ) (before slots : List ℕ) (j : ℕ) : Type 0 where
  pub inside : j ≤ length indices
  pub long : length slots ≡ length before
  pub done : (t : ℕ) → t < j → get_or slots t 0 ≡ slot_over (get_or indices t (pos 0)) low (get_or before t 0)
  pub rest : (t : ℕ) → j ≤ t → get_or slots t 0 ≡ get_or before t 0

-- ---- a part of a layer's indices, from a on, m long
pub part_length : (a m : ℕ) (l : List ℤ) → a + m ≤ length l → length (take ((a + m) - a) (drop a l)) ≡ m
part_length a m l h =
    ap (λ (t : ℕ). length (take t (drop a l))) {x = (a + m) - a} {y = m} (omega arith) ∙ length-take-le m (drop a l) (simp length-drop (omega arith))

pub part-known : (a m : ℕ) (l : List ℤ) → some (stray 255) l ≡ false → some (stray 255) (take ((a + m) - a) (drop a l)) ≡ false
part-known a m l e = nowhere-take (stray 255) ((a + m) - a) (drop a l) (nowhere-drop (stray 255) a l e)

pub part-inside : (n count i at m : ℕ) → i < count → at + m ≤ n → (n * i + at) + m ≤ n * count
part-inside n count i at m h k = omega (arith, mul-le-mul_left {m = suc i} {n = count} n h, mul-suc n i)

-- ---- the slots of one layer more
pub slotted-next : (n : ℕ) (indices : List ℤ) (i at m : ℕ) (slots next : List ℕ) → (n * i + at) + m ≤ length indices → Slotted n indices i at m slots
    → SlotsOver (255 * i + 1) (take (((n * i + at) + m) - (n * i + at)) (drop (n * i + at) indices)) slots next → Slotted n indices (i + 1) at m next
unfolding slot_up_to
slotted-next n indices i at m slots next h c o =
    rw (add-one i)
    record {
      long = o.long ∙ c.long;
      slot = λ j b.
          let here : get_or (take (((n * i + at) + m) - (n * i + at)) (drop (n * i + at) indices)) j (pos 0) ≡ get_or indices (n * i + (at + j)) (pos 0) =
          get_or-take (((n * i + at) + m) - (n * i + at)) (drop (n * i + at) indices) j (pos 0) (omega arith)
          ∙ get_or-drop (n * i + at) indices j (pos 0)
          ∙ ap (λ (t : ℕ). get_or indices t (pos 0)) {x = (n * i + at) + j} {y = n * i + (at + j)} (omega arith) in
          o.slot j (rw (part_length (n * i + at) m indices h) b)
          ∙ rw (here, c.slot j b);
    }
