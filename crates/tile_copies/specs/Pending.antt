-- The last steps in the scratch of a mirror, whose numbers tile_marks's specs/Marks.antt lays out: the caller's changes over the copies, and what is
-- written. Definitions only. Assumes nothing.
use Rattle.std.specs.Prelude.{ℕ, ◌+◌, ◌*◌, ◌/◌, ◌%◌, ◌^◌, cond, eqb, ℤ, pos, length, get_or}
use mathlib.Core.List.{List, [], flat_map}
use Rattle.std.specs.Int.{w16}
use Rattle.std.proofs.Common.{of_z}
use Rattle.base.specs.Lists.{range}
use Rattle.change_list.specs.Between.{difference_of}
use Rattle.tile_marks.specs.Marks.{run, place_at, new_bits}

-- the bits of a change's old
abbrev pub old_bits : ℕ → ℕ
old_bits c = c / 2 ^ 32 % 2 ^ 16

-- ---- the caller's changes: where one is pending its new is replaced, else the change is
unfoldable pub pending_by : ℕ → ℕ → ℕ
pending_by c v = cond (eqb (v / 2 ^ 42 % 2) 1) (v % 2 ^ 48 + new_bits c * 2 ^ 48) (old_bits c + 3 * 2 ^ 42 + new_bits c * 2 ^ 48)

unfoldable pub pending : ℕ → List ℕ → List ℕ → ℕ → ℕ
pending w list s p = run (place_at w list) (λ j. pending_by (get_or list j 0)) p (get_or s p 0) (length list)

-- ---- the result: what is pending, where old and new differ
unfoldable pub old_in : ℕ → ℕ → ℕ
old_in own v = cond (eqb (v / 2 ^ 43 % 2) 1) (v % 2 ^ 16) own

unfoldable pub emitted : ℕ → List ℤ → ℕ → ℕ → List ℕ
emitted w l p v = cond (eqb (v / 2 ^ 42 % 2) 1) (difference_of (p % w + p / w * 2 ^ 16) (old_in (of_z w16 (get_or l p (pos 0))) v) (new_bits v)) []

unfoldable pub emitted_all : ℕ → List ℤ → List ℕ → List ℕ
emitted_all w l s = flat_map (λ p. emitted w l p (get_or s p 0)) (range 0 (length s))
