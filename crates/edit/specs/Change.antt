-- A change of one pixel, and lists of changes painted: document 01, "The sheet" and "Op". Definitions only. Assumes nothing.
use Rattle.std.specs.Prelude.{ℕ, ◌+◌, ◌*◌, ◌/◌, ◌%◌, ◌^◌, Bool, ◌||◌, List, [], ◌∷◌, leb, ℤ, pos, get_or, set}
use Rattle.std.specs.Int.{w16}
use Rattle.std.proofs.Common.{to_z, of_z}

-- "a list of changes, each with x, y, old and new: x, y unsigned 16-bit, old, new signed 16-bit"
pub record Change : Type 0 where
  pub x : ℕ
  pub y : ℕ
  pub old : ℤ
  pub new : ℤ

-- a change as one number of 64 bits, whose eight bytes, lowest first, are "changes of 8 (x, y, old, new)"
unfoldable pub unpacked : ℕ → Change
unpacked c =
    record {
      x = c % 2 ^ 16;
      y = c / 2 ^ 16 % 2 ^ 16;
      old = to_z w16 (c / 2 ^ 32 % 2 ^ 16);
      new = to_z w16 (c / 2 ^ 48 % 2 ^ 16);
    }

unfoldable pub packed : Change → ℕ
packed c = c.x + c.y * 2 ^ 16 + of_z w16 c.old * 2 ^ 32 + of_z w16 c.new * 2 ^ 48

-- where a change stands in the rows of a sheet of width w, and whether it is off a sheet of w by h
unfoldable pub place : ℕ → Change → ℕ
place w c = c.y * w + c.x

unfoldable pub outside : ℕ → ℕ → Change → Bool
outside w h c = leb w c.x || leb h c.y

-- "paint each new at its place, in list order", and the olds likewise
unfoldable pub painted : (Change → ℤ) → ℕ → List Change → List ℤ → List ℤ
painted f w [] l = l
painted f w (c ∷ cs) l = painted f w cs (set l (place w c) (f c))

abbrev pub new_of : Change → ℤ
new_of c = c.new

abbrev pub old_of : Change → ℤ
old_of c = c.old

-- "fills old values in the record": the picture's index before anything is painted
unfoldable pub filled_in : ℕ → List ℤ → Change → Change
filled_in w l c = record { x = c.x; y = c.y; old = get_or l (place w c) (pos 0); new = c.new }
