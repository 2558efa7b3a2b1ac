-- A change struct, and the change that it is. Definitions only. Assumes nothing.
use Rattle.std.specs.Prelude.{ℕ}
use Rattle.base.specs.declared.Change.{Change}
use Rattle.edit.specs.Change as flat

-- the change that a struct is
abbrev pub change_of : Change → flat.Change
change_of c = record { x = c.x; y = c.y; old = c.old; new = c.new }

-- as one number of 64 bits, and back
abbrev pub packed_of : Change → ℕ
packed_of c = flat.packed (change_of c)

abbrev pub struct_of : ℕ → Change
struct_of n = record { x = (flat.unpacked n).x; y = (flat.unpacked n).y; old = (flat.unpacked n).old; new = (flat.unpacked n).new }
