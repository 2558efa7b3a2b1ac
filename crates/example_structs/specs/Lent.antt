-- What the functions of src/lent.rt return, and what stands between a tool and push. Definitions only. Assumes nothing.
use Rattle.std.specs.Prelude.{ℕ, List, map, pos, take, replicate}
use Rattle.base.specs.Answer.{Filled, count_told}
use Rattle.base.specs.declared.Answer.{Answer}
use Rattle.base.specs.declared.Change.{Change}
use Rattle.base.specs.declared.Handle.{Handle}
use Rattle.base.specs.declared.Moved.{Moved}
use Rattle.struct_change.specs.Struct.{packed_of}

abbrev pub moved_of : Answer → ℕ → Handle → Moved
moved_of a k h = record { answer = a; k = k; handle = h }

-- what a list holds before a tool has filled it
abbrev pub no_change : Change
no_change = record { x = 0; y = 0; old = pos 0; new = pos 0 }

abbrev pub blanks : List ℕ
blanks = map packed_of (replicate 24 no_change)

-- the changes that a tool left at the front of a buffer, none where it refused
abbrev pub changes_of : Filled ℕ → List ℕ
changes_of f = take (count_told f.answer) f.buffer
