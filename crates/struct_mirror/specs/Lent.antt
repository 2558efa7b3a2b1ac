-- `mirror_tiles` over change structs: the call, and a buffer for the changes that are read. Definitions only. Assumes nothing.
use Rattle.std.specs.Prelude.{ℕ, Bool, List, length}
use Rattle.base.specs.Answer.{Filled}
use Rattle.selection.specs.declared.Area.{Area}
use Rattle.sheet.specs.Sheet.{Sheet}
use Rattle.struct_change.specs.Scratch.{needing}
use Rattle.struct_mirror_list.specs.Laid.{read_of}
use Rattle.tile_mirror_checks.specs.Calls.{touching, mirror_call}

-- the call with a buffer of `flat` places for them
unfoldable pub mirror_lent : Sheet → Area → Bool → ℕ → List ℕ → ℕ → ℕ → List ℕ → Filled ℕ
mirror_lent s area on t list flat room =
    needing flat (read_of (touching on (length list) t s.w s.h) (length list)) (mirror_call s area on t list room)
