-- The call `mirror_tiles` of tools.rs: when it touches a list, its checks, in document 01's order, and what it leaves. Definitions only. Assumes nothing.
use Rattle.std.specs.Prelude.{ℕ, ◌*◌, ◌%◌, ◌≤◌, ◌≡◌, Bool, true, not, cond, ◌&&◌, List, [], ◌∷◌, ◌++◌, map, ltb, eqb, ℤ, length}
use Rattle.base.specs.Limits.{max_changes}
use Rattle.base.specs.Numbers.{off_the_sheet, no_space, list_too_long}
use Rattle.base.specs.Checks.{Check, ◌when◌, checked}
use Rattle.base.specs.Answer.{Filled, leaving}
use Rattle.base.specs.Answer.Told.{alone}
use Rattle.base.specs.Lists.{some}
use Rattle.selection.specs.declared.Selection.{Selection}
use Rattle.selection.specs.declared.Area.{Area}
use Rattle.selection.specs.Region.{region_checks, region_in}
use Rattle.sheet.specs.Sheet.{Sheet}
use Rattle.sheet.specs.Checks.{sheet_checks}
use Rattle.edit.specs.Change.{outside, packed, unpacked}
use Rattle.change_list.specs.Listed.{handed}
use Rattle.tile_copies.specs.Mirror.{mirrored, Mirrorable}
use Rattle.tile_mirror_checks.specs.declared.Stage.{Stage}
use Rattle.tile_mirror_checks.specs.declared.Stage.TheVariants.{Canvas, Refused}

-- the tile side divides both sides: not "0 or does not divide"
unfoldable pub divides : ℕ → ℕ → ℕ → Bool
divides t w h = not (eqb t 0) && (eqb (w % t) 0 && eqb (h % t) 0)

-- "returns the list untouched if off, empty, or the tile side is 0 or does not divide"; else it is touched
unfoldable pub touching : Bool → ℕ → ℕ → ℕ → ℕ → Bool
touching on count t w h = on && (not (eqb count 0) && divides t w h)

-- "else a change off the sheet is 5": of a list that is touched
unfoldable pub straying : Bool → ℕ → ℕ → List ℕ → Bool
straying touched w h list = touched && some (outside w h) (map unpacked list)

-- 1, 2, 3; 21 for a list of `count` changes, 5 for the selection, 5 for a change (`off`); then 16: "scratch under w × h places", which is `room`
unfoldable pub mirror_checks : Sheet → Area → ℕ → Bool → ℕ → List Check
mirror_checks s area count off room =
    sheet_checks [] s
    ++ (list_too_long when ltb max_changes count ∷ (region_checks area s.w s.h ++ (off_the_sheet when off ∷ no_space when ltb room (s.w * s.h) ∷ [])))

-- the region that copies change, where none of them applies
unfoldable pub stage_of : Sheet → Area → ℕ → Bool → ℕ → Stage
stage_of s area count off room = checked (mirror_checks s area count off room) Refused (Canvas (region_in area s.w s.h))

-- the result: the list with the copies, normalised, or the list as it is
unfoldable pub mirror_list : Bool → ℕ → ℕ → ℕ → List ℤ → Selection → List ℕ → List ℕ
mirror_list touched w h t l region list = cond touched (map packed (mirrored w h t l region (map unpacked list))) list

-- and "no space: result count exceeds its buffer"
unfoldable pub mirror_call : Sheet → Area → Bool → ℕ → List ℕ → ℕ → List ℕ → Filled ℕ
mirror_call s area on t list room out =
    let touched = touching on (length list) t s.w s.h in
    checked (mirror_checks s area (length list) (straying touched s.w s.h list) room)
    (λ n. leaving (alone n) out)
    (handed (mirror_list touched s.w s.h t s.indices (region_in area s.w s.h) list) out)

-- what the work on a list asks, where it is touched
pub record Ready (touched : Bool) (w h t : ℕ) (l : List ℤ) (list : List ℕ) (room : ℕ) : Type 0 where
  pub mirrorable : touched ≡ true → Mirrorable w h t l list
  pub space : w * h ≤ room
