-- The result over the front of out: the list with its copies, or as it is. Assumes nothing.
use mathlib.Core.Path.{◌≡◌, ◌∙◌}
use mathlib.Core.Bool.{Bool, true, false}
use mathlib.Core.List.{List, map}
use Prim.Native.Nat.{ℕ}
use lib.IntN.{ℤ}
use lib.ListN.{length, take}
use lib.Seq.{take-length}
use Rattle.base.specs.Answer.{Told, leaving}
use Rattle.selection.specs.declared.Selection.{Selection}
use Rattle.edit.specs.Change.{packed, unpacked}
use Rattle.change_list.specs.Fronts.{Front}
use Rattle.change_list.specs.Listed.{handed}
use Rattle.tile_copies.specs.Mirror.{mirrored}
use Rattle.tile_mirror_checks.specs.Calls.{mirror_list}

module _ (w h t : ℕ) (l : List ℤ) (region : Selection) (list out : List ℕ) where
  pub handed-mirrored : (touched : Bool) {r : Told ℕ} {m s : List ℕ} {n : ℕ} → touched ≡ true → Front (map packed (mirrored w h t l region (map unpacked list))) s n
      → leaving r m ≡ handed (take n s) out → leaving r m ≡ handed (mirror_list touched w h t l region list) out
  unfolding mirror_list
  handed-mirrored touched e f d = d ∙ rw (e, f.front)

  pub handed-untouched : (touched : Bool) {r : Told ℕ} {m : List ℕ} → touched ≡ false → leaving r m ≡ handed (take (length list) list) out
      → leaving r m ≡ handed (mirror_list touched w h t l region list) out
  unfolding mirror_list
  handed-untouched touched e d = d ∙ rw (e, take-length list)
