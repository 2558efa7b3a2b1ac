-- What painting a list asks of each change. Assumes nothing.
use mathlib.Core.Path.{◌≡◌}
use mathlib.Core.List.{List, [], ◌∷◌}
use Prim.Native.Nat.{ℕ, ◌<◌, ◌≤◌}
use native.Mathlib.Omega.{arith}
use lib.ListN.{length, get_or, take}
use lib.Seq.{get_or-take}
use Rattle.edit.specs.declared.ListKind.{ListKind}
use Rattle.edit.specs.declared.ListKind.TheVariants.{NoList, PixelList, RemapList}
use Rattle.edit_list.specs.Paintable.{Paintable}
use Rattle.base.specs.declared.Change.{Change}
use Rattle.struct_edit.specs.Walk.{flat_of, flat_all, none}
use Rattle.struct_edit.proofs.Told.{told-one}

-- of the i-th of the first k
pub paintable-at : (l : ListKind) (list : List Change) (k i w : ℕ) {n m : ℕ} → k ≤ length list → i < k → m ≡ n → Paintable l w n (flat_all list)
    → Paintable l w m (flat_of (get_or (take k list) i none) ∷ [])
unfolding Paintable
paintable-at NoList list k i w f h q p = tt
paintable-at PixelList list k i w {n} f h q p = rw (get_or-take, q) (told-one w n list i p (omega (arith, f, h)))
paintable-at (RemapList j) list k i w {n} f h q p = rw (get_or-take, q) (told-one w n list i p (omega (arith, f, h)))
