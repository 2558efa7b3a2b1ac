-- The changes of a list of numbers one by one, as they are and with their olds filled in. Assumes nothing.
use Prim.Native.Nat.{ℕ}
use mathlib.Core.Path.{◌≡◌, sym, ap, ◌∙◌}
use mathlib.Core.List.{List, map}
use lib.IntN.{ℤ}
use lib.ListN.{get_or, get_or-map}
use Rattle.edit.specs.Change.{unpacked, filled_in}

module _ (list : List ℕ) (i : ℕ) where
  pub unpacked-at : unpacked (get_or list i 0) ≡ get_or (map unpacked list) i (unpacked 0)
  unpacked-at = sym (get_or-map unpacked list i 0)

  pub filled_at : (l : List ℤ) (w : ℕ) → filled_in w l (unpacked (get_or list i 0)) ≡ get_or (map (filled_in w l) (map unpacked list)) i (filled_in w l (unpacked 0))
  filled_at l w = ap (filled_in w l) unpacked-at ∙ sym (get_or-map (filled_in w l) (map unpacked list) i (unpacked 0))
