-- Where a flood passes: the index first, then the region. Assumes nothing.
use Prim.Native.Nat.{ℕ, ◌/◌, ◌%◌, ◌≤◌, ◌<◌}
use mathlib.Core.Path.{◌≡◌, sym, ◌∙◌}
use mathlib.Core.Bool.{Bool, true, false, and-true, and-false}
use mathlib.Core.List.{List}
use lib.Dec.{ltb}
use lib.IntN.{ℤ, pos}
use lib.ListN.{length, get_or}
use borrow.Author.Tests.{ltb-true, lt-ltb, le-ltb}
use Rattle.base.proofs.Bools.{and_left, and_right}
use Rattle.base.specs.Ints.{eq_z}
use Rattle.selection.specs.declared.Selection.{Selection}
use Rattle.selection.specs.Selection.{contains}
use Rattle.tool_fill_model.specs.Flood.{passable}

module _ (w : ℕ) (l : List ℤ) (region : Selection) (start p : ℕ) where
  pub passable-in : passable w l region start p ≡ true → p < length l
  unfolding passable
  passable-in e = ltb-true p (length l) (and_left (ltb p (length l)) _ e)

  pub off-picture : length l ≤ p → passable w l region start p ≡ false
  unfolding passable
  off-picture h = rw (le-ltb p (length l) h)

  -- what passes has the target index
  pub passable-index : passable w l region start p ≡ true → eq_z (get_or l p (pos 0)) (get_or l start (pos 0)) ≡ true
  unfolding passable
  passable-index e = and_right (contains region (p % w) (p / w)) _ (and_right (ltb p (length l)) _ e)

  module _ (h : p < length l) where
    pub other-index : eq_z (get_or l p (pos 0)) (get_or l start (pos 0)) ≡ false → false ≡ passable w l region start p
    unfolding passable
    other-index e = rw (lt-ltb p (length l) h, e) (sym (and-false (contains region (p % w) (p / w))))

    pub same_index : {r : Bool} → eq_z (get_or l p (pos 0)) (get_or l start (pos 0)) ≡ true → r ≡ contains region (p % w) (p / w) → r ≡ passable w l region start p
    unfolding passable
    same_index e f = rw (lt-ltb p (length l) h, e) (f ∙ sym (and-true (contains region (p % w) (p / w))))
