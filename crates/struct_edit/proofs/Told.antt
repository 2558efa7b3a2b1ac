-- The changes that the core reads of a list of structs, one by one. Assumes nothing.
use mathlib.Core.Path.{◌≡◌, refl, sym, ◌∙◌}
use mathlib.Core.Bool.{false, or-false}
use mathlib.Core.List.{List, [], ◌∷◌}
use Prim.Native.Nat.{ℕ, zero, suc, ◌<◌}
use native.Mathlib.Nat.{le_of_suc-le-suc, not-suc-le-zero}
use borrow.Author.Tests.{leb-false}
use lib.ListN.{length, get_or, length-map}
use Rattle.base.specs.Lists.{some}
use Rattle.base.proofs.Scan.{some-none, drop-next}
use Rattle.edit.specs.Change as flat
use Rattle.edit.specs.Change.{place}
use Rattle.edit_pixels.specs.Inside.{past}
use Rattle.edit_pixels.proofs.Nth.{Nth}
use Rattle.base.specs.declared.Change.{Change}
use Rattle.struct_edit.specs.Walk.{flat_of, flat_all, none}

pub told-length : (list : List Change) → length (flat_all list) ≡ length list
told-length list = rw (length-map, length-map)

pub told_at : (list : List Change) (i : ℕ) (d : flat.Change) → i < length list → get_or (flat_all list) i d ≡ flat_of (get_or list i none)
told_at [] i d h = absurd (not-suc-le-zero h)
told_at (c ∷ list) zero d h = refl
told_at (c ∷ list) (suc i) d h = told_at list i d (le_of_suc-le-suc h)

pub told-nth : (list : List Change) (i : ℕ) → i < length list → Nth (flat_all list) i (flat_of (get_or list i none))
told-nth list i h = record { left = drop-next (flat_all list) i (flat_of none) (rw (told-length list) h) ∙ rw (told_at list i (flat_of none) h) }

-- where none stands past the picture, the i-th does not
pub told-one : (w n : ℕ) (list : List Change) (i : ℕ) → some (past w n) (flat_all list) ≡ false → i < length list → some (past w n) (flat_of (get_or list i none) ∷ []) ≡ false
unfolding some
told-one w n list i e h = or-false (past w n (flat_of (get_or list i none))) ∙ (rw (told_at list i (flat_of none) h) at (some-none (past w n) (flat_all list) i (flat_of none) e (rw (told-length list) h)))

pub told-inside : (w n : ℕ) (list : List Change) (i : ℕ) → some (past w n) (flat_all list) ≡ false → i < length list → place w (flat_of (get_or list i none)) < n
unfolding past
told-inside w n list i e h = leb-false n _ (rw (told_at list i (flat_of none) h) at (some-none (past w n) (flat_all list) i (flat_of none) e (rw (told-length list) h)))

-- one change that does not
pub one_inside : (w n : ℕ) (c : flat.Change) → some (past w n) (c ∷ []) ≡ false → place w c < n
unfolding some past
one_inside w n c e = leb-false n _ (sym (or-false (past w n c)) ∙ e)
