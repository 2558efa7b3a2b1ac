-- An edit's list among its checks: those before it decide where one applies, then those of its changes, then the one after it. Assumes nothing.
use mathlib.Core.Path.{◌≡◌, refl, sym, ap, ◌∙◌}
use mathlib.Core.Bool.{Bool}
use mathlib.Core.List.{List, flat_map}
use Prim.Native.Nat.{ℕ, zero, suc, ◌*◌, ◌≤◌}
use native.Mathlib.Omega.{arith}
use borrow.Author.Tests.{leb-false}
use Rattle.base.specs.Checks.{Check, or_else, first_of}
use Rattle.base.proofs.First.{past}
use Rattle.sheet.specs.Sheet.{Sheet}
use Rattle.sheet.specs.Checks.{Limits}
use Rattle.base.specs.declared.Edit.{Edit}
use Rattle.base.specs.declared.Edit.TheVariants.{Pixels, PaletteSet, PaletteAdd, PaletteRemove, PaletteLock}
use Rattle.edit.specs.declared.ListKind.{ListKind}
use Rattle.edit.specs.declared.ListKind.TheVariants.{NoList, PixelList, RemapList}
use Rattle.edit.specs.Change.{Change}
use Rattle.edit.specs.List.{list_of}
use Rattle.edit.specs.Checks.{Permitted, head_checks, change_checks, left_checks, own_checks}
use Rattle.edit.proofs.Together.{own-apart, same-changes}
use Rattle.edit_pixels.specs.Inside.{bare}
use Rattle.edit_checks.specs.Marks.{Markable}

-- ---- a number other than 0 stands
pub first-kept : (n m : ℕ) → (n ≡ 0 → ⊥) → or_else n m ≡ n
first-kept zero m h = absurd (h refl)
first-kept (suc n) m h = refl

module _ (replay : Bool) (s : Sheet) (locks : List Bool) (p : Permitted) (e : Edit) (cs : List Change) where
  -- one of the checks before the list decides
  pub head-decides : (n : ℕ) → n ≡ first_of (head_checks replay s locks p e) → (n ≡ 0 → ⊥) → n ≡ first_of (own_checks replay s locks p e cs)
  head-decides n q h = sym (own-apart replay s locks p e cs ∙ rw (← q) (first-kept n _ h))

  -- where none of them applies, the list decides, and then what it leaves
  pub list-decides : first_of (head_checks replay s locks p e) ≡ 0
      → first_of (own_checks replay s locks p e cs) ≡ or_else (first_of (flat_map (change_checks replay s (list_of e)) cs)) (first_of (left_checks s (list_of e) cs))
  list-decides h = own-apart replay s locks p e cs ∙ rw h

-- where none of them applies, a removal's entry is one of k
pub head-markable : (replay : Bool) (s : Sheet) (locks : List Bool) (p : Permitted) (e : Edit) (m : ℕ) → Limits s → s.w * s.h ≤ m → first_of (head_checks replay s locks p e) ≡ 0
    → Markable (list_of e) (s.w * s.h) m
unfolding head_checks Markable
head-markable replay s locks p (Pixels tool) m l h q = tt
head-markable replay s locks p (PaletteSet i old new lab) m l h q = tt
head-markable replay s locks p (PaletteAdd c) m l h q = tt
head-markable replay s locks p (PaletteLock i old new) m l h q = tt
head-markable replay s locks p (PaletteRemove i c lab) m l h q = (omega (arith, leb-false s.k i (past _ _ (omega arith) q).off, l.k-small), h)

-- ---- the checks of a list read no storage
pub bare-changes : (replay : Bool) (s : Sheet) (l : ListKind) (cs : List Change)
    → first_of (flat_map (change_checks replay (bare s.w s.h s.k s.indices) l) cs) ≡ first_of (flat_map (change_checks replay s l) cs)
bare-changes replay s l cs =
    ap (λ (f : Change → List Check). first_of (flat_map f cs)) (same-changes {s = s} (record { w = refl; h = refl; k = refl; indices = refl }) replay l)

pub bare-left : (s : Sheet) (l : ListKind) (cs : List Change) → first_of (left_checks (bare s.w s.h 0 s.indices) l cs) ≡ first_of (left_checks s l cs)
unfolding left_checks
bare-left s NoList cs = refl
bare-left s PixelList cs = refl
bare-left s (RemapList i) cs = refl
