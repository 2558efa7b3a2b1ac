-- An edit's checks one after the other: those before its list, those of its changes, and the one after the list. Those of the list read neither palette nor
-- LAB storage. Assumes nothing.
use mathlib.Core.Path.{◌≡◌, refl, ap, ◌∙◌}
use mathlib.Core.Bool.{Bool}
use mathlib.Core.List.{List, ◌++◌, flat_map}
use Rattle.base.specs.Checks.{Check, or_else, first_of}
use Rattle.base.proofs.First.{first-append, past-both}
use Rattle.sheet.specs.Sheet.{Sheet}
use Rattle.base.specs.declared.Edit.{Edit}
use Rattle.edit.specs.declared.ListKind.{ListKind}
use Rattle.edit.specs.declared.ListKind.TheVariants.{NoList, PixelList, RemapList}
use Rattle.edit.specs.Change.{Change}
use Rattle.edit.specs.List.{list_of}
use Rattle.edit.specs.Checks.{Permitted, pixel_checks, misdirected, remap_checks, head_checks, change_checks, left_checks, own_checks}

pub own-apart : (replay : Bool) (s : Sheet) (locks : List Bool) (p : Permitted) (e : Edit) (cs : List Change)
    → first_of (own_checks replay s locks p e cs)
    ≡ or_else (first_of (head_checks replay s locks p e)) (or_else (first_of (flat_map (change_checks replay s (list_of e)) cs)) (first_of (left_checks s (list_of e) cs)))
unfolding own_checks
own-apart replay s locks p e cs =
    let each : List Check = flat_map (change_checks replay s (list_of e)) cs in
    first-append (head_checks replay s locks p e) (each ++ left_checks s (list_of e) cs)
    ∙ ap (or_else (first_of (head_checks replay s locks p e))) (first-append each (left_checks s (list_of e) cs))

-- ---- none applies where none of each part does
pub record OwnPassed (replay : Bool) (s : Sheet) (locks : List Bool) (p : Permitted) (e : Edit) (cs : List Change) : Type 0 where
  pub head : first_of (head_checks replay s locks p e) ≡ 0
  pub changes : first_of (flat_map (change_checks replay s (list_of e)) cs) ≡ 0
  pub left : first_of (left_checks s (list_of e) cs) ≡ 0

pub own-passed : (replay : Bool) (s : Sheet) (locks : List Bool) (p : Permitted) (e : Edit) (cs : List Change) → first_of (own_checks replay s locks p e cs) ≡ 0 → OwnPassed replay s locks p e cs
unfolding own_checks
own-passed replay s locks p e cs z =
    let a = past-both (head_checks replay s locks p e) _ z in
    let b = past-both (flat_map (change_checks replay s (list_of e)) cs) _ a.right in
    record { head = a.left; changes = b.left; left = b.right }

pub own-passes : (replay : Bool) (s : Sheet) (locks : List Bool) (p : Permitted) (e : Edit) (cs : List Change) → first_of (head_checks replay s locks p e) ≡ 0
    → first_of (flat_map (change_checks replay s (list_of e)) cs) ≡ 0 → first_of (left_checks s (list_of e) cs) ≡ 0 → first_of (own_checks replay s locks p e cs) ≡ 0
own-passes replay s locks p e cs a b d = own-apart replay s locks p e cs ∙ rw (a, b, d)

-- two sheets of one size, palette count and picture
pub record SamePixels (s t : Sheet) : Type 0 where
  pub w : t.w ≡ s.w
  pub h : t.h ≡ s.h
  pub k : t.k ≡ s.k
  pub indices : t.indices ≡ s.indices

module _ {s t : Sheet} (q : SamePixels s t) where
  pub same-changes : (replay : Bool) (l : ListKind) → change_checks replay t l ≡ change_checks replay s l
  unfolding change_checks pixel_checks remap_checks misdirected
  same-changes replay NoList = refl
  same-changes replay PixelList = rw (q.w, q.h, q.k, q.indices)
  same-changes replay (RemapList i) = rw (q.w, q.h, q.k, q.indices)

  pub same_left : (l : ListKind) (cs : List Change) → left_checks t l cs ≡ left_checks s l cs
  unfolding left_checks
  same_left NoList cs = refl
  same_left PixelList cs = refl
  same_left (RemapList i) cs = rw (q.w, q.indices)
