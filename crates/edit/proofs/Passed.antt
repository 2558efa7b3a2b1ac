-- What an edit has passed where none of its checks applies, as facts. Assumes nothing.
use mathlib.Core.Path.{◌≡◌, refl, sym, ◌∙◌}
use mathlib.Core.Bool.{Bool, true, false, not}
use mathlib.Core.List.{List, [], ◌∷◌, map, flat_map}
use Prim.Native.Nat.{ℕ, ◌≤◌, ◌<◌}
use native.Mathlib.Omega.{arith}
use borrow.Author.Tests.{not-false, leb-false, ltb-false}
use lib.Dec.{leb, ltb}
use lib.IntN.{pos, negsuc}
use Rattle.base.specs.Limits.{max_entries}
use Rattle.base.specs.Numbers.{off_the_sheet, no_such_index, no_such_entry, palette_full, last_entry, bad_remap, still_used, entry_locked}
use Rattle.base.specs.Checks.{◌when◌, first_of}
use Rattle.base.specs.Lists.{some}
use Rattle.base.proofs.Scan.{or_left, or_right}
use Rattle.base.proofs.Back.{same_index}
use Rattle.base.specs.Ints.{eq_z}
use Rattle.sheet.specs.Sheet.{Sheet, stray}
use Rattle.base.specs.declared.Edit.{Edit}
use Rattle.base.specs.declared.Edit.TheVariants.{Pixels, PaletteSet, PaletteAdd, PaletteRemove, PaletteLock}
use Rattle.edit.specs.declared.ListKind.{ListKind}
use Rattle.edit.specs.declared.ListKind.TheVariants.{NoList, PixelList, RemapList}
use Rattle.edit.specs.Change.{Change, outside, new_of, filled_in}
use Rattle.edit.specs.List.{list_of}
use Rattle.edit.specs.Locks.{lock_at}
use Rattle.edit.specs.Checks.{Permitted, pixel, pixel_checks, misdirected, remap_checks, left_from, head_checks, change_checks, left_checks, own_checks}
use Rattle.base.proofs.Nowhere.{or-both}
use Rattle.base.proofs.First.{past, skip}
use Rattle.edit.proofs.Together.{OwnPassed, own-passed, own-passes}

-- ---- pixels: 5 and 6
pub record PixelsFit (s : Sheet) (cs : List Change) : Type 0 where
  pub inside : some (outside s.w s.h) cs ≡ false
  pub in-range : some (λ c. stray s.k (new_of c)) cs ≡ false

pixels-fit : (replay : Bool) (s : Sheet) (cs : List Change) → first_of (flat_map (pixel_checks replay s) cs) ≡ 0 → PixelsFit s cs
unfolding pixel_checks flat_map some
pixels-fit replay s [] e = record { inside = refl; in-range = refl }
pixels-fit replay s (c ∷ cs) e =
    let a = past (off_the_sheet when outside s.w s.h c) _ (omega arith) e in
    let b = past (no_such_index when stray s.k c.new) _ (omega arith) a.rest in
    let r = pixels-fit replay s cs (past _ _ (omega arith) b.rest).rest in
    record { inside = or-both a.off r.inside; in-range = or-both b.off r.in-range }

-- ---- a removal's changes: 5 and 12
pub record Remap (s : Sheet) (i : ℕ) (cs : List Change) : Type 0 where
  pub inside : some (outside s.w s.h) cs ≡ false
  pub filled : map (filled_in s.w s.indices) cs ≡ cs
  pub others : some (λ c. eq_z (new_of c) (pos i)) cs ≡ false
  pub in-range : some (λ c. stray s.k (new_of c)) cs ≡ false

-- one change that 12 does not refuse
record Directed (s : Sheet) (i : ℕ) (c : Change) : Type 0 where
  pub filled : pixel s c ≡ c.old
  pub other : eq_z c.new (pos i) ≡ false
  pub in-range : stray s.k c.new ≡ false

directed : (s : Sheet) (i : ℕ) (c : Change) → misdirected s i c ≡ false → Directed s i c
unfolding misdirected
directed s i c e =
    let e2 = or_right (not (eq_z (pixel s c) (pos i))) _ e in
    let e3 = or_right (not (eq_z c.old (pos i))) _ e2 in
    let e4 = or_right (eq_z c.new (pos i)) _ e3 in
    record {
      filled = same_index (pixel s c) (pos i) (not-false _ (or_left _ _ e)) ∙ sym (same_index c.old (pos i) (not-false _ (or_left _ _ e2)));
      other = or_left _ _ e3;
      in-range = or_right (eq_z c.new (negsuc 0)) _ e4;
    }

remap : (s : Sheet) (i : ℕ) (cs : List Change) → first_of (flat_map (remap_checks s i) cs) ≡ 0 → Remap s i cs
unfolding remap_checks flat_map some filled_in
remap s i [] e = record { inside = refl; filled = refl; others = refl; in-range = refl }
remap s i (c ∷ cs) e =
    let a = past (off_the_sheet when outside s.w s.h c) _ (omega arith) e in
    let b = past (bad_remap when misdirected s i c) _ (omega arith) a.rest in
    let d = directed s i c b.off in
    let r = remap s i cs b.rest in
    record {
      inside = or-both a.off r.inside;
      filled = λ j. record { x = c.x; y = c.y; old = d.filled j; new = c.new } ∷ r.filled j;
      others = or-both d.other r.others;
      in-range = or-both d.in-range r.in-range;
    }

-- ---- a removal: 7, 9, then its changes, then 13
pub record RemoveFits (s : Sheet) (i : ℕ) (cs : List Change) : Type 0 where
  pub entry : i < s.k
  pub two : 2 ≤ s.k
  pub remap : Remap s i cs
  pub none_left : left_from s.w i cs 0 s.indices ≡ false

-- ---- every edit
abbrev pub Passed : Sheet → Edit → List Change → Type 0
Passed s (Pixels tool) cs = PixelsFit s cs
Passed s (PaletteSet i old new lab) cs = i < s.k
Passed s (PaletteAdd c) cs = s.k < max_entries
Passed s (PaletteRemove i c lab) cs = RemoveFits s i cs
Passed s (PaletteLock i old new) cs = i < s.k

pub passed : (replay : Bool) (s : Sheet) (locks : List Bool) (p : Permitted) (e : Edit) (cs : List Change) → first_of (own_checks replay s locks p e cs) ≡ 0 → Passed s e cs
unfolding head_checks change_checks left_checks
passed replay s locks p e cs z = by-kind e (own-passed replay s locks p e cs z)
  where
    by-kind : (e : Edit) → OwnPassed replay s locks p e cs → Passed s e cs
    by-kind (Pixels tool) o = pixels-fit replay s cs o.changes
    by-kind (PaletteSet i old new lab) o = leb-false s.k i (past (no_such_entry when leb s.k i) _ (omega arith) o.head).off
    by-kind (PaletteAdd c) o = leb-false max_entries s.k (past (palette_full when leb max_entries s.k) _ (omega arith) o.head).off
    by-kind (PaletteRemove i c lab) o =
        let a = past (no_such_entry when leb s.k i) _ (omega arith) o.head in
        record {
          entry = leb-false s.k i a.off;
          two = ltb-false s.k 2 (past (last_entry when ltb s.k 2) _ (omega arith) (past (entry_locked when lock_at locks i) _ (omega arith) a.rest).rest).off;
          remap = remap s i cs o.changes;
          none_left = (past (still_used when left_from s.w i cs 0 s.indices) [] (omega arith) o.left).off;
        }
    by-kind (PaletteLock i old new) o = leb-false s.k i (past (no_such_entry when leb s.k i) _ (omega arith) o.head).off

-- ---- and a set or a removal is of an entry that is not locked
abbrev pub Unlocked : List Bool → Edit → Type 0
Unlocked locks (Pixels tool) = Unit {0}
Unlocked locks (PaletteSet i old new lab) = lock_at locks i ≡ false
Unlocked locks (PaletteAdd c) = Unit {0}
Unlocked locks (PaletteRemove i c lab) = lock_at locks i ≡ false
Unlocked locks (PaletteLock i old new) = Unit {0}

pub unlocked : (replay : Bool) (s : Sheet) (locks : List Bool) (p : Permitted) (e : Edit) → first_of (head_checks replay s locks p e) ≡ 0 → Unlocked locks e
unfolding head_checks
unlocked replay s locks p (Pixels tool) e = tt
unlocked replay s locks p (PaletteSet i old new lab) e = (past (entry_locked when lock_at locks i) _ (omega arith) (past (no_such_entry when leb s.k i) _ (omega arith) e).rest).off
unlocked replay s locks p (PaletteAdd c) e = tt
unlocked replay s locks p (PaletteRemove i c lab) e = (past (entry_locked when lock_at locks i) _ (omega arith) (past (no_such_entry when leb s.k i) _ (omega arith) e).rest).off
unlocked replay s locks p (PaletteLock i old new) e = tt

-- ---- what replay accepts, where it looks at the olds, push accepts
replayed : (s : Sheet) (cs : List Change) → first_of (flat_map (pixel_checks true s) cs) ≡ 0 → first_of (flat_map (pixel_checks false s) cs) ≡ 0
unfolding pixel_checks flat_map
replayed s [] e = e
replayed s (c ∷ cs) e =
    let a = past (off_the_sheet when outside s.w s.h c) _ (omega arith) e in
    let b = past (no_such_index when stray s.k c.new) _ (omega arith) a.rest in
    skip _ _ a.off ∙ skip _ _ b.off ∙ skip _ _ refl ∙ replayed s cs (past _ _ (omega arith) b.rest).rest

replayed-head : (s : Sheet) (locks : List Bool) (p : Permitted) (e : Edit) → first_of (head_checks true s locks p e) ≡ 0 → first_of (head_checks false s locks p e) ≡ 0
unfolding head_checks
replayed-head s locks p (Pixels tool) e = e
replayed-head s locks p (PaletteSet i old new lab) e =
    let a = past (no_such_entry when leb s.k i) _ (omega arith) e in
    let u = past (entry_locked when lock_at locks i) _ (omega arith) a.rest in
    skip _ _ a.off ∙ skip _ _ u.off ∙ skip _ _ refl ∙ (past _ _ (omega arith) u.rest).rest
replayed-head s locks p (PaletteAdd c) e = e
replayed-head s locks p (PaletteRemove i c lab) e =
    let a = past (no_such_entry when leb s.k i) _ (omega arith) e in
    let u = past (entry_locked when lock_at locks i) _ (omega arith) a.rest in
    let b = past (last_entry when ltb s.k 2) _ (omega arith) u.rest in
    skip _ _ a.off ∙ skip _ _ u.off ∙ skip _ _ b.off ∙ skip _ _ refl ∙ (past _ _ (omega arith) b.rest).rest
replayed-head s locks p (PaletteLock i old new) e =
    let a = past (no_such_entry when leb s.k i) _ (omega arith) e in
    skip _ _ a.off ∙ skip _ _ refl ∙ (past _ _ (omega arith) a.rest).rest

replayed-list : (s : Sheet) (l : ListKind) (cs : List Change) → first_of (flat_map (change_checks true s l) cs) ≡ 0 → first_of (flat_map (change_checks false s l) cs) ≡ 0
unfolding change_checks
replayed-list s NoList cs e = e
replayed-list s PixelList cs e = replayed s cs e
replayed-list s (RemapList i) cs e = e

pub replay-unrefused : (s : Sheet) (locks : List Bool) (p : Permitted) (e : Edit) (cs : List Change)
    → first_of (own_checks true s locks p e cs) ≡ 0 → first_of (own_checks false s locks p e cs) ≡ 0
replay-unrefused s locks p e cs z =
    let a = own-passed true s locks p e cs z in
    own-passes false s locks p e cs (replayed-head s locks p e a.head) (replayed-list s (list_of e) cs a.changes) a.left
