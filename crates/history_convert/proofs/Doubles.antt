-- The LAB in a sheet's storage stays doubles of 64 bits, whatever record is undone or redone: what a record tells of LAB is doubles of 64 bits. Assumes nothing.
use Prim.Native.Nat.{ℕ, ◌+◌, ◌*◌}
use mathlib.Core.Path.{◌≡◌, subst}
use mathlib.Core.Bool.{Bool, true, false, cond, ◌&&◌}
use mathlib.Core.List.{List, []}
use mathlib.Core.Option.{Option, none, some}
use lib.Dec.{leb, eqb}
use lib.Ieee.{binary64, fits}
use lib.Ieee.Bits.{of_bits-fits}
use lib.ListN.{get_or}
use Rattle.base.specs.Lists as lists
use Rattle.base.specs.declared.Edit.{Edit}
use Rattle.base.specs.declared.Edit.TheVariants.{Pixels, PaletteSet, PaletteAdd, PaletteRemove, PaletteLock}
use Rattle.base.specs.declared.Form.{Form}
use Rattle.base.specs.declared.Form.TheVariants.{Coordinates}
use Rattle.base.specs.declared.Lab.{Lab}
use Rattle.color_curve.specs.Curve.{Curve, lab_by}
use Rattle.sheet.specs.Sheet.{Sheet}
use Rattle.edit.specs.Change.{Change}
use Rattle.edit.specs.Storage.{numbers_of}
use Rattle.edit.specs.List.{painted_list}
use Rattle.edit.specs.Apply.{restDone, redone, reverted}
use Rattle.edit.proofs.Storage.{stored-nowhere, closed-nowhere, opened-nowhere}
use Rattle.journal_record.specs.Bytes.{le_at}
use Rattle.journal_record.specs.Record.{pixels_kind, remove_kind, is_mark, double_in, lab_in, by_kind, Reading, contents, closed, agreed, read_forth}
use Rattle.journal_raw.specs.Raw.{Raw}
use Rattle.journal_raw.proofs.Readings.{Whole}
use Rattle.history_model.proofs.Recordable.{wide}
use Rattle.history_model.proofs.Keeps.{double, doubles}

abbrev pub Doubles : Sheet → Type 0
Doubles s = lists.some wide s.lab ≡ false

-- ---- the LAB that an undo stores
abbrev LabFits : Lab → Type 0
LabFits x = lists.some wide (numbers_of x) ≡ false

abbrev pub OldFits : Edit → Type 0
OldFits (Pixels tool) = Unit {0}
OldFits (PaletteSet i old new lab) = LabFits lab
OldFits (PaletteAdd c) = Unit {0}
OldFits (PaletteRemove i c lab) = LabFits lab
OldFits (PaletteLock i old new) = Unit {0}

-- ---- as a record tells it
double-read : (bytes : List ℕ) (at : ℕ) → wide (double_in bytes at) ≡ false
unfolding double_in
double-read bytes at = double (fits binary64 (double_in bytes at)) (of_bits-fits binary64 (le_at 8 bytes at))

lab-read : (bytes : List ℕ) (at : ℕ) → LabFits (lab_in bytes at)
unfolding lists.some lab_in
lab-read bytes at = rw (double-read bytes at, double-read bytes (at + 8), double-read bytes (at + 16))

abbrev Holds : Option (Edit × List Change) → Type 0
Holds none = Unit {0}
Holds (some p) = OldFits p.0

abbrev Tells : Reading → Type 0
Tells none = Unit {0}
Tells (some r) = OldFits r.1

either : {X : Type 0} (P : X → Type 0) (b : Bool) {x y : X} → P x → P y → P (cond b x y)
either P true p q = p
either P false p q = q

contents-old : (f : Form) (w : ℕ) (bytes : List ℕ) → Holds (contents f w bytes)
unfolding contents by_kind
contents-old f w bytes =
    let kind = get_or bytes 0 0 in
    either Holds (eqb kind (pixels_kind f)) (either Holds (leb 1 (le_at 4 bytes 2)) tt tt)
    (either Holds (eqb kind 2) (lab-read bytes 8)
    (either Holds (eqb kind 3) tt
    (either Holds (eqb kind (remove_kind f)) (lab-read bytes 5)
    (either Holds (eqb kind 5) (either Holds (is_mark (get_or bytes 2 0) && is_mark (get_or bytes 3 0)) tt tt) tt))))

agreed-old : (f : Form) (bytes : List ℕ) (o : Option (Edit × List Change)) → Holds o → Tells (agreed f bytes o)
unfolding agreed
agreed-old f bytes none h = tt
agreed-old f bytes (some p) h = either Tells (closed bytes _) h tt

pub whole-old : (w : ℕ) (r : Raw) (t : Whole w r) → OldFits t.edit
unfolding read_forth
whole-old w r t =
    subst Tells (t.forth Coordinates []) (agreed-old Coordinates _ _ (contents-old Coordinates w _))

-- ---- after an edit, and after its undo
pub done-doubles : (c : Curve) (s : Sheet) (e : Edit) (cs : List Change) → Doubles s → Doubles (redone (lab_by c) s e cs)
unfolding redone restDone painted_list
done-doubles c s (Pixels tool) cs h = h
done-doubles c s (PaletteSet i old new lab) cs h = stored-nowhere 3 wide (3 * i) _ s.lab (doubles c new) h
done-doubles c s (PaletteAdd rgb) cs h = stored-nowhere 3 wide (3 * s.k) _ s.lab (doubles c rgb) h
done-doubles c s (PaletteRemove i rgb lab) cs h = closed-nowhere 3 wide (3 * i) (3 * s.k) s.lab h
done-doubles c s (PaletteLock i old new) cs h = h

pub back-doubles : (s : Sheet) (e : Edit) (cs : List Change) → OldFits e → Doubles s → Doubles (reverted s e cs)
unfolding reverted
back-doubles s (Pixels tool) cs o h = h
back-doubles s (PaletteSet i old new lab) cs o h = stored-nowhere 3 wide (3 * i) _ s.lab o h
back-doubles s (PaletteAdd rgb) cs o h = h
back-doubles s (PaletteRemove i rgb lab) cs o h = opened-nowhere 3 wide (3 * i) (3 * s.k) _ s.lab o h
back-doubles s (PaletteLock i old new) cs o h = h
