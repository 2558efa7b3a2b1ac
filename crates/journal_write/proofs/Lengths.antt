-- A record is as long as `record_length` says. Assumes nothing.
use Prim.Native.Nat.{ℕ, ◌+◌, ◌*◌}
use mathlib.Core.Path.{◌≡◌, refl}
use mathlib.Core.List.{List}
use native.Mathlib.Omega.{arith}
use lib.ListN.{length, length-append}
use Rattle.base.specs.declared.Form.{Form}
use Rattle.base.specs.declared.Lab.{Lab}
use Rattle.base.specs.declared.Edit.{Edit}
use Rattle.base.specs.declared.Edit.TheVariants.{Pixels, PaletteSet, PaletteAdd, PaletteRemove, PaletteLock}
use Rattle.edit.specs.Change.{Change}
use Rattle.journal_record.specs.Record.{stride, lab_bytes, list_bytes, body_of, record_length, record_of}
use Rattle.journal_record.proofs.LittleEndian.{length-le}
use Rattle.journal_write.proofs.Changes.{length-changes}

pub length-lab : (x : Lab) → length (lab_bytes x) ≡ 24
unfolding lab_bytes
length-lab x = simp (length-append, length-le)

pub length-list : (f : Form) (w : ℕ) (cs : List Change) → length (list_bytes f w cs) ≡ 4 + stride f * length cs
unfolding list_bytes
length-list f w cs = rw (length-append, length-le, length-changes)

pub length-body : (f : Form) (w : ℕ) (e : Edit) (cs : List Change) → length (body_of f w e cs) + 4 ≡ record_length f e (length cs)
unfolding body_of record_length
length-body f w (Pixels tool) cs = rw length-list (omega arith)
length-body f w (PaletteSet i old new lab) cs = rw length-lab
length-body f w (PaletteAdd c) cs = refl
length-body f w (PaletteRemove i c lab) cs = simp (length-append, length-lab, length-list) (omega arith)
length-body f w (PaletteLock i old new) cs = refl

pub length-record : (f : Form) (w : ℕ) (e : Edit) (cs : List Change) → length (record_of f w e cs) ≡ record_length f e (length cs)
unfolding record_of
length-record f w e cs = rw (length-append, length-le) (length-body f w e cs)
