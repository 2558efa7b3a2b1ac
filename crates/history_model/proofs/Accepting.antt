-- What an accepted push writes: what the record's writer asks of it. Assumes nothing.
use mathlib.Core.Path.{◌≡◌, refl}
use mathlib.Core.Bool.{Bool, false, not}
use mathlib.Core.List.{List}
use Prim.Native.Nat.{ℕ, ◌+◌, ◌*◌, ◌<◌}
use native.Mathlib.Omega.{arith}
use lib.Dec.{T}
use lib.Ieee.{Float, nan, inf, fin, is_nan}
use lib.ListN.{length, take, get_or}
use lib.Seq.{length-take-le, get_or-take}
use Rattle.base.proofs.Scan.{some-none}
use Rattle.color_doubles.specs.Finite.{unfit}
use Rattle.base.specs.Triples.{lab_at}
use Rattle.sheet.specs.Sheet.{Sheet}
use Rattle.sheet.specs.Checks.{WellFormed}
use Rattle.base.specs.declared.Edit.{Edit}
use Rattle.base.specs.declared.Form.{Form}
use Rattle.base.specs.declared.Edit.TheVariants.{Pixels, PaletteSet, PaletteAdd, PaletteRemove, PaletteLock}
use Rattle.edit.specs.Change.{Change}
use Rattle.edit.specs.Apply.{filled_edit}
use Rattle.edit.proofs.Passed.{Passed, passed}
use Rattle.edit_apply.specs.Redoable.{Unrefused}
use Rattle.journal_record.specs.Record.{record_length}
use Rattle.journal_write.specs.Fit.{Numbers}
use Rattle.journal_frame.specs.Frame.{Framed}
use Rattle.history_ledger.specs.Journal.{State}
use Rattle.history_model.specs.Document.{Document}
use Rattle.history_model.specs.Calls.{Acceptable}

-- ---- the edit filled in has the same length
pub filled-length : (form : Form) (s : Sheet) (locks : List Bool) (e : Edit) (n : ℕ) → record_length form (filled_edit s locks e) n ≡ record_length form e n
unfolding record_length filled_edit
filled-length form s locks (Pixels tool) n = refl
filled-length form s locks (PaletteSet i old new lab) n = refl
filled-length form s locks (PaletteAdd c) n = refl
filled-length form s locks (PaletteRemove i c lab) n = refl
filled-length form s locks (PaletteLock i old new) n = refl

-- ---- and can be written: a well-formed sheet's LAB is numbers
a-number : (v : Float) → unfit v ≡ false → T (not (is_nan v))
unfolding unfit is_nan
a-number nan e = absurd (let z : ◌≡◌ {A = ℕ} 0 1 = cc in omega arith)
a-number (inf s) e = tt
a-number (fin s m e) q = tt

module _ (s : Sheet) (locks : List Bool) (f : WellFormed s) where
  held : (i : ℕ) → i < 3 * s.k → T (not (is_nan (get_or s.lab i nan)))
  held i h =
      let long : length (take (3 * s.k) s.lab) ≡ 3 * s.k = length-take-le (3 * s.k) s.lab (omega (arith, f.limits.k-small, f.limits.lab-length)) in
      a-number (get_or s.lab i nan) (rw (get_or-take) at (some-none unfit (take (3 * s.k) s.lab) i nan f.fit (omega arith)))

  numbers : (i : ℕ) → i < s.k → Numbers (lab_at s.lab i)
  unfolding lab_at
  numbers i h = record { l-number = held (3 * i) (omega arith); a-number = held (3 * i + 1) (omega arith); b-number = held (3 * i + 2) (omega arith) }

  by-kind : (e : Edit) (cs : List Change) → Passed s e cs → Framed (filled_edit s locks e)
  unfolding Framed filled_edit
  by-kind (Pixels tool) cs p = tt
  by-kind (PaletteSet i old new lab) cs p = (omega (arith, f.limits.k-small, p), numbers i p)
  by-kind (PaletteAdd c) cs p = tt
  by-kind (PaletteLock i old new) cs p = omega (arith, f.limits.k-small, p)
  by-kind (PaletteRemove i c lab) cs p = (omega (arith, f.limits.k-small, p.entry), numbers i p.entry)

pub framed : {form : Form} {st : State Document} {e : Edit} {cs : List Change} → WellFormed st.sheet.sheet → Acceptable form st e cs → Framed (filled_edit st.sheet.sheet st.sheet.locks e)
framed {form} {st} {e} {cs} f a = by-kind st.sheet.sheet st.sheet.locks f e cs (passed false st.sheet.sheet st.sheet.locks a.permitted e cs a.passes)

pub not-refused : {form : Form} {st : State Document} {e : Edit} {cs : List Change} → Acceptable form st e cs → Unrefused st.sheet.sheet e cs
not-refused {form} {st} a = record { replay = false; locks = st.sheet.locks; permitted = a.permitted; passes = a.passes }
