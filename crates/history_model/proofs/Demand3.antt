-- Demand 3 for the calls of this crate. Assumes nothing.
use mathlib.Core.Path.{◌≡◌, refl}
use mathlib.Core.Bool.{Bool, true, false, not}
use mathlib.Core.List.{List, [], ◌∷◌, map}
use Prim.Native.Nat.{ℕ, ◌/◌, ◌^◌, ◌<◌}
use native.Mathlib.Nat.{mod-lt}
use native.Mathlib.Omega.{arith}
use mir.Facts.{sfits_to_z}
use borrow.Author.Tests.{lt-leb}
use lib.Dec.{T, lit<, leb}
use lib.Ieee.{Float, binary64, fits}
use Rattle.base.specs.declared.Form.{Form}
use Rattle.base.specs.declared.Rgb.{Rgb}
use Rattle.base.specs.Lists.{some}
use Rattle.base.specs.Checks.{first_of}
use Rattle.color_curve.specs.Curve.{Curve}
use Rattle.edit.specs.Change.{unpacked}
use Rattle.edit.specs.Storage.{numbers_of}
use Rattle.edit.specs.Accepted.{Bytes, NewBytes}
use Rattle.journal_write.specs.Fit.{FitChange, FitChanges}
use Rattle.sheet.specs.Sheet.{view}
use Rattle.history_ledger.proofs.Whole.{whole-history}
use Rattle.history_ledger.proofs.Full.{full-exactly}
use Rattle.history_ledger.specs.Calls.{Call}
use Rattle.history_ledger.specs.Calls.Call.{push, undo, redo, mark}
use Rattle.history_ledger.specs.Journal.{undoOf, stepOver}
use Rattle.history_ledger.specs.Algebra.{WellFormedIn}
use Rattle.history_ledger.specs.Demand.{TypedCall, TypedCalls}
use Rattle.history_model.specs.Document.{document_checks}
use Rattle.history_model.specs.Editing.{TypedSheet, editing_by, editing}
use Rattle.history_model.specs.Handed.{Byte, Double, Colour, rgb_of, HandedEdit, HandedSheet, HandedPush, sheet_by, edit_by, call_by}
use Rattle.history_model.specs.Handed.HandedEdit.{pixels, set, add, remove, lock}
use Rattle.history_model.specs.Demand3.{Demand3}
use Rattle.history_model.proofs.Keeps.{double, keeps}

-- ---- what the types give: a change of 64 bits has 16 bits for each of its numbers, and bytes are bytes
byte : (b : Byte) → b.value < 256
byte b = omega (arith, b.in-8-bits)

colour-bytes : (c : Colour) → Bytes (rgb_of c)
colour-bytes c = record { r-byte = byte c.r; g-byte = byte c.g; b-byte = byte c.b }

unpacked-fits : (c : ℕ) → FitChange (unpacked c)
unfolding unpacked
unpacked-fits c =
    record {
      x_fits = mod-lt c (lit< tt);
      y-fits = mod-lt (c / 2 ^ 16) (lit< tt);
      old-fits = sfits_to_z (record { fits = mod-lt (c / 2 ^ 32) (lit< tt) });
      new-fits = sfits_to_z (record { fits = mod-lt (c / 2 ^ 48) (lit< tt) });
    }

pub all_fit : (list : List ℕ) → FitChanges (map unpacked list)
unfolding FitChanges
all_fit [] = tt
all_fit (c ∷ list) = (unpacked-fits c, all_fit list)

new-bytes : (e : HandedEdit) → NewBytes (edit_by e)
new-bytes (pixels tool) = tt
new-bytes (set i old c lab) = colour-bytes c
new-bytes (add c) = colour-bytes c
new-bytes (remove i c lab) = tt
new-bytes (lock i old new) = tt

pub call-typed : (c : Call HandedPush) → TypedCall editing (call_by c)
call-typed (push p) = record { new-bytes = new-bytes p.edit; changes-fit = all_fit p.list }
call-typed undo = tt
call-typed redo = tt
call-typed mark = tt

calls-typed : (calls : List (Call HandedPush)) → TypedCalls editing (map call_by calls)
calls-typed [] = tt
calls-typed (c ∷ calls) = (call-typed c, calls-typed calls)

bytes-typed : (l : List Byte) → some (leb 256) (map (λ (b : Byte). b.value) l) ≡ false
unfolding some
bytes-typed [] = refl
bytes-typed (b ∷ l) = rw (lt-leb 256 b.value (byte b), bytes-typed l)

doubles-typed : (l : List Double) → some (λ (v : Float). not (fits binary64 v)) (map (λ (d : Double). d.value) l) ≡ false
unfolding some
doubles-typed [] = refl
doubles-typed (d ∷ l) = rw (double _ d.in-64-bits, doubles-typed l)

pub handed-typed : (lent : HandedSheet) → TypedSheet (sheet_by lent).sheet
handed-typed lent = record { palette = bytes-typed lent.palette; lab = doubles-typed lent.lab }

-- a handed sheet that none of 1 to 3 refuses
pub handed-fits : (f : Form) (c : Curve) (lent : HandedSheet) → first_of (document_checks (sheet_by lent)) ≡ 0 → WellFormedIn (editing_by f c) (sheet_by lent)
handed-fits f c lent passes = record { typed = handed-typed lent; passes = passes }

pub demand-3 : Demand3
unfolding view undoOf stepOver
demand-3 =
    record {
      whole-history =
          λ f c fits lent passes shorter longer b b' scratch scratch' r r' handed.
          whole-history (editing_by f c) (keeps f c fits) (sheet_by lent) (handed-fits f c lent passes)
          shorter longer b b' scratch scratch' r r' (map call_by handed) (calls-typed handed);
      journal-full = λ f c fits. full-exactly (editing_by f c) (keeps f c fits);
      undo-alike = λ f c st. refl;
    }
