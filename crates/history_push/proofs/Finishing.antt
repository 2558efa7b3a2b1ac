-- The last step of `push`: the record written around its changes, the edit done, the handle moved. Assumes nothing.
use mathlib.Core.Path.{◌≡◌, ap, ◌∙◌}
use mathlib.Core.Bool.{Bool}
use mathlib.Core.List.{List, [], ◌++◌, append-nil}
use Prim.Native.Nat.{ℕ, ◌+◌, ◌-◌, ◌<◌, ◌≤◌}
use native.Mathlib.Omega.{arith}
use borrow.Rule.Slice.PartMut.{put_mid}
use lib.Ieee.{Float}
use lib.ListN.{length, take, drop, length-drop, drop_of_length-le}
use lib.Seq.{take_all, length-take-le}
use Rattle.base.specs.declared.Lab.{Lab}
use Rattle.base.specs.declared.Rgb.{Rgb}
use Rattle.sheet.specs.Sheet.{Sheet, sheet_of}
use Rattle.base.specs.declared.Edit.{Edit}
use Rattle.base.specs.declared.Form.{Form}
use Rattle.edit.specs.Locks.{locks_done}
use Rattle.edit.specs.Apply.{filled_edit, restDone}
use Rattle.journal_record.specs.Record.{record_length}
use Rattle.journal_frame.specs.Frame.{around, Framed}
use Rattle.base.specs.declared.Handle.{Handle}
use Rattle.history_ledger.specs.Handle.{after_push}
use Rattle.history_ledger.specs.Journal.{State}
use Rattle.history_model.specs.Document.{Document}
use Rattle.history_model.specs.Calls.{state_of}
use Rattle.history_model.proofs.Accepting.{filled-length}
use Rattle.history_push.specs.Finish.{finished, Finishes}

-- the part of a journal from an offset on
pub part_length : (journal : List ℕ) (o : ℕ) → length (take (length journal - o) (drop o journal)) ≡ length journal - o
part_length journal o = length-take-le (length journal - o) (drop o journal) (rw length-drop (omega arith))

module _ (form : Form) (k : ℕ) (palette : List ℕ) (lab : List Float) (locks : List Bool) (journal : List ℕ) (handle : Handle) (e : Edit) (n : ℕ) (f : Finishes form k palette lab locks journal handle e n) where
  abbrev offset : ℕ
  offset = handle.offset

  -- what the record's writer asks
  pub around-asks : (x : Edit) → x ≡ filled_edit (sheet_of 0 0 k palette lab []) locks e
      → (record_length form x n ≤ length (take (length journal - offset) (drop offset journal))) × ((record_length form x n < 4294967296) × Framed x)
  around-asks x q =
      let long : record_length form x n ≡ record_length form e n = ap (λ (y : Edit). record_length form y n) q ∙ filled-length form (sheet_of 0 0 k palette lab []) locks e n in
      (omega (arith, long, part_length journal offset, f.room), (omega (arith, long, f.room, f.permitted), rw q f.framed))

  pub offset-inside : offset ≤ length journal
  offset-inside = omega (arith, f.room)

-- ---- what is left
-- a part of the journal from an offset on to its end, that a function made anew
pub from-offset : (f : List ℕ → List ℕ) (l part : List ℕ) (o : ℕ) → part ≡ f (take (length l - o) (drop o l)) → put_mid o (length l - o) l part ≡ take o l ++ f (drop o l)
from-offset f l part o q =
    let all : take (length l - o) (drop o l) ≡ drop o l = take_all (length l - o) (drop o l) (simp length-drop (omega arith)) in
    let none : drop (length l - o) (drop o l) ≡ [] = drop_of_length-le (drop o l) {i = length l - o} (simp length-drop (omega arith)) in
    rw (none, append-nil part) (ap (λ (p : List ℕ). take o l ++ p) (q ∙ ap f all))

pub finished-is : (form : Form) (curve : Rgb → Lab) (st : State Document) (e : Edit) (n : ℕ) (t : Sheet) (marks : List Bool) (x : Edit) (part : List ℕ) (r : ℕ) (hd : Handle)
    → t ≡ restDone curve st.sheet.sheet e
    → marks ≡ locks_done st.sheet.sheet.k st.sheet.locks e
    → x ≡ filled_edit st.sheet.sheet st.sheet.locks e
    → part ≡ around form x n (take (length st.journal - st.handle.offset) (drop st.handle.offset st.journal))
    → r ≡ record_length form e n
    → hd ≡ after_push r st.handle
    → state_of (record { sheet = t; locks = marks }) (put_mid st.handle.offset (length st.journal - st.handle.offset) st.journal part) hd ≡ finished form curve st e n
unfolding finished
finished-is form curve st e n t marks x part r hd sheet moves edit bytes long moved =
    let o : ℕ = st.handle.offset in
    let l : List ℕ = st.journal in
    let journal : put_mid o (length l - o) l part ≡ take o l ++ around form (filled_edit st.sheet.sheet st.sheet.locks e) n (drop o l) = from-offset (around form (filled_edit st.sheet.sheet st.sheet.locks e) n) l part o (bytes ∙ rw edit) in
    let handle : hd ≡ after_push (record_length form e n) st.handle = moved ∙ ap (λ (m : ℕ). after_push m st.handle) long in
    λ i. record { sheet = record { sheet = sheet i; locks = moves i }; journal = journal i; handle = handle i }
