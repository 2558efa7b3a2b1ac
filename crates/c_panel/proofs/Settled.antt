-- A sheet taken apart, a call of the core on it, and what the call leaves put back. Assumes nothing.
use mathlib.Core.Path.{◌≡◌, refl, sym, ap, subst, ◌∙◌}
use mathlib.Core.Bool.{Bool}
use mathlib.Core.List.{List}
use Prim.Native.Nat.{ℕ, ◌+◌, ◌*◌}
use lib.IntN.{ℤ}
use lib.Ieee.{Float}
use Rattle.base.specs.Answer.{answer_told}
use Rattle.base.specs.Answer.Told.{result, alone}
use Rattle.base.specs.declared.Handle.{Handle}
use Rattle.base.specs.declared.Moved.{Moved}
use Rattle.history_ledger.specs.Calls.{Answer, Outcome}
use Rattle.history_ledger.specs.Journal.{State, pushOf, undoOf, redoOf}
use Rattle.history_model.specs.Editing.{Given, editing}
use Rattle.history_model.specs.Document.{Document, document_of}
use Rattle.history_model.specs.Calls.{state_of, leaves}
use Rattle.c_form.specs.Fields.{read_from}
use Rattle.c_form.specs.Flat.{byte_in, double_from, index_in, mark_in, width_in, height_in, count_in, handle_in}
use Rattle.c_model.specs.Step.{Flat, flat_of, sheet_in, state_in, flat_left, flattened, handle_left, flat_room}
use Rattle.c_panel.specs.Lent.{flat_moved, sheet_left, Settles}
use Rattle.c_panel.proofs.Limits.{push_kept}

-- ---- by the answer
left-same : (x : Answer) (s : Flat) (st : State Document) (sheet' handle' : List ℕ) → sheet' ≡ sheet_left s.sheet x st.sheet
    → handle' ≡ handle_left s.handle x st.handle → ((n : ℕ) → x ≡ alone n → st.journal ≡ s.journal)
    → flat_of sheet' st.journal handle' ≡ flat_left s x st
unfolding sheet_left handle_left flat_left
left-same (result t) s st sheet' handle' p q k = λ i. flat_of (p i) st.journal (q i)
left-same (alone n) s st sheet' handle' p q k = λ i. flat_of (p i) (k n refl i) (q i)

-- ---- what a flat sheet holds is what the sheet taken apart holds
pub taken : (b : List ℕ) {w h k n : ℕ} {palette : List ℕ} {lab : List Float} {indices : List ℤ} {locks : List Bool}
    → w ≡ width_in b → h ≡ height_in b → k ≡ count_in b → n ≡ w * h → palette ≡ read_from 1 byte_in 6 765 b → lab ≡ read_from 8 double_from 771 765 b
    → indices ≡ read_from 2 index_in 6891 n b → locks ≡ read_from 1 mark_in (6891 + 2 * n) 255 b
    → document_of w h k palette lab indices locks ≡ sheet_in b
unfolding sheet_in
taken b {w} {h} {k} {n} ew eh ek en ep el ei em =
    let size : n ≡ width_in b * height_in b = en ∙ ap (λ (x : ℕ). x * h) ew ∙ ap (λ (x : ℕ). width_in b * x) eh in
    let ei' = ei ∙ ap (λ (m : ℕ). read_from 2 index_in 6891 m b) size in
    let em' = em ∙ ap (λ (m : ℕ). read_from 1 mark_in (6891 + 2 * m) 255 b) size in
    λ i. document_of (ew i) (eh i) (ek i) (ep i) (el i) (ei' i) (em' i)

-- ---- put back: the call's outcome, of the sheet
pub settles : (m : Moved) {w h : ℕ} {palette : List ℕ} {lab : List Float} {indices : List ℤ} {locks : List Bool} {journal : List ℕ}
    {o : Outcome (State Document)} → leaves m w h palette lab indices locks journal ≡ o → (b b' : List ℕ)
    → ((w h : ℕ) → b' ≡ sheet_left b (answer_told m.answer) (document_of w h m.k palette lab indices locks)) → Settles m b b' journal o
settles m {w} {h} e b b' p =
    record {
      answers = ap (λ (x : Outcome (State Document)). x.answer) e;
      sheet = p w h ∙ ap (λ (x : Outcome (State Document)). sheet_left b x.answer x.leaves.sheet) e;
      journal-is = ap (λ (x : Outcome (State Document)). x.leaves.journal) e;
      handle-is = ap (λ (x : Outcome (State Document)). x.leaves.handle) e;
    }

-- and with the handle in its bytes; a refused call leaves the journal
pub settled : (s : Flat) (m : Moved) (o : Outcome (State Document)) (sheet' journal' handle' : List ℕ) → Settles m s.sheet sheet' journal' o
    → handle' ≡ handle_left s.handle (answer_told m.answer) m.handle → ((n : ℕ) → o.answer ≡ alone n → o.leaves.journal ≡ s.journal)
    → flat_moved m.answer sheet' journal' handle' ≡ flattened s o
unfolding flattened
settled s m o sheet' journal' handle' p q kept =
    let q' : handle' ≡ handle_left s.handle o.answer o.leaves.handle = q ∙ (λ i. handle_left s.handle (p.answers i) (p.handle-is i)) in
    let l = ap (λ (j : List ℕ). flat_of sheet' j handle') p.journal-is ∙ left-same o.answer s o.leaves sheet' handle' p.sheet q' kept in
    λ i. record { answer = p.answers i; leaves = l i }

-- ---- a call of the core on the sheet taken apart, with the crate's scratch, is that call on what the buffer holds
module _ (x : Outcome (State Document)) (journal : List ℕ) (h : Handle) (d d' : Document) where
  pub undone-by : x ≡ undoOf editing (state_of d journal h) → d ≡ d' → x ≡ undoOf editing (state_of d' journal h)
  undone-by e q = e ∙ (λ i. undoOf editing (state_of (q i) journal h))

  pub redone-by : (room : ℕ) → x ≡ redoOf editing room (state_of d journal h) → room ≡ 4096 → d ≡ d' → x ≡ redoOf editing flat_room (state_of d' journal h)
  redone-by room e p q = e ∙ (λ i. redoOf editing (p i) (state_of (q i) journal h))

  pub pushed-by : (room : ℕ) (g : Given) → x ≡ pushOf editing room (state_of d journal h) g → room ≡ 4096 → d ≡ d'
      → x ≡ pushOf editing flat_room (state_of d' journal h) g
  pushed-by room g e p q = e ∙ (λ i. pushOf editing (p i) (state_of (q i) journal h) g)

-- ---- with the handle that the buffers hold
module _ (s : Flat) (m : Moved) (sheet' handle' : List ℕ) {h : Handle} (e : h ≡ handle_in s.handle)
    (q : handle' ≡ handle_left s.handle (answer_told m.answer) m.handle) where
  pub undo-settled : Settles m s.sheet sheet' s.journal (undoOf editing (state_of (sheet_in s.sheet) s.journal h))
      → flat_moved m.answer sheet' s.journal handle' ≡ flattened s (undoOf editing (state_in s))
  undo-settled p =
      let p' = subst (λ (x : Handle). Settles m s.sheet sheet' s.journal (undoOf editing (state_of (sheet_in s.sheet) s.journal x))) e p in
      settled s m _ sheet' s.journal handle' p' q (λ n k. sym p'.journal-is)

  pub redo-settled : Settles m s.sheet sheet' s.journal (redoOf editing flat_room (state_of (sheet_in s.sheet) s.journal h))
      → flat_moved m.answer sheet' s.journal handle' ≡ flattened s (redoOf editing flat_room (state_in s))
  redo-settled p =
      let p' = subst (λ (x : Handle). Settles m s.sheet sheet' s.journal (redoOf editing flat_room (state_of (sheet_in s.sheet) s.journal x))) e p in
      settled s m _ sheet' s.journal handle' p' q (λ n k. sym p'.journal-is)

  pub push-settled : (journal' : List ℕ) (g : Given)
      → Settles m s.sheet sheet' journal' (pushOf editing flat_room (state_of (sheet_in s.sheet) s.journal h) g)
      → flat_moved m.answer sheet' journal' handle' ≡ flattened s (pushOf editing flat_room (state_in s) g)
  push-settled journal' g p =
      let p' = subst (λ (x : Handle). Settles m s.sheet sheet' journal' (pushOf editing flat_room (state_of (sheet_in s.sheet) s.journal x) g)) e p in
      settled s m _ sheet' journal' handle' p' q (λ n k. ap (λ (st : State Document). st.journal) (push_kept editing flat_room (state_in s) g n k))
