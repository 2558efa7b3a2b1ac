-- A list of calls through the crate ends where its ledger ends. Assumes nothing.
use mathlib.Core.Path.{◌≡◌, refl, sym, ap, subst, ◌∙◌}
use mathlib.Core.Logic.{◌↔◌}
use mathlib.Core.Bool.{Bool, true, false, not, cond, ◌||◌}
use mathlib.Core.List.{List, [], ◌∷◌, map}
use Prim.Native.Nat.{ℕ, zero, suc, ◌+◌, ◌*◌, ◌≤◌, ◌<◌}
use native.Mathlib.Nat.{mul-le-mul}
use native.Mathlib.Omega.{arith}
use borrow.Author.Tests.{eq-eqb, ltb-false, lt-leb}
use lib.Dec.{ltb, leb, eqb, lit<}
use lib.Ieee.{Float, binary64, fits}
use lib.Ieee.Bits.{of_bits-fits}
use lib.ListN.{length, take, drop, get_or, replicate, length-replicate}
use Rattle.base.specs.Numbers.{flat_misfit, journal_full}
use Rattle.base.specs.Limits.{max_journal}
use Rattle.base.specs.Lists.{some, All}
use Rattle.base.specs.Checks.{◌when◌, first_of, refused_or}
use Rattle.base.specs.Answer.Told.{result, alone}
use Rattle.base.specs.declared.Handle.{Handle}
use Rattle.base.proofs.Back.{never}
use Rattle.base.proofs.Scan.{or_left, or_right}
use Rattle.base.proofs.Told.{same_number}
use Rattle.journal_record.specs.Bytes.{unle, le_at}
use Rattle.sheet.specs.Sheet.{view}
use Rattle.color_curve.specs.Curve.{srgb, CurveFits}
use Rattle.edit.specs.Accepted.{NewBytes}
use Rattle.history_ledger.specs.Handle.{fresh, saved_position, marked}
use Rattle.history_ledger.specs.Calls.{Call, Answer, Outcome, Played, play, lend, guarded, refused, done}
use Rattle.history_ledger.specs.Calls.Call.{push, undo, redo, mark}
use Rattle.history_ledger.specs.Algebra.{Algebra, WellFormedIn}
use Rattle.history_ledger.specs.Laws.{Laws}
use Rattle.history_ledger.specs.Journal.{State, opened, step, stepLent, pushOf, undoOf, redoOf, mark_of, long_journal, unsound}
use Rattle.history_ledger.specs.Ledger.{Ledger, begun, standing, enter}
use Rattle.history_ledger.specs.Demand.{unstruck, TypedCall, TypedCalls, Matches, SameHistory, FullCall}
use Rattle.history_ledger.proofs.Soundness.{sound-facts}
use Rattle.history_ledger.proofs.Playing.{played, onward, play-cons}
use Rattle.history_ledger.proofs.Lengths.{sound-handle}
use Rattle.history_ledger.proofs.Trace.{Trace, Holds, begin, begins, state_of}
use Rattle.history_ledger.proofs.Tally.{Stepped}
use Rattle.history_ledger.proofs.Whole.{sim, unstruck-typed, whole-history}
use Rattle.history_ledger.proofs.Full.{full-exactly}
use Rattle.history_ledger.proofs.Within.{keeps-within}
use Rattle.history_model.specs.Document.{Document, shown}
use Rattle.history_model.specs.Editing.{TypedGiven, editing}
use Rattle.history_model.proofs.Keeps.{keeps, double}
use Rattle.history_model.proofs.Demand3.{all_fit}
use Rattle.base.specs.declared.Form.TheVariants.{Coordinates}
use Rattle.c_form.specs.Fields.{read_from}
use Rattle.c_form.specs.Flat.{byte_in, double_from, handle_in, handle_over, numbers_in, sheet_misfits, handle_misfits, palette_in, lab_in}
use Rattle.c_model.specs.Asked.{Asked, given_by, flat_editing, limits, sides_over}
use Rattle.c_model.specs.Step.{Flat, flat_of, sheet_in, flat_over, state_in, flat_left, flattened, misfits, moved, handle_left, flat_mark, flat_room, flat_step}
use Rattle.history_ledger.specs.Coded.{coded}
use Rattle.c_model.specs.FlatHistory.{FlatSheet, IsByte, AskedTyped, CallTyped, flat_coding, flat_ledger, Ends, SameFlat, fresh_bytes, FlatHistory, FlatFull}
use Rattle.c_model.proofs.Limits.{bounded}
use Rattle.c_model.proofs.Answers.{misfit-answers, core-answers}
use Rattle.history_ledger.proofs.Coded.{keeps-coded}
use Rattle.c_model.proofs.Faithful.{faithful, sheet-passes}
use Rattle.c_form.proofs.Bounds.{Words, sound-words, handle-long, handle-back}
use Rattle.c_form.proofs.Spans.{read_none}
use Rattle.history_ledger.proofs.Recoded.{readState, leftIn, inForm, push-in, undo-in, redo-in}

-- ---- the laws
pub srgb-fits : CurveFits srgb
unfolding first_of
srgb-fits = refl

abbrev core-keeps : Laws editing
core-keeps = keeps Coordinates srgb srgb-fits

abbrev pub flat_keeps : Laws flat_editing
flat_keeps = keeps-within editing core-keeps limits bounded

abbrev laws : Laws flat_ledger
laws = keeps-coded flat_editing flat_keeps flat_coding faithful

-- ---- one call: what it leaves in bytes is what it leaves in the form
abbrev coded_of : Flat → State (List ℕ)
coded_of s = record { sheet = s.sheet; journal = s.journal; handle = handle_in s.handle }

record Same (o : Outcome Flat) (answer : Answer) (t : State (List ℕ)) : Type 0 where
  pub answers : o.answer ≡ answer
  pub leaves : coded_of o.leaves ≡ t
  pub forty : length o.leaves.handle ≡ 40

forty-fits : (b : List ℕ) → length b ≡ 40 → handle_misfits b ≡ false
unfolding handle_misfits
forty-fits b e = rw (eq-eqb (length b) 40 e)

-- none of 28
fits_both : (s : Flat) → sheet_misfits s.sheet ≡ false → length s.handle ≡ 40 → misfits s ≡ false
fits_both s f e = rw (f, forty-fits s.handle e)

module _ (s : Flat) (forty : length s.handle ≡ 40) where
  flattened-same : (x : Answer) (u : State Document) (answer : Answer) (t : State (List ℕ))
      → inForm flat_editing flat_coding (coded_of s) (record { answer = x; leaves = u }) ≡ record { answer = answer; leaves = t }
      → Words t.handle → Same (flattened s (record { answer = x; leaves = u })) answer t
  unfolding flattened flat_left leftIn
  flattened-same (result d) u answer t e w =
      let q : u.handle ≡ t.handle = ap (λ (o : Outcome (State (List ℕ))). o.leaves.handle) e in
      let v : Words u.handle = subst Words (sym q) w in
      record {
        answers = ap (λ (o : Outcome (State (List ℕ))). o.answer) e;
        leaves =
            (λ i. record { sheet = flat_over u.sheet s.sheet; journal = u.journal; handle = handle-back u.handle v s.handle forty i })
            ∙ ap (λ (o : Outcome (State (List ℕ))). o.leaves) e;
        forty = handle-long u.handle v s.handle forty;
      }
  flattened-same (alone n) u answer t e w =
      record {
        answers = ap (λ (o : Outcome (State (List ℕ))). o.answer) e;
        leaves = ap (λ (o : Outcome (State (List ℕ))). o.leaves) e;
        forty = forty;
      }

  -- push, undo and redo, where 28 does not apply
  moved_same : sheet_misfits s.sheet ≡ false → (o : Outcome (State Document)) (answer : Answer) (t : State (List ℕ))
      → inForm flat_editing flat_coding (coded_of s) o ≡ record { answer = answer; leaves = t } → Words t.handle → Same (moved s o) answer t
  unfolding moved first_of refused_or
  moved_same fit o answer t e w =
      let none : misfits s ≡ false = fits_both s fit forty in
      subst (λ (b : Bool). Same (refused_or (first_of (flat_misfit when b ∷ [])) (refused s) (flattened s o)) answer t) (sym none)
      (flattened-same o.answer o.leaves answer t e w)

  -- mark
  marked-same : (n : ℕ) (answer : Answer) (t : State (List ℕ))
      → let o = refused_or n (refused (handle_in s.handle)) (done (marked (handle_in s.handle))) in
      ◌≡◌ {A = Outcome (State (List ℕ))}
      (record { answer = o.answer; leaves = record { sheet = s.sheet; journal = s.journal; handle = o.leaves } })
      (record { answer = answer; leaves = t })
      → Words t.handle
      → Same (record { answer = o.answer; leaves = flat_of s.sheet s.journal (handle_left s.handle o.answer o.leaves) }) answer t
  unfolding refused_or handle_left
  marked-same zero answer t e w =
      let h : Handle = marked (handle_in s.handle) in
      let v : Words h = subst Words (sym (ap (λ (o : Outcome (State (List ℕ))). o.leaves.handle) e)) w in
      record {
        answers = ap (λ (o : Outcome (State (List ℕ))). o.answer) e;
        leaves =
            (λ i. record { sheet = s.sheet; journal = s.journal; handle = handle-back h v s.handle forty i })
            ∙ ap (λ (o : Outcome (State (List ℕ))). o.leaves) e;
        forty = handle-long h v s.handle forty;
      }
  marked-same (suc n) answer t e w =
      record {
        answers = ap (λ (o : Outcome (State (List ℕ))). o.answer) e;
        leaves = ap (λ (o : Outcome (State (List ℕ))). o.leaves) e;
        forty = forty;
      }

  mark-same : sheet_misfits s.sheet ≡ false → (answer : Answer) (t : State (List ℕ)) → step flat_ledger flat_room (coded_of s) mark ≡ record { answer = answer; leaves = t } → Words t.handle
      → Same (flat_step s mark) answer t
  unfolding flat_step flat_mark mark_of first_of refused_or
  mark-same fit answer t e w =
      subst
      (λ (b : Bool).
      let o = mark_of (length s.journal) (handle_in s.handle) in
      let m = refused_or (first_of (flat_misfit when b ∷ [])) (refused s.handle) (record { answer = o.answer; leaves = handle_left s.handle o.answer o.leaves }) in
      Same (record { answer = m.answer; leaves = flat_of s.sheet s.journal m.leaves }) answer t)
      (sym (fits_both s fit forty))
      (marked-same (first_of (long_journal (length s.journal) ∷ unsound (length s.journal) (handle_in s.handle) ∷ [])) answer t e w)

-- ---- a list of calls, beside the history in the form
abbrev rooms : ℕ → ℕ
rooms i = flat_room

record Beside (s : Flat) (st : State (List ℕ)) (cs : List (Call Asked)) : Type 0 where
  pub answers : (play flat_step s cs).answers ≡ (play (stepLent flat_ledger) st (lend rooms cs)).answers
  pub ends : coded_of (play flat_step s cs).ends ≡ (play (stepLent flat_ledger) st (lend rooms cs)).ends

module _ (n : ℕ) (permitted : n ≤ max_journal) where
  held : (k : Trace flat_ledger) → Holds flat_ledger flat_room n k → Words (state_of flat_ledger k).handle
  held k h =
      sound-words (length (state_of flat_ledger k).journal) _ (omega (arith, h.sized))
      (sound-facts _ _ (sound-handle flat_ledger laws k h.saves))

  one : (s : Flat) → length s.handle ≡ 40 → (k : Trace flat_ledger) → Holds flat_ledger flat_room n k → coded_of s ≡ state_of flat_ledger k
      → (c : Call Asked) (now : Stepped flat_ledger flat_room n k c) → Same (flat_step s c) now.answer (state_of flat_ledger now.to)
  unfolding flat_step
  one s forty k h p c now = go c (ap (λ (st : State (List ℕ)). step flat_ledger flat_room st c) p ∙ now.code)
    where
      fit : sheet_misfits s.sheet ≡ false
      fit = subst (λ (b : List ℕ). sheet_misfits b ≡ false) (sym (ap (λ (st : State (List ℕ)). st.sheet) p)) h.fits.typed.0

      words : Words (state_of flat_ledger now.to).handle
      words = held now.to now.holds

      go : (c : Call Asked) → step flat_ledger flat_room (coded_of s) c ≡ record { answer = now.answer; leaves = state_of flat_ledger now.to }
          → Same (flat_step s c) now.answer (state_of flat_ledger now.to)
      go (push a) e = moved_same s forty fit (pushOf flat_editing flat_room (state_in s) a) _ _ (sym (push-in flat_editing flat_coding flat_room (coded_of s) a) ∙ e) words
      go undo e = moved_same s forty fit (undoOf flat_editing (state_in s)) _ _ (sym (undo-in flat_editing flat_coding (coded_of s)) ∙ e) words
      go redo e = moved_same s forty fit (redoOf flat_editing flat_room (state_in s)) _ _ (sym (redo-in flat_editing flat_coding flat_room (coded_of s)) ∙ e) words
      go mark e = mark-same s forty fit _ _ e words

  beside : (cs : List (Call Asked)) → TypedCalls flat_ledger cs → (s : Flat) → length s.handle ≡ 40
      → (k : Trace flat_ledger) → Holds flat_ledger flat_room n k → coded_of s ≡ state_of flat_ledger k → Beside s (state_of flat_ledger k) cs
  unfolding play lend
  beside [] ts s forty k h p = record { answers = refl; ends = p }
  beside (c ∷ cs) ts s forty k h p =
      let now = sim flat_ledger laws flat_room n permitted k h c ts.0 in
      let same = one s forty k h p c now in
      let later = beside cs ts.1 (flat_step s c).leaves same.forty now.to now.holds same.leaves in
      let code = play-cons (stepLent flat_ledger) (state_of flat_ledger k) (record { call = c; room = flat_room }) (lend rooms cs) now.code in
      record {
        answers =
            (λ i. same.answers i ∷ later.answers i)
            ∙ sym (ap (λ (r : Played (State (List ℕ))). r.answers) code);
        ends = later.ends ∙ sym (ap (λ (r : Played (State (List ℕ))). r.ends) code);
      }

-- ---- the types of what is handed in
asked-typed : (a : Asked) → AskedTyped a → TypedGiven (given_by a)
unfolding given_by
asked-typed (Asked.pixels tool bytes) t = record { new-bytes = tt; changes-fit = all_fit (numbers_in bytes) }
asked-typed (Asked.set i c) t = record { new-bytes = record { r-byte = t.0; g-byte = t.1; b-byte = t.2 }; changes-fit = all_fit [] }
asked-typed (Asked.add c) t = record { new-bytes = record { r-byte = t.0; g-byte = t.1; b-byte = t.2 }; changes-fit = all_fit [] }
asked-typed (Asked.remove i bytes) t = record { new-bytes = tt; changes-fit = all_fit (numbers_in bytes) }
asked-typed (Asked.lock i m) t = record { new-bytes = tt; changes-fit = all_fit [] }

call-typed : (c : Call Asked) → CallTyped c → TypedCall flat_ledger c
call-typed (push a) t = asked-typed a t
call-typed undo t = tt
call-typed redo t = tt
call-typed mark t = tt

calls-typed : (cs : List (Call Asked)) → All CallTyped cs → TypedCalls flat_ledger cs
unfolding All
calls-typed [] ts = tt
calls-typed (c ∷ cs) ts = (call-typed c ts.0, calls-typed cs ts.1)

all_drop : (n : ℕ) (b : List ℕ) → All IsByte b → All IsByte (drop n b)
unfolding All
all_drop zero b h = h
all_drop (suc n) [] h = h
all_drop (suc n) (x ∷ b) h = all_drop n b h.1

first_byte : (b : List ℕ) → All IsByte b → get_or (take 1 b) 0 0 < 256
unfolding All
first_byte [] h = lit< tt
first_byte (x ∷ b) h = h.0

bytes_read : (b : List ℕ) → All IsByte b → (at n : ℕ) → some (leb 256) (read_from 1 byte_in at n b) ≡ false
unfolding read_from some
bytes_read b h at zero = refl
bytes_read b h at (suc n) = rw (lt-leb 256 (byte_in (take 1 (drop at b))) (first_byte (drop at b) (all_drop at b h)), bytes_read b h (at + 1) n)

small-places : (w h : ℕ) → sides_over w h ≡ false → w * h ≤ 4096
unfolding sides_over
small-places w h e =
    mul-le-mul {n₁ = w} {m₁ = h} {n₂ = 64} {m₂ = 64} (omega (arith, ltb-false 64 w (or_left (ltb 64 w) (ltb 64 h) e))) (omega (arith, ltb-false 64 h (or_right (ltb 64 w) (ltb 64 h) e)))

-- ---- the theorem
module _ (sheet : List ℕ) (f : FlatSheet sheet) where
  well-formed : WellFormedIn flat_ledger sheet
  unfolding sheet_in
  well-formed =
      record {
        typed = (
          f.suits,
          record {
            palette = bytes_read sheet f.bytes 6 765;
            lab = read_none 8 double_from (λ (v : Float). not (fits binary64 v)) (λ bytes. double (fits binary64 (double_from bytes)) (of_bits-fits binary64 (unle bytes))) 771 765 sheet;
          },
        );
        passes = f.passes;
      }

  enough : flat_ledger.places (flat_ledger.view sheet) ≤ flat_room
  unfolding view
  enough = small-places (sheet_in sheet).sheet.w (sheet_in sheet).sheet.h (sheet-passes (sheet_in sheet) f.passes).0

fresh-handle : handle_in (replicate 40 0) ≡ fresh
unfolding handle_in le_at unle
fresh-handle = refl

-- a run through the crate, beside the history in the form
abbrev runs : List ℕ → List ℕ → List (Call Asked) → Type 0
runs sheet journal calls = Beside (flat_of sheet journal fresh_bytes) (opened flat_ledger sheet journal) calls

run : (sheet : List ℕ) → FlatSheet sheet → (journal : List ℕ) → length journal ≤ max_journal → (calls : List (Call Asked)) → TypedCalls flat_ledger calls
    → runs sheet journal calls
run sheet f journal b calls ts =
    beside (length journal) b calls ts (flat_of sheet journal fresh_bytes) refl (begin flat_ledger sheet journal)
    (begins flat_ledger sheet journal flat_room (well-formed sheet f) (enough sheet f))
    (λ i. record { sheet = sheet; journal = journal; handle = fresh-handle i })

-- it ends where the ledger ends
ends : (s : Flat) (st : State (List ℕ)) (l : Ledger flat_ledger) → coded_of s ≡ st → Matches flat_ledger st l → Ends s l
ends s st l e m =
    record {
      picture = ap (λ (t : State (List ℕ)). shown (sheet_in t.sheet)) e ∙ m.picture;
      position = ap (λ (t : State (List ℕ)). t.handle.position) e ∙ m.position;
      saved = ap (λ (t : State (List ℕ)). saved_position t.handle) e ∙ m.saved;
    }

pub flat-history : FlatHistory
flat-history sheet f shorter longer b b' calls ts =
    let typed = calls-typed calls ts in
    let room = enough sheet f in
    let one = run sheet f shorter (omega arith) calls typed in
    let left = unstruck calls (play (stepLent flat_ledger) (opened flat_ledger sheet shorter) (lend rooms calls)).answers in
    let two = run sheet f longer b' left (unstruck-typed flat_ledger laws calls _ typed) in
    let whole = whole-history flat_ledger laws sheet (well-formed sheet f) shorter longer b b' rooms rooms (λ i. room) (λ i. room) calls typed in
    rw one.answers
    (record {
      second-answers = two.answers ∙ whole.second-answers;
      ledger-answers = whole.ledger-answers;
      first_ends = ends _ _ _ one.ends whole.first_ends;
      second-ends = ends _ _ _ two.ends whole.second-ends;
    })

-- ---- which calls are struck
pub flat-full : FlatFull
flat-full s c = go (misfits s) refl
  where
    go : (b : Bool) → misfits s ≡ b → ((flat_step s c).answer ≡ alone journal_full) ↔ ((misfits s ≡ false) × FullCall flat_editing flat_room (state_in s) c)
    go true e = (
      λ p. absurd (let n : 28 ≡ 14 = same_number (sym (misfit-answers s c e) ∙ p) in omega (arith, n)),
      λ q. never (sym q.0 ∙ e),
    )
    go false e =
        let exactly = full-exactly flat_editing flat_keeps flat_room (state_in s) c in
        (λ p. (e, exactly.0 (sym (core-answers s c e) ∙ p)), λ q. core-answers s c e ∙ exactly.1 q.1)
