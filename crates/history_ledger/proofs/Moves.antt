-- Undo, redo and mark, in the journal and in the tally. Assumes nothing.
use mathlib.Core.Path.{◌≡◌, refl, sym, ap, subst, ◌∙◌}
use mathlib.Core.Bool.{Bool, true}
use mathlib.Core.List.{List, [], ◌∷◌, ◌++◌, append_assoc}
use mathlib.Core.Option.{Option, some}
use Prim.Native.Nat.{ℕ, suc, ◌+◌, ◌-◌, ◌≤◌}
use native.Mathlib.Omega.{arith}
use lib.ListN.{length, length-append}
use lib.Dec.{eqb-suc-zero}
use borrow.Author.Tests.{le-leb, eq-eqb, ne_eqb}
use Rattle.base.specs.Limits.{max_journal}
use Rattle.base.specs.Checks.{first_of, refused_or}
use Rattle.base.specs.Answer.{Done, Still}
use Rattle.base.specs.declared.Handle.{Handle}
use Rattle.history_ledger.specs.Handle.{stepped_back, stepped_forth}
use Rattle.history_ledger.specs.Calls.{done}
use Rattle.history_ledger.specs.Calls.Call.{undo, redo, mark}
use Rattle.history_ledger.specs.Algebra.{Algebra, Taken}
use Rattle.history_ledger.specs.Laws.{Laws, Reads}
use Rattle.history_ledger.specs.Journal.{mark_of, stepOver, undoOf, redoOf}
use Rattle.history_ledger.specs.Ledger.{enter, moved_to}
use Rattle.history_ledger.proofs.Soundness.{same-handle}
use Rattle.history_ledger.proofs.Saved.{SavedWithin}
use Rattle.history_ledger.specs.Tally.{total}
use Rattle.history_ledger.proofs.Trace.{Trace, Holds, Pushed, Leads, Follows, sizes, journalOf, handle_of, state_of, pastBytes, futureBytes, pastPictures, futurePictures, pictures-length}
use Rattle.history_ledger.proofs.Lengths.{sound-handle, take_past, take-future}
use Rattle.history_ledger.proofs.Tally.{tally_of, turn-fits, Stepped}
use Rattle.history_ledger.proofs.Checks.{move-passes, redo-passes, mark-passes, scratch-passes}

module _ (A : Algebra) (L : Laws A) where
  open A use {Sheet}

  -- one step over a sound record, from the state of one trace to that of another with the same journal
  steps-over : (here there : Trace A) (reading : Option (Taken Sheet)) (inside : ℕ → Bool) (stepped : ℕ → Handle → Handle) (m : ℕ)
      → reading ≡ some (record { length = m; sheet = there.sheet }) → inside m ≡ true → stepped m (handle_of A here) ≡ handle_of A there
      → journalOf A here ≡ journalOf A there → SavedWithin (length there.past + length there.future) there.saved
      → stepOver A (state_of A here) reading inside stepped ≡ done (state_of A there)
  unfolding stepOver first_of refused_or
  steps-over here there reading inside stepped m p q e j s = rw (p, q, e, j, sound-handle A L there s)

module _ (A : Algebra) (L : Laws A) (room n : ℕ) (permitted : n ≤ max_journal) where
  open A use {Sheet, Picture, view, places, size, back, forth, paint}

  pub sim-mark : (k : Trace A) → Holds A room n k → Stepped A room n k mark
  unfolding mark_of enter refused_or
  sim-mark k h =
      record {
        answer = Done;
        to = record { opening = k.opening; sheet = k.sheet; past = k.past; future = k.future; rest = k.rest; saved = some (length k.past) };
        holds = record { fits = h.fits; scratch = h.scratch; sized = h.sized; leads = h.leads; follows = h.follows; saves = omega arith };
        code = rw (mark-passes A L room n permitted k h);
        tally = turn-fits A n (tally_of A k) mark (omega arith);
      }

  module _ (o : Picture) (rest : List ℕ) (saved : Option ℕ) where
    abbrev at : Sheet → List (Pushed A) → List (Pushed A) → Trace A
    at s past future = record { opening = o; sheet = s; past = past; future = future; rest = rest; saved = saved }

    -- ---- nothing to step over
    undo-none : (s : Sheet) (future : List (Pushed A)) → Holds A room n (at s [] future) → Stepped A room n (at s [] future) undo
    unfolding undoOf enter refused_or
    undo-none s future h =
        let k = at s [] future in
        record { answer = Still; to = k; holds = h; code = rw (move-passes A L room n permitted k h); tally = turn-fits A n (tally_of A k) undo (omega arith) }

    redo-none : (s : Sheet) (past : List (Pushed A)) → Holds A room n (at s past []) → Stepped A room n (at s past []) redo
    unfolding redoOf enter refused_or
    redo-none s past h =
        let k = at s past [] in
        let last : length past ≡ length past + 0 = omega arith in
        let last' : length past ≡ length (pastPictures A past ++ []) = omega (arith, length-append (pastPictures A past) [], pictures-length A past) in
        record {
          answer = Still;
          to = k;
          holds = h;
          code = rw (redo-passes A L room n permitted k h, eq-eqb _ _ last);
          tally = turn-fits A n (tally_of A k) redo (omega arith) ∙ rw (eq-eqb _ _ last');
        }

    -- ---- the record of x, between the past and the future: below it and above it
    module _ (x : Pushed A) (past future : List (Pushed A)) where
      abbrev below : Sheet → Trace A
      below s = at s past (x ∷ future)

      abbrev above : Sheet → Trace A
      above s = at s (x ∷ past) future

      journals : (s t : Sheet) → journalOf A (above s) ≡ journalOf A (below t)
      journals s t = simp append_assoc

      counts : suc (length past) + length future ≡ length past + suc (length future)
      counts = omega arith

      one_less : suc (length past) - 1 ≡ length past
      one_less = omega arith

      one_more : length past + 1 ≡ suc (length past)
      one_more = omega arith

      places-kept : places (paint (view x.from) x.by) ≡ places (view x.from)
      places-kept = L.paint-places (view x.from) x.by

      -- undo
      module _ (s : Sheet) (h : Holds A room n (above s)) where
        reads-back : Reads A (back (pastBytes A (x ∷ past)) s) (size x.by) (view x.from)
        reads-back = L.back-reads (pastBytes A past) x.from x.by s x.ok h.fits h.leads.0

        abbrev lower : Trace A
        lower = below reads-back.sheet

        lower-handle : stepped_back (size x.by) (handle_of A (above s)) ≡ handle_of A lower
        lower-handle = same-handle (omega arith) (omega arith) (omega arith) (omega arith) refl

        lower-holds : Holds A room n lower
        lower-holds =
            record {
              fits = reads-back.fits;
              scratch = rw (reads-back.shows, ← places-kept, ← h.leads.0) h.scratch;
              sized = sym (ap length (journals s lower.sheet)) ∙ h.sized;
              leads = rw reads-back.shows h.leads.1;
              follows = (reads-back.shows, subst (λ p. Follows A p future) h.leads.0 h.follows);
              saves = subst (λ c. SavedWithin c saved) counts h.saves;
            }

        undo-some : Stepped A room n (above s) undo
        unfolding undoOf enter moved_to refused_or
        undo-some =
            let reading = ap (λ b. back b s) (take_past A L (above s)) ∙ reads-back.reads in
            let inside = le-leb (size x.by) (total (sizes A (x ∷ past))) (omega arith) in
            record {
              answer = Done;
              to = lower;
              holds = lower-holds;
              code =
                  rw (move-passes A L room n permitted (above s) h, eqb-suc-zero (length past))
                  (steps-over A L (above s) lower _ _ _ (size x.by) reading inside lower-handle (journals s lower.sheet) lower-holds.saves);
              tally = turn-fits A n (tally_of A (above s)) undo (omega arith) ∙ rw (eqb-suc-zero (length past), one_less, append_assoc);
            }

      -- redo
      module _ (s : Sheet) (h : Holds A room n (below s)) where
        reads-forth : Reads A (forth (futureBytes A (x ∷ future)) s) (size x.by) (paint (view x.from) x.by)
        reads-forth = L.forth-reads (futureBytes A future) x.from x.by s x.ok h.fits h.follows.0

        abbrev higher : Trace A
        higher = above reads-forth.sheet

        higher-handle : stepped_forth (size x.by) (handle_of A (below s)) ≡ handle_of A higher
        higher-handle = same-handle (omega arith) (omega arith) (omega arith) (omega arith) refl

        higher-holds : Holds A room n higher
        higher-holds =
            record {
              fits = reads-forth.fits;
              scratch = rw (reads-forth.shows, places-kept, ← h.follows.0) h.scratch;
              sized = ap length (journals higher.sheet s) ∙ h.sized;
              leads = (reads-forth.shows, subst (λ p. Leads A o past p) h.follows.0 h.leads);
              follows = rw reads-forth.shows h.follows.1;
              saves = subst (λ c. SavedWithin c saved) (sym counts) h.saves;
            }

        redo-some : Stepped A room n (below s) redo
        unfolding redoOf enter moved_to refused_or
        redo-some =
            let reading = ap (λ b. forth b s) (take-future A L (below s)) ∙ reads-forth.reads in
            let inside = le-leb (total (sizes A past) + size x.by) (total (sizes A past) + total (sizes A (x ∷ future))) (omega arith) in
            let more = ne_eqb (length past) (length past + suc (length future)) (λ e. omega arith) in
            let pictures = length-append (pastPictures A past) (futurePictures A (x ∷ future)) in
            let more' = ne_eqb (length past) (length (pastPictures A past ++ futurePictures A (x ∷ future))) (λ e. omega (arith, pictures, pictures-length A past)) in
            record {
              answer = Done;
              to = higher;
              holds = higher-holds;
              code =
                  rw (redo-passes A L room n permitted (below s) h, more, scratch-passes A L room n permitted (below s) h)
                  (steps-over A L (below s) higher _ _ _ (size x.by) reading inside higher-handle (sym (journals higher.sheet s)) higher-holds.saves);
              tally = turn-fits A n (tally_of A (below s)) redo (omega arith) ∙ rw (more', one_more, append_assoc);
            }

    undo-at : (s : Sheet) (past future : List (Pushed A)) → Holds A room n (at s past future) → Stepped A room n (at s past future) undo
    undo-at s [] future h = undo-none s future h
    undo-at s (x ∷ past) future h = undo-some x past future s h

    redo-at : (s : Sheet) (past future : List (Pushed A)) → Holds A room n (at s past future) → Stepped A room n (at s past future) redo
    redo-at s past [] h = redo-none s past h
    redo-at s past (x ∷ future) h = redo-some x past future s h

  pub sim-undo : (k : Trace A) → Holds A room n k → Stepped A room n k undo
  sim-undo k h = undo-at k.opening k.rest k.saved k.sheet k.past k.future h

  pub sim-redo : (k : Trace A) → Holds A room n k → Stepped A room n k redo
  sim-redo k h = redo-at k.opening k.rest k.saved k.sheet k.past k.future h
