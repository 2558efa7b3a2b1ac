-- A push, in the journal and in the tally. Assumes nothing.
use mathlib.Core.Path.{◌≡◌, refl, ap, ◌∙◌}
use mathlib.Core.Bool.{Bool, true, false}
use mathlib.Core.List.{[], ◌∷◌, ◌++◌, append_assoc}
use Prim.Native.Nat.{ℕ, zero, suc, ◌+◌, ◌≤◌, ◌<◌}
use native.Mathlib.Omega.{arith}
use lib.ListN.{length, take, drop, length-append, length-drop}
use lib.Seq.{take_at}
use lib.Dec.{ltb}
use borrow.Author.Tests.{lt-ltb, le-ltb, ltb-true, ltb-false}
use Rattle.base.specs.Numbers.{journal_full}
use Rattle.base.specs.Checks.{refused_or}
use Rattle.base.specs.Answer.{Done, Still}
use Rattle.base.specs.Answer.Told.{alone}
use Rattle.history_ledger.specs.Handle.{after_push}
use Rattle.history_ledger.specs.Calls.{done, Answer}
use Rattle.history_ledger.specs.Calls.Call.{push}
use Rattle.history_ledger.specs.Algebra.{Algebra}
use Rattle.history_ledger.specs.Laws.{Laws, Accepts}
use Rattle.history_ledger.specs.Journal.{step, pushOf, pushed, written}
use Rattle.history_ledger.specs.Ledger.{standing, enter, appended, forget}
use Rattle.history_ledger.proofs.Soundness.{same-handle}
use Rattle.history_ledger.proofs.Saved.{forget-number, forget-within}
use Rattle.history_ledger.specs.Tally.{total, wants, is_done}
use Rattle.history_ledger.proofs.Trace.{Trace, Holds, sizes, journalOf, handle_of, state_of, ledgerOf, pastBytes, pastPictures, futurePictures, pictures-length, stands}
use Rattle.history_ledger.proofs.Lengths.{take_past, past-length}
use Rattle.history_ledger.proofs.Tally.{tally_of, turn-full, turn-fits, turn-stays, Stepped}
use Rattle.history_ledger.proofs.Checks.{early, early-passes, late, late-passes, late-empty, PushChecks}

module _ (A : Algebra) (L : Laws A) (room n : ℕ) (k : Trace A) (h : Holds A room n k) (e : A.Edit) (c : PushChecks A room k e) where
  open A use {EditTyped, view, is_empty, make, encode, size, paint}

  abbrev offset : ℕ
  offset = total (sizes A k.past)

  -- a push that changes nothing
  stays : (a : Answer) → is_done a ≡ false → step A room (state_of A k) (push e) ≡ record { answer = a; leaves = state_of A k }
      → enter A (ledgerOf A k) (push e) ≡ record { answer = a; leaves = ledgerOf A k } → Stepped A room n k (push e)
  stays a d p q = record { answer = a; to = k; holds = h; code = p; tally = turn-stays A n (tally_of A k) e a d q }

  given-refuses : (m : ℕ) → early A e ≡ suc m → Stepped A room n k (push e)
  unfolding pushOf enter refused_or
  given-refuses m g = stays (alone (suc m)) refl (rw (c.entry, g)) (rw (c.ledger, g))

  module _ (g : early A e ≡ 0) where
    empty-still : is_empty e ≡ true → Stepped A room n k (push e)
    unfolding pushOf enter refused_or
    empty-still r = stays Still refl (rw (c.entry, g, r)) (rw (c.ledger, g, late-empty A L (view k.sheet) e r, r))

    module _ (r : is_empty e ≡ false) where
      late-refuses : (m : ℕ) → late A (view k.sheet) e ≡ suc m → Stepped A room n k (push e)
      unfolding pushOf enter refused_or
      late-refuses m l = stays (alone (suc m)) refl (rw (c.entry, g, r, c.rest, l)) (rw (c.ledger, g, l))

      module _ (l : late A (view k.sheet) e ≡ 0) (typed : EditTyped e) where
        enters : enter A (ledgerOf A k) (push e) ≡ done (appended A (ledgerOf A k) (paint (standing A (ledgerOf A k)) e))
        unfolding enter refused_or
        enters = rw (c.ledger, g, l, r)

        wanted : wants A (tally_of A k) (push e) ≡ offset + size e
        wanted = rw enters

        full : n < offset + size e → Stepped A room n k (push e)
        unfolding pushOf refused_or
        full b =
            let t : ltb (length (journalOf A k)) (offset + size e) ≡ true = rw h.sized (lt-ltb n (offset + size e) b) in
            record {
              answer = alone journal_full;
              to = k;
              holds = h;
              code = rw (c.entry, g, r, c.rest, l, t);
              tally = turn-full A n (tally_of A k) (push e) (rw wanted b);
            }

        accepts : Accepts A k.sheet e
        accepts =
            let p = early-passes A e g in
            let q = late-passes A (view k.sheet) e l in
            record {
              fits = h.fits;
              typed = typed;
              first_passes = p.0;
              given-passes = p.1;
              not-empty = r;
              not-long = q.not-long;
              own-passes = q.own-passes;
            }

        -- the trace after it
        abbrev after : Trace A
        after =
            record {
              opening = k.opening;
              sheet = make k.sheet e;
              past = record { from = k.sheet; by = e; ok = accepts } ∷ k.past;
              future = [];
              rest = drop (offset + length (encode k.sheet e)) (journalOf A k);
              saved = forget (length k.past) k.saved;
            }

        handle-after : after_push (size e) (handle_of A k) ≡ handle_of A after
        handle-after =
            same-handle (omega arith) (omega arith) (omega arith) (omega arith)
            (forget-number (length k.past) k.saved)

        state-after : pushed A (state_of A k) e ≡ state_of A after
        unfolding pushed written
        state-after = simp (take_past A L k, append_assoc, handle-after)

        ledger-after : appended A (ledgerOf A k) (paint (standing A (ledgerOf A k)) e) ≡ ledgerOf A after
        unfolding appended
        ledger-after =
            let P = pastPictures A k.past in
            let t : take (length k.past) (P ++ futurePictures A k.future) ≡ P = take_at P (futurePictures A k.future) (length k.past) (pictures-length A k.past) in
            let p : length k.past + 1 ≡ suc (length k.past) = omega arith in
            simp (t, p, ← stands A k h.leads, append_assoc)

        sized-after : offset + size e ≤ n → length (journalOf A after) ≡ n
        sized-after b =
            let P = pastBytes A k.past in
            let r = encode k.sheet e in
            omega (
              arith,
              h.sized,
              past-length A L k.past,
              L.encode-length k.sheet e accepts,
              length-append (P ++ r) after.rest,
              length-append P r,
              length-drop (offset + length r) (journalOf A k),
            )

        accepted : offset + size e ≤ n → Stepped A room n k (push e)
        unfolding pushOf refused_or
        accepted b =
            let t : ltb (length (journalOf A k)) (offset + size e) ≡ false = rw h.sized (le-ltb n (offset + size e) b) in
            record {
              answer = Done;
              to = after;
              holds =
                  record {
                    fits = L.make-fits k.sheet e accepts;
                    scratch = rw (L.make-shows k.sheet e accepts, L.paint-places (view k.sheet) e) h.scratch;
                    sized = sized-after b;
                    leads = (L.make-shows k.sheet e accepts, h.leads);
                    follows = tt;
                    saves = forget-within (length k.past) (suc (length k.past) + 0) k.saved (omega arith);
                  };
              code = rw (c.entry, g, r, c.rest, l, t) (ap done state-after);
              tally = turn-fits A n (tally_of A k) (push e) (rw wanted b) ∙ rw (enters, ledger-after);
            }

  pub sim-push : EditTyped e → Stepped A room n k (push e)
  sim-push typed = at-given (early A e) refl
    where
      at-full : (g : early A e ≡ 0) (r : is_empty e ≡ false) (l : late A (view k.sheet) e ≡ 0) (w : Bool) → ltb n (offset + size e) ≡ w → Stepped A room n k (push e)
      at-full g r l true q = full g r l typed (ltb-true _ _ q)
      at-full g r l false q = accepted g r l typed (ltb-false _ _ q)

      at-late : (g : early A e ≡ 0) (r : is_empty e ≡ false) (m : ℕ) → late A (view k.sheet) e ≡ m → Stepped A room n k (push e)
      at-late g r zero q = at-full g r q (ltb n (offset + size e)) refl
      at-late g r (suc m) q = late-refuses g r m q

      at-empty : (g : early A e ≡ 0) (w : Bool) → is_empty e ≡ w → Stepped A room n k (push e)
      at-empty g true q = empty-still g q
      at-empty g false q = at-late g q (late A (view k.sheet) e) refl

      at-given : (m : ℕ) → early A e ≡ m → Stepped A room n k (push e)
      at-given zero q = at-empty q (is_empty e) refl
      at-given (suc m) q = given-refuses m q
