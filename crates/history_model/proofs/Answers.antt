-- Checks 1 to 4 in order, and the answers that leave everything as it was. Assumes nothing.
use mathlib.Core.Path.{◌≡◌, refl, sym, ◌∙◌}
use mathlib.Core.Bool.{Bool, true, false, not, ◌&&◌, ◌||◌, cond}
use mathlib.Core.List.{List, [], ◌∷◌}
use Prim.Native.Nat.{ℕ, zero, suc, ◌*◌, ◌%◌, ◌≤◌, ◌<◌}
use native.Mathlib.Omega.{arith}
use borrow.Author.Tests.{lt-ltb, le-ltb}
use lib.Dec.{ltb, eqb}
use lib.IntN.{ℤ}
use lib.Ieee.{Float}
use lib.ListN.{length}
use Rattle.base.specs.Limits.{max_permitted, max_journal}
use Rattle.base.specs.Numbers.{bad_sheet, journal_damaged}
use Rattle.base.specs.Checks.{Check, or_else, first_of}
use Rattle.base.proofs.First.{or-else-zero}
use Rattle.base.specs.Answer.{answer_told}
use Rattle.base.specs.declared.Answer.TheVariants.{Still, Refused}
use Rattle.color_curve.specs.Curve.{Curve, curve_checks}
use Rattle.sheet.specs.Checks.{permitted_checks, MarkedJudged}
use Rattle.base.specs.declared.Handle.{Handle}
use Rattle.history_ledger.specs.Calls.{refused, still, group}
use Rattle.history_ledger.specs.Handle.{sound}
use Rattle.history_ledger.specs.Journal.{State, unsound}
use Rattle.history_model.specs.Document.{Document, document_of, document_checks}
use Rattle.history_model.specs.Editing.{Given, editing_by, editing}
use Rattle.base.specs.declared.Moved.{Moved}
use Rattle.history_model.specs.Calls.{state_of, leaves, Moves, Enters}

one-no : ◌≡◌ {A = ℕ} 1 0 → ⊥
one-no e = omega arith

four-no : ◌≡◌ {A = ℕ} 4 0 → ⊥
four-no e = omega arith

pub here : (n : ℕ) (cs : List Check) → (n ≡ 0 → ⊥) → n ≡ first_of (group n ∷ cs)
unfolding first_of
here zero cs h = absurd (h refl)
here (suc n) cs h = refl

-- a number after three others: none counts after one that is not 0, and it alone after none
before_last : (a b c d n : ℕ) → n ≡ or_else a (or_else b (or_else c 0)) → (n ≡ 0 → ⊥) → n ≡ or_else a (or_else b (or_else c d))
before_last zero zero zero d n e h = absurd (h e)
before_last zero zero (suc c) d n e h = e
before_last zero (suc b) c d n e h = e
before_last (suc a) b c d n e h = e

last-alone : (a b c d : ℕ) → or_else a (or_else b (or_else c 0)) ≡ 0 → d ≡ or_else a (or_else b (or_else c d))
last-alone zero zero zero d e = refl
last-alone zero zero (suc c) d e = absurd (omega arith)
last-alone zero (suc b) c d e = absurd (omega arith)
last-alone (suc a) b c d e = absurd (omega arith)

module _ (st : State Document) where
  pub moves_long : max_journal < length st.journal → Moves st 1
  unfolding first_of
  moves_long h = record { value = rw (lt-ltb max_journal (length st.journal) h); fine = λ e. absurd (one-no e) }

  module _ (short : length st.journal ≤ max_journal) (n : ℕ) (j : MarkedJudged st.sheet.sheet st.sheet.locks n) where
    pub moves-sheet : (n ≡ 0 → ⊥) → Moves st n
    unfolding first_of
    moves-sheet h = record { value = rw (le-ltb max_journal (length st.journal) short, ← j.value) (here n (unsound (length st.journal) st.handle ∷ []) h); fine = λ e. absurd (h e) }

    pub moves-unsound : n ≡ 0 → sound (length st.journal) st.handle ≡ false → Moves st 4
    unfolding first_of
    moves-unsound e s = record { value = rw (le-ltb max_journal (length st.journal) short, ← j.value, e, s); fine = λ e. absurd (four-no e) }

    pub moves-fine : n ≡ 0 → sound (length st.journal) st.handle ≡ true → Moves st 0
    unfolding first_of
    moves-fine e s =
        record {
          value = rw (le-ltb max_journal (length st.journal) short, ← j.value, e, s);
          fine = λ _. record { fits = (j.fine e).formed; marks = (j.fine e).marks; permitted = short; is-sound = s };
        }

  -- ---- push: the permitted colours' number is 1, as that of a journal that is too long
  module _ (c : Curve) (g : Given) where
    pub enters-given : (n : ℕ) → n ≡ editing.given_check g → (n ≡ 0 → ⊥) → Enters c st g n
    unfolding first_of permitted_checks
    enters-given n e h =
        let colours = g.permitted.colours in
        record {
          value = go (ltb max_journal (length st.journal)) (g.permitted.limited && (not (eqb (length colours % 3) 0) || ltb (3 * max_permitted) (length colours))) _ e;
          fine = λ z. absurd (h z);
          curve-fits = λ z. absurd (h z);
        }
      where
        go : (a b : Bool) (rest : ℕ) → n ≡ or_else (cond b 1 0) 0 → n ≡ or_else (cond a 1 0) (or_else (or_else (cond b 1 0) 0) rest)
        go true true rest e = e
        go false true rest e = e
        go true false rest e = absurd (h e)
        go false false rest e = absurd (h e)

    -- 1 of the journal, 1 to 3, 4
    abbrev long : ℕ
    long = cond (ltb max_journal (length st.journal)) bad_sheet 0

    abbrev wrong : ℕ
    wrong = first_of (document_checks st.sheet)

    abbrev damaged : ℕ
    damaged = cond (not (sound (length st.journal) st.handle)) journal_damaged 0

    pub enters-moves : editing.given_check g ≡ 0 → (n : ℕ) → Moves st n → (n ≡ 0 → ⊥) → Enters c st g n
    unfolding first_of
    enters-moves e n m h = record { value = rw e (before_last long wrong damaged (or_else (first_of (curve_checks c)) 0) n m.value h); fine = m.fine; curve-fits = λ z. absurd (h z) }

    -- 25, after all of these
    pub enters-curve : editing.given_check g ≡ 0 → (n : ℕ) → Moves st n → n ≡ 0 → (u : ℕ) → u ≡ first_of (curve_checks c) → Enters c st g u
    unfolding first_of
    enters-curve e n m z u q = record { value = rw e (q ∙ sym (or-else-zero (first_of (curve_checks c))) ∙ last-alone long wrong damaged (or_else (first_of (curve_checks c)) 0) (sym m.value ∙ z)); fine = λ _. m.fine z; curve-fits = λ y. sym q ∙ y }

-- ---- an answer that leaves everything as it was
module _ (m : Moved) (w h k : ℕ) (palette : List ℕ) (lab : List Float) (indices : List ℤ) (locks : List Bool) (journal : List ℕ) (handle : Handle) where
  pub leaves-refused : (n : ℕ) → (m.answer ≡ Refused n) × (m.k ≡ k) × (m.handle ≡ handle)
      → leaves m w h palette lab indices locks journal ≡ refused (state_of (document_of w h k palette lab indices locks) journal handle) n
  leaves-refused n e i = record { answer = answer_told (e.0 i); leaves = state_of (document_of w h (e.1 i) palette lab indices locks) journal (e.2 i) }

  pub leaves-still : (m.answer ≡ Still) × (m.k ≡ k) × (m.handle ≡ handle)
      → leaves m w h palette lab indices locks journal ≡ still (state_of (document_of w h k palette lab indices locks) journal handle)
  leaves-still e i = record { answer = answer_told (e.0 i); leaves = state_of (document_of w h (e.1 i) palette lab indices locks) journal (e.2 i) }
