-- The checks of a push after "still", in order: 21, 16, its own, 14. Assumes nothing.
use mathlib.Core.Path.{◌≡◌, sym, ◌∙◌}
use mathlib.Core.Bool.{false}
use mathlib.Core.List.{[], ◌∷◌}
use Prim.Native.Nat.{ℕ, ◌+◌, ◌*◌, ◌≤◌, ◌<◌}
use native.Mathlib.Omega.{arith}
use borrow.Author.Tests.{lt-ltb, le-ltb}
use lib.Dec.{ltb}
use lib.ListN.{length, take}
use Rattle.base.specs.Limits.{max_changes}
use Rattle.base.specs.Numbers.{journal_full}
use Rattle.base.specs.Checks.{◌when◌, first_of}
use Rattle.sheet.specs.Sheet.{Sheet, view}
use Rattle.base.specs.declared.Form.{Form}
use Rattle.color_curve.specs.Curve.{srgb}
use Rattle.edit.specs.Checks.{own_checks, as_sheet}
use Rattle.edit.proofs.Shown.{checks-shown}
use Rattle.journal_record.specs.Record.{record_length}
use Rattle.history_ledger.specs.Journal.{State, pushChecks}
use Rattle.history_model.specs.Document.{Document}
use Rattle.history_model.specs.Editing.{Given, too_long, editing_by}
use Rattle.history_model.specs.Calls.{Standing, Acceptable}
use Rattle.history_model.proofs.Answers.{here}

-- the number of the first check after "still" that applies, and what 0 means
pub record Pushes (form : Form) (room : ℕ) (st : State Document) (g : Given) (n : ℕ) : Type 0 where
  pub value : n ≡ first_of (pushChecks (editing_by form srgb) room st g)
  pub fine : n ≡ 0 → Acceptable form st g.edit g.changes

no-0 : (n : ℕ) → 0 < n → n ≡ 0 → ⊥
no-0 n h e = omega arith

module _ (form : Form) (room : ℕ) (st : State Document) (g : Given) where
  pub pushes-long : max_changes < length g.changes → Pushes form room st g 21
  unfolding first_of too_long
  pushes-long h = record { value = rw (lt-ltb max_changes (length g.changes) h); fine = λ e. absurd (no-0 21 (omega arith) e) }

  module _ (short : length g.changes ≤ max_changes) (stands : Standing st) where
    pub pushes-scratch : room < length st.sheet.sheet.indices → Pushes form room st g 16
    unfolding first_of too_long view
    pushes-scratch h =
        let s = st.sheet.sheet in
        record {
          value = rw (le-ltb max_changes (length g.changes) short, lt-ltb room (s.w * s.h) (rw stands.fits.limits.indices-length at h));
          fine = λ e. absurd (no-0 16 (omega arith) e);
        }

    module _ (enough : length st.sheet.sheet.indices ≤ room) (n : ℕ) (own : n ≡ first_of (own_checks false st.sheet.sheet st.sheet.locks g.permitted g.edit g.changes)) where
      roomy : ltb room (st.sheet.sheet.w * st.sheet.sheet.h) ≡ false
      roomy = le-ltb room (st.sheet.sheet.w * st.sheet.sheet.h) (rw stands.fits.limits.indices-length at enough)

      shown : n ≡ first_of (own_checks false (as_sheet (view st.sheet.sheet)) (take st.sheet.sheet.k st.sheet.locks) g.permitted g.edit g.changes)
      shown = own ∙ checks-shown false g.permitted st.sheet.sheet st.sheet.locks g.edit g.changes

      pub pushes-own : (n ≡ 0 → ⊥) → Pushes form room st g n
      unfolding first_of too_long view
      pushes-own h =
          record {
            value =
                rw (le-ltb max_changes (length g.changes) short, roomy, ← shown)
                (here n (journal_full when ltb (length st.journal) (st.handle.offset + record_length form g.edit (length g.changes)) ∷ []) h);
            fine = λ e. absurd (h e);
          }

      module _ (z : n ≡ 0) where
        pub pushes_full : length st.journal < st.handle.offset + record_length form g.edit (length g.changes) → Pushes form room st g 14
        unfolding first_of too_long view
        pushes_full h =
            record {
              value = rw (le-ltb max_changes (length g.changes) short, roomy, ← shown, z, lt-ltb (length st.journal) (st.handle.offset + record_length form g.edit (length g.changes)) h);
              fine = λ e. absurd (no-0 14 (omega arith) e);
            }

        pub pushes-fine : st.handle.offset + record_length form g.edit (length g.changes) ≤ length st.journal → Pushes form room st g 0
        unfolding first_of too_long view
        pushes-fine h =
            record {
              value = rw (le-ltb max_changes (length g.changes) short, roomy, ← shown, z, le-ltb (length st.journal) (st.handle.offset + record_length form g.edit (length g.changes)) h);
              fine = λ _. record { permitted = g.permitted; passes = sym own ∙ z; short = short; room = h };
            }
