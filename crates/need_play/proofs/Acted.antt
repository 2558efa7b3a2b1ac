-- On a sheet that none of 1 to 3 refuses a frame leaves what the call leaves that it asks for by the picture, and is answered "journal full" where that call is.
-- Assumes nothing.
use mathlib.Core.Path.{◌≡◌, refl, sym, ap, ◌∙◌}
use mathlib.Core.Bool.{Bool, true, false, ◌||◌}
use mathlib.Core.List.{List, [], ◌∷◌}
use mathlib.Core.Option.{Option, some}
use Prim.Native.Nat.{ℕ, zero, suc}
use native.Mathlib.Omega.{arith}
use lib.Dec.{leb, eqb}
use lib.ListN.{take}
use lib.Seq.{take_all}
use Rattle.base.specs.Checks.{first_of, refused_or}
use Rattle.base.specs.Answer.Told.{alone}
use Rattle.base.specs.declared.Form.{Form}
use Rattle.color_curve.specs.Curve.{srgb}
use Rattle.sheet.specs.Sheet.{view}
use Rattle.edit.specs.Locks.{lock_at}
use Rattle.history_ledger.specs.Algebra.{Algebra}
use Rattle.history_ledger.specs.Calls.{Call, Outcome}
use Rattle.history_ledger.specs.Journal.{State, step}
use Rattle.history_ledger.specs.Demand.{is_full}
use Rattle.history_ledger.specs.Script.{answers_to, left_by, any_full}
use Rattle.history_model.specs.Document.{Document, shown, document_checks}
use Rattle.history_model.specs.Editing.{Given, editing_by}
use Rattle.panel_frames.specs.Reading.{changes_from}
use Rattle.panel_frames.proofs.Changes.{length-changes}
use Rattle.panel_frames.specs.declared.Frame.{Frame}
use Rattle.panel_frames.specs.declared.Frame.TheVariants.{Open, Pixels, Set, Add, Merge, Undo, Redo, Mark, Malformed}
use Rattle.panel_model.specs.Acts.{mergedBy, changes_in, actBy}
use Rattle.need_model.specs.Asked.{merge_own, ask_of}
use Rattle.need_model.proofs.Pictured.{merge-checks, merge-colour}

-- one call, or none
pub record Acts (f : Form) (room : ℕ) (st : State Document) (o : Outcome (State Document)) (c : Option (Call Given)) : Type 0 where
  pub leaves : o.leaves ≡ left_by (step (editing_by f srgb) room) st c
  pub full : is_full o.answer ≡ any_full (answers_to (step (editing_by f srgb) room) st c)

or-none : (b : Bool) → b ≡ b || false
or-none true = refl
or-none false = refl

-- neither 18 nor 24 is 14
never-full : (t u : Bool) → let n = first_of (record { number = 18; applies = t } ∷ record { number = 24; applies = u } ∷ []) in is_full (alone n) ≡ false
unfolding first_of
never-full true u = refl
never-full false true = refl
never-full false false = refl

module _ (f : Form) (room : ℕ) (st : State Document) where
  abbrev A : Algebra
  A = editing_by f srgb

  called : (c : Call Given) → Acts f room st (step A room st c) (some c)
  called c = record { leaves = refl; full = or-none (is_full (step A room st c).answer) }

  module _ (fine : first_of (document_checks st.sheet) ≡ 0) where
    own-never-full : (from into : ℕ) → is_full (alone (first_of (merge_own (shown st.sheet) from into))) ≡ false
    unfolding merge_own view
    own-never-full from into = never-full (leb st.sheet.sheet.k from || (leb st.sheet.sheet.k into || eqb from into)) (lock_at (take st.sheet.sheet.k st.sheet.locks) from)

    merged : (from into : ℕ) (bs : List ℕ) → Acts f room st (mergedBy f room st from into) (ask_of (Merge from into) bs (shown st.sheet))
    unfolding mergedBy ask_of refused_or view
    merged from into bs = by (first_of (merge_own (shown st.sheet) from into)) refl
      where
        by : (v : ℕ) → first_of (merge_own (shown st.sheet) from into) ≡ v → Acts f room st (mergedBy f room st from into) (ask_of (Merge from into) bs (shown st.sheet))
        by zero e = rw (merge-checks st.sheet fine from into, e, merge-colour st.sheet fine from into e) (called _)
        by (suc v) e = rw (merge-checks st.sheet fine from into, e) (record { leaves = refl; full = ap (λ (n : ℕ). is_full (alone n)) (sym e) ∙ own-never-full from into })

    pub acted : (g : Frame) (bs : List ℕ) → Acts f room st (actBy f room st g (changes_in g bs)) (ask_of g bs (shown st.sheet))
    unfolding actBy ask_of changes_in
    acted (Open w h k) bs = record { leaves = refl; full = refl }
    acted (Pixels tool n) bs = rw (take_all n (changes_from bs 2 n) (omega (arith, length-changes bs 2 n))) (called _)
    acted (Set i c) bs = called _
    acted (Add c) bs = called _
    acted (Merge from into) bs = merged from into bs
    acted Undo bs = called _
    acted Redo bs = called _
    acted Mark bs = called _
    acted Malformed bs = record { leaves = refl; full = refl }
