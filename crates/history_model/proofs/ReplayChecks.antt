-- The checks of `replay` in order, and what it is told where none applies. Assumes nothing.
use mathlib.Core.Path.{◌≡◌, refl, sym, ◌∙◌}
use mathlib.Core.Bool.{Bool, true}
use mathlib.Core.List.{List, ◌++◌}
use Prim.Native.Nat.{ℕ, ◌*◌, ◌≤◌, ◌<◌}
use native.Mathlib.Omega.{arith}
use borrow.Author.Tests.{lt-ltb, le-ltb}
use lib.Dec.{ltb}
use lib.IntN.{ℤ}
use lib.Ieee.{Float}
use lib.ListN.{length}
use Rattle.base.specs.Limits.{max_changes}
use Rattle.base.specs.Numbers.{list_too_long, no_space}
use Rattle.base.specs.Checks.{◌when◌, first_of}
use Rattle.base.proofs.First.{first_past, first-here, past, past-both}
use Rattle.color_curve.specs.Curve.{Curve, curve_checks, CurveFits}
use Rattle.sheet.specs.Checks.{permitted_checks, Marked, MarkedJudged}
use Rattle.sheet.proofs.Judging.{judged-fine}
use Rattle.sheet.proofs.Marks.{marked-sheet, past-marked}
use Rattle.base.specs.declared.Edit.{Edit}
use Rattle.edit.specs.Change.{Change}
use Rattle.edit.specs.Checks.{Permitted, own_checks}
use Rattle.edit_apply.specs.Redoable.{Redoable}
use Rattle.history_model.specs.Document.{Document, document_of, document_checks}
use Rattle.history_model.specs.Replay.{replay_own, replay_checks}
use Rattle.history_model.proofs.Keeps.{marked}

module _ (c : Curve) (room : ℕ) (d : Document) (p : Permitted) (e : Edit) (cs : List Change) where
  pub given-refused : (n : ℕ) → n ≡ first_of (permitted_checks p.limited p.colours) → (n ≡ 0 → ⊥) → n ≡ first_of (replay_checks c room d p e cs)
  unfolding replay_checks
  given-refused n q h = first-here (permitted_checks p.limited p.colours) (document_checks d ++ (curve_checks c ++ replay_own room d p e cs)) n q h

  -- ---- past the permitted colours
  module _ (given : first_of (permitted_checks p.limited p.colours) ≡ 0) where
    past-given : first_of (document_checks d ++ (curve_checks c ++ replay_own room d p e cs)) ≡ first_of (replay_checks c room d p e cs)
    unfolding replay_checks
    past-given = sym (first_past (permitted_checks p.limited p.colours) (document_checks d ++ (curve_checks c ++ replay_own room d p e cs)) given)

    pub sheet-refused : (n : ℕ) → MarkedJudged d.sheet d.locks n → (n ≡ 0 → ⊥) → n ≡ first_of (replay_checks c room d p e cs)
    sheet-refused n j h = first-here (document_checks d) (curve_checks c ++ replay_own room d p e cs) n j.value h ∙ past-given

    -- ---- past 1 to 3
    module _ (f : Marked d.sheet d.locks) where
      past_three : first_of (curve_checks c ++ replay_own room d p e cs) ≡ first_of (replay_checks c room d p e cs)
      past_three = sym (past-marked d.sheet d.locks 0 (marked-sheet d.sheet d.locks f.marks 0 (judged-fine d.sheet f.formed)) refl (curve_checks c ++ replay_own room d p e cs)) ∙ past-given

      pub curve-refused : (n : ℕ) → n ≡ first_of (curve_checks c) → (n ≡ 0 → ⊥) → n ≡ first_of (replay_checks c room d p e cs)
      curve-refused n q h = first-here (curve_checks c) (replay_own room d p e cs) n q h ∙ past_three

      -- ---- past 25
      module _ (g : CurveFits c) where
        past-curve : first_of (replay_own room d p e cs) ≡ first_of (replay_checks c room d p e cs)
        past-curve = sym (first_past (curve_checks c) (replay_own room d p e cs) g) ∙ past_three

        pub too_long : max_changes < length cs → list_too_long ≡ first_of (replay_checks c room d p e cs)
        unfolding replay_own first_of
        too_long h = rw (lt-ltb _ _ h) at past-curve

        module _ (short : length cs ≤ max_changes) where
          pub no-space : room < d.sheet.w * d.sheet.h → no_space ≡ first_of (replay_checks c room d p e cs)
          unfolding replay_own first_of
          no-space h = rw (le-ltb _ _ short, lt-ltb _ _ h) at past-curve

          pub own-decides : d.sheet.w * d.sheet.h ≤ room → first_of (own_checks true d.sheet d.locks p e cs) ≡ first_of (replay_checks c room d p e cs)
          unfolding replay_own first_of
          own-decides h = rw (le-ltb _ _ short, le-ltb _ _ h) at past-curve

-- ---- where none applies, the edit can be redone, and the curve fits
pub record Replayable (c : Curve) (w k : ℕ) (palette : List ℕ) (lab : List Float) (indices : List ℤ) (e : Edit) (cs : List Change) : Type 0 where
  pub can : Redoable w k palette lab indices e cs
  pub curve-fits : CurveFits c

pub replayable : (c : Curve) (room w h k : ℕ) (palette : List ℕ) (lab : List Float) (indices : List ℤ) (locks : List Bool) (p : Permitted) (e : Edit) (cs : List Change)
    → first_of (replay_checks c room (document_of w h k palette lab indices locks) p e cs) ≡ 0 → Replayable c w k palette lab indices e cs
unfolding replay_checks replay_own
replayable c room w h k palette lab indices locks p e cs q =
    let d : Document = document_of w h k palette lab indices locks in
    let given = past-both (permitted_checks p.limited p.colours) (document_checks d ++ (curve_checks c ++ replay_own room d p e cs)) q in
    let sheet = past-both (document_checks d) (curve_checks c ++ replay_own room d p e cs) given.right in
    let curve = past-both (curve_checks c) (replay_own room d p e cs) sheet.right in
    let long = past (list_too_long when ltb max_changes (length cs)) _ (omega arith) curve.right in
    let own = past (no_space when ltb room (w * h)) (own_checks true d.sheet locks p e cs) (omega arith) long.rest in
    record {
      can =
          record {
            h = h;
            limits = (marked d.sheet locks sheet.left).formed.limits;
            unrefused = record { replay = true; locks = locks; permitted = p; passes = own.rest };
          };
      curve-fits = curve.left;
    }
