-- `redo`: 1 to 4, 25, "still", 16, then the record. Assumes nothing.
use mathlib.Core.Path.{sym, ◌∙◌}
use Prim.Native.Nat.{ℕ}
use lib.ListN.{length}
use Rattle.color_curve.specs.Curve.{Curve, curve_of}
use Rattle.history_model.proofs.Answers.{leaves-refused, leaves-still}
use Rattle.history_redo.proofs.Answers.{redo-refused, redo-unfit, redo-still, redo-scratch, redo-over, used-inside, not_last}
use borrow.Author.Rules.{rules}
use Rattle.history_redo.proofs.moving.redo.Goals as goal
use Rattle.history_redo.proofs.moving.redo.Goals.{Start}

-- the session's curve, and the places of scratch
abbrev session : Start → Curve
session c = curve_of c.args.loaded c.args.curve.now

abbrev room : Start → ℕ
room c = length c.args.scratch.now

pub returns-then-no-ne0 : goal.returns-then-no-ne0
returns-then-no-ne0 c = record { journal_after = leaves-refused _ _ _ _ _ _ _ _ _ _ _ c.refused.ensures ∙ redo-refused _ (session (goal.at.returns-then-no-ne0 c).Start) _ (room (goal.at.returns-then-no-ne0 c).Start) _ c.move_no-no.ensures c.if-no-ne0.true; scratch_len_unchanged = search rules }

pub returns-then-unfit-ne0 : goal.returns-then-unfit-ne0
returns-then-unfit-ne0 c = record { journal_after = leaves-refused _ _ _ _ _ _ _ _ _ _ _ c.refused-then-unfit-ne0.ensures ∙ redo-unfit _ (session (goal.at.returns-then-unfit-ne0 c).Start) _ _ c.move_no-no.ensures c.if-no-ne0.false (room (goal.at.returns-then-unfit-ne0 c).Start) _ c.curve_no-unfit.ensures c.if-unfit-ne0.true; scratch_len_unchanged = search rules }

pub returns-then-handle : goal.returns-then-handle
returns-then-handle c = record { journal_after = leaves-still _ _ _ _ _ _ _ _ _ _ c.still.ensures ∙ redo-still _ (session (goal.at.returns-then-handle c).Start) _ _ c.move_no-no.ensures c.if-no-ne0.false _ c.curve_no-unfit.ensures c.if-unfit-ne0.false (room (goal.at.returns-then-handle c).Start) c.if-handle.true; scratch_len_unchanged = search rules }

pub returns-then-scratch-indices : goal.returns-then-scratch-indices
returns-then-scratch-indices c = record { journal_after = leaves-refused _ _ _ _ _ _ _ _ _ _ _ c.refused-then-scratch-indices.ensures ∙ redo-scratch _ (session (goal.at.returns-then-scratch-indices c).Start) _ _ c.move_no-no.ensures c.if-no-ne0.false _ c.curve_no-unfit.ensures c.if-unfit-ne0.false _ c.if-handle.false c.if-scratch-indices.true; scratch_len_unchanged = search rules }

pub find_forth-found-requires : goal.find_forth-found-requires
find_forth-found-requires c = used-inside _ (c.move_no-no.ensures.fine c.if-no-ne0.false)

pub redo_found-requires : goal.redo_found-requires
redo_found-requires c =
    let stands = c.move_no-no.ensures.fine c.if-no-ne0.false in
    record {
      standing = stands;
      position_lt_count = (not_last _ stands c.if-handle.false, c.if-scratch-indices.false, sym c.curve_no-unfit.ensures ∙ c.if-unfit-ne0.false);
      found_value = c.find_forth-found.ensures _;
    }

pub returns : goal.returns
returns c = record { journal_after = c.redo_found.ensures ∙ redo-over _ (session (goal.at.returns c).Start) _ _ c.move_no-no.ensures c.if-no-ne0.false _ c.curve_no-unfit.ensures c.if-unfit-ne0.false _ c.if-handle.false c.if-scratch-indices.false; scratch_len_unchanged = search rules }
