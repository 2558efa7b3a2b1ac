-- `repaint`: the layers, the earlier sheet, the sizes, the layer, the room, then the places. Assumes nothing.
use mathlib.Core.Path.{refl, sym, ◌∙◌}
use native.Mathlib.Omega.{arith}
use Rattle.sheet.specs.Sheet.{sheet_of}
use Rattle.sheet.specs.Checks.{WellFormed}
use Rattle.layer_checks.specs.Judged.{LayersJudged}
use Rattle.layer.proofs.Answers.{paint-refused, paint-earlier, paint-differs, paint-absent, paint-stack, paint-viewed, paint-short, paint-done}
use borrow.Author.Rules.{rules}
use Rattle.layer.proofs.painted.repaint.Goals as goal
use Rattle.layer.proofs.painted.repaint.Goals.{Else-earlier_no-ne0, Else-no-ne0}

-- past the first test the layers are well-formed
judged : (c : Else-no-ne0) → let a = c.args in LayersJudged a.sizes.now a.palettes.now a.labs.now a.indices.now 0
judged c = rw c.if-no-ne0.false at c.stack_no-no.ensures

-- past the second the earlier sheet is
earlier-fits : (c : Else-earlier_no-ne0) → let a = c.args in WellFormed (sheet_of a.w a.h a.k a.palette.now a.lab.now a.earlier.now)
earlier-fits c = c.check-earlier_no.ensures.fine c.if-earlier_no-ne0.false

pub returns-then-no-ne0 : goal.returns-then-no-ne0
returns-then-no-ne0 c = paint-refused _ _ _ _ _ _ _ _ c.stack_no-no.ensures c.if-no-ne0.true

pub returns-then-earlier_no-ne0 : goal.returns-then-earlier_no-ne0
returns-then-earlier_no-ne0 c = paint-earlier _ _ _ _ _ _ _ (judged (goal.at.returns-then-earlier_no-ne0 c).Else-no-ne0) _ c.check-earlier_no.ensures c.if-earlier_no-ne0.true

pub any_differs-requires : goal.any_differs-requires
any_differs-requires c = let s = (judged (goal.at.any_differs-requires c).Else-no-ne0).fine refl in (omega (arith, s.any, s.thirds), s.thirds)

pub returns-then-any_differs : goal.returns-then-any_differs
returns-then-any_differs c = paint-differs _ _ _ _ _ _ _ (judged (goal.at.returns-then-any_differs c).Else-no-ne0) (earlier-fits (goal.at.returns-then-any_differs c).Else-earlier_no-ne0) (sym c.any_differs.ensures ∙ c.if-any_differs.true)

pub returns-then-count-edited : goal.returns-then-count-edited
returns-then-count-edited c = paint-absent _ _ _ _ _ _ _ (judged (goal.at.returns-then-count-edited c).Else-no-ne0) (earlier-fits (goal.at.returns-then-count-edited c).Else-earlier_no-ne0) (sym c.any_differs.ensures ∙ c.if-any_differs.false) c.if-count-edited.true

pub returns-then-out-bytes : goal.returns-then-out-bytes
returns-then-out-bytes c = paint-short _ _ _ _ _ _ _ (judged (goal.at.returns-then-out-bytes c).Else-no-ne0) (earlier-fits (goal.at.returns-then-out-bytes c).Else-earlier_no-ne0) (sym c.any_differs.ensures ∙ c.if-any_differs.false) c.if-count-edited.false c.if-out-bytes.true

pub repaint_changed-requires : goal.repaint_changed-requires
repaint_changed-requires c =
    let same = sym c.any_differs.ensures ∙ c.if-any_differs.false in (
      paint-stack _ _ _ _ c.args.edited _ c.args.out.now (judged (goal.at.repaint_changed-requires c).Else-no-ne0) (earlier-fits (goal.at.repaint_changed-requires c).Else-earlier_no-ne0) same,
      c.if-count-edited.false,
      paint-viewed _ _ _ _ c.args.edited _ c.args.out.now (judged (goal.at.repaint_changed-requires c).Else-no-ne0) (earlier-fits (goal.at.repaint_changed-requires c).Else-earlier_no-ne0) same,
      c.if-out-bytes.false,
    )

pub returns : goal.returns
returns c = paint-done _ _ _ _ _ _ _ (judged (goal.at.returns c).Else-no-ne0) (earlier-fits (goal.at.returns c).Else-earlier_no-ne0) (sym c.any_differs.ensures ∙ c.if-any_differs.false) c.if-count-edited.false c.if-out-bytes.false _ c.repaint_changed.ensures
