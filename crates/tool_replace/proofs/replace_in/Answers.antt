-- `replace_in`: none, 16, or the list. Assumes nothing.
use mathlib.Core.Path.{◌≡◌, sym, ◌∙◌}
use borrow.Author.Rules.{rules}
use lib.ListN.{length}
use mir.Facts.{to_z-of_z}
use Rattle.base.specs.Ints.{eq_z}
use Rattle.selection.specs.Selection.{positions}
use Rattle.tool_fill_model.specs.Fills.{has_index}
use Rattle.base.specs.Lists.{kept}
use Rattle.tool_fill_model.proofs.Answers.{replaced-same, replaced-short, replaced-done}
use Rattle.tool_replace.proofs.replace_in.Goals as goal
use Rattle.tool_replace.proofs.replace_in.Goals.{After-count_rows-count, After-same}

-- what the test says of the two indices, and the count
tested : (c : After-same) → eq_z c.args.from c.args.to ≡ c.same.result
tested c = sym (rw (to_z-of_z c.ranges.from, to_z-of_z c.ranges.to) at c.same.ensures)

count : (c : After-count_rows-count) → let a = c.args in c.count_rows-count.result ≡ length (kept (has_index a.w a.indices.now a.from) (positions a.s))
count c = rw (to_z-of_z c.ranges.from) at c.count_rows-count.ensures

pub returns-then-same : goal.returns-then-same
returns-then-same c = replaced-same _ _ _ _ _ _ (tested (goal.at.returns-then-same c).After-same ∙ c.if-same.true)

pub returns-then-out-count : goal.returns-then-out-count
returns-then-out-count c = replaced-short _ _ _ _ _ _ (tested (goal.at.returns-then-out-count c).After-same ∙ c.if-same.false) _ (count (goal.at.returns-then-out-count c).After-count_rows-count) c.if-out-count.true

pub returns : goal.returns
returns c =
    replaced-done _ _ _ _ _ _ (tested (goal.at.returns c).After-same ∙ c.if-same.false) _ (count (goal.at.returns c).After-count_rows-count) c.if-out-count.false _
    (rw (to_z-of_z c.ranges.from, to_z-of_z c.ranges.to) at c.list_rows.ensures)
