-- `paint_row`: the whole run, or its two ends. Assumes nothing.
use mathlib.Core.Path.{sym, ap, ◌∙◌}
use native.Mathlib.Omega.{arith}
use Rattle.tool_stamp.specs.Places.{set_all, row_places, part_places}
use Rattle.tool_stamp.proofs.Painted.{set-append}
use Rattle.tool_stamp.proofs.Fitting.{row-start, row-run, run-start}
use borrow.Author.Rules.{rules}
use Rattle.tool_brush.proofs.frame.paint_row.Goals as goal

pub overflow_mul-at : goal.overflow_mul-at
overflow_mul-at c = omega (arith, row-start c.requires.0)

pub overflow_add-at : goal.overflow_add-at
overflow_add-at c = omega (arith, run-start c.requires.0 c.args.x.all c.requires.1.all)

pub paint_run-requires : goal.paint_run-requires
paint_run-requires c = row-run c.requires.0 c.args.x.all c.requires.1.all

pub returns-then-whole : goal.returns-then-whole
unfolding part_places row_places
returns-then-whole c = rw c.if-whole.true c.paint_run.ensures

pub overflow_add-at-2 : goal.overflow_add-at-2
overflow_add-at-2 c = omega (arith, run-start c.requires.0 c.args.x.left c.requires.1.left)

pub paint_run-requires-2 : goal.paint_run-requires-2
paint_run-requires-2 c = row-run c.requires.0 c.args.x.left c.requires.1.left

pub overflow_add-at-3 : goal.overflow_add-at-3
overflow_add-at-3 c = omega (arith, run-start c.requires.0 c.args.x.right c.requires.1.right)

pub paint_run-requires-3 : goal.paint_run-requires-3
paint_run-requires-3 c = rw c.paint_run-2.auto.scratch (row-run c.requires.0 c.args.x.right c.requires.1.right)

pub returns : goal.returns
unfolding part_places row_places
returns c = rw c.if-whole.false (c.paint_run-3.ensures ∙ ap (set_all _ _) c.paint_run-2.ensures ∙ sym (set-append _ _ _ _))
