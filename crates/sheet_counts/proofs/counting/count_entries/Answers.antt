-- `counting::count_entries` meets its contract. The loop's invariant: the counts of the first pixels, then what stood there. Assumes nothing.
use mathlib.Core.Path.{◌≡◌, refl, ◌∙◌}
use mathlib.Core.Bool.{false}
use borrow.Author.Rules.{rules}
use lib.IntN.{ℤ, pos}
use lib.ListN.{get_or}
use lib.Seq.{length-take-le}
use mir.Syntax.{w16}
use mir.Val.{SFits}
use mir.Facts.{to_z-of_z}
use Rattle.sheet.specs.Sheet.{stray}
use Rattle.base.proofs.Scan.{some-none}
use Rattle.base.proofs.Over.{over-is}
use Rattle.sheet_counts.proofs.Totals.{counts-length}
use Rattle.sheet_counts.proofs.Turns.{counted_none, counted-room, counted_next, counted-all}
use Rattle.sheet_counts.proofs.counting.count_entries.Goals as goal

pub loop-z-init : goal.loop-z-init
loop-z-init c = let h = length-take-le c.args.k c.args.out.now c.requires.2 in counted_none _ _ _ _ (rw (c.fill.ensures.after (λ y e. e), h))

pub count_one-requires : goal.count_one-requires
count_one-requires c =
    let z : ℤ = get_or c.args.indices.now c.loop-z.z-index (pos 0) in
    let fits : SFits w16 z = search rules in
    rw (to_z-of_z fits) (counted-room c.loop-z.invariant c.requires.0 z (some-none (stray c.args.k) c.args.indices.now c.loop-z.z-index (pos 0) c.requires.1 c.loop-z-test.true))

pub loop-z-preserved : goal.loop-z-preserved
loop-z-preserved c =
    let z : ℤ = get_or c.args.indices.now c.loop-z.z-index (pos 0) in
    let fits : SFits w16 z = search rules in
    let fine : stray c.args.k z ≡ false = some-none (stray c.args.k) c.args.indices.now c.loop-z.z-index (pos 0) c.requires.1 c.loop-z-test.true in
    counted_next c.loop-z.invariant c.loop-z-test.true refl fine (rw (to_z-of_z fits) at c.count_one.ensures)

pub returns : goal.returns
returns c = counted-all c.loop-z.invariant c.loop-z-test.false ∙ over-is _ _ _ (counts-length _ _)
