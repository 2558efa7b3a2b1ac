-- `diff::mark_differences` meets its contract. The loop's invariant: the mask of the first i pixels, then what stood there. Assumes nothing.
use mathlib.Core.Path.{◌≡◌, ◌∙◌}
use mathlib.Core.Bool.{false}
use native.Mathlib.Omega.{arith}
use borrow.Author.Rules.{rules}
use lib.IntN.{ℤ, pos}
use lib.ListN.{get_or}
use mir.Syntax.{w16}
use mir.Val.{SFits}
use mir.Facts.{to_z-of_z}
use Rattle.base.proofs.Over.{over-is}
use Rattle.base.proofs.Scan.{some-none}
use Rattle.sheet.specs.Sheet.{stray}
use Rattle.sheet_diff.proofs.Shades.{marked}
use Rattle.sheet_diff.proofs.Mask.{mask-length, masked-none, masked-next, masked-all}
use Rattle.sheet_diff.proofs.diff.mark_differences.Goals as goal

-- an index of either sheet is not stray
pub shade_of-x-requires : goal.shade_of-x-requires
shade_of-x-requires c =
    let fits : SFits w16 (get_or c.args.indices.now c.loop-i.i (pos 0)) = search rules in
    rw (to_z-of_z fits) (some-none (stray 255) _ _ (pos 0) c.requires.2 c.loop-i-test.true)

pub shade_of-y-requires : goal.shade_of-y-requires
shade_of-y-requires c =
    let fits : SFits w16 (get_or c.args.base_indices.now c.loop-i.i (pos 0)) = search rules in
    rw (to_z-of_z fits) (some-none (stray 255) _ _ (pos 0) c.requires.3 (omega arith))

pub loop-i-init : goal.loop-i-init
loop-i-init c = masked-none _ _ _ _ _

pub loop-i-preserved : goal.loop-i-preserved
loop-i-preserved c =
    let pre = c.requires in
    let a : ℤ = get_or c.args.indices.now c.loop-i.i (pos 0) in
    let b : ℤ = get_or c.args.base_indices.now c.loop-i.i (pos 0) in
    let fits-a : SFits w16 a = search rules in
    let fits-b : SFits w16 b = search rules in
    let fine-a : stray 255 a ≡ false = some-none (stray 255) _ _ (pos 0) pre.2 c.loop-i-test.true in
    let fine-b : stray 255 b ≡ false = some-none (stray 255) _ _ (pos 0) pre.3 (omega arith) in
    masked-next c.loop-i.invariant pre.4 c.loop-i-test.true pre.5
    (c.from.ensures
    ∙ marked _ _ pre.0 pre.1 a b c.fill_shades.ensures c.fill_shades-2.ensures fine-a fine-b (rw (to_z-of_z fits-a) at c.shade_of-x.ensures) (rw (to_z-of_z fits-b) at c.shade_of-y.ensures))

pub returns : goal.returns
returns c = masked-all c.loop-i.invariant c.requires.4 c.loop-i.auto.i-end c.loop-i-test.false ∙ over-is _ _ _ (mask-length _ _ _ _ c.requires.4)
