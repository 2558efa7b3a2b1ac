-- `push_fit`: 1 for a side over 64. Assumes nothing.
use mathlib.Core.Path.{ap, ◌∙◌}
use native.Mathlib.Omega.{arith}
use lib.Seq.{length-take-le}
use Rattle.c_model.specs.Step.{flattened}
use Rattle.c_panel.proofs.Large.{fits-handle, fits-suits, few, sized, over-width, over-height, sides-fit}
use Rattle.c_panel.proofs.Limits.{large-push, small-push}
use Rattle.c_panel.proofs.Settled.{push-settled}
use Rattle.c_panel.proofs.pushes.push_fit.Goals as goal

pub pair_at-w-requires : goal.pair_at-w-requires
pair_at-w-requires c = omega (arith, fits-suits _ _ c.requires)

pub pair_at-h-requires : goal.pair_at-h-requires
pair_at-h-requires c = omega (arith, fits-suits _ _ c.requires)

pub pair_at-k-requires : goal.pair_at-k-requires
pair_at-k-requires c = omega (arith, fits-suits _ _ c.requires)

pub returns-then-w-gt64 : goal.returns-then-w-gt64
returns-then-w-gt64 c = large-push _ _ (over-width _ _ c.pair_at-w.ensures.0 c.if-w-gt64.true)

pub returns-then-h-gt64 : goal.returns-then-h-gt64
returns-then-h-gt64 c = large-push _ _ (over-height _ _ c.pair_at-h.ensures.0 c.if-h-gt64.true)

pub take_handle-before-requires : goal.take_handle-before-requires
take_handle-before-requires c = omega (arith, fits-handle _ _ c.requires)

pub push_sized-moved-requires : goal.push_sized-moved-requires
push_sized-moved-requires c =
    sized _ _ _ _ _ _ c.requires c.pair_at-w.ensures.0 c.pair_at-h.ensures.0 c.pair_at-k.ensures.0
    (length-take-le _ _ (omega (arith, few _ _ c.if-w-gt64.false c.if-h-gt64.false)))

pub settle_handle-requires : goal.settle_handle-requires
settle_handle-requires c = fits-handle _ _ c.requires

pub returns : goal.returns
returns c =
    let fit = sides-fit _ _ _ c.pair_at-w.ensures.0 c.pair_at-h.ensures.0 c.if-w-gt64.false c.if-h-gt64.false in
    push-settled _ c.push_sized-moved.result _ _ c.take_handle-before.ensures c.settle_handle.ensures _ _ c.push_sized-moved.ensures
    ∙ ap (flattened _) (small-push _ _ fit)
