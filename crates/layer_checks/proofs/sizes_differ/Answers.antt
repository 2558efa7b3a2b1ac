-- `sizes_differ`: what is said of all layers is said of those that are left. Assumes nothing.
use mathlib.Core.Path.{sym, ◌∙◌}
use native.Mathlib.Omega.{arith}
use Rattle.std.specs.Slice.Iter.{chunks_exact_rest}
use Rattle.layer_checks.proofs.Judging.{sizes-short, sizes-wide, sizes-high, sizes-next}
use Rattle.layer_checks.proofs.sizes_differ.Goals as goal
use Rattle.layer_checks.proofs.sizes_differ.Goals.{then-size-w-via-then-size-w, then-size-w-via-else-size-w+then-size-h}

pub returns-then-size-w : goal.returns-then-size-w
returns-then-size-w c =
    let i = c.loop-size.invariant in
    let s = c.in-Some.ensures.steps.1 in
    let size = c.in-Some.size.now in
    let rest = chunks_exact_rest c.next.new.self in
    elim c.then-size-w.branch [
      | then-size-w-via-then-size-w w ↦ sizes-wide c.args.w c.args.h size rest s.0 (s.1 ∙ i.0) w.if-size-w.true ∙ sym i.1
      | then-size-w-via-else-size-w+then-size-h w ↦ sizes-high c.args.w c.args.h size rest s.0 (s.1 ∙ i.0) w.if-size-w.false w.if-size-h.true ∙ sym i.1
    ]

pub loop-size-preserved : goal.loop-size-preserved
loop-size-preserved c =
    let i = c.loop-size.invariant in
    let s = c.in-Some.ensures.steps in
    (s.0 ∙ i.0, i.1 ∙ sizes-next c.args.w c.args.h c.in-Some.size.now _ s.1.0 (s.1.1 ∙ i.0) c.if-size-w.false c.if-size-h.false)

pub returns : goal.returns
returns c =
    let i = c.loop-size.invariant in
    sizes-short c.args.w c.args.h _ (omega (arith, c.in-None.ensures.steps.1.0, i.0)) ∙ sym i.1
