-- `find`: none of the first i entries is the colour. Assumes nothing.
use mathlib.Core.Path.{◌≡◌, sym, ◌∙◌}
use native.Mathlib.Omega.{arith}
use Rattle.join_model.proofs.Placing.{placing-next, placing-here, placing-end}
use Rattle.join_checks.proofs.news.find.Goals as goal

pub returns-then-has_rgb : goal.returns-then-has_rgb
returns-then-has_rgb c =
    (placing-here c.loop-i.invariant (omega arith) (sym c.has_rgb.ensures ∙ c.if-has_rgb.true), omega arith)

pub loop-i-preserved : goal.loop-i-preserved
loop-i-preserved c = placing-next c.loop-i.invariant (omega arith) (sym c.has_rgb.ensures ∙ c.if-has_rgb.false)

pub returns : goal.returns
returns c =
    let q : c.loop-i.i ≡ c.args.n = omega arith in
    (sym q ∙ placing-end c.loop-i.invariant (omega arith), omega arith)
