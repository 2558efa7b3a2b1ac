-- `sheet_misfits`: the length, then the marks. Assumes nothing.
use mathlib.Core.Path.{ap, ◌∙◌}
use Prim.Native.Nat.{◌+◌, ◌*◌}
use native.Mathlib.Omega.{arith}
use lib.Dec.{ltb}
use Rattle.base.specs.Lists.{some}
use Rattle.c_form.proofs.Misfits.{too_short, unsuited, suited}
use Rattle.c_bytes.proofs.Copies.{part-read}
use Rattle.c_bytes.proofs.fit.sheet_misfits.Goals as goal

pub returns-then-src-lt7146 : goal.returns-then-src-lt7146
returns-then-src-lt7146 c = too_short _ c.if-src-lt7146.true

pub returns-then-src-places : goal.returns-then-src-places
returns-then-src-places c = unsuited _ _ _ c.pair_at.ensures.0 c.pair_at-2.ensures.0 c.if-src-places.true

pub returns : goal.returns
returns c =
    let from = 6891 + 2 * (c.pair_at.result * c.pair_at-2.result) in
    let marks = c.any_over_one.ensures ∙ ap (some (ltb 1)) (part-read _ from _ 255 (omega arith) (omega arith)) in
    suited _ _ _ c.pair_at.ensures.0 c.pair_at-2.ensures.0 _ c.if-src-places.false marks
