-- `between`: the code's span, which has no sign, is the Rust's. Assumes nothing.
use mathlib.Core.Path.{◌≡◌, refl, ◌∙◌}
use native.Mathlib.Omega.{arith}
use lib.IntN.{ℤ}
use mir.Syntax.{w32}
use Rattle.std.specs.Int.{int_min, int_max}
use Rattle.base.specs.Ints.{min_z, max_z, from_zero, up_to}
use Rattle.std.proofs.lemmas.Int.{ints}
use Rattle.base.proofs.Back.{by_values, by_result}
use Rattle.selection_spans.proofs.Spans.{half_open}
use Rattle.selection_spans.proofs.between.Goals as goal

-- std's `min` and `max`; its `max` takes the other of two equals
least-z : (a b : ℤ) → int_min a b ≡ min_z a b
unfolding min_z
least-z a b = refl

most-z : (a b : ℤ) → int_max a b ≡ max_z a b
unfolding max_z
most-z a b = grind (arith, ints)

pub returns : goal.returns
returns c =
    let a = c.args.a in
    let b = c.args.b in
    let least : c.from_zero-start.result ≡ from_zero (min_z a b) = by_result w32 from_zero c.min.type_inv (by_values int_min c.ranges.a c.ranges.b c.min.ensures.value ∙ least-z a b) c.from_zero-start.ensures in
    let most : c.up_to.result ≡ up_to (max_z a b) = by_result w32 up_to c.max.type_inv (by_values int_max c.ranges.a c.ranges.b c.max.ensures.value ∙ most-z a b) c.up_to.ensures in
    rw (half_open a b c.args.side, c.saturating_sub.ensures, c.min-end.ensures, most, least)
