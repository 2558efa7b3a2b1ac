-- `grown`: each test is the check in its place, and past them the ends are the Rust's. Assumes nothing.
use mathlib.Core.Path.{◌≡◌, sym, ap, ◌∙◌}
use mathlib.Core.Bool.{false}
use Prim.Native.Nat.{◌<◌, ◌^◌}
use native.Mathlib.Omega.{arith}
use borrow.Author.Rules.{rules}
use borrow.Author.Tests.{lt-ltb, le-ltb}
use Rattle.base.specs.Checks.{first_of, refused_or}
use mathlib.Core.Option.{some}
use Rattle.base.specs.Answer.Told.{result}
use Rattle.selection.specs.declared.Selection.{Selection}
use Rattle.selection.specs.Selection.{grown, inside}
use Rattle.selection.specs.Calls.{too_large, margin_checks, grown_of}
use Rattle.selection.proofs.Checks.{sides}
use Rattle.selection.proofs.Spans.{widened-narrow}
use Rattle.selection.proofs.Selection.grown.Goals as goal
use Rattle.selection.proofs.Selection.grown.Goals.{After-rectangle, After-widened-2, Else-too_large}

sized : (c : Else-too_large) → too_large c.args.width c.args.height ≡ false
sized c = sym c.too_large.ensures ∙ c.if-too_large.false

left : (c : After-widened-2) → c.args.self.x < 2 ^ 16
left c = omega arith

top : (c : After-widened-2) → c.args.self.y < 2 ^ 16
top c = omega arith

made : (c : After-rectangle) → let s = c.args in c.rectangle.result ≡ grown s.self s.margin s.width s.height
unfolding grown
made c = rw (c.widened.ensures, c.widened-2.ensures) at c.rectangle.ensures

pub returns-then-too_large : goal.returns-then-too_large
unfolding grown_of margin_checks first_of refused_or
returns-then-too_large c = rw (← c.too_large.ensures, c.if-too_large.true)

pub returns-then-margin-gt-MAX_MARGIN : goal.returns-then-margin-gt-MAX_MARGIN
unfolding grown_of margin_checks first_of refused_or
returns-then-margin-gt-MAX_MARGIN c = rw (sized c.before, lt-ltb _ _ c.if-margin-gt-MAX_MARGIN.true)

pub returns-then-not-inside : goal.returns-then-not-inside
unfolding grown_of margin_checks first_of refused_or
returns-then-not-inside c = rw (sized c.before.before.before, le-ltb _ _ c.if-margin-gt-MAX_MARGIN.false, ← c.inside.ensures, c.if-not-inside.true)

pub rectangle-requires : goal.rectangle-requires
rectangle-requires c =
    let h = sides (sized c.before.before.before.before.before) in
    (widened-narrow _ _ _ _ (left c) h.across c.widened.ensures, widened-narrow _ _ _ _ (top c) h.down c.widened-2.ensures)

pub returns : goal.returns
unfolding grown_of margin_checks first_of refused_or
returns c = rw (sized c.before.before.before.before.before.before, le-ltb _ _ c.if-margin-gt-MAX_MARGIN.false, ← c.inside.ensures, c.if-not-inside.false) (ap (λ (s : Selection). result (some s)) (made c))
