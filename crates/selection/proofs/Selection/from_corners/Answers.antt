-- `from_corners`: each test is the check in its place, and past them the clipped spans are the Rust's. Assumes nothing.
use mathlib.Core.Path.{◌≡◌, sym, ap, ◌∙◌}
use mathlib.Core.Bool.{false}
use borrow.Author.Rules.{rules}
use Rattle.base.specs.Checks.{first_of, refused_or}
use Rattle.base.specs.Answer.Told.{result}
use Rattle.base.proofs.Back.{by_values}
use Rattle.selection_spans.specs.Spans.{between}
use Rattle.selection.specs.Calls.{too_large, far_away, corner_checks, from_corners_of}
use Rattle.selection.proofs.Checks.{sides}
use Rattle.selection.proofs.Spans.{narrow, clipped}
use Rattle.selection.proofs.Selection.from_corners.Goals as goal
use Rattle.selection.proofs.Selection.from_corners.Goals.{After-between, After-between-2, After-far_away, After-far_away-2, Else-far_away, Else-far_away-2, Else-too_large, Start}

sized : (c : Else-too_large) → too_large c.args.width c.args.height ≡ false
sized c = sym c.too_large.ensures ∙ c.if-too_large.false

far-a : (c : After-far_away) → c.far_away.result ≡ far_away c.args.ax c.args.ay
far-a c = by_values far_away c.ranges.ax c.ranges.ay c.far_away.ensures

near-a : (c : Else-far_away) → far_away c.args.ax c.args.ay ≡ false
near-a c = sym (far-a c.before) ∙ c.if-far_away.false

far-b : (c : After-far_away-2) → c.far_away-2.result ≡ far_away c.args.bx c.args.by
far-b c = by_values far_away c.ranges.bx c.ranges.by c.far_away-2.ensures

near-b : (c : Else-far_away-2) → far_away c.args.bx c.args.by ≡ false
near-b c = sym (far-b c.before) ∙ c.if-far_away-2.false

abbrev start : After-between → Start
start c = c.before.before.before.before.before.before.before

x-is : (c : After-between) → let s = (start c).args in c.between.result ≡ between s.ax s.bx s.width
x-is c = let s = start c in by_values (λ a b. between a b s.args.width) s.ranges.ax s.ranges.bx c.between.ensures

y-is : (c : After-between-2) → let s = (start c.before).args in c.between-2.result ≡ between s.ay s.by s.height
y-is c = let s = start c.before in by_values (λ a b. between a b s.args.height) s.ranges.ay s.ranges.by c.between-2.ensures

pub returns-then-too_large : goal.returns-then-too_large
unfolding from_corners_of corner_checks first_of refused_or
returns-then-too_large c = rw (← c.too_large.ensures, c.if-too_large.true)

pub returns-then-far_away : goal.returns-then-far_away
unfolding from_corners_of corner_checks first_of refused_or
returns-then-far_away c = rw (sized c.before.before, ← far-a c.before, c.if-far_away.true)

pub returns-then-far_away-2 : goal.returns-then-far_away-2
unfolding from_corners_of corner_checks first_of refused_or
returns-then-far_away-2 c = rw (sized c.before.before.before.before, near-a c.before.before, ← far-b c.before, c.if-far_away-2.true)

pub clip-requires : goal.clip-requires
clip-requires c =
    let h = sides (sized c.before.before.before.before.before.before) in
    (narrow _ _ _ h.across (x-is c.before), narrow _ _ _ h.down (y-is c))

pub returns : goal.returns
unfolding from_corners_of corner_checks first_of refused_or
returns c =
    let made = clipped _ _ _ _ _ _ (x-is c.before.before) (y-is c.before) in
    rw (sized c.before.before.before.before.before.before.before, near-a c.before.before.before.before.before, near-b c.before.before.before) (c.clip.ensures ∙ ap result made)
