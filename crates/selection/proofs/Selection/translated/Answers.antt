-- `translated`: each test is the check in its place, and past them the moved spans are the Rust's. Assumes nothing.
use mathlib.Core.Path.{◌≡◌, sym, ap, ◌∙◌}
use mathlib.Core.Bool.{false}
use borrow.Author.Rules.{rules}
use mir.Facts.{to_z-of_z}
use Rattle.base.specs.Checks.{first_of, refused_or}
use Rattle.base.specs.Answer.Told.{result}
use Rattle.base.proofs.Back.{by_value, by_values}
use Rattle.selection_spans.specs.Spans.{moved}
use Rattle.selection.specs.Selection.{translated}
use Rattle.selection.specs.Calls.{too_large, far_away, shift_checks, translated_of}
use Rattle.selection.proofs.Checks.{sides, near}
use Rattle.selection.proofs.Spans.{narrow, clipped}
use Rattle.selection.proofs.Selection.translated.Goals as goal
use Rattle.selection.proofs.Selection.translated.Goals.{After-far_away, After-shifted, After-shifted-2, Else-far_away, Else-too_large, Start}

sized : (c : Else-too_large) → too_large c.args.width c.args.height ≡ false
sized c = sym c.too_large.ensures ∙ c.if-too_large.false

far-is : (c : After-far_away) → c.far_away.result ≡ far_away c.args.dx c.args.dy
far-is c = by_values far_away c.ranges.dx c.ranges.dy c.far_away.ensures

close : (c : Else-far_away) → far_away c.args.dx c.args.dy ≡ false
close c = sym (far-is c.before) ∙ c.if-far_away.false

abbrev start : After-shifted → Start
start c = c.before.before.before.before.before.before.before

x-is : (c : After-shifted) → let s = (start c).args in c.shifted.result ≡ moved s.self.x s.self.w s.dx s.width
x-is c = let s = (start c).args in by_value (λ d. moved s.self.x s.self.w d s.width) (start c).ranges.dx c.shifted.ensures

y-is : (c : After-shifted-2) → let s = (start c.before).args in c.shifted-2.result ≡ moved s.self.y s.self.h s.dy s.height
y-is c = let s = (start c.before).args in by_value (λ d. moved s.self.y s.self.h d s.height) (start c.before).ranges.dy c.shifted-2.ensures

pub returns-then-too_large : goal.returns-then-too_large
unfolding translated_of shift_checks first_of refused_or
returns-then-too_large c = rw (← c.too_large.ensures, c.if-too_large.true)

pub returns-then-far_away : goal.returns-then-far_away
unfolding translated_of shift_checks first_of refused_or
returns-then-far_away c = rw (sized c.before.before, ← far-is c.before, c.if-far_away.true)

pub returns-then-not-inside : goal.returns-then-not-inside
unfolding translated_of shift_checks first_of refused_or
returns-then-not-inside c = rw (sized c.before.before.before.before, close c.before.before, ← c.inside.ensures, c.if-not-inside.true)

pub shifted-requires : goal.shifted-requires
shifted-requires c = rw (to_z-of_z c.ranges.dx) (near (close c.before.before)).across

pub shifted-requires-2 : goal.shifted-requires-2
shifted-requires-2 c = rw (to_z-of_z c.ranges.dy) (near (close c.before.before.before)).down

pub clip-requires : goal.clip-requires
clip-requires c =
    let h = sides (sized c.before.before.before.before.before.before) in
    (narrow _ _ _ h.across (x-is c.before), narrow _ _ _ h.down (y-is c))

pub returns : goal.returns
unfolding translated_of shift_checks translated first_of refused_or
returns c =
    let made = clipped _ _ _ _ _ _ (x-is c.before.before) (y-is c.before) in
    rw (sized c.before.before.before.before.before.before.before, close c.before.before.before.before.before, ← c.inside.ensures, c.if-not-inside.false) (c.clip.ensures ∙ ap result made)
