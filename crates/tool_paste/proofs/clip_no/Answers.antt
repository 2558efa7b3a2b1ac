-- `clip_no`: test by test. Assumes nothing.
use mathlib.Core.Path.{◌≡◌, sym, ◌∙◌}
use native.Mathlib.Omega.{arith}
use mir.Facts.{to_z-of_z}
use Rattle.base.specs.Ints.{far}
use Rattle.tool_paste_model.proofs.Clips.{clip-far, clip-far-down, clip-wide, clip-high, clip-odd, clip-short, clip-none, sides-fit}
use borrow.Author.Rules.{rules}
use Rattle.tool_paste.proofs.clip_no.Goals as goal
use Rattle.tool_paste.proofs.clip_no.Goals.{After-is_far, After-is_far-2}

far-x : (c : After-is_far) → c.is_far.result ≡ far c.args.x
far-x c = rw (to_z-of_z c.ranges.x) at c.is_far.ensures

far-y : (c : After-is_far-2) → c.is_far-2.result ≡ far c.args.y
far-y c = rw (to_z-of_z c.ranges.y) at c.is_far-2.ensures

pub returns-then-is_far : goal.returns-then-is_far
returns-then-is_far c = clip-far _ _ _ _ _ _ _ (sym (far-x (goal.at.returns-then-is_far c).After-is_far) ∙ c.if-is_far.true)

pub returns-then-is_far-2 : goal.returns-then-is_far-2
returns-then-is_far-2 c = clip-far-down _ _ _ _ _ _ _ (sym (far-x (goal.at.returns-then-is_far-2 c).After-is_far) ∙ c.if-is_far.false) (sym (far-y (goal.at.returns-then-is_far-2 c).After-is_far-2) ∙ c.if-is_far-2.true)

pub returns-then-clip_w-gt-MAX_SIDE : goal.returns-then-clip_w-gt-MAX_SIDE
returns-then-clip_w-gt-MAX_SIDE c = clip-wide _ _ _ _ _ _ _ (sym (far-x (goal.at.returns-then-clip_w-gt-MAX_SIDE c).After-is_far) ∙ c.if-is_far.false) (sym (far-y (goal.at.returns-then-clip_w-gt-MAX_SIDE c).After-is_far-2) ∙ c.if-is_far-2.false) c.if-clip_w-gt-MAX_SIDE.true

pub returns-then-clip_h-gt-MAX_SIDE : goal.returns-then-clip_h-gt-MAX_SIDE
returns-then-clip_h-gt-MAX_SIDE c = clip-high _ _ _ _ _ _ _ (sym (far-x (goal.at.returns-then-clip_h-gt-MAX_SIDE c).After-is_far) ∙ c.if-is_far.false) (sym (far-y (goal.at.returns-then-clip_h-gt-MAX_SIDE c).After-is_far-2) ∙ c.if-is_far-2.false) c.if-clip_w-gt-MAX_SIDE.false c.if-clip_h-gt-MAX_SIDE.true

pub overflow_mul-clip_w : goal.overflow_mul-clip_w
overflow_mul-clip_w c = omega (arith, sides-fit c.if-clip_w-gt-MAX_SIDE.false c.if-clip_h-gt-MAX_SIDE.false)

pub returns-then-clip-clip_w : goal.returns-then-clip-clip_w
returns-then-clip-clip_w c = clip-odd _ _ _ _ _ _ _ (sym (far-x (goal.at.returns-then-clip-clip_w c).After-is_far) ∙ c.if-is_far.false) (sym (far-y (goal.at.returns-then-clip-clip_w c).After-is_far-2) ∙ c.if-is_far-2.false) c.if-clip_w-gt-MAX_SIDE.false c.if-clip_h-gt-MAX_SIDE.false c.if-clip-clip_w.true

pub returns-then-room-pixels : goal.returns-then-room-pixels
returns-then-room-pixels c = clip-short _ _ _ _ _ _ _ (sym (far-x (goal.at.returns-then-room-pixels c).After-is_far) ∙ c.if-is_far.false) (sym (far-y (goal.at.returns-then-room-pixels c).After-is_far-2) ∙ c.if-is_far-2.false) c.if-clip_w-gt-MAX_SIDE.false c.if-clip_h-gt-MAX_SIDE.false c.if-clip-clip_w.false c.if-room-pixels.true

pub returns : goal.returns
returns c = clip-none _ _ _ _ _ _ _ (sym (far-x (goal.at.returns c).After-is_far) ∙ c.if-is_far.false) (sym (far-y (goal.at.returns c).After-is_far-2) ∙ c.if-is_far-2.false) c.if-clip_w-gt-MAX_SIDE.false c.if-clip_h-gt-MAX_SIDE.false c.if-clip-clip_w.false c.if-room-pixels.false
