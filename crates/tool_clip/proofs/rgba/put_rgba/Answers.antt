-- `put_rgba`: by where the index falls. Assumes nothing.
use mathlib.Core.Path.{◌≡◌, ap, ◌∙◌}
use mathlib.Core.List.{List}
use Prim.Native.Nat.{ℕ}
use native.Mathlib.Omega.{arith}
use borrow.Author.Rules.{rules}
use mir.Syntax.{w32}
use mir.Val.{SFits}
use mir.Facts.{to_z-of_z}
use Rattle.base.specs.Lists.{over}
use Rattle.base.specs.Ints.{on_axis}
use Rattle.base.proofs.Back.{by_value}
use Rattle.base.specs.Triples.{rgb_at}
use Rattle.tool_clip.proofs.Bytes.{rgba-entry, rgba-none}
use Rattle.tool_clip.proofs.rgba.put_rgba.Goals as goal
use Rattle.tool_clip.proofs.rgba.put_rgba.Goals.{After-on_axis-i, Start}

-- 16 bits are fewer than 32
wide : (c : Start) → SFits w32 c.args.z
wide c = record { sfits = let k = c.ranges.z.sfits in omega arith }

-- where the index falls among the entries
fallen : (c : After-on_axis-i) → c.on_axis-i.result ≡ on_axis c.args.z c.args.k
fallen c = by_value (λ v. on_axis v c.args.k) (wide (goal.at.After-on_axis-i c).Start) (rw (to_z-of_z c.ranges.z) at c.on_axis-i.ensures)

pub overflow_cast-z : goal.overflow_cast-z
overflow_cast-z c = rw (to_z-of_z c.ranges.z) (wide (goal.at.overflow_cast-z c).Start)

pub returns-then-i-k : goal.returns-then-i-k
unfolding rgb_at
returns-then-i-k c = c.put_four.ensures ∙ ap (λ (l : List ℕ). over l c.args.out.now) (rgba-entry _ _ _ _ (fallen (goal.at.returns-then-i-k c).After-on_axis-i) c.if-i-k.true)

pub returns-else-i-k : goal.returns-else-i-k
returns-else-i-k c = c.put_four-else-i-k.ensures ∙ ap (λ (l : List ℕ). over l c.args.out.now) (rgba-none _ c.args.palette.now _ _ (fallen (goal.at.returns-else-i-k c).After-on_axis-i) c.if-i-k.false)
