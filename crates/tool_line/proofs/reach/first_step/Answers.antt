-- `first_step`: at the start, never, or the quotient rounded up. Assumes nothing.
use mathlib.Core.Path.{◌≡◌}
use Prim.Native.Nat.{◌*◌, ◌≤◌, ◌<◌}
use native.Mathlib.Omega.{arith}
use borrow.Author.Rules.{rules}
use Rattle.base.proofs.Back.{by_values}
use Rattle.tool_line.specs.Line.{side}
use Rattle.tool_line.specs.Walk.{half}
use Rattle.tool_line.proofs.Reaching.{First, at-start, never-so-far, rounded-up, enough, few}
use Rattle.tool_line.proofs.reach.first_step.Goals as goal
use Rattle.tool_line.proofs.reach.first_step.Goals.{After-half, After-side-n, Else-n-k}

side-is : (c : After-side-n) → c.side-n.result ≡ side c.before.args.a c.before.args.b
side-is c = by_values side c.before.ranges.a c.before.ranges.b c.side-n.ensures

-- k is one of 1 to the side
some : (c : Else-n-k) → 0 < c.before.before.before.args.k
some c = let t = c.before.if-k-eq0.false in omega arith

short : (c : Else-n-k) → let s = c.before.before.before.args in s.k ≤ side s.a s.b
short c = let e = side-is c.before.before in let t = c.if-n-k.false in omega arith

half_is : (c : After-half) → let s = c.before.before.before.before.args in c.half.result ≡ half s.a s.b s.m
half_is c = let s = c.before.before.before.before in by_values (λ a b. half a b s.args.m) s.ranges.a s.ranges.b c.half.ensures

product : (c : Else-n-k) → let s = c.before.before.before.args in s.k * s.m ≤ 17179869184
product c = few _ _ _ c.before.before.before.requires _ (some c) (short c)

side-few : (c : After-half) → c.before.before.before.side-n.result ≤ 131072
side-few c = let o = c.before.before.before.before.requires in let s = o.shorter in let l = o.long in omega (arith, side-is c.before.before.before)

pub returns-then-k-eq0 : goal.returns-then-k-eq0
unfolding First
returns-then-k-eq0 c = let s = c.before.before in at-start _ _ _ s.requires _ c.if-k-eq0.true

pub returns-then-n-k : goal.returns-then-n-k
unfolding First
returns-then-n-k c = let s = c.before.before.before in let e = side-is c.before.before in let t = c.if-n-k.true in never-so-far _ _ _ s.requires _ (omega arith)

pub overflow_mul-result : goal.overflow_mul-result
overflow_mul-result c = omega (arith, product c)

pub overflow_mul-result-2 : goal.overflow_mul-result-2
overflow_mul-result-2 c = omega (arith, product c)

pub overflow_sub-result : goal.overflow_sub-result
overflow_sub-result c = rw (half_is c) (enough _ _ _ c.requires _ (some c.before) (short c.before))

pub overflow_mul-result-3 : goal.overflow_mul-result-3
overflow_mul-result-3 c = omega (arith, side-few c)

pub overflow_add-result-2 : goal.overflow_add-result-2
overflow_add-result-2 c = omega (arith, side-few c, product c.before)

pub overflow_mul-result-4 : goal.overflow_mul-result-4
overflow_mul-result-4 c = omega (arith, side-few c)

pub returns : goal.returns
unfolding First
returns c =
    let s = c.before.before.before.before in
    rw (half_is c, side-is c.before.before.before) (rounded-up _ _ _ s.requires _ (some c.before) (short c.before))
