-- `cached`: what a slot holds is what would be computed. Assumes nothing.
use mathlib.Core.Path.{◌≡◌, ap, ◌∙◌}
use Prim.Native.Nat.{◌+◌, ◌*◌, ◌/◌, ◌%◌, ◌≤◌}
use native.Mathlib.Omega.{arith}
use borrow.Author.Rules.{rules}
use lib.ListN.{get_or}
use Rattle.base.specs.declared.Lab.{Lab}
use Rattle.color_curve.specs.Curve.{curve_of, lab_by}
use Rattle.color_nearest.specs.declared.Near.{Near}
use Rattle.color_nearest.specs.Nearest.{nearest_of}
use Rattle.tool_snap.specs.Snap.{entry_of}
use Rattle.tool_snap.proofs.Slots.{entry-small, all-filled, hit}
use Rattle.tool_snap.proofs.snap.cached.Goals as goal
use Rattle.tool_snap.proofs.snap.cached.Goals.{After-nearest_in-near, Then-v-c}

-- what a slot of this colour holds
found : (c : Then-v-c) → let a = c.args in let n = c.number-c.result in
    get_or a.cache.now (n * 2654435761 / 65536 % 1024) 0 % 512 ≡ entry_of (lab_by (curve_of a.loaded a.curve.now)) a.lab.now a.k a.rgb + 1
found c = hit _ _ _ _ _ _ _ c.requires.cached c.number-c.ensures.colour c.if-v-ne0.true c.if-v-c.true

-- the entry that is computed
computed : (c : After-nearest_in-near) → let a = c.args in c.nearest_in-near.result.entry ≡ entry_of (lab_by (curve_of a.loaded a.curve.now)) a.lab.now a.k a.rgb
unfolding entry_of
computed c =
    let a = c.args in
    let same = c.colour.ensures ∙ c.number-c.ensures.colour in
    ap (λ (s : Near). s.entry) c.nearest_in-near.ensures
    ∙ ap (λ (x : Lab). (nearest_of x a.lab.now a.k).entry) (c.lab_in.ensures.value ∙ ap (lab_by (curve_of a.loaded a.curve.now)) same)

small : (c : After-nearest_in-near) → c.nearest_in-near.result.entry ≤ 255
small c = omega (arith, entry-small _ _ _ _ (computed c), c.requires.k-small)

pub overflow_sub-result : goal.overflow_sub-result
overflow_sub-result c = omega (arith, found c)

pub returns-then-v-c : goal.returns-then-v-c
returns-then-v-c c = (omega (arith, found c), c.requires.cached)

pub colour-requires : goal.colour-requires
colour-requires c = c.number-c.ensures.small

pub overflow_add-cache : goal.overflow_add-cache
overflow_add-cache c = omega (arith, small c, c.number-c.ensures.small)

pub overflow_add-cache-2 : goal.overflow_add-cache-2
overflow_add-cache-2 c = omega (arith, small c, c.number-c.ensures.small)

pub returns : goal.returns
returns c = (computed (goal.at.returns c).After-nearest_in-near, all-filled _ _ _ _ _ _ _ _ c.requires.cached c.number-c.ensures.colour (computed (goal.at.returns c).After-nearest_in-near) (small (goal.at.returns c).After-nearest_in-near))
