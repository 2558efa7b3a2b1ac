-- `flatten`: the layers, their sizes, the room, then the pixels. Assumes nothing.
use mathlib.Core.Path.{◌≡◌, refl, sym, ◌∙◌}
use mathlib.Core.Bool.{false}
use Prim.Native.Nat.{◌*◌, ◌/◌, ◌≤◌}
use native.Mathlib.Omega.{arith}
use lib.ListN.{length}
use Rattle.layer_shown.specs.Calls.{width_of, height_of}
use Rattle.layer_shown.specs.Stack.{Stacked}
use Rattle.layer_checks.specs.Judged.{sizes_differ, LayersJudged}
use Rattle.layer.proofs.Answers.{stack, flat-refused, flat-differs, flat-short, flat-done}
use borrow.Author.Rules.{rules}
use Rattle.layer.proofs.flat.flatten.Goals as goal
use Rattle.layer.proofs.flat.flatten.Goals.{Else-no-ne0, Else-sizes_differ}

-- past the first test the layers are well-formed
judged : (c : Else-no-ne0) → let a = c.args in LayersJudged a.sizes.now a.palettes.now a.labs.now a.indices.now 0
judged c = rw c.if-no-ne0.false at c.stack_no-no.ensures

-- their sizes are there
three : (c : Else-no-ne0) → 3 ≤ length c.args.sizes.now
three c = let s = (judged c).fine refl in omega (arith, s.any, s.thirds)

-- past the second they have one size
same : (c : Else-sizes_differ) → let sizes = c.args.sizes.now in sizes_differ (width_of sizes) (height_of sizes) sizes ≡ false
same c = sym c.sizes_differ.ensures ∙ c.if-sizes_differ.false

-- and few enough places
stacked : (c : Else-sizes_differ) → let a = c.args in Stacked (width_of a.sizes.now * height_of a.sizes.now) (length a.sizes.now / 3) a.palettes.now a.indices.now
stacked c = stack _ _ _ _ (judged (goal.at.Else-sizes_differ c).Else-no-ne0) (same c)

pub returns-then-no-ne0 : goal.returns-then-no-ne0
returns-then-no-ne0 c = flat-refused _ _ _ _ _ _ c.stack_no-no.ensures c.if-no-ne0.true

pub bounds-sizes-0 : goal.bounds-sizes-0
bounds-sizes-0 c = omega (arith, three (goal.at.bounds-sizes-0 c).Else-no-ne0)

pub bounds-sizes-1 : goal.bounds-sizes-1
bounds-sizes-1 c = omega (arith, three (goal.at.bounds-sizes-1 c).Else-no-ne0)

pub sizes_differ-requires : goal.sizes_differ-requires
sizes_differ-requires c = ((judged (goal.at.sizes_differ-requires c).Else-no-ne0).fine refl).thirds

pub returns-then-sizes_differ : goal.returns-then-sizes_differ
returns-then-sizes_differ c = flat-differs _ _ _ _ _ (judged (goal.at.returns-then-sizes_differ c).Else-no-ne0) (sym c.sizes_differ.ensures ∙ c.if-sizes_differ.true)

pub overflow_mul-n : goal.overflow_mul-n
overflow_mul-n c = omega (arith, (stacked c).small)

pub overflow_mul-bytes : goal.overflow_mul-bytes
overflow_mul-bytes c = omega (arith, (stacked c).small)

pub returns-then-out-bytes : goal.returns-then-out-bytes
returns-then-out-bytes c = flat-short _ _ _ _ _ (judged (goal.at.returns-then-out-bytes c).Else-no-ne0) (same (goal.at.returns-then-out-bytes c).Else-sizes_differ) c.if-out-bytes.true

pub lay_all-requires : goal.lay_all-requires
lay_all-requires c = (stacked (goal.at.lay_all-requires c).Else-sizes_differ, omega (arith, three (goal.at.lay_all-requires c).Else-no-ne0), c.if-out-bytes.false)

pub returns : goal.returns
returns c = flat-done _ _ _ _ _ (judged (goal.at.returns c).Else-no-ne0) (same (goal.at.returns c).Else-sizes_differ) c.if-out-bytes.false _ c.lay_all.ensures
