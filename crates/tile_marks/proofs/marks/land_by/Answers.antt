-- `land_by`: by the tests. Assumes nothing.
use mathlib.Core.Bool.{true}
use mathlib.Core.Path.{◌≡◌, sym, ◌∙◌}
use Prim.Native.Nat.{◌/◌, ◌%◌, ◌≤◌}
use borrow.Author.Tests.{not-true, not-false}
use native.Mathlib.Omega.{arith}
use Rattle.selection.specs.Selection.{contains}
use Rattle.tile_marks.proofs.Landing.{some-mark, land-outside, land-none, land-one}
use borrow.Author.Rules.{rules}
use Rattle.tile_marks.proofs.marks.land_by.Goals as goal
use Rattle.tile_marks.proofs.marks.land_by.Goals.{After-contains, Else-not-contains, Else-not-is_elsewhere}

outside : (c : After-contains) → let a = c.args in contains a.region (a.p % a.w) (a.p / a.w) ≡ c.contains.result
outside c = sym c.contains.ensures

inside : (c : Else-not-contains) → let a = c.args in contains a.region (a.p % a.w) (a.p / a.w) ≡ true
inside c = outside (goal.at.Else-not-contains c).After-contains ∙ c.if-not-contains.false

marked : (c : Else-not-is_elsewhere) → 2 ≤ c.args.m
marked c = some-mark _ _ _ _ (sym c.is_elsewhere.ensures ∙ c.if-not-is_elsewhere.false)

pub returns-then-not-contains : goal.returns-then-not-contains
returns-then-not-contains c = (land-outside _ _ _ _ _ (outside (goal.at.returns-then-not-contains c).After-contains ∙ c.if-not-contains.true), omega arith)

pub returns-then-not-is_elsewhere : goal.returns-then-not-is_elsewhere
returns-then-not-is_elsewhere c = (land-none _ _ _ _ _ (inside (goal.at.returns-then-not-is_elsewhere c).Else-not-contains) (sym c.is_elsewhere.ensures ∙ c.if-not-is_elsewhere.true), omega arith)

pub overflow_sub-last : goal.overflow_sub-last
overflow_sub-last c = omega (arith, marked c)

pub bounds-list-last : goal.bounds-list-last
bounds-list-last c = omega (arith, marked (goal.at.bounds-list-last c).Else-not-is_elsewhere, c.requires.1)

pub returns : goal.returns
returns c = let e = sym c.is_elsewhere.ensures ∙ c.if-not-is_elsewhere.false in (land-one _ _ _ _ _ _ (inside (goal.at.returns c).Else-not-contains) e c.new_bits.ensures.0, omega (arith, c.new_bits.ensures.1))
