-- `pixel_no`: the checks in order. Assumes nothing.
use mathlib.Core.Path.{◌≡◌, sym, ◌∙◌}
use mathlib.Core.Bool.{false, not}
use mathlib.Core.List.{[], ◌∷◌}
use Prim.Native.Nat.{◌<◌}
use native.Mathlib.Omega.{arith}
use borrow.Author.Tests.{not-true, not-false}
use borrow.Author.Rules.{rules}
use lib.ListN.{length, get_or}
use lib.IntN.{pos}
use mir.Syntax.{w16}
use Rattle.base.specs.Numbers.{stale}
use Rattle.base.specs.Checks.{◌when◌, first_of}
use Rattle.base.specs.Ints.{eq_z}
use Rattle.base.proofs.Back.{by_result}
use Rattle.sheet.specs.Sheet.{stray}
use Rattle.edit.specs.Change.{unpacked, place, outside}
use Rattle.edit.specs.Checks.{pixel_checks}
use Rattle.edit_pixels.specs.Inside.{bare}
use Rattle.edit_pixels.proofs.Inside.{inside}
use Rattle.edit_pixels.proofs.Same.{same-true, same-false}
use Rattle.edit_pixels.proofs.checks.pixel_no.Goals as goal
use Rattle.edit_pixels.proofs.checks.pixel_no.Goals.{After-is_stray, Else-is_outside, Else-not-replay}
use mathlib.Core.Path.{ap}

-- past the first test the change is on the sheet
on : (c : Else-is_outside) → let a = c.args in outside a.w a.h (unpacked a.c) ≡ false
on c = sym c.is_outside.ensures ∙ c.if-is_outside.false

here : (c : Else-is_outside) → let a = c.args in place a.w (unpacked a.c) < length a.indices.now
here c = inside _ _ _ c.requires _ (on c)

-- what is said of its new
aimed : (c : After-is_stray) → let a = c.args in c.is_stray.result ≡ stray a.k (unpacked a.c).new
aimed c = by_result w16 (stray c.args.k) c.new_of.type_inv c.new_of.ensures c.is_stray.ensures

-- on replay the last check is left
replayed : (c : Else-not-replay) → let a = c.args in first_of (pixel_checks a.replay (bare a.w a.h a.k a.indices.now) (unpacked a.c)) ≡ first_of (stale when not (eq_z (get_or a.indices.now (place a.w (unpacked a.c)) (pos 0)) (unpacked a.c).old) ∷ [])
unfolding pixel_checks first_of
replayed c =
    rw (on (goal.at.Else-not-replay c).Else-is_outside, sym (aimed (goal.at.Else-not-replay c).After-is_stray) ∙ c.if-is_stray.false, not-false c.args.replay (ap not c.if-not-replay.false))

pub returns-then-is_outside : goal.returns-then-is_outside
unfolding pixel_checks first_of
returns-then-is_outside c = rw (sym c.is_outside.ensures ∙ c.if-is_outside.true)

pub returns-then-is_stray : goal.returns-then-is_stray
unfolding pixel_checks first_of
returns-then-is_stray c =
    let at = goal.at.returns-then-is_stray c in
    rw (on at.Else-is_outside, sym (aimed at.After-is_stray) ∙ c.if-is_stray.true)

pub returns-then-not-replay : goal.returns-then-not-replay
unfolding pixel_checks first_of
returns-then-not-replay c =
    let at = goal.at.returns-then-not-replay c in
    rw (on at.Else-is_outside, sym (aimed at.After-is_stray) ∙ c.if-is_stray.false, not-true c.args.replay (ap not c.if-not-replay.true))

pub place_of-p-requires : goal.place_of-p-requires
place_of-p-requires c = omega (arith, here (goal.at.place_of-p-requires c).Else-is_outside)

pub offset_bounds-indices-p : goal.offset_bounds-indices-p
offset_bounds-indices-p c = omega (arith, here (goal.at.offset_bounds-indices-p c).Else-is_outside)

pub bounds-indices-p : goal.bounds-indices-p
bounds-indices-p c = omega (arith, here (goal.at.bounds-indices-p c).Else-is_outside)

pub returns-then-indices-p : goal.returns-then-indices-p
unfolding first_of
returns-then-indices-p c =
    let met = rw (c.place_of-p.ensures, c.old_of.ensures) at (same-true {a = get_or c.args.indices.now c.place_of-p.result (pos 0)} {b = c.old_of.result} c.if-indices-p.true (search rules) (record { sfits = c.old_of.type_inv })) in
    sym (replayed (goal.at.returns-then-indices-p c).Else-not-replay ∙ rw met)

pub returns : goal.returns
unfolding first_of
returns c =
    let met = rw (c.place_of-p.ensures, c.old_of.ensures) at (same-false {a = get_or c.args.indices.now c.place_of-p.result (pos 0)} {b = c.old_of.result} c.if-indices-p.false (search rules) (record { sfits = c.old_of.type_inv })) in
    sym (replayed (goal.at.returns c).Else-not-replay ∙ rw met)
