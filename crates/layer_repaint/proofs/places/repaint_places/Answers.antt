-- `repaint_places`: the places before this one are as they have to be, and the others as they were. Assumes nothing.
use mathlib.Core.Path.{◌≡◌}
use mathlib.Core.List.{List}
use Prim.Native.Nat.{ℕ, ◌<◌}
use native.Mathlib.Omega.{arith}
use native.Mathlib.Nat.{le_refl}
use borrow.Author.Rules.{rules}
use lib.IntN.{pos, negsuc}
use lib.ListN.{length, get_or}
use mir.Syntax.{w16}
use mir.Val.{SFits}
use mir.Facts.{to_z-of_z}
use Rattle.sheet.proofs.Pixels.{read_none}
use Rattle.layer_shown.specs.Stack.{pixel_up_to}
use Rattle.layer_shown.proofs.Stack.{stack-four}
use Rattle.layer_word.proofs.Painted.{Painted, painted-none, painted-next, painted-to, painted-all, still}
use Rattle.layer_repaint.specs.Places.{view_of, place_of}
use Rattle.layer_repaint.proofs.Same.{same_table, same_place}
use Rattle.layer_repaint.proofs.Repainting.{place-four, kept, place-bytes}
use Rattle.layer_repaint.proofs.places.repaint_places.Goals as goal
use Rattle.layer_repaint.proofs.places.repaint_places.Goals.{Start, Then-eq, In-loop-p}

-- the pixel of a place, four bytes
abbrev place : Start → ℕ → List ℕ
place c =
    let a = c.args in
    place_of (pixel_up_to (length a.before.now) a.palettes.now a.indices.now a.count) (view_of a.palette.now a.before.now) (view_of a.after_palette.now a.after.now) a.out.now

four : (c : Start) (p : ℕ) → p < length c.args.before.now → length (place c p) ≡ 4
four c = let pre = c.requires in place-four _ _ _ _ pre.1 pre.2 (λ p. stack-four pre.0 _ p (le_refl _)) _ pre.3

pub loop-start-init : goal.loop-start-init
loop-start-init c = (omega arith, painted-none _ _)

-- a block that did not change
passed : (c : Then-eq) → Painted (place (goal.at.Then-eq c).Start) c.args.out.now c.loop-start.out c.min-end.result
passed c =
    let s = (goal.at.Then-eq c).Start in
    let pre = c.requires in
    let same = same_table _ _ _ c.eq-alike.ensures c.if-alike.true in
    painted-to _ _ _ (four s) pre.3 c.loop-start.invariant.1 c.min-end.result (omega arith) (omega arith)
    (λ p a b. kept _ _ _ _ pre.1 pre.2 c.fill_shades.ensures c.fill_shades-2.ensures same _ p
    (same_place c.args.before.now c.args.after.now _ _ _ c.eq.ensures c.if-eq.true (negsuc 0) p a b))

pub shade_of-x-requires : goal.shade_of-x-requires
shade_of-x-requires c =
    let p : SFits w16 (get_or c.args.before.now c.loop-p.p (pos 0)) = search rules in
    read_none _ _ _ c.requires.1.in-range (omega arith) p.sfits

pub shade_of-y-requires : goal.shade_of-y-requires
shade_of-y-requires c =
    let p : SFits w16 (get_or c.args.after.now c.loop-p.p (pos 0)) = search rules in
    read_none _ _ _ c.requires.2.in-range (omega (arith, c.requires.2.indices-length)) p.sfits

pub loop-p-preserved : goal.loop-p-preserved
loop-p-preserved c =
    let s = (goal.at.loop-p-preserved c).Start in
    let pre = c.requires in
    let p : SFits w16 (get_or c.args.before.now c.loop-p.p (pos 0)) = search rules in
    let q : SFits w16 (get_or c.args.after.now c.loop-p.p (pos 0)) = search rules in
    let painted = c.loop-p.invariant in
    painted-next _ _ _ (four s) pre.3 painted (omega arith) _ _ c.put_place.ensures
    (place-bytes _ _ _ _ pre.1 pre.2 c.fill_shades.ensures c.fill_shades-2.ensures (omega arith) (to_z-of_z p) (to_z-of_z q)
    (read_none _ _ _ pre.1.in-range (omega arith) p.sfits) (read_none _ _ _ pre.2.in-range (omega (arith, pre.2.indices-length)) q.sfits)
    c.shade_of-x.ensures c.shade_of-y.ensures _ _ (still _ _ _ (four s) pre.3 painted (omega arith)))

-- the places up to one
at : (c : Start) (out : List ℕ) (p q : ℕ) → p ≡ q → Painted (place c) c.args.out.now out p → Painted (place c) c.args.out.now out q
at c out p q e h = rw e at h

pub loop-start-preserved-then-eq : goal.loop-start-preserved-then-eq
loop-start-preserved-then-eq c =
    (omega arith, at (goal.at.loop-start-preserved-then-eq c).Start _ _ _ (omega arith) (passed (goal.at.loop-start-preserved-then-eq c).Then-eq))

pub returns-then-eq : goal.returns-then-eq
returns-then-eq c =
    painted-all _ _ _ (four (goal.at.returns-then-eq c).Start) c.requires.3 (passed (goal.at.returns-then-eq c).Then-eq) (omega arith) (omega arith)
