-- `top_word`: those above layer i show nothing there. Assumes nothing.
use mathlib.Core.Path.{◌≡◌, sym, ◌∙◌}
use mathlib.Core.Bool.{false}
use Prim.Native.Nat.{◌+◌, ◌*◌, ◌-◌, ◌<◌, ◌≤◌}
use native.Mathlib.Omega.{arith}
use borrow.Author.Rules.{rules}
use lib.IntN.{ℤ, pos}
use lib.ListN.{length, get_or}
use mir.Facts.{to_z-of_z}
use mir.Syntax.{w16}
use mir.Val.{to_z, of_z, SFits}
use Rattle.sheet.specs.Sheet.{stray}
use Rattle.sheet.proofs.Pixels.{read_none}
use Rattle.layer_shown.proofs.Stack.{palette-part, indices-part}
use Rattle.layer_top.proofs.Topmost.{seen_below, seen_here, sign-is, sign-not, nothing_left}
use Rattle.layer_top.proofs.top_word.Goals as goal
use Rattle.layer_top.proofs.top_word.Goals.{In-loop-i}

-- the place in the layer's indices
inside : (c : In-loop-i) → c.args.n * (c.loop-i.i - 1) + c.args.p < length c.args.indices.now
inside c = omega (arith, indices-part c.requires.0 (c.loop-i.i - 1) (omega arith))

-- the index that is read, which is not stray
abbrev index : In-loop-i → ℤ
index c = get_or c.args.indices.now (c.args.n * (c.loop-i.i - 1) + c.args.p) (pos 0)

abbrev read : In-loop-i → ℤ
read c = to_z w16 (of_z w16 (index c))

fine : (c : In-loop-i) → SFits w16 (index c) → stray 255 (read c) ≡ false
fine c p = read_none _ _ _ c.requires.0.in-range (inside c) p.sfits

palette-in : (c : In-loop-i) → 765 * (c.loop-i.i - 1) + 765 ≤ length c.args.palettes.now
palette-in c = palette-part c.requires.0 (c.loop-i.i - 1) (omega arith)

pub entry_word-requires : goal.entry_word-requires
entry_word-requires c =
    let l = (goal.at.entry_word-requires c).In-loop-i in
    let p : SFits w16 (index l) = search rules in
    (palette-in l, fine l p, sign-not (read l) c.if-z-ge0.true)

pub returns-then-z-ge0 : goal.returns-then-z-ge0
returns-then-z-ge0 c =
    let l = (goal.at.returns-then-z-ge0 c).In-loop-i in
    let p : SFits w16 (index l) = search rules in
    c.entry_word.ensures
    ∙ seen_here _ _ _ _ _ _ c.loop-i-test.true (inside l) (to_z-of_z p) (palette-in l) (fine l p) (sign-not (read l) c.if-z-ge0.true)
    ∙ c.loop-i.invariant

pub loop-i-preserved : goal.loop-i-preserved
loop-i-preserved c =
    let l = (goal.at.loop-i-preserved c).In-loop-i in
    let p : SFits w16 (index l) = search rules in
    sym (seen_below _ _ _ _ _ _ c.loop-i-test.true (inside l) (to_z-of_z p) (sign-is (read l) c.if-z-ge0.false)) ∙ c.loop-i.invariant

pub returns : goal.returns
returns c = nothing_left _ _ _ _ _ (omega arith) ∙ c.loop-i.invariant
