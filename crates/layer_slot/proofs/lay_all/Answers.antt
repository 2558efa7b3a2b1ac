-- `lay_all`: the pixels of the places before `at`. Assumes nothing.
use mathlib.Core.Path.{◌≡◌}
use Prim.Native.Nat.{ℕ, ◌+◌, ◌*◌, ◌-◌}
use native.Mathlib.Omega.{arith}
use borrow.Rule.Slice.PartMut.{put_mid}
use lib.ListN.{length}
use Rattle.layer_shown.proofs.Stack.{stack-four}
use Rattle.layer_shown.specs.Stack.{pixel_up_to}
use Rattle.layer_word.proofs.Painted.{Painted, painted-none, painted-all}
use Rattle.layer_slot.proofs.Words.{painted-run, run-pixels}
use Rattle.layer_slot.proofs.lay_all.Goals as goal
use Rattle.layer_slot.proofs.lay_all.Goals.{After-lay_places}

-- the pixels of a run behind those before it
run : (c : After-lay_places) (to : ℕ) → to ≡ c.loop-at.at + c.min-m.result
    → let a = c.args in let out = c.loop-at.out in let start = 4 * c.loop-at.at in
    Painted (pixel_up_to a.n a.palettes.now a.indices.now a.count) a.out.now (put_mid start (length out - start) out c.lay_places.new.out) to
run c to e =
    rw e
    (painted-run _ _ _ _ (λ p h. stack-four c.requires.0 _ p (omega arith)) c.requires.2 _ c.loop-at.invariant.1 (omega arith) _ c.lay_places.ensures
    (run-pixels c.requires.0 c.fill_table.ensures _ _ (omega arith)))

pub loop-at-init : goal.loop-at-init
loop-at-init c = (omega arith, painted-none _ _)

pub loop-at-preserved : goal.loop-at-preserved
loop-at-preserved c = (omega arith, run (goal.at.loop-at-preserved c).After-lay_places _ (omega arith))

pub returns-2 : goal.returns-2
returns-2 c =
    painted-all _ _ _ (λ p h. stack-four c.requires.0 _ p (omega arith)) c.requires.2
    (run (goal.at.returns-2 c).After-lay_places c.args.n (omega arith)) (omega arith) (omega arith)
