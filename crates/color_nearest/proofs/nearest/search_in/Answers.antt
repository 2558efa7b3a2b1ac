-- `nearest::search_in` meets its contract. The loop's invariant: s is the search of the first i entries, and u of the i entries from the half on.
use mathlib.Core.Path.{refl, sym, subst}
use Prim.Native.Nat.{◌+◌, ◌/◌}
use native.Mathlib.Nat.{zero-add, le_antisymm}
use native.Mathlib.Omega.{arith}
use borrow.Author.Rules.{rules}
use lib.Ieee.{of_bits}
use Rattle.color_nearest.proofs.Totals.{Part, part_none, part-turn, part_join, searched-all}
use Rattle.color_nearest.proofs.nearest.search_in.Goals as goal
use Rattle.color_nearest.proofs.nearest.search_in.Goals.{After-join-both}

-- the two halves, joined
found : (c : After-join-both)
    → let at-start = c.before.before.before.before in
    Part at-start.args.target at-start.args.lab.now 0 (at-start.args.k / 2 + at-start.args.k / 2) c.join-both.result
found c =
    let at = c.before.before.loop-i in
    let all = le_antisymm at.auto.i-end c.before.loop-i-test.false in
    subst (Part _ _ _ _) (sym c.join-both.ensures) (part_join _ _ _ _ _ _ (rw all at at.invariant.0) (rw all at at.invariant.1))

pub loop-i-init : goal.loop-i-init
unfolding of_bits
loop-i-init c = (part_none _ _ _ _ refl, part_none _ _ _ _ refl)

pub loop-i-preserved : goal.loop-i-preserved
loop-i-preserved c =
    let at = c.loop-i in (
      subst (Part _ _ _ _) (sym c.take-s.ensures) (part-turn _ _ _ _ _ _ (sym (zero-add _)) at.invariant.0),
      subst (Part _ _ _ _) (sym c.take-u.ensures) (part-turn _ _ _ _ _ _ refl at.invariant.1),
    )

-- all k entries, one after the halves where k is odd
pub returns-then-half-k : goal.returns-then-half-k
returns-then-half-k c =
    searched-all _ _ _ _ _ (omega arith) (search rules)
    (subst (Part _ _ _ _) (sym c.take.ensures) (part-turn _ _ _ _ _ _ (sym (zero-add _)) (found (goal.at.returns-then-half-k c).After-join-both)))

pub returns : goal.returns
returns c = searched-all _ _ _ _ _ (omega arith) (search rules) (found (goal.at.returns c).After-join-both)
