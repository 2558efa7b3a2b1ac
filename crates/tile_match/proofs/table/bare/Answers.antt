-- `bare`: the places so far. Assumes nothing.
use mathlib.Core.Path.{refl, ap}
use Prim.Native.Nat.{ℕ, ◌%◌}
use native.Mathlib.Omega.{arith}
use Rattle.tile_chain.specs.Table.{found_in}
use Rattle.tile_cells.proofs.Rows.{row-none, row_next, row-whole, row-behind}
use Rattle.tile_match.proofs.table.bare.Goals as goal

pub loop-v-init : goal.loop-v-init
loop-v-init c = row-none _ _

pub loop-v-preserved : goal.loop-v-preserved
unfolding found_in
loop-v-preserved c = row_next _ c.loop-v.invariant (omega arith) _ (ap (λ (v : ℕ). v % 4194304) (row-behind _ 0 c.loop-v.invariant))

pub returns : goal.returns
returns c = row-whole _ c.loop-v.invariant _ refl c.loop-v.auto.v-index-end c.loop-v-test.false
