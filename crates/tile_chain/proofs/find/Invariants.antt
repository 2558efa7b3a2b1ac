-- `find`: along the chain, the first cells met so far are ruled out, and every step takes one of those left. Assumes nothing.
use Prim.Native.Nat.{◌+◌, ◌≤◌}
use Rattle.tile_cells.specs.Cells.{cell_count}
use Rattle.tile_chain.proofs.Chains.{Walk}
use Rattle.tile_chain.proofs.find.Given as goal

abbrev pub invariant-loop : goal.invariant-loop
invariant-loop l = Walk l.w l.t l.indices (cell_count l.w l.h l.t) l.c l.p × (l.counter + l.p ≤ l.c)
