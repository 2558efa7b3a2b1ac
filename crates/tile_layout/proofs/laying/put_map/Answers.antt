-- `put_map`: i entries so far. Assumes nothing.
use mathlib.Core.List.{List}
use mathlib.Core.Path.{◌≡◌, refl}
use Prim.Native.Nat.{ℕ}
use native.Mathlib.Omega.{arith}
use lib.ListN.{length, get_or}
use Rattle.tile_cells.proofs.Rows.{rows_none, rows_next}
use Rattle.tile_layout.specs.Numbering.{flat_id}
use Rattle.tile_layout.proofs.laying.put_map.Goals as goal

three-long : (s : List ℕ) (i : ℕ) → length (flat_id (get_or s i 0)) ≡ 3
unfolding flat_id
three-long s i = refl

pub loop-i-init : goal.loop-i-init
loop-i-init c = rows_none _ _

pub loop-i-preserved : goal.loop-i-preserved
loop-i-preserved c = let a = c.args in rows_next (λ i. flat_id (get_or a.s.now i 0)) 3 (three-long a.s.now) c.loop-i.invariant (omega (arith, c.requires.1)) _ c.put_entry.ensures
