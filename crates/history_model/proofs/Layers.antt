-- Demand 3 of every layer, for the calls of this repository. Assumes nothing.
use mathlib.Core.Bool.{Bool, true, false, cond}
use mathlib.Core.List.{List, [], ◌∷◌, map}
use Prim.Native.Nat.{ℕ}
use lib.Dec.{eqb}
use Rattle.sheet.specs.Sheet.{view}
use Rattle.history_ledger.specs.Demand.{TypedCalls}
use Rattle.history_ledger.specs.Layers.{calls_on, calls_in}
use Rattle.history_ledger.proofs.Layers.{own-histories}
use Rattle.history_model.specs.Editing.{editing_by, editing}
use Rattle.history_model.specs.Handed.{sheet_by}
use Rattle.history_model.specs.Layers.{HandedCall, call_on, Demand3OfLayers}
use Rattle.history_model.proofs.Keeps.{keeps}
use Rattle.history_model.proofs.Demand3.{call-typed, handed-fits}

own-typed : (i : ℕ) (handed : List HandedCall) → TypedCalls editing (calls_in (calls_on i (map call_on handed)))
unfolding calls_on
own-typed i [] = tt
own-typed i (c ∷ handed) = go (eqb i c.layer) (own-typed i handed)
  where
    go : (b : Bool) → TypedCalls editing (calls_in (calls_on i (map call_on handed)))
        → TypedCalls editing (calls_in (cond b ((call_on c).call ∷ calls_on i (map call_on handed)) (calls_on i (map call_on handed))))
    go true more = (call-typed c.call.call, more)
    go false more = more

pub demand-3-of-layers : Demand3OfLayers
unfolding view
demand-3-of-layers f c fits lent i passes journals longer b b' handed r scratch' r' =
    own-histories (editing_by f c) (keeps f c fits) (λ j. sheet_by (lent j)) i (handed-fits f c (lent i) passes) journals longer b b'
    (map call_on handed) (own-typed i handed) r scratch' r'
