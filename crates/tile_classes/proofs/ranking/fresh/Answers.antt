-- `fresh`: the two keys compared. Assumes nothing.
use mathlib.Core.Path.{◌≡◌, ap, ◌∙◌}
use Prim.Native.Nat.{ℕ, suc, ◌-◌}
use native.Mathlib.Omega.{arith}
use lib.ListN.{get_or}
use Rattle.tile_classes.specs.Places.{key_in}
use Rattle.tile_classes.specs.Ranks.{key_at}
use Rattle.tile_classes.proofs.Ranks.{fresh-first, fresh-same-at, fresh-other-at}
use Rattle.tile_classes.proofs.ranking.fresh.Goals as goal
use Rattle.tile_classes.proofs.ranking.fresh.Goals.{After-key_in-2}

-- src/ranking.rt:37:9
-- the number before it

later : (c : After-key_in-2) → let a = c.args in a.i ≡ suc (a.i - 1)
later c = omega (arith, c.if-i-eq0.false)

before-it : (c : After-key_in-2) → let a = c.args in
    c.key_in.result ≡ key_at a.n a.s.now (a.i - 1)
before-it c =
    let a = c.args in
    c.key_in.ensures ∙ ap (λ (j : ℕ). key_in (get_or a.s.now j 0)) (omega (arith, later c))

pub returns-then-i-eq0 : goal.returns-then-i-eq0
returns-then-i-eq0 c = (fresh-first _ c.if-i-eq0.true, omega arith)

-- src/ranking.rt:40:9
pub returns-then-key_in : goal.returns-then-key_in
returns-then-key_in c =
    let a = c.args in (
      fresh-same-at (key_at a.n a.s.now) (a.i - 1) (later (goal.at.returns-then-key_in c).After-key_in-2) (before-it (goal.at.returns-then-key_in c).After-key_in-2) c.key_in-2.ensures c.if-key_in.true,
      omega arith,
    )

-- src/ranking.rt:32:1
pub returns : goal.returns
returns c =
    let a = c.args in (
      fresh-other-at (key_at a.n a.s.now) (a.i - 1) (later (goal.at.returns c).After-key_in-2) (before-it (goal.at.returns c).After-key_in-2) c.key_in-2.ensures c.if-key_in.false,
      omega arith,
    )
