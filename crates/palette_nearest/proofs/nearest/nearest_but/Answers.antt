-- `nearest_but`: the two parts around the entry are searched, and the nearer of the two is taken, with its distance. Assumes nothing.
use mathlib.Core.Path.{◌≡◌}
use native.Mathlib.Omega.{arith}
use Rattle.palette_model.proofs.Others.{nearest, near-is, sum-within, is_within, nearest-from, nearest-before}
use Rattle.palette_nearest.proofs.nearest.nearest_but.Goals as goal
use Rattle.palette_nearest.proofs.nearest.nearest_but.Goals.{After-nearer-near}

-- what is found is the nearest of the others
found : (c : After-nearer-near) → let a = c.args in c.nearer-near.result ≡ nearest a.lab.now a.k a.index
found c =
    let a = c.args in
    near-is a.lab.now a.k a.index (omega arith) (omega arith) _ _ _ _ c.lab_at-target.ensures c.nearest_in-before.ensures c.nearest_in-behind.ensures c.nearer-near.ensures

pub overflow_add-later : goal.overflow_add-later
overflow_add-later c = let a = c.args in omega (arith, sum-within a.lab.now a.k a.index (omega arith) (omega arith) _ _ _ c.nearest_in-behind.ensures)

pub overflow_add-result : goal.overflow_add-result
overflow_add-result c =
    let a = c.args in omega (arith, is_within a.lab.now a.k a.index (omega arith) (omega arith) _ (found (goal.at.overflow_add-result c).After-nearer-near))

pub returns-then-near-index : goal.returns-then-near-index
returns-then-near-index c =
    let a = c.args in
    let p = c.requires in
    nearest-before a.lab.now a.k a.index (omega arith) (omega arith) p.2 p.4 _ (found (goal.at.returns-then-near-index c).After-nearer-near) c.if-near-index.true

pub returns : goal.returns
returns c =
    let a = c.args in
    let p = c.requires in
    nearest-from a.lab.now a.k a.index (omega arith) (omega arith) p.2 p.4 _ (found (goal.at.returns c).After-nearer-near) c.if-near-index.false
