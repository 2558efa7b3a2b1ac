-- `lesser_order`: by the comparison. Assumes nothing.
use mathlib.Core.Path.{◌≡◌}
use mathlib.Core.List.{List}
use borrow.Author.Rules.{rules}
use lib.IntN.{ℤ}
use Rattle.tile_least.specs.Least.{compared, seen_in}
use Rattle.tile_least.proofs.Seeing.{orders-are}
use Rattle.tile_least.proofs.Comparing.{second-less, first-least}
use Rattle.tile_least.proofs.least.lesser_order.Goals as goal
use Rattle.tile_least.proofs.least.lesser_order.Goals.{After-compare_flips-n, Start}

-- the tile in the first order and in the second

abbrev one : Start → List ℤ
one c = let a = c.args in seen_in a.src.now a.corner a.stride a.t a.o

abbrev other : Start → List ℤ
other c = let a = c.args in seen_in a.src.now a.corner a.stride a.t a.q

said : (c : After-compare_flips-n)
    → c.compare_flips-n.result ≡ compared (one c.before.before.before.before.before) (other c.before.before.before.before.before)
said c =
    let a = c.args in
    orders-are a.src.now a.corner a.stride a.t a.o a.q c.requires.1 c.requires.2 c.flips_h.ensures c.flips_v.ensures
    c.flips_h-2.ensures c.flips_v-2.ensures c.compare_flips-n.ensures

pub returns-then-n-eq2 : goal.returns-then-n-eq2
returns-then-n-eq2 c = record { result_value = second-less (one (goal.at.returns-then-n-eq2 c).Start) (other (goal.at.returns-then-n-eq2 c).Start) (said (goal.at.returns-then-n-eq2 c).After-compare_flips-n) (search rules); upper_bound = c.requires.2 }

pub returns-else-n-eq2 : goal.returns-else-n-eq2
returns-else-n-eq2 c = record { result_value = first-least (one (goal.at.returns-else-n-eq2 c).Start) (other (goal.at.returns-else-n-eq2 c).Start) (said (goal.at.returns-else-n-eq2 c).After-compare_flips-n) (search rules); upper_bound = c.requires.1 }
