-- `rank`: i numbers so far. Assumes nothing.
use mathlib.Core.Path.{◌≡◌}
use Rattle.tile_classes.specs.Ranks.{freshBelow, key_at, Ranked}
use Rattle.tile_classes.proofs.ranking.rank.Given as goal

abbrev pub invariant-loop-i : goal.invariant-loop-i
invariant-loop-i l = (l.class ≡ freshBelow (key_at l.n l.initial.s) l.i) × Ranked l.n l.initial.s l.s l.i
