-- `colour`: the bytes out of their places. Assumes nothing.
use mathlib.Core.Path.{refl}
use borrow.Author.Rules.{rules}
use Rattle.tool_snap.specs.Cache.{rgb_of}
use Rattle.tool_snap.proofs.snap.colour.Goals as goal

pub returns : goal.returns
unfolding rgb_of
returns c = refl
