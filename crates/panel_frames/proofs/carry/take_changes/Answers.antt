-- `take_changes`: i changes are copied. Assumes nothing.
use lib.ListN.{length}
use lib.Seq.{length-take-le}
use borrow.Author.Rules.{rules}
use mathlib.Core.Path.{◌≡◌}
use native.Mathlib.Omega.{arith}
use Rattle.std.proofs.lemmas.List.{drop-map, map-append}
use Rattle.base.proofs.Over.{over-is}
use Rattle.edit.specs.Change.{unpacked}
use Rattle.panel_frames.proofs.Changes.{length-changes, changes_all}
use Rattle.panel_frames.proofs.carry.take_changes.Goals as goal

pub returns : goal.returns
returns c =
    let bs = c.args.bytes.now in
    let long : length c.loop-i.change-items ≡ c.args.n = search (rules, length-take-le) in
    rw (map-append unpacked, changes_all bs c.loop-i.change-items 2 c.args.n long (λ k h. c.loop-i.invariant k (omega arith)), ← drop-map unpacked) (over-is _ _ c.args.n (length-changes bs 2 c.args.n))
