-- `replay_no`: the steps before the list, the list, and the step after it. Assumes nothing.
use mathlib.Core.Path.{◌≡◌}
use mathlib.Core.Bool.{true}
use mathlib.Core.List.{map, flat_map}
use lib.ListN.{length-map}
use Rattle.base.specs.Checks.{or_else, first_of}
use Rattle.edit.specs.Change.{unpacked}
use Rattle.edit.specs.List.{list_of}
use Rattle.edit.specs.Checks.{change_checks}
use Rattle.edit_pixels.specs.Inside.{bare}
use Rattle.history_replay.proofs.Replaying.{opened-checkable, checked-checkable, checked-marks, replay-number}
use borrow.Author.Rules.{rules}
use Rattle.history_replay.proofs.replay_no.Goals as goal
use Rattle.history_replay.proofs.replay_no.Goals.{After-check_list-checked}

-- past the test the number so far is that of the list
checked : (c : After-check_list-checked) → let a = c.args in c.check_list-checked.result
    ≡ or_else c.open_replay-opened.result (first_of (flat_map (change_checks true (bare a.w a.h a.k a.indices.now) (list_of a.edit)) (map unpacked a.list.now)))
checked c = rw c.if-opened-ne0.false (rw c.list_of.ensures at c.check_list-checked.ensures.0)

pub returns-then-opened-ne0 : goal.returns-then-opened-ne0
returns-then-opened-ne0 c = let list = c.args.list.now in (c.open_replay-opened.ensures (map unpacked list) (length-map list unpacked)).refuses c.if-opened-ne0.true

pub check_list-checked-requires : goal.check_list-checked-requires
check_list-checked-requires c =
    let list = c.args.list.now in
    rw c.list_of.ensures
    (opened-checkable _ _ _ _ _ _ _ _ _ _ _ (map unpacked list) _ _ (c.open_replay-opened.ensures (map unpacked list) (length-map list unpacked)) _ (search rules) c.if-opened-ne0.false)

pub left_after-requires : goal.left_after-requires
left_after-requires c =
    let list = c.args.list.now in
    let o = c.open_replay-opened.ensures (map unpacked list) (length-map list unpacked) in
    λ z. checked-checkable _ _ _ _ _ _ _ _ _ _ _ (map unpacked list) _ _ o _ (checked (goal.at.left_after-requires c).After-check_list-checked) _ (search rules) z

pub returns : goal.returns
returns c =
    let list = c.args.list.now in
    let o = c.open_replay-opened.ensures (map unpacked list) (length-map list unpacked) in
    let d = checked (goal.at.returns c).After-check_list-checked in
    replay-number _ _ _ _ _ _ _ _ _ _ _ (map unpacked list) _ _ o _ d _
    (c.left_after.ensures (map unpacked list)
    (λ z. checked-marks _ _ _ _ _ _ _ _ _ _ _ (map unpacked list) _ _ o _ d _ z (rw c.list_of.ensures at (c.check_list-checked.ensures.1 z))))
