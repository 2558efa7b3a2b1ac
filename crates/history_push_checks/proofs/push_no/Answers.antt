-- `push_no`: the steps before the list, the list, and the steps after it. Assumes nothing.
use mathlib.Core.Path.{◌≡◌, refl}
use mathlib.Core.Bool.{false}
use mathlib.Core.List.{map, flat_map}
use Rattle.base.specs.Checks.{or_else, first_of}
use Rattle.edit.specs.Change.{unpacked}
use Rattle.edit.specs.List.{list_of}
use Rattle.edit.specs.Checks.{change_checks}
use Rattle.edit_pixels.specs.Inside.{bare}
use Rattle.history_push_checks.proofs.PushSteps.{refused-number, begun-checkable, settle-checkable, settle-short, settle-marks, push-number}
use borrow.Author.Rules.{rules}
use Rattle.history_push_checks.proofs.push_no.Goals as goal
use Rattle.history_push_checks.proofs.push_no.Goals.{After-check_list-checked}

-- past the test the number so far is that of the list
checked : (c : After-check_list-checked) → let a = c.args in c.check_list-checked.result
    ≡ or_else c.begin-begun.result (first_of (flat_map (change_checks false (bare a.w a.h a.k a.indices.now) (list_of a.edit)) (map unpacked a.list.now)))
checked c = rw c.if-begun-ne0.false (rw c.list_of.ensures at c.check_list-checked.ensures.0)

pub returns-then-begun-ne0 : goal.returns-then-begun-ne0
returns-then-begun-ne0 c = refused-number _ _ _ _ _ _ (c.begin-begun.ensures _ c.args.list.now refl) c.if-begun-ne0.true

pub check_list-checked-requires : goal.check_list-checked-requires
check_list-checked-requires c =
    rw c.list_of.ensures
    (begun-checkable _ _ _ _ _ _ _ _ _ _ _ _ _ _ _ c.args.list.now _ refl _ _ (c.begin-begun.ensures c.args.form c.args.list.now refl) _ (search rules) c.if-begun-ne0.false)

pub settle-requires : goal.settle-requires
settle-requires c =
    let b = c.begin-begun.ensures c.args.form c.args.list.now refl in
    let d = checked (goal.at.settle-requires c).After-check_list-checked in
    (λ z. settle-checkable _ _ _ _ _ _ _ _ _ _ _ _ _ _ _ c.args.list.now _ refl _ _ b _ d _ (search rules) z, λ z. settle-short _ _ _ _ _ _ _ _ _ _ _ _ _ _ _ c.args.list.now _ refl _ _ b _ d z)

pub returns : goal.returns
returns c =
    let list = c.args.list.now in
    let b = c.begin-begun.ensures c.args.form list refl in
    let d = checked (goal.at.returns c).After-check_list-checked in
    push-number _ _ _ _ _ _ _ _ _ _ _ _ _ _ _ list _ refl _ _ b _ d _ (c.settle.ensures (map unpacked list)
    (λ z. settle-marks _ _ _ _ _ _ _ _ _ _ _ _ _ _ _ list _ refl _ _ b _ d _ z (rw c.list_of.ensures at (c.check_list-checked.ensures.1 z))))
