-- `carry_out`: the list written and painted, then the rest. Assumes nothing.
use mathlib.Core.Path.{refl, ◌∙◌}
use mathlib.Core.List.{map}
use Rattle.color_curve.specs.Curve.{curve_of}
use Rattle.edit.specs.Change.{unpacked}
use Rattle.edit.specs.List.{list_of, filled_list}
use Rattle.journal_write.specs.List.{within}
use Rattle.history_push.proofs.Finishing.{part_length, from-offset}
use Rattle.history_push.proofs.Carrying.{carry-inside, carry-puts, carry-paints, carry-finishes, carried}
use borrow.Author.Rules.{rules}
use Rattle.history_push.proofs.pushing.carry_out.Goals as goal

pub slice_bounds-put_list-count : goal.slice_bounds-put_list-count
slice_bounds-put_list-count c = carry-inside _ _ _ _ _ _ _ _ _ _ _ c.args.list.now _ refl c.requires.standing c.requires.acceptable

pub slice_bounds-put_list-start : goal.slice_bounds-put_list-start
slice_bounds-put_list-start c = carry-inside _ _ _ _ _ _ _ _ _ _ _ c.args.list.now _ refl c.requires.standing c.requires.acceptable

pub put_list-requires : goal.put_list-requires
put_list-requires c = rw (c.list_of-kind.ensures, part_length) (carry-puts _ _ _ _ _ _ _ _ _ _ _ c.args.list.now _ refl c.requires.standing c.requires.acceptable)

pub paint_list-requires : goal.paint_list-requires
paint_list-requires c = rw c.list_of-kind.ensures (carry-paints _ _ _ _ _ _ _ _ _ _ _ c.args.list.now _ refl c.requires.standing c.requires.acceptable)

pub finish-requires : goal.finish-requires
finish-requires c = (λ _ t. carry-finishes _ _ _ _ _ _ _ _ _ _ _ c.args.list.now _ refl c.requires.standing c.requires.acceptable _ (search rules) t, λ _. c.requires.curve_fits)

pub returns : goal.returns
returns c limited permitted =
    let a = c.args in
    let kind = c.list_of-kind.ensures in
    let changes = filled_list (list_of a.edit) a.w a.indices.now (map unpacked a.list.now) in
    let put = from-offset (within a.form a.w (list_of a.edit) changes) a.journal.now _ a.handle.offset (rw kind at c.put_list.ensures) in
    let painted = rw kind at c.paint_list.ensures in
    c.finish.ensures a.w a.h ∙ carried _ _ _ _ _ _ _ _ _ _ _ a.list.now _ refl (curve_of a.loaded a.curve.now) limited permitted _ _ painted put c.requires.acceptable
