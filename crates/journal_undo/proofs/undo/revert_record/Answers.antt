-- `revert_record`: each kind by its lemma. Assumes nothing.
use mathlib.Core.Path.{◌≡◌}
use native.Mathlib.Omega.{arith}
use Rattle.sheet.proofs.Strays.{stray-more}
use Rattle.edit_pixels.proofs.Inside.{none-past}
use Rattle.journal_read.proofs.Rooms.{pixels-room, set_room, remove-room, last-kind}
use Rattle.journal_undo.proofs.UndoKinds.{pixels-inside, pixels-leaves, set-entry, set-leaves, add-entry, add-leaves, lock-leaves, remove-returns, remove-leaves}
use Rattle.journal_undo.proofs.undo.revert_record.Goals as goal
use Rattle.journal_undo.proofs.undo.revert_record.Goals.{Then-kind-ne-LOCK}

last : (c : Then-kind-ne-LOCK) → c.args.kind ≡ 4
last c = last-kind c.requires.lies c.if-kind-eq-PIXELS.false c.if-kind-eq-SET.false c.if-kind-eq-ADD.false c.if-kind-ne-LOCK.true

pub paint_olds_in-requires : goal.paint_olds_in-requires
paint_olds_in-requires c =
    let pre = c.requires in
    let f = pre.well_formed in
    let e = c.if-kind-eq-PIXELS.true in
    record { n_in_bounds = omega (arith, pixels-room pre.lies e); n_value = none-past _ _ _ f.limits.indices-length _ (pixels-inside f _ _ _ _ _ e pre.fact.takes) }

pub returns-then-kind-eq-PIXELS : goal.returns-then-kind-eq-PIXELS
returns-then-kind-eq-PIXELS c = pixels-leaves c.requires.well_formed c.requires.fact.locks _ _ _ _ c.if-kind-eq-PIXELS.true c.paint_olds_in.ensures

pub undo_set-requires : goal.undo_set-requires
undo_set-requires c =
    let pre = c.requires in
    let f = pre.well_formed in
    let e = c.if-kind-eq-SET.true in
    let entry = set-entry f _ _ _ _ _ e pre.fact.takes in
    (omega (arith, set_room pre.lies e), omega (arith, f.limits), omega (arith, f.limits))

pub returns-then-kind-eq-SET : goal.returns-then-kind-eq-SET
returns-then-kind-eq-SET c = set-leaves c.requires.well_formed c.requires.fact.locks _ _ _ _ c.if-kind-eq-SET.true c.undo_set.ensures.palette_after c.undo_set.ensures.lab_after

pub overflow_sub-result : goal.overflow_sub-result
overflow_sub-result c = omega (arith, add-entry c.requires.well_formed _ _ _ _ _ c.if-kind-eq-ADD.true c.requires.fact.takes)

pub returns-then-kind-eq-ADD : goal.returns-then-kind-eq-ADD
returns-then-kind-eq-ADD c = add-leaves c.requires.well_formed c.requires.fact.locks _ _ _ _ c.if-kind-eq-ADD.true

pub undo_remove-requires : goal.undo_remove-requires
undo_remove-requires c =
    let pre = c.requires in
    let f = pre.well_formed in
    let e = last (goal.at.undo_remove-requires c).Then-kind-ne-LOCK in
    let back = remove-returns f _ _ _ _ _ e pre.fact.takes in record { count_in_bounds = (omega (arith, remove-room pre.lies e), back.entry, f.limits.k-small, omega (arith, back, f.limits), omega (arith, back, f.limits)); indices_value = (stray-more _ 255 _ f.limits.k-small f.in-range, none-past _ _ _ f.limits.indices-length _ back.inside) }

pub returns-then-kind-ne-LOCK : goal.returns-then-kind-ne-LOCK
returns-then-kind-ne-LOCK c =
    let made = c.undo_remove.ensures in
    remove-leaves c.requires.well_formed c.requires.fact.locks _ _ _ _ (last (goal.at.returns-then-kind-ne-LOCK c).Then-kind-ne-LOCK) made.palette_after made.lab_after made.indices_after

pub returns : goal.returns
returns c = lock-leaves c.requires.well_formed c.requires.fact.locks _ _ _ _ c.if-kind-ne-LOCK.false
