-- `can_undo`: each kind by its lemma. Assumes nothing.
use mathlib.Core.Path.{◌≡◌, refl}
use native.Mathlib.Omega.{arith}
use Rattle.journal_read.proofs.Rooms.{pixels-room, set_room, remove-room, last-kind}
use Rattle.journal_undo.proofs.UndoKinds.{pixels-takes, set-takes, add-takes, lock-lies, lock-takes, remove-takes}
use Rattle.journal_undo.proofs.undo.can_undo.Goals as goal
use Rattle.journal_undo.proofs.undo.can_undo.Goals.{Else-kind-eq-LOCK}

last : (c : Else-kind-eq-LOCK) → c.args.kind ≡ 4
last c = last-kind c.requires.lies c.if-kind-eq-PIXELS.false c.if-kind-eq-SET.false c.if-kind-eq-ADD.false c.if-kind-eq-LOCK.false

pub can_undo_pixels-requires : goal.can_undo_pixels-requires
can_undo_pixels-requires c =
    let f = c.requires.well_formed in
    (omega (arith, pixels-room c.requires.lies c.if-kind-eq-PIXELS.true), f.limits.k-small, f.limits.indices-length, f.in-range)

pub returns-then-kind-eq-PIXELS : goal.returns-then-kind-eq-PIXELS
returns-then-kind-eq-PIXELS c = record { indices_unchanged = c.can_undo_pixels.ensures.indices_unchanged; result_value = pixels-takes c.requires.well_formed _ _ _ _ _ c.if-kind-eq-PIXELS.true c.can_undo_pixels.ensures.value }

pub can_undo_set-requires : goal.can_undo_set-requires
can_undo_set-requires c = omega (arith, set_room c.requires.lies c.if-kind-eq-SET.true)

pub returns-then-kind-eq-SET : goal.returns-then-kind-eq-SET
returns-then-kind-eq-SET c = record { indices_unchanged = refl; result_value = set-takes c.requires.well_formed _ _ _ _ _ c.if-kind-eq-SET.true c.can_undo_set.ensures }

pub returns-then-kind-eq-ADD : goal.returns-then-kind-eq-ADD
returns-then-kind-eq-ADD c = record { indices_unchanged = refl; result_value = add-takes c.requires.well_formed _ _ _ _ _ c.if-kind-eq-ADD.true c.can_undo_add.ensures }

pub can_undo_lock-requires : goal.can_undo_lock-requires
can_undo_lock-requires c = (lock-lies c.requires.lies c.if-kind-eq-LOCK.true, omega (arith, c.requires.well_formed.limits.k-small, c.requires.locks_len))

pub returns-then-kind-eq-LOCK : goal.returns-then-kind-eq-LOCK
returns-then-kind-eq-LOCK c = record { indices_unchanged = refl; result_value = lock-takes c.requires.well_formed _ _ _ _ _ c.if-kind-eq-LOCK.true c.can_undo_lock.ensures }

pub can_undo_remove-requires : goal.can_undo_remove-requires
can_undo_remove-requires c =
    let f = c.requires.well_formed in
    (omega (arith, remove-room c.requires.lies (last (goal.at.can_undo_remove-requires c).Else-kind-eq-LOCK)), f.limits.k-small, f.limits.indices-length, f.in-range)

pub returns : goal.returns
returns c = record { indices_unchanged = c.can_undo_remove.ensures.indices_unchanged; result_value = remove-takes c.requires.well_formed _ _ _ _ _ (last (goal.at.returns c).Else-kind-eq-LOCK) c.can_undo_remove.ensures.value }
