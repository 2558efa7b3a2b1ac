-- `call::entry_no`: the tests are those of the checks, in their order. Assumes nothing.
use borrow.Author.Tests.{lt-ltb, le-ltb}
use Rattle.base.specs.Checks.{first_of}
use Rattle.history_convert.proofs.call.entry_no.Goals as goal
use mathlib.Core.Path.{ap}
use mathlib.Core.Bool.{not}

pub returns-then-w-gt-MAX_SIDE : goal.returns-then-w-gt-MAX_SIDE
unfolding first_of
returns-then-w-gt-MAX_SIDE c = rw (lt-ltb _ _ c.if-w-gt-MAX_SIDE.true)

pub returns-then-h-gt-MAX_SIDE : goal.returns-then-h-gt-MAX_SIDE
unfolding first_of
returns-then-h-gt-MAX_SIDE c = rw (le-ltb _ _ c.if-w-gt-MAX_SIDE.false, lt-ltb _ _ c.if-h-gt-MAX_SIDE.true)

pub returns-then-size-gt-MAX_JOURNAL : goal.returns-then-size-gt-MAX_JOURNAL
unfolding first_of
returns-then-size-gt-MAX_JOURNAL c = rw (le-ltb _ _ c.if-w-gt-MAX_SIDE.false, le-ltb _ _ c.if-h-gt-MAX_SIDE.false, lt-ltb _ _ c.if-size-gt-MAX_JOURNAL.true)

pub returns-then-room-gt-MAX_JOURNAL : goal.returns-then-room-gt-MAX_JOURNAL
unfolding first_of
returns-then-room-gt-MAX_JOURNAL c = rw (le-ltb _ _ c.if-w-gt-MAX_SIDE.false, le-ltb _ _ c.if-h-gt-MAX_SIDE.false, le-ltb _ _ c.if-size-gt-MAX_JOURNAL.false, lt-ltb _ _ c.if-room-gt-MAX_JOURNAL.true)

pub returns-then-not-sound : goal.returns-then-not-sound
unfolding first_of
returns-then-not-sound c =
    rw (le-ltb _ _ c.if-w-gt-MAX_SIDE.false, le-ltb _ _ c.if-h-gt-MAX_SIDE.false, le-ltb _ _ c.if-size-gt-MAX_JOURNAL.false, le-ltb _ _ c.if-room-gt-MAX_JOURNAL.false, ← c.sound.ensures, (ap not c.if-not-sound.true))

pub returns : goal.returns
unfolding first_of
returns c =
    rw (le-ltb _ _ c.if-w-gt-MAX_SIDE.false, le-ltb _ _ c.if-h-gt-MAX_SIDE.false, le-ltb _ _ c.if-size-gt-MAX_JOURNAL.false, le-ltb _ _ c.if-room-gt-MAX_JOURNAL.false, ← c.sound.ensures, (ap not c.if-not-sound.false))
