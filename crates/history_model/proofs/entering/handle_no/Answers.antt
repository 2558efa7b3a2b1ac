-- `handle_no`: 1, then 4. Assumes nothing.
use borrow.Author.Tests.{lt-ltb, le-ltb}
use Rattle.base.specs.Checks.{first_of}
use borrow.Author.Rules.{rules}
use Rattle.history_model.proofs.entering.handle_no.Goals as goal
use mathlib.Core.Path.{ap}
use mathlib.Core.Bool.{not}

pub returns-then-size-gt-MAX_JOURNAL : goal.returns-then-size-gt-MAX_JOURNAL
unfolding first_of
returns-then-size-gt-MAX_JOURNAL c = rw (lt-ltb _ _ c.if-size-gt-MAX_JOURNAL.true)

pub returns-then-not-sound : goal.returns-then-not-sound
unfolding first_of
returns-then-not-sound c = rw (le-ltb _ _ c.if-size-gt-MAX_JOURNAL.false, ← c.sound.ensures, (ap not c.if-not-sound.true))

pub returns : goal.returns
unfolding first_of
returns c = rw (le-ltb _ _ c.if-size-gt-MAX_JOURNAL.false, ← c.sound.ensures, (ap not c.if-not-sound.false))
