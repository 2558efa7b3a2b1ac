-- `permitted_no`: the tests are the definition's. Assumes nothing.
use borrow.Author.Tests.{le-ltb, lt-ltb, eq-eqb, ne_eqb, not-true, not-false}
use Rattle.base.specs.Checks.{first_of}
use Rattle.sheet.specs.Checks.{permitted_checks}
use Rattle.sheet.proofs.checks.permitted_no.Goals as goal
use mathlib.Core.Path.{ap}
use mathlib.Core.Bool.{not}

pub returns-then-not-limited : goal.returns-then-not-limited
unfolding permitted_checks first_of
returns-then-not-limited c = rw (not-true c.args.limited (ap not c.if-not-limited.true))

pub returns-then-permitted-ne0 : goal.returns-then-permitted-ne0
unfolding permitted_checks first_of
returns-then-permitted-ne0 c = rw (not-false c.args.limited (ap not c.if-not-limited.false), ne_eqb _ _ c.if-permitted-ne0.true)

pub returns-then-permitted : goal.returns-then-permitted
unfolding permitted_checks first_of
returns-then-permitted c = rw (not-false c.args.limited (ap not c.if-not-limited.false), eq-eqb _ _ c.if-permitted-ne0.false, lt-ltb _ _ c.if-permitted.true)

pub returns : goal.returns
unfolding permitted_checks first_of
returns c = rw (not-false c.args.limited (ap not c.if-not-limited.false), eq-eqb _ _ c.if-permitted-ne0.false, le-ltb _ _ c.if-permitted.false)
