-- `first_no`: by whether it is the last. Assumes nothing.
use Rattle.layer_checks.proofs.Judging.{first-last, first-wide, first-high, first_part}
use Rattle.layer_checks.proofs.first_no.Goals as goal

pub returns-then-sizes-eq3 : goal.returns-then-sizes-eq3
returns-then-sizes-eq3 c = first-last _ _ _ _ _ c.if-sizes-eq3.true c.check.ensures

pub returns-then-w-gt-MAX_SIDE : goal.returns-then-w-gt-MAX_SIDE
returns-then-w-gt-MAX_SIDE c = first-wide _ _ _ _ c.if-sizes-eq3.false c.if-w-gt-MAX_SIDE.true

pub returns-then-h-gt-MAX_SIDE : goal.returns-then-h-gt-MAX_SIDE
returns-then-h-gt-MAX_SIDE c = first-high _ _ _ _ c.if-sizes-eq3.false c.if-h-gt-MAX_SIDE.true

pub returns : goal.returns
returns c = first_part _ _ _ _ c.if-sizes-eq3.false _ _ _ _ c.min-p.ensures c.min-l.ensures c.min-n.ensures c.check-2.ensures
