-- `normalize_packed`: 21 and 16; then the numbers, normalised. Assumes nothing.
use Rattle.struct_stroke.proofs.Packed.{first-long, first_short, first_done}
use Rattle.struct_stroke.proofs.op.normalize_packed.Goals as goal

pub returns-then-n-gt-MAX_CHANGES : goal.returns-then-n-gt-MAX_CHANGES
returns-then-n-gt-MAX_CHANGES c list e q = first-long _ list _ _ e q c.if-n-gt-MAX_CHANGES.true

pub returns-then-flat-n : goal.returns-then-flat-n
returns-then-flat-n c list e q = first_short _ list _ _ e q c.if-n-gt-MAX_CHANGES.false c.if-flat-n.true

pub returns : goal.returns
returns c list e q = first_done _ list _ _ e q c.if-n-gt-MAX_CHANGES.false c.if-flat-n.false c.normalize_in.ensures.in_scratch
