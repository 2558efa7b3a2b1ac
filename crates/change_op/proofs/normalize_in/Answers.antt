-- `normalize_in`: 21 and 16; then the normal form, left in the scratch. Assumes nothing.
use Rattle.change_list.proofs.Fronts.{front-within}
use Rattle.change_list.proofs.InScratch.{scratch-none, scratch-then}
use Rattle.change_op.proofs.Normalizing.{normalize-long, normalize-short, normalize-done}
use Rattle.change_op.proofs.normalize_in.Goals as goal

pub returns-then-list-gt-MAX_CHANGES-clause-in_scratch : goal.returns-then-list-gt-MAX_CHANGES-clause-in_scratch
returns-then-list-gt-MAX_CHANGES-clause-in_scratch c = scratch-none (λ out e. normalize-long _ _ out c.if-list-gt-MAX_CHANGES.true)

pub returns-then-scratch-list-clause-in_scratch : goal.returns-then-scratch-list-clause-in_scratch
returns-then-scratch-list-clause-in_scratch c = scratch-none (λ out e. normalize-short _ _ out c.if-list-gt-MAX_CHANGES.false c.if-scratch-list.true)

pub returns-clause-in_scratch : goal.returns-clause-in_scratch
returns-clause-in_scratch c =
    let f = c.normalize_in-n.ensures in
    scratch-then (c.counted.ensures _ (front-within f)) (λ out after e d. normalize-done _ _ out c.if-list-gt-MAX_CHANGES.false c.if-scratch-list.false f d)
