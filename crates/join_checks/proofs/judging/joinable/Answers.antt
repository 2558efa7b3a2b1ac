-- `joinable`: the sheets, the lent ones, the length of the joined palette. Assumes nothing.
use Rattle.join_model.proofs.Judging.{join_first, join-second, join-lent, join-lent2, join-long, join-short, listed-few}
use native.Mathlib.Omega.{arith}
use Rattle.join_checks.proofs.judging.joinable.Goals as goal

pub returns-then-no-ne0 : goal.returns-then-no-ne0
returns-then-no-ne0 c = join_first _ _ _ _ _ _ _ c.check_marked-no.ensures c.if-no-ne0.true

pub returns-then-no2-ne0 : goal.returns-then-no2-ne0
returns-then-no2-ne0 c = join-second _ _ _ _ _ _ c.check_marked-no.ensures c.if-no-ne0.false _ c.check_marked-no2.ensures c.if-no2-ne0.true

pub returns-then-lent-ne0 : goal.returns-then-lent-ne0
returns-then-lent-ne0 c = join-lent _ _ _ _ _ _ c.check_marked-no.ensures c.if-no-ne0.false c.check_marked-no2.ensures c.if-no2-ne0.false _ c.lent_no-lent.ensures c.if-lent-ne0.true

pub returns-then-lent2-ne0 : goal.returns-then-lent2-ne0
returns-then-lent2-ne0 c = join-lent2 _ _ _ _ _ _ c.check_marked-no.ensures c.if-no-ne0.false c.check_marked-no2.ensures c.if-no2-ne0.false c.lent_no-lent.ensures c.if-lent-ne0.false _ c.lent_no-lent2.ensures c.if-lent2-ne0.true

pub overflow_add-k : goal.overflow_add-k
overflow_add-k c =
    let f = c.check_marked-no.ensures.fine c.if-no-ne0.false in
    let s = c.check_marked-no2.ensures.fine c.if-no2-ne0.false in
    omega (arith, f.formed.limits.k-small, listed-few _ _ _ _ f s c.find_news-n.ensures)

pub returns-then-k-n-gt-MAX_ENTRIES : goal.returns-then-k-n-gt-MAX_ENTRIES
returns-then-k-n-gt-MAX_ENTRIES c = join-long _ _ _ _ _ _ c.check_marked-no.ensures c.if-no-ne0.false c.check_marked-no2.ensures c.if-no2-ne0.false c.lent_no-lent.ensures c.if-lent-ne0.false c.lent_no-lent2.ensures c.if-lent2-ne0.false c.find_news-n.ensures c.if-k-n-gt-MAX_ENTRIES.true

pub returns : goal.returns
returns c = join-short _ _ _ _ _ _ c.check_marked-no.ensures c.if-no-ne0.false c.check_marked-no2.ensures c.if-no2-ne0.false c.lent_no-lent.ensures c.if-lent-ne0.false c.lent_no-lent2.ensures c.if-lent2-ne0.false c.find_news-n.ensures c.if-k-n-gt-MAX_ENTRIES.false
