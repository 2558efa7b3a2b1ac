-- `find::find_in` meets its contract: by kinds, in the order of the definition. Assumes nothing.
use mathlib.Core.Path.{sym, ◌∙◌}
use Rattle.journal_record.proofs.Finding.{found_none, found-pixels, found-set, found_add, found-remove, found-lock, found-other}
use Rattle.journal_find.proofs.find.find_in.Goals as goal

pub returns-then-bytes-lt-LEAST : goal.returns-then-bytes-lt-LEAST
returns-then-bytes-lt-LEAST c w = found_none _ w _ _ c.if-bytes-lt-LEAST.true

pub returns-then-kind-pixels_kind : goal.returns-then-kind-pixels_kind
returns-then-kind-pixels_kind c w = c.counted.ensures ∙ found-pixels _ w _ _ (c.if-kind-pixels_kind.true ∙ c.pixels_kind.ensures)

pub returns-then-kind-eq2 : goal.returns-then-kind-eq2
returns-then-kind-eq2 c w = c.closed.ensures ∙ found-set _ w _ _ c.if-kind-eq2.true

pub returns-then-kind-eq3 : goal.returns-then-kind-eq3
returns-then-kind-eq3 c w = c.closed-then-kind-eq3.ensures ∙ found_add _ w _ _ c.if-kind-eq3.true

pub returns-then-kind-remove_kind : goal.returns-then-kind-remove_kind
returns-then-kind-remove_kind c w = c.counted-then-kind-remove_kind.ensures ∙ found-remove _ w _ _ (c.if-kind-remove_kind.true ∙ c.remove_kind.ensures)

pub returns-then-kind-eq5 : goal.returns-then-kind-eq5
returns-then-kind-eq5 c w = c.locked.ensures ∙ found-lock _ w _ _ c.if-kind-eq5.true

pub returns : goal.returns
returns c w =
    found-other _ w _ _
    (λ e. c.if-kind-pixels_kind.false (e ∙ sym c.pixels_kind.ensures))
    c.if-kind-eq2.false
    c.if-kind-eq3.false
    (λ e. c.if-kind-remove_kind.false (e ∙ sym c.remove_kind.ensures))
    c.if-kind-eq5.false
