-- `call::convert`: the checks in order, then what both sizes say. Assumes nothing.
use mathlib.Core.Path.{sym, ◌∙◌}
use native.Mathlib.Omega.{arith}
use lib.ListN.{length}
use Rattle.history_convert.proofs.Converting.{entered}
use Rattle.history_convert.proofs.Calling.{sized, rewritable, sizes-fit, leaves-is, answer-entry, answer-damaged, answer-full, answer-done}
use Rattle.history_convert.proofs.call.convert.Goals as goal

pub returns-then-no-ne0 : goal.returns-then-no-ne0
returns-then-no-ne0 c =
    let a = c.args in
    leaves-is c.refused.result _ _ _ c.refused.ensures.0 c.refused.ensures.1 ∙ answer-entry a.from a.w a.h a.journal.now a.handle a.out.now _ c.entry_no-no.ensures c.if-no-ne0.true

pub measure_used-requires : goal.measure_used-requires
measure_used-requires c =
    let a = c.args in
    let e = entered a.w a.h (length a.journal.now) (length a.out.now) a.handle (sym c.entry_no-no.ensures ∙ c.if-no-ne0.false) in
    record { w_bound = (e.narrow, e.low, e.journal-fits); handle_value = e.is-sound }

pub overflow_add-end : goal.overflow_add-end
overflow_add-end c =
    let a = c.args in
    let e = entered a.w a.h (length a.journal.now) (length a.out.now) a.handle (sym c.entry_no-no.ensures ∙ c.if-no-ne0.false) in
    let s = sized a.from a.w a.h a.journal.now a.handle _ (sym c.measure_used.ensures ∙ c.in-Some.is) in
    omega (arith, sizes-fit a.from a.w a.h a.journal.now a.handle _ _ s e.is-sound, e.journal-fits)

pub returns-then-out-end : goal.returns-then-out-end
returns-then-out-end c =
    let a = c.args in
    let e = entered a.w a.h (length a.journal.now) (length a.out.now) a.handle (sym c.entry_no-no.ensures ∙ c.if-no-ne0.false) in
    let s = sized a.from a.w a.h a.journal.now a.handle _ (sym c.measure_used.ensures ∙ c.in-Some.is) in
    leaves-is c.refused-then-out-end.result _ _ _ c.refused-then-out-end.ensures.0 c.refused-then-out-end.ensures.1 ∙ answer-full a.from a.w a.h a.journal.now a.handle a.out.now _ c.entry_no-no.ensures c.if-no-ne0.false _ _ s c.if-out-end.true

pub write_used-requires : goal.write_used-requires
write_used-requires c =
    let a = c.args in
    let e = entered a.w a.h (length a.journal.now) (length a.out.now) a.handle (sym c.entry_no-no.ensures ∙ c.if-no-ne0.false) in
    let s = sized a.from a.w a.h a.journal.now a.handle _ (sym c.measure_used.ensures ∙ c.in-Some.is) in
    record { w_bound = (e.narrow, e.journal-fits); handle_value = e.is-sound; rewritable = rewritable a.from a.w a.h a.journal.now a.handle _ _ (length a.out.now) s c.if-out-end.false }

pub returns : goal.returns
returns c =
    let a = c.args in
    let e = entered a.w a.h (length a.journal.now) (length a.out.now) a.handle (sym c.entry_no-no.ensures ∙ c.if-no-ne0.false) in
    let s = sized a.from a.w a.h a.journal.now a.handle _ (sym c.measure_used.ensures ∙ c.in-Some.is) in
    leaves-is c.done.result _ _ _ c.done.ensures.0 c.done.ensures.1
    ∙ answer-done a.from a.w a.h a.journal.now a.handle a.out.now _ c.entry_no-no.ensures c.if-no-ne0.false _ _ s c.if-out-end.false _ (c.write_used.ensures s.used s.reads)

pub returns-in_default : goal.returns-in_default
returns-in_default c =
    let a = c.args in
    leaves-is c.refused-in_default.result _ _ _ c.refused-in_default.ensures.0 c.refused-in_default.ensures.1
    ∙ answer-damaged a.from a.w a.h a.journal.now a.handle a.out.now _ c.entry_no-no.ensures c.if-no-ne0.false (sym c.measure_used.ensures ∙ c.in_default.is)
