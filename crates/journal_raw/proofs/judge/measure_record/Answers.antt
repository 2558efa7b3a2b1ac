-- `judge::measure_record`: what was found is the record that lies there. Assumes nothing.
use native.Mathlib.Nat.{mul-le-mul}
use Rattle.journal_raw.proofs.Laying.{lies, unfound, none-measured, off-measured, on-measured}
use Rattle.journal_raw.specs.Raw.{other}
use Rattle.journal_record.proofs.Strides.{stride-least}
use native.Mathlib.Omega.{arith}
use mathlib.Core.Path.{sym, ◌∙◌}
use Rattle.journal_raw.proofs.judge.measure_record.Goals as goal

pub any_outside_in-requires : goal.any_outside_in-requires
any_outside_in-requires c =
    let a = c.args in
    let l = lies a.form a.w a.bytes.now a.at c.requires.at_in_bounds.0 _ _ _ _ (sym (c.find_forth-found.ensures a.w) ∙ c.in-Record.is) in
    (omega (arith, mul-le-mul c.requires.w_bound.0 c.requires.w_bound.1), rw c.head_length.ensures.0 (omega (arith, l.length-is, l.within)))

pub returns-then-any_outside_in : goal.returns-then-any_outside_in
returns-then-any_outside_in c =
    let a = c.args in
    let l = lies a.form a.w a.bytes.now a.at c.requires.at_in_bounds.0 _ _ _ _ (sym (c.find_forth-found.ensures a.w) ∙ c.in-Record.is) in
    off-measured a.form (other a.form) a.w a.h a.bytes.now a.at _ _ _ l _ _ c.head_length.ensures.0 c.any_outside_in.ensures c.if-any_outside_in.true

pub record_size-size-requires : goal.record_size-size-requires
record_size-size-requires c =
    let a = c.args in
    let l = lies a.form a.w a.bytes.now a.at c.requires.at_in_bounds.0 _ _ _ _ (sym (c.find_forth-found.ensures a.w) ∙ c.in-Record.is) in
    omega (arith, stride-least a.form c.in-Record.count, l.length-is, l.within)

pub returns-else-any_outside_in : goal.returns-else-any_outside_in
returns-else-any_outside_in c =
    let a = c.args in
    let l = lies a.form a.w a.bytes.now a.at c.requires.at_in_bounds.0 _ _ _ _ (sym (c.find_forth-found.ensures a.w) ∙ c.in-Record.is) in
    on-measured a.form (other a.form) a.w a.h a.bytes.now a.at _ _ _ l _ _ c.head_length.ensures.0 c.any_outside_in.ensures c.if-any_outside_in.false _ _ c.other.ensures c.record_size-size.ensures.0

pub returns-in-Unsound : goal.returns-in-Unsound
returns-in-Unsound c =
    let a = c.args in
    none-measured a.form (other a.form) a.w a.h a.bytes.now a.at
    (unfound a.form a.w a.bytes.now a.at c.requires.at_in_bounds.0 (sym (c.find_forth-found.ensures a.w) ∙ c.in-Unsound.is))
