-- `rewrite::write_record`: what was found is the record that lies there. Assumes nothing.
use Rattle.journal_raw.proofs.Laying.{lies, unfound, ready, wrote, not-both}
use Rattle.journal_raw.specs.Raw.{other}
use lib.ListN.{length}
use mathlib.Core.Path.{sym, ◌∙◌}
use Rattle.journal_raw.proofs.rewrite.write_record.Goals as goal

pub put_record-size-requires : goal.put_record-size-requires
put_record-size-requires c =
    let a = c.args in
    let l = lies a.form a.w a.bytes.now a.at c.requires.w_bound.1 _ _ _ _ (sym (c.find_forth-found.ensures a.w) ∙ c.in-Record.is) in
    let r = ready a.form (other a.form) a.w a.bytes.now a.at _ _ _ l a.to (length a.out.now) c.requires.w_bound.2 c.requires.by_index in
    record { fact = (r.wide, c.requires.w_bound.0, r.few); count_in_bounds = r.from; count_in_bounds_2 = r.roomy; count_bound = r.fits }

pub returns-in-Record : goal.returns-in-Record
returns-in-Record c =
    let a = c.args in
    let l = lies a.form a.w a.bytes.now a.at c.requires.w_bound.1 _ _ _ _ (sym (c.find_forth-found.ensures a.w) ∙ c.in-Record.is) in
    wrote a.form (other a.form) a.w a.bytes.now a.at _ _ _ l _ a.out.now _ a.to c.put_record-size.ensures

pub returns-in-Unsound : goal.returns-in-Unsound
returns-in-Unsound c =
    let a = c.args in
    λ m r e. not-both _ (m, r) (unfound a.form a.w a.bytes.now a.at c.requires.w_bound.1 (sym (c.find_forth-found.ensures a.w) ∙ c.in-Unsound.is)) e
