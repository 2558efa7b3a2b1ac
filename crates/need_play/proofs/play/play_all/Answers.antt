-- `play_all`: what was played so far, and what is left, give what the whole session gives. Assumes nothing.
use Rattle.color_curve.specs.Curve.{srgb}
use Rattle.history_ledger.specs.Algebra.{WellFormedIn}
use Rattle.history_model.specs.Document.{document_of}
use Rattle.history_model.specs.Editing.{editing_by}
use Rattle.need_play.proofs.Session.{going_start, going_end, full-on, next-on, stopped-at, sheet-typed}
use Rattle.need_play.proofs.play.play_all.Goals as goal
use Rattle.need_play.proofs.play.play_all.Goals.{After-fresh-handle}

-- the opening sheet
fits : (c : After-fresh-handle) → let a = c.args in WellFormedIn (editing_by a.form srgb) (document_of a.w a.h a.k a.palette.now a.lab.now a.indices.now a.locks.now)
fits c =
    let t = sheet-typed _ _ c.type_inv.palette c.type_inv.lab in
    record { typed = record { palette = t.0; lab = t.1 }; passes = c.requires.fine }

pub loop-at-init : goal.loop-at-init
loop-at-init c =
    rw c.fresh-handle.ensures (going_start _ _ _ _ _ (fits c) c.requires.permitted c.requires.roomy)

pub returns-then-is_full : goal.returns-then-is_full
returns-then-is_full c =
    stopped-at (full-on _ _ _ _ _ (fits (goal.at.returns-then-is_full c).After-fresh-handle) c.requires.permitted c.requires.roomy c.loop-at.invariant c.loop-at-test.true _ c.line_end-end.ensures.0 c.loop-at.auto.scratch _ c.play_line-m.ensures _ c.is_full.ensures c.if-is_full.true)

pub loop-at-preserved : goal.loop-at-preserved
loop-at-preserved c =
    next-on _ _ _ _ _ (fits (goal.at.loop-at-preserved c).After-fresh-handle) c.requires.permitted c.requires.roomy c.loop-at.invariant c.loop-at-test.true _ c.line_end-end.ensures.0 c.loop-at.auto.scratch _ c.play_line-m.ensures _ c.is_full.ensures c.if-is_full.false _ _ c.next_line-at.ensures.0 c.max-need.ensures

pub returns : goal.returns
returns c = going_end _ _ _ _ _ (fits (goal.at.returns c).After-fresh-handle) c.requires.permitted c.requires.roomy c.loop-at.invariant c.loop-at-test.false
