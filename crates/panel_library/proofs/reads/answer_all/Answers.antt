use Rattle.std.proofs.Common.{◌≡◌, true, arith, rules}
use Rattle.panel_library.proofs.Printed.{run-printed, run-written}
use Rattle.panel_library.proofs.reads.answer_all.Goals as goal

pub returns-clause-whole : goal.returns-clause-whole
returns-clause-whole g c =
    let s = c.answer_reads-s in
    let sound : s.result.sound ≡ true = search rules in
    record {
      closed = record { held = s.ensures.closed.held; ends = λ e f. s.ensures.closed.ends e sound; bound = s.ensures.closed.bound };
      printed = λ all. run-printed _ _ s.result.heard s.result.said _ _ _ (s.ensures.heard sound) c.answer_held-n.ensures (omega arith) all c.wrapping_add_u64-said.ensures.value;
    }

pub returns-clause-printed : goal.returns-clause-printed
returns-clause-printed g c =
    λ all end.
    let s = c.answer_reads-s in
    let sound : s.result.sound ≡ true = search rules in
    run-written _ _ s.result.heard s.result.said _ c.send-sent.result.n _ _ _ _ _ (s.ensures.streamed sound) (s.ensures.ended end sound) c.answer_held-n.ensures (omega arith) all c.send-sent.ensures.bytes
