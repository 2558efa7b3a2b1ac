use Rattle.std.proofs.Common.{◌≡◌, true, arith, rules}
use Rattle.panel_console.proofs.Sessions.{session-printed, session-written}
use Rattle.panel_console.proofs.reads.answer_all.Goals as goal

pub returns-clause-whole : goal.returns-clause-whole
returns-clause-whole g c =
    let s = c.answer_reads-s in
    let sound : s.result.sound ≡ true = search rules in
    record {
      closed = record { ends = λ e f. s.ensures.closed.ends e sound; bound = s.ensures.closed.bound };
      printed = λ all. session-printed _ _ _ _ _ _ _ _ _ _ s.result.heard s.result.said _ _ _ c.begin-t.ensures (s.ensures.heard sound) c.answer_held-at.ensures (omega arith) all c.wrapping_add_u64-said.ensures.value;
    }

pub returns-clause-printed : goal.returns-clause-printed
returns-clause-printed g c =
    λ all end.
    let s = c.answer_reads-s in
    let sound : s.result.sound ≡ true = search rules in
    session-written _ _ _ _ _ _ _ _ _ _ s.result.heard s.result.said _ c.send-sent.result.n _ _ _ _ _ c.begin-t.ensures (s.ensures.streamed sound) (s.ensures.ended end sound) c.answer_held-at.ensures (omega arith) all c.send-sent.ensures.bytes
