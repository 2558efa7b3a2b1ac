use Rattle.std.proofs.Common.{◌≡◌, length, arith}
use Rattle.panel_calls.specs.Panel.{step_of}
use Rattle.panel_streams.proofs.Writing.{writing-none, writing-next, writing-answered, writing-all}
use Rattle.panel_chunk.proofs.answer_chunk.Goals as goal

pub loop-from-init : goal.loop-from-init
loop-from-init g c = record { fits = c.requires.fits; holds = c.requires.holds.0; room = c.requires.holds.1; written = writing-none step_of _ _ c.args.chunk.now _ }

pub loop-from-preserved : goal.loop-from-preserved
loop-from-preserved g c =
    let p = c.pour-p in
    let sent = c.send-sent in
    let l = c.loop-from in
    let onward = p.ensures.holds_2.1 in
    let room : length p.new.out ≡ 65536 = omega arith in
    record {
      fits = p.ensures.fits_2;
      holds = p.ensures.holds_2.0;
      room = room;
      written = writing-next step_of _ _ _ _ _ l.said l.from _ _ l.invariant.written _ _ p.new.out p.result.next p.result.turn.at sent.result.n _ (onward.some (omega arith)) onward.inside onward.fits p.ensures.chunk_after (omega (arith, onward.fits)) (omega (arith, sent.ensures.sends.fits)) (omega arith) sent.ensures.bytes;
    }

pub returns-clause-answered : goal.returns-clause-answered
returns-clause-answered g c = λ _. writing-answered step_of _ _ _ _ _ c.loop-from.said c.loop-from.from _ _ c.loop-from.invariant.written (omega arith)

pub returns-clause-written : goal.returns-clause-written
returns-clause-written g c = λ _. writing-all step_of _ _ _ _ _ c.loop-from.said c.loop-from.from _ _ c.loop-from.invariant.written (omega arith)
