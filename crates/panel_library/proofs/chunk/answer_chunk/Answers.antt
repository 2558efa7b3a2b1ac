use Rattle.std.proofs.Common.{◌≡◌, ◌+◌, length, arith}
use Rattle.panel_streams.proofs.Writing.{writing-none, writing-next, writing-answered, writing-all}
use Rattle.panel_library.specs.Texts.{step_of}
use Rattle.panel_library.proofs.Texts.{byte_more}
use Rattle.panel_library.proofs.chunk.answer_chunk.Goals as goal

pub loop-byte-init : goal.loop-byte-init
loop-byte-init g c = record { few = c.requires.len_bound.0; room = c.requires.len_bound.1; space = c.requires.len_bound.2; written = writing-none step_of tt _ c.args.chunk.now _ }

pub loop-byte-preserved : goal.loop-byte-preserved
loop-byte-preserved g c =
    let t = c.take_byte-t in
    let sent = c.send-sent in
    let l = c.loop-byte in
    let space : length t.new.text ≡ 9735 = omega arith in
    record {
      few = omega arith;
      room = omega arith;
      space = space;
      written = writing-next step_of tt _ _ tt _ l.said l.byte-index _ _ l.invariant.written tt _ t.new.text (l.byte-index + 1) t.result.n sent.result.n _ (omega arith) (omega arith) (omega arith) (byte_more _ _ t.new.text c.args.chunk.now t.result.n l.byte-index (omega arith) t.ensures.text_after) (omega arith) (omega (arith, sent.ensures.sends.fits)) (omega arith) sent.ensures.bytes;
    }

pub returns-clause-answered : goal.returns-clause-answered
returns-clause-answered g c = λ _. writing-answered step_of tt _ _ tt _ c.loop-byte.said c.loop-byte.byte-index _ _ c.loop-byte.invariant.written (omega arith)

pub returns-clause-written : goal.returns-clause-written
returns-clause-written g c = λ _. writing-all step_of tt _ _ tt _ c.loop-byte.said c.loop-byte.byte-index _ _ c.loop-byte.invariant.written (omega arith)
