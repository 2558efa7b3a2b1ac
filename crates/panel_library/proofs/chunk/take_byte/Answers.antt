use Rattle.std.proofs.Common.{◌∙◌, arith}
use Rattle.panel_lines.proofs.Feeding.{saying-nil, byte-kept, byte-skipped}
use Rattle.panel_library.specs.Texts.{step_of}
use Rattle.panel_library.proofs.Texts.{byte-ends}
use Rattle.panel_library.proofs.chunk.take_byte.Goals as goal

pub returns-then-b-eq10-clause-text_after : goal.returns-then-b-eq10-clause-text_after
returns-then-b-eq10-clause-text_after c = byte-ends _ c.args.line.now _ _ _ c.respell-n.ensures c.if-b-eq10.true

pub returns-then-len-lt-HELD-clause-text_after : goal.returns-then-len-lt-HELD-clause-text_after
returns-then-len-lt-HELD-clause-text_after c = let a = c.args in byte-kept step_of tt a.line.now a.text.now a.len 0 a.b (omega arith) c.if-b-eq10.false (omega arith) ∙ saying-nil _

pub returns-clause-text_after : goal.returns-clause-text_after
returns-clause-text_after c = let a = c.args in byte-skipped step_of tt a.line.now a.text.now a.len 0 a.b (omega arith) c.if-b-eq10.false (omega arith) (omega arith) ∙ saying-nil _
