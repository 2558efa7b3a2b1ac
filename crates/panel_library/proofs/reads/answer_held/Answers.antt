use Rattle.std.proofs.Common.{arith}
use Rattle.panel_library.proofs.Texts.{some-held, none-held}
use Rattle.panel_library.proofs.reads.answer_held.Goals as goal

pub returns-then-len-gt0 : goal.returns-then-len-gt0
returns-then-len-gt0 c = some-held c.args.line.now _ _ c.args.len (omega arith) (omega arith) c.respell.ensures

pub returns : goal.returns
returns c = none-held c.args.line.now c.args.text.now c.args.len (omega arith)
