use Rattle.panel_lines.proofs.Hearing.{nothing_read}
use Rattle.panel_streams.proofs.Streaming.{nothing_written}
use Rattle.panel_library.specs.Texts.{step_of}
use Rattle.panel_library.proofs.reads.answer_some.Goals as goal

pub returns-then-n-eq0-clause-answered : goal.returns-then-n-eq0-clause-answered
returns-then-n-eq0-clause-answered g c = λ _. nothing_read step_of _ _

pub returns-then-n-eq0-clause-written : goal.returns-then-n-eq0-clause-written
returns-then-n-eq0-clause-written g c = λ _. nothing_written step_of _ _ _
