-- `any_stray`: the flag and what is left say what the whole list says. Assumes nothing.
use mathlib.Core.Path.{sym, ◌∙◌}
use Rattle.base.proofs.Scan.{flag-step, flag-end}
use Rattle.base.proofs.Nowhere.{some-map}
use Rattle.sheet.specs.Sheet.{stray}
use Rattle.panel_frames.specs.Reading.{index_of}
use Rattle.panel_read.proofs.opening.any_stray.Goals as goal

pub loop-b-preserved : goal.loop-b-preserved
loop-b-preserved c = flag-step 0 c.loop-b.invariant c.loop-b-test.true c.is_stray.ensures c.either-bad.ensures

pub returns : goal.returns
returns c = flag-end c.loop-b.invariant c.loop-b-test.false ∙ sym (some-map index_of (stray c.args.k) c.args.bytes.now)
