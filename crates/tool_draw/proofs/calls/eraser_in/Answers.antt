-- `eraser_in`: the pencil with -1. Assumes nothing.
use Rattle.tool_draw.specs.Calls.{eraser_call}
use Rattle.change_list.proofs.InScratch.{scratch-then}
use borrow.Author.Rules.{rules}
use Rattle.tool_draw.proofs.calls.eraser_in.Goals as goal

pub returns : goal.returns
unfolding eraser_call
returns c = let p = c.pencil_in.ensures in record { fact = scratch-then p.fact (λ out after e d. d); scratch_len_unchanged = p.scratch_len_unchanged }
