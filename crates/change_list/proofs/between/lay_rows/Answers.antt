-- `lay_rows`: the part that is lent holds the rows. Assumes nothing.
use Rattle.change_list.proofs.Parts.{rows-laid}
use Rattle.change_list.proofs.between.lay_rows.Goals as goal

pub returns : goal.returns
returns c =
    rows-laid _ _ _ c.args.indices.now _ c.requires _ c.lay.ensures.scratch_after_2 c.lay.auto.scratch
