-- `put_difference`: by the test. Assumes nothing.
use Rattle.change_list.proofs.Rows.{put-alike, put_other}
use Rattle.change_list.proofs.between.put_difference.Goals as goal

pub returns-then-old-new : goal.returns-then-old-new
returns-then-old-new c = put-alike _ _ _ _ _ c.if-old-new.true

pub returns : goal.returns
returns c = put_other _ _ _ _ _ c.if-old-new.false c.requires.m_in_bounds
