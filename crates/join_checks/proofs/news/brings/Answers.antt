-- `brings`: the colour is looked for in the first palette, then in what stands before it in the second. Assumes nothing.
use Rattle.join_model.proofs.Bringing.{brings-first, brings-before, brings-new}
use native.Mathlib.Omega.{arith}
use Rattle.join_checks.proofs.news.brings.Goals as goal

pub returns-then-find-k : goal.returns-then-find-k
returns-then-find-k c =
    brings-first _ _ _ _ c.rgb_at-c.ensures _ _ c.requires.0
    c.find.ensures.0 c.if-find-k.true

pub returns-then-find-i : goal.returns-then-find-i
returns-then-find-i c =
    brings-before _ _ _ _ c.rgb_at-c.ensures _ (omega arith)
    c.find-2.ensures.0 c.if-find-i.true

pub returns : goal.returns
returns c =
    brings-new _ _ _ _ c.rgb_at-c.ensures _ _ _ c.requires.0 c.find.ensures.0
    c.if-find-k.false (omega arith) c.find-2.ensures.0 c.if-find-i.false
