-- `find_news`: those of the first i entries that bring a colour are listed so far. Assumes nothing.
use mathlib.Core.Path.{sym, ◌∙◌}
use native.Mathlib.Omega.{arith}
use borrow.Author.Rules.{rules}
use Rattle.join_model.proofs.Bringing.{found_none, found-new, found-old}
use Rattle.join_checks.proofs.news.find_news.Goals as goal
use Rattle.join_checks.proofs.news.find_news.Goals.{then-brings, else-brings}

pub loop-i-init : goal.loop-i-init
loop-i-init c = (omega arith, omega arith, found_none _ _ _)

pub loop-i-preserved : goal.loop-i-preserved
loop-i-preserved c =
    let f = c.loop-i.invariant.2 in
    let t = c.brings.ensures in
    elim c.if-brings.branch [
      | then-brings w ↦
          (omega arith, rw w.news-is (search rules), rw (w.news-is, w.n-is) (found-new _ _ c.loop-i.i f (sym t ∙ w.if-brings.true) (omega arith)))
      | else-brings w ↦
          (omega arith, rw w.news-is c.loop-i.invariant.1, rw (w.news-is, w.n-is) (found-old _ _ c.loop-i.i f (sym t ∙ w.if-brings.false)))
    ]
