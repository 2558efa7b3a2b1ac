-- `find_news`: those of the first i entries that bring a colour are listed so far. Assumes nothing.
use mathlib.Core.Path.{◌≡◌}
use Prim.Native.Nat.{◌≤◌}
use lib.ListN.{length}
use Rattle.join_model.specs.News.{news_of, Found}
use Rattle.join_checks.proofs.news.find_news.Given as goal

abbrev pub invariant-loop-i : goal.invariant-loop-i
invariant-loop-i l = (l.n ≤ l.i) × (length l.news ≡ 255) × Found (news_of l.first l.second l.i) l.initial.news l.news l.n
