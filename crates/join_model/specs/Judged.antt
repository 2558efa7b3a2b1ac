-- What is known of `join` before a lent byte is written: its number, and what 0 means. Definitions only. Assumes
-- nothing.
use Rattle.std.specs.Prelude.{◌≡◌, Bool, List, ℕ, ◌+◌, ◌*◌, ◌≤◌, take}
use Rattle.base.specs.Checks.{first_of}
use Rattle.sheet.specs.Sheet.{Sheet}
use Rattle.sheet.specs.Checks.{Marked}
use Rattle.sheet_lent.specs.Lent.{Lent, LentFits}
use Rattle.join_model.specs.News.{news_of, Found}
use Rattle.join_model.specs.Join.{join_checks}

-- the entries of the second sheet that bring a colour to the first
abbrev pub brought_of : Sheet → Sheet → List ℕ
brought_of a b = news_of (take (3 * a.k) a.palette) b.palette b.k

-- both sheets and both lent ones are as they must be, and the n entries that bring a colour are listed over `before`
pub record Joinable (a : Sheet) (locks : List Bool) (b : Sheet) (locks2 : List Bool) (x y : Lent)
    (before after : List ℕ) (n : ℕ) : Type 0 where
  pub first : Marked a locks
  pub second : Marked b locks2
  pub lent : LentFits a.w a.h x
  pub lent2 : LentFits b.w b.h y
  pub news : Found (brought_of a b) before after n
  pub short : a.k + n ≤ 255

pub record JoinJudged (a : Sheet) (locks : List Bool) (b : Sheet) (locks2 : List Bool) (x y : Lent)
    (before after : List ℕ) (no n : ℕ) : Type 0 where
  pub value : no ≡ first_of (join_checks a locks b locks2 x y)
  pub fine : no ≡ 0 → Joinable a locks b locks2 x y before after n
