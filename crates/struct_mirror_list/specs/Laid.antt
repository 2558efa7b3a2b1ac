-- What `mirror_tiles` over change structs reads and leaves. A touched list is packed into a lent buffer and its result left in the scratch; a list
-- that is handed back untouched is copied struct by struct, and needs neither. Definitions only. Assumes nothing.
use Rattle.std.specs.Prelude.{ℕ, ◌≤◌, ◌≡◌, Bool, cond, List, length, take}
use Rattle.base.specs.Answer.{Filled}
use Rattle.base.specs.declared.Counted.{Counted}
use Rattle.base.specs.Lists.{over}
use Rattle.change_list.specs.Listed.{count_of}

-- how many changes of n are packed
abbrev pub read_of : Bool → ℕ → ℕ
read_of touched n = cond touched n 0

-- ---- the result: how many changes come out of the scratch, and how many of the list itself
abbrev pub made_of : Bool → Counted → ℕ
made_of touched r = cond touched (count_of r) 0

abbrev pub kept_of : Bool → Counted → ℕ
kept_of touched r = cond touched 0 (count_of r)

-- both put over the front of any buffer of `room` places, they leave what the call leaves
pub record Laid (made kept room : ℕ) (scratch list : List ℕ) (leaves call : List ℕ → Filled ℕ) : Type 0 where
  pub made-fits : made ≤ room
  pub made_held : made ≤ length scratch
  pub kept-fits : kept ≤ room
  pub kept-held : kept ≤ length list
  pub value : (out : List ℕ) → length out ≡ room → leaves (over (take kept list) (over (take made scratch) out)) ≡ call out
