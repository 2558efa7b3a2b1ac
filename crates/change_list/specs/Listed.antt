-- What a call leaves that returns a list of changes: the answer, and the buffer. Definitions only. Assumes nothing.
use Rattle.std.specs.Prelude.{◌≡◌, ℕ, ◌≤◌, List, [], ◌∷◌, map, ltb, length, take}
use Rattle.base.specs.Numbers.{no_space}
use Rattle.base.specs.Checks.{Check, ◌when◌, checked}
use Rattle.base.specs.Answer.{counted_told, count_told, Filled, leaving}
use Rattle.base.specs.Answer.Told.{result, alone}
use Rattle.base.specs.declared.Counted.{Counted}
use Rattle.base.specs.Lists.{over}
use Rattle.edit.specs.Change.{Change, packed}

-- 16 where the result has more numbers than the buffer has places; else the result, and "past the result" the buffer keeps its bits
unfoldable pub handed : List ℕ → List ℕ → Filled ℕ
handed list buffer =
    checked (no_space when ltb (length buffer) (length list) ∷ []) (λ n. leaving (alone n) buffer)
    (leaving (result (length list)) (over list buffer))

-- a call's checks, and then its list
unfoldable pub listed : List Check → List Change → List ℕ → Filled ℕ
listed checks cs buffer = checked checks (λ n. leaving (alone n) buffer) (handed (map packed cs) buffer)

-- how many changes an answer counts, none where it is a refusal
abbrev pub count_of : Counted → ℕ
count_of answer = count_told (counted_told answer)

-- a result that stands at the front of the scratch, n numbers, for a buffer of `room` places: put over any such buffer, they leave what the call leaves
pub record InScratch {B : Type 0} (n room : ℕ) (scratch : List ℕ) (leaves call : List ℕ → B) : Type 0 where
  pub fits : n ≤ room
  pub held : n ≤ length scratch
  pub value : (out : List ℕ) → length out ≡ room → leaves (over (take n scratch) out) ≡ call out
