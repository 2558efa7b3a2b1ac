-- What a check that marks leaves. Definitions only. Assumes nothing.
use Rattle.std.specs.Prelude.{◌≡◌, List, ℕ, zero, suc, take, replicate}
use Rattle.edit.specs.Change.{Change}
use Rattle.edit_pixels.specs.Inside.{Marks}

-- what is done where no check applies, a number of 0, and what stays where one does
abbrev pub when_none : {A : Type 0} → ℕ → A → A → A
when_none zero a b = a
when_none (suc n) a b = b

-- the places of a list marked in the first m bytes of a scratch, where those were clear
abbrev pub MarkedFrom : ℕ → List Change → ℕ → List ℕ → List ℕ → Type 0
MarkedFrom w cs m before after = take m before ≡ replicate m 0 → Marks w cs (take m after)
