-- "Ends in a well-formed sheet" looks at the picture in the end: of two olds at one place the last counts. Assumes nothing.
use mathlib.Core.Path.{◌≡◌, refl}
use mathlib.Core.Bool.{true, false}
use mathlib.Core.List.{[], ◌∷◌}
use lib.IntN.{pos}
use Rattle.base.specs.Lists.{some}
use Rattle.sheet.specs.Sheet.{stray}
use Rattle.edit.specs.Change.{Change, place, painted, old_of}

-- changes of the only pixel of a sheet with one entry, whose olds are the entry and none
abbrev good : Change
good = record { x = 0; y = 0; old = pos 0; new = pos 0 }

abbrev bad : Change
bad = record { x = 0; y = 0; old = pos 7; new = pos 0 }

pub bad-then-good : some (stray 1) (painted old_of 1 (bad ∷ good ∷ []) (pos 0 ∷ [])) ≡ false
unfolding some stray painted place
bad-then-good = refl

pub good-then-bad : some (stray 1) (painted old_of 1 (good ∷ bad ∷ []) (pos 0 ∷ [])) ≡ true
unfolding some stray painted place
good-then-bad = refl
