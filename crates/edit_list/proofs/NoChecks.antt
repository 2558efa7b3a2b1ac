-- A list without checks. Assumes nothing.
use mathlib.Core.Path.{◌≡◌, refl}
use mathlib.Core.List.{List, [], ◌∷◌, flat_map}
use Rattle.base.specs.Checks.{first_of}

pub no-checks : {A : Type 0} (cs : List A) → first_of (flat_map (λ (c : A). []) cs) ≡ 0
unfolding flat_map first_of
no-checks [] = refl
no-checks (c ∷ cs) = no-checks cs
