-- What number 3 asks of LAB numbers. Definitions only. Assumes nothing.
use Rattle.std.specs.Prelude.{Bool, not, ◌||◌, Float}
use Rattle.std.specs.Float.Ieee.Scale.{finite}
use Rattle.base.specs.declared.Lab.{Lab}

-- "LAB number not finite"
unfoldable pub unfit : Float → Bool
unfit x = not (finite x)

unfoldable pub unfit_triple : Lab → Bool
unfit_triple p = unfit p.l || unfit p.a || unfit p.b
