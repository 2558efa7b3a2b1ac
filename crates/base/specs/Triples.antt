-- "Palette storage is 765 bytes, LAB storage 765 doubles": three of them an entry. Definitions only. Assumes nothing.
use Rattle.std.specs.Prelude.{ℕ, ◌+◌, ◌*◌, List, Float, get_or, set}
use Rattle.std.specs.Float.{nan}
use Rattle.base.specs.declared.Rgb.{Rgb}
use Rattle.base.specs.declared.Lab.{Lab}

-- entry i of a palette
unfoldable pub rgb_at : List ℕ → ℕ → Rgb
rgb_at palette i = record { r = get_or palette (3 * i) 0; g = get_or palette (3 * i + 1) 0; b = get_or palette (3 * i + 2) 0 }

-- entry i of the LAB storage, and that storage with entry i set
unfoldable pub lab_at : List Float → ℕ → Lab
lab_at lab i = record { l = get_or lab (3 * i) nan; a = get_or lab (3 * i + 1) nan; b = get_or lab (3 * i + 2) nan }

unfoldable pub with_lab : List Float → ℕ → Lab → List Float
with_lab lab i x = set (set (set lab (3 * i) x.l) (3 * i + 1) x.a) (3 * i + 2) x.b
