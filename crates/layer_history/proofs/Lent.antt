-- Sheets lent in one buffer a kind are cut out of the buffers as they were. Assumes nothing.
use mathlib.Core.Path.{◌≡◌, refl, ap, ◌∙◌}
use mathlib.Core.List.{List, [], ◌∷◌, ◌++◌, flat_map, append-nil}
use Prim.Native.Nat.{ℕ, ◌*◌}
use lib.ListN.{length, take, drop}
use lib.Seq.{take_at, drop_at}
use Rattle.base.specs.Limits.{storage}
use Rattle.base.specs.Lists.{All}
use Rattle.sheet.specs.Sheet.{Sheet, sheet_of}
use Rattle.sheet.specs.Checks.{WellFormed}
use Rattle.layer_shown.specs.Layers.{layers_of}
use Rattle.layer_history.specs.Painting.{sizes_of, palettes_of, labs_of, indices_of, lent_layers}

pub cut_again : (sheets : List Sheet) → All WellFormed sheets → lent_layers sheets ≡ sheets
unfolding layers_of sizes_of palettes_of labs_of indices_of All flat_map
cut_again [] a = refl
cut_again (s ∷ []) a = rw (append-nil s.palette, append-nil s.lab, append-nil s.indices)
cut_again (s ∷ t ∷ more) a =
    let f = a.0.limits in
    let p = palettes_of (t ∷ more) in
    let l = labs_of (t ∷ more) in
    let i = indices_of (t ∷ more) in
    rw (
      take_at s.palette p storage f.palette-length,
      take_at s.lab l storage f.lab-length,
      take_at s.indices i (s.w * s.h) f.indices-length,
      drop_at s.palette p storage f.palette-length,
      drop_at s.lab l storage f.lab-length,
      drop_at s.indices i (s.w * s.h) f.indices-length,
    )
    (ap (λ more. s ∷ more) (cut_again (t ∷ more) a.1))
