-- What `flip` answers, by what its tests find. Assumes nothing.
use mathlib.Core.Path.{◌≡◌}
use mathlib.Core.Bool.{Bool}
use mathlib.Core.List.{List}
use Prim.Native.Nat.{ℕ, ◌*◌, ◌<◌, ◌≤◌}
use borrow.Author.Tests.{lt-ltb, le-ltb, eq-eqb, ne_eqb}
use lib.IntN.{ℤ}
use lib.ListN.{length}
use Rattle.base.specs.Checks.{first_of, refused_or}
use Rattle.base.specs.Answer.{filled}
use Rattle.base.specs.declared.Counted.TheVariants as counted
use Rattle.base.specs.Lists.{over}
use Rattle.tile_cells.specs.Seen.{tile_seen}
use Rattle.tile_cells.proofs.Flipping.{alone-flipped}
use Rattle.tile_flip.specs.Flips.{flip_of}

module _ (t : ℕ) (fh fv : Bool) (tile out : List ℤ) where
  pub flip-wide : 1024 < t → filled (counted.Refused 17) out ≡ flip_of t fh fv tile out
  unfolding flip_of first_of refused_or
  flip-wide a = rw (lt-ltb _ _ a)

  module _ (a : t ≤ 1024) where
    pub flip-odd : (length tile ≡ t * t → ⊥) → filled (counted.Refused 17) out ≡ flip_of t fh fv tile out
    unfolding flip_of first_of refused_or
    flip-odd b = rw (le-ltb _ _ a, ne_eqb _ _ b)

    module _ (b : length tile ≡ t * t) where
      pub flip-short : length out < t * t → filled (counted.Refused 16) out ≡ flip_of t fh fv tile out
      unfolding flip_of first_of refused_or
      flip-short c = rw (le-ltb _ _ a, eq-eqb _ _ b, lt-ltb _ _ c)

      pub flip-done : t * t ≤ length out → {buffer : List ℤ} → buffer ≡ over (tile_seen tile 0 t t fh fv) out → filled (counted.Count (t * t)) buffer ≡ flip_of t fh fv tile out
      unfolding flip_of first_of refused_or
      flip-done c d = rw (le-ltb _ _ a, eq-eqb _ _ b, le-ltb _ _ c, d, alone-flipped t tile fh fv)
