-- The sheet, and the picture it shows: document 01, "The sheet". Definitions only. Assumes nothing.
use Rattle.std.specs.Prelude.{ℕ, zero, suc, ◌*◌, Bool, true, false, ◌||◌, List, leb, ℤ, pos, negsuc, Float, take}
use Rattle.std.specs.Int.Signed.{lt_z, le_z}

-- the memory that a maker lends: size, palette count, palette storage, LAB storage, indices in rows
pub record Sheet : Type 0 where
  pub w : ℕ
  pub h : ℕ
  pub k : ℕ
  pub palette : List ℕ
  pub lab : List Float
  pub indices : List ℤ

abbrev pub sheet_of : ℕ → ℕ → ℕ → List ℕ → List Float → List ℤ → Sheet
sheet_of w h k palette lab indices = record { w = w; h = h; k = k; palette = palette; lab = lab; indices = indices }

-- "whole pictures (size, indices, k, the k entries' bytes and LAB bits)"
pub record Picture : Type 0 where
  pub w : ℕ
  pub h : ℕ
  pub k : ℕ
  pub indices : List ℤ
  pub colours : List ℕ
  pub labs : List Float

-- "Only the first k entries count"
unfoldable pub view : Sheet → Picture
view s =
    record {
      w = s.w;
      h = s.h;
      k = s.k;
      indices = s.indices;
      colours = take (3 * s.k) s.palette;
      labs = take (3 * s.k) s.lab;
    }

-- "an index outside -1..k-1"
unfoldable pub stray : ℕ → ℤ → Bool
stray k (pos n) = leb k n
stray k (negsuc zero) = false
stray k (negsuc (suc n)) = true

-- the same with a signed bound, as the scan has it
unfoldable pub stray_z : ℤ → ℤ → Bool
stray_z k z = lt_z z (negsuc 0) || le_z k z
