-- The cache of `snap_rgba`: each slot holds a colour with its own entry. Definitions only. Assumes nothing.
use Rattle.std.specs.Prelude.{◌≡◌, List, ℕ, ◌+◌, ◌*◌, ◌/◌, ◌%◌, ◌^◌, ◌<◌, ◌≤◌, Float, length, get_or}
use Rattle.base.specs.Checks.{first_of}
use Rattle.base.specs.declared.Rgb.{Rgb}
use Rattle.base.specs.declared.Lab.{Lab}
use Rattle.color_lab.specs.Curve.{linear_table}
use Rattle.color_curve.specs.Curve.{Curve, lab_by, curve_checks}
use Rattle.tool_snap.specs.Snap.{entry_of}

-- a colour of three bytes as one number
unfoldable pub rgb_of : ℕ → Rgb
rgb_of n = record { r = n % 256; g = n / 256 % 256; b = n / 65536 }

pub record Numbered (c : Rgb) (n : ℕ) : Type 0 where
  pub colour : rgb_of n ≡ c
  pub small : n < 2 ^ 24

-- a slot is empty, or holds a colour and the entry of that very colour, one more
unfoldable pub slot_ok : (Rgb → Lab) → List Float → ℕ → ℕ → Type 0
slot_ok curve lab k v = (v ≡ 0 → ⊥) → v % 512 ≡ entry_of curve lab k (rgb_of (v / 512)) + 1

unfoldable pub all_ok : (Rgb → Lab) → List Float → ℕ → List ℕ → Type 0
all_ok curve lab k cache = (j : ℕ) → slot_ok curve lab k (get_or cache j 0)

-- what the loops are lent: the table of sRGB's curve, a session's curve that fits, LAB storage for k entries, and a cache of theirs
pub record Snapping (c : Curve) (table lab : List Float) (k : ℕ) (cache : List ℕ) : Type 0 where
  pub tabled : table ≡ linear_table
  pub fits : first_of (curve_checks c) ≡ 0
  pub k-small : k ≤ 255
  pub lab-long : 3 * k ≤ length lab
  pub cached : all_ok (lab_by c) lab k cache
