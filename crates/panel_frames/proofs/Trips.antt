-- What was written is read again: a frame's digits and its bytes. Assumes nothing.
use Prim.Native.Nat.{ℕ, ◌*◌, ◌≤◌}
use mathlib.Core.Path.{◌≡◌}
use mathlib.Core.Bool.{false}
use mathlib.Core.List.{List}
use native.Mathlib.Omega.{arith}
use borrow.Author.Tests.{le-ltb}
use lib.Dec.{leb}
use lib.ListN.{length}
use Rattle.base.specs.Lists.{some}
use Rattle.panel_hex.specs.Hex.{hex_of}
use Rattle.panel_hex.proofs.Digits.{length-hex}
use Rattle.panel_hex.proofs.Trips.{hex-trip}
use Rattle.panel_frames.specs.Reading.{told, told_of, frame_of, class_of}

-- a frame is read from its digits as it is from its bytes
pub frame-trip : (bs : List ℕ) → some (leb 256) bs ≡ false → length bs ≤ 8192 → frame_of (hex_of bs) ≡ told (class_of bs) bs
unfolding frame_of told_of
frame-trip bs h n = rw (length-hex bs, le-ltb 16384 (2 * length bs) (omega arith), hex-trip bs h)
