-- The line of a sheet, read as a frame. Assumes nothing.
use mathlib.Core.Path.{◌≡◌, refl, ap, ◌∙◌}
use mathlib.Core.Bool.{false}
use mathlib.Core.List.{List, [], ◌∷◌, map}
use Prim.Native.Nat.{ℕ, ◌+◌, ◌*◌, ◌/◌, ◌%◌, ◌≤◌}
use native.Mathlib.Omega.{arith}
use native.Mathlib.Nat.{mul-le-mul}
use borrow.Author.Tests.{lt-leb}
use lib.Dec.{leb}
use lib.IntN.{ℤ, pos, negsuc}
use lib.ListN.{length, take}
use lib.Seq.{take_all, length-take-le}
use Rattle.base.specs.Lists.{some}
use Rattle.base.proofs.Nowhere.{or-both, nowhere-append}
use Rattle.sheet.specs.Sheet.{Sheet}
use Rattle.sheet.proofs.Strays.{stray-more}
use Rattle.journal_record.specs.Bytes.{le}
use Rattle.panel_hex.specs.Hex.{hex_of, byte_of}
use Rattle.panel_frames.specs.declared.Frame.TheVariants.{Open}
use Rattle.panel_frames.specs.Opening.{open_bytes, colours_of}
use Rattle.panel_frames.specs.Reading.{Told, told, frame_of, class_of, palette_in, indices_in, size_of}
use Rattle.panel_frames.proofs.Trips.{frame-trip}
use Rattle.panel_frames.proofs.Opened.{length-open, class-open, palette-open, indices-open}
use Rattle.panel_spelling.specs.OneSpelling.{Spelled}

-- the bytes of a sheet's opening frame, and their digits
abbrev pub bytes_of : Sheet → List ℕ
bytes_of s = open_bytes s.w s.h s.k (colours_of s) s.indices

abbrev pub digits_of : Sheet → List ℕ
digits_of s = hex_of (bytes_of s)

-- size, colours and indices come back
pub record Reads (s : Sheet) (line : List ℕ) : Type 0 where
  pub frame : (frame_of line).frame ≡ Open s.w s.h s.k
  pub long : length (frame_of line).bytes ≡ 6 + 3 * s.k + s.w * s.h
  pub colours : palette_in s.k (frame_of line).bytes ≡ colours_of s
  pub indices : indices_in s.w s.h s.k (frame_of line).bytes ≡ s.indices

-- ---- the bytes of an opening are bytes
byte-of : (z : ℤ) → leb 256 (byte_of z) ≡ false
unfolding byte_of
byte-of (pos n) = lt-leb 256 (n % 256) (omega arith)
byte-of (negsuc n) = refl

index-bytes : (l : List ℤ) → some (leb 256) (map byte_of l) ≡ false
unfolding some
index-bytes [] = refl
index-bytes (z ∷ l) = or-both (byte-of z) (index-bytes l)

module _ (s : Sheet) (q : Spelled s) where
  colours-long : length (colours_of s) ≡ 3 * s.k
  colours-long = let f = q.small.fits.limits in let a = f.k-small in length-take-le (3 * s.k) s.palette (omega (arith, f.palette-length))

  are-bytes : some (leb 256) (bytes_of s) ≡ false
  unfolding open_bytes le some
  are-bytes =
      let a = q.small.fits.limits.k-small in
      or-both refl
      (or-both (lt-leb 256 (s.w % 256) (omega arith))
      (or-both (lt-leb 256 (s.w / 256 % 256) (omega arith))
      (or-both (lt-leb 256 (s.h % 256) (omega arith))
      (or-both (lt-leb 256 (s.h / 256 % 256) (omega arith))
      (or-both (lt-leb 256 s.k (omega arith))
      (nowhere-append (leb 256) (colours_of s) (map byte_of s.indices) q.bytes (index-bytes s.indices)))))))

  few : s.w * s.h ≤ 4096
  few = mul-le-mul q.small.narrow q.small.low

  bytes-long : length (bytes_of s) ≡ 6 + 3 * s.k + s.w * s.h
  bytes-long =
      let b = q.small.narrow in
      let c = q.small.low in
      length-open s.w s.h s.k (colours_of s) s.indices colours-long q.small.fits.limits.indices-length (omega arith) (omega arith)

  told_is : frame_of (digits_of s) ≡ told (class_of (bytes_of s)) (bytes_of s)
  told_is = let a = q.small.fits.limits.k-small in frame-trip (bytes_of s) are-bytes (omega (arith, bytes-long, few))

  class-is : class_of (bytes_of s) ≡ Open s.w s.h s.k
  class-is =
      let b = q.small.narrow in
      let c = q.small.low in
      class-open s.w s.h s.k (colours_of s) s.indices colours-long q.small.fits.limits.indices-length (omega arith) (omega arith)

  all_told : take (size_of (class_of (bytes_of s))) (bytes_of s) ≡ bytes_of s
  unfolding size_of
  all_told = rw class-is (take_all (6 + 3 * s.k + s.w * s.h) (bytes_of s) (omega (arith, bytes-long)))

  bytes_read : (frame_of (digits_of s)).bytes ≡ bytes_of s
  bytes_read = ap (λ (t : Told). t.bytes) told_is ∙ all_told

  pub reads-back : Reads s (digits_of s)
  reads-back =
      let b = q.small.narrow in
      let c = q.small.low in
      let l = q.small.fits.limits in
      let p = palette-open s.w s.h s.k (colours_of s) s.indices colours-long l.indices-length (omega arith) (omega arith) in
      let r =
      indices-open s.w s.h s.k (colours_of s) s.indices colours-long l.indices-length (omega arith) (omega arith)
      (stray-more s.k 255 s.indices l.k-small q.small.fits.in-range) in
      record { frame = ap (λ (t : Told). t.frame) told_is ∙ class-is; long = rw bytes_read bytes-long; colours = rw bytes_read p; indices = rw bytes_read r }
