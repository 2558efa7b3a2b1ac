-- An opening frame that was written is read: size, palette and indices come back. Assumes nothing.
use Prim.Native.Nat.{ℕ, zero, suc, ◌+◌, ◌*◌, ◌/◌, ◌%◌, ◌<◌}
use mathlib.Core.Path.{◌≡◌, refl, sym, ◌∙◌}
use mathlib.Core.Bool.{true, false}
use mathlib.Core.List.{List, map}
use native.Mathlib.Omega.{arith}
use borrow.Author.Tests.{le-ltb, eq-eqb, ne_eqb, leb-false}
use lib.Dec.{ltb, eqb}
use lib.IntN.{ℤ, pos, negsuc}
use lib.ListN.{length, take, drop, length-append, length-map}
use lib.Seq.{take_at, drop_at, drop-drop, take_all}
use Rattle.base.specs.Limits.{max_entries}
use Rattle.base.specs.Lists.{some}
use Rattle.base.proofs.Nowhere.{map-undone}
use Rattle.sheet.specs.Sheet.{stray}
use Rattle.journal_record.specs.Bytes.{le}
use Rattle.panel_hex.specs.Hex.{byte_of}
use Rattle.panel_frames.specs.Reading.{opening_of, class_of, index_of, palette_in, indices_in}
use Rattle.panel_frames.specs.Opening.{open_bytes}
use Rattle.panel_frames.specs.declared.Frame.TheVariants.{Open}

-- an index of a well-formed sheet
pub index-trip : (z : ℤ) → stray max_entries z ≡ false → index_of (byte_of z) ≡ z
unfolding index_of byte_of stray
index-trip (pos n) f =
    let small : n < 255 = leb-false 255 n f in
    let e : n % 256 ≡ n = omega arith in
    rw (e, ne_eqb n 255 (λ q. omega arith))
index-trip (negsuc zero) f = refl
index-trip (negsuc (suc n)) f = cc

module _ (w h k : ℕ) (palette : List ℕ) (indices : List ℤ) (p : length palette ≡ 3 * k) (q : length indices ≡ w * h) (small-w : w < 65536) (small-h : h < 65536) where
  pub length-open : length (open_bytes w h k palette indices) ≡ 6 + 3 * k + w * h
  unfolding open_bytes le
  length-open = rw (length-append palette (map byte_of indices), p, length-map indices byte_of, q) (omega arith)

  pub class-open : class_of (open_bytes w h k palette indices) ≡ Open w h k
  unfolding class_of opening_of open_bytes le
  class-open =
      let bs : List ℕ = open_bytes w h k palette indices in
      let n : length bs ≡ 6 + 3 * k + w * h = length-open in
      let ew : w % 256 + 256 * (w / 256 % 256) ≡ w = omega arith in
      let eh : h % 256 + 256 * (h / 256 % 256) ≡ h = omega arith in
      let e : eqb (length bs) (6 + 3 * k + w * h) ≡ true = eq-eqb (length bs) (6 + 3 * k + w * h) n in
      let z : ltb (length bs) 6 ≡ false = le-ltb (length bs) 6 (omega arith) in
      let y : eqb (length bs) 0 ≡ false = ne_eqb (length bs) 0 (λ v. omega arith) in
      rw (y, z, ew, eh, e)

  pub palette-open : palette_in k (open_bytes w h k palette indices) ≡ palette
  unfolding open_bytes le
  palette-open = take_at palette (map byte_of indices) (3 * k) p

  pub indices-open : some (stray max_entries) indices ≡ false → indices_in w h k (open_bytes w h k palette indices) ≡ indices
  unfolding open_bytes le
  indices-open fine =
      let past : drop (6 + 3 * k) (open_bytes w h k palette indices) ≡ map byte_of indices = sym (drop-drop (3 * k) 6 (open_bytes w h k palette indices)) ∙ drop_at palette (map byte_of indices) (3 * k) p in
      let all : take (w * h) (map byte_of indices) ≡ map byte_of indices = take_all (w * h) (map byte_of indices) (omega (arith, length-map indices byte_of, q)) in
      rw (past, all) (map-undone byte_of (stray max_entries) index_of index-trip indices fine)
