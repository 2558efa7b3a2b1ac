-- `spelt_frame`: what the digits spell decides. Assumes nothing.
use Rattle.panel_hex.specs.Spelt.{spelt, Within}
use Rattle.panel_frames.proofs.Sizes.{front-size, told-front}
use Prim.Native.Nat.{zero-le, ◌≤◌}
use lib.ListN.{length}
use lib.Seq.{length-take-le}
use mathlib.Core.Path.{sym}
use Rattle.panel_frames.specs.Reading.{told_of, size_of}
use Rattle.panel_frames.proofs.reading.spelt_frame.Goals as goal

pub slice_bounds-classify-end : goal.slice_bounds-classify-end
unfolding Within
slice_bounds-classify-end c = let h = rw c.in-Some.is at c.requires in sym (length-take-le _ _ h)

pub returns-in-None : goal.returns-in-None
unfolding spelt told_of size_of
returns-in-None c = record { bytes_value = rw c.in-None.is; result_in_bounds = zero-le }

pub returns-in-Some : goal.returns-in-Some
unfolding spelt told_of Within
returns-in-Some c =
    let n = c.in-Some.n in
    let l = c.args.bytes.now in
    let h : n ≤ length l = rw c.in-Some.is at c.requires in
    record {
      bytes_value = rw (c.in-Some.is, c.classify.ensures) (told-front l n h);
      result_in_bounds = rw c.classify.ensures (front-size l n h);
    }
