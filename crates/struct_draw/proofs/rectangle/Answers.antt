-- `rectangle`: what `rectangle_in` left in the scratch, unpacked into out. Assumes nothing.
use mathlib.Core.Path.{sym}
use mathlib.Core.List.{map}
use lib.ListN.{length-map}
use mir.Facts.{to_z-of_z}
use Rattle.change_list.proofs.InScratch.{copied}
use Rattle.struct_change.specs.Struct.{packed_of}
use Rattle.struct_draw.proofs.rectangle.Goals as goal

pub returns : goal.returns
returns c =
    let f = c.ranges in
    let out = c.args.out.now in
    let said = rw (to_z-of_z f.ax, to_z-of_z f.ay, to_z-of_z f.bx, to_z-of_z f.by, to_z-of_z f.index) at c.rectangle_in-r.ensures.fact in
    (copied said c.count_of-n.ensures (map packed_of out) (sym (length-map out packed_of)) c.unpack.ensures, c.rectangle_in-r.ensures.scratch_len_unchanged)
