-- `pixels`: the list is packed into flat, `pixels_packed` leaves its list in the scratch, and that is unpacked into out. Assumes nothing.
use mathlib.Core.Path.{sym}
use mathlib.Core.List.{map}
use Prim.Native.Nat.{ℕ, min}
use lib.ListN.{length, length-map}
use Rattle.change_list.specs.Listed.{InScratch}
use Rattle.change_list.proofs.InScratch.{copy-fits, copied}
use Rattle.change_op.specs.Op.{pixels_call, made, made_count}
use Rattle.struct_change.specs.Struct.{packed_of}
use Rattle.struct_change.proofs.Packing.{told}
use Rattle.struct_stroke.proofs.op.pixels.Goals as goal
use Rattle.struct_stroke.proofs.op.pixels.Goals.{After-made_count-count}

-- what the call leaves in the scratch
left : (c : After-made_count-count) → let a = c.args in
    InScratch (made_count c.pixels_packed-r.result) (length a.out.now) c.pixels_packed-r.new.scratch (made c.pixels_packed-r.result)
    (pixels_call a.tool (min (length a.flat.now) (length a.scratch.now)) (map packed_of a.list.now))
left c =
    let a = c.args in
    told (λ (i : ℕ). pixels_call a.tool (min i (length a.scratch.now))) (map packed_of a.list.now) a.flat.now c.pack.new.flat c.pixels_packed-r.new.scratch (length a.list.now) c.min-m.result
    c.pixels_packed-r.ensures (length-map a.list.now packed_of) c.min-m.ensures c.pack.auto.flat c.pack.ensures

pub unpack-requires : goal.unpack-requires
unpack-requires c = copy-fits (left (goal.at.unpack-requires c).After-made_count-count) c.made_count-count.ensures

pub returns : goal.returns
returns c =
    let a = c.args in
    (copied (left (goal.at.returns c).After-made_count-count) c.made_count-count.ensures (map packed_of a.out.now) (sym (length-map a.out.now packed_of)) c.unpack.ensures, c.pack.auto.flat, c.pixels_packed-r.auto.scratch)
