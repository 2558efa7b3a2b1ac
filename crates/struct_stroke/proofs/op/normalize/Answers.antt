-- `normalize`: the list is packed into flat, `normalize_packed` leaves its list in the scratch, and that is unpacked into out. Assumes nothing.
use mathlib.Core.Path.{sym}
use mathlib.Core.List.{map}
use Prim.Native.Nat.{ℕ, min}
use lib.ListN.{length, length-map}
use Rattle.base.specs.Answer.{filled}
use Rattle.change_list.specs.Listed.{count_of, InScratch}
use Rattle.change_list.proofs.InScratch.{copy-fits, copied}
use Rattle.change_op.specs.Op.{normalize_call}
use Rattle.struct_change.specs.Struct.{packed_of}
use Rattle.struct_change.proofs.Packing.{told}
use Rattle.struct_stroke.proofs.op.normalize.Goals as goal
use Rattle.struct_stroke.proofs.op.normalize.Goals.{After-count_of-count}

-- what the call leaves in the scratch
left : (c : After-count_of-count) → let a = c.args in
    InScratch (count_of c.normalize_packed-r.result) (length a.out.now) c.normalize_packed-r.new.scratch (filled c.normalize_packed-r.result)
    (normalize_call (min (length a.flat.now) (length a.scratch.now)) (map packed_of a.list.now))
left c =
    let a = c.args in
    told (λ (i : ℕ). normalize_call (min i (length a.scratch.now))) (map packed_of a.list.now) a.flat.now c.pack.new.flat c.normalize_packed-r.new.scratch (length a.list.now) c.min-m.result
    c.normalize_packed-r.ensures (length-map a.list.now packed_of) c.min-m.ensures c.pack.auto.flat c.pack.ensures

pub unpack-requires : goal.unpack-requires
unpack-requires c = copy-fits (left (goal.at.unpack-requires c).After-count_of-count) c.count_of-count.ensures

pub returns : goal.returns
returns c =
    let a = c.args in
    (copied (left (goal.at.returns c).After-count_of-count) c.count_of-count.ensures (map packed_of a.out.now) (sym (length-map a.out.now packed_of)) c.unpack.ensures, c.pack.auto.flat, c.normalize_packed-r.auto.scratch)
