-- `extend`: the stroke is packed into flat and the list into more, `extend_packed` leaves its list in the scratch, and that is unpacked into the stroke. Assumes nothing.
use mathlib.Core.Path.{sym, ◌∙◌}
use mathlib.Core.List.{map}
use lib.ListN.{length, length-map}
use Rattle.base.specs.Answer.{filled}
use Rattle.change_list.specs.Listed.{count_of, InScratch}
use Rattle.change_list.proofs.InScratch.{copy-fits, copied}
use Rattle.struct_change.specs.Struct.{packed_of}
use Rattle.struct_extend.specs.Places.{room_for, extend_over}
use Rattle.struct_extend.proofs.Joined.{over-own, stroke-front, list-front}
use Rattle.struct_extend.proofs.strokes.extend.Goals as goal
use Rattle.struct_extend.proofs.strokes.extend.Goals.{After-extend_packed-r}

-- what the core says of the buffers means of the lists

left : (c : After-extend_packed-r) → let a = c.args in
    InScratch (count_of c.extend_packed-r.result) (length a.stroke.now) c.extend_packed-r.new.scratch (filled c.extend_packed-r.result)
    (extend_over (room_for (length a.flat.now) (length a.more.now) (length a.scratch.now) a.count (length a.list.now)) a.count (map packed_of a.list.now) (map packed_of a.stroke.now))
left c =
    let a = c.args in
    let stroke = map packed_of a.stroke.now in
    let k = length-map a.stroke.now packed_of in
    rw (c.pack.auto.flat, c.pack-2.auto.flat) at
    (c.extend_packed-r.ensures stroke (map packed_of a.list.now) k (length-map a.list.now packed_of)
    (λ x y. stroke-front stroke a.flat.now c.pack.new.flat a.count c.min-held.result (rw k (rw c.min.ensures at c.min-held.ensures)) c.pack.auto.flat c.pack.ensures (rw k x) y)
    (λ x. list-front (map packed_of a.list.now) a.more.now c.pack-2.new.flat (length a.list.now) c.min-m.result (length-map a.list.now packed_of) c.min-m.ensures c.pack-2.auto.flat c.pack-2.ensures x))

pub unpack-requires : goal.unpack-requires
unpack-requires c = copy-fits (left (goal.at.unpack-requires c).After-extend_packed-r) c.count_of-total.ensures

pub returns : goal.returns
returns c =
    let a = c.args in (
      copied (left (goal.at.returns c).After-extend_packed-r) c.count_of-total.ensures (map packed_of a.stroke.now) (sym (length-map a.stroke.now packed_of)) c.unpack.ensures
          ∙ over-own (room_for (length a.flat.now) (length a.more.now) (length a.scratch.now) a.count (length a.list.now)) a.count (map packed_of a.list.now) (map packed_of a.stroke.now),
      c.pack.auto.flat,
      c.pack-2.auto.flat,
      c.extend_packed-r.auto.scratch,
    )
