-- `mirror_tiles`: the list is packed into flat where it is read, `mirror_packed` leaves its answer in the scratch, and what is made is
-- unpacked into out, or the list copied there. Assumes nothing.
use Rattle.std.proofs.Common.{map, length, arith}
use lib.ListN.{length-map}
use Rattle.base.specs.Answer.{filled}
use Rattle.sheet.specs.Sheet.{sheet_of}
use Rattle.struct_change.specs.Struct.{packed_of}
use Rattle.tile_mirror_checks.specs.Calls.{touching}
use Rattle.struct_mirror_list.specs.Laid.{made_of, kept_of, Laid}
use Rattle.struct_mirror.specs.Lent.{mirror_lent}
use Rattle.struct_mirror.proofs.Laying.{read-front, read_off, read-judged, unpack-fits, copy-fits, laid-all}
use Rattle.struct_mirror.proofs.mirror_tiles.Goals as goal
use Rattle.struct_mirror.proofs.mirror_tiles.Goals.{After-mirror_packed-r}

-- what the call leaves in the scratch
left : (c : After-mirror_packed-r) → let a = c.args in let now = touching a.on (length a.list.now) a.t a.w a.h in
    Laid (made_of now c.mirror_packed-r.result) (kept_of now c.mirror_packed-r.result) (length a.out.now) c.mirror_packed-r.new.scratch (map packed_of a.list.now) (filled c.mirror_packed-r.result)
    (mirror_lent (sheet_of a.w a.h a.k a.palette.now a.lab.now a.indices.now) a.area a.on a.t (map packed_of a.list.now) (length a.flat.now) (length a.scratch.now))
left c =
    let a = c.args in
    let e = length-map a.list.now packed_of in
    let i = c.is_touching-touched.ensures in
    let r = c.read_of-read.ensures in
    rw c.pack.auto.flat at
    (c.mirror_packed-r.ensures (map packed_of a.list.now) e
    (read_off a.w a.h a.t a.on _ _ _ i r (map packed_of a.list.now) e _ c.any_outside-off.ensures)
    (λ y enough. read-front a.w a.h a.t a.on _ _ _ i r (map packed_of a.list.now) e a.flat.now _ _ c.min-m.ensures c.pack.auto.flat c.pack.ensures y enough))

pub mirror_packed-r-requires : goal.mirror_packed-r-requires
mirror_packed-r-requires c y enough =
    let a = c.args in
    read-judged a.w a.h a.t a.on _ _ _ c.is_touching-touched.ensures c.read_of-read.ensures (map packed_of a.list.now) (length-map a.list.now packed_of) _ c.any_outside-off.ensures a.flat.now _ _ c.min-m.ensures c.pack.auto.flat c.pack.ensures y enough

pub unpack-requires : goal.unpack-requires
unpack-requires c = unpack-fits _ _ c.is_touching-touched.ensures c.mirror_packed-r.result (left (goal.at.unpack-requires c).After-mirror_packed-r) _ c.made_of-made.ensures

pub copy_front-requires : goal.copy_front-requires
copy_front-requires c =
    let f = copy-fits _ _ c.is_touching-touched.ensures c.mirror_packed-r.result (left (goal.at.copy_front-requires c).After-mirror_packed-r) _ c.kept_of-kept.ensures in
    (omega (arith, f.0, length-map c.args.list.now packed_of), omega (arith, f.1, c.unpack.auto.out))

pub returns : goal.returns
returns c =
    let a = c.args in (
      laid-all _ _ c.is_touching-touched.ensures c.mirror_packed-r.result (left (goal.at.returns c).After-mirror_packed-r) _ _ c.made_of-made.ensures c.kept_of-kept.ensures (map packed_of a.out.now) (map packed_of c.unpack.new.out) (map packed_of c.copy_front.new.out)
          (length-map a.out.now packed_of) c.unpack.ensures c.copy_front.ensures,
      c.pack.auto.flat,
      c.mirror_packed-r.auto.scratch,
    )
