-- `finish`: by the tests. Assumes nothing.
use Rattle.change_list.proofs.Fronts.{front-within}
use Rattle.struct_mirror_list.proofs.Laying.{finish-kept, finish-short, finish-made}
use Rattle.struct_mirror_list.proofs.finish.Goals as goal

pub returns-then-not-touched : goal.returns-then-not-touched
returns-then-not-touched c list e q = let a = c.args in finish-kept a.w a.h a.t a.indices.now a.s a.touched a.flat.now list a.n e a.room _ (c.if-not-touched.true) (λ h. c.counted.ensures list h)

pub returns-then-flat-n : goal.returns-then-flat-n
returns-then-flat-n c list e q = let a = c.args in finish-short a.w a.h a.t a.indices.now a.s a.touched a.flat.now list a.n e a.room _ (c.if-not-touched.false) c.if-flat-n.true

pub returns : goal.returns
returns c list e q =
    let a = c.args in
    let y = c.if-not-touched.false in
    let h = c.if-flat-n.false in
    let f = c.mirror_in-c.ensures in
    finish-made a.w a.h a.t a.indices.now a.s a.touched a.flat.now list a.n e a.room _ y h (q y h) f (c.counted-2.ensures _ (front-within f))
