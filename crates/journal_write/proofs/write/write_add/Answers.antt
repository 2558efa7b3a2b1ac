-- `write::write_add` meets its contract: kind, colour and length one behind the other. Assumes nothing.
use native.Mathlib.Omega.{arith}
use mathlib.Core.Path.{refl}
use mathlib.Core.List.{[], ◌∷◌}
use Rattle.edit.specs.Storage.{bytes_of}
use Rattle.journal_record.specs.Bytes.{splice}
use Rattle.journal_record.proofs.Splice.{over-then, splice-sets}
use Rattle.journal_write.proofs.Written.{add-written}
use Rattle.journal_write.proofs.write.write_add.Goals as goal

pub returns : goal.returns
unfolding splice
returns c f w =
    let a = c.args in
    let kind = splice-sets (3 ∷ []) a.part.now 0 (omega arith) in
    let colour = over-then (3 ∷ []) (bytes_of a.c) _ _ _ 1 refl kind c.put_rgb.ensures in
    add-written _ f w _ _ _ colour c.put_u32.ensures
