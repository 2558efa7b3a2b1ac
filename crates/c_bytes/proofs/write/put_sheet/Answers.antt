-- `put_sheet`: part by part. Assumes nothing.
use mathlib.Core.Path.{◌≡◌, ◌∙◌}
use native.Mathlib.Omega.{arith}
use borrow.Rule.Slice.PartMut.{put_mid}
use Rattle.c_form.specs.Fields.{write_from}
use Rattle.c_form.specs.Flat.{sheet_over, byte_over}
use Rattle.c_bytes.proofs.Copies.{bytes-written, part-spliced}
use Rattle.c_bytes.proofs.write.put_sheet.Goals as goal

pub returns : goal.returns
unfolding sheet_over write_from
returns c =
    let old = c.put_u16.new.dst in
    let colors = c.args.palette.now in
    let copied : put_mid 6 765 old colors ≡ write_from 1 byte_over 6 colors old =
    part-spliced old colors 6 765 (omega (arith, c.requires)) ∙ bytes-written colors old 6 (omega (arith, c.requires)) in
    rw (c.put_all-2.ensures, c.put_all.ensures, c.copy_from_slice.ensures.after, copied, c.put_u16.ensures) at c.put_all-3.ensures
