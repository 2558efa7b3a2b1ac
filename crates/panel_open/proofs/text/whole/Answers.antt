-- `whole`: a line of at most 4,096 indices. Assumes nothing.
use Rattle.panel_open.proofs.Texts.{line-short}
use native.Mathlib.Omega.{arith}
use mathlib.Core.Path.{refl}
use Rattle.panel_open.proofs.text.whole.Goals as goal

pub returns : goal.returns
returns c =
    let p = c.put_line-end.ensures in
    let d = c.is_dirty-dirty.ensures in
    record { core_is = refl; out-is = rw d at p.out_after; end_is = rw d at p.value; short = line-short _ _ _ _ _ _ c.requires.0 (omega arith) }
