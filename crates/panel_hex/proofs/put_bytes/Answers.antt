-- `put_bytes`: the digits of the first i bytes stand. Assumes nothing.
use Rattle.panel_hex.proofs.Digits.{hexing-none, hexing-next}
use mathlib.Core.Path.{refl}
use Rattle.panel_hex.proofs.put_bytes.Goals as goal

pub loop-i-init : goal.loop-i-init
loop-i-init c = hexing-none _ _ _

pub loop-i-preserved : goal.loop-i-preserved
loop-i-preserved c =
    hexing-next _ _ _ c.requires _ c.loop-i.i c.loop-i.invariant _ _ c.loop-i-test.true refl c.put_byte.ensures
