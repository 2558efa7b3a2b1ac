-- `pour`: the first i bytes that are left of the chunk are taken. Assumes nothing.
use native.Mathlib.Omega.{arith}
use Rattle.std.proofs.lemmas.List.{take_rest}
use Rattle.panel_input.proofs.Pours.{pouring-none, pouring-next}
use Rattle.panel_input.proofs.chunk.pour.Goals as goal

pub loop-i-init : goal.loop-i-init
loop-i-init c = record { fits = c.requires.fits; holds = c.requires.holds; poured = pouring-none _ _ _ _ }

pub loop-i-preserved : goal.loop-i-preserved
loop-i-preserved c =
    let l = c.loop-i in
    let b = c.take_byte-t.ensures in
    let chunk = c.args.chunk.now in
    let from = c.args.from in
    let rest = take_rest chunk from in
    record {
      fits = b.fits_2;
      holds = b.holds_2.0;
      poured = pouring-next _ _ _ _ _ l.out l.t.at l.i l.invariant.poured _ _ _ _ (rw rest at c.loop-i-test.true) (omega (arith, c.if-t.false)) (rw rest at b.out_after) b.holds_2.1;
    }
