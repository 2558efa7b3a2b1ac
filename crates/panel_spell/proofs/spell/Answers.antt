-- `spell`: the checks, then the line. Assumes nothing.
use native.Mathlib.Omega.{arith}
use Rattle.panel_spell.specs.Spelling.{spelt}
use Rattle.panel_spell.proofs.Judging.{length-spelt, spell-refused, spell-done}
use Rattle.panel_spell.proofs.spell.Goals as goal

pub returns-then-no-ne0 : goal.returns-then-no-ne0
returns-then-no-ne0 c = spell-refused _ _ _ c.spell_no-no.ensures c.if-no-ne0.true

pub put_sheet-n-requires : goal.put_sheet-n-requires
put_sheet-n-requires c =
    let z = c.if-no-ne0.false in
    let f = c.spell_no-no.ensures.small z in record { k_bound = (f.fits.limits.k-small, omega (arith, f.fits.limits.k-small, f.fits.limits.palette-length)); indices_in_bounds = (omega (arith, c.spell_no-no.ensures.fits z, length-spelt _ f.fits, f.fits.limits.indices-length)) }

pub returns : goal.returns
unfolding spelt
returns c =
    let e = c.put_sheet-n.ensures in
    spell-done _ _ _ c.spell_no-no.ensures c.if-no-ne0.false _ _ e.1 e.0
