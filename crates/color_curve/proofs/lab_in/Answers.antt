-- `lab_in`: from the values of a loaded curve, or by sRGB. Assumes nothing.
use borrow.Author.Rules.{rules}
use Rattle.color_curve.proofs.Sessions.{loaded-fits, by_values, by-srgb}
use Rattle.color_curve.proofs.lab_in.Goals as goal

pub lab_on-requires : goal.lab_on-requires
lab_on-requires c = loaded-fits _ _ c.if-loaded.true c.requires.1

pub returns-then-loaded : goal.returns-then-loaded
returns-then-loaded c = by_values _ _ _ c.if-loaded.true c.lab_on.ensures

pub returns : goal.returns
returns c = by-srgb _ _ _ c.if-loaded.false c.lab_in.ensures
