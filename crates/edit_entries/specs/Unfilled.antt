-- The LAB that an edit of palette.rs has until it is pushed. Definitions only. Assumes nothing.
use Rattle.base.specs.declared.Lab.{Lab}
use Rattle.color_doubles.specs.Arithmetic.{decimal}

-- `[0.0; 3]`: what is filled in from the sheet when the edit is pushed
unfoldable pub no_lab : Lab
no_lab = record { l = decimal 0 1; a = decimal 0 1; b = decimal 0 1 }
