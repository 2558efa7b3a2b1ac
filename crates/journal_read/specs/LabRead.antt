-- A double that was read from bytes, where any NaN stands for a NaN. Definitions only. Assumes nothing.
use Rattle.std.specs.Prelude.{Float}
use Rattle.std.specs.Float.{nan}
use Rattle.journal_record.specs.declared.Real.{Real}
use Rattle.journal_record.specs.declared.Real.TheVariants.{Number, NotANumber}

unfoldable pub double_of : Real → Float
double_of (Number x) = x
double_of NotANumber = nan
