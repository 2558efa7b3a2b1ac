-- `double_of`: by cases. Assumes nothing.
use Rattle.journal_read.specs.LabRead.{double_of}
use Rattle.journal_read.proofs.LabBytes.{no_number}
use Rattle.journal_read.proofs.lab.double_of.Goals as goal

pub returns-in-Number : goal.returns-in-Number
unfolding double_of
returns-in-Number c = rw c.in-Number.is

pub returns-in-NotANumber : goal.returns-in-NotANumber
unfolding double_of
returns-in-NotANumber c = rw c.in-NotANumber.is no_number
