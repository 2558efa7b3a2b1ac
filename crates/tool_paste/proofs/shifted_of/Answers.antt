-- `shifted_of`: by what was counted. Assumes nothing.
use Rattle.tool_paste_model.proofs.Answers.{shifted-count, shifted-refused}
use borrow.Author.Rules.{rules}
use Rattle.tool_paste.proofs.shifted_of.Goals as goal

pub returns-in-Count : goal.returns-in-Count
returns-in-Count c = shifted-count _ c.in-Count.is

pub returns-in-Refused : goal.returns-in-Refused
returns-in-Refused c = shifted-refused _ c.in-Refused.is
