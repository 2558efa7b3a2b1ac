-- `any_unfit_in` meets its contract: a sum that is finite is what the caller was asked about. Assumes nothing.
use mathlib.Core.Path.{sym, ◌∙◌}
use borrow.Author.Rules.{rules}
use Rattle.color.proofs.any_unfit_in.Goals as goal

pub returns : goal.returns
returns c = sym (c.requires (sym c.is_unfit.ensures ∙ c.if-is_unfit.false))
