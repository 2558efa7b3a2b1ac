-- `fill`: an empty table, every cell entered, and what was found for each. Assumes nothing.
use mathlib.Core.Path.{sym, ◌∙◌}
use mathlib.Core.Bool.{false≢true}
use Rattle.tile_match.proofs.Entering.{entered-none, entered-all}
use Rattle.tile_match.proofs.table.fill.Goals as goal

pub enter_all-requires : goal.enter_all-requires
enter_all-requires c =
    let a = c.args in record {
      tiled = c.requires.0;
      chained = entered-none a.w a.h a.t a.indices.now _
          (rw c.requires.1 at (c.fill.ensures.after (λ y e. e)));
    }

pub returns : goal.returns
returns c =
    let a = c.args in record {
      s_after = λ e. c.bare.ensures ∙ entered-all a.w a.h a.t a.indices.now _
          (c.enter_all.ensures.chained_2 (c.if-not-enter_all.false));
      most_bound = λ e. absurd (false≢true (sym e));
    }
