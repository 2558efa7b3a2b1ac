-- `finish`: the list stands at the front of the scratch. Assumes nothing.
use mathlib.Core.Path.{ap, ◌∙◌}
use mathlib.Core.List.{List}
use Prim.Native.Nat.{ℕ}
use Rattle.change_list.specs.Listed.{handed}
use Rattle.change_list.proofs.Fronts.{front-within}
use Rattle.change_list.proofs.InScratch.{scratch-then}
use borrow.Author.Rules.{rules}
use Rattle.tool_draw.proofs.calls.finish.Goals as goal

pub returns : goal.returns
returns c =
    let f = c.differences-n.ensures in
    scratch-then (c.counted.ensures _ (front-within f)) (λ out after e d. d ∙ ap (λ (l : List ℕ). handed l out) f.front)
