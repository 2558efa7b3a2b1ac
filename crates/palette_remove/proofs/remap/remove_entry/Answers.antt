-- `remove_entry`: 1 to 3, 7, 24, 9, then the remap to the nearest other entry, which is handed back. Assumes nothing.
use mathlib.Core.Path.{sym, ◌∙◌}
use native.Mathlib.Omega.{arith}
use Rattle.palette_model.specs.Removal.{remove_entry_of}
use Rattle.palette_model.proofs.RemoveAnswers.{remove-refused, remove-past, remove-with}
use Rattle.palette_remove.proofs.remap.remove_entry.Goals as goal

pub returns-then-no-ne0 : goal.returns-then-no-ne0
unfolding remove_entry_of
returns-then-no-ne0 c = remove-refused _ _ _ _ _ _ _ _ _ c.removal_no-no.ensures.value c.if-no-ne0.true

pub nearest_but-near-requires : goal.nearest_but-near-requires
nearest_but-near-requires c = let o = c.removal_no-no.ensures.fine c.if-no-ne0.false in (o.formed.limits.lab-length, o.formed.limits.k-small, o.more, o.entry, o.formed.fit)

pub remove_to-made-requires : goal.remove_to-made-requires
remove_to-made-requires c =
    let o = c.removal_no-no.ensures.fine c.if-no-ne0.false in
    let l = o.formed.limits in
    (l.w-small, l.h-small, l.indices-length, l.palette-length, omega arith, omega (arith, c.nearest_but-near.ensures.first.inside))

pub returns : goal.returns
unfolding remove_entry_of
returns c =
    rw (← c.nearest_but-near.ensures.value)
    (remove-with _ _ _ _ _ _ _ _ _ _ c.remove_to-made.ensures c.with_target.ensures ∙ remove-past _ _ _ _ _ _ _ _ (sym c.removal_no-no.ensures.value ∙ c.if-no-ne0.false))
