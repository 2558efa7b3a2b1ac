-- `merge_entries_in`: with too little scratch 16, where nothing else refuses the call; else the call, with the front of the scratch for its buffer. Assumes nothing.
use mathlib.Core.Path.{refl}
use Rattle.base.specs.Answer.{op_count}
use Rattle.sheet.specs.Sheet.{Sheet, sheet_of}
use Rattle.struct_palette.proofs.Remaps.{short-remap, remap-in, merge-is}
use Rattle.struct_palette.proofs.removing.merge_entries_in.Goals as goal
use Rattle.struct_palette.proofs.removing.merge_entries_in.Goals.{Start}

abbrev sheet : (c : Start) → Sheet
sheet c = let a = c.args in sheet_of a.w a.h a.k a.palette.now a.lab.now a.indices.now

pub returns-then-scratch-indices : goal.returns-then-scratch-indices
returns-then-scratch-indices c =
    let a = c.args in
    let s = sheet (goal.at.returns-then-scratch-indices c).Start in
    short-remap _ op_count (λ n. refl) (λ o. refl) _ _ _ _ _ _ (merge-is s a.locks.now a.from a.into) _ c.if-scratch-indices.true c.merge_entries-r.ensures c.no_removal.ensures

pub returns : goal.returns
returns c =
    let a = c.args in
    let s = sheet (goal.at.returns c).Start in
    remap-in _ op_count (λ n. refl) (λ o. refl) _ _ _ _ _ _ (merge-is s a.locks.now a.from a.into) _ a.scratch.now _ _ c.if-scratch-indices.false refl c.min-m.ensures c.merge_entries.ensures
