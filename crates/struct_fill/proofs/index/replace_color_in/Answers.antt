-- `replace_color_in`: with too little scratch 16, where nothing else refuses the call; else the call, with the front of the scratch for its buffer. Assumes nothing.
use mathlib.Core.Path.{refl}
use mir.Facts.{to_z-of_z}
use Rattle.sheet.specs.Sheet.{Sheet, sheet_of}
use Rattle.struct_fill.proofs.Counts.{short-scratch, in-scratch, replace-is, replace-few}
use Rattle.struct_fill.proofs.index.replace_color_in.Goals as goal
use Rattle.struct_fill.proofs.index.replace_color_in.Goals.{Start}

abbrev sheet : (c : Start) → Sheet
sheet c = let a = c.args in sheet_of a.w a.h a.k a.palette.now a.lab.now a.indices.now

pub returns-then-scratch-indices : goal.returns-then-scratch-indices
returns-then-scratch-indices c =
    let a = c.args in
    let s = sheet (goal.at.returns-then-scratch-indices c).Start in
    short-scratch _ _ (replace-is s a.area a.from a.to) _ _ c.if-scratch-indices.true (rw (to_z-of_z c.ranges.from, to_z-of_z c.ranges.to) at c.replace_color-r.ensures) c.no_room.ensures

pub returns : goal.returns
returns c =
    let a = c.args in
    let s = sheet (goal.at.returns c).Start in
    in-scratch _ _ (replace-is s a.area a.from a.to) _ _ a.scratch.now _ _ c.if-scratch-indices.false refl c.min-m.ensures (replace-few s a.area a.from a.to) (rw (to_z-of_z c.ranges.from, to_z-of_z c.ranges.to) at c.replace_color.ensures)
