-- `paint_news`: what is left, painted over the present picture, gives the whole. Assumes nothing.
use mathlib.Core.List.{map}
use Rattle.edit.specs.Change.{unpacked, new_of}
use Rattle.edit_pixels.proofs.Painting.{Painting}
use Rattle.edit_pixels.proofs.paint.paint_news.Given as goal

abbrev pub invariant-loop-c : goal.invariant-loop-c
invariant-loop-c l = Painting new_of l.w (map unpacked l.list) l.initial.indices l.c-index l.indices
