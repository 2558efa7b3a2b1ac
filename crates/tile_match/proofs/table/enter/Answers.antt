-- `enter`: what is found, and a first cell at the head of its chain. Assumes nothing.
use mathlib.Core.Path.{◌≡◌, sym}
use mathlib.Core.Bool.{false≢true}
use Rattle.tile_cells.specs.Cells.{cell_count, code_of}
use Rattle.tile_match.proofs.Entering.{head-is, entered-old, entered-new}
use Rattle.tile_match.proofs.table.enter.Goals as goal
use Rattle.tile_match.proofs.table.enter.Goals.{Else-found-ge-FOUND}

found : (c : Else-found-ge-FOUND) → let a = c.args in
    c.find-found.result ≡ code_of a.w a.t a.indices.now a.c
found c = c.find-found.ensures.value c.if-found-ge-FOUND.false

pub returns-then-found-c : goal.returns-then-found-c
returns-then-found-c c =
    let a = c.args in
    let p = c.requires in
    let b = c.bucket-b.ensures in record {
      chained_2 = λ e. entered-new a.w a.t a.indices.now (cell_count a.w a.h a.t) a.c a.s.now p.chained p.tiled.1 _ _ _
          (found (goal.at.returns-then-found-c c).Else-found-ge-FOUND) (head-is a.w a.t a.indices.now (cell_count a.w a.h a.t) a.c p.chained b.0
          b.1 c.head_in-head.ensures.0) c.with_found-v.ensures
          c.if-found-c.true _ b.0 b.1 _ c.with_head-u.ensures;
      most_lt_c = λ e. absurd (false≢true (sym e));
    }

pub returns-else-found-c : goal.returns-else-found-c
returns-else-found-c c =
    let a = c.args in
    let p = c.requires in
    let b = c.bucket-b.ensures in record {
      chained_2 = λ e. entered-old a.w a.t a.indices.now (cell_count a.w a.h a.t) a.c a.s.now p.chained p.tiled.1 _ _ _
          (found (goal.at.returns-else-found-c c).Else-found-ge-FOUND) (head-is a.w a.t a.indices.now (cell_count a.w a.h a.t) a.c p.chained b.0 b.1
          c.head_in-head.ensures.0) c.with_found-v.ensures c.if-found-c.false;
      most_lt_c = λ e. absurd (false≢true (sym e));
    }
