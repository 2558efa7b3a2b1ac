-- `mirror_all`: one step after the other. Assumes nothing.
use mathlib.Core.Path.{◌≡◌, sym, ◌∙◌}
use native.Mathlib.Nat.{mul_comm, mul-le-mul_right}
use Prim.Native.Nat.{ℕ, ◌*◌, ◌<◌}
use lib.ListN.{length, get_or}
use Rattle.tile_copies.proofs.Coordinates.{class_of}
use Rattle.tile_cells.proofs.Corners.{count_small}
use Rattle.tile_copies.proofs.Mirrored.{wide, listed, class-by, coded, classes, marks, whole}
use borrow.Author.Rules.{rules}
use Rattle.tile_copies.proofs.mirror.mirror_all.Goals as goal
use Rattle.tile_copies.proofs.mirror.mirror_all.Goals.{After-first_cells, After-land_all, After-mark_all, After-pend_all, After-spread}

-- as many numbers as places, after each step
l0 : (c : After-first_cells) → length c.first_cells.new.scratch ≡ c.args.w * c.args.h
l0 c = c.first_cells.auto.scratch ∙ c.requires.1

l1 : (c : After-spread) → length c.spread.new.s ≡ c.args.w * c.args.h
l1 c = c.spread.auto.s ∙ c.first_cells.auto.scratch ∙ c.requires.1

l2 : (c : After-mark_all) → length c.mark_all.new.s ≡ c.args.w * c.args.h
l2 c = c.mark_all.auto.s ∙ c.spread.auto.s ∙ c.first_cells.auto.scratch ∙ c.requires.1

l3 : (c : After-land_all) → length c.land_all.new.s ≡ c.args.w * c.args.h
l3 c = c.land_all.auto.s ∙ c.mark_all.auto.s ∙ c.spread.auto.s ∙ c.first_cells.auto.scratch ∙ c.requires.1

l4 : (c : After-pend_all) → length c.pend_all.new.s ≡ c.args.w * c.args.h
l4 c = c.pend_all.auto.s ∙ c.land_all.auto.s ∙ c.mark_all.auto.s ∙ c.spread.auto.s ∙ c.first_cells.auto.scratch ∙ c.requires.1

-- the classes
e1 : (c : After-spread) → let a = c.args in (p : ℕ) → p < a.w * a.h → get_or c.spread.new.s p 0 ≡ class_of a.w a.t a.indices.now p
e1 c p b =
    let l : length c.first_cells.new.scratch ≡ c.args.w * c.args.h = c.first_cells.auto.scratch ∙ c.requires.1 in
    c.spread.ensures p (rw l b) ∙ class-by _ _ _ _ _ c.args.region c.requires.0 _ l c.first_cells.ensures p b

pub first_cells-requires : goal.first_cells-requires
first_cells-requires c = (c.requires.0.tiled, rw c.requires.1 (count_small c.requires.0.tiled))

pub spread-requires : goal.spread-requires
spread-requires c = coded _ _ _ _ _ c.args.region c.requires.0 _ (l0 (goal.at.spread-requires c).After-first_cells) c.first_cells.ensures

pub mark_all-requires : goal.mark_all-requires
mark_all-requires c = (listed _ _ _ _ _ c.args.region c.requires.0 _ (l1 (goal.at.mark_all-requires c).After-spread), classes _ _ _ _ _ c.args.region c.requires.0 _ (l1 (goal.at.mark_all-requires c).After-spread) (e1 (goal.at.mark_all-requires c).After-spread))

pub land_all-requires : goal.land_all-requires
land_all-requires c = (wide _ _ _ _ _ c.args.region c.requires.0, listed _ _ _ _ _ c.args.region c.requires.0 _ (l2 (goal.at.land_all-requires c).After-mark_all), marks _ _ _ _ _ c.args.region c.requires.0 _ (l1 (goal.at.land_all-requires c).After-spread) (e1 (goal.at.land_all-requires c).After-spread) _ (l2 (goal.at.land_all-requires c).After-mark_all) c.mark_all.ensures)

pub pend_all-requires : goal.pend_all-requires
pend_all-requires c = listed _ _ _ _ _ c.args.region c.requires.0 _ (l3 (goal.at.pend_all-requires c).After-land_all)

pub emit-requires : goal.emit-requires
emit-requires c =
    let d = c.requires.0.tiled in
    let s = l4 (goal.at.emit-requires c).After-pend_all in
    (wide _ _ _ _ _ c.args.region c.requires.0, d.w-small, rw (s, mul_comm c.args.w c.args.h) (mul-le-mul_right c.args.w d.h-small), s ∙ sym d.long)

pub returns : goal.returns
returns c =
    rw (whole _ _ _ _ _ c.args.region c.requires.0 _ (l1 (goal.at.returns c).After-spread) (e1 (goal.at.returns c).After-spread) _ (l2 (goal.at.returns c).After-mark_all) c.mark_all.ensures _ (l3 (goal.at.returns c).After-land_all) c.land_all.ensures _ (l4 (goal.at.returns c).After-pend_all) c.pend_all.ensures) at c.emit.ensures
