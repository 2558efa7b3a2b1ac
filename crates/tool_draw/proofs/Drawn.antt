-- The raw changes of a tool are on the sheet and have its indices as olds; so their normal form is what lies between the picture and the
-- painted one. Assumes nothing.
use mathlib.Core.Path.{◌≡◌, refl, ap, ◌∙◌}
use mathlib.Core.Bool.{Bool, true, false, cond}
use mathlib.Core.List.{List, [], ◌∷◌, flat_map}
use Prim.Native.Nat.{ℕ, ◌+◌, ◌*◌, ◌≤◌, ◌<◌, ◌^◌}
use lib.IntN.{ℤ, pos, negsuc, nat_abs}
use lib.ListN.{length, get_or}
use Rattle.base.proofs.Bools.{and_left, and_right}
use Rattle.base.proofs.Back.{never}
use Rattle.selection_spans.specs.Spans.{in_span}
use Rattle.selection.specs.declared.Selection.{Selection}
use Rattle.selection.specs.Selection.{contains, contains_i}
use Rattle.selection.proofs.Regions.{Within, below_span}
use Rattle.tool_line.specs.Line.{Point}
use Rattle.edit.specs.Change.{Change, place}
use Rattle.base.specs.Lists.{All}
use Rattle.base.proofs.Each.{all_append, all_map, all-flat}
use Rattle.change_list.specs.Between.{between}
use Rattle.change_list.proofs.Parts.{InRows}
use Rattle.change_normal.specs.Laws.{On}
use Rattle.change_normal.proofs.Shortest.{first-olds}
use Rattle.change_normal.proofs.Pictures.{normal-between}
use Rattle.tool_stamp.specs.declared.Run.{Run}
use Rattle.tool_reach.specs.Reached.{Holds}
use Rattle.tool_stamp.specs.Points.{change_at, changes_at, drawn}
use Rattle.tool_stamp.specs.Places.{set_all, places_of}
use Rattle.tool_stamp.proofs.Painted.{painted-places}

module _ (w h : ℕ) (l : List ℤ) (region : Selection) (inside : Within region w h) (z : ℤ) where
  abbrev olds : Change → Type 0
  olds c = c.old ≡ get_or l (place w c) (pos 0)

  -- a point that the region contains is on the sheet
  pub record OnSheet (p : Point) : Type 0 where
    pub column : nat_abs p.x < w
    pub row : nat_abs p.y < h

  on-sheet : (p : Point) → contains_i region p.x p.y ≡ true → OnSheet p
  unfolding contains_i contains
  on-sheet p e = go p.x p.y refl refl e
    where
      go : (x y : ℤ) → p.x ≡ x → p.y ≡ y → contains_i region x y ≡ true → OnSheet p
      go (pos x) (pos y) q r e = record {
        column = rw q (below_span region.x region.w x w inside.right (and_left (in_span region.x region.w x) (in_span region.y region.h y) e));
        row = rw r (below_span region.y region.h y h inside.below (and_right (in_span region.x region.w x) (in_span region.y region.h y) e));
      }
      go (pos x) (negsuc y) q r e = never e
      go (negsuc x) y q r e = never e

  one_on : (p : Point) → All (On w h) (change_at w l region z p)
  unfolding change_at All On
  one_on p = go (contains_i region p.x p.y) refl
    where
      go : (b : Bool) → contains_i region p.x p.y ≡ b
          → All (On w h) (cond b (record { x = nat_abs p.x; y = nat_abs p.y; old = get_or l (nat_abs p.y * w + nat_abs p.x) (pos 0); new = z } ∷ []) [])
      go true e = let o = on-sheet p e in ((o.column, o.row), tt)
      go false e = tt

  one-old : (p : Point) → All olds (change_at w l region z p)
  unfolding change_at All place
  one-old p = go (contains_i region p.x p.y)
    where
      go : (b : Bool) → All olds (cond b (record { x = nat_abs p.x; y = nat_abs p.y; old = get_or l (nat_abs p.y * w + nat_abs p.x) (pos 0); new = z } ∷ []) [])
      go true = (refl, tt)
      go false = tt

  pub all-on : (ps : List Point) → All (On w h) (changes_at w l region z ps)
  unfolding changes_at flat_map All
  all-on [] = tt
  all-on (p ∷ ps) = all_append (On w h) (change_at w l region z p) (flat_map (change_at w l region z) ps) (one_on p) (all-on ps)

  pub all-olds : (ps : List Point) → All olds (changes_at w l region z ps)
  unfolding changes_at flat_map All
  all-olds [] = tt
  all-olds (p ∷ ps) = all_append olds (change_at w l region z p) (flat_map (change_at w l region z) ps) (one-old p) (all-olds ps)

  -- and in the rows that hold the points
  one_in : (rows : Run) (p : Point) → (contains_i region p.x p.y ≡ true → (rows.start ≤ nat_abs p.y) × (nat_abs p.y < rows.start + rows.count))
      → All (InRows w rows.start rows.count) (change_at w l region z p)
  unfolding change_at All
  one_in rows p h = go (contains_i region p.x p.y) refl
    where
      here : Change
      here = record { x = nat_abs p.x; y = nat_abs p.y; old = get_or l (nat_abs p.y * w + nat_abs p.x) (pos 0); new = z }

      go : (b : Bool) → contains_i region p.x p.y ≡ b → All (InRows w rows.start rows.count) (cond b (here ∷ []) [])
      go true e = let r = h e in (record { column = (on-sheet p e).column; from = r.0; below = r.1 }, tt)
      go false e = tt

  pub all_in : (ps : List Point) (rows : Run) → Holds region ps rows → All (InRows w rows.start rows.count) (changes_at w l region z ps)
  unfolding changes_at
  all_in ps rows h = all-flat (InRows w rows.start rows.count) (change_at w l region z) ps (all_map (one_in rows) ps h.each)

  -- what a tool returns
  pub drawn-between : w ≤ 2 ^ 16 → length l ≡ w * h → (ps : List Point) → drawn w l region z ps ≡ between w l (set_all (places_of region w ps) z l)
  unfolding drawn
  drawn-between small size ps =
      normal-between w h small l size (changes_at w l region z ps) (all-on ps) (first-olds w l [] (changes_at w l region z ps) (all-olds ps))
      ∙ ap (between w l) (painted-places w l region z ps l)
