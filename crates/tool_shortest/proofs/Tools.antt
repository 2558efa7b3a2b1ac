-- E13, tool by tool: what a tool lists is on the sheet, has the sheet's indices as first olds, and brings only indices that it was given, or that the sheet or the clip
-- has; and it is in normal form. Assumes nothing.
use Prim.Native.Nat.{ℕ, zero, suc, ◌+◌, ◌*◌, ◌/◌, ◌%◌, ◌^◌, ◌<◌, ◌≤◌}
use mathlib.Core.Path.{◌≡◌, refl, sym, ap, ◌∙◌}
use mathlib.Core.Bool.{Bool, true, false, cond, not, ◌&&◌}
use mathlib.Core.List.{List, [], ◌∷◌, ◌++◌, map, flat_map}
use native.Mathlib.Omega.{arith}
use native.Mathlib.Nat.{mul_comm, zero-mul, mod-lt}
use borrow.Author.Tests.{eqb-true, leb-true, not-false}
use lib.Dec.{leb, ltb, eqb}
use lib.IntN.{ℤ, pos, negsuc, nat_abs, ◌+ℤ◌}
use lib.ListN.{length, get_or, take}
use Rattle.base.specs.Numbers.{too_far}
use Rattle.base.specs.Checks.{Check, ◌when◌, first_of}
use Rattle.base.proofs.First.{PastBoth, past-both, Past, past}
use Rattle.base.specs.Lists.{range, some, kept, All}
use Rattle.base.proofs.Bools.{and_left, and_right}
use Rattle.base.proofs.Each.{all_of, all_map, all_append, all-mapped, all-flat, all-in-range}
use Rattle.base.proofs.Kept.{all-kept}
use Rattle.base.specs.Ints.{eq_z, far}
use Rattle.selection_spans.specs.Positions.{Position, position}
use Rattle.sheet.specs.Sheet.{Sheet, stray}
use Rattle.sheet.specs.Checks.{sheet_checks, WellFormed}
use Rattle.sheet.specs.Document.{index_at}
use mathlib.Core.Option.{Option}
use mathlib.Core.Option as option
use Rattle.sheet.proofs.Judging.{none-applied}
use Rattle.selection.specs.declared.Selection.{Selection}
use Rattle.selection.specs.declared.Area.{Area}
use Rattle.selection.specs.declared.Area.TheVariants as area
use Rattle.selection.specs.Selection.{inside, all, positions, contains_i}
use Rattle.selection.specs.Calls.{shift_checks}
use Rattle.selection.specs.Region.{off_sheet, region_checks, region_in}
use Rattle.selection.proofs.Regions.{Within}
use Rattle.tool_line.specs.Line.{Point}
use Rattle.edit.specs.Change.{Change, place, unpacked}
use Rattle.change_normal.specs.Normal.{key_of, changing, normalize_of}
use Rattle.change_normal.specs.Laws.{On, SheetOlds, Ordered}
use Rattle.change_normal.proofs.Shortest.{first-olds}
use Rattle.tool_stamp.specs.Points.{change_at, changes_at, drawn, pencil_of, rectangle_of}
use Rattle.tool_stamp.specs.Given.{corner_checks, point_checks}
use Rattle.tool_draw.specs.Calls.{draw_checks, pencil_call, eraser_call, line_call, rectangle_call}
use Rattle.tool_draw.proofs.Drawn.{all-on, all-olds}
use Rattle.tool_fill_model.specs.Fills.{has_index, replacing, replaced, from_pixel, global, replace_color_of, fill_global_of}
use Rattle.tool_fill_model.specs.Fills as fills
use Rattle.tool_fill_model.proofs.ReplacedOlds.{replaced-olds}
use Rattle.tool_fill_model.specs.Flood as flood
use Rattle.tool_fill_model.specs.Flood.{flooded, flood_of}
use Rattle.tool_fill_model.proofs.Olds.{flood-olds}
use Rattle.tool_fill_model.specs.Fill.{start_of, fill_of, fill_checks, flood_fill_of}
use Rattle.sheet.proofs.Places as places
use Rattle.tool_paste_model.specs.Blocks.{index_in, onto_got, onto, landed}
use Rattle.tool_paste_model.proofs.Placing.{Good, good-landed}
use Rattle.tool_paste_model.specs.Pasting.{paste_changes, clip_checks, paste_checks, paste_call}
use Rattle.tool_paste_model.specs.Moves.{cleared, move_changes, unmoved, moved_list, move_checks, move_call}
use Rattle.tool_paste_model.proofs.MovePlacing.{good-move}
use Rattle.change_stroke.specs.Stroke.{extended, extend_call}
use Rattle.change_normal.proofs.ByPlace.{normal-itself}
use Rattle.tool_fill_model.proofs.RowScan.{key-less}
use Rattle.tool_shortest.proofs.Rising.{rising-kept, ordered-map}
use Rattle.tool_shortest.proofs.Places.{rising-range, rows_in, key_at, rising-rows, row_below}
use Rattle.tool_shortest.specs.Shortest.{Drawn, Shortest, Returned, Returns, Shifts, Known, ShortestStroke}
use Rattle.tool_shortest.proofs.Such.{shortest-of, returned-normal, drawn-append, index-known}
use Rattle.tool_shortest.proofs.Answered.{Fine, returns-listed, returns-checked, returns-left}

-- ---- a region that is inside
pub region-within : (a : Area) (w h : ℕ) → first_of (region_checks a w h) ≡ 0 → Within (region_in a w h) w h
unfolding region_checks off_sheet region_in inside all
region-within area.Whole w h e = record { right = omega arith; below = omega arith }
region-within (area.Part p) w h e =
    let o = (past _ [] (omega arith) e).off in
    let i = not-false _ o in
    record {
      right = leb-true _ _ (and_left (leb (p.x + p.w) w) (leb (p.y + p.h) h) i);
      below = leb-true _ _ (and_right (leb (p.x + p.w) w) (leb (p.y + p.h) h) i);
    }

-- -1 is in every range
transparent : (k : ℕ) → stray k (negsuc 0) ≡ false
unfolding stray
transparent k = refl

module _ (s : Sheet) where
  abbrev news : Change → Type 0
  news c = stray s.k c.new ≡ false

  -- ---- brushes
  module _ (f : WellFormed s) (region : Selection) (i : Within region s.w s.h) (z : ℤ) (known : Known s z) where
    one-new : (p : Point) → All news (change_at s.w s.indices region z p)
    unfolding change_at All
    one-new p = go (contains_i region p.x p.y)
      where
        go : (b : Bool) → All news (cond b (record { x = nat_abs p.x; y = nat_abs p.y; old = get_or s.indices (nat_abs p.y * s.w + nat_abs p.x) (pos 0); new = z } ∷ []) [])
        go true = (known, tt)
        go false = tt

    all-news : (ps : List Point) → All news (changes_at s.w s.indices region z ps)
    unfolding changes_at flat_map All
    all-news [] = tt
    all-news (p ∷ ps) = all_append news (change_at s.w s.indices region z p) (flat_map (change_at s.w s.indices region z) ps) (one-new p) (all-news ps)

    pub brush : (ps : List Point) → Returned s (drawn s.w s.indices region z ps)
    unfolding drawn
    brush ps =
        let cs = changes_at s.w s.indices region z ps in
        returned-normal s f cs (record {
          on = all-on s.w s.h s.indices region i z ps;
          olds = first-olds s.w s.indices [] cs (all-olds s.w s.h s.indices region i z ps);
          news = all-news ps;
        })

  pub record Stage (area : Area) : Type 0 where
    pub fits : WellFormed s
    pub within : Within (region_in area s.w s.h) s.w s.h

  staged : (given : List Check) (area : Area) (room : ℕ) → first_of (draw_checks s given area room) ≡ 0 → Stage area
  unfolding draw_checks
  staged given area room e =
      let a = past-both (sheet_checks [] s) _ e in
      let b = past-both given _ a.right in
      let c = past-both (region_checks area s.w s.h) _ b.right in
      record { fits = none-applied s a.left; within = region-within area s.w s.h c.left }

  pencil : (area : Area) (points : List ℤ) (size : ℕ) (index : ℤ) (room : ℕ) (out : List ℕ) → Known s index → Returns s (pencil_call s area points size index room out)
  unfolding pencil_call pencil_of
  pencil area points size index room out k =
      returns-listed s _ out _ (λ e. let t = staged (point_checks points) area room (past _ _ (omega arith) e).rest in
      record { fits = t.fits; returned = brush t.fits _ t.within index k _ })

  line : (area : Area) (a b : Point) (size : ℕ) (index : ℤ) (room : ℕ) (out : List ℕ) → Known s index → Returns s (line_call s area a b size index room out)
  unfolding line_call pencil_of
  line area a b size index room out k =
      returns-listed s _ out _ (λ e. let t = staged (corner_checks a b) area room e in record { fits = t.fits; returned = brush t.fits _ t.within index k _ })

  rectangle : (area : Area) (a b : Point) (filled : Bool) (index : ℤ) (room : ℕ) (out : List ℕ) → Known s index → Returns s (rectangle_call s area a b filled index room out)
  unfolding rectangle_call rectangle_of
  rectangle area a b filled index room out k =
      returns-listed s _ out _ (λ e. let t = staged (corner_checks a b) area room e in record { fits = t.fits; returned = brush t.fits _ t.within index k _ })

  -- ---- a list that names each place once, in order, with the sheet's olds
  scanned : (cs : List Change) → All (On s.w s.h) cs → SheetOlds s.w s.indices cs → All news cs → normalize_of cs ≡ cs → Returned s cs
  unfolding SheetOlds
  scanned cs a b c n = record { drawn = record { on = a; olds = first-olds s.w s.indices [] cs b; news = c }; normal = n }

  nothing : Returned s []
  unfolding All SheetOlds Ordered
  nothing = scanned [] tt tt tt (normal-itself [] tt tt)

  -- ---- `replace_color`, `fill_global`
  module _ (f : WellFormed s) (region : Selection) (i : Within region s.w s.h) (from to : ℤ) (known : Known s to) where
    abbrev found : List Position
    found = kept (has_index s.w s.indices from) (positions region)

    each : (P : Change → Type 0) → ((x y : ℕ) → x < s.w → y < s.h → P (replacing from to (position y x))) → All P (map (replacing from to) found)
    unfolding positions
    each P g =
        let a = i.right in
        let b = i.below in
        all-mapped P (replacing from to) found (all-kept (λ p. P (replacing from to p)) (has_index s.w s.indices from) (positions region)
        (rows_in (λ p. P (replacing from to p)) region.x region.w region.y region.h (λ x y c d e g'. g x y (omega arith) (omega arith))))

    in_order : Ordered (map (replacing from to) found)
    unfolding positions replacing key_of
    in_order =
        let a = i.right in
        let b = f.limits.w-small in
        ordered-map key_at (replacing from to) (λ p. refl) found
        (rising-kept key_at (has_index s.w s.indices from) (positions region) (rising-rows region.x region.w region.y region.h (omega arith)))

    all-change : eq_z from to ≡ false → All (λ c. changing c ≡ true) (map (replacing from to) found)
    unfolding changing replacing
    all-change e = each (λ c. changing c ≡ true) (λ x y a b. rw e)

    on-all : All (On s.w s.h) (map (replacing from to) found)
    unfolding On replacing
    on-all = each (On s.w s.h) (λ x y a b. (a, b))

    known-all : All news (map (replacing from to) found)
    unfolding replacing
    known-all = each news (λ x y a b. known)

    olds-all : eq_z from to ≡ false → SheetOlds s.w s.indices (map (replacing from to) found)
    unfolding replaced
    olds-all e = rw e at (replaced-olds s.w s.indices region from to)

    pub replace : Returned s (replaced s.w s.indices region from to)
    unfolding replaced
    replace = go (eq_z from to) refl
      where
        go : (b : Bool) → eq_z from to ≡ b → Returned s (cond b [] (map (replacing from to) found))
        go true e = nothing
        go false e = scanned (map (replacing from to) found) on-all (olds-all e) known-all (normal-itself (map (replacing from to) found) in_order (all-change e))

  replace-color : (area : Area) (from to : ℤ) (out : List ℕ) → Known s to → Returns s (replace_color_of s area from to out)
  unfolding replace_color_of fills.listed
  replace-color area from to out k =
      returns-checked s _ out _ (λ e.
      let a = past-both (sheet_checks [] s ++ region_checks area s.w s.h) _ e in
      let b = past-both (sheet_checks [] s) (region_checks area s.w s.h) a.left in
      let f = none-applied s b.left in
      record { fits = f; returned = replace f _ (region-within area s.w s.h b.right) from to k })

  globally : (f : WellFormed s) (region : Selection) (i : Within region s.w s.h) (x y index : ℤ) → Known s index → Returned s (global s region x y index)
  unfolding global from_pixel
  globally f region i x y index k = go (index_at s.w s.h s.indices x y) (contains_i region x y)
    where
      go : (g : Option ℤ) (b : Bool) → Returned s (from_pixel g b (λ from. replaced s.w s.indices region from index))
      go (option.some from) true = replace f region i from index k
      go (option.some from) false = nothing
      go option.none b = nothing

  fill-global : (area : Area) (x y index : ℤ) (out : List ℕ) → Known s index → Returns s (fill_global_of s area x y index out)
  unfolding fill_global_of fills.listed
  fill-global area x y index out k =
      returns-checked s _ out _ (λ e.
      let a = past-both (sheet_checks [] s ++ ((too_far when far x ∷ too_far when far y ∷ []) ++ region_checks area s.w s.h)) _ e in
      let b = past-both (sheet_checks [] s) _ a.left in
      let c = past-both (too_far when far x ∷ too_far when far y ∷ []) (region_checks area s.w s.h) b.right in
      let f = none-applied s b.left in
      record { fits = f; returned = globally f _ (region-within area s.w s.h c.right) x y index k })

  -- ---- `flood_fill`
  module _ (f : WellFormed s) (region : Selection) (start : ℕ) (z : ℤ) (known : Known s z) (other : eq_z (get_or s.indices start (pos 0)) z ≡ false) where
    abbrev old : ℤ
    old = get_or s.indices start (pos 0)

    abbrev reached : List ℕ
    reached = kept (flooded s.w s.indices region start) (range 0 (length s.indices))

    size : length s.indices ≡ s.w * s.h
    size = f.limits.indices-length

    wide : (p : ℕ) → p < length s.indices → 0 < s.w
    wide p h = go s.w refl
      where
        go : (w : ℕ) → s.w ≡ w → 0 < s.w
        go zero e = absurd (omega (arith, size, ap (λ (v : ℕ). v * s.h) e, zero-mul s.h))
        go (suc w) e = omega arith

    at_each : (P : Change → Type 0) → ((p : ℕ) → p < length s.indices → P (flood.change_at s.w old z p)) → All P (map (flood.change_at s.w old z) reached)
    at_each P g =
        all-mapped P (flood.change_at s.w old z) reached (all-kept (λ p. P (flood.change_at s.w old z p)) (flooded s.w s.indices region start) (range 0 (length s.indices))
        (all-in-range (λ p. P (flood.change_at s.w old z p)) 0 (length s.indices) (λ p a b. g p (omega arith))))

    on-flood : All (On s.w s.h) (map (flood.change_at s.w old z) reached)
    unfolding On flood.change_at
    on-flood =
        let a = f.limits.w-small in
        at_each (On s.w s.h) (λ p h. (mod-lt p (wide p h), row_below s.w (wide p h) s.h p (rw size at h)))

    known-flood : All news (map (flood.change_at s.w old z) reached)
    unfolding flood.change_at
    known-flood = at_each news (λ p h. known)

    change-flood : All (λ c. changing c ≡ true) (map (flood.change_at s.w old z) reached)
    unfolding changing flood.change_at
    change-flood = at_each (λ c. changing c ≡ true) (λ p h. rw other)

    in-order-flood : (n : ℕ) → length s.indices ≡ n → Ordered (map (flood.change_at s.w old z) (kept (flooded s.w s.indices region start) (range 0 n)))
    unfolding flood.change_at key_of range kept Ordered
    in-order-flood zero e = tt
    in-order-flood (suc n) e =
        let a = f.limits.w-small in
        let w = wide 0 (omega arith) in
        let key : ℕ → ℕ = λ p. key_of (flood.change_at s.w old z p) in
        ordered-map key (flood.change_at s.w old z) (λ p. refl) _
        (rising-kept key (flooded s.w s.indices region start) (range 0 (suc n)) (rising-range key (key-less s.w w (omega arith) old z) 0 (suc n)))

    pub flooding : Returned s (flood_of s.w s.indices region start z)
    unfolding flood_of
    flooding =
        let cs = map (flood.change_at s.w old z) reached in
        scanned cs on-flood (flood-olds s.w s.indices region start z) known-flood (normal-itself cs (in-order-flood (length s.indices) refl) change-flood)

  flood-fill : (area : Area) (x y index : ℤ) (room : ℕ) (out : List ℕ) → Known s index → Returns s (flood_fill_of s area x y index room out)
  unfolding flood_fill_of fill_of fill_checks
  flood-fill area x y index room out k =
      returns-checked s _ out _ (λ e.
      let a = past-both (fill_checks s area x y room) _ e in
      let b = past-both (sheet_checks [] s) _ a.left in
      let f = none-applied s b.left in
      record { fits = f; returned = go f (contains_i (region_in area s.w s.h) x y) (eq_z (get_or s.indices (start_of s.w x y) (pos 0)) index) refl })
    where
      go : (f : WellFormed s) (b c : Bool) → eq_z (get_or s.indices (start_of s.w x y) (pos 0)) index ≡ c
          → Returned s (cond (b && not c) (flood_of s.w s.indices (region_in area s.w s.h) (start_of s.w x y) index) [])
      go f true true e = nothing
      go f true false e = flooding f (region_in area s.w s.h) (start_of s.w x y) index k e
      go f false c e = nothing

  -- ---- `move_selection`, `paste`: what lands brings an index of the source
  one-lands : (tx ty z : ℤ) → stray s.k z ≡ false → All news (onto s.w s.h s.indices tx ty z)
  unfolding onto onto_got All
  one-lands tx ty z k = go (index_at s.w s.h s.indices tx ty)
    where
      go : (g : Option ℤ) → All news (onto_got tx ty z g)
      go (option.some old) = (k, tt)
      go option.none = tt

  landed-news : (sw : ℕ) (source : List ℤ) (dx dy : ℤ) (ps : List Position) → All (λ p. stray s.k (index_in sw source p) ≡ false) ps
      → All news (landed s.w s.h s.indices sw source dx dy ps)
  unfolding landed
  landed-news sw source dx dy ps a = all-flat news _ ps (all_map {Q = λ p. All news (onto s.w s.h s.indices (pos p.x +ℤ dx) (pos p.y +ℤ dy) (index_in sw source p))} (λ p k. one-lands (pos p.x +ℤ dx) (pos p.y +ℤ dy) (index_in sw source p) k) ps a)

  -- the indices of a rectangle that lies inside a source in rows of sw
  source_known : (sw sh : ℕ) (source : List ℤ) (part : Selection) → length source ≡ sw * sh → part.x + part.w ≤ sw → part.y + part.h ≤ sh → some (stray s.k) source ≡ false
      → All (λ p. stray s.k (index_in sw source p) ≡ false) (positions part)
  unfolding positions
  source_known sw sh source part size a b e =
      rows_in (λ p. stray s.k (index_in sw source p) ≡ false) part.x part.w part.y part.h
      (λ x y c d g h. index-known s.k source (y * sw + x) e (rw size (places.place {w = sw} {h = sh} {y = y} {x = x} (omega arith) (omega arith))))

  good : (f : WellFormed s) (cs : List Change) → All (Good s.w s.h s.indices) cs → All news cs → Returned s (normalize_of cs)
  good f cs g n =
      returned-normal s f cs (record {
        on = all_map (λ c d. d.on) cs g;
        olds = first-olds s.w s.indices [] cs (all_map (λ c d. d.old-is) cs g);
        news = n;
      })

  cleared-news : (w : ℕ) (l : List ℤ) (ps : List Position) → All news (cleared w l ps)
  unfolding cleared
  cleared-news w l ps = all-mapped news _ ps (all_of (λ p. transparent s.k) ps)

  clip-size : (cw ch : ℕ) (clip : List ℤ) (x y : ℤ) (room pixels : ℕ) → first_of (clip_checks cw ch clip x y room pixels) ≡ 0 → length clip ≡ cw * ch
  unfolding clip_checks
  clip-size cw ch clip x y room pixels e =
      let far-x = past _ _ (omega arith) e in
      let far-y = past _ _ (omega arith) far-x.rest in
      let wide = past _ _ (omega arith) far-y.rest in
      let high = past _ _ (omega arith) wide.rest in
      let size = past _ _ (omega arith) high.rest in
      eqb-true (length clip) (cw * ch) (not-false _ size.off)

  whole-w : (cw ch : ℕ) → (all cw ch).x + (all cw ch).w ≤ cw
  unfolding all
  whole-w cw ch = omega arith

  whole-h : (cw ch : ℕ) → (all cw ch).y + (all cw ch).h ≤ ch
  unfolding all
  whole-h cw ch = omega arith

  moving : (f : WellFormed s) (part : Selection) → Within part s.w s.h → (dx dy : ℤ) → Returned s (moved_list s.w s.h s.indices part dx dy)
  unfolding moved_list move_changes
  moving f part i dx dy = go (unmoved dx dy)
    where
      go : (b : Bool) → Returned s (cond b [] (normalize_of (cleared s.w s.indices (positions part) ++ landed s.w s.h s.indices s.w s.indices dx dy (positions part))))
      go true = nothing
      go false =
          let l = s.indices in
          let from = source_known s.w s.h l part f.limits.indices-length i.right i.below f.in-range in
          good f _ (good-move s.w s.h l part dx dy i.right i.below)
          (all_append news (cleared s.w l (positions part)) _ (cleared-news s.w l (positions part)) (landed-news s.w l dx dy (positions part) from))

  move-selection : (part : Selection) (dx dy : ℤ) (room : ℕ) (out : List ℕ) → Shifts s (move_call s part dx dy room out)
  unfolding move_call move_checks shift_checks inside
  move-selection part dx dy room out =
      returns-left s _ out _ _ (λ e.
      let a = past-both (sheet_checks [] s) _ e in
      let b = past-both (shift_checks part dx dy s.w s.h) _ a.right in
      let off = (past _ [] (omega arith) (past _ _ (omega arith) (past _ _ (omega arith) b.left).rest).rest).off in
      let i = not-false _ off in
      let f = none-applied s a.left in
      record {
        fits = f;
        returned = moving f part (record {
          right = leb-true _ _ (and_left (leb (part.x + part.w) s.w) (leb (part.y + part.h) s.h) i);
          below = leb-true _ _ (and_right (leb (part.x + part.w) s.w) (leb (part.y + part.h) s.h) i);
        }) dx dy;
      })

  paste : (cw ch : ℕ) (clip : List ℤ) (x y : ℤ) (room : ℕ) (out : List ℕ) → some (stray s.k) clip ≡ false → Shifts s (paste_call s cw ch clip x y room out)
  unfolding paste_call paste_checks paste_changes
  paste cw ch clip x y room out k =
      returns-left s _ out _ _ (λ e.
      let a = past-both (sheet_checks [] s) _ e in
      let f = none-applied s a.left in
      let size = clip-size cw ch clip x y room (length s.indices) a.right in
      record {
        fits = f;
        returned = good f _ (good-landed s.w s.h s.indices cw clip x y (positions (all cw ch)))
            (landed-news cw clip x y (positions (all cw ch)) (source_known cw ch clip (all cw ch) size (whole-w cw ch) (whole-h cw ch) k));
      })

  -- ---- `Stroke`
  extend : first_of (sheet_checks [] s) ≡ 0 → (room count : ℕ) (list stroke : List ℕ) → Drawn s (map unpacked (take count stroke)) → Drawn s (map unpacked list)
      → Returns s (extend_call room count list stroke)
  unfolding extend_call extended
  extend e room count list stroke a b =
      let f = none-applied s e in
      returns-listed s _ stroke _ (λ q. record { fits = f; returned = returned-normal s f _ (drawn-append s f _ _ a b) })

  pub shortest-stroke : ShortestStroke s
  unfolding eraser_call
  shortest-stroke =
      record {
        lists = λ e cs d. shortest-of s (none-applied s e) cs d;
        pencil = pencil;
        eraser = λ area points size room out. pencil area points size (negsuc 0) room out (transparent s.k);
        line = line;
        rectangle = rectangle;
        flood-fill = flood-fill;
        fill-global = fill-global;
        replace-color = replace-color;
        move-selection = move-selection;
        paste = paste;
        begun = nothing;
        extend = extend;
      }
