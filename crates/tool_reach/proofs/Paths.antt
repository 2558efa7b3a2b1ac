-- A path as the loop stamps it: the first point, then line after line, with what is left of the points as `drop i l`; and the checks of a list of
-- points. Assumes nothing.
use mathlib.Core.Path.{◌≡◌, refl, sym, ap, ◌∙◌}
use mathlib.Core.Bool.{true, false, or_assoc}
use mathlib.Core.List.{List, [], ◌∷◌, flat_map, append-nil}
use Prim.Native.Nat.{ℕ, ◌+◌, ◌-◌, ◌/◌, ◌%◌, ◌≤◌, ◌<◌}
use native.Mathlib.Omega.{arith}
use borrow.Author.Tests.{lt-ltb, le-ltb}
use lib.Dec.{ltb}
use lib.IntN.{ℤ, pos}
use Rattle.base.specs.Checks.{◌when◌, first_of}
use Rattle.base.proofs.First.{past}
use Rattle.tool_line.proofs.Points.{near}
use lib.ListN.{length, get_or, drop}
use mir.Syntax.{w32}
use mir.Val.{SFits}
use Rattle.base.specs.Lists.{some}
use Rattle.base.proofs.Scan.{some-none, drop-next, drop-end}
use Rattle.base.specs.Ints.{far}
use Rattle.base.proofs.Back.{near-abs}
use Rattle.selection.specs.declared.Selection.{Selection}
use Rattle.tool_line.specs.Line.{Point, point, Near, far_point, line_of}
use Rattle.tool_line.specs.Brush.{clamped, stamp_at, onward, path_of, stamped}
use Rattle.tool_line.proofs.Ends.{path-first}
use Rattle.tool_line.proofs.Toward.{small}
use Rattle.tool_stamp.specs.Places.{set_all, places_of, stamp_places}
use Rattle.tool_stamp.specs.Given.{corner_checks, points_of, point_checks}
use Rattle.tool_stamp.proofs.Stamps.{clamped-brush, brush-clamped, paint-append}
use Rattle.tool_stamp.proofs.Frames.{flat_map-same}

-- ---- a list of points
pub some-points : (l : List ℤ) → length l % 2 ≡ 0 → some far_point (points_of l) ≡ some far l
unfolding some points_of far_point
some-points [] e = refl
some-points (x ∷ []) e = absurd (omega arith)
some-points (x ∷ y ∷ l) e = rw (some-points l (omega arith)) (or_assoc (far x) (far y) (some far l))

pub length-points : (l : List ℤ) → length (points_of l) ≡ length l / 2
unfolding points_of
length-points [] = refl
length-points (x ∷ []) = refl
length-points (x ∷ y ∷ l) = let e = length-points l in omega arith

-- ---- the numbers at i
module _ (l : List ℤ) (none : some far l ≡ false) where
  abbrev at : ℕ → ℤ
  at i = get_or l i (pos 0)

  pub number-near : (i : ℕ) → i < length l → far (at i) ≡ false
  number-near i h = some-none far l i (pos 0) none h

  pub number_fits : (i : ℕ) → i < length l → SFits w32 (at i)
  number_fits i h = small (at i) (omega (arith, near-abs (at i) (number-near i h)))

  pub point-near : (i j : ℕ) → i < length l → j < length l → Near (point (at i) (at j))
  point-near i j h k = record { across = number-near i h; down = number-near j k }

-- ---- the loop
module _ (region : Selection) (w n : ℕ) (v : ℕ) (l : List ℤ) (s₀ : List ℕ) where
  abbrev get : ℕ → ℤ
  get i = get_or l i (pos 0)

  abbrev from : ℕ → Point
  from i = point (get (i - 2)) (get (i - 1))

  pub record Pathing (s : List ℕ) (i : ℕ) : Type 0 where
    pub two : 2 ≤ i
    pub upto : i ≤ length l
    pub even : i % 2 ≡ 0
    pub long : length s ≡ length s₀
    pub rest : set_all (stamp_places region w n (onward (from i) (points_of (drop i l)))) v s ≡ set_all (stamp_places region w n (onward (from 2) (points_of (drop 2 l)))) v s₀

  pair : (i : ℕ) → i + 1 < length l → points_of (drop i l) ≡ point (get i) (get (i + 1)) ∷ points_of (drop (i + 2) l)
  unfolding points_of
  pair i h =
      let next : i + 1 + 1 ≡ i + 2 = omega arith in
      ap points_of (drop-next l i (pos 0) (omega arith) ∙ ap (λ (k : List ℤ). get i ∷ k) (drop-next l (i + 1) (pos 0) h)) ∙ ap (λ (k : ℕ). point (get i) (get (i + 1)) ∷ points_of (drop k l)) next

  nothing : (s : List ℕ) → s ≡ set_all (stamp_places region w n (path_of (points_of []))) v s
  unfolding set_all stamp_places places_of flat_map path_of points_of
  nothing s = refl

  nothing_left : (s : List ℕ) (p : Point) → s ≡ set_all (stamp_places region w n (onward p (points_of []))) v s
  unfolding set_all stamp_places places_of flat_map onward points_of
  nothing_left s p = refl

  pub path-short : length l < 2 → (s : List ℕ) → s ≡ set_all (stamp_places region w n (path_of (points_of l))) v s
  unfolding points_of
  path-short h s = none l h
    where
      none : (k : List ℤ) → length k < 2 → s ≡ set_all (stamp_places region w n (path_of (points_of k))) v s
      none [] h = nothing s
      none (x ∷ []) h = nothing s
      none (x ∷ y ∷ k) h = absurd (omega arith)

  pub path-start : 2 ≤ length l → Pathing s₀ 2
  path-start h = record { two = omega arith; upto = h; even = refl; long = refl; rest = refl }

  -- with the first point
  pub path-whole : 2 ≤ length l → (s : List ℕ) → s₀ ≡ set_all (stamp_places region w n (point (get 0) (get 1) ∷ [])) v s
      → set_all (stamp_places region w n (onward (from 2) (points_of (drop 2 l)))) v s₀ ≡ set_all (stamp_places region w n (path_of (points_of l))) v s
  path-whole h s e =
      let p : Point = point (get 0) (get 1) in
      ap (set_all (stamp_places region w n (onward p (points_of (drop 2 l)))) v) e ∙ sym (paint-append region w n v (p ∷ []) (onward p (points_of (drop 2 l))) s)
      ∙ ap (λ (ps : List Point). set_all (stamp_places region w n ps) v s) (sym (path-first p (points_of (drop 2 l))) ∙ ap path_of (sym (pair 0 (omega arith))))

  pub path-next : (s t : List ℕ) (i : ℕ) → Pathing s i → i + 1 < length l
      → t ≡ set_all (stamp_places region w n (drop 1 (line_of (from i) (point (get i) (get (i + 1)))))) v s → length t ≡ length s → Pathing t (i + 2)
  unfolding onward
  path-next s t i r h e k =
      let even = r.even in
      let q : Point = point (get i) (get (i + 1)) in
      let here : from (i + 2) ≡ q = (let a : i + 2 - 2 ≡ i = omega arith in let b : i + 2 - 1 ≡ i + 1 = omega arith in rw (a, b)) in
      let line : List Point = drop 1 (line_of (from i) q) in
      let left : List Point = onward q (points_of (drop (i + 2) l)) in
      record {
        two = omega arith;
        upto = omega arith;
        even = omega arith;
        long = k ∙ r.long;
        rest = ap (λ (p : Point). set_all (stamp_places region w n (onward p (points_of (drop (i + 2) l)))) v t) here ∙ ap (set_all (stamp_places region w n left) v) e
            ∙ sym (paint-append region w n v line left s) ∙ ap (λ (ps : List Point). set_all (stamp_places region w n (onward (from i) ps)) v s) (sym (pair i h)) ∙ r.rest;
      }

  pub path-end : (s : List ℕ) (i : ℕ) → Pathing s i → length l ≤ i → s ≡ set_all (stamp_places region w n (onward (from 2) (points_of (drop 2 l)))) v s₀
  path-end s i r h = left (ap points_of (drop-end l i h)) ∙ r.rest
    where
      left : points_of (drop i l) ≡ points_of [] → s ≡ set_all (stamp_places region w n (onward (from i) (points_of (drop i l)))) v s
      left e = nothing_left s (from i) ∙ ap (λ (ps : List Point). set_all (stamp_places region w n (onward (from i) ps)) v s) (sym e)

-- ---- two points
pub two-path : (region : Selection) (w n v : ℕ) (a b : Point) (s₀ s t : List ℕ) → s ≡ set_all (stamp_places region w n (a ∷ [])) v s₀
    → t ≡ set_all (stamp_places region w n (drop 1 (line_of a b))) v s → t ≡ set_all (stamp_places region w n (path_of (a ∷ b ∷ []))) v s₀
unfolding onward
two-path region w n v a b s₀ s t e f =
    let rest : List Point = drop 1 (line_of a b) in
    f ∙ ap (set_all (stamp_places region w n rest) v) e ∙ sym (paint-append region w n v (a ∷ []) rest s₀)
    ∙ ap (λ (ps : List Point). set_all (stamp_places region w n ps) v s₀) (ap (λ (ps : List Point). a ∷ ps) (sym (append-nil rest)) ∙ sym (path-first a (b ∷ [])))

-- ---- a brush that was clamped
pub stamped-places : (region : Selection) (w size : ℕ) (ps : List Point) → stamp_places region w (clamped size) (path_of ps) ≡ places_of region w (stamped size ps)
unfolding stamp_places stamped stamp_at
stamped-places region w size ps = ap (places_of region w) (flat_map-same (stamp_at (clamped size)) (stamp_at size) (λ p. rw (clamped-brush (clamped size) (brush-clamped size))) (path_of ps))

-- ---- the checks
pub corners-near : (a b : Point) → first_of (corner_checks a b) ≡ 0 → Near a × Near b
unfolding corner_checks
corners-near a b e =
    let x = past (15 when far_point a) (15 when far_point b ∷ []) (omega arith) e in
    let y = past (15 when far_point b) [] (omega arith) x.rest in
    (near x.off, near y.off)

module _ (l : List ℤ) (even : length l % 2 ≡ 0) where
  pub points-long : 1048576 < length l / 2 → 21 ≡ first_of (point_checks l)
  unfolding point_checks first_of
  points-long h = rw (length-points l, lt-ltb 1048576 (length l / 2) h)

  module _ (short : length l / 2 ≤ 1048576) where
    pub points_far : true ≡ some far l → 15 ≡ first_of (point_checks l)
    unfolding point_checks first_of
    points_far e = rw (length-points l, le-ltb 1048576 (length l / 2) short, some-points l even, ← e)

    pub points-fine : false ≡ some far l → 0 ≡ first_of (point_checks l)
    unfolding point_checks first_of
    points-fine e = rw (length-points l, le-ltb 1048576 (length l / 2) short, some-points l even, ← e)

-- what 0 tells, of the checks as they stand
pub points_near : (l : List ℤ) → length l % 2 ≡ 0 → first_of (point_checks l) ≡ 0 → some far l ≡ false
unfolding point_checks
points_near l even e =
    let x = past (21 when ltb 1048576 (length (points_of l))) (15 when some far_point (points_of l) ∷ []) (omega arith) e in
    let y = past (15 when some far_point (points_of l)) [] (omega arith) x.rest in
    sym (some-points l even) ∙ y.off
