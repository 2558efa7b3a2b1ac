-- The rows that a tool's points reach inside the region: points from one row to another lie in those two clipped to the region. Assumes nothing.
use mathlib.Core.Path.{◌≡◌, refl, sym, ap, ◌∙◌}
use mathlib.Core.Bool.{Bool, true, false, cond, ◌||◌}
use mathlib.Core.List.{List, [], ◌∷◌, ◌++◌, map, flat_map}
use Prim.Native.Nat.{ℕ, zero, suc, ◌+◌, ◌-◌, ◌/◌, ◌%◌, ◌<◌, ◌≤◌, min, max}
use native.Mathlib.Omega.{arith}
use native.Mathlib.Decide.{dec_lt}
use borrow.Author.Tests.{leb-true, ltb-true}
use lib.Dec.{leb, ltb}
use lib.IntN.{ℤ, pos, negsuc, nat_abs, ◌+ℤ◌, ◌-ℤ◌, +ℤ_comm, +ℤ-neg_ℤ_cancel}
use lib.ListN.{length, get_or, drop, get_or-append, length-append, length-drop}
use lib.Seq.{get_or-drop, drop-drop, drop-append_seam}
use lib.Signed.{lt_z}
use Rattle.base.specs.Lists.{range, some, All}
use Rattle.base.proofs.Bools.{and_left, and_right}
use Rattle.base.proofs.Each.{all_of, all_map, all-mapped, all-flat, all-in-range}
use Rattle.base.proofs.Scan.{some-none}
use Rattle.base.specs.Ints.{far, eq_z, from_zero, up_to, min_z, max_z}
use Rattle.base.proofs.Back.{never}
use Rattle.selection_spans.specs.Spans.{in_span}
use Rattle.selection.specs.declared.Selection.{Selection}
use Rattle.selection.specs.Selection.{contains, contains_i}
use Rattle.tool_line.specs.Line.{Point, point}
use Rattle.tool_line.specs.Within.{Upto, Spanned}
use Rattle.tool_line.specs.Brush.{clamped, stamp_at, path_of, stamped}
use Rattle.tool_line.proofs.Within.{Down, upto-more, upto-on, more-apart, first-spanned, second-spanned, stamps-down}
use Rattle.tool_stamp.specs.declared.Run.{Run}
use Rattle.tool_reach.specs.declared.Reach.{Reach}
use Rattle.tool_stamp.specs.Points.{through, row_of, rectangle_points}
use Rattle.tool_stamp.specs.Places.{clipped, Brush, Close}
use Rattle.tool_stamp.specs.Given.{points_of}
use Rattle.tool_reach.specs.Reached.{Holds, Spans, wider}
use Rattle.tool_stamp.proofs.Frames.{flat_map-same}
use Rattle.tool_stamp.proofs.Stamps.{clamped-brush, brush-clamped, near-close}

-- ---- a row number beside a bound with a sign
from_low : (low : ℤ) (y : ℕ) → Upto low (pos y) → from_zero low ≤ y
unfolding from_zero
from_low (pos a) y u = let e : y ≡ a + u.places = ap nat_abs u.is in omega arith
from_low (negsuc a) y u = omega arith

below-high : (high : ℤ) (y : ℕ) → Upto (pos y) high → y < up_to high
unfolding up_to
below-high high y u = rw u.is (omega arith)

-- ---- rows that hold all points from `low` to `high`
module _ (region : Selection) (low high : ℤ) (rows : Run) where
  abbrev end : ℕ
  end = region.y + region.h

  -- they start early enough, and end late enough
  pub record Wide : Type 0 where
    pub first : rows.start ≤ max (from_zero low) region.y
    pub last : min (up_to high) end ≤ rows.start + rows.count
    pub ends : rows.start + rows.count ≤ end

  module _ (w : Wide) where
    point-held : (p : Point) → Down low high p → contains_i region p.x p.y ≡ true
        → (rows.start ≤ nat_abs p.y) × (nat_abs p.y < rows.start + rows.count)
    unfolding contains_i contains in_span
    point-held p d e = go p.x p.y d e
      where
        go : (x y : ℤ) → Spanned low high y → contains_i region x y ≡ true → (rows.start ≤ nat_abs y) × (nat_abs y < rows.start + rows.count)
        go (pos x) (pos y) d e =
            let f = w.first in
            let l = w.last in
            let s = and_right (in_span region.x region.w x) (in_span region.y region.h y) e in
            let a : region.y ≤ y = leb-true _ _ (and_left (leb region.y y) (ltb y end) s) in
            let b : y < end = ltb-true _ _ (and_right (leb region.y y) (ltb y end) s) in
            let c = from_low low y d.from in
            let k = below-high high y d.upto in
            (omega arith, omega arith)
        go (pos x) (negsuc y) d e = never e
        go (negsuc x) y d e = never e

    pub rows-hold : (ps : List Point) → All (Down low high) ps → Holds region ps rows
    rows-hold ps a = record { ends = w.ends; each = all_map point-held ps a }

-- ---- the rows of a rectangle
through-spanned : (a b : ℤ) → Upto a b → All (Spanned a b) (through a b)
unfolding through from_zero
through-spanned a b u =
    let k : ℕ = u.places in
    let apart : b -ℤ a ≡ pos k = ap (λ z. z -ℤ a) (u.is ∙ +ℤ_comm a (pos k)) ∙ +ℤ-neg_ℤ_cancel (pos k) a in
    rw apart
    (all-mapped (Spanned a b) (λ (i : ℕ). a +ℤ pos i) (range 0 (k + 1))
    (all-in-range _ 0 (k + 1) (λ i h l. record { from = upto-more a i; upto = rw u.is (more-apart a i k (omega arith)) })))

pub rectangle-down : (a b : Point) (filled : Bool) → All (Down (min_z a.y b.y) (max_z a.y b.y)) (rectangle_points a b filled)
unfolding rectangle_points
rectangle-down a b filled =
    let y0 : ℤ = min_z a.y b.y in
    let y1 : ℤ = max_z a.y b.y in
    let s = first-spanned a.y b.y in
    let row : ℤ → List ℤ = λ y. row_of (filled || (eq_z y y0 || eq_z y y1)) (min_z a.x b.x) (max_z a.x b.x) in
    all-flat (Down y0 y1) _ (through y0 y1)
    (all_map {P = Spanned y0 y1} (λ y d. all-mapped (Down y0 y1) (λ (x : ℤ). point x y) (row y) (all_of (λ x. d) (row y))) (through y0 y1)
    (through-spanned y0 y1 (upto-on s.from s.upto)))

pub clipped-wide : (region : Selection) (low high : ℤ) → Wide region low high (clipped low high region.y (region.y + region.h))
unfolding clipped
clipped-wide region low high = record { first = omega arith; last = omega arith; ends = omega arith }

-- ---- the rows of a stroke
module _ (region : Selection) (n : ℕ) (b : Brush n) (low high : ℤ) where
  -- one axis of the brush at z
  abbrev stamp : ℤ → Run
  stamp z = clipped (z -ℤ pos ((n - 1) / 2)) (z -ℤ pos ((n - 1) / 2) +ℤ pos (n - 1)) region.y (region.y + region.h)

  abbrev reached : (z : ℤ) → Wide region (z -ℤ pos ((n - 1) / 2)) (z -ℤ pos ((n - 1) / 2) +ℤ pos (n - 1)) (stamp z)
  reached z = clipped-wide region (z -ℤ pos ((n - 1) / 2)) (z -ℤ pos ((n - 1) / 2) +ℤ pos (n - 1))

  pub stamp-ends : {run : Run} → run ≡ stamp high → run.start + run.count ≤ region.y + region.h
  stamp-ends e = rw e (reached high).ends

  stroke-wide : Wide region (low -ℤ pos ((n - 1) / 2)) (high -ℤ pos ((n - 1) / 2) +ℤ pos (n - 1))
      (record { start = (stamp low).start; count = (stamp high).start + (stamp high).count - (stamp low).start })
  stroke-wide =
      let a = (reached low).ends in
      let b = (reached high).ends in
      record { first = (reached low).first; last = more _ (reached high).last; ends = omega arith }
    where
      more : (s : ℕ) {x t : ℕ} → x ≤ t → x ≤ s + (t - s)
      more s h = omega arith

  pub stroke-holds : {first last : Run} → first ≡ stamp low → last ≡ stamp high → (ps : List Point) → All (Down low high) ps
      → Holds region (stamped n ps) (record { start = first.start; count = last.start + last.count - first.start })
  stroke-holds e f ps a = rw (e, f) (rows-hold region _ _ _ stroke-wide (stamped n ps) (rw (clamped-brush n b) at (stamps-down low high n ps a)))

-- no point
pub none-held : (region : Selection) (n : ℕ) (l : List ℤ) → length l < 2 → Holds region (stamped n (points_of l)) (record { start = region.y; count = 0 })
unfolding points_of stamped path_of flat_map All
none-held region n [] h = record { ends = omega arith; each = tt }
none-held region n (x ∷ []) h = record { ends = omega arith; each = tt }
none-held region n (x ∷ y ∷ l) h = absurd (omega arith)

-- ---- the pass over the points
close-pick : (a b : ℤ) → Close a → Close b → (t : Bool) → Close (cond t b a)
close-pick a b p q true = q
close-pick a b p q false = p

-- a line's two ends
pub ends_close : (a b : ℤ) → Close a → Close b → Close (min_z a b) × Close (max_z a b)
unfolding min_z max_z
ends_close a b p q = (close-pick a b p q (lt_z b a), close-pick a b p q (lt_z a b))

pub ends-down : (a b : Point) → All (Down (min_z a.y b.y) (max_z a.y b.y)) (a ∷ b ∷ [])
unfolding All
ends-down a b = (first-spanned a.y b.y, (second-spanned a.y b.y, tt))

wider-keeps : (r : Reach) (y : ℤ) {z : ℤ} → Spanned r.low r.high z → Spanned (min_z r.low y) (max_z r.high y) z
wider-keeps r y s = record { from = upto-on (first-spanned r.low y).from s.from; upto = upto-on s.upto (first-spanned r.high y).upto }

wider-has : (r : Reach) (y : ℤ) → Spanned (min_z r.low y) (max_z r.high y) y
wider-has r y = record { from = (second-spanned r.low y).from; upto = (second-spanned r.high y).upto }

points-each : (Q : ℤ → Type 0) (l : List ℤ) → ((k : ℕ) → k < length l → k % 2 ≡ 1 → Q (get_or l k (pos 0))) → All (λ p. Q p.y) (points_of l)
unfolding points_of All
points-each Q [] h = tt
points-each Q (x ∷ []) h = tt
points-each Q (x ∷ y ∷ l) h = (h 1 (omega arith) refl, points-each Q l (λ k a b. h (suc (suc k)) (omega arith) (omega arith)))

module _ (l : List ℤ) where
  pub record Reaching (r : Reach) (i : ℕ) : Type 0 where
    pub odd : i % 2 ≡ 1
    pub low-close : Close r.low
    pub high-close : Close r.high
    pub each : (k : ℕ) → k < i → k % 2 ≡ 1 → Spanned r.low r.high (get_or l k (pos 0))

  module _ (near : some far l ≡ false) where
    at-close : (i : ℕ) → i < length l → Close (get_or l i (pos 0))
    at-close i h = near-close (get_or l i (pos 0)) (some-none far l i (pos 0) near h)

    pub reaching-start : 2 ≤ length l → Reaching (record { low = get_or l 1 (pos 0); high = get_or l 1 (pos 0) }) 1
    reaching-start h =
        let c = at-close 1 (omega arith) in
        record { odd = refl; low-close = c; high-close = c; each = λ k a b. absurd (let z : k ≡ 0 = omega arith in omega arith) }

    pub reaching-next : {r s : Reach} {i : ℕ} → Reaching r i → i < length l → s ≡ wider r (get_or l i (pos 0)) → Reaching s (i + 2)
    unfolding wider
    reaching-next {r} {s} {i} g h e =
        let y : ℤ = get_or l i (pos 0) in
        let o = g.odd in
        rw e (record {
          odd = omega arith;
          low-close = (ends_close r.low y g.low-close (at-close i h)).0;
          high-close = (ends_close r.high y g.high-close (at-close i h)).1;
          each = λ k a b. elim (dec_lt k i) [
            | yes q ↦ wider-keeps r y (g.each k q b)
            | no q ↦ (let j : k ≡ i = omega arith in rw j (wider-has r y))
          ];
        })

    pub reaching-end : {r : Reach} {i : ℕ} → Reaching r i → length l ≤ i → Spans (points_of l) r
    reaching-end {r} g h =
        record { low-close = g.low-close; high-close = g.high-close; each = points-each (Spanned r.low r.high) l (λ k a b. g.each k (omega arith) b) }

  -- as many numbers are passed as the list is longer than what is left of it
  pub record Passed (r : Reach) (left : List ℤ) : Type 0 where
    pub reached : Reaching r (length l - length left + 1)
    pub ahead : left ≡ drop (length l - length left) l

  pub passed-none : {r : Reach} (left : List ℤ) → left ≡ l → Reaching r 1 → Passed r left
  passed-none left e g =
      let z : length l - length left ≡ 0 = omega (arith, ap (λ (m : List ℤ). length m) e) in
      record { reached = rw z g; ahead = rw z e }

  module _ {r : Reach} {left : List ℤ} (g : Passed r left) (pair after : List ℤ) (e : left ≡ pair ++ after) (n : length pair ≡ 2) where
    -- the row of the pair after those passed
    pub passed-row : get_or pair 1 (pos 0) ≡ get_or l (length l - length left + 1) (pos 0)
    passed-row =
        sym (get_or-append pair after (pos 0) 1 (omega arith)) ∙ ap (λ (m : List ℤ). get_or m 1 (pos 0)) (sym e ∙ g.ahead)
        ∙ get_or-drop (length l - length left) l 1 (pos 0)

    two-less : length left ≡ length after + 2
    two-less = ap (λ (m : List ℤ). length m) e ∙ omega (arith, length-append pair after)

    within : length left ≤ length l
    within = let a = ap (λ (m : List ℤ). length m) g.ahead ∙ length-drop (length l - length left) l in omega arith

    pub row-within : length l - length left + 1 < length l
    row-within = omega (arith, two-less, within)

    pub passed-next : some far l ≡ false → {s : Reach} → s ≡ wider r (get_or pair 1 (pos 0)) → Passed s after
    passed-next near q =
        let k : length l - length after ≡ length l - length left + 2 = omega (arith, two-less, within) in
        let two : drop 2 left ≡ after = rw (← n, e) (drop-append_seam pair after) in
        record {
          reached = (let z : length l - length after + 1 ≡ length l - length left + 1 + 2 = omega (arith, k) in rw z (reaching-next near g.reached row-within (q ∙ ap (wider r) passed-row)));
          ahead = rw k (sym two ∙ ap (drop 2) g.ahead ∙ drop-drop 2 (length l - length left) l);
        }

  pub passed-end : some far l ≡ false → {r : Reach} {left : List ℤ} → Passed r left → length left < 2 → Spans (points_of l) r
  passed-end near g h = reaching-end near g.reached (omega arith)

-- a brush that was clamped
pub stamped-again : (size : ℕ) (ps : List Point) → stamped (clamped size) ps ≡ stamped size ps
unfolding stamped stamp_at
stamped-again size ps = flat_map-same (stamp_at (clamped size)) (stamp_at size) (λ p. rw (clamped-brush (clamped size) (brush-clamped size))) (path_of ps)
