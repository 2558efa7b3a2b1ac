-- A line as the loop stamps it: the steps at which the brush touches nothing paint nothing, so those that are walked paint what all of them paint. Assumes
-- nothing.
use mathlib.Core.Path.{◌≡◌, refl, sym, ap, ◌∙◌}
use mathlib.Core.Bool.{Bool, true, false, ◌&&◌}
use mathlib.Core.List.{List, [], ◌∷◌, ◌++◌, map, flat_map, map-append, append-nil}
use Prim.Native.Nat.{ℕ, zero, suc, ◌+◌, ◌-◌, ◌*◌, ◌≤◌, ◌<◌}
use native.Mathlib.Decide.{dec_lt}
use native.Mathlib.Omega.{arith}
use borrow.Author.Tests.{ltb-false, le-ltb, lt-leb}
use lib.Dec.{leb, ltb}
use lib.ListN.{length, drop}
use Rattle.base.specs.Lists.{range}
use Rattle.base.proofs.Collect.{range-append}
use Rattle.selection.specs.declared.Selection.{Selection}
use Rattle.base.proofs.Back.{never}
use Rattle.tool_line.specs.declared.Walk.{Walk}
use Rattle.tool_line.specs.declared.Steps.{Steps}
use Rattle.tool_line.specs.Line.{Point, longer, point_at, line_of}
use Rattle.tool_line.specs.Walk.{standing, StandsAt}
use Rattle.tool_line.specs.Steps.{among}
use Rattle.tool_line.proofs.Ends.{line_after}
use Rattle.tool_stamp.specs.declared.Run.{Run}
use Rattle.tool_stamp.specs.Places.{set_all, row_places, box_places, stamp_places, places_of, Brush}
use Rattle.tool_reach.specs.Touching.{touches, touches_region, Touched}
use Rattle.tool_reach.proofs.Touching.{and-false}
use Rattle.tool_stamp.proofs.Stamps.{axis, one-stamp, stamps-append, Lining, lining-next}

-- ---- a stamp that touches nothing
no-places : (w : ℕ) (x y : Run) → x.count ≡ 0 → box_places w x y ≡ []
unfolding box_places row_places range flat_map
no-places w x y e = go (range y.start y.count)
  where
    go : (l : List ℕ) → flat_map (row_places w x) l ≡ []
    go [] = refl
    go (k ∷ l) = rw (go l, e)

no_rows : (w : ℕ) (x y : Run) → y.count ≡ 0 → box_places w x y ≡ []
unfolding box_places range flat_map
no_rows w x y e = rw e

module _ (region : Selection) (w n : ℕ) (b : Brush n) where
  stamp-nothing : (p : Point) → touches_region region n p ≡ false → stamp_places region w n (p ∷ []) ≡ []
  unfolding touches_region touches axis
  stamp-nothing p e = one-stamp region w n b p ∙ by (ltb 0 x.count) refl (ltb 0 y.count) refl e
    where
      x : Run
      x = axis n p.x region.x (region.x + region.w)

      y : Run
      y = axis n p.y region.y (region.y + region.h)

      by : (s : Bool) → ltb 0 x.count ≡ s → (t : Bool) → ltb 0 y.count ≡ t → s && t ≡ false → box_places w x y ≡ []
      by true q true r f = never (sym f)
      by true q false r f = no_rows w x y (omega (arith, ltb-false 0 y.count r))
      by false q t r f = no-places w x y (omega (arith, ltb-false 0 x.count q))

  -- count steps from `from` on
  module _ (a c : Point) where
    steps-nothing : (from count : ℕ) → ((j : ℕ) → from ≤ j → j < from + count → touches_region region n (point_at a c j) ≡ false)
        → stamp_places region w n (map (point_at a c) (range from count)) ≡ []
    unfolding range stamp_places places_of flat_map
    steps-nothing from zero f = refl
    steps-nothing from (suc count) f =
        let rest : List Point = map (point_at a c) (range (suc from) count) in
        stamps-append region w n (point_at a c from ∷ []) rest
        ∙ ap (λ (l : List ℕ). l ++ stamp_places region w n rest) (stamp-nothing (point_at a c from) (f from (omega arith) (omega arith)))
        ∙ steps-nothing (suc from) count (λ j h k. f j (omega arith) (omega arith))

-- ---- the steps that are walked
module _ {region : Selection} {n : ℕ} {a c : Point} {r : Steps} (t : Touched region n a c r) where
  early : (j : ℕ) → 1 ≤ j → j ≤ longer a c → j < r.first → touches_region region n (point_at a c j) ≡ false
  unfolding among
  early j h k l = sym (t.exactly j h k) ∙ rw (lt-leb r.first j l)

  late : (j : ℕ) → 1 ≤ j → j ≤ longer a c → r.end ≤ j → touches_region region n (point_at a c j) ≡ false
  unfolding among
  late j h k l = sym (t.exactly j h k) ∙ rw (le-ltb j r.end l) (and-false (leb r.first j))

  -- each of them is a step from another
  pub walked_more : (j : ℕ) → r.first ≤ j → j < r.end → j - 1 < longer a c
  walked_more j h k = let one = t.after in let up = t.upto in omega arith

  module _ (b : Brush n) (w v : ℕ) (s₀ : List ℕ) where
    abbrev painted : List Point → List ℕ
    painted ps = set_all (stamp_places region w n ps) v s₀

    unpainted : (ps : List Point) → stamp_places region w n ps ≡ [] → s₀ ≡ painted ps
    unfolding set_all
    unpainted ps e = rw e

    pub walked_none : r.end ≤ r.first → s₀ ≡ painted (drop 1 (line_of a c))
    walked_none h =
        unpainted (drop 1 (line_of a c)) (ap (stamp_places region w n) (line_after a c) ∙ steps-nothing region w n b a c 1 (longer a c) untouched)
      where
        untouched : (j : ℕ) → 1 ≤ j → j < 1 + longer a c → touches_region region n (point_at a c j) ≡ false
        untouched j p q = elim (dec_lt j r.first) [
          | yes k ↦ early j p (omega arith) k
          | no k ↦ late j p (omega arith) (omega arith)
        ]

    pub walked_start : {walk : Walk} → StandsAt a c (r.first - 1) walk → Lining region w n v a c s₀ walk s₀ (r.first - 1)
    walked_start s =
        let low = s.low in
        let one = t.after in
        let none = steps-nothing region w n b a c 1 (r.first - 1) (λ j p q. early j p (omega arith) (omega arith)) in
        record { stands = s; long = refl; done = unpainted _ none }

    pub walked_next : {walk next : Walk} {s u : List ℕ} {j : ℕ} → r.first ≤ j → j < r.end → Lining region w n v a c s₀ walk s (j - 1)
        → ((a b : Point) (j : ℕ) → StandsAt a b j walk → j < longer a b → StandsAt a b (j + 1) next)
        → u ≡ set_all (stamp_places region w n (standing next ∷ [])) v s → length u ≡ length s → Lining region w n v a c s₀ next u (j + 1 - 1)
    walked_next {walk} {next} {s} {u} {j} h k l f e g =
        let one = t.after in
        let same : j - 1 + 1 ≡ j + 1 - 1 = omega arith in
        rw same at (lining-next region w n v a c s₀ walk next s u (j - 1) l (walked_more j h k) f e g)

    pub walked_end : {walk : Walk} {s : List ℕ} → 1 ≤ r.end → Lining region w n v a c s₀ walk s (r.end - 1) → s ≡ painted (drop 1 (line_of a c))
    walked_end h l = l.done ∙ ap (λ (ps : List ℕ). set_all ps v s₀) (sym (append-nil _) ∙ same ∙ ap (stamp_places region w n) whole)
      where
        rest : ℕ
        rest = longer a c + 1 - r.end

        walked : List Point
        walked = map (point_at a c) (range 1 (r.end - 1))

        unwalked : List Point
        unwalked = map (point_at a c) (range (1 + (r.end - 1)) rest)

        none : stamp_places region w n unwalked ≡ []
        none =
            let up = t.upto in
            steps-nothing region w n b a c (1 + (r.end - 1)) rest (λ j p q. late j (omega arith) (omega arith) (omega arith))

        same : stamp_places region w n walked ++ [] ≡ stamp_places region w n (walked ++ unwalked)
        same = ap (λ (ps : List ℕ). stamp_places region w n walked ++ ps) (sym none) ∙ sym (stamps-append region w n walked unwalked)

        whole : walked ++ unwalked ≡ drop 1 (line_of a c)
        whole =
            let up = t.upto in
            let e : r.end - 1 + rest ≡ longer a c = omega arith in
            sym (map-append (point_at a c) (range 1 (r.end - 1)) (range (1 + (r.end - 1)) rest))
            ∙ ap (map (point_at a c)) (sym (range-append 1 (r.end - 1) rest) ∙ ap (range 1) e)
            ∙ sym (line_after a c)
