-- A line as the loop writes it: after j steps its first j points are in front, and the walk stands at the next. Assumes nothing.
use mathlib.Core.Path.{◌≡◌, refl, ap, ◌∙◌}
use mathlib.Core.List.{List, flat_map}
use Prim.Native.Nat.{ℕ, ◌+◌, ◌*◌, ◌<◌, ◌≤◌}
use native.Mathlib.Omega.{arith}
use lib.IntN.{ℤ}
use lib.ListN.{length, set, length-set}
use Rattle.base.specs.Lists.{range, over}
use Rattle.base.proofs.Over.{over_none}
use Rattle.tool_line.specs.declared.Walk.{Walk}
use Rattle.tool_line.specs.Line.{Point, longer, line_of, flat}
use Rattle.tool_line.specs.Walk.{standing, StandsAt, Walking}
use Rattle.tool_line.proofs.Walks.{steps-longer, walking}
use Rattle.tool_line.proofs.Points.{firsts, stands-point, points-step}
use Rattle.tool_line.specs.Bresenham.{Room}

-- out with the point that w stands at as its i-th
abbrev put : Walk → ℕ → List ℤ → List ℤ
put w i out = set (set out (2 * i) w.x.at) (2 * i + 1) w.y.at

module _ (a b : Point) (steps : ℕ) (out₀ : List ℤ) where
  pub record Writing (w : Walk) (out : List ℤ) (j : ℕ) : Type 0 where
    pub room : 2 * (longer a b + 1) ≤ length out₀
    pub long : steps ≡ longer a b
    pub same : length out ≡ length out₀
    pub stands : StandsAt a b j w
    pub written : out ≡ over (flat (firsts a b j)) out₀

  module _ (w : Walk) (out : List ℤ) (j : ℕ) (r : Writing w out j) where
    pub inside : 2 * j + 1 < length out
    inside =
        let l = r.stands.low in
        let f = r.room in
        let s = r.same in
        omega arith

    -- the next point, behind those that are there
    put_next : put w j out ≡ over (flat (firsts a b (j + 1))) out₀
    put_next =
        let s = r.same in
        ap (put w j) r.written ∙ points-step a b j (standing w) out₀ (stands-point r.stands) (omega (arith, inside))

    pub goes_on : j < steps → Walking w
    goes_on h = let l = r.long in walking r.stands (omega arith)

    pub writing-next : (v : Walk) (p : List ℤ) → j < steps → p ≡ put w j out → ((a b : Point) (j : ℕ) → StandsAt a b j w → j < longer a b → StandsAt a b (j + 1) v)
        → Writing v p (j + 1)
    writing-next v p h e f =
        let l = r.long in
        record { room = r.room; long = l; same = ap length e ∙ simp length-set r.same; stands = f a b j r.stands (omega arith); written = e ∙ put_next }

    pub writing-end : (p : List ℤ) → j ≡ steps → p ≡ put w j out → p ≡ over (flat (line_of a b)) out₀
    unfolding line_of
    writing-end p h e = e ∙ put_next ∙ ap (λ n. over (flat (firsts a b (n + 1))) out₀) (h ∙ r.long)

    pub writing-low : j ≤ steps
    writing-low = let l = r.long in let s = r.stands.low in omega arith

pub writing_start : (a b : Point) (w : Walk) (out : List ℤ) → Room a b out → StandsAt a b 0 w → Writing a b w.steps out w out 0
unfolding flat range flat_map
writing_start a b w out f s = record { room = f.room; long = steps-longer s; same = refl; stands = s; written = over_none out }
