-- A line starts at its one end and stops at the other, both included; so a path is its first point, and each line's points after the first. Assumes nothing.
use mathlib.Core.Path.{◌≡◌, refl, sym, ap, ◌∙◌}
use mathlib.Core.Bool.{Bool, true, false, cond}
use mathlib.Core.List.{List, [], ◌∷◌, ◌++◌, map}
use Prim.Native.Nat.{ℕ, ◌≤◌, max}
use native.Mathlib.Numerals.{add-one}
use native.Mathlib.Omega.{arith}
use borrow.Author.Tests.{ltb-true, ltb-false}
use lib.Dec.{ltb}
use lib.IntN.{ℤ, pos, neg_ℤ, ◌+ℤ◌, ◌-ℤ◌, +ℤ_assoc, +ℤ_comm, +ℤ_idl, +ℤ_invr, neg_ℤ-+ℤ, neg_ℤ-neg_ℤ, -ℤ-+ℤ_cancel}
use lib.ListN.{drop}
use lib.Signed.{lt_z, pos-nat_abs}
use Rattle.base.specs.Lists.{range}
use Rattle.tool_line.specs.Line.{Point, point, side, toward, offset, longer, point_at, line_of}
use Rattle.tool_line.specs.Brush.{onward, path_of}
use Rattle.tool_line.proofs.Offsets.{offset-first, offset-longer, offset-last}
use Rattle.tool_line.proofs.Toward.{toward-none, from_less, not_back, side-back}

-- ---- a point by its two axes, each with its own offset along the longer side
pub point-axes : (a b : Point) (j : ℕ) → j ≤ longer a b
    → point (toward a.x b.x (offset a.x b.x (longer a b) j)) (toward a.y b.y (offset a.y b.y (longer a b) j)) ≡ point_at a b j
unfolding point_at longer
point-axes a b j h = by (ltb w v) refl
  where
    w : ℕ
    w = side a.x b.x

    v : ℕ
    v = side a.y b.y

    by : (t : Bool) → ltb w v ≡ t
        → point (toward a.x b.x (offset a.x b.x (max w v) j)) (toward a.y b.y (offset a.y b.y (max w v) j))
        ≡ cond t (point (toward a.x b.x (offset a.x b.x v j)) (toward a.y b.y j)) (point (toward a.x b.x j) (toward a.y b.y (offset a.y b.y w j)))
    by true e =
        let m : max w v ≡ v = omega (arith, ltb-true w v e) in
        rw (m, offset-longer a.y b.y j (omega arith))
    by false e =
        let m : max w v ≡ w = omega (arith, ltb-false w v e) in
        rw (m, offset-longer a.x b.x j (omega arith))

-- ---- the first point
pub point-first : (a b : Point) → point_at a b 0 ≡ a
point-first a b =
    sym (point-axes a b 0 (omega arith))
    ∙ rw (offset-first a.x b.x (longer a b), offset-first a.y b.y (longer a b), toward-none a.x b.x, toward-none a.y b.y)

-- ---- the last
pub toward-side : (a b : ℤ) → toward a b (side a b) ≡ b
unfolding toward side
toward-side a b = by (lt_z b a) refl
  where
    back : a -ℤ (a -ℤ b) ≡ b
    back = ap (λ z. a +ℤ z) (neg_ℤ-+ℤ a (neg_ℤ b) ∙ ap (λ z. neg_ℤ a +ℤ z) (neg_ℤ-neg_ℤ b)) ∙ sym (+ℤ_assoc a (neg_ℤ a) b) ∙ ap (λ z. z +ℤ b) (+ℤ_invr a) ∙ +ℤ_idl b

    forth : a +ℤ (b -ℤ a) ≡ b
    forth = +ℤ_comm a (b -ℤ a) ∙ -ℤ-+ℤ_cancel b a

    by : (t : Bool) → lt_z b a ≡ t → cond t (a -ℤ pos (side a b)) (a +ℤ pos (side a b)) ≡ b
    by true e = ap (λ z. a -ℤ z) (ap pos (sym (side-back a b)) ∙ pos-nat_abs (a -ℤ b) (from_less a b (not_back a b e))) ∙ back
    by false e = ap (λ z. a +ℤ z) (pos-nat_abs (b -ℤ a) (from_less b a e)) ∙ forth

longer-both : (a b : Point) → (side a.x b.x ≤ longer a b) × (side a.y b.y ≤ longer a b)
unfolding longer
longer-both a b = (omega arith, omega arith)

pub point-last : (a b : Point) → point_at a b (longer a b) ≡ b
point-last a b =
    sym (point-axes a b (longer a b) (omega arith))
    ∙ rw (offset-last a.x b.x (longer a b) (longer-both a b).0, offset-last a.y b.y (longer a b) (longer-both a b).1, toward-side a.x b.x, toward-side a.y b.y)

-- ---- a path, point by point
pub line_after : (a b : Point) → drop 1 (line_of a b) ≡ map (point_at a b) (range 1 (longer a b))
unfolding line_of range
line_after a b = rw (add-one (longer a b))

pub line_first : (a b : Point) → line_of a b ≡ a ∷ drop 1 (line_of a b)
unfolding line_of range
line_first a b = rw (add-one (longer a b)) (ap (λ (p : Point). p ∷ map (point_at a b) (range 1 (longer a b))) (point-first a b))

pub path-first : (p : Point) (ps : List Point) → path_of (p ∷ ps) ≡ p ∷ onward p ps
unfolding path_of onward
path-first p [] = refl
path-first p (q ∷ ps) = ap (λ l. l ++ onward q ps) (line_first p q)
