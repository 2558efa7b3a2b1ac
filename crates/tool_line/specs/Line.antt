-- The points of a line, in document 01's "Tools": `bresenham`. Definitions only. Assumes nothing.
use Rattle.std.specs.Prelude.{◌≡◌, Bool, false, cond, ◌||◌, ◌&&◌, ℕ, ◌+◌, ◌-◌, ◌*◌, ◌/◌, ◌%◌, max, ltb, eqb, ℤ, pos, nat_abs, ◌+ℤ◌, ◌-ℤ◌}
use mathlib.Core.List.{List, [], ◌∷◌, map, flat_map, reverse}
use Rattle.std.specs.Int.Signed.{lt_z}
use Rattle.base.specs.Lists.{range}
use Rattle.base.specs.Ints.{far}

-- a position, on the image or beside it
pub record Point : Type 0 where
  pub x : ℤ
  pub y : ℤ

abbrev pub point : ℤ → ℤ → Point
point x y = record { x = x; y = y }

-- "Points and shifts lie in -65,536..65,536"
pub record Near (p : Point) : Type 0 where
  pub across : far p.x ≡ false
  pub down : far p.y ≡ false

-- "too far: point": number 15
unfoldable pub far_point : Point → Bool
far_point p = far p.x || far p.y

-- how far a line goes on one axis, from a to b
unfoldable pub side : ℤ → ℤ → ℕ
side a b = nat_abs (b -ℤ a)

-- k places from a "toward the end" b
unfoldable pub toward : ℤ → ℤ → ℕ → ℤ
toward a b k = cond (lt_z b a) (a -ℤ pos k) (a +ℤ pos k)

-- "with longer side m, shorter n, step j": 2jn+m
unfoldable pub dividend : ℕ → ℕ → ℕ → ℕ
dividend m n j = 2 * (j * n) + m

-- E4: "an exact half": 2m divides it
unfoldable pub halfway : ℕ → ℕ → ℕ → Bool
halfway m n j = eqb (dividend m n j % (2 * m)) 0

-- "shorter offset floor((2jn+m)/(2m)) toward the end", from a to b; 0 where m is 0. E4: "At an exact half the shorter
-- axis takes the smaller coordinate": where the line goes up, that is one place less; "off the half nothing moves"
unfoldable pub offset : ℤ → ℤ → ℕ → ℕ → ℕ
offset a b m j =
    let n = side a b in
    let floor = dividend m n j / (2 * m) in
    cond (halfway m n j && lt_z a b) (floor - 1) floor

-- "longer side m"
unfoldable pub longer : Point → Point → ℕ
longer a b = max (side a.x b.x) (side a.y b.y)

-- the point of "step j": j on the axis of the longer side, x where both are as long, and the "shorter offset toward the end" on the other
unfoldable pub point_at : Point → Point → ℕ → Point
point_at a b j =
    let w = side a.x b.x in
    let h = side a.y b.y in
    cond (ltb w h)
    (point (toward a.x b.x (offset a.x b.x h j)) (toward a.y b.y j))
    (point (toward a.x b.x j) (toward a.y b.y (offset a.y b.y w j)))

-- "step j of 0..m", both included: "m = 0: one point"
unfoldable pub line_of : Point → Point → List Point
line_of a b = map (point_at a b) (range 0 (longer a b + 1))

-- E4: "The line from a to b then has the same points as from b to a", in the opposite order. Proved for all points: proofs/Alike.antt, `lines-alike`
abbrev pub Alike : Type 0
Alike = (a b : Point) → line_of b a ≡ reverse (line_of a b)

-- in a buffer of numbers: x, then y
abbrev pub coordinates : Point → List ℤ
coordinates p = p.x ∷ p.y ∷ []

unfoldable pub flat : List Point → List ℤ
flat ps = flat_map coordinates ps
