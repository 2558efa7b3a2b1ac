-- E4: the line from b to a is the line from a to b, in the opposite order; for all points. On the shorter axis the two offsets make the whole side, since one end rounds an
-- exact half down and the other up. Assumes nothing.
use mathlib.Core.Path.{◌≡◌, refl, sym, ap, ◌∙◌}
use mathlib.Core.Bool.{Bool, true, false, cond}
use mathlib.Core.List.{[], ◌∷◌, ◌++◌, map, map-append, reverse, reverse-append}
use Prim.Native.Nat.{ℕ, zero, suc, ◌+◌, ◌*◌, ◌-◌, ◌/◌, ◌%◌, ◌≤◌, ◌<◌}
use native.Mathlib.Nat.{add-zero, add-mul, one-mul, zero-mul, mul-zero, mul_comm, div-zero, mod-lt, div-add-mod', div-lt_iff_lt-mul}
use native.Mathlib.Omega.{arith}
use borrow.Author.Tests.{ltb-false}
use lib.IntN.{ℤ, pos, negsuc, nat_abs, neg_ℤ, ◌+ℤ◌, ◌-ℤ◌, +ℤ_assoc, +ℤ_invr, neg_ℤ-+ℤ, +ℤ-neg_ℤ_cancel, -ℤ-+ℤ_cancel, pos-+ℤ-pos}
use Rattle.base.proofs.Back.{never}
use lib.Signed.{lt_z}
use Rattle.base.specs.Lists.{range}
use Rattle.base.proofs.Collect.{range-suc}
use Rattle.tool_line.specs.Line.{Point, side, toward, offset, longer, point_at, line_of, Alike}
use Rattle.tool_line.specs.Walk.{half, axis_at, walk_at, standing}
use Rattle.tool_line.proofs.Offsets.{offset-is, quotient}
use Rattle.tool_line.proofs.Toward.{not_back, side-back}
use Rattle.tool_line.proofs.Ends.{toward-side}
use Rattle.tool_line.proofs.Points.{point-by-axes}

-- ---- the shorter offsets
-- i steps from the one end, j from the other: the one that begins with less rounds down
pub both : (m n i j : ℕ) → i + j ≡ m → n ≤ m → (2 * (i * n) + (m - 1)) / (2 * m) + (2 * (j * n) + m) / (2 * m) ≡ n
both zero n i j s h = rw (div-zero (2 * (i * n) + 0), div-zero (2 * (j * n) + 0)) (omega arith)
both (suc p) n i j s h =
    let m = suc p in
    let d = 2 * m in
    let v = 2 * (j * n) + m in
    let q = v / d in
    let e : v ≡ q * d + v % d = sym (div-add-mod' v d) in
    let l : v % d < d = mod-lt v (omega arith) in
    let all : i * n + j * n ≡ m * n = sym (add-mul i j n) ∙ ap (λ (x : ℕ). x * n) s in
    let side : n * d ≡ 2 * (m * n) = omega (arith, mul_comm n (2 * suc p), mul_comm n (suc p)) in
    let few : q < n + 1 = (div-lt_iff_lt-mul {k = d} {x = v} {y = n + 1} (omega arith)).1 (omega (arith, add-mul n 1 d, one-mul d)) in
    let apart : (n - q) * d + q * d ≡ n * d = sym (add-mul (n - q) q d) ∙ ap (λ (x : ℕ). x * d) (omega arith) in
    let o : (2 * (i * n) + (m - 1)) / d ≡ n - q = quotient d (n - q) (d - 1 - v % d) (omega arith) _ (omega arith) in
    omega arith

-- ---- two numbers, one of them less or not
pub side-alike : (a b : ℤ) → side b a ≡ side a b
unfolding side
side-alike a b = side-back a b

neither : (a b : ℤ) → lt_z a b ≡ false → lt_z b a ≡ false → a ≡ b
neither (pos x) (pos y) e f = ap pos (omega (arith, ltb-false x y e, ltb-false y x f))
neither (pos x) (negsuc y) e f = never (sym f)
neither (negsuc x) (pos y) e f = never (sym e)
neither (negsuc x) (negsuc y) e f = ap negsuc (omega (arith, ltb-false y x e, ltb-false x y f))

side-none : (a b : ℤ) → a ≡ b → side a b ≡ 0
unfolding side
side-none a b e = rw e (ap nat_abs (+ℤ_invr b))

no-offset : (m k t : ℕ) → t ≤ m → (2 * (k * 0) + t) / (2 * m) ≡ 0
no-offset zero k t h = div-zero (2 * (k * 0) + t)
no-offset (suc m) k t h = quotient (2 * suc m) 0 t (omega arith) _ (omega (arith, mul-zero k, zero-mul (2 * suc m)))

-- i steps from a and j from b, on an axis with side n of a line with longer side m
by-halves : (a b : ℤ) (m n i j : ℕ) → i + j ≡ m → n ≤ m → (a ≡ b → n ≡ 0) → (t : Bool) → lt_z a b ≡ t → (u : Bool) → lt_z b a ≡ u
    → (2 * (i * n) + cond t (m - 1) m) / (2 * m) + (2 * (j * n) + cond u (m - 1) m) / (2 * m) ≡ n
by-halves a b m n i j s h z true e true f = never (sym (not_back a b f) ∙ e)
by-halves a b m n i j s h z true e false f = both m n i j s h
by-halves a b m n i j s h z false e true f = omega (arith, both m n j i (omega arith) h)
by-halves a b m n i j s h z false e false f =
    let o : n ≡ 0 = z (neither a b e f) in
    rw o (omega (arith, no-offset m i m (omega arith), no-offset m j m (omega arith)))

pub offsets-meet : (a b : ℤ) (m i j : ℕ) → i + j ≡ m → side a b ≤ m → offset a b m i + offset b a m j ≡ side a b
unfolding half
offsets-meet a b m i j s h =
    rw (offset-is a b m i, offset-is b a m j, side-alike a b) (by-halves a b m (side a b) i j s h (side-none a b) (lt_z a b) refl (lt_z b a) refl)

-- ---- places
up-and-back : (a : ℤ) (k l : ℕ) → a +ℤ pos (k + l) -ℤ pos l ≡ a +ℤ pos k
up-and-back a k l = ap (λ z. z -ℤ pos l) (ap (λ z. a +ℤ z) (sym (pos-+ℤ-pos k l)) ∙ sym (+ℤ_assoc a (pos k) (pos l))) ∙ +ℤ-neg_ℤ_cancel (a +ℤ pos k) (pos l)

back-and-up : (a : ℤ) (k l : ℕ) → a -ℤ pos (k + l) +ℤ pos l ≡ a -ℤ pos k
back-and-up a k l =
    ap (λ z. z +ℤ pos l) (ap (λ z. a +ℤ z) (ap neg_ℤ (sym (pos-+ℤ-pos k l)) ∙ neg_ℤ-+ℤ (pos k) (pos l)) ∙ sym (+ℤ_assoc a (neg_ℤ (pos k)) (neg_ℤ (pos l))))
    ∙ -ℤ-+ℤ_cancel (a -ℤ pos k) (pos l)

-- k places from a are l from b, where they make the whole side
by-ways : (a b : ℤ) (k l : ℕ) (t : Bool) → lt_z a b ≡ t → (u : Bool) → lt_z b a ≡ u → (a ≡ b → k + l ≡ 0) → cond u (a -ℤ pos (k + l)) (a +ℤ pos (k + l)) ≡ b
    → cond t (b -ℤ pos l) (b +ℤ pos l) ≡ cond u (a -ℤ pos k) (a +ℤ pos k)
by-ways a b k l true e true f z s = never (sym (not_back a b f) ∙ e)
by-ways a b k l true e false f z s = rw (← s) (up-and-back a k l)
by-ways a b k l false e true f z s = rw (← s) (back-and-up a k l)
by-ways a b k l false e false f z s =
    let q : a ≡ b = neither a b e f in
    let x : k ≡ 0 = omega (arith, z q) in
    let y : l ≡ 0 = omega (arith, z q) in
    rw (x, y, q)

pub places-meet : (a b : ℤ) (k l : ℕ) → k + l ≡ side a b → toward b a l ≡ toward a b k
unfolding toward
places-meet a b k l s = by-ways a b k l (lt_z a b) refl (lt_z b a) refl (λ e. s ∙ side-none a b e) (rw s (toward-side a b))

-- ---- points
longer-alike : (a b : Point) → longer b a ≡ longer a b
unfolding longer
longer-alike a b = rw (side-alike a.x b.x, side-alike a.y b.y)

-- i steps from a and j from b are at one place of either axis
axis-meets : (c d : ℤ) (m i j : ℕ) → i + j ≡ m → side c d ≤ m → toward d c (offset d c m j) ≡ toward c d (offset c d m i)
axis-meets c d m i j s h = places-meet c d (offset c d m i) (offset d c m j) (offsets-meet c d m i j s h)

across : (a b : Point) → side a.x b.x ≤ longer a b
unfolding longer
across a b = omega arith

down : (a b : Point) → side a.y b.y ≤ longer a b
unfolding longer
down a b = omega arith

walks-meet : (a b : Point) (i j : ℕ) → i + j ≡ longer a b → standing (walk_at b a j) ≡ standing (walk_at a b i)
unfolding walk_at axis_at
walks-meet a b i j s =
    rw (longer-alike a b) (rw (axis-meets a.x b.x (longer a b) i j s (across a b), axis-meets a.y b.y (longer a b) i j s (down a b)))

points-meet : (a b : Point) (i j : ℕ) → i + j ≡ longer a b → point_at b a j ≡ point_at a b i
points-meet a b i j s =
    sym (point-by-axes b a j (rw (longer-alike a b) (omega arith))) ∙ walks-meet a b i j s ∙ point-by-axes a b i (omega arith)

-- ---- the whole line
opposite : {A : Type 0} (f g : ℕ → A) (n k : ℕ) → ((i j : ℕ) → i + j + 1 ≡ n → g (k + j) ≡ f i) → map g (range k n) ≡ reverse (map f (range 0 n))
unfolding range
opposite f g zero k h = refl
opposite f g (suc n) k h =
    ap (λ x. x ∷ map g (range (suc k) n)) (ap g (sym (add-zero k)) ∙ h n 0 (omega arith))
    ∙ ap (λ l. f n ∷ l) (opposite f g n (suc k) (λ i j e. ap g (omega arith) ∙ h i (suc j) (omega arith)))
    ∙ sym (reverse-append (map f (range 0 n)) (f n ∷ []))
    ∙ ap reverse (sym (map-append f (range 0 n) (n ∷ [])) ∙ ap (map f) (ap (λ (m : ℕ). range 0 n ++ (m ∷ [])) (omega arith) ∙ sym (range-suc 0 n)))

pub lines-alike : Alike
unfolding line_of
lines-alike a b =
    rw (longer-alike a b) (opposite (point_at a b) (point_at b a) (longer a b + 1) 0 (λ i j e. ap (point_at b a) (omega arith) ∙ points-meet a b i j (omega arith)))
