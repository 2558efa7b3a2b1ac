-- How large a double's magnitude can be: `Mag a c x` says that x is finite and |x| ≤ a / c. Each operation keeps such a bound, where the
-- bound's own fraction is a double, since rounding keeps the order. Assumes nothing.
use mathlib.Core.Path.{◌≡◌, sym, subst}
use Prim.Native.Nat.{ℕ, zero, suc, ◌+◌, ◌-◌, ◌*◌, ◌/◌, ◌%◌, ◌^◌, ◌≤◌, ◌<◌, compare}
use native.Mathlib.Nat.{le_trans, le_of_eq, mul-one, mul_assoc, mul_comm, mul_left_comm, add-mul, mul-le-mul, mul-le-mul_right, mul-pos, add-le-add, zero-lt-suc}
use native.Mathlib.Omega.{arith}
use mathlib.Core.Bool.{Bool, true, false, ◌&&◌, cond, beq, true≢false}
use borrow.Author.Tests.{ne_eqb}
use lib.Dec.{T, leb, ltb, eqb, leb→le, le→leb, lit≤}
use lib.Pow.{pow_pos}
use lib.Ieee.{Float, nan, inf, fin, binary64, of_bits, low, emax, up, down, unlike, size, nearest, odd, units, round, sum, add, sub, mul, div, neg, lt, le, eq}
use lib.Ieee.Exact.{HasValue}
use lib.Ieee.Fits.{round_is, up_pos, down_pos}
use lib.Ieee.Order.{round_mono}
use lib.Ieee.Positive.{through}
use lib.Ieee.Scale.{finite}
use Rattle.color_doubles.specs.Range.{within, AtMost}
use Rattle.color_doubles.proofs.Signs.{Plus, infinity, number, round-plus}
use Rattle.color_doubles.proofs.Order.{or-le}
use Rattle.color_doubles.specs.NearestDouble.{units_of}
use Rattle.color_doubles.proofs.Units.{units_mono, units-value}

abbrev pub Mag : ℕ → ℕ → Float → Type 0
Mag a c x = T (within a c x)

pub mag-finite : (a c : ℕ) (x : Float) → Mag a c x → T (finite x)
mag-finite a c nan h = h
mag-finite a c (inf s) h = h
mag-finite a c (fin s m e) h = tt

-- ---- what `round` gives: its sign apart, the same at either sign
odd-mag : (a c d : ℕ) (s : Bool) (q k l : ℕ) → Mag a c (odd d false q k l) → Mag a c (odd d s q k l)
unfolding odd
odd-mag a c d s zero k l h = h
odd-mag a c d s (suc q) k l h = h

units-mag : (a c : ℕ) (s : Bool) (q k : ℕ) → Mag a c (units binary64 false q k) → Mag a c (units binary64 s q k)
unfolding units
units-mag a c s q k h = go (ltb (q * 2 ^ k) (2 ^ (low binary64 + suc (emax binary64)))) h
  where
    go : (b : Bool) → Mag a c (cond b (odd 54 false q k 1074) (inf false)) → Mag a c (cond b (odd 54 s q k 1074) (inf s))
    go true h = odd-mag a c 54 s q k 1074 h
    go false h = h

-- `round` is `units` of these
abbrev digits_dropped : ℕ → ℕ → ℕ
digits_dropped num den = size (num * 2 ^ 1074 / den) - 53

abbrev quotient : ℕ → ℕ → ℕ
quotient num den =
    let n = num * 2 ^ 1074 in
    let u = den * 2 ^ digits_dropped num den in
    nearest (n / u) (compare (n % u * 2) u)

round-units : (s : Bool) (num den : ℕ) → round binary64 s num den ≡ units binary64 s (quotient num den) (digits_dropped num den)
round-units s num den = round_is binary64 s num den

round-sign : (a c : ℕ) (s : Bool) (num den : ℕ) → Mag a c (round binary64 false num den) → Mag a c (round binary64 s num den)
round-sign a c s num den h =
    subst (Mag a c) (sym (round-units s num den)) (units-mag a c s (quotient num den) (digits_dropped num den) (subst (Mag a c) (round-units false num den) h))

-- what is not above a / c, and not negative
under : (a c : ℕ) {x : Float} (w : Float) → Plus x → HasValue w false a c → T (le x w) → Mag a c x
unfolding le lt eq
under a c nan p v h = absurd v
under a c (inf t) p v h = absurd v
under a c (fin true n d) infinity v h = h
under a c (fin false n d) infinity v h = h
under a c (fin true n d) (number m e) v h = absurd (true≢false v.0)
under a c (fin false n d) (number m e) v h =
    le→leb (m * up e * c) (a * down e)
    (through (m * up e) (n * up d) a (down e) (down d) c (down_pos d) (or-le (m * up e * down d) (n * up d * down e) _ h) (le_of_eq v.1))

-- the bound's fraction is a double
abbrev pub Exact : ℕ → ℕ → Type 0
Exact a c = HasValue (round binary64 false a c) false a c

pub round-mag : (a c : ℕ) (s : Bool) (num den : ℕ) → Exact a c → 0 < c → 0 < den → num * c ≤ a * den → Mag a c (round binary64 s num den)
round-mag a c s num den x C D h =
    round-sign a c s num den
    (under a c (round binary64 false a c) (round-plus num den) x (round_mono binary64 num den a c D C h))

-- ---- the operations
fourfold : (u v a b c d D E : ℕ) → u * c ≤ a * D → v * d ≤ b * E → u * v * (c * d) ≤ a * b * (D * E)
fourfold u v a b c d D E h k = simp (mul_assoc, mul_comm, mul_left_comm) (simp (mul_assoc, mul_comm, mul_left_comm) at (mul-le-mul h k))

pub mul-mag : (a c b d p r : ℕ) (x y : Float) → Exact p r → 0 < r → 0 < c * d → a * b * r ≤ p * (c * d) → Mag a c x → Mag b d y → Mag p r (mul binary64 x y)
unfolding mul
mul-mag a c b d p r nan y X R C k h g = absurd h
mul-mag a c b d p r (inf s) y X R C k h g = absurd h
mul-mag a c b d p r (fin s m e) nan X R C k h g = absurd g
mul-mag a c b d p r (fin s m e) (inf t) X R C k h g = absurd g
mul-mag a c b d p r (fin s m e) (fin t n i) X R C k h g =
    round-mag p r (unlike s t) (m * up e * (n * up i)) (down e * down i) X R (mul-pos (down_pos e) (down_pos i))
    (through (m * up e * (n * up i)) (a * b) p (down e * down i) (c * d) r C
    (fourfold (m * up e) (n * up i) a b c d (down e) (down i) (leb→le (m * up e * c) (a * down e) h) (leb→le (n * up i * d) (b * down i) g)) k)

pub cond-mag : (a c : ℕ) (b : Bool) (x y : Float) → Mag a c x → Mag a c y → Mag a c (cond b x y)
cond-mag a c true x y h k = h
cond-mag a c false x y h k = k

pub neg-mag : (a c : ℕ) (x : Float) → Mag a c x → Mag a c (neg x)
unfolding neg
neg-mag a c nan h = h
neg-mag a c (inf s) h = h
neg-mag a c (fin s m e) h = h

-- ±A / C + ±B / C, with A / C ≤ a / c and B / C ≤ b / d
both : (A B C a b c d : ℕ) → A * c ≤ a * C → B * d ≤ b * C → (A + B) * (c * d) ≤ (a * d + b * c) * C
both A B C a b c d h k =
    simp (add-mul, mul_assoc, mul_comm, mul_left_comm)
    (simp (add-mul, mul_assoc, mul_comm, mul_left_comm) at (add-le-add (mul-le-mul_right d h) (mul-le-mul_right c k)))

less : (A B : ℕ) → A - B ≤ A + B
less A B = omega arith

less' : (A B : ℕ) → B - A ≤ A + B
less' A B = omega arith

sum-mag : (p r : ℕ) (s t : Bool) (A B C : ℕ) → Exact p r → 0 < r → 0 < C → (A + B) * r ≤ p * C → Mag p r (sum binary64 s A t B C)
unfolding sum
sum-mag p r s t A B C X R D k =
    let y1 = round-mag p r s (A + B) C X R D k in
    let y2 = round-mag p r t (B - A) C X R D (le_trans (mul-le-mul_right r (less' A B)) k) in
    let y3 = round-mag p r (s && ltb B A) (A - B) C X R D (le_trans (mul-le-mul_right r (less A B)) k) in
    let d3 = round binary64 (s && ltb B A) (A - B) C in
    let d2 = round binary64 t (B - A) C in
    cond-mag p r (beq s t) (round binary64 s (A + B) C) (cond (ltb A B) d2 d3) y1 (cond-mag p r (ltb A B) d2 d3 y2 y3)

shift : (u c a D E : ℕ) → u * c ≤ a * D → u * E * c ≤ a * (D * E)
shift u c a D E h = simp (mul_assoc, mul_comm, mul_left_comm) (simp (mul_assoc, mul_comm, mul_left_comm) at (mul-le-mul_right E h))

shift' : (v d b E D : ℕ) → v * d ≤ b * E → v * D * d ≤ b * (D * E)
shift' v d b E D h = simp (mul_assoc, mul_comm, mul_left_comm) (simp (mul_assoc, mul_comm, mul_left_comm) at (mul-le-mul_right D h))

pub add-mag : (a c b d p r : ℕ) (x y : Float) → Exact p r → 0 < r → 0 < c * d → (a * d + b * c) * r ≤ p * (c * d) → Mag a c x → Mag b d y → Mag p r (add binary64 x y)
unfolding add
add-mag a c b d p r nan y X R C k h g = absurd h
add-mag a c b d p r (inf s) y X R C k h g = absurd h
add-mag a c b d p r (fin s m e) nan X R C k h g = absurd g
add-mag a c b d p r (fin s m e) (inf t) X R C k h g = absurd g
add-mag a c b d p r (fin s m e) (fin t n i) X R C k h g =
    let A = m * up e * down i in
    let B = n * up i * down e in
    let D = down e * down i in
    sum-mag p r s t A B D X R (mul-pos (down_pos e) (down_pos i))
    (through (A + B) (a * d + b * c) p D (c * d) r C
    (both A B D a b c d
    (shift (m * up e) c a (down e) (down i) (leb→le (m * up e * c) (a * down e) h))
    (shift' (n * up i) d b (down i) (down e) (leb→le (n * up i * d) (b * down i) g)))
    k)

pub sub-mag : (a c b d p r : ℕ) (x y : Float) → Exact p r → 0 < r → 0 < c * d → (a * d + b * c) * r ≤ p * (c * d) → Mag a c x → Mag b d y → Mag p r (sub binary64 x y)
unfolding sub
sub-mag a c b d p r x y X R C k h g = add-mag a c b d p r x (neg y) X R C k h (neg-mag b d y g)

-- x / y, with y at least d / b
abbrev pub at_least : ℕ → ℕ → Float → Bool
at_least d b nan = false
at_least d b (inf s) = false
at_least d b (fin s zero e) = false
at_least d b (fin s (suc n) e) = leb (d * down e) (b * (suc n * up e))

turned : (u v a b c d D E : ℕ) → u * c ≤ a * D → d * E ≤ b * v → u * E * (c * d) ≤ a * b * (v * D)
turned u v a b c d D E h k = simp (mul_assoc, mul_comm, mul_left_comm) (simp (mul_assoc, mul_comm, mul_left_comm) at (mul-le-mul h k))

pub div-mag : (a c b d p r : ℕ) (x y : Float) → Exact p r → 0 < r → 0 < c * d → a * b * r ≤ p * (c * d) → Mag a c x → T (at_least d b y) → Mag p r (div binary64 x y)
unfolding div
div-mag a c b d p r nan y X R C k h g = absurd h
div-mag a c b d p r (inf s) y X R C k h g = absurd h
div-mag a c b d p r (fin s m e) nan X R C k h g = absurd g
div-mag a c b d p r (fin s m e) (inf t) X R C k h g = absurd g
div-mag a c b d p r (fin s m e) (fin t zero i) X R C k h g = absurd g
div-mag a c b d p r (fin s m e) (fin t (suc n) i) X R C k h g =
    let z = round binary64 (unlike s t) (m * up e * down i) (suc n * up i * down e) in
    subst (λ (b : Bool). Mag p r (cond b (cond (eqb m 0) nan (inf (unlike s t))) z)) (sym (ne_eqb (suc n) 0 (no_zero n)))
    (round-mag p r (unlike s t) (m * up e * down i) (suc n * up i * down e) X R (mul-pos (mul-pos (zero-lt-suc n) (up_pos i)) (down_pos e))
    (through (m * up e * down i) (a * b) p (suc n * up i * down e) (c * d) r C
    (turned (m * up e) (suc n * up i) a b c d (down e) (down i) (leb→le (m * up e * c) (a * down e) h) (leb→le (d * down i) (b * (suc n * up i)) g)) k))
  where
    no_zero : (n : ℕ) → suc n ≡ 0 → ⊥
    no_zero n q = omega arith

-- ---- a double by its value, and one of at most 2 by its pattern
value-mag : (x : Float) (a c p r : ℕ) → HasValue x false a c → 0 < c → a * r ≤ p * c → Mag p r x
value-mag nan a c p r v C k = absurd v
value-mag (inf s) a c p r v C k = absurd v
value-mag (fin s m e) a c p r v C k = le→leb (m * up e * r) (p * down e) (through (m * up e) a p (down e) c r C (le_of_eq v.1) k)

pub pattern-small : (g : ℕ) → g ≤ 0x4000_0000_0000_0000 → AtMost 32 (of_bits binary64 g)
pattern-small g h =
    value-mag (of_bits binary64 g) (units_of g) (2 ^ 1074) 32 1 (units-value g (omega arith)) (pow_pos 1074)
    (le_trans (le_of_eq (mul-one (units_of g))) (le_trans (units_mono g 0x4000_0000_0000_0000 h) two))
  where
    two : units_of 0x4000_0000_0000_0000 ≤ 32 * 2 ^ 1074
    two = unfold units_of in lit≤ tt
