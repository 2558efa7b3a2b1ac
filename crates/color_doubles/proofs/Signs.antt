-- The signs of results: what is rounded keeps its sign, a difference of finite numbers is no NaN, and squares and sums of what is not negative are
-- no NaN and not negative. Assumes nothing.
use mathlib.Core.Path.{◌≡◌, refl}
use mathlib.Core.Bool.{Bool, true, false, not, ◌&&◌, beq, cond, true≢false}
use Prim.Native.Nat.{ℕ, zero, suc, ◌+◌, ◌-◌, ◌*◌, ◌^◌}
use lib.IntN.{ℤ}
use lib.Dec.{ltb}
use lib.Ieee.{Float, nan, inf, fin, Format, binary64, prec, low, emax, up, down, odd, units, round, sum, add, sub, mul}
use lib.Ieee.Fits.{round_is}
use Rattle.color_doubles.specs.Arithmetic.{◌⊕◌, ◌⊖◌, ◌⊗◌}
use Rattle.color_doubles.specs.Finite.{unfit}

-- no NaN, and of the sign s
pub data Signed : Bool → Float → Type 0 where
  infinity : {s : Bool} → Signed s (inf s)
  number : {s : Bool} (m : ℕ) (e : ℤ) → Signed s (fin s m e)

-- no NaN, and not negative
abbrev pub Plus : Float → Type 0
Plus x = Signed false x

-- no NaN
abbrev pub Number : Float → Type 0
Number x = (s : Bool) × Signed s x

-- what both are, either is
either_way : (P : Float → Type 0) (b : Bool) {x y : Float} → P x → P y → P (cond b x y)
either_way P true h k = h
either_way P false h k = k

-- ---- rounding
odd-signed : (d : ℕ) (s : Bool) (q k l : ℕ) → Signed s (odd d s q k l)
unfolding odd
odd-signed d s zero k l = number _ _
odd-signed d s (suc q) k l = number _ _

units-signed : (f : Format) (s : Bool) (q k : ℕ) → Signed s (units f s q k)
unfolding units
units-signed f s q k =
    either_way (Signed s) (ltb (q * 2 ^ k) (2 ^ (low f + suc (emax f)))) (odd-signed (suc (prec f)) s q k (low f)) infinity

pub round-signed : (f : Format) (s : Bool) (num den : ℕ) → Signed s (round f s num den)
round-signed f s num den = rw round_is (units-signed f s _ _)

pub round-plus : (num den : ℕ) → Plus (round binary64 false num den)
round-plus num den = round-signed binary64 false num den

-- ---- a difference of finite numbers
pub data Finite : Float → Type 0 where
  finite : (s : Bool) (m : ℕ) (e : ℤ) → Finite (fin s m e)

pub fit : (x : Float) → unfit x ≡ false → Finite x
unfolding unfit
fit nan h = absurd (true≢false h)
fit (inf s) h = absurd (true≢false h)
fit (fin s m e) h = finite s m e

sum_number : (f : Format) (s : Bool) (a : ℕ) (t : Bool) (b c : ℕ) → Number (sum f s a t b c)
unfolding sum
sum_number f s a t b c =
    either_way Number (beq s t) (s, round-signed f s (a + b) c)
    (either_way Number (ltb a b) (t, round-signed f t (b - a) c) (s && ltb b a, round-signed f (s && ltb b a) (a - b) c))

pub sub_number : {x y : Float} → Finite x → Finite y → Number (x ⊖ y)
unfolding sub
sub_number (finite s m e) (finite t n d) = sum_number binary64 s (m * up e * down d) (not t) (n * up d * down e) (down e * down d)

-- ---- squares, and sums of what is not negative
alike : (s : Bool) → beq s s ≡ true
alike true = refl
alike false = refl

pub square-plus : {x : Float} → Number x → Plus (x ⊗ x)
unfolding mul
square-plus (s, infinity) = rw (alike s) infinity
square-plus (s, number m e) = rw (alike s) (round-plus (m * up e * (m * up e)) (down e * down e))

pub add-plus : {x y : Float} → Plus x → Plus y → Plus (x ⊕ y)
unfolding add
add-plus infinity infinity = infinity
add-plus infinity (number n d) = infinity
add-plus (number m e) infinity = infinity
add-plus (number m e) (number n d) = round-plus (m * up e * down d + n * up d * down e) (down e * down d)
