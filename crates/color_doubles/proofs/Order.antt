-- On numbers that are no NaN and not negative, the infinity included, `lt` and `le` are a total order. Assumes nothing.
use mathlib.Core.Path.{◌≡◌, refl}
use mathlib.Core.Bool.{Bool, true, false, ◌&&◌, ◌||◌, true≢false}
use Prim.Native.Nat.{ℕ, ◌*◌, ◌≤◌, ◌<◌}
use native.Mathlib.Nat.{le_refl, le_of_eq, le_of_lt, lt_of_not-le, not-le_of_lt}
use borrow.Author.Tests.{ltb-false}
use lib.IntN.{ℤ}
use lib.Dec.{T, ltb, eqb, ltb→lt, lt→ltb, eqb→eq}
use lib.Ieee.{Float, fin, up, down, lt, le, eq}
use lib.Ieee.Fits.{down_pos, and_l}
use lib.Ieee.Order.{le_of_values}
use lib.Ieee.Positive.{through}
use Rattle.color_doubles.proofs.Signs.{Plus, infinity, number}

-- ---- finite numbers, as fractions
pub or-le : (a b : ℕ) (x : Bool) → T (ltb a b || (eqb a b && x)) → a ≤ b
or-le a b x h = go (ltb a b) (ltb→lt a b) h
  where
    go : (t : Bool) → (T t → a < b) → T (t || (eqb a b && x)) → a ≤ b
    go true f h = le_of_lt (f tt)
    go false f h = le_of_eq (eqb→eq a b (and_l (eqb a b) x h))

module _ (m n : ℕ) (e d : ℤ) where
  pub le→cross : T (le (fin false m e) (fin false n d)) → m * up e * down d ≤ n * up d * down e
  unfolding le
  le→cross h = or-le (m * up e * down d) (n * up d * down e) true h

  pub cross→le : m * up e * down d ≤ n * up d * down e → T (le (fin false m e) (fin false n d))
  cross→le h = le_of_values (fin false m e) (fin false n d) (m * up e) (down e) (n * up d) (down d) (down_pos e) (down_pos d) (refl, refl) (refl, refl) h

-- x / p < y / q ≤ z / r
strictly-through : (x y z p q r : ℕ) → 0 < r → x * q < y * p → y * r ≤ z * q → x * r < z * p
strictly-through x y z p q r R h k = lt_of_not-le (λ g. not-le_of_lt h (through y z x q r p R k g))

-- ---- the order
pub le-self : {x : Float} → Plus x → T (le x x)
unfolding le
le-self infinity = tt
le-self (number m e) = cross→le m m e e (le_refl _)

pub not-lt→le : {x y : Float} → Plus x → Plus y → lt x y ≡ false → T (le y x)
unfolding le
not-lt→le infinity infinity h = tt
not-lt→le infinity (number n d) h = tt
not-lt→le (number m e) infinity h = absurd (true≢false h)
not-lt→le (number m e) (number n d) h = cross→le n m d e (ltb-false _ _ h)

pub lt-le→lt : {x y z : Float} → Plus x → Plus y → Plus z → T (lt x y) → T (le y z) → T (lt x z)
unfolding le
lt-le→lt infinity infinity r h k = absurd h
lt-le→lt infinity (number n d) r h k = absurd h
lt-le→lt (number m e) q infinity h k = tt
lt-le→lt (number m e) infinity (number l c) h k = absurd k
lt-le→lt (number m e) (number n d) (number l c) h k =
    lt→ltb _ _ (strictly-through (m * up e) (n * up d) (l * up c) (down e) (down d) (down c) (down_pos c) (ltb→lt _ _ h) (le→cross n l d c k))

or-holds : (a b : Bool) → T a → T (a || b)
or-holds true b h = tt
or-holds false b h = absurd h

pub lt→le : (x y : Float) → T (lt x y) → T (le x y)
unfolding le
lt→le x y h = or-holds (lt x y) (eq x y) h
