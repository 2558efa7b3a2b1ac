-- The neighbours of a place: each is a neighbour of its neighbours. Assumes nothing.
use Prim.Native.Nat.{ℕ, ◌+◌, ◌*◌, ◌-◌, ◌/◌, ◌%◌, ◌≤◌, ◌<◌}
use mathlib.Core.Path.{◌≡◌, sym, ap, ◌∙◌}
use native.Mathlib.Omega.{arith}
use native.Mathlib.Decide.{ℕ_discrete, dec_lt}
use native.Mathlib.Nat.{div-add-mod', mod-lt, zero-mod}
use lib.Arith.{digits_mod}
use borrow.Author.Tests.{eq-eqb, ne_eqb, lt-ltb, le-ltb}
use Rattle.tool_fill_model.specs.Flood.{neighbour}

module _ (w n : ℕ) where
  near-left : (p : ℕ) → (p % w ≡ 0 → ⊥) → neighbour w n p 0 ≡ p - 1
  unfolding neighbour
  near-left p u = rw (ne_eqb (p % w) 0 u)

  near-right : (p : ℕ) → (p % w + 1 ≡ w → ⊥) → neighbour w n p 1 ≡ p + 1
  unfolding neighbour
  near-right p u = rw (ne_eqb (p % w + 1) w u)

  near_up : (p : ℕ) → w ≤ p → neighbour w n p 2 ≡ p - w
  unfolding neighbour
  near_up p u = rw (le-ltb p w u)

  near_down : (p : ℕ) → p + w < n → neighbour w n p 3 ≡ p + w
  unfolding neighbour
  near_down p u = rw (lt-ltb (p + w) n u)

  off-left : (p : ℕ) → p % w ≡ 0 → neighbour w n p 0 ≡ n
  unfolding neighbour
  off-left p u = rw (eq-eqb (p % w) 0 u)

  off-right : (p : ℕ) → p % w + 1 ≡ w → neighbour w n p 1 ≡ n
  unfolding neighbour
  off-right p u = rw (eq-eqb (p % w + 1) w u)

  off-up : (p : ℕ) → p < w → neighbour w n p 2 ≡ n
  unfolding neighbour
  off-up p u = rw (lt-ltb p w u)

  off-down : (p : ℕ) → n ≤ p + w → neighbour w n p 3 ≡ n
  unfolding neighbour
  off-down p u = rw (le-ltb (p + w) n u)

  -- a row's columns
  column-less : (p : ℕ) → (p % w ≡ 0 → ⊥) → 0 < w → (p - 1) % w + 1 ≡ p % w
  column-less p u z =
      let m : p % w < w = mod-lt p z in
      let e : p / w * w + (p % w - 1) ≡ p - 1 = omega (arith, div-add-mod' p w) in
      let d : (p / w * w + (p % w - 1)) % w ≡ p % w - 1 = digits_mod (p / w) (omega arith) in
      let f : (p - 1) % w ≡ p % w - 1 = ap (λ (x : ℕ). x % w) (sym e) ∙ d in
      omega arith

  column-more : (p : ℕ) → (p % w + 1 ≡ w → ⊥) → 0 < w → (p + 1) % w ≡ p % w + 1
  column-more p u z =
      let m : p % w < w = mod-lt p z in
      let e : p / w * w + (p % w + 1) ≡ p + 1 = omega (arith, div-add-mod' p w) in
      ap (λ (x : ℕ). x % w) (sym e) ∙ digits_mod (p / w) (omega arith)

  abbrev Back : ℕ → ℕ → Type 0
  Back p d = neighbour w n p d < n → (e : ℕ) × (e < 4) × (neighbour w n (neighbour w n p d) e ≡ p)

  module _ (z : 0 < w) where
    back-left : (p : ℕ) → Back p 0
    back-left p k = elim (ℕ_discrete (p % w) 0) [
      | yes e ↦ absurd (omega (arith, off-left p e))
      | no u ↦ (1, omega arith, rw (near-left p u) (near-right (p - 1) (λ q. omega (arith, column-less p u z, mod-lt p z)) ∙ not_first p u))
    ]
      where
        not_first : (p : ℕ) → (p % w ≡ 0 → ⊥) → p - 1 + 1 ≡ p
        not_first p u = let q : (p ≡ 0 → ⊥) = λ e. u (rw (e) (zero-mod w)) in omega arith

    back-right : (p : ℕ) → Back p 1
    back-right p k = elim (ℕ_discrete (p % w + 1) w) [
      | yes e ↦ absurd (omega (arith, off-right p e))
      | no u ↦ (0, omega arith, rw (near-right p u) (near-left (p + 1) (λ q. omega (arith, column-more p u z)) ∙ omega arith))
    ]

    back-up : (p : ℕ) → p < n → Back p 2
    back-up p l k = elim (dec_lt p w) [
      | yes e ↦ absurd (omega (arith, off-up p e))
      | no u ↦ (3, omega arith, rw (near_up p (omega arith)) (near_down (p - w) (omega arith) ∙ omega arith))
    ]

    back-down : (p : ℕ) → Back p 3
    back-down p k = elim (dec_lt (p + w) n) [
      | yes e ↦ (2, omega arith, rw (near_down p e) (near_up (p + w) (omega arith) ∙ omega arith))
      | no u ↦ absurd (omega (arith, off-down p (omega arith)))
    ]

    pub near-back : (p d : ℕ) → p < n → d < 4 → Back p d
    near-back p d l q = elim (ℕ_discrete d 0) [
      | yes e ↦ rw e (back-left p)
      | no a ↦ elim (ℕ_discrete d 1) [
        | yes e ↦ rw e (back-right p)
        | no b ↦ elim (ℕ_discrete d 2) [
          | yes e ↦ rw e (back-up p l)
          | no c ↦ (let t : d ≡ 3 = omega arith in rw t (back-down p))
        ]
      ]
    ]

pub some-column : (p w : ℕ) → (p % w ≡ 0 → ⊥) → 1 ≤ p
some-column p w u = let q : (p ≡ 0 → ⊥) = λ e. u (rw e (zero-mod w)) in omega arith
