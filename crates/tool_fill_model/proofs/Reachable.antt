-- Places reached step by step: after as many steps as there are places nothing is added, and what is reached is the least closed set, which is what
-- is reachable. Assumes nothing.
use Prim.Native.Nat.{ℕ, zero, suc, ◌+◌, ◌≤◌, ◌<◌}
use mathlib.Core.Path.{◌≡◌, refl, sym, ap}
use mathlib.Core.Logic.{⊎_elim, ◌⊎◌, inl, inr}
use mathlib.Core.Bool.{Bool, true, false, ◌&&◌, ◌||◌}
use native.Mathlib.Omega.{arith}
use native.Mathlib.Decide.{ℕ_discrete, dec_lt}
use borrow.Author.Tests.{eq-eqb, eqb-true}
use Rattle.base.proofs.Bools.{and_left, and_right}
use Rattle.tool_fill_model.specs.Flood.{Reachable, here, beside, reached}

pub or_l : (a b : Bool) → a ≡ true → a || b ≡ true
or_l true b e = refl
or_l false b e = cc

pub or_r : (a b : Bool) → b ≡ true → a || b ≡ true
or_r true b e = refl
or_r false b e = e

pub or_case : (a b : Bool) → a || b ≡ true → (a ≡ true) ⊎ (b ≡ true)
or_case true b e = inl refl
or_case false b e = inr e

pub and_both : (a b : Bool) → a ≡ true → b ≡ true → a && b ≡ true
and_both true b e f = f
and_both false b e f = e

-- how many below n
unfoldable tick : Bool → ℕ
tick true = 1
tick false = 0

tick-le : (b : Bool) → tick b ≤ 1
unfolding tick
tick-le true = omega arith
tick-le false = omega arith

tick-mono : (a b : Bool) → (a ≡ true → b ≡ true) → tick a ≤ tick b
unfolding tick
tick-mono true true h = omega arith
tick-mono true false h = let z : false ≡ true = h refl in absurd (omega (arith, ap tick (sym z)))
tick-mono false b h = omega arith

tick-same : (a b : Bool) → tick b ≤ tick a → b ≡ true → a ≡ true
unfolding tick
tick-same true b h e = refl
tick-same false true h e = absurd (omega arith)
tick-same false false h e = e

unfoldable number : (ℕ → Bool) → ℕ → ℕ
number f zero = 0
number f (suc n) = number f n + tick (f n)

number-le : (f : ℕ → Bool) (n : ℕ) → number f n ≤ n
unfolding number
number-le f zero = omega arith
number-le f (suc n) = omega (arith, number-le f n, tick-le (f n))

number-mono : (f g : ℕ → Bool) (n : ℕ) → ((p : ℕ) → p < n → f p ≡ true → g p ≡ true) → number f n ≤ number g n
unfolding number
number-mono f g zero h = omega arith
number-mono f g (suc n) h = omega (arith, number-mono f g n (λ p q. h p (omega arith)), tick-mono (f n) (g n) (h n (omega arith)))

number_same : (f g : ℕ → Bool) (n : ℕ) → ((p : ℕ) → p < n → f p ≡ true → g p ≡ true) → number g n ≤ number f n → (p : ℕ) → p < n → g p ≡ true → f p ≡ true
unfolding number
number_same f g zero h k p q e = absurd (omega arith)
number_same f g (suc n) h k p q e =
    let m : number f n ≤ number g n = number-mono f g n (λ p q. h p (omega arith)) in
    let t : tick (f n) ≤ tick (g n) = tick-mono (f n) (g n) (h n (omega arith)) in
    elim (ℕ_discrete p n) [
      | yes r ↦ rw r (tick-same (f n) (g n) (omega arith) (rw r at e))
      | no r ↦ number_same f g n (λ p q. h p (omega arith)) (omega arith) p (omega arith) e
    ]

one-tick : (b : Bool) → b ≡ true → tick b ≡ 1
unfolding tick
one-tick true e = refl
one-tick false e = cc

number-some : (f : ℕ → Bool) (n p : ℕ) → p < n → f p ≡ true → 1 ≤ number f n
unfolding number
number-some f zero p h e = absurd (omega arith)
number-some f (suc n) p h e = elim (ℕ_discrete p n) [
  | yes r ↦ (let z : tick (f n) ≡ 1 = one-tick (f n) (rw r at e) in omega arith)
  | no r ↦ omega (arith, number-some f n p (omega arith) e)
]

module _ (n : ℕ) (near : ℕ → ℕ → ℕ) (passes : ℕ → Bool) (start : ℕ) (first : start < n)
    (bounded : (p : ℕ) → passes p ≡ true → p < n)
    (back : (p d : ℕ) → p < n → d < 4 → near p d < n → (e : ℕ) × (e < 4) × (near (near p d) e ≡ p)) where
  abbrev At : ℕ → ℕ → Bool
  At k p = reached near passes start k p

  pub reached-more : (k p : ℕ) → At k p ≡ true → At (suc k) p ≡ true
  unfolding reached
  reached-more k p e = or_l (reached near passes start k p) _ e

  some_near : (k p d : ℕ) → d < 4 → At k (near p d) ≡ true → At k (near p 0) || (At k (near p 1) || (At k (near p 2) || At k (near p 3))) ≡ true
  some_near k p d h e = elim (ℕ_discrete d 0) [
    | yes a ↦ or_l (At k (near p 0)) _ (rw a at e)
    | no a ↦ or_r (At k (near p 0)) _ (elim (ℕ_discrete d 1) [
      | yes b ↦ or_l (At k (near p 1)) _ (rw b at e)
      | no b ↦ or_r (At k (near p 1)) _ (elim (ℕ_discrete d 2) [
        | yes c ↦ or_l (At k (near p 2)) _ (rw c at e)
        | no c ↦ or_r (At k (near p 2)) _ (let t : d ≡ 3 = omega arith in rw t at e)
      ])
    ])
  ]

  near-some : (k p : ℕ) → At k (near p 0) || (At k (near p 1) || (At k (near p 2) || At k (near p 3))) ≡ true → (d : ℕ) × (d < 4) × (At k (near p d) ≡ true)
  near-some k p e =
      ⊎_elim (λ a. (0, omega arith, a))
      (λ a. ⊎_elim (λ b. (1, omega arith, b)) (λ b. ⊎_elim (λ c. (2, omega arith, c)) (λ c. (3, omega arith, c)) (or_case (At k (near p 2)) (At k (near p 3)) b)) (or_case (At k (near p 1)) _ a))
      (or_case (At k (near p 0)) _ e)

  pub reached-next : (k p d : ℕ) → d < 4 → passes p ≡ true → At k (near p d) ≡ true → At (suc k) p ≡ true
  unfolding reached
  reached-next k p d h o e = or_r (reached near passes start k p) _ (and_both (passes p) _ o (some_near k p d h e))

  pub reached-in : (k p : ℕ) → At k p ≡ true → p < n
  unfolding reached
  reached-in zero p e = rw (eqb-true p start e) first
  reached-in (suc k) p e = ⊎_elim (λ a. reached-in k p a) (λ b. bounded p (and_left (passes p) _ b)) (or_case (reached near passes start k p) _ e)

  -- what is reached in one step more was reached before, or by a neighbour
  reached-case : (k p : ℕ) → At (suc k) p ≡ true → (At k p ≡ true) ⊎ ((passes p ≡ true) × ((d : ℕ) × (d < 4) × (At k (near p d) ≡ true)))
  unfolding reached
  reached-case k p e = ⊎_elim (λ a. inl a) (λ b. inr (and_left (passes p) _ b, near-some k p (and_right (passes p) _ b))) (or_case (reached near passes start k p) _ e)

  pub start-reached : At zero start ≡ true
  unfolding reached
  start-reached = eq-eqb start start refl

  pub start-stays : (k : ℕ) → At k start ≡ true
  start-stays zero = start-reached
  start-stays (suc k) = reached-more k start (start-stays k)

  abbrev Stable : ℕ → Type 0
  Stable k = (p : ℕ) → p < n → At (suc k) p ≡ true → At k p ≡ true

  stable-suc : (k : ℕ) → Stable k → Stable (suc k)
  stable-suc k s p h e =
      ⊎_elim (λ a. a)
      (λ b. reached-next k p b.1.0 b.1.1 b.0 (s (near p b.1.0) (reached-in (suc k) (near p b.1.0) b.1.2) b.1.2))
      (reached-case (suc k) p e)

  grows : (k : ℕ) → Stable k ⊎ (suc k ≤ number (At k) n)
  grows zero = inr (number-some (At zero) n start first start-reached)
  grows (suc k) =
      ⊎_elim (λ s. inl (stable-suc k s))
      (λ m. elim (dec_lt (number (At k) n) (number (At (suc k)) n)) [
        | yes l ↦ inr (omega arith)
        | no l ↦ inl (stable-suc k (number_same (At k) (At (suc k)) n (λ p h e. reached-more k p e) (omega arith)))
      ]) (grows k)

  stable : Stable n
  stable = ⊎_elim (λ s. s) (λ m. absurd (omega (arith, number-le (At n) n))) (grows n)

  -- the places reached are closed
  pub reached-closed : (p d : ℕ) → p < n → d < 4 → passes (near p d) ≡ true → At n p ≡ true → At n (near p d) ≡ true
  reached-closed p d h k o e =
      let q : near p d < n = bounded (near p d) o in
      let b = back p d h k q in
      stable (near p d) q (reached-next n (near p d) b.0 b.1 o (rw b.2 e))

  module _ (C : ℕ → Type 0) (c : C start) (f : (p d : ℕ) → p < n → d < 4 → passes (near p d) ≡ true → C p → C (near p d)) where
    least-next : (k p : ℕ) → ((q : ℕ) → At k q ≡ true → C q) → (passes p ≡ true) × ((d : ℕ) × (d < 4) × (At k (near p d) ≡ true)) → C p
    least-next k p ih b =
        let q : near p b.1.0 < n = reached-in k (near p b.1.0) b.1.2 in
        let r = back p b.1.0 (bounded p b.0) b.1.1 q in
        rw r.2 at (f (near p b.1.0) r.0 q r.1 (rw r.2 b.0) (ih (near p b.1.0) b.1.2))

    -- and in every closed set
    pub reached-least : (k p : ℕ) → At k p ≡ true → C p
    unfolding reached
    reached-least zero p e = rw (eqb-true p start e) c
    reached-least (suc k) p e = ⊎_elim (λ a. reached-least k p a) (λ b. least-next k p (λ q. reached-least k q) b) (reached-case k p e)

  -- what is reachable is reached, and what is reached is reachable
  pub reachable-in : (p : ℕ) → Reachable near passes start p → p < n
  reachable-in p here = first
  reachable-in p (beside q d r k o) = bounded (near q d) o

  pub reachable-reached : (p : ℕ) → Reachable near passes start p → At n p ≡ true
  reachable-reached p here = start-stays n
  reachable-reached p (beside q d r k o) = reached-closed q d (reachable-in q r) k o (reachable-reached q r)

  pub reached-reachable : (p : ℕ) → At n p ≡ true → Reachable near passes start p
  reached-reachable p e = reached-least (Reachable near passes start) here (λ q d h k o r. beside q d r k o) n p e
