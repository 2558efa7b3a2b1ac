-- The copies, each written above its place's class and mark, which stay. Assumes nothing.
use Prim.Native.Nat.{ℕ, ◌+◌, ◌*◌, ◌/◌, ◌%◌, ◌≤◌, ◌<◌, ◌^◌}
use mathlib.Core.Path.{◌≡◌, refl, ap, ◌∙◌}
use mathlib.Core.Bool.{Bool, true, false, not, ◌&&◌, ◌||◌}
use mathlib.Core.List.{List}
use native.Mathlib.Omega.{arith}
use native.Mathlib.Decide.{ℕ_discrete, dec_lt}
use borrow.Author.Tests.{le-leb, lt-leb, eq-eqb, ne_eqb, leb-true}
use lib.Dec.{leb, eqb}
use lib.ListN.{length, get_or, set, length-set}
use lib.Seq.{get_or-set_same, get_or-set_other}
use Rattle.selection.specs.declared.Selection.{Selection}
use Rattle.selection.specs.Selection.{contains}
use Rattle.tile_marks.specs.Marks.{place_at, new_bits, last_in, elsewhere, land_by, landed, Marks}

-- ---- by the tests
module _ (w : ℕ) (list : List ℕ) (m q : ℕ) where
  pub nowhere : m < 2 → false ≡ elsewhere w list m q
  unfolding elsewhere
  nowhere h = rw (lt-leb 2 m h)

  pub several : 2 ≤ m → m % 2 ≡ 1 → true ≡ elsewhere w list m q
  unfolding elsewhere
  several h e = rw (le-leb 2 m h, eq-eqb (m % 2) 1 e)

  pub by_place : (k : ℕ) → 2 ≤ m → (m % 2 ≡ 1 → ⊥) → k ≡ place_at w list (last_in m) → not (eqb k q) ≡ elsewhere w list m q
  unfolding elsewhere
  by_place k h e f = rw (le-leb 2 m h, ne_eqb (m % 2) 1 e, f)

  pub some-mark : elsewhere w list m q ≡ true → 2 ≤ m
  unfolding elsewhere
  some-mark e = leb-true 2 m (go (leb 2 m) e)
    where
      go : (b : Bool) → b && (eqb (m % 2) 1 || not (eqb (place_at w list (last_in m)) q)) ≡ true → b ≡ true
      go true e = refl
      go false e = e

module _ (w : ℕ) (region : Selection) (list : List ℕ) (p m : ℕ) where
  pub land-outside : contains region (p % w) (p / w) ≡ false → 0 ≡ land_by w region list p m
  unfolding land_by
  land-outside e = rw e

  pub land-none : contains region (p % w) (p / w) ≡ true → elsewhere w list m p ≡ false → 0 ≡ land_by w region list p m
  unfolding land_by
  land-none e f = rw (e, f)

  pub land-one : (v : ℕ) → contains region (p % w) (p / w) ≡ true → elsewhere w list m p ≡ true → v ≡ new_bits (get_or list (last_in m) 0) → 1 + v * 64 ≡ land_by w region list p m
  unfolding land_by
  land-one v e f g = rw (e, f, g)

-- ---- the loop
module _ (w : ℕ) (region : Selection) (list s₀ : List ℕ) where
  pub record Landing (s : List ℕ) (p : ℕ) : Type 0 where
    pub high : p ≤ length s₀
    pub long : length s ≡ length s₀
    pub done : (q : ℕ) → q < p → get_or s q 0 ≡ landed w region list s₀ q
    pub ahead : (q : ℕ) → p ≤ q → get_or s q 0 ≡ get_or s₀ q 0

  pub landing-start : Landing s₀ 0
  landing-start = record { high = omega arith; long = refl; done = λ q h. absurd (omega arith); ahead = λ q h. refl }

  module _ (few : length list ≤ 2 ^ 20) (marks : Marks list s₀) (s : List ℕ) (p : ℕ) (c : Landing s p) where
    low : (q : ℕ) → q < length s₀ → get_or s₀ q 0 < 2 ^ 42
    low q h = omega (arith, marks.most q h)

    -- what stood below is there
    pub kept : (q : ℕ) → q < length s₀ → get_or s q 0 % 2 ^ 42 ≡ get_or s₀ q 0
    unfolding landed
    kept q h = elim (dec_lt q p) [
      | yes a ↦ rw (c.done q a) (omega (arith, low q h))
      | no a ↦ rw (c.ahead q (omega arith)) (omega (arith, low q h))
    ]

    module _ (h : p < length s₀) (class : ℕ) (e : class ≡ get_or s p 0 % 2 ^ 20) where
      class-is : class ≡ get_or s₀ p 0 % 2 ^ 20
      class-is = e ∙ ap (λ (v : ℕ). v % 2 ^ 20) (c.ahead p (omega arith))

      pub class-within : class < length s₀
      class-within = rw class-is (marks.within p h)

      mark-is : get_or s class 0 % 2 ^ 42 / 2 ^ 20 ≡ get_or s₀ (get_or s₀ p 0 % 2 ^ 20) 0 / 2 ^ 20
      mark-is = ap (λ (v : ℕ). v / 2 ^ 20) (kept class class-within) ∙ ap (λ (i : ℕ). get_or s₀ i 0 / 2 ^ 20) class-is

      pub mark-most : get_or s class 0 % 2 ^ 42 / 2 ^ 20 < 2 * length list + 2
      mark-most = rw (kept class class-within) (marks.most class class-within)

      pub landing-room : (v : ℕ) → v < 2 ^ 22 → get_or s p 0 + v * 2 ^ 42 < 2 ^ 64
      landing-room v k = omega (arith, c.ahead p (omega arith), low p h)

      pub landing-step : (v : ℕ) → v ≡ land_by w region list p (get_or s class 0 % 2 ^ 42 / 2 ^ 20) → Landing (set s p (get_or s p 0 + v * 2 ^ 42)) (p + 1)
      unfolding landed
      landing-step v g =
          let l = c.long in
          let x : ℕ = get_or s p 0 + v * 2 ^ 42 in
          let is : x ≡ landed w region list s₀ p = rw (c.ahead p (omega arith), g, mark-is) in
          record {
            high = omega arith;
            long = length-set s p x ∙ l;
            done = λ q a. elim (ℕ_discrete q p) [ yes z ↦ rw z (get_or-set_same s p x 0 (omega arith) ∙ is) | no z ↦ get_or-set_other s p q x 0 z ∙ c.done q (omega arith) ];
            ahead = λ q a. get_or-set_other s p q x 0 (λ z. omega arith) ∙ c.ahead q (omega arith);
          }

  pub landing-end : (s : List ℕ) (p : ℕ) → Landing s p → length s ≤ p → (q : ℕ) → q < length s₀ → get_or s q 0 ≡ landed w region list s₀ q
  landing-end s p c h q k = let l = c.long in c.done q (omega arith)
