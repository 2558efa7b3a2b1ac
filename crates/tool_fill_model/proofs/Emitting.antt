-- The loop that writes the changes of marked places over cells already read. Assumes nothing.
use Prim.Native.Nat.{ℕ, suc, ◌+◌, ◌-◌, ◌%◌, ◌≤◌, ◌<◌}
use mathlib.Core.Path.{◌≡◌, refl, sym, ap, ◌∙◌}
use mathlib.Core.Bool.{Bool}
use mathlib.Core.List.{List, [], ◌∷◌, ◌++◌, map, append-nil, append_assoc}
use native.Mathlib.Omega.{arith}
use native.Mathlib.Numerals.{add-one}
use lib.Dec.{eqb}
use lib.ListN.{length, take, drop, get_or, set, length-set}
use lib.Seq.{drop-set-lt, take-suc-set}
use borrow.Author.Tests.{eq-eqb, ne_eqb}
use Rattle.base.specs.Lists.{range, kept}
use Rattle.base.proofs.Behind.{same_at, further}
use Rattle.tool_fill_model.specs.Cells.{placed, emitted}

module _ (w pair : ℕ) (s₀ : List ℕ) where
  abbrev pub mk : ℕ → Bool
  mk p = eqb (get_or s₀ p 0 % 2) 1

  pub rest : ℕ → List ℕ
  rest p = map (placed w pair) (kept mk (range p (length s₀ - p)))

  pub record Emitting (s : List ℕ) (m p : ℕ) : Type 0 where
    pub low : m ≤ p
    pub high : p ≤ length s₀
    pub long : length s ≡ length s₀
    pub behind : drop p s ≡ drop p s₀
    pub done : take m s ++ rest p ≡ emitted w pair s₀

  pub emitting-start : Emitting s₀ 0 0
  unfolding rest emitted
  emitting-start = record { low = omega arith; high = omega arith; long = refl; behind = refl; done = let z : length s₀ - 0 ≡ length s₀ = omega arith in rw z }

  pub emitting-read : (s : List ℕ) (m p : ℕ) → Emitting s m p → get_or s p 0 ≡ get_or s₀ p 0
  emitting-read s m p c = same_at s s₀ p c.behind 0

  rest-hit : (p : ℕ) → p < length s₀ → get_or s₀ p 0 % 2 ≡ 1 → rest p ≡ placed w pair p ∷ rest (p + 1)
  unfolding rest range kept
  rest-hit p h e = let z : length s₀ - p ≡ suc (length s₀ - (p + 1)) = omega arith in rw (z, add-one, eq-eqb (get_or s₀ p 0 % 2) 1 e)

  rest-miss : (p : ℕ) → p < length s₀ → (get_or s₀ p 0 % 2 ≡ 1 → ⊥) → rest p ≡ rest (p + 1)
  unfolding rest range kept
  rest-miss p h e = let z : length s₀ - p ≡ suc (length s₀ - (p + 1)) = omega arith in rw (z, add-one, ne_eqb (get_or s₀ p 0 % 2) 1 e)

  rest-none : (p : ℕ) → length s₀ ≤ p → rest p ≡ []
  unfolding rest range kept
  rest-none p h = let z : length s₀ - p ≡ 0 = omega arith in rw z

  pub emitting-hit : (s : List ℕ) (m p v : ℕ) → Emitting s m p → p < length s → get_or s p 0 % 2 ≡ 1 → v ≡ placed w pair p → Emitting (set s m v) (m + 1) (p + 1)
  emitting-hit s m p v c h e f =
      let l = c.long in
      let lo = c.low in
      let e₀ : get_or s₀ p 0 % 2 ≡ 1 = ap (λ (x : ℕ). x % 2) (sym (emitting-read s m p c)) ∙ e in
      let t : take (m + 1) (set s m v) ≡ take m s ++ (v ∷ []) = rw add-one (take-suc-set s m v (omega arith)) in
      record {
        low = omega arith;
        high = omega arith;
        long = length-set s m v ∙ l;
        behind = drop-set-lt (p + 1) s m v (omega arith) ∙ further s s₀ p c.behind (p + 1) (omega arith);
        done = ap (◌++ rest (p + 1)) t ∙ append_assoc (take m s) (v ∷ []) (rest (p + 1)) ∙ ap (λ (x : ℕ). take m s ++ (x ∷ rest (p + 1))) f ∙ ap (take m s ++◌) (sym (rest-hit p (omega arith) e₀)) ∙ c.done;
      }

  pub emitting-miss : (s : List ℕ) (m p : ℕ) → Emitting s m p → p < length s → (get_or s p 0 % 2 ≡ 1 → ⊥) → Emitting s m (p + 1)
  emitting-miss s m p c h e =
      let l = c.long in
      let lo = c.low in
      let e₀ : (get_or s₀ p 0 % 2 ≡ 1 → ⊥) = λ q. e (ap (λ (x : ℕ). x % 2) (emitting-read s m p c) ∙ q) in
      record {
        low = omega arith;
        high = omega arith;
        long = l;
        behind = further s s₀ p c.behind (p + 1) (omega arith);
        done = ap (take m s ++◌) (sym (rest-miss p (omega arith) e₀)) ∙ c.done;
      }

  pub emitting-end : (s : List ℕ) (m p : ℕ) → Emitting s m p → length s ≤ p → take m s ≡ emitted w pair s₀
  emitting-end s m p c h = let l = c.long in sym (append-nil (take m s)) ∙ ap (take m s ++◌) (sym (rest-none p (omega arith))) ∙ c.done
