-- What is pending, written to the front over numbers that were read. Assumes nothing.
use Prim.Native.Nat.{ℕ, suc, ◌+◌, ◌-◌, ◌*◌, ◌/◌, ◌%◌, ◌≤◌, ◌<◌, ◌^◌}
use mathlib.Core.Path.{◌≡◌, refl, sym, ap, ◌∙◌}
use mathlib.Core.List.{List, [], ◌++◌, flat_map, append-nil, append_assoc}
use native.Mathlib.Omega.{arith}
use native.Mathlib.Numerals.{add-one}
use borrow.Author.Tests.{eq-eqb, ne_eqb}
use lib.IntN.{ℤ, pos}
use lib.ListN.{length, take, drop, get_or}
use mir.Syntax.{w16}
use mir.Val.{of_z}
use Rattle.base.specs.Lists.{range}
use Rattle.base.proofs.Behind.{same_at, further}
use Rattle.change_list.specs.Fronts.{Put}
use Rattle.change_list.specs.Between.{difference_of}
use Rattle.tile_marks.specs.Marks.{new_bits}
use Rattle.tile_copies.specs.Pending.{old_in, emitted, emitted_all}

module _ (w : ℕ) (l : List ℤ) (p v : ℕ) where
  pub emitted-some : (place old : ℕ) → v / 2 ^ 42 % 2 ≡ 1 → place ≡ p % w + p / w * 2 ^ 16 → old ≡ old_in (of_z w16 (get_or l p (pos 0))) v → difference_of place old (new_bits v) ≡ emitted w l p v
  unfolding emitted
  emitted-some place old e f g = rw (eq-eqb (v / 2 ^ 42 % 2) 1 e, f, g)

  pub emitted-none : (v / 2 ^ 42 % 2 ≡ 1 → ⊥) → [] ≡ emitted w l p v
  unfolding emitted
  emitted-none e = rw (ne_eqb (v / 2 ^ 42 % 2) 1 e)

module _ (w : ℕ) (l : List ℤ) (s₀ : List ℕ) where
  abbrev one : ℕ → List ℕ
  one p = emitted w l p (get_or s₀ p 0)

  pub rest : ℕ → List ℕ
  rest p = flat_map one (range p (length s₀ - p))

  pub record Emitting (s : List ℕ) (m p : ℕ) : Type 0 where
    pub low : m ≤ p
    pub high : p ≤ length s₀
    pub long : length s ≡ length s₀
    pub behind : drop p s ≡ drop p s₀
    pub done : take m s ++ rest p ≡ emitted_all w l s₀

  pub emitting-start : Emitting s₀ 0 0
  unfolding rest emitted_all
  emitting-start = record { low = omega arith; high = omega arith; long = refl; behind = refl; done = let z : length s₀ - 0 ≡ length s₀ = omega arith in rw z }

  pub emitting-read : (s : List ℕ) (m p : ℕ) → Emitting s m p → get_or s p 0 ≡ get_or s₀ p 0
  emitting-read s m p c = same_at s s₀ p c.behind 0

  rest-next : (p : ℕ) → p < length s₀ → rest p ≡ one p ++ rest (p + 1)
  unfolding rest range flat_map
  rest-next p h = let z : length s₀ - p ≡ suc (length s₀ - (p + 1)) = omega arith in rw (z, add-one)

  rest-none : (p : ℕ) → length s₀ ≤ p → rest p ≡ []
  unfolding rest range flat_map
  rest-none p h = let z : length s₀ - p ≡ 0 = omega arith in rw z

  pub emitting-step : (s s' : List ℕ) (m p r : ℕ) → Emitting s m p → p < length s → length s' ≡ length s → Put s m (emitted w l p (get_or s p 0)) (m + 1) s' r → Emitting s' r (p + 1)
  emitting-step s s' m p r c h k q =
      let lo = c.low in
      let g = c.long in
      let b : length s₀ ≡ length s = sym g in
      let e : emitted w l p (get_or s p 0) ≡ one p = ap (emitted w l p) (emitting-read s m p c) in
      record {
        low = omega (arith, q.most);
        high = omega arith;
        long = k ∙ g;
        behind = further s' s (m + 1) q.behind (p + 1) (omega arith) ∙ further s s₀ p c.behind (p + 1) (omega arith);
        done = ap (◌++ rest (p + 1)) (q.front ∙ ap (take m s ++◌) e) ∙ append_assoc (take m s) (one p) (rest (p + 1)) ∙ ap (take m s ++◌) (sym (rest-next p (omega arith))) ∙ c.done;
      }

  pub emitting-end : (s : List ℕ) (m p : ℕ) → Emitting s m p → length s ≤ p → take m s ≡ emitted_all w l s₀
  emitting-end s m p c h = let g = c.long in sym (append-nil (take m s)) ∙ ap (take m s ++◌) (sym (rest-none p (omega arith))) ∙ c.done
