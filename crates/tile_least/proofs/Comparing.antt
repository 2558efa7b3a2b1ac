-- Readings compared: part by part, and the lesser of two is one whichever comes first. Assumes nothing.
use mathlib.Core.Path.{◌≡◌, refl, sym, ap, ◌∙◌}
use mathlib.Core.Bool.{true, false}
use mathlib.Core.List.{List, [], ◌∷◌, ◌++◌, map, flat_map}
use Prim.Native.Nat.{ℕ, zero, suc, ◌+◌, ◌-◌, ◌≤◌}
use native.Mathlib.Nat.{add-zero}
use native.Mathlib.Omega.{arith}
use borrow.Author.Tests.{ltb-true, ltb-false, le-ltb, ne_eqb}
use lib.IntN.{ℤ, pos, negsuc}
use lib.Signed.{lt_z}
use lib.ListN.{length}
use Rattle.base.specs.Checks.{or_else}
use Rattle.base.specs.Lists.{range}
use Rattle.base.proofs.Back.{never}
use Rattle.base.proofs.First.{or-else-assoc, or-else-zero}
use Rattle.tile_cells.proofs.Rows.{length-first, first_next, rows_more, length-rows}
use Rattle.tile_cells.proofs.Positions.{cases}
use Rattle.tile_least.specs.Least.{compared_z, compared, lesser}

-- ---- two indices
-- of two, one is less or they are the same
less-not : (a b : ℤ) → lt_z a b ≡ true → lt_z b a ≡ false
less-not (pos a) (pos b) e = le-ltb b a (omega (arith, ltb-true a b e))
less-not (pos a) (negsuc b) e = never e
less-not (negsuc a) (pos b) e = refl
less-not (negsuc a) (negsuc b) e = le-ltb a b (omega (arith, ltb-true b a e))

none-less : (a b : ℤ) → lt_z a b ≡ false → lt_z b a ≡ false → a ≡ b
none-less (pos a) (pos b) e f = ap pos (omega (arith, ltb-false a b e, ltb-false b a f))
none-less (pos a) (negsuc b) e f = never (sym f)
none-less (negsuc a) (pos b) e f = never (sym e)
none-less (negsuc a) (negsuc b) e f = ap negsuc (omega (arith, ltb-false b a e, ltb-false a b f))

less-is : (a b : ℤ) → lt_z a b ≡ true → compared_z a b ≡ 1
unfolding compared_z
less-is a b e = rw e

more-is : (a b : ℤ) → lt_z b a ≡ true → compared_z a b ≡ 2
unfolding compared_z
more-is a b e = rw (less-not b a e, e)

-- ---- two readings of one length: the same, or one of them is less
data Ways (l m : List ℤ) : Type 0 where
  same : l ≡ m → Ways l m
  less : compared l m ≡ 1 → compared m l ≡ 2 → Ways l m
  more : compared l m ≡ 2 → compared m l ≡ 1 → Ways l m

-- an index that differs decides
decided : (a b : ℤ) (l m : List ℤ) {n : ℕ} → compared_z a b ≡ suc n → compared (a ∷ l) (b ∷ m) ≡ suc n
unfolding compared
decided a b l m {n} e = rw e

equal_is : (a : ℤ) → compared_z a a ≡ 0
unfolding compared_z
equal_is a = cases (lt_z a a) (λ e. never (sym (less-not a a e) ∙ e)) (λ e. rw e)

undecided : (a : ℤ) (l m : List ℤ) → compared (a ∷ l) (a ∷ m) ≡ compared l m
unfolding compared
undecided a l m = rw (equal_is a)

ways : (l m : List ℤ) → length l ≡ length m → Ways l m
ways [] [] e = same refl
ways [] (b ∷ m) e = absurd (omega arith)
ways (a ∷ l) [] e = absurd (omega arith)
ways (a ∷ l) (b ∷ m) e =
    cases (lt_z a b) (λ p. less (decided a b l m (less-is a b p)) (decided b a m l (more-is b a p)))
    (λ p. cases (lt_z b a) (λ q. more (decided a b l m (more-is a b q)) (decided b a m l (less-is b a q)))
    (λ q. rw (none-less a b p q) (elim (ways l m (omega arith)) [
      | same s ↦ same (ap (λ (k : List ℤ). b ∷ k) s)
      | less s u ↦ less (undecided b l m ∙ s) (undecided b m l ∙ u)
      | more s u ↦ more (undecided b l m ∙ s) (undecided b m l ∙ u)
    ])))

pub lesser-swap : (l m : List ℤ) → length l ≡ length m → lesser l m ≡ lesser m l
unfolding lesser
lesser-swap l m e = elim (ways l m e) [ same s ↦ rw s | less s u ↦ rw (s, u) | more s u ↦ rw (s, u) ]

-- the lesser, by what the comparison says
module _ (l m : List ℤ) {n : ℕ} (e : n ≡ compared l m) where
  pub second-less : n ≡ 2 → m ≡ lesser l m
  unfolding lesser
  second-less h = rw (← e, h)

  pub first-least : (n ≡ 2 → ⊥) → l ≡ lesser l m
  unfolding lesser
  first-least h = rw (← e, ne_eqb n 2 h)

-- ---- part by part
compared-append : (k l m n : List ℤ) → length k ≡ length l → compared (k ++ m) (l ++ n) ≡ or_else (compared k l) (compared m n)
unfolding compared
compared-append [] [] m n e = refl
compared-append [] (b ∷ l) m n e = absurd (omega arith)
compared-append (a ∷ k) [] m n e = absurd (omega arith)
compared-append (a ∷ k) (b ∷ l) m n e =
    ap (or_else (compared_z a b)) (compared-append k l m n (omega arith)) ∙ or-else-assoc (compared_z a b) (compared k l) (compared m n)

-- ---- what the first y parts say, each `part` after those before it
module _ (up_to part : ℕ → ℕ) (grow : (y : ℕ) → up_to (y + 1) ≡ or_else (up_to y) (part y)) where
  pub still-same : (y : ℕ) {r : ℕ} → up_to y ≡ 0 → r ≡ part y → r ≡ 0 → up_to (y + 1) ≡ 0
  still-same y p q e = rw (grow y, p, ← q, e)

  later : (y k : ℕ) {n : ℕ} → up_to y ≡ suc n → up_to (y + k) ≡ suc n
  later y zero p = rw (add-zero y) p
  later y (suc k) {n} p =
      let e : y + suc k ≡ y + k + 1 = omega arith in
      rw (e, grow (y + k), later y k p)

  -- the first part that differs decides
  pub decides : (y n r : ℕ) → y + 1 ≤ n → up_to y ≡ 0 → r ≡ part y → 1 ≤ r → r ≡ up_to n
  decides y n zero h p q b = absurd (omega arith)
  decides y n (suc r) h p q b =
      let e : y + 1 + (n - (y + 1)) ≡ n = omega arith in
      let here : up_to (y + 1) ≡ suc r = rw (grow y, p, ← q) in
      sym (rw e at (later (y + 1) (n - (y + 1)) here))

one : (a b : ℤ) → compared (a ∷ []) (b ∷ []) ≡ compared_z a b
unfolding compared
one a b = or-else-zero (compared_z a b)

-- one index more
pub row-grows : (f g : ℕ → ℤ) (x : ℕ)
    → compared (map f (range 0 (x + 1))) (map g (range 0 (x + 1))) ≡ or_else (compared (map f (range 0 x)) (map g (range 0 x))) (compared_z (f x) (g x))
row-grows f g x =
    let k : List ℤ = map f (range 0 x) in
    let l : List ℤ = map g (range 0 x) in
    rw (first_next f x, first_next g x)
    (compared-append k l (f x ∷ []) (g x ∷ []) (length-first f x ∙ sym (length-first g x)) ∙ ap (or_else (compared k l)) (one (f x) (g x)))

-- one row more
pub rows_grow : (f g : ℕ → List ℤ) (t : ℕ) → ((y : ℕ) → length (f y) ≡ t) → ((y : ℕ) → length (g y) ≡ t) → (y : ℕ)
    → compared (flat_map f (range 0 (y + 1))) (flat_map g (range 0 (y + 1)))
    ≡ or_else (compared (flat_map f (range 0 y)) (flat_map g (range 0 y))) (compared (f y) (g y))
rows_grow f g t ef eg y =
    rw (rows_more f y, rows_more g y)
    (compared-append (flat_map f (range 0 y)) (flat_map g (range 0 y)) (f y) (g y) (length-rows f t ef y ∙ sym (length-rows g t eg y)))
