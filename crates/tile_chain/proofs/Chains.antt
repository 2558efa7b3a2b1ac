-- The chains of first cells: what a walk along one has ruled out, and a cell entered. Assumes nothing.
use mathlib.Core.Path.{◌≡◌, refl, sym, ap, ◌∙◌}
use mathlib.Core.Bool.{Bool, true, false, ◌&&◌}
use mathlib.Core.List.{List}
use Prim.Native.Nat.{ℕ, zero, suc, ◌+◌, ◌*◌, ◌<◌, ◌≤◌}
use native.Mathlib.Decide.{dec_lt, ℕ_discrete}
use native.Mathlib.Nat.{not-suc-le-zero}
use native.Mathlib.Omega.{arith}
use borrow.Author.Tests.{eq-eqb, eqb-true}
use lib.Dec.{eqb}
use lib.IntN.{ℤ}
use lib.ListN.{get_or}
use Rattle.base.proofs.Bools.{and_left, and_right}
use Rattle.base.proofs.Back.{never}
use Rattle.tile_cells.specs.Cells.{corner_of, order_of, first_cell, code_of}
use Rattle.tile_cells.specs.Seen.{tile_at}
use Rattle.tile_cells.specs.Key.{key_of, scaled}
use Rattle.tile_cells.proofs.Positions.{cases}
use Rattle.tile_cells.proofs.Corners.{cell-seen}
use Rattle.tile_cells.proofs.Firsts.{first-le, first-flip, first-first, order-key, code-found, code-self}
use Rattle.tile_chain.specs.Table.{chain_of, next_in, bucketOf, lastOn, Chained}

-- a cell's bucket, from its key
pub bucket-is : (w t : ℕ) (l : List ℤ) (n c : ℕ) {r key corner m : ℕ} → corner ≡ corner_of w t c → key ≡ key_of t (tile_at l corner w t) → m ≡ n → r ≡ scaled key m → r ≡ bucketOf w t l n c
unfolding bucketOf chain_of
bucket-is w t l n c a b e q = rw (← e, ← cell-seen w t l c, ← a, ← b) q

module _ (w t : ℕ) (l : List ℤ) (n : ℕ) where
  abbrev first : ℕ → ℕ
  first = first_cell w t l

  abbrev order : ℕ → ℕ → ℕ
  order = order_of w t l

  abbrev bucket : ℕ → ℕ
  bucket = bucketOf w t l n

  abbrev last : ℕ → ℕ → ℕ
  last = lastOn w t l n

  -- ---- one cell more
  abbrev on : ℕ → ℕ → Bool
  on b c = eqb (first c) c && eqb (bucket c) b

  last_on : (b c : ℕ) → on b c ≡ true → last b (suc c) ≡ suc c
  unfolding lastOn
  last_on b c e = rw e

  last_off : (b c : ℕ) → on b c ≡ false → last b (suc c) ≡ last b c
  unfolding lastOn
  last_off b c e = rw e

  is-on : (b c : ℕ) → first c ≡ c → bucket c ≡ b → on b c ≡ true
  is-on b c e f = rw (eq-eqb (first c) c e, eq-eqb (bucket c) b f)

  on-first : (b c : ℕ) → on b c ≡ true → first c ≡ c
  on-first b c e = eqb-true (first c) c (and_left (eqb (first c) c) (eqb (bucket c) b) e)

  on-bucket : (b c : ℕ) → on b c ≡ true → bucket c ≡ b
  on-bucket b c e = eqb-true (bucket c) b (and_right (eqb (first c) c) (eqb (bucket c) b) e)

  last-le : (b c : ℕ) → last b c ≤ c
  unfolding lastOn
  last-le b zero = omega arith
  last-le b (suc c) = cases (on b c) (λ e. omega (arith, last_on b c e)) (λ e. omega (arith, last_off b c e, last-le b c))

  last-last : (b c : ℕ) → last b (last b c) ≡ last b c
  unfolding lastOn
  last-last b zero = refl
  last-last b (suc c) = cases (on b c) (λ e. rw (last_on b c e) (last_on b c e)) (λ e. rw (last_off b c e) (last-last b c))

  -- none after it
  last_none : (b c g : ℕ) → last b c ≤ g → g < c → on b g ≡ true → ⊥
  last_none b zero g h k e = not-suc-le-zero k
  last_none b (suc c) g h k e =
      cases (on b c) (λ q. absurd (omega (arith, last_on b c q)))
      (λ q. elim (ℕ_discrete g c) [ yes z ↦ never (sym q ∙ rw z at e) | no z ↦ last_none b c g (omega (arith, last_off b c q)) (omega arith) e ])

  -- ---- a walk for cell c along the chain of its bucket, at p: the first cells from p on are ruled out
  pub record Walk (c p : ℕ) : Type 0 where
    pub low : p ≤ c
    pub here : last (bucket c) p ≡ p
    pub ruled_out : (g : ℕ) → p ≤ g → g < c → on (bucket c) g ≡ true → order c g < 4 → ⊥

  pub walk_start : (c p : ℕ) → p ≡ last (bucket c) c → Walk c p
  walk_start c p e =
      record {
        low = omega (arith, last-le (bucket c) c);
        here = rw e (last-last (bucket c) c);
        ruled_out = λ g h k o q. last_none (bucket c) c g (omega arith) k o;
      }

  module _ (c p f : ℕ) (k : Walk c p) (e : p ≡ suc f) where
    pub walk-below : f < c
    walk-below = omega (arith, k.low)

    -- the cell that it is at is a first cell of the chain
    pub walk-on : on (bucket c) f ≡ true
    walk-on = cases (on (bucket c) f) (λ q. q) (λ q. absurd (off q))
      where
        off : on (bucket c) f ≡ false → ⊥
        off q = omega (arith, rw e at k.here, last_off (bucket c) f q, last-le (bucket c) f)

    pub walk_first : first f ≡ f
    walk_first = on-first (bucket c) f walk-on

    -- found
    pub walk-found : {o : ℕ} → o ≡ order c f → o < 4 → f * 4 + o ≡ code_of w t l c
    walk-found q h = code-found w t l c f walk_first q h

    on-next : {s : List ℕ} {p' : ℕ} → Chained w t l n c s → p' ≡ next_in (get_or s f 0) → p' ≡ last (bucket c) f
    on-next d z = z ∙ d.nexts f walk-below walk_first ∙ ap (λ (b : ℕ). last b f) (on-bucket (bucket c) f walk-on)

    pub walk-less : {s : List ℕ} {p' : ℕ} → Chained w t l n c s → p' ≡ next_in (get_or s f 0) → p' < p
    walk-less d z = omega (arith, on-next d z, last-le (bucket c) f)

    -- not it: on to the next
    pub walk-next : {o p' : ℕ} {s : List ℕ} → o ≡ order c f → 4 ≤ o → Chained w t l n c s → p' ≡ next_in (get_or s f 0) → Walk c p'
    walk-next {o} {p'} q h d z =
        let at : p' ≡ last (bucket c) f = on-next d z in
        record {
          low = omega (arith, at, last-le (bucket c) f, walk-below);
          here = rw at (last-last (bucket c) f);
          ruled_out = λ g a b u v. elim (dec_lt g f) [
            | yes y ↦ last_none (bucket c) f g (omega arith) y u
            | no y ↦ elim (ℕ_discrete g f) [ yes x ↦ omega (arith, rw x at v) | no x ↦ k.ruled_out g (omega arith) b u v ]
          ];
        }

  -- flips have one bucket
  same-bucket : (c d : ℕ) → order c d < 4 → bucket c ≡ bucket d
  unfolding bucketOf chain_of
  same-bucket c d h = ap (λ (k : ℕ). scaled k n) (order-key w t l c d h)

  -- the end of the chain: the cell is a first cell
  pub walk_end : (c p : ℕ) → Walk c p → p ≡ 0 → c * 4 ≡ code_of w t l c
  walk_end c p k e = code-self w t l c (elim (ℕ_discrete (first c) c) [ yes q ↦ q | no q ↦ absurd (other (omega (arith, first-le w t l c))) ])
    where
      other : first c < c → ⊥
      other h =
          let b : bucket c ≡ bucket (first c) = same-bucket c (first c) (first-flip w t l c) in
          k.ruled_out (first c) (omega arith) h (is-on (bucket c) (first c) (first-first w t l c) (sym b)) (first-flip w t l c)
