-- First cells numbered: one cell more, and what the numbers of a sheet's first cells are. Assumes nothing.
use mathlib.Core.Path.{◌≡◌, refl, sym, ap, ◌∙◌}
use mathlib.Core.List.{List, map}
use Prim.Native.Nat.{ℕ, zero, suc, ◌+◌, ◌*◌, ◌/◌, ◌%◌, ◌<◌, ◌≤◌}
use native.Mathlib.Numerals.{add-one}
use native.Mathlib.Decide.{ℕ_discrete}
use native.Mathlib.Omega.{arith}
use borrow.Author.Tests.{eq-eqb, ne_eqb}
use lib.IntN.{ℤ}
use lib.ListN.{length, get_or, set}
use Rattle.base.specs.Lists.{range}
use Rattle.tile_cells.specs.Cells.{cell_count, order_of, first_cell, code_of, first_cells}
use Rattle.tile_cells.specs.Ids.{firsts_below, tile_id, id_of}
use Rattle.tile_cells.proofs.Rows.{Row, row-none, row_next, row-behind, row-front, row-whole, first-at, length-first}
use Rattle.tile_cells.proofs.Grids.{first-same}
use Rattle.tile_cells.proofs.Firsts.{first-le, first-flip, first-first, order-self}
use Rattle.tile_cells.proofs.Ranks.{rank-new, rank-old}
use Rattle.tile_layout.specs.Numbering.{Coded, own_below, numbered}

module _ (s₀ : List ℕ) where
  own_new : (c : ℕ) → get_or s₀ c 0 / 4 ≡ c → own_below s₀ (c + 1) ≡ own_below s₀ c + 1
  unfolding own_below
  own_new c e = rw add-one (rw (eq-eqb (get_or s₀ c 0 / 4) c e) (omega arith))

  own_old : (c : ℕ) → (get_or s₀ c 0 / 4 ≡ c → ⊥) → own_below s₀ (c + 1) ≡ own_below s₀ c
  unfolding own_below
  own_old c e = rw add-one (rw (ne_eqb (get_or s₀ c 0 / 4) c e))

  pub record Numbering (s : List ℕ) (m c : ℕ) : Type 0 where
    pub row : Row (numbered s₀) s₀ s c
    pub count : m ≡ own_below s₀ c
    pub few : m ≤ c

  pub numbering-none : Numbering s₀ 0 0
  unfolding own_below
  numbering-none = record { row = row-none (numbered s₀) s₀; count = refl; few = omega arith }

  module _ {s : List ℕ} {m c : ℕ} (n : Numbering s m c) (h : c < length s₀) (d : Coded s₀) where
    pub here : get_or s c 0 ≡ get_or s₀ c 0
    here = row-behind (numbered s₀) 0 n.row

    pub first-low : get_or s c 0 / 4 ≤ c
    first-low = rw here (d.low c h)

    own_value : get_or s₀ c 0 / 4 ≡ c → m * 4 + get_or s c 0 % 4 ≡ numbered s₀ c
    unfolding numbered
    own_value q = rw (here, q, n.count)

    -- a first cell
    pub numbering-own : get_or s c 0 / 4 ≡ c → Numbering (set s c (m * 4 + get_or s c 0 % 4)) (m + 1) (c + 1)
    numbering-own e =
        let q : get_or s₀ c 0 / 4 ≡ c = rw here at e in
        record {
          row = row_next (numbered s₀) n.row h (m * 4 + get_or s c 0 % 4) (own_value q);
          count = omega (arith, n.count, own_new c q);
          few = omega (arith, n.few);
        }

    other-value : (get_or s₀ c 0 / 4 ≡ c → ⊥) → get_or s (get_or s₀ c 0 / 4) 0 / 4 * 4 + get_or s₀ c 0 % 4 ≡ numbered s₀ c
    unfolding numbered
    other-value q =
        let f : ℕ = get_or s₀ c 0 / 4 in
        let k : f < c = omega (arith, d.low c h) in
        let z : get_or s f 0 ≡ own_below s₀ (get_or s₀ f 0 / 4) * 4 + get_or s₀ f 0 % 4 = row-front (numbered s₀) 0 n.row f k in
        let o : get_or s₀ f 0 ≡ f * 4 = d.own c h in
        let a : get_or s₀ f 0 / 4 ≡ f = omega arith in
        let y : get_or s f 0 ≡ own_below s₀ f * 4 = z ∙ rw a (omega arith) in
        omega arith

    -- another one: its first cell is numbered
    pub numbering-other : (get_or s c 0 / 4 ≡ c → ⊥) → Numbering (set s c (get_or s (get_or s c 0 / 4) 0 / 4 * 4 + get_or s c 0 % 4)) m (c + 1)
    numbering-other e =
        let q : get_or s₀ c 0 / 4 ≡ c → ⊥ = λ z. e (rw here z) in
        record {
          row = row_next (numbered s₀) n.row h _ (rw here (other-value q));
          count = n.count ∙ sym (own_old c q);
          few = omega (arith, n.few);
        }

  pub numbering-all : {s : List ℕ} {m c : ℕ} → Numbering s m c → c ≤ length s₀ → length s₀ ≤ c → (s ≡ map (numbered s₀) (range 0 (length s₀))) × (m ≡ own_below s₀ (length s₀))
  numbering-all {c = c} n a b =
      let e : c ≡ length s₀ = omega arith in
      (row-whole (numbered s₀) n.row (length s₀) refl a b, n.count ∙ ap (own_below s₀) e)

-- ---- of a sheet
module _ (w h t : ℕ) (l : List ℤ) where
  abbrev n : ℕ
  n = cell_count w h t

  abbrev s : List ℕ
  s = first_cells w h t l

  at : (c : ℕ) → c < n → get_or s c 0 ≡ code_of w t l c
  unfolding first_cells
  at c b = first-at (code_of w t l) n c 0 b

  pub length-codes : length s ≡ n
  unfolding first_cells
  length-codes = length-first (code_of w t l) n

  first-in : (c : ℕ) → c < n → get_or s c 0 / 4 ≡ first_cell w t l c
  unfolding code_of
  first-in c b = omega (arith, at c b, first-flip w t l c)

  order-in : (c : ℕ) → c < n → get_or s c 0 % 4 ≡ order_of w t l c (first_cell w t l c)
  unfolding code_of
  order-in c b = omega (arith, at c b, first-flip w t l c)

  own : (c : ℕ) → c < n → get_or s (get_or s c 0 / 4) 0 ≡ get_or s c 0 / 4 * 4
  unfolding code_of
  own c b =
      let f : ℕ = first_cell w t l c in
      rw (first-in c b) (at f (omega (arith, first-le w t l c)) ∙ rw (first-first w t l c) (omega (arith, order-self w t l f)))

  pub coded : Coded s
  coded =
      record {
        low = λ c b. let k : c < n = omega (arith, length-codes) in omega (arith, first-in c k, first-le w t l c);
        own = λ c b. own c (omega (arith, length-codes));
      }

  own-firsts : (c : ℕ) → c ≤ n → own_below s c ≡ length (firsts_below w t l c)
  unfolding own_below firsts_below
  own-firsts zero b = refl
  own-firsts (suc c) b = elim (ℕ_discrete (first_cell w t l c) c) [
    | yes e ↦ rw (eq-eqb (get_or s c 0 / 4) c (first-in c (omega arith) ∙ e)) (ap suc (own-firsts c (omega arith)) ∙ sym (rank-new w t l c e))
    | no e ↦ rw (ne_eqb (get_or s c 0 / 4) c (λ q. e (sym (first-in c (omega arith)) ∙ q))) (own-firsts c (omega arith) ∙ sym (rank-old w t l c e))
  ]

  pub count-firsts : own_below s (length s) ≡ length (firsts_below w t l n)
  count-firsts = rw length-codes (own-firsts n (omega arith))

  each : (c : ℕ) → c < n → numbered s c ≡ id_of w t l c
  unfolding numbered id_of tile_id
  each c b = rw (first-in c b, order-in c b, own-firsts (first_cell w t l c) (omega (arith, first-le w t l c)))

  pub numbered-ids : map (numbered s) (range 0 (length s)) ≡ map (id_of w t l) (range 0 n)
  numbered-ids = rw length-codes (first-same (numbered s) (id_of w t l) n each)

  -- ---- as `first_cells` leaves them
  module _ (s₁ : List ℕ) (whole : s₁ ≡ s) where
    pub coded_in : Coded s₁
    coded_in = rw whole coded

    pub ids-in : {s₂ : List ℕ} → s₂ ≡ map (numbered s₁) (range 0 (length s₁)) → s₂ ≡ map (id_of w t l) (range 0 n)
    ids-in q = q ∙ ap (λ (m : List ℕ). map (numbered m) (range 0 (length m))) whole ∙ numbered-ids

    pub count-in : {m : ℕ} → m ≡ own_below s₁ (length s₁) → m ≡ length (firsts_below w t l n)
    count-in q = q ∙ ap (λ (m : List ℕ). own_below m (length m)) whole ∙ count-firsts
