-- First cells in order, each with its rank: as many as stand before it. Two cells have one tile exactly where they have one first cell. Assumes nothing.
use mathlib.Core.Path.{◌≡◌, refl, sym, ap, ◌∙◌}
use mathlib.Core.List.{List, [], ◌∷◌, ◌++◌}
use Prim.Native.Nat.{ℕ, zero, suc, ◌+◌, ◌<◌, ◌≤◌}
use native.Mathlib.Decide.{dec_lt, ℕ_discrete}
use native.Mathlib.Nat.{not-suc-le-zero}
use native.Mathlib.Omega.{arith}
use borrow.Author.Tests.{eq-eqb, ne_eqb}
use lib.IntN.{ℤ}
use lib.ListN.{length, get_or, length-append, get_or-append}
use lib.Seq.{get_or-append_seam}
use Rattle.tile_cells.specs.Cells.{first_cell}
use Rattle.tile_cells.specs.Ids.{firsts_below, tile_id}
use Rattle.tile_cells.proofs.Firsts.{first-le, first-first}

module _ (w t : ℕ) (l : List ℤ) where
  abbrev first : ℕ → ℕ
  first = first_cell w t l

  abbrev firsts : ℕ → List ℕ
  firsts = firsts_below w t l

  abbrev rank : ℕ → ℕ
  rank c = length (firsts c)

  pub firsts-new : (c : ℕ) → first c ≡ c → firsts (suc c) ≡ firsts c ++ (c ∷ [])
  unfolding firsts_below
  firsts-new c e = rw (eq-eqb (first c) c e)

  pub firsts-old : (c : ℕ) → (first c ≡ c → ⊥) → firsts (suc c) ≡ firsts c
  unfolding firsts_below
  firsts-old c e = rw (ne_eqb (first c) c e)

  pub rank-new : (c : ℕ) → first c ≡ c → rank (suc c) ≡ suc (rank c)
  rank-new c e = ap length (firsts-new c e) ∙ length-append (firsts c) (c ∷ []) ∙ omega arith

  pub rank-old : (c : ℕ) → (first c ≡ c → ⊥) → rank (suc c) ≡ rank c
  rank-old c e = ap length (firsts-old c e)

  pub rank-le : (c : ℕ) → rank c ≤ c
  unfolding firsts_below
  rank-le zero = omega arith
  rank-le (suc c) = elim (ℕ_discrete (first c) c) [ yes e ↦ omega (arith, rank-new c e, rank-le c) | no e ↦ omega (arith, rank-old c e, rank-le c) ]

  -- the element at a rank
  pub record At (c i f : ℕ) : Type 0 where
    pub below : i < rank c
    pub is : get_or (firsts c) i 0 ≡ f

  pub firsts_at : (c f : ℕ) → first f ≡ f → f < c → At c (rank f) f
  firsts_at zero f e h = absurd (not-suc-le-zero h)
  firsts_at (suc c) f e h = elim (ℕ_discrete f c) [
    | yes q ↦ last q
    | no q ↦ elim (ℕ_discrete (first c) c) [ yes z ↦ before z (firsts_at c f e (omega arith)) | no z ↦ same z (firsts_at c f e (omega arith)) ]
  ]
    where
      last : f ≡ c → At (suc c) (rank f) f
      last q =
          let z : first c ≡ c = rw q at e in
          record { below = rw q (omega (arith, rank-new c z)); is = rw (q, firsts-new c z) (get_or-append_seam (firsts c) c [] 0) }

      before : first c ≡ c → At c (rank f) f → At (suc c) (rank f) f
      before z a = record { below = omega (arith, a.below, rank-new c z); is = rw (firsts-new c z) (get_or-append (firsts c) (c ∷ []) 0 (rank f) a.below ∙ a.is) }

      same : (first c ≡ c → ⊥) → At c (rank f) f → At (suc c) (rank f) f
      same z a = record { below = omega (arith, a.below, rank-old c z); is = rw (firsts-old c z) a.is }

  -- each element is a first cell below c, at its rank
  pub record From (c i f : ℕ) : Type 0 where
    pub own : first f ≡ f
    pub below : f < c
    pub place : rank f ≡ i

  pub firsts-from : (c i : ℕ) → i < rank c → From c i (get_or (firsts c) i 0)
  unfolding firsts_below
  firsts-from zero i h = absurd (not-suc-le-zero h)
  firsts-from (suc c) i h = elim (ℕ_discrete (first c) c) [
    | yes z ↦ rw (firsts-new c z) (elim (dec_lt i (rank c)) [ yes k ↦ rw (get_or-append (firsts c) (c ∷ []) 0 i k) (more (firsts-from c i k)) | no k ↦ last z (omega (arith, rank-new c z)) ])
    | no z ↦ rw (firsts-old c z) (more (firsts-from c i (omega (arith, rank-old c z))))
  ]
    where
      more : {f : ℕ} → From c i f → From (suc c) i f
      more a = record { own = a.own; below = omega (arith, a.below); place = a.place }

      last : first c ≡ c → i ≡ rank c → From (suc c) i (get_or (firsts c ++ (c ∷ [])) i 0)
      last z e = rw (e, get_or-append_seam (firsts c) c [] 0) (record { own = z; below = omega arith; place = refl })

  -- one rank, one first cell
  rank-one : (f g : ℕ) → first f ≡ f → first g ≡ g → rank f ≡ rank g → f ≡ g
  rank-one f g a b e =
      let p = firsts_at (suc (f + g)) f a (omega arith) in
      let q = firsts_at (suc (f + g)) g b (omega arith) in
      sym p.is ∙ ap (λ (i : ℕ). get_or (firsts (suc (f + g))) i 0) e ∙ q.is

  -- "two cells have the same tile" exactly where their first cells are equal
  pub id_same : (c d : ℕ) → first c ≡ first d → tile_id w t l c ≡ tile_id w t l d
  unfolding tile_id
  id_same c d e = ap rank e

  pub same_id : (c d : ℕ) → tile_id w t l c ≡ tile_id w t l d → first c ≡ first d
  unfolding tile_id
  same_id c d e = rank-one (first c) (first d) (first-first w t l c) (first-first w t l d) e

  -- a first cell's tile is the next one, any other's is one before
  pub id-new : (c : ℕ) → first c ≡ c → tile_id w t l c ≡ rank c
  unfolding tile_id
  id-new c e = ap rank e

  -- the tile of a cell whose first cell is below n is one of those so far, and that first cell's
  pub id-at : (n c : ℕ) → first c < n → At n (tile_id w t l c) (first c)
  unfolding tile_id
  id-at n c h = firsts_at n (first c) (first-first w t l c) h

  pub id-old : (c : ℕ) → (first c ≡ c → ⊥) → tile_id w t l c < rank c
  id-old c e = (id-at c c (omega (arith, first-le w t l c))).below

  -- no other place has it
  pub id-only : (n c j : ℕ) → j < rank n → first c ≡ get_or (firsts n) j 0 → tile_id w t l c ≡ j
  unfolding tile_id
  id-only n c j h e = ap rank e ∙ (firsts-from n j h).place
