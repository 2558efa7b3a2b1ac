-- A cell entered into the table: what is found, the heads and the nexts of the cells so far. Assumes nothing.
use mathlib.Core.Path.{◌≡◌, refl, sym, ap, ◌∙◌}
use mathlib.Core.Bool.{and-false}
use mathlib.Core.List.{List, map}
use Prim.Native.Nat.{ℕ, ◌+◌, ◌*◌, ◌<◌}
use native.Mathlib.Numerals.{add-one}
use native.Mathlib.Decide.{ℕ_discrete}
use native.Mathlib.Nat.{not-suc-le-zero}
use native.Mathlib.Omega.{arith}
use borrow.Author.Tests.{eq-eqb, ne_eqb}
use lib.IntN.{ℤ}
use lib.ListN.{length, get_or, set, replicate, length-set, length-replicate, get_or-replicate}
use lib.Seq.{get_or-set_same, get_or-set_other}
use Rattle.base.specs.Lists.{range}
use Rattle.tile_cells.specs.Cells.{cell_count, first_cell, code_of, first_cells}
use Rattle.tile_cells.proofs.Rows.{length-first}
use Rattle.tile_cells.proofs.Grids.{first-same}
use Rattle.tile_cells.proofs.Firsts.{code-self, code-is-self}
use Rattle.tile_chain.specs.Table.{found_in, head_in, next_in, Holds, bucketOf, lastOn, Chained}

-- a place that keeps a number keeps it in the list
kept : (φ : ℕ → ℕ) (s : List ℕ) (i v : ℕ) → i < length s → φ v ≡ φ (get_or s i 0) → (d : ℕ) → φ (get_or (set s i v) d 0) ≡ φ (get_or s d 0)
kept φ s i v h e d = elim (ℕ_discrete d i) [ yes q ↦ rw (q, get_or-set_same s i v 0 h) e | no q ↦ rw (get_or-set_other s i d v 0 q) ]

module _ (w t : ℕ) (l : List ℤ) (n c : ℕ) where
  abbrev first : ℕ → ℕ
  first = first_cell w t l

  abbrev bucket : ℕ → ℕ
  bucket = bucketOf w t l n

  abbrev last : ℕ → ℕ → ℕ
  last = lastOn w t l n

  last-new : first c ≡ c → last (bucket c) (c + 1) ≡ c + 1
  unfolding lastOn
  last-new e = rw add-one (rw (eq-eqb (first c) c e, eq-eqb (bucket c) (bucket c) refl))

  last-other : (b : ℕ) → (bucket c ≡ b → ⊥) → last b (c + 1) ≡ last b c
  unfolding lastOn
  last-other b e = rw add-one (rw (ne_eqb (bucket c) b e, and-false))

  last-old : (b : ℕ) → (first c ≡ c → ⊥) → last b (c + 1) ≡ last b c
  unfolding lastOn
  last-old b e = rw add-one (rw (ne_eqb (first c) c e))

  pub head-is : {s : List ℕ} {b head : ℕ} → Chained w t l n c s → b ≡ bucket c → b < n → head ≡ head_in (get_or s b 0) → head ≡ last (bucket c) c
  head-is {b = b} d e r q = q ∙ d.heads b r ∙ ap (λ (i : ℕ). last i c) e

  module _ (s : List ℕ) (d : Chained w t l n c s) (h : c < n) (found head v : ℕ) (f : found ≡ code_of w t l c) (a : head ≡ last (bucket c) c) (k : Holds v found (head_in (get_or s c 0)) head) where
    long : c < length s
    long = omega (arith, d.long)

    abbrev one : List ℕ
    one = set s c v

    one_found : (i : ℕ) → i < c + 1 → found_in (get_or one i 0) ≡ code_of w t l i
    one_found i b = elim (ℕ_discrete i c) [ yes e ↦ rw (e, get_or-set_same s c v 0 long) (k.found-is ∙ f) | no e ↦ rw (get_or-set_other s c i v 0 e) (d.found i (omega arith)) ]

    one-heads : (i : ℕ) → head_in (get_or one i 0) ≡ head_in (get_or s i 0)
    one-heads i = kept head_in s c v long k.head-is i

    one-nexts : (i : ℕ) → i < c + 1 → first i ≡ i → next_in (get_or one i 0) ≡ last (bucket i) i
    one-nexts i b z = elim (ℕ_discrete i c) [ yes e ↦ rw (e, get_or-set_same s c v 0 long) (k.next-is ∙ a) | no e ↦ rw (get_or-set_other s c i v 0 e) (d.nexts i (omega arith) z) ]

    -- not a first cell
    pub entered-old : (found ≡ c * 4 → ⊥) → Chained w t l n (c + 1) one
    entered-old m = record { long = length-set s c v ∙ d.long; found = one_found; heads = λ b q. one-heads b ∙ d.heads b q ∙ sym (last-old b (λ e. m (f ∙ sym (code-self w t l c e)))); nexts = one-nexts }

    -- a first cell
    module _ (m : found ≡ c * 4) (b : ℕ) (e : b ≡ bucket c) (r : b < n) (u : ℕ) (j : Holds u (found_in (get_or one b 0)) (c + 1) (next_in (get_or one b 0))) where
      new : first c ≡ c
      new = code-is-self w t l c (sym f ∙ m)

      long-one : b < length one
      long-one = omega (arith, length-set s c v, d.long)

      two-heads : (i : ℕ) → i < n → head_in (get_or (set one b u) i 0) ≡ last i (c + 1)
      two-heads i q = elim (ℕ_discrete i b) [
        | yes z ↦ rw (z, get_or-set_same one b u 0 long-one, e) (j.head-is ∙ sym (last-new new))
        | no z ↦ rw (get_or-set_other one b i u 0 z) (one-heads i ∙ d.heads i q ∙ sym (last-other i (λ y. z (sym y ∙ sym e))))
      ]

      pub entered-new : Chained w t l n (c + 1) (set one b u)
      entered-new =
          record {
            long = length-set one b u ∙ length-set s c v ∙ d.long;
            found = λ i q. kept found_in one b u long-one j.found-is i ∙ one_found i q;
            heads = two-heads;
            nexts = λ i q z. kept next_in one b u long-one j.next-is i ∙ one-nexts i q z;
          }

module _ (w h t : ℕ) (l : List ℤ) where
  abbrev n : ℕ
  n = cell_count w h t

  -- no cell yet
  pub entered-none : (s : List ℕ) → s ≡ replicate n 0 → Chained w t l n 0 s
  unfolding lastOn head_in
  entered-none s e =
      record {
        long = ap length e ∙ length-replicate n 0;
        found = λ d h. absurd (not-suc-le-zero h);
        heads = λ b h. rw (e, get_or-replicate {A = ℕ} n b 0 0 h);
        nexts = λ d h. absurd (not-suc-le-zero h);
      }

  -- every cell
  pub entered-all : (s : List ℕ) → Chained w t l n n s → map (λ i. found_in (get_or s i 0)) (range 0 (length s)) ≡ first_cells w h t l
  unfolding first_cells
  entered-all s d = rw d.long (first-same (λ i. found_in (get_or s i 0)) (code_of w t l) n (λ i b. d.found i b))

  pub length-first-cells : length (first_cells w h t l) ≡ n
  unfolding first_cells
  length-first-cells = length-first (code_of w t l) n
