-- The first cell of a class, found by a table: one cell more. Assumes nothing.
use mathlib.Core.Path.{◌≡◌, refl, sym, ◌∙◌}
use mathlib.Core.List.{List}
use Prim.Native.Nat.{ℕ, ◌+◌, ◌*◌, ◌<◌, ◌≤◌}
use native.Mathlib.Decide.{ℕ_discrete}
use native.Mathlib.Nat.{le_antisymm, not-suc-le-zero}
use native.Mathlib.Omega.{arith}
use lib.IntN.{ℤ}
use lib.ListN.{length, get_or, set, take, length-set}
use lib.Seq.{get_or-set_same, get_or-set_other, get_or-take, length-take-le, ext_get_or}
use Rattle.tile_cells.specs.Cells.{cell_count, order_of, first_cell, code_of, first_cells}
use Rattle.tile_cells.proofs.Rows.{first-at, length-first}
use Rattle.tile_cells.proofs.Firsts.{first-le, first-flip, first-same, code-self}
use Rattle.tile_classes.specs.Places.{class_in}
use Rattle.tile_classes.specs.Ranks.{number_at, Written}
use Rattle.tile_classes.specs.Firsts.{FirstBelow, Grouped, Entered}

module _ (w t : ℕ) (l : List ℤ) where
  abbrev first : ℕ → ℕ
  first = first_cell w t l

  -- the code, from what the table has
  pub code-none : (c : ℕ) {f : ℕ} → FirstBelow w t l c c f → f ≡ 0 → c * 4 ≡ code_of w t l c
  code-none c b e = code-self w t l c (le_antisymm (first-le w t l c) (b.none e))

  pub code-some : (c d : ℕ) {f o : ℕ} → FirstBelow w t l c c f → f ≡ d + 1 → o ≡ order_of w t l c d → d * 4 + o ≡ code_of w t l c
  unfolding code_of
  code-some c d {f} b e q = let z : d ≡ first c = omega (arith, b.some (omega arith)) in rw (q, z)

  pub some-inside : (c d : ℕ) {f : ℕ} → FirstBelow w t l c c f → f ≡ d + 1 → d ≤ c
  some-inside c d b e = omega (arith, b.some (omega arith), first-le w t l c)

  module _ (n c : ℕ) (s : List ℕ) (d : Entered w t l n c s) (h : c < n) where
    abbrev class : ℕ → ℕ
    class e = class_in (get_or s e 0)

    abbrev at : ℕ
    at = n + class c

    pub at-inside : at < n + n
    at-inside = omega (arith, d.grouped.small c (omega arith) h)

    pub head : FirstBelow w t l c c (get_or s at 0)
    head = d.heads c (omega arith) h

    module _ (v : ℕ) (z : v ≡ code_of w t l c) where
      abbrev one : List ℕ
      one = set s c v

      long : c < length s
      long = omega (arith, d.grouped.room)

      -- a list that is as this one, but for the table
      module _ (two : List ℕ) (k : length two ≡ length s) (places : (e : ℕ) → e < n → get_or two e 0 ≡ get_or one e 0) where
        two-later : (e : ℕ) → c + 1 ≤ e → e < n → get_or two e 0 ≡ get_or s e 0
        two-later e a b = places e b ∙ get_or-set_other s c e v 0 (λ q. omega arith)

        two-found : (e : ℕ) → e < c + 1 → get_or two e 0 ≡ code_of w t l e
        two-found e b =
            places e (omega arith) ∙ elim (ℕ_discrete e c) [
              | yes q ↦ rw (q, get_or-set_same s c v 0 long) z
              | no q ↦ rw (get_or-set_other s c e v 0 q) (d.found e (omega arith))
            ]

        two-grouped : Grouped w t l n (c + 1) two
        two-grouped =
            record {
              room = omega (arith, d.grouped.room);
              small = λ e a b. rw (two-later e a b) (d.grouped.small e (omega arith) b);
              same = λ e g a b p q o. rw (two-later e a b, two-later g p q) (d.grouped.same e g (omega arith) b (omega arith) q o);
              only = λ e g a b p q o. d.grouped.only e g (omega arith) b (omega arith) q (rw (two-later e a b, two-later g p q) at o);
            }

        two-entered : ((e : ℕ) → c + 1 ≤ e → e < n → FirstBelow w t l (c + 1) e (number_at n two (class e))) → Entered w t l n (c + 1) two
        two-entered f = record { grouped = two-grouped; found = two-found; heads = λ e a b. rw (two-later e a b) (f e a b) }

      -- the class of a cell whose first cell is this one
      its-class : (e : ℕ) → c ≤ e → e < n → first e ≡ c → class e ≡ class c
      its-class e a b q = d.grouped.same e c a b (omega arith) h (rw q at (first-flip w t l e))

      one_table : (k : ℕ) → number_at n one k ≡ number_at n s k
      one_table k = get_or-set_other s c (n + k) v 0 (λ q. omega arith)

      -- the first of its class is before it
      pub entered-old : (get_or s at 0 ≡ 0 → ⊥) → Entered w t l n (c + 1) one
      entered-old m = two-entered one (length-set s c v) (λ e b. refl) (λ e a b. rw (one_table (class e)) (later e a b))
        where
          later : (e : ℕ) → c + 1 ≤ e → e < n → FirstBelow w t l (c + 1) e (number_at n s (class e))
          later e a b =
              let o = d.heads e (omega arith) b in
              record {
                none = λ q. elim (ℕ_discrete (first e) c) [ yes y ↦ absurd (m (rw (its-class e (omega arith) b y) at q)) | no y ↦ omega (arith, o.none q) ];
                some = o.some;
              }

      -- it is the first of its class
      module _ (m : get_or s at 0 ≡ 0) where
        self : first c ≡ c
        self = le_antisymm (first-le w t l c) (head.none m)

        abbrev two : List ℕ
        two = set one at (c + 1)

        pub entered-new : Entered w t l n (c + 1) two
        entered-new =
            two-entered two (length-set one at (c + 1) ∙ length-set s c v) (λ e b. get_or-set_other one at e (c + 1) 0 (λ q. omega arith))
            (λ e a b. later e a b)
          where
            later : (e : ℕ) → c + 1 ≤ e → e < n → FirstBelow w t l (c + 1) e (number_at n two (class e))
            later e a b = elim (ℕ_discrete (class e) (class c)) [
              | yes q ↦ rw (q, get_or-set_same one at (c + 1) 0 (omega (arith, length-set s c v, at-inside, d.grouped.room)))
                  (record {
                    none = λ y. absurd (omega arith);
                    some = λ y. omega (
                      arith,
                      self,
                      first-same w t l e c (d.grouped.only e c (omega arith) b (omega arith) h q),
                    );
                  })
              | no q ↦ rw (get_or-set_other one at (n + class e) (c + 1) 0 (λ y. q (omega arith)), one_table (class e)) (
                  let o = d.heads e (omega arith) b in
                  record {
                    none = λ y. elim (ℕ_discrete (first e) c) [ yes x ↦ absurd (q (its-class e (omega arith) b x)) | no x ↦ omega (arith, o.none y) ];
                    some = o.some;
                  })
            ]

  -- the table is empty
  pub entered-none : (n : ℕ) {s₀ s : List ℕ} → Grouped w t l n 0 s₀ → Written n (λ c v. v ≡ 0) s₀ s n → Entered w t l n 0 s
  entered-none n {s₀} {s} g k =
      record {
        grouped = record {
          room = omega (arith, g.room, k.long);
          small = λ e a b. rw (k.places e b) (g.small e a b);
          same = λ e f a b p q o. rw (k.places e b, k.places f q) (g.same e f a b p q o);
          only = λ e f a b p q o. g.only e f a b p q (rw (k.places e b, k.places f q) at o);
        };
        found = λ e b. absurd (not-suc-le-zero b);
        heads = λ e a b. (let z : number_at n s (class_in (get_or s e 0)) ≡ 0 = k.numbers (class_in (get_or s e 0)) (rw (k.places e b) (g.small e a b)) in
            record { none = λ q. omega arith; some = λ q. absurd (omega arith) });
      }

-- every cell
pub entered-all : (w h t : ℕ) (l : List ℤ) {n : ℕ} (s : List ℕ) → n ≡ cell_count w h t → Entered w t l n n s → take n s ≡ first_cells w h t l
unfolding first_cells
entered-all w h t l {n} s e d =
    let room : length (take n s) ≡ n = length-take-le n s (omega (arith, d.grouped.room)) in
    ext_get_or 0 (take n s) (first_cells w h t l) (room ∙ e ∙ sym (length-first (code_of w t l) (cell_count w h t)))
    (λ i b. get_or-take n s i 0 (omega arith) ∙ d.found i (omega arith) ∙ sym (first-at (code_of w t l) (cell_count w h t) i 0 (omega arith)))
