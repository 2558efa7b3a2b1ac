-- A row and rows as the loops go through them: one more at the end, and how long they are. Assumes nothing.
use mathlib.Core.Path.{◌≡◌, refl, sym, ap, ◌∙◌}
use mathlib.Core.List.{List, [], ◌∷◌, ◌++◌, map, map-append, flat_map, append-nil}
use Prim.Native.Nat.{ℕ, zero, suc, ◌+◌, ◌*◌, ◌-◌, ◌<◌, ◌≤◌}
use native.Mathlib.Nat.{add-zero, zero-add, le_of_suc-le-suc, not-suc-le-zero, le_antisymm}
use native.Mathlib.Omega.{arith}
use borrow.Rule.Slice.PartMut.{put_mid}
use lib.ListN.{length, set, take, drop, get_or, length-map, length-set, drop_of_length-le, get_or-append}
use lib.Seq.{get_or-append-add, get_or-drop}
use Rattle.base.specs.Lists.{range, over}
use Rattle.base.proofs.Over.{over_none, over-set, over-lent, length_over}
use Rattle.base.proofs.Collect.{length-range, range-next, flat_map-append, flat_map-one, length-flat_map}

pub get_d-range : (start n i d : ℕ) → i < n → get_or (range start n) i d ≡ start + i
unfolding range
get_d-range start zero i d h = absurd (not-suc-le-zero h)
get_d-range start (suc n) zero d h = sym (add-zero start)
get_d-range start (suc n) (suc i) d h = get_d-range (suc start) n i d (le_of_suc-le-suc h) ∙ omega arith

pub range_at : (n i d : ℕ) → i < n → get_or (range 0 n) i d ≡ i
range_at n i d h = get_d-range 0 n i d h ∙ zero-add i

pub get_d_map : {A B : Type 0} (f : A → B) (l : List A) (i : ℕ) (d : A) (e : B) → i < length l → get_or (map f l) i e ≡ f (get_or l i d)
get_d_map f [] i d e h = absurd (not-suc-le-zero h)
get_d_map f (x ∷ l) zero d e h = refl
get_d_map f (x ∷ l) (suc i) d e h = get_d_map f l i d e (le_of_suc-le-suc h)

module _ {A : Type 0} where
  -- ---- what the numbers below i give
  module _ (g : ℕ → A) where
    pub length-first : (i : ℕ) → length (map g (range 0 i)) ≡ i
    length-first i = length-map (range 0 i) g ∙ length-range 0 i

    pub first_next : (i : ℕ) → map g (range 0 (i + 1)) ≡ map g (range 0 i) ++ (g i ∷ [])
    first_next i = ap (map g) (range-next 0 i) ∙ map-append g (range 0 i) ((0 + i) ∷ []) ∙ rw (zero-add i)

    pub first-at : (n i : ℕ) (d : A) → i < n → get_or (map g (range 0 n)) i d ≡ g i
    first-at n i d h = get_d_map g (range 0 n) i 0 d (omega (arith, length-range 0 n)) ∙ ap g (range_at n i 0 h)

    -- written over a buffer, one at a time
    pub record Row (out₀ out : List A) (i : ℕ) : Type 0 where
      pub long : length out ≡ length out₀
      pub written : out ≡ over (map g (range 0 i)) out₀

    pub row-none : (out : List A) → Row out out 0
    unfolding range
    row-none out = record { long = refl; written = over_none out }

    pub row_next : {out₀ out : List A} {i : ℕ} → Row out₀ out i → i < length out₀ → (v : A) → v ≡ g i → Row out₀ (set out i v) (i + 1)
    row_next {out₀} {out} {i} p h v e =
        record {
          long = length-set out i v ∙ p.long;
          written = rw (p.written, e, first_next i) (over-set (map g (range 0 i)) out₀ i (g i) (length-first i) h);
        }

    -- what is not yet written is as it was
    pub row-behind : {out₀ out : List A} {i : ℕ} (d : A) → Row out₀ out i → get_or out i d ≡ get_or out₀ i d
    unfolding over
    row-behind {out₀} {out} {i} d p =
        let f : List A = map g (range 0 i) in
        let n : i ≡ length f + 0 = omega (arith, length-first i) in
        ap (λ (l : List A). get_or l i d) p.written ∙ ap (λ (j : ℕ). get_or (f ++ drop (length f) out₀) j d) n ∙ get_or-append-add f (drop (length f) out₀) 0 d ∙ get_or-drop (length f) out₀ 0 d
        ∙ ap (λ (j : ℕ). get_or out₀ j d) (sym n)

    pub row-front : {out₀ out : List A} {i : ℕ} (d : A) → Row out₀ out i → (j : ℕ) → j < i → get_or out j d ≡ g j
    unfolding over
    row-front {out₀} {out} {i} d p j h =
        let f : List A = map g (range 0 i) in
        ap (λ (l : List A). get_or l j d) p.written ∙ get_or-append f (drop (length f) out₀) d j (omega (arith, length-first i)) ∙ first-at i j d h

    -- written over all of it
    pub row-whole : {out₀ out : List A} {i : ℕ} → Row out₀ out i → (n : ℕ) → length out₀ ≡ n → i ≤ n → n ≤ i → out ≡ map g (range 0 n)
    unfolding over
    row-whole {out₀} {out} {i} p n e a b =
        let f : List A = map g (range 0 n) in
        let none : drop (length f) out₀ ≡ [] = drop_of_length-le out₀ {i = length f} (omega (arith, length-first n)) in
        p.written ∙ ap (λ (j : ℕ). over (map g (range 0 j)) out₀) (le_antisymm a b) ∙ rw none (append-nil f)

    pub row-all : {out₀ out : List A} {i : ℕ} → Row out₀ out i → (n : ℕ) → i ≤ n → n ≤ i → out ≡ over (map g (range 0 n)) out₀
    row-all {out₀} p n a b = p.written ∙ ap (λ (j : ℕ). over (map g (range 0 j)) out₀) (le_antisymm a b)

  -- ---- rows of t each
  module _ (f : ℕ → List A) where
    pub rows_more : (j : ℕ) → flat_map f (range 0 (j + 1)) ≡ flat_map f (range 0 j) ++ f j
    rows_more j = rw (range-next 0 j, flat_map-append, flat_map-one, zero-add j)

    pub record Rows (out₀ out : List A) (j : ℕ) : Type 0 where
      pub long : length out ≡ length out₀
      pub written : out ≡ over (flat_map f (range 0 j)) out₀

    pub rows_none : (out : List A) → Rows out out 0
    unfolding range flat_map
    rows_none out = record { long = refl; written = over_none out }

    pub rows_all : {out₀ out : List A} {j : ℕ} → Rows out₀ out j → (n : ℕ) → j ≤ n → n ≤ j → out ≡ over (flat_map f (range 0 n)) out₀
    rows_all {out₀} p n a b = p.written ∙ ap (λ (j : ℕ). over (flat_map f (range 0 j)) out₀) (le_antisymm a b)

    module _ (t : ℕ) (e : (y : ℕ) → length (f y) ≡ t) where
      pub length-rows : (j : ℕ) → length (flat_map f (range 0 j)) ≡ j * t
      length-rows j = length-flat_map f t e (range 0 j) ∙ ap (λ n. n * t) (length-range 0 j)

      -- the row after the first j, lent behind them
      pub rows_next : {out₀ out : List A} {j : ℕ} → Rows out₀ out j → j * t + t ≤ length out₀ → (part : List A)
          → part ≡ over (f j) (take (length out - j * t) (drop (j * t) out))
          → Rows out₀ (put_mid (j * t) (length out - j * t) out part) (j + 1)
      rows_next {out₀} {out} {j} p room part q =
          let written = over-lent (flat_map f (range 0 j)) (f j) out₀ out part (j * t) (length-rows j) p.written q
          ∙ ap (λ (l : List A). over l out₀) (sym (rows_more j)) in
          record {
            long = ap (λ (l : List A). length l) written ∙ length_over (flat_map f (range 0 (j + 1))) out₀ (omega (arith, length-rows (j + 1)));
            written = written;
          }
