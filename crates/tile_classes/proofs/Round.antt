-- A round: the cells numbered, the numbers put in order, and their ranks the new classes. Assumes nothing.
use mathlib.Core.Path.{◌≡◌, sym, ap, ◌∙◌}
use mathlib.Core.List.{List}
use Prim.Native.Nat.{ℕ, ◌+◌, ◌<◌, ◌≤◌}
use native.Mathlib.Decide.{ℕ_discrete}
use native.Mathlib.Nat.{not-suc-le-zero}
use native.Mathlib.Omega.{arith}
use lib.ListN.{length, get_or}
use Rattle.tile_classes.specs.Places.{class_in, order_in, key_in, cell_in}
use Rattle.tile_classes.specs.Ranks.{number_at, key_at, cell_at, rank, Listed, Ranked}
use Rattle.tile_classes.specs.Classes.{old_in, digit_in, Numbered, Classed}
use Rattle.tile_classes.proofs.Ranks.{rank-le, rank_same, rank-only}
use Rattle.tile_classes.proofs.Shuffles.{Shuffled}

-- keys in order as their numbers are
key-up : (v u : ℕ) → v ≤ u → key_in v ≤ key_in u
unfolding key_in
key-up v u h = omega arith

-- a key by its parts
key-parts : (v u : ℕ) → old_in v ≡ old_in u → digit_in v ≡ digit_in u → key_in v ≡ key_in u
unfolding old_in digit_in
key-parts v u a b = omega arith

key-old : (v u : ℕ) → key_in v ≡ key_in u → old_in v ≡ old_in u
unfolding old_in
key-old v u e = rw e

key-digit : (v u : ℕ) → key_in v ≡ key_in u → digit_in v ≡ digit_in u
unfolding digit_in
key-digit v u e = rw e

module _ {X : Type 0} (Digit : X → ℕ → Type 0) (unique : (x : X) (r q : ℕ) → Digit x r → Digit x q → r ≡ q)
    (distinct : (x y : X) (r : ℕ) → Digit x r → Digit y r → x ≡ y) where
  module _ {n : ℕ} {has : ℕ → X} {s₀ s₁ s₂ : List ℕ} (room : n + n ≤ length s₀) (a : Numbered Digit n has s₀ s₁ n) (b : Shuffled n s₁ s₂) where
    -- a number in order is that of the cell that it names
    of-cell : (i : ℕ) → i < n → cell_at n s₂ i < n
    of-cell i h = let f = b.from i h in omega (arith, ap cell_in f.is, (a.numbers f.place f.below).cell-is, f.below)

    its-number : (i : ℕ) → i < n → number_at n s₂ i ≡ number_at n s₁ (cell_at n s₂ i)
    its-number i h =
        let f = b.from i h in
        let e : f.place ≡ cell_at n s₂ i = sym (a.numbers f.place f.below).cell-is ∙ ap cell_in f.is in
        sym f.is ∙ ap (number_at n s₁) e

    pub listed : Listed n s₂
    listed =
        record {
          room = omega (arith, a.long, b.long);
          in_order = λ i j h k. key-up (number_at n s₂ i) (number_at n s₂ j) (b.in_order i j h k);
          inside = of-cell;
          one_key = λ i j h k e. ap key_in (its-number i h ∙ ap (number_at n s₁) e ∙ sym (its-number j k));
        }

    -- the class of a cell, after the ranks are written
    module _ {s₃ : List ℕ} (k : Ranked n s₂ s₃ n) where
      ranked : (c : ℕ) (h : c < n) → class_in (get_or s₃ c 0) ≡ rank (key_at n s₂) (b.still c h).place
      ranked c h =
          let f = b.still c h in
          let e : cell_at n s₂ f.place ≡ c = ap cell_in f.is ∙ (a.numbers c h).cell-is in
          ap (λ (d : ℕ). class_in (get_or s₃ d 0)) (sym e) ∙ k.ranks f.place f.below

      pub class-small : (c : ℕ) → c < n → class_in (get_or s₃ c 0) < n
      class-small c h = omega (arith, ranked c h, rank-le (key_at n s₂) (b.still c h).place, (b.still c h).below)

      module _ (c d : ℕ) (h : c < n) (g : d < n) where
        -- cells have one class exactly when they have one key
        class-key : class_in (get_or s₃ c 0) ≡ class_in (get_or s₃ d 0) → key_at n s₁ c ≡ key_at n s₁ d
        class-key e =
            let f = b.still c h in
            let o = b.still d g in
            sym (ap key_in f.is) ∙ rank-only (key_at n s₂) n listed.in_order f.place o.place f.below o.below
            (sym (ranked c h) ∙ e ∙ ranked d g) ∙ ap key_in o.is

        key-class : key_at n s₁ c ≡ key_at n s₁ d → class_in (get_or s₃ c 0) ≡ class_in (get_or s₃ d 0)
        key-class e =
            let f = b.still c h in
            let o = b.still d g in
            ranked c h ∙ rank_same (key_at n s₂) n listed.in_order f.place o.place f.below o.below
            (ap key_in f.is ∙ e ∙ sym (ap key_in o.is)) ∙ sym (ranked d g)

        -- and so when they had one class and have the same
        pub class-old : class_in (get_or s₃ c 0) ≡ class_in (get_or s₃ d 0) → class_in (get_or s₀ c 0) ≡ class_in (get_or s₀ d 0)
        class-old e = sym (a.numbers c h).class-is ∙ key-old (number_at n s₁ c) (number_at n s₁ d) (class-key e) ∙ (a.numbers d g).class-is

        pub class-has : class_in (get_or s₃ c 0) ≡ class_in (get_or s₃ d 0) → has c ≡ has d
        class-has e =
            distinct (has c) (has d) (digit_in (number_at n s₁ c)) (a.numbers c h).digit-is
            (rw (key-digit (number_at n s₁ c) (number_at n s₁ d) (class-key e)) (a.numbers d g).digit-is)

        pub same_class : class_in (get_or s₀ c 0) ≡ class_in (get_or s₀ d 0) → has c ≡ has d → class_in (get_or s₃ c 0) ≡ class_in (get_or s₃ d 0)
        same_class e q =
            key-class (key-parts (number_at n s₁ c) (number_at n s₁ d) ((a.numbers c h).class-is ∙ e ∙ sym (a.numbers d g).class-is)
            (unique (has c) (digit_in (number_at n s₁ c)) (digit_in (number_at n s₁ d)) (a.numbers c h).digit-is (rw q (a.numbers d g).digit-is)))

      pub kept-order : (c : ℕ) → c < n → order_in (get_or s₃ c 0) ≡ order_in (get_or s₀ c 0)
      kept-order c h = k.orders c ∙ ap order_in (b.places c h ∙ a.places c h)

  -- one round more
  pub classed-next : {n p : ℕ} {has : ℕ → ℕ → X} {s₀ s₁ s₂ s₃ : List ℕ} → Classed n has p s₀ → Numbered Digit n (λ c. has c p) s₀ s₁ n → Shuffled n s₁ s₂
      → Ranked n s₂ s₃ n → Classed n has (p + 1) s₃
  classed-next {n} {p} {has} o a b k =
      record {
        room = omega (arith, o.room, a.long, b.long, k.long);
        small = class-small o.room a b k;
        same = λ c d h g e. same_class o.room a b k c d h g (o.same c d h g (λ q l. e q (omega arith))) (e p (omega arith));
        only =
            λ c d h g e q l. elim (ℕ_discrete q p) [
              | yes z ↦ rw z (class-has o.room a b k c d h g e)
              | no z ↦ o.only c d h g (class-old o.room a b k c d h g e) q (omega arith)
            ];
      }

-- before any round
pub classed-none : {X : Type 0} {n : ℕ} {has : ℕ → ℕ → X} {s : List ℕ} → n + n ≤ length s → ((c : ℕ) → c < n → class_in (get_or s c 0) ≡ 0) → Classed n has 0 s
classed-none r z =
    record {
      room = r;
      small = λ c h. omega (arith, z c h);
      same = λ c d h g e. z c h ∙ sym (z d g);
      only = λ c d h g e q l. absurd (not-suc-le-zero l);
    }
