-- A round: cells of one class stay in one class where they have the same there. What a cell has is known by its digit. Definitions only. Assumes nothing.
use Rattle.std.specs.Prelude.{ℕ, ◌+◌, ◌/◌, ◌%◌, ◌^◌, ◌<◌, ◌≤◌, ◌≡◌, List, length, get_or}
use Rattle.tile_classes.specs.Places.{class_in, key_in, cell_in}
use Rattle.tile_classes.specs.Ranks.{Written}

-- a key is a class and a digit
unfoldable pub old_in : ℕ → ℕ
unfolding key_in
old_in v = key_in v / 2 ^ 16

unfoldable pub digit_in : ℕ → ℕ
unfolding key_in
digit_in v = key_in v % 2 ^ 16

module _ {X : Type 0} (Digit : X → ℕ → Type 0) where
  pub record NumberOf (v class cell : ℕ) (x : X) : Type 0 where
    pub cell-is : cell_in v ≡ cell
    pub class-is : old_in v ≡ class
    pub digit-is : Digit x (digit_in v)

  -- the numbers of the first i cells, by what each has
  abbrev pub Numbered : ℕ → (ℕ → X) → List ℕ → List ℕ → ℕ → Type 0
  Numbered n has s₀ s i = Written n (λ c v. NumberOf v (class_in (get_or s₀ c 0)) c (has c)) s₀ s i

-- cells have one class exactly when they have the same at all places below p
pub record Classed {X : Type 0} (n : ℕ) (has : ℕ → ℕ → X) (p : ℕ) (s : List ℕ) : Type 0 where
  pub room : n + n ≤ length s
  pub small : (c : ℕ) → c < n → class_in (get_or s c 0) < n
  pub same : (c d : ℕ) → c < n → d < n → ((q : ℕ) → q < p → has c q ≡ has d q) → class_in (get_or s c 0) ≡ class_in (get_or s d 0)
  pub only : (c d : ℕ) → c < n → d < n → class_in (get_or s c 0) ≡ class_in (get_or s d 0) → (q : ℕ) → q < p → has c q ≡ has d q
