-- The scratch of a flood: cell p holds the mark of place p (its lowest bit) and the p-th place of the queue (the rest). Definitions only. Assumes nothing.
use Rattle.std.specs.Prelude.{ℕ, suc, ◌+◌, ◌*◌, ◌/◌, ◌%◌, ◌≤◌, ◌<◌, ◌^◌, ◌≡◌, Bool, true, List, [], ◌∷◌, map, eqb, ℤ, length, get_or, set}
use Rattle.std.specs.Int.{w16}
use Rattle.std.proofs.Common.{of_z}
use Rattle.base.specs.Lists.{range, kept}
use Rattle.selection.specs.declared.Selection.{Selection}
use Rattle.tool_fill_model.specs.Flood.{flooded}

-- what the steps ask: a picture of at most 1,024 rows and columns, a place of it, and a cell for each of its places
pub record Ground (w : ℕ) (l : List ℤ) (start : ℕ) (s : List ℕ) : Type 0 where
  pub wide : 0 < w
  pub narrow : w ≤ 1024
  pub rows : length l ≤ 1024 * w
  pub begins : start < length l
  pub cells : length s ≡ length l

abbrev pub Marked : List ℕ → ℕ → Type 0
Marked s p = get_or s p 0 % 2 ≡ 1

-- how many are marked
unfoldable pub odds : List ℕ → ℕ
odds [] = 0
odds (x ∷ l) = x % 2 + odds l

-- q marked, and put at the queue's end
unfoldable pub marked : List ℕ → ℕ → List ℕ
marked s q = set s q (get_or s q 0 + 1)

unfoldable pub queued : List ℕ → ℕ → ℕ → List ℕ
queued s tail q = set s tail (get_or s tail 0 % 2 + 2 * q)

-- what the two change
pub record Pushed (s : List ℕ) (tail q : ℕ) (s' : List ℕ) : Type 0 where
  pub marks : (p : ℕ) → (p ≡ q → ⊥) → get_or s' p 0 % 2 ≡ get_or s p 0 % 2
  pub mark : Marked s' q
  pub entries : (i : ℕ) → (i ≡ tail → ⊥) → get_or s' i 0 / 2 ≡ get_or s i 0 / 2
  pub entry : get_or s' tail 0 / 2 ≡ q
  pub total : odds s' ≡ suc (odds s)

-- a place looked at: it stays as it is, or is marked and queued
pub data Stepped (passes : Bool) (s : List ℕ) (tail q : ℕ) (s' : List ℕ) (r : ℕ) : Type 0 where
  stay : r ≡ tail → s' ≡ s → (passes ≡ true → Marked s q) → Stepped passes s tail q s' r
  push : r ≡ tail + 1 → passes ≡ true → Pushed s tail q s' → Stepped passes s tail q s' r

-- at the end the marks are those of the places reached
unfoldable pub Fills : ℕ → List ℤ → Selection → ℕ → List ℕ → Type 0
Fills w l region start s = (p : ℕ) → p < length l → eqb (get_or s p 0 % 2) 1 ≡ flooded w l region start p

-- the number of a change: the place below, and the two indices above
unfoldable pub pair_of : ℤ → ℤ → ℕ
pair_of old new = of_z w16 old * 2 ^ 32 + of_z w16 new * 2 ^ 48

unfoldable pub placed : ℕ → ℕ → ℕ → ℕ
placed w pair p = p % w + p / w * 2 ^ 16 + pair

-- what the marks of cells give, row by row
unfoldable pub emitted : ℕ → ℕ → List ℕ → List ℕ
emitted w pair s = map (placed w pair) (kept (λ p. eqb (get_or s p 0 % 2) 1) (range 0 (length s)))
