-- The scratch of a mirror: what a number holds for its place, and the steps up to the copies. Definitions only. Assumes nothing.
--
-- Two places are one pixel of one tile where they have the same class: the place of that pixel in the first cell. The number of place p has
-- p's class (20 bits); above it the mark of the class p: 0, or the position + 1 of its last change, times 2, and 1 where its changes are at several
-- places (22 bits); above it whether a change is pending at p and whether its old is the caller's (else it is the sheet's); and, as in a change, above
-- 48 bits its new.
use Rattle.std.specs.Prelude.{ℕ, zero, suc, ◌+◌, ◌-◌, ◌*◌, ◌/◌, ◌%◌, ◌≤◌, ◌<◌, ◌^◌, Bool, not, cond, ◌&&◌, ◌||◌, List, leb, eqb, length, get_or}
use Rattle.selection.specs.declared.Selection.{Selection}
use Rattle.selection.specs.Selection.{contains}
use Rattle.edit.specs.Change.{unpacked, place}
use Rattle.tile_cells.specs.Tile.{turned, flip_at}
use Rattle.tile_marks.specs.Cell.{cell_at, column_in, row_in}

-- ---- classes
-- the cell of place p
abbrev pub cell_of_place : ℕ → ℕ → ℕ → ℕ
cell_of_place w t p = cell_at w t (p % w) (p / w)

-- the place in the first cell of the pixel at p, by the code of p's cell: its first cell, times 4, and its order
unfoldable pub class_by : ℕ → ℕ → ℕ → ℕ → ℕ
class_by w t code p =
    row_in w t (code / 4) (turned (flip_at (code % 4)).v t (p / w % t)) * w + column_in w t (code / 4) (turned (flip_at (code % 4)).h t (p % w % t))

-- ---- a pass over a list that changes one number an element
unfoldable pub run : (ℕ → ℕ) → (ℕ → ℕ → ℕ) → ℕ → ℕ → ℕ → ℕ
run key f p v zero = v
run key f p v (suc i) = cond (eqb (key i) p) (f i (run key f p v i)) (run key f p v i)

-- where change j of a list stands
abbrev pub place_at : ℕ → List ℕ → ℕ → ℕ
place_at w list j = place w (unpacked (get_or list j 0))

-- the bits of a change's new
abbrev pub new_bits : ℕ → ℕ
new_bits c = c / 2 ^ 48 % 2 ^ 16

-- ---- marks: the change that a mark has, and whether a change of its class is at another place than q
abbrev pub last_in : ℕ → ℕ
last_in m = m / 2 - 1

unfoldable pub elsewhere : ℕ → List ℕ → ℕ → ℕ → Bool
elsewhere w list m q = leb 2 m && (eqb (m % 2) 1 || not (eqb (place_at w list (last_in m)) q))

-- change i marked
unfoldable pub mark_by : ℕ → List ℕ → ℕ → ℕ → ℕ
mark_by w list i m = 2 * (i + 1) + cond (elsewhere w list m (place_at w list i)) 1 0

unfoldable pub marked_by : ℕ → List ℕ → ℕ → ℕ → ℕ
marked_by w list i v = v % 2 ^ 20 + mark_by w list i (v / 2 ^ 20) * 2 ^ 20

-- all of them, over the classes s
unfoldable pub marked : ℕ → List ℕ → List ℕ → ℕ → ℕ
marked w list s p = run (λ j. get_or s (place_at w list j) 0) (marked_by w list) p (get_or s p 0) (length list)

-- ---- copies: the last new of p's class lands on p, where the class has a change elsewhere and the region contains p
unfoldable pub land_by : ℕ → Selection → List ℕ → ℕ → ℕ → ℕ
land_by w region list p m = cond (contains region (p % w) (p / w) && elsewhere w list m p) (1 + new_bits (get_or list (last_in m) 0) * 64) 0

unfoldable pub landed : ℕ → Selection → List ℕ → List ℕ → ℕ → ℕ
landed w region list s p = get_or s p 0 + land_by w region list p (get_or s (get_or s p 0 % 2 ^ 20) 0 / 2 ^ 20) * 2 ^ 42

-- ---- what the steps ask
-- of a list of changes: at most as many as document 01 allows, each at one of n places
pub record Listed (w : ℕ) (list : List ℕ) (n : ℕ) : Type 0 where
  pub few : length list ≤ 2 ^ 20
  pub small : n ≤ 2 ^ 20
  pub on : (j : ℕ) → j < length list → place_at w list j < n

-- of codes: each gives a class that is a place
pub record Coded (w t : ℕ) (s : List ℕ) : Type 0 where
  pub side : 0 < t
  pub wide : t ≤ w
  pub small : length s ≤ 2 ^ 20
  pub within : (p : ℕ) → p < length s → class_by w t (get_or s (cell_of_place w t p) 0) p < length s

-- of the numbers: classes that are places, marks of changes of the list, and what was found above them
pub record Classes (s : List ℕ) : Type 0 where
  pub within : (p : ℕ) → p < length s → get_or s p 0 < length s

pub record Marks (list s : List ℕ) : Type 0 where
  pub within : (p : ℕ) → p < length s → get_or s p 0 % 2 ^ 20 < length s
  pub most : (p : ℕ) → p < length s → get_or s p 0 / 2 ^ 20 < 2 * length list + 2
