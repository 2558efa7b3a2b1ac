-- The changes that lead from one picture to another: what every drawing tool returns, in row order. Definitions only. Assumes nothing.
use Rattle.std.specs.Prelude.{ℕ, suc, ◌+◌, ◌*◌, ◌/◌, ◌%◌, ◌^◌, ◌≤◌, cond, List, [], ◌∷◌, ◌++◌, map, eqb, ℤ, take, drop}
use Rattle.std.specs.Int.{w16}
use Rattle.std.proofs.Common.{to_z, of_z}
use Rattle.base.specs.Ints.{eq_z}
use Rattle.edit.specs.Change.{Change}

-- of pictures of width w, from place p on: at each place where they differ, the first's index as old and the second's as new
unfoldable pub between_from : ℕ → ℕ → List ℤ → List ℤ → List Change
between_from w p [] m = []
between_from w p (a ∷ l) [] = []
between_from w p (a ∷ l) (b ∷ m) =
    cond (eq_z a b) (between_from w (suc p) l m) (record { x = p % w; y = p / w; old = a; new = b } ∷ between_from w (suc p) l m)

unfoldable pub between : ℕ → List ℤ → List ℤ → List Change
between w l m = between_from w 0 l m

-- the picture of n indices whose bits, 16 an index, are the first numbers of a scratch
unfoldable pub laid_out : ℕ → List ℕ → List ℤ
laid_out n scratch = map (λ v. to_z w16 (v % 2 ^ 16)) (take n scratch)

-- ---- some rows alone, of a picture of width w
-- count rows from row `first` on
unfoldable pub rows_of : {A : Type 0} → ℕ → ℕ → ℕ → List A → List A
rows_of w first count l = take (count * w) (drop (first * w) l)

-- and the changes in them
unfoldable pub between_rows : ℕ → ℕ → ℕ → List ℤ → List ℤ → List Change
between_rows w first count l m = between_from w (first * w) (rows_of w first count l) (rows_of w first count m)

-- rows that a picture has, and a scratch that holds the picture
pub record HasRows (w first count pixels room : ℕ) : Type 0 where
  pub narrow : w ≤ 2 ^ 16
  pub few : first + count ≤ 2 ^ 16
  pub inside : (first + count) * w ≤ pixels
  pub roomy : pixels ≤ room

-- ---- the same in numbers, a row at a time, as the loop writes them

-- the change of two indices' bits at a place whose number is k, where they differ
unfoldable pub difference_of : ℕ → ℕ → ℕ → List ℕ
difference_of k old new = cond (eqb old new) [] ((k + old * 2 ^ 32 + new * 2 ^ 48) ∷ [])

-- the changes of indices that stand in one row, the first at the place with number k, to the bits beside them
unfoldable pub row_from : ℕ → List ℤ → List ℕ → List ℕ
row_from k [] bits = []
row_from k (a ∷ l) [] = []
row_from k (a ∷ l) (v ∷ bits) = difference_of k (of_z w16 a) (v % 2 ^ 16) ++ row_from (suc k) l bits
