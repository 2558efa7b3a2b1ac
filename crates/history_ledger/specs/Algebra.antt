-- What demand 3 needs to know of sheets, pictures, edits and records. Another sheet, another curve or another form of the records is another value of
-- `Algebra`. Definitions only. Assumes nothing.
use Rattle.std.specs.Prelude.{◌≡◌, Bool, List, ℕ}
use Rattle.std.proofs.Math.Option.{Option}

-- a sound record that undo or redo has read: its length, and the sheet on its other side
pub record Taken (Sheet : Type 0) : Type 0 where
  pub length : ℕ
  pub sheet : Sheet

pub record Algebra : Type 1 where
  -- the lent sheet, its storage past k included; "whole pictures (size, indices, k, the k entries' bytes and LAB bits)"; a push's "arguments (edit, permitted
  -- colours)"
  pub Sheet : Type 0
  pub Picture : Type 0
  pub Edit : Type 0
  -- the numbers are in the range of the types that the code has for them: bytes, 16 bits, doubles
  pub SheetTyped : Sheet → Type 0
  pub EditTyped : Edit → Type 0
  -- the picture that a sheet shows, and a picture's w × h
  pub view : Sheet → Picture
  pub places : Picture → ℕ
  -- ---- checks: the number of the first that applies, 0 where none does
  -- what a push's arguments are refused for "before all others", and what the curve is refused for that a session has
  -- throughout (document 02: 28 of E12, 25 of E6)
  pub first_check : Edit → ℕ
  pub curve_check : ℕ
  -- 1 to 3: of a sheet, of a picture, and of a push's arguments, whose list of permitted colours may be too long
  pub sheet_check : Sheet → ℕ
  pub picture_check : Picture → ℕ
  pub given_check : Edit → ℕ
  -- push's own, 5 to 13, of what the sheet shows
  pub own_check : Picture → Edit → ℕ
  -- "an empty pixel list"; a list "over the limit", which is 21
  pub is_empty : Edit → Bool
  pub is_long : Edit → Bool
  -- ---- push: the sheet that `apply` makes, its record, and the record's length
  pub make : Sheet → Edit → Sheet
  pub encode : Sheet → Edit → List ℕ
  pub size : Edit → ℕ
  -- ---- undo and redo: the reading of the record that ends the bytes before the standing offset, and of the one that
  -- starts the used bytes after it; none where "its kind, counts and lengths" do not agree, or `can_revert`, push's
  -- checks or the well-formed sheet fail
  pub back : List ℕ → Sheet → Option (Taken Sheet)
  pub forth : List ℕ → Sheet → Option (Taken Sheet)
  -- ---- ledger: "the picture `redo` makes"
  pub paint : Picture → Edit → Picture

-- "A sheet is well-formed where none of 1 to 3 applies"
pub record WellFormedIn (A : Algebra) (s : A.Sheet) : Type 0 where
  pub typed : A.SheetTyped s
  pub passes : A.sheet_check s ≡ 0
