-- An algebra of edits whose sheets lie in another form: read from it, and written over it. Definitions only. Assumes
-- nothing.
use Rattle.std.specs.Prelude.{◌≡◌, List, ℕ}
use Rattle.std.proofs.Math.Option.{Option, none, some}
use Rattle.history_ledger.specs.Algebra.{Algebra, Taken, WellFormedIn}

-- the form, its reading, a sheet written over it, and what the form itself asks
pub record Coding (A : Algebra) : Type 1 where
  pub Code : Type 0
  pub Fit : Code → Type 0
  pub read : Code → A.Sheet
  pub write : A.Sheet → Code → Code

module _ (A : Algebra) (C : Coding A) where
  open C use {Code, Fit, read, write}

  abbrev pub recoded : Code → Option (Taken A.Sheet) → Option (Taken Code)
  recoded c none = none
  recoded c (some t) = some (record { length = t.length; sheet = write t.sheet c })

  -- what the ledger has is untouched
  abbrev pub coded : Algebra
  coded =
      record {
        Sheet = Code;
        Picture = A.Picture;
        Edit = A.Edit;
        SheetTyped = λ c. Fit c × A.SheetTyped (read c);
        EditTyped = A.EditTyped;
        view = λ c. A.view (read c);
        places = A.places;
        first_check = A.first_check;
        curve_check = A.curve_check;
        sheet_check = λ c. A.sheet_check (read c);
        picture_check = A.picture_check;
        given_check = A.given_check;
        own_check = A.own_check;
        is_empty = A.is_empty;
        is_long = A.is_long;
        make = λ c e. write (A.make (read c) e) c;
        encode = λ c e. A.encode (read c) e;
        size = A.size;
        back = λ bytes c. recoded c (A.back bytes (read c));
        forth = λ bytes c. recoded c (A.forth bytes (read c));
        paint = A.paint;
      }

  -- what the form owes: a well-formed sheet that shows as large a picture as the form holds reads back as what it shows
  pub record Faithful : Type 1 where
    pub Alike : A.Picture → A.Picture → Type 0
    pub alike-painted : (p : A.Picture) (e : A.Edit) → Alike p (A.paint p e)
    pub alike-back : (p q : A.Picture) → Alike p q → Alike q p
    pub write-fit : (s : A.Sheet) (c : Code) → Fit c → WellFormedIn A s → Alike (A.view (read c)) (A.view s) → Fit (write s c)
    pub write-formed : (s : A.Sheet) (c : Code) → Fit c → WellFormedIn A s → Alike (A.view (read c)) (A.view s) → WellFormedIn A (read (write s c))
    pub write-shows : (s : A.Sheet) (c : Code) → Fit c → WellFormedIn A s → Alike (A.view (read c)) (A.view s) → A.view (read (write s c)) ≡ A.view s
