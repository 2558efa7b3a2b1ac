-- What an algebra of edits owes for demand 3: the laws between what the code computes of a sheet and what the ledger
-- does with a picture. Definitions only. Assumes nothing.
use Rattle.std.specs.Prelude.{◌≡◌, true, false, List, ◌++◌, ℕ, ◌≤◌, length}
use Rattle.std.proofs.Math.Option.{Option, some}
use Rattle.base.specs.Numbers.{journal_full}
use Rattle.history_ledger.specs.Algebra.{Algebra, Taken, WellFormedIn}

module _ (A : Algebra) where
  open A use {Sheet, Picture, Edit, EditTyped, view, places, first_check, curve_check, sheet_check, picture_check, given_check, own_check}
  open A use {is_empty, is_long, make, encode, size, back, forth, paint}

  -- a push of e on s is accepted, if its record fits
  pub record Accepts (s : Sheet) (e : Edit) : Type 0 where
    pub fits : WellFormedIn A s
    pub typed : EditTyped e
    pub first_passes : first_check e ≡ 0
    pub given-passes : given_check e ≡ 0
    pub not-empty : is_empty e ≡ false
    pub not-long : is_long e ≡ false
    pub own-passes : own_check (view s) e ≡ 0

  -- the reading is that of a sound record of n bytes, and leads to a well-formed sheet that shows p
  pub record Reads (reading : Option (Taken Sheet)) (n : ℕ) (p : Picture) : Type 0 where
    pub sheet : Sheet
    pub reads : reading ≡ some (record { length = n; sheet = sheet })
    pub fits : WellFormedIn A sheet
    pub shows : view sheet ≡ p

  pub record Laws : Type 0 where
    -- none of 1 to 3 applies to the picture of a well-formed sheet
    pub view-passes : (s : Sheet) → WellFormedIn A s → picture_check (view s) ≡ 0
    -- the ledger's "still" comes after all its checks, push's before 21 and its own
    pub empty-short : (e : Edit) → is_empty e ≡ true → is_long e ≡ false
    pub empty-own : (p : Picture) (e : Edit) → is_empty e ≡ true → own_check p e ≡ 0
    -- the session's curve is fit
    pub curve-passes : curve_check ≡ 0
    -- none of these numbers is 14
    pub first-not-full : (e : Edit) → ¬ (first_check e ≡ journal_full)
    pub sheet-not-full : (s : Sheet) → ¬ (sheet_check s ≡ journal_full)
    pub picture-not-full : (p : Picture) → ¬ (picture_check p ≡ journal_full)
    pub given-not-full : (e : Edit) → ¬ (given_check e ≡ journal_full)
    pub own-not-full : (p : Picture) (e : Edit) → ¬ (own_check p e ≡ journal_full)
    -- an accepted push makes a well-formed sheet that shows the ledger's next picture, of the same size
    pub make-fits : (s : Sheet) (e : Edit) → Accepts s e → WellFormedIn A (make s e)
    pub make-shows : (s : Sheet) (e : Edit) → Accepts s e → view (make s e) ≡ paint (view s) e
    pub paint-places : (p : Picture) (e : Edit) → places (paint p e) ≡ places p
    -- its record has the length that 14 was tested with, 8 bytes at least
    pub encode-length : (s : Sheet) (e : Edit) → Accepts s e → length (encode s e) ≡ size e
    pub size-least : (e : Edit) → 8 ≤ size e
    -- met in the picture that its push made, the record reads back to the picture before; met in that one, it reads forth
    pub back-reads : (before : List ℕ) (s : Sheet) (e : Edit) (t : Sheet) → Accepts s e → WellFormedIn A t → view t ≡ paint (view s) e
        → Reads (back (before ++ encode s e) t) (size e) (view s)
    pub forth-reads : (after : List ℕ) (s : Sheet) (e : Edit) (t : Sheet) → Accepts s e → WellFormedIn A t → view t ≡ view s
        → Reads (forth (encode s e ++ after) t) (size e) (paint (view s) e)
