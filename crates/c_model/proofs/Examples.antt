-- The limits and 28 at their edges. Assumes nothing.
use mathlib.Core.Path.{◌≡◌, refl}
use mathlib.Core.Bool.{true, false}
use mathlib.Core.List.{List, [], ◌∷◌, map}
use Prim.Native.Nat.{ℕ, ◌*◌}
use lib.Dec.{ltb}
use lib.IntN.{pos, negsuc}
use lib.ListN.{replicate}
use Rattle.base.specs.Checks.{first_of, refused_or}
use Rattle.base.specs.Answer.Told.{alone}
use Rattle.edit.specs.Change.{unpacked}
use Rattle.journal_record.specs.Bytes.{unle, le_at}
use Rattle.history_ledger.specs.Calls.Call.{undo, mark}
use Rattle.c_form.specs.Fields.{read_from}
use Rattle.c_form.specs.Flat.{numbers_in, sheet_misfits, handle_misfits}
use Rattle.c_model.specs.Asked.{Asked, misfit_of, sides_over, is_longer}
use Rattle.c_model.specs.Step.{flat_of, moved, flat_mark, flat_step}

-- "eight bytes each as in a record": x, y, old, new
pub as-in-a-record : map unpacked (numbers_in (2 ∷ 0 ∷ 1 ∷ 0 ∷ 255 ∷ 255 ∷ 5 ∷ 0 ∷ [])) ≡ record { x = 2; y = 1; old = negsuc 0; new = pos 5 } ∷ []
unfolding numbers_in read_from unle unpacked
as-in-a-record = refl

-- "Sides go to 64"
pub sixty-four : sides_over 64 64 ≡ false
unfolding sides_over
sixty-four = refl

pub sixty-five-wide : sides_over 65 0 ≡ true
unfolding sides_over
sixty-five-wide = refl

pub sixty-five-high : sides_over 0 65 ≡ true
unfolding sides_over
sixty-five-high = refl

-- "lists to 4,096 changes"
pub longest : is_longer (Asked.pixels 0 (replicate 32768 0)) ≡ false
unfolding is_longer
longest = refl

pub one_more : is_longer (Asked.remove 0 (replicate 32776 0)) ≡ true
unfolding is_longer
one_more = refl

-- "a mark pushed, is neither 0 nor 1"
pub mark-one : misfit_of (Asked.lock 0 1) ≡ 0
unfolding misfit_of
mark-one = refl

pub mark-two : misfit_of (Asked.lock 0 2) ≡ 28
unfolding misfit_of
mark-two = refl

-- "before all others": 65 columns in six bytes, no handle
pub misfit-first : (flat_step (flat_of (65 ∷ 0 ∷ 0 ∷ 0 ∷ 0 ∷ 0 ∷ []) [] []) undo).answer ≡ alone 28
unfolding flat_step moved sheet_misfits le_at unle first_of refused_or
misfit-first = refl

-- of mark, too, which takes the sheet
pub misfit-marked : (flat_step (flat_of [] [] (replicate 40 0)) mark).answer ≡ alone 28
unfolding flat_step flat_mark sheet_misfits le_at unle first_of refused_or
misfit-marked = refl
