-- What a frame asks here is what E11 plays (panel_model/specs/Acts.antt), in document 01's form and with the places of `panel`.
-- Assumes nothing.
use Prim.Native.Nat.{ℕ, ◌≤◌}
use mathlib.Core.Path.{◌≡◌, refl}
use mathlib.Core.List.{List}
use native.Mathlib.Omega.{arith}
use lib.Seq.{take_all}
use Rattle.base.specs.declared.Form.TheVariants.{Coordinates}
use Rattle.history_ledger.specs.Journal.{State}
use Rattle.history_model.specs.Document.{Document}
use Rattle.panel_frames.specs.Reading.{size_of, changes_from}
use Rattle.panel_frames.proofs.Changes.{length-changes}
use Rattle.panel_frames.specs.declared.Frame.{Frame}
use Rattle.panel_frames.specs.declared.Frame.TheVariants.{Open, Pixels, Set, Add, Merge, Undo, Redo, Mark, Malformed}
use Rattle.panel_model.specs.Acts.{Roomy, changes_in, mergedBy, actBy}
use Rattle.panel_calls.specs.Panel.{room, merged_of, call_of}

pub call-acts : (st : State Document) (f : Frame) (bs : List ℕ) → call_of st f bs ≡ actBy Coordinates room st f (changes_in f bs)
unfolding call_of merged_of actBy mergedBy changes_in
call-acts st (Open w h k) bs = refl
call-acts st (Pixels tool n) bs = rw (take_all n (changes_from bs 2 n) (omega (arith, length-changes bs 2 n)))
call-acts st (Set i c) bs = refl
call-acts st (Add c) bs = refl
call-acts st (Merge from into) bs = refl
call-acts st Undo bs = refl
call-acts st Redo bs = refl
call-acts st Mark bs = refl
call-acts st Malformed bs = refl

-- 8,192 bytes have the changes of a list of 4,096, and a merge's fit there
pub roomy : (f : Frame) (m list : ℕ) → size_of f ≤ 8192 → m ≤ 4096 → list ≡ 4096 → Roomy f m list
unfolding Roomy size_of
roomy (Open w h k) m list s p e = tt
roomy (Pixels tool n) m list s p e = omega (arith, s, e)
roomy (Set i c) m list s p e = tt
roomy (Add c) m list s p e = tt
roomy (Merge from into) m list s p e = omega (arith, p, e)
roomy Undo m list s p e = tt
roomy Redo m list s p e = tt
roomy Mark m list s p e = tt
roomy Malformed m list s p e = tt
