-- The sheet that a frame opens: only the frame's own bytes matter, and a frame that is no opening has none. Assumes nothing.
use Prim.Native.Nat.{ℕ, ◌+◌, ◌*◌, ◌-◌, ◌≤◌}
use mathlib.Core.Path.{◌≡◌, refl}
use mathlib.Core.List.{List, [], ◌∷◌}
use mathlib.Core.Logic.{⊎_elim}
use native.Mathlib.Omega.{arith}
use lib.ListN.{take, drop}
use lib.Seq.{take-take}
use types.Run.{OneOf}
use denote.Enum.Declared.{tag_of}
use Rattle.base.specs.Numbers.{unread_frame}
use Rattle.base.specs.Checks.{Check}
use Rattle.base.specs.Answer.Told.{alone}
use Rattle.journal_record.proofs.LittleEndian.{drop-take}
use Rattle.panel_frames.specs.Reading.{size_of}
use Rattle.panel_frames.specs.Opening.{open_sheet, sheet_in}
use Rattle.panel_frames.specs.declared.Frame.{Frame}
use Rattle.panel_frames.specs.declared.Frame.TheVariants.{Open, Pixels, Set, Add, Merge, Undo, Redo, Mark, Malformed}
use Rattle.panel_frames.specs.contracts.Frame.{the_type}

inner : {A : Type 0} (a n m : ℕ) (l : List A) → a + n ≤ m → take n (drop a (take m l)) ≡ take n (drop a l)
inner a n m l h = rw (drop-take a m l) (take-take n (m - a) (drop a l) (omega arith))

open-take : (w h k : ℕ) (l : List ℕ) → open_sheet w h k (take (6 + 3 * k + w * h) l) ≡ open_sheet w h k l
unfolding open_sheet
open-take w h k l = rw (inner 6 (3 * k) (6 + 3 * k + w * h) l (omega arith), inner (6 + 3 * k) (w * h) (6 + 3 * k + w * h) l (omega arith))

pub sheet-take : (more : List Check) (f : Frame) (l : List ℕ) → sheet_in more f (take (size_of f) l) ≡ sheet_in more f l
unfolding sheet_in size_of
sheet-take more (Open w h k) l = rw (open-take w h k l)
sheet-take more (Pixels tool n) l = refl
sheet-take more (Set i c) l = refl
sheet-take more (Add c) l = refl
sheet-take more (Merge from into) l = refl
sheet-take more Undo l = refl
sheet-take more Redo l = refl
sheet-take more Mark l = refl
sheet-take more Malformed l = refl

among : (x : ℕ) → OneOf (1 ∷ 2 ∷ 3 ∷ 4 ∷ 5 ∷ 6 ∷ 7 ∷ 8 ∷ []) x → 1 ≤ x
among x h =
    ⊎_elim (λ e. omega arith) (λ h.
    ⊎_elim (λ e. omega arith) (λ h.
    ⊎_elim (λ e. omega arith) (λ h.
    ⊎_elim (λ e. omega arith) (λ h.
    ⊎_elim (λ e. omega arith) (λ h.
    ⊎_elim (λ e. omega arith) (λ h.
    ⊎_elim (λ e. omega arith) (λ e. omega arith) h) h) h) h) h) h) h

pub sheet-other : (more : List Check) (f : Frame) (bs : List ℕ) → OneOf (1 ∷ 2 ∷ 3 ∷ 4 ∷ 5 ∷ 6 ∷ 7 ∷ 8 ∷ []) (tag_of the_type f) → sheet_in more f bs ≡ alone unread_frame
unfolding sheet_in
sheet-other more (Open w h k) bs o = absurd (omega (arith, among 0 o))
sheet-other more (Pixels tool n) bs o = refl
sheet-other more (Set i c) bs o = refl
sheet-other more (Add c) bs o = refl
sheet-other more (Merge from into) bs o = refl
sheet-other more Undo bs o = refl
sheet-other more Redo bs o = refl
sheet-other more Mark bs o = refl
sheet-other more Malformed bs o = refl
