-- `read_frame`: an opening, or 22. Assumes nothing.
use Prim.Native.Nat.{ℕ}
use mathlib.Core.Path.{◌≡◌, refl}
use mathlib.Core.List.{List}
use Rattle.base.specs.Numbers.{unread_frame}
use Rattle.base.specs.Checks.{Check}
use Rattle.base.specs.Answer.Told.{alone}
use Rattle.panel_frames.specs.Opening.{sheet_in}
use Rattle.panel_frames.specs.declared.Frame.{Frame}
use Rattle.panel_frames.specs.declared.Frame.TheVariants.{Open, Pixels, Set, Add, Merge, Undo, Redo, Mark, Malformed}
use Rattle.panel_read.proofs.Taking.{read-other}
use Rattle.panel_read.proofs.line.read_frame.Goals as goal

-- a frame that is no opening has no sheet
sheet-other : (more : List Check) (f : Frame) (bs : List ℕ) → ((w h k : ℕ) → f ≡ Open w h k → ⊥) → sheet_in more f bs ≡ alone unread_frame
unfolding sheet_in
sheet-other more (Open w h k) bs o = absurd (o w h k refl)
sheet-other more (Pixels tool n) bs o = refl
sheet-other more (Set i c) bs o = refl
sheet-other more (Add c) bs o = refl
sheet-other more (Merge from into) bs o = refl
sheet-other more Undo bs o = refl
sheet-other more Redo bs o = refl
sheet-other more Mark bs o = refl
sheet-other more Malformed bs o = refl

pub returns-in_default : goal.returns-in_default
returns-in_default c =
    let a = c.args in
    read-other _ _ _ a.frame _ (sheet-other _ a.frame _ c.in_default.not-Open)
