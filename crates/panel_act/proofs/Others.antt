-- A frame that is no pixel frame, told by its tag. Assumes nothing.
use mathlib.Core.Path.{◌≡◌, refl}
use mathlib.Core.Logic.{inl, inr}
use mathlib.Core.List.{[], ◌∷◌}
use Prim.Native.Nat.{ℕ}
use types.Run.{OneOf}
use denote.Enum.Declared.{tag_of}
use Rattle.panel_frames.specs.declared.Frame.{Frame}
use Rattle.panel_frames.specs.declared.Frame.TheVariants.{Open, Pixels, Set, Add, Merge, Undo, Redo, Mark, Malformed}
use Rattle.panel_frames.specs.contracts.Frame.{the_type}

pub no_pixels : (g : Frame) → ((tool n : ℕ) → g ≡ Pixels tool n → ⊥) → OneOf (0 ∷ 2 ∷ 3 ∷ 4 ∷ 5 ∷ 6 ∷ 7 ∷ 8 ∷ []) (tag_of the_type g)
no_pixels (Open w h k) o = inl refl
no_pixels (Pixels tool n) o = absurd (o tool n refl)
no_pixels (Set i c) o = inr (inl refl)
no_pixels (Add c) o = inr (inr (inl refl))
no_pixels (Merge from into) o = inr (inr (inr (inl refl)))
no_pixels Undo o = inr (inr (inr (inr (inl refl))))
no_pixels Redo o = inr (inr (inr (inr (inr (inl refl)))))
no_pixels Mark o = inr (inr (inr (inr (inr (inr (inl refl))))))
no_pixels Malformed o = inr (inr (inr (inr (inr (inr (inr refl))))))
