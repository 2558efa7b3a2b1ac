-- `snap_rgba` of tools.rs: its checks, in document 01's order, and its answer, by the session's curve (document 02, E6). Definitions only. Assumes nothing.
use Rattle.std.specs.Prelude.{ℕ, ◌+◌, ◌*◌, min, ◌||◌, cond, List, [], ◌∷◌, ◌++◌, ltb, eqb, Float, ℤ, pos, negsuc, length, get_or}
use Rattle.base.specs.Limits.{max_side}
use Rattle.base.specs.Numbers.{bad_clip, short_pixels}
use Rattle.base.specs.Checks.{Check, ◌when◌}
use Rattle.base.specs.declared.Rgb.{Rgb}
use Rattle.base.specs.declared.Lab.{Lab}
use Rattle.color_curve.specs.Curve.{Curve, lab_by, curve_checks}
use Rattle.color_nearest.specs.Nearest.{nearest_of}
use Rattle.sheet.specs.Sheet.{Sheet}
use Rattle.sheet.specs.Checks.{sheet_checks}
use Rattle.selection.specs.Selection.{all, positions}
use Rattle.tool_snap.specs.Clipped.{Clipped, clip_of, from_rows}

-- "every other pixel takes the nearest entry (`color::nearest_index` on the LAB palette ..)"
unfoldable pub entry_of : (Rgb → Lab) → List Float → ℕ → Rgb → ℕ
entry_of curve lab k c = (nearest_of (curve c) lab k).entry

-- "alpha < 128 is -1"; "Without palette entries every pixel is transparent"
unfoldable pub snapped : (Rgb → Lab) → List Float → ℕ → Rgb → ℕ → ℤ
snapped curve lab k c alpha = cond (ltb alpha 128 || eqb k 0) (negsuc 0) (pos (entry_of curve lab k c))

-- pixel p of an RGBA8 image, four bytes each
unfoldable pub colour_at : List ℕ → ℕ → Rgb
colour_at rgba p = record { r = get_or rgba (4 * p) 0; g = get_or rgba (4 * p + 1) 0; b = get_or rgba (4 * p + 2) 0 }

unfoldable pub snap_at : (Rgb → Lab) → List Float → ℕ → List ℕ → ℕ → ℤ
snap_at curve lab k rgba p = snapped curve lab k (colour_at rgba p) (get_or rgba (4 * p + 3) 0)

-- 17: "side over 1,024 (also of `snap_rgba`'s image)"; 19: "RGBA bytes < 4 × w × h"
unfoldable pub image_checks : ℕ → ℕ → List ℕ → List Check
image_checks w h rgba =
    bad_clip when ltb max_side w
    ∷ bad_clip when ltb max_side h
    ∷ short_pixels when ltb (length rgba) (4 * (w * h))
    ∷ []

-- 1, 2, 3, 25, 17, 19, 16; "Only the top-left part that fits the document is kept"
unfoldable pub snap_rgba_of : Sheet → Curve → List ℕ → ℕ → ℕ → List ℤ → Clipped
snap_rgba_of s c rgba w h out =
    let cw = min w s.w in
    let ch = min h s.h in
    clip_of (sheet_checks [] s ++ (curve_checks c ++ image_checks w h rgba)) cw ch (from_rows w (snap_at (lab_by c) s.lab s.k rgba) (positions (all cw ch))) out
