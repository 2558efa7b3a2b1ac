-- `copy` and `clip_rgba` of tools.rs: their checks, in document 01's order, and their answers. Definitions only. Assumes nothing.
use Rattle.std.specs.Prelude.{ℕ, ◌*◌, not, cond, ltb, eqb, ℤ, pos, negsuc, length, get_or}
use mathlib.Core.List.{List, [], ◌∷◌, ◌++◌, flat_map}
use Rattle.base.specs.Limits.{max_side}
use Rattle.base.specs.Numbers.{no_space, bad_clip}
use Rattle.base.specs.Checks.{Check, ◌when◌, checked}
use Rattle.base.specs.Answer.{Filled, leaving}
use Rattle.base.specs.Answer.Told.{result, alone}
use Rattle.base.specs.declared.Rgb.{Rgb}
use Rattle.base.specs.Lists.{over}
use Rattle.sheet.specs.Sheet.{Sheet}
use Rattle.sheet.specs.Checks.{sheet_checks}
use Rattle.base.specs.Triples.{rgb_at}
use Rattle.selection.specs.declared.Area.{Area}
use Rattle.selection.specs.Selection.{positions}
use Rattle.selection.specs.Region.{region_checks, region_in}
use Rattle.tool_snap.specs.Clipped.{Clipped, clip_of, from_rows}

-- ---- `copy`: "Copy the selection's indices (the whole image without one)"; 1, 2, 3, 5, 16
abbrev pub index_of : List ℤ → ℕ → ℤ
index_of indices p = get_or indices p (pos 0)

unfoldable pub copy_of : Sheet → Area → List ℤ → Clipped
copy_of s area out =
    let region = region_in area s.w s.h in
    clip_of (sheet_checks [] s ++ region_checks area s.w s.h) region.w region.h (from_rows s.w (index_of s.indices) (positions region)) out

-- ---- `clip_rgba`: "A clip as RGBA8 (transparent pixels `0, 0, 0, 0`)"; 1, 2, 3, 17, 16
abbrev pub opaque : Rgb → List ℕ
opaque c = c.r ∷ c.g ∷ c.b ∷ 255 ∷ []

abbrev pub clear : List ℕ
clear = 0 ∷ 0 ∷ 0 ∷ 0 ∷ []

-- the palette's colour where the index is an entry
unfoldable pub rgba_of : ℕ → List ℕ → ℤ → List ℕ
rgba_of k palette (pos n) = cond (ltb n k) (opaque (rgb_at palette n)) clear
rgba_of k palette (negsuc n) = clear

-- "side over 1,024 .. or length not w × h"
unfoldable pub clip_checks : ℕ → ℕ → List ℤ → List Check
clip_checks w h clip =
    bad_clip when ltb max_side w
    ∷ bad_clip when ltb max_side h
    ∷ bad_clip when not (eqb (length clip) (w * h))
    ∷ []

unfoldable pub clip_rgba_of : Sheet → ℕ → ℕ → List ℤ → List ℕ → Filled ℕ
clip_rgba_of s w h clip out =
    checked (sheet_checks [] s ++ (clip_checks w h clip ++ (no_space when ltb (length out) (4 * length clip) ∷ [])))
    (λ n. leaving (alone n) out)
    (leaving (result (4 * length clip)) (over (flat_map (rgba_of s.k s.palette) clip) out))
