-- `replace_color` and `fill_global` of tools.rs: their checks, in document 01's order, and their answers. Definitions only. Assumes nothing.
use Rattle.std.specs.Prelude.{ℕ, ◌+◌, ◌*◌, Bool, cond, List, [], ◌∷◌, ◌++◌, map, ltb, ℤ, pos, length, get_or}
use Rattle.base.specs.Numbers.{too_far, no_space}
use Rattle.base.specs.Checks.{Check, ◌when◌, checked}
use Rattle.base.specs.Answer.{Filled, leaving}
use Rattle.base.specs.Answer.Told.{result, alone}
use Rattle.base.specs.Lists.{over, kept}
use Rattle.base.specs.Ints.{eq_z, far}
use Rattle.std.proofs.Math.Option.{Option, none, some}
use Rattle.sheet.specs.Sheet.{Sheet}
use Rattle.sheet.specs.Checks.{sheet_checks}
use Rattle.sheet.specs.Document.{index_at}
use Rattle.selection_spans.specs.Positions.{Position}
use Rattle.selection.specs.declared.Selection.{Selection}
use Rattle.selection.specs.declared.Area.{Area}
use Rattle.selection.specs.Selection.{positions, contains_i}
use Rattle.selection.specs.Region.{region_checks, region_in}
use Rattle.edit.specs.Change.{Change, packed}

-- `doc.get(x, y) == from`, on a sheet of width w
unfoldable pub has_index : ℕ → List ℤ → ℤ → Position → Bool
has_index w indices from p = eq_z (get_or indices (p.y * w + p.x) (pos 0)) from

-- `PixelChange { x, y, old: from, new: to }`
unfoldable pub replacing : ℤ → ℤ → Position → Change
replacing from to p = record { x = p.x; y = p.y; old = from; new = to }

-- ---- `replace_color`: "every pixel of index `from` inside the selection (or the image) becomes `to`"; none where the two are one
unfoldable pub replaced : ℕ → List ℤ → Selection → ℤ → ℤ → List Change
replaced w indices region from to = cond (eq_z from to) [] (map (replacing from to) (kept (has_index w indices from) (positions region)))

-- ---- `fill_global`: "every pixel of the index at `at`, inside the selection, becomes `index`": that of `get_at`, where the region contains the position
unfoldable pub from_pixel : Option ℤ → Bool → (ℤ → List Change) → List Change
from_pixel (some from) held changes = cond held (changes from) []
from_pixel none held changes = []

unfoldable pub global : Sheet → Selection → ℤ → ℤ → ℤ → List Change
global s region x y index =
    from_pixel (index_at s.w s.h s.indices x y) (contains_i region x y) (λ from. replaced s.w s.indices region from index)

-- ---- the calls
-- a call's checks, then 16; the number of its changes, and the changes at the front of the buffer
unfoldable pub listed : List Check → List Change → List ℕ → Filled ℕ
listed checks changes out =
    checked (checks ++ (no_space when ltb (length out) (length changes) ∷ []))
    (λ n. leaving (alone n) out)
    (leaving (result (length changes)) (over (map packed changes) out))

-- 1, 2, 3, 5, 16
unfoldable pub replace_color_of : Sheet → Area → ℤ → ℤ → List ℕ → Filled ℕ
replace_color_of s area from to out =
    listed
    (sheet_checks [] s ++ region_checks area s.w s.h)
    (replaced s.w s.indices (region_in area s.w s.h) from to)
    out

-- 1, 2, 3, 15, 5, 16
unfoldable pub fill_global_of : Sheet → Area → ℤ → ℤ → ℤ → List ℕ → Filled ℕ
fill_global_of s area x y index out =
    listed
    (sheet_checks [] s ++ ((too_far when far x ∷ too_far when far y ∷ []) ++ region_checks area s.w s.h))
    (global s (region_in area s.w s.h) x y index)
    out
