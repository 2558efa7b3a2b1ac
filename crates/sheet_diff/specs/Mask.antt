-- `diff_mask` of document.rs: its checks and its answer. Definitions only. Assumes nothing.
use Rattle.std.specs.Prelude.{◌≡◌, ℕ, ◌*◌, ◌≤◌, Bool, true, false, not, ◌&&◌, List, [], ◌∷◌, ◌++◌, ltb, eqb, ℤ, pos, negsuc, length, take, drop}
use Rattle.base.specs.Limits.{max_side, max_entries, storage}
use Rattle.base.specs.Numbers.{bad_sheet, stray_index, no_space}
use Rattle.base.specs.Checks.{Check, ◌when◌, first_of, checked}
use Rattle.base.specs.Lists.{some, over}
use Rattle.base.specs.Answer.{Filled, leaving}
use Rattle.base.specs.Answer.Told.{result, alone}
use Rattle.sheet.specs.Sheet.{Sheet, stray}
use Rattle.sheet.specs.Checks.{sheet_checks}
use Rattle.sheet.specs.Document.{mark}

-- "Per pixel: its color or transparency differs from the conversion result"
-- the bytes that an index shows through a palette: none where it is transparent
unfoldable pub shown : List ℕ → ℤ → List ℕ
shown palette (pos n) = take 3 (drop (3 * n) palette)
shown palette (negsuc n) = []

unfoldable pub same_bytes : List ℕ → List ℕ → Bool
same_bytes [] [] = true
same_bytes [] (b ∷ bs) = false
same_bytes (a ∷ as') [] = false
same_bytes (a ∷ as') (b ∷ bs) = eqb a b && same_bytes as' bs

unfoldable pub differs : List ℕ → List ℕ → ℤ → ℤ → Bool
differs palette base a b = not (same_bytes (shown palette a) (shown base b))

unfoldable pub mask_of : List ℕ → List ℕ → List ℤ → List ℤ → List ℕ
mask_of palette base [] bs = []
mask_of palette base (a ∷ l) [] = []
mask_of palette base (a ∷ l) (b ∷ bs) = mark (differs palette base a b) ∷ mask_of palette base l bs

-- the baseline: a sheet without LAB, under a sheet of w by h
pub record Baseline : Type 0 where
  pub w : ℕ
  pub h : ℕ
  pub k : ℕ
  pub palette : List ℕ
  pub indices : List ℤ

abbrev pub baseline_of : ℕ → ℕ → ℕ → List ℕ → List ℤ → Baseline
baseline_of w h k palette indices = record { w = w; h = h; k = k; palette = palette; indices = indices }

-- what a caller knows of a baseline that is not refused
pub record BaselineFits (w h : ℕ) (b : Baseline) : Type 0 where
  pub k-small : b.k ≤ 255
  pub palette-length : length b.palette ≡ 765
  pub indices-length : length b.indices ≡ w * h
  pub in-range : some (stray b.k) b.indices ≡ false

-- "`diff_mask`'s baseline (no LAB; its 1, 2 follow 1 to 3)", "has another size"
unfoldable pub baseline_checks : ℕ → ℕ → Baseline → List Check
baseline_checks w h b =
    bad_sheet when ltb max_side b.w
    ∷ bad_sheet when ltb max_side b.h
    ∷ bad_sheet when ltb max_entries b.k
    ∷ bad_sheet when not (eqb (length b.palette) storage)
    ∷ bad_sheet when not (eqb (length b.indices) (b.w * b.h))
    ∷ bad_sheet when not (eqb b.w w)
    ∷ bad_sheet when not (eqb b.h h)
    ∷ stray_index when some (stray b.k) b.indices
    ∷ []

-- the number of the first of these that applies, and what 0 means
pub record Based (w h : ℕ) (b : Baseline) (n : ℕ) : Type 0 where
  pub value : n ≡ first_of (baseline_checks w h b)
  pub fine : n ≡ 0 → BaselineFits w h b

unfoldable pub diff_mask_of : Sheet → Baseline → List ℕ → Filled ℕ
diff_mask_of s b mask =
    checked (sheet_checks [] s ++ (baseline_checks s.w s.h b ++ (no_space when ltb (length mask) (s.w * s.h) ∷ [])))
    (λ n. leaving (alone n) mask)
    (leaving (result (s.w * s.h)) (over (mask_of s.palette b.palette s.indices b.indices) mask))
