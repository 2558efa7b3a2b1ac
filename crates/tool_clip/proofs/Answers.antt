-- What the calls answer, by what their tests find. Assumes nothing.
use mathlib.Core.Path.{◌≡◌, sym, ◌∙◌}
use mathlib.Core.List.{List, [], flat_map}
use Prim.Native.Nat.{ℕ, ◌*◌, ◌<◌, ◌≤◌}
use native.Mathlib.Omega.{arith}
use borrow.Author.Tests.{lt-ltb, le-ltb, eq-eqb, ne_eqb}
use lib.IntN.{ℤ}
use lib.ListN.{length}
use Rattle.base.specs.Checks.{first_of, refused_or}
use Rattle.base.specs.Answer.{filled}
use Rattle.base.specs.declared.Counted.TheVariants as counted
use Rattle.base.proofs.First.{no_zero, first-here}
use Rattle.base.specs.Lists.{over}
use Rattle.sheet.specs.Sheet.{Sheet}
use Rattle.sheet.specs.Checks.{sheet_checks, WellFormed, Judged}
use Rattle.sheet.proofs.Judging.{past-sheet, refused-sheet}
use Rattle.selection.specs.declared.Selection.{Selection}
use Rattle.selection.specs.declared.Area.{Area}
use Rattle.selection.specs.Selection.{positions}
use Rattle.selection.specs.Region.{region_checks, region_in}
use Rattle.base.specs.declared.Copied.TheVariants as copied
use Rattle.tool_snap.specs.Clipped.{clipped, from_rows}
use Rattle.tool_snap.proofs.Answers.{clip-refused, clip-short, clip-done, rows-count}
use Rattle.tool_clip.specs.Clips.{index_of, copy_of, rgba_of, clip_checks, clip_rgba_of}

-- ---- `copy`
module _ (s : Sheet) (area : Area) (out : List ℤ) where
  pub copy-sheet : (n : ℕ) → Judged s n → (n ≡ 0 → ⊥) → clipped (copied.Refused n) out ≡ copy_of s area out
  unfolding copy_of
  copy-sheet n j h = clip-refused _ _ _ _ out n (first-here (sheet_checks [] s) _ n j.value h) h

  pub copy-off : WellFormed s → 5 ≡ first_of (region_checks area s.w s.h) → clipped (copied.Refused 5) out ≡ copy_of s area out
  unfolding copy_of
  copy-off f e = clip-refused _ _ _ _ out 5 (e ∙ sym (past-sheet s f _)) (no_zero (omega arith))

  module _ (f : WellFormed s) (e : first_of (region_checks area s.w s.h) ≡ 0) (region : Selection) (q : region ≡ region_in area s.w s.h) where
    pub copy-short : length out < region.w * region.h → clipped (copied.Refused 16) out ≡ copy_of s area out
    unfolding copy_of
    copy-short h = rw (← q) (clip-short _ _ _ _ out (past-sheet s f _ ∙ e) (omega (arith, rows-count (index_of s.indices) s.w region)))

    pub copy_done : region.w * region.h ≤ length out → (buffer : List ℤ) → buffer ≡ over (from_rows s.w (index_of s.indices) (positions region)) out
        → clipped (copied.Clip region.w region.h) buffer ≡ copy_of s area out
    unfolding copy_of
    copy_done h buffer b = rw (← q) (clip-done _ _ _ _ out (past-sheet s f _ ∙ e) (omega (arith, rows-count (index_of s.indices) s.w region)) buffer b)

-- ---- `clip_rgba`
module _ (s : Sheet) (w h : ℕ) (clip : List ℤ) (out : List ℕ) where
  pub rgba-sheet : (n : ℕ) → Judged s n → (n ≡ 0 → ⊥) → filled (counted.Refused n) out ≡ clip_rgba_of s w h clip out
  unfolding clip_rgba_of
  rgba-sheet n j z = refused-sheet s _ (λ m. filled (counted.Refused m) out) _ n j z

  module _ (f : WellFormed s) where
    pub rgba-wide : 1024 < w → filled (counted.Refused 17) out ≡ clip_rgba_of s w h clip out
    unfolding clip_rgba_of clip_checks first_of refused_or
    rgba-wide a = rw (past-sheet s f _, lt-ltb _ _ a)

    module _ (a : w ≤ 1024) where
      pub rgba-high : 1024 < h → filled (counted.Refused 17) out ≡ clip_rgba_of s w h clip out
      unfolding clip_rgba_of clip_checks first_of refused_or
      rgba-high b = rw (past-sheet s f _, le-ltb _ _ a, lt-ltb _ _ b)

      module _ (b : h ≤ 1024) where
        pub rgba-odd : (length clip ≡ w * h → ⊥) → filled (counted.Refused 17) out ≡ clip_rgba_of s w h clip out
        unfolding clip_rgba_of clip_checks first_of refused_or
        rgba-odd c = rw (past-sheet s f _, le-ltb _ _ a, le-ltb _ _ b, ne_eqb _ _ c)

        module _ (c : length clip ≡ w * h) where
          pub rgba-short : length out < 4 * length clip → filled (counted.Refused 16) out ≡ clip_rgba_of s w h clip out
          unfolding clip_rgba_of clip_checks first_of refused_or
          rgba-short z = rw (past-sheet s f _, le-ltb _ _ a, le-ltb _ _ b, eq-eqb _ _ c, lt-ltb _ _ z)

          pub rgba-done : 4 * length clip ≤ length out → (buffer : List ℕ) → buffer ≡ over (flat_map (rgba_of s.k s.palette) clip) out
              → filled (counted.Count (4 * length clip)) buffer ≡ clip_rgba_of s w h clip out
          unfolding clip_rgba_of clip_checks first_of refused_or
          rgba-done z buffer q = rw (past-sheet s f _, le-ltb _ _ a, le-ltb _ _ b, eq-eqb _ _ c, le-ltb _ _ z, q)
