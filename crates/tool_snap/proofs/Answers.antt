-- What the calls that make a clip answer, by what their tests find; and `snap_rgba`. Assumes nothing.
use mathlib.Core.Path.{◌≡◌, sym, ◌∙◌}
use mathlib.Core.List.{List, [], ◌++◌}
use Prim.Native.Nat.{ℕ, ◌*◌, ◌<◌, ◌≤◌, min}
use native.Mathlib.Omega.{arith}
use borrow.Author.Tests.{lt-ltb, le-ltb}
use lib.IntN.{ℤ}
use lib.ListN.{length}
use Rattle.base.specs.Checks.{Check, first_of, refused_or}
use Rattle.base.proofs.First.{no_zero, first_past, first-here, refused-first}
use Rattle.base.specs.Lists.{over}
use Rattle.color_curve.specs.Curve.{Curve, lab_by, curve_checks}
use Rattle.sheet.specs.Sheet.{Sheet}
use Rattle.sheet.specs.Checks.{sheet_checks, WellFormed, Judged}
use Rattle.sheet.proofs.Judging.{past-sheet}
use Rattle.selection.specs.declared.Selection.{Selection}
use Rattle.selection.specs.Selection.{all, positions}
use Rattle.selection.proofs.Rows.{length-positions}
use Rattle.base.specs.declared.Copied.TheVariants as copied
use Rattle.tool_snap.specs.Clipped.{clipped, clip_of, from_rows}
use Rattle.tool_snap.specs.Snap.{snap_at, image_checks, snap_rgba_of}
use Rattle.tool_snap.proofs.Rows.{from-length}

-- ---- a clip
module _ (cs : List Check) (w h : ℕ) (indices out : List ℤ) where
  pub clip-refused : (n : ℕ) → n ≡ first_of cs → (n ≡ 0 → ⊥) → clipped (copied.Refused n) out ≡ clip_of cs w h indices out
  unfolding clip_of
  clip-refused n e z = refused-first _ (λ m. clipped (copied.Refused m) out) _ n (first-here cs _ n e z) z

  pub clip-short : first_of cs ≡ 0 → length out < length indices → clipped (copied.Refused 16) out ≡ clip_of cs w h indices out
  unfolding clip_of first_of refused_or
  clip-short e z = rw (first_past cs _ e, lt-ltb _ _ z)

  pub clip-done : first_of cs ≡ 0 → length indices ≤ length out → (buffer : List ℤ) → buffer ≡ over indices out → clipped (copied.Clip w h) buffer ≡ clip_of cs w h indices out
  unfolding clip_of first_of refused_or
  clip-done e z buffer q = rw (first_past cs _ e, le-ltb _ _ z, q)

-- as many as the region has positions
pub rows-count : (g : ℕ → ℤ) (w : ℕ) (s : Selection) → length (from_rows w g (positions s)) ≡ s.w * s.h
rows-count g w s = from-length g w 0 0 0 (positions s) ∙ length-positions s

-- ---- `snap_rgba`
module _ (s : Sheet) (c : Curve) (rgba : List ℕ) (w h : ℕ) (out : List ℤ) where
  pub snap-sheet : (n : ℕ) → Judged s n → (n ≡ 0 → ⊥) → clipped (copied.Refused n) out ≡ snap_rgba_of s c rgba w h out
  unfolding snap_rgba_of
  snap-sheet n j z = clip-refused _ _ _ _ out n (first-here (sheet_checks [] s) _ n j.value z) z

  module _ (f : WellFormed s) where
    pub snap-unfit : (n : ℕ) → n ≡ first_of (curve_checks c) → (n ≡ 0 → ⊥) → clipped (copied.Refused n) out ≡ snap_rgba_of s c rgba w h out
    unfolding snap_rgba_of
    snap-unfit n e z = clip-refused _ _ _ _ out n (first-here (curve_checks c) _ n e z ∙ sym (past-sheet s f _)) z

    module _ (fit : first_of (curve_checks c) ≡ 0) where
      past-both : (ds : List Check) → first_of (sheet_checks [] s ++ (curve_checks c ++ ds)) ≡ first_of ds
      past-both ds = past-sheet s f _ ∙ first_past (curve_checks c) ds fit

      refused : (n : ℕ) → n ≡ first_of (image_checks w h rgba) → 0 < n → clipped (copied.Refused n) out ≡ snap_rgba_of s c rgba w h out
      unfolding snap_rgba_of
      refused n e z = clip-refused _ _ _ _ out n (e ∙ sym (past-both _)) (no_zero z)

      pub snap-wide : 1024 < w → clipped (copied.Refused 17) out ≡ snap_rgba_of s c rgba w h out
      unfolding image_checks first_of
      snap-wide a = refused 17 (rw (lt-ltb _ _ a)) (omega arith)

      module _ (a : w ≤ 1024) where
        pub snap-high : 1024 < h → clipped (copied.Refused 17) out ≡ snap_rgba_of s c rgba w h out
        unfolding image_checks first_of
        snap-high b = refused 17 (rw (le-ltb _ _ a, lt-ltb _ _ b)) (omega arith)

        module _ (b : h ≤ 1024) where
          pub snap-few : length rgba < 4 * (w * h) → clipped (copied.Refused 19) out ≡ snap_rgba_of s c rgba w h out
          unfolding image_checks first_of
          snap-few z = refused 19 (rw (le-ltb _ _ a, le-ltb _ _ b, lt-ltb _ _ z)) (omega arith)

          module _ (d : 4 * (w * h) ≤ length rgba) (cw ch : ℕ) (p : cw ≡ min w s.w) (q : ch ≡ min h s.h) where
            past : first_of (sheet_checks [] s ++ (curve_checks c ++ image_checks w h rgba)) ≡ 0
            unfolding image_checks first_of
            past = past-both _ ∙ rw (le-ltb _ _ a, le-ltb _ _ b, le-ltb _ _ d)

            count : length (from_rows w (snap_at (lab_by c) s.lab s.k rgba) (positions (all cw ch))) ≡ cw * ch
            unfolding all
            count = rows-count (snap_at (lab_by c) s.lab s.k rgba) w (all cw ch)

            pub snap-short : length out < cw * ch → clipped (copied.Refused 16) out ≡ snap_rgba_of s c rgba w h out
            unfolding snap_rgba_of
            snap-short z = rw (← p, ← q) (clip-short _ _ _ _ out past (omega (arith, count)))

            pub snap-done : cw * ch ≤ length out → (buffer : List ℤ) → buffer ≡ over (from_rows w (snap_at (lab_by c) s.lab s.k rgba) (positions (all cw ch))) out
                → clipped (copied.Clip cw ch) buffer ≡ snap_rgba_of s c rgba w h out
            unfolding snap_rgba_of
            snap-done z buffer e = rw (← p, ← q) (clip-done _ _ _ _ out past (omega (arith, count)) buffer e)
