-- Well-formed sheets that edits make: of the same size as a well-formed one, or showing the same picture. Assumes nothing.
use mathlib.Core.Path.{◌≡◌, refl, ap, ◌∙◌}
use mathlib.Core.Bool.{false}
use mathlib.Core.List.{List}
use Prim.Native.Nat.{ℕ, zero, suc, ◌*◌, ◌≤◌}
use native.Mathlib.Omega.{arith}
use borrow.Author.Tests.{leb-false, lt-leb}
use lib.IntN.{ℤ, pos, negsuc}
use lib.Ieee.{Float}
use lib.ListN.{length, take}
use Rattle.base.specs.Lists.{some}
use Rattle.color_doubles.specs.Finite.{unfit}
use Rattle.sheet.specs.Sheet.{Sheet, sheet_of, view, stray}
use Rattle.sheet.specs.Checks.{Limits, WellFormed}

-- another palette count, palette, LAB and indices on a sheet of the same size
pub same-limits : {s : Sheet} → Limits s → (k : ℕ) (palette : List ℕ) (lab : List Float) (l : List ℤ)
    → k ≤ 255 → length palette ≡ 765 → length lab ≡ 765 → length l ≡ length s.indices → Limits (sheet_of s.w s.h k palette lab l)
same-limits f k palette lab l few p q n =
    record {
      w-small = f.w-small;
      h-small = f.h-small;
      k-small = few;
      cells = f.cells;
      palette-length = p;
      lab-length = q;
      indices-length = n ∙ f.indices-length;
    }

pub same-size-fits : {s : Sheet} → Limits s → (k : ℕ) (palette : List ℕ) (lab : List Float) (l : List ℤ)
    → k ≤ 255 → length palette ≡ 765 → length lab ≡ 765 → length l ≡ length s.indices → some (stray k) l ≡ false → some unfit (take (3 * k) lab) ≡ false
    → WellFormed (sheet_of s.w s.h k palette lab l)
same-size-fits f k palette lab l few p q n a b =
    record {
      limits = same-limits f k palette lab l few p q n;
      in-range = a;
      fit = b;
    }

-- storage of a sheet's length
pub record Long (s : Sheet) : Type 0 where
  pub palette : length s.palette ≡ 765
  pub lab : length s.lab ≡ 765

-- a sheet that shows what a well-formed one shows
pub shown-fits : (s t : Sheet) → WellFormed s → view t ≡ view s → Long t → WellFormed t
unfolding view
shown-fits s t f v n =
    let w : t.w ≡ s.w = ap (λ x. x.w) v in
    let h : t.h ≡ s.h = ap (λ x. x.h) v in
    let k : t.k ≡ s.k = ap (λ x. x.k) v in
    let l : t.indices ≡ s.indices = ap (λ x. x.indices) v in
    let labs : take (3 * t.k) t.lab ≡ take (3 * s.k) s.lab = ap (λ x. x.labs) v in
    record {
      limits =
          record {
            w-small = rw w f.limits.w-small;
            h-small = rw h f.limits.h-small;
            k-small = rw k f.limits.k-small;
            cells = rw (w, h) f.limits.cells;
            palette-length = n.palette;
            lab-length = n.lab;
            indices-length = rw (w, h, l) f.limits.indices-length;
          };
      in-range = rw (k, l) f.in-range;
      fit = rw labs f.fit;
    }

-- one entry more in use
pub more-in-range : (k : ℕ) (z : ℤ) → stray k z ≡ false → stray (suc k) z ≡ false
unfolding stray
more-in-range k (pos n) e = lt-leb (suc k) n (omega (arith, leb-false k n e))
more-in-range k (negsuc zero) e = refl
more-in-range k (negsuc (suc n)) e = e
