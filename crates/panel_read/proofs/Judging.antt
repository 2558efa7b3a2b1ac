-- The checks of an opening and of the storage that is lent, in order. Assumes nothing.
use mathlib.Core.Path.{◌≡◌, sym, ◌∙◌}
use mathlib.Core.Bool.{Bool, true, false}
use mathlib.Core.List.{List, ◌++◌, map}
use Prim.Native.Nat.{ℕ, ◌+◌, ◌*◌, ◌≤◌, ◌<◌}
use native.Mathlib.Nat.{mul-le-mul}
use native.Mathlib.Omega.{arith}
use borrow.Author.Tests.{lt-ltb, le-ltb, eq-eqb, ne_eqb}
use lib.Ieee.{Float}
use lib.ListN.{length, take, drop, replicate, length-map, length-take, length-drop, length-replicate}
use Rattle.base.specs.Limits.{storage}
use Rattle.base.specs.Checks.{Check, first_of}
use Rattle.base.specs.Lists.{some}
use Rattle.base.proofs.First.{first_past}
use Rattle.base.proofs.Over.{length_over}
use Rattle.color_doubles.specs.Arithmetic.{decimal}
use Rattle.sheet.specs.Sheet.{Sheet, stray}
use Rattle.sheet.specs.Checks.{Limits, limit_checks, index_checks}
use Rattle.sheet.proofs.Judging.{limited-fine}
use Rattle.panel_frames.specs.Reading.{index_of, palette_in, indices_in}
use Rattle.panel_frames.specs.Opening.{open_sheet, open_checks}
use Rattle.panel_read.specs.ReadSheet.{storage_checks, Openable}

-- the indices as the code cuts them out of the bytes
pub judged-indices : (w h k : ℕ) (bs : List ℕ) (m start : ℕ) (b : Bool) → m ≡ w * h → start ≡ 6 + 3 * k → b ≡ some (stray k) (map index_of (take m (drop start bs)))
    → some (stray k) (indices_in w h k bs) ≡ b
judged-indices w h k bs m start b e f q = sym (rw (e, f) at q)

no_one : ◌≡◌ {A = ℕ} 1 0 → ⊥
no_one e = omega arith

no-two : ◌≡◌ {A = ℕ} 2 0 → ⊥
no-two e = omega arith

module _ (w h k : ℕ) (bs palette : List ℕ) (lab : List Float) where
  abbrev s : Sheet
  s = open_sheet w h k bs

  abbrev lent : List Check
  lent = storage_checks palette lab

  -- a number that comes first
  refused : (n : ℕ) → n ≡ first_of (open_checks lent s) → (n ≡ 0 → ⊥) → Openable w h k bs palette lab n
  refused n e nz =
      record {
        value = e;
        narrow = λ z. absurd (nz z);
        low = λ z. absurd (nz z);
        few = λ z. absurd (nz z);
        palette-long = λ z. absurd (nz z);
        lab-long = λ z. absurd (nz z);
      }

  pub too_wide : 64 < w → Openable w h k bs palette lab 1
  unfolding open_checks first_of open_sheet
  too_wide a = refused 1 (rw (lt-ltb 64 w a)) no_one

  pub too-tall : w ≤ 64 → 64 < h → Openable w h k bs palette lab 1
  unfolding open_checks first_of open_sheet
  too-tall a b = refused 1 (rw (le-ltb 64 w a, lt-ltb 64 h b)) no_one

  module _ (narrow : w ≤ 64) (low : h ≤ 64) where
    pub too_many : 255 < k → Openable w h k bs palette lab 1
    unfolding open_checks first_of limit_checks open_sheet
    too_many d = refused 1 (rw (le-ltb 64 w narrow, le-ltb 64 h low, le-ltb 1024 w (omega arith), le-ltb 1024 h (omega arith), lt-ltb 255 k d)) no_one

    module _ (few : k ≤ 255) (room : 6 + 3 * k + w * h ≤ length bs) where
      pub open-limits : Limits s
      unfolding open_sheet
      open-limits =
          let colours : length (palette_in k bs) ≡ 3 * k = simp (length-take, length-drop) (omega arith) in
          let zeros : length (replicate {A = ℕ} storage 0) ≡ 765 = length-replicate {A = ℕ} storage 0 in
          record {
            w-small = omega arith;
            h-small = omega arith;
            k-small = few;
            cells = omega (arith, mul-le-mul narrow low);
            palette-length = length_over (palette_in k bs) (replicate storage 0) (omega arith) ∙ zeros;
            lab-length = length-replicate storage (decimal 0 1);
            indices-length = length-map (take (w * h) (drop (6 + 3 * k) bs)) index_of ∙ simp (length-take, length-drop) (omega arith);
          }

      past-limits : first_of (open_checks lent s) ≡ first_of (lent ++ index_checks s)
      unfolding open_checks first_of open_sheet
      past-limits =
          rw (le-ltb 64 w narrow, le-ltb 64 h low)
          (first_past (limit_checks s) (lent ++ index_checks s) (sym (limited-fine s open-limits).value))

      pub bad-palette : (length palette ≡ 765 → ⊥) → Openable w h k bs palette lab 1
      unfolding storage_checks first_of
      bad-palette p = refused 1 (sym (past-limits ∙ rw (ne_eqb (length palette) 765 p))) no_one

      module _ (p : length palette ≡ 765) where
        pub bad-lab : (length lab ≡ 765 → ⊥) → Openable w h k bs palette lab 1
        unfolding storage_checks first_of
        bad-lab q = refused 1 (sym (past-limits ∙ rw (eq-eqb (length palette) 765 p, ne_eqb (length lab) 765 q))) no_one

        module _ (q : length lab ≡ 765) where
          by-indices : first_of (open_checks lent s) ≡ first_of (index_checks s)
          unfolding storage_checks first_of
          by-indices = past-limits ∙ rw (eq-eqb (length palette) 765 p, eq-eqb (length lab) 765 q)

          pub stray-opening : some (stray k) (indices_in w h k bs) ≡ true → Openable w h k bs palette lab 2
          unfolding index_checks first_of open_sheet
          stray-opening e = refused 2 (sym (by-indices ∙ rw e)) no-two

          pub openable : some (stray k) (indices_in w h k bs) ≡ false → Openable w h k bs palette lab 0
          unfolding index_checks first_of open_sheet
          openable e =
              record {
                value = sym (by-indices ∙ rw e);
                narrow = λ z. narrow;
                low = λ z. low;
                few = λ z. few;
                palette-long = λ z. p;
                lab-long = λ z. q;
              }
