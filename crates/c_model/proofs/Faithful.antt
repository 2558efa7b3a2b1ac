-- The flat form of a sheet is faithful: a well-formed sheet of the buffer's size, written over it, reads back as what it shows.
-- Assumes nothing.
use mathlib.Core.Path.{◌≡◌, refl, sym, ap, subst, ◌∙◌}
use mathlib.Core.Bool.{Bool, true, false, not, cond, ◌||◌}
use mathlib.Core.List.{List, [], ◌∷◌}
use Prim.Native.Nat.{ℕ, zero, suc, ◌+◌, ◌*◌, ◌≤◌, ◌<◌}
use native.Mathlib.Omega.{arith}
use borrow.Author.Rules.{sfits_of}
use borrow.Author.Tests.{eqb-true, leb-false, not-false}
use lib.Dec.{ltb, leb, eqb, T}
use lib.IntN.{ℤ, pos, negsuc}
use lib.Ieee.{Float, binary64, fits}
use lib.Ieee.Bits.{of_bits-fits}
use lib.ListN.{length, take, drop}
use mir.Syntax.{w16}
use mir.Val.{SFits}
use Rattle.base.specs.Checks.{first_of, or_else}
use Rattle.base.specs.Lists.{some, All}
use Rattle.base.proofs.First.{first_passes}
use Rattle.base.proofs.Scan.{or_left, or_right}
use Rattle.base.proofs.Back.{never}
use Rattle.sheet.specs.Sheet.{view, stray}
use Rattle.edit_pixels.proofs.Fitting.{index-fits}
use Rattle.sheet.specs.Checks.{sheet_checks, limit_checks, index_checks, lab_checks, WellFormed, Marked}
use Rattle.color_curve.specs.Curve.{srgb, lab_by}
use Rattle.history_ledger.specs.Algebra.{WellFormedIn}
use Rattle.history_ledger.proofs.Refusals.{when-passes}
use Rattle.history_model.specs.Document.{Document, Shown, shown, document_of, document_checks}
use Rattle.history_model.specs.Editing.{TypedSheet}
use Rattle.history_model.proofs.Keeps.{marked, double}
use Rattle.journal_record.specs.Bytes.{unle}
use Rattle.c_form.specs.Flat.{double_from, width_in, height_in, count_in, places_in, palette_in, lab_in, indices_in, locks_in, sheet_over, sheet_misfits}
use Rattle.c_form.proofs.Fields.{length-read}
use Rattle.c_model.specs.Asked.{Asked, given_by, sides_over, is_large, flat_editing}
use Rattle.c_model.specs.Step.{sheet_in, flat_over}
use Rattle.history_ledger.specs.Coded.{Faithful}
use Rattle.c_model.specs.FlatHistory.{flat_coding}
use Rattle.c_model.proofs.Limits.{next-width, next-height}
use Rattle.c_form.proofs.Spans.{read_none}
use Rattle.c_form.proofs.ReadBack as back

abbrev Alike : Shown → Shown → Type 0
Alike p q = (p.picture.w ≡ q.picture.w) × (p.picture.h ≡ q.picture.h)

-- ---- indices in range have 16 bits
all_fit : (k : ℕ) (l : List ℤ) → k ≤ 255 → some (stray k) l ≡ false → All (SFits w16) l
unfolding some All
all_fit k [] h e = tt
all_fit k (z ∷ l) h e = (index-fits k z h (or_left (stray k z) _ e), all_fit k l h (or_right (stray k z) _ e))

-- the length suits
pub suited : (b : List ℕ) → sheet_misfits b ≡ false → length b ≡ 7146 + 2 * places_in b
unfolding sheet_misfits
suited b e = eqb-true (length b) (7146 + 2 * places_in b) (not-false _ (or_left _ _ e))

pub sheet-passes : (d : Document) → flat_editing.sheet_check d ≡ 0 → (sides_over d.sheet.w d.sheet.h ≡ false) × (first_of (document_checks d) ≡ 0)
unfolding view
sheet-passes d e =
    let both = first_passes (cond (is_large (shown d)) 1 0) (first_of (document_checks d)) e in
    (when-passes 0 (is_large (shown d)) both.0, both.1)

large-passes : (d : Document) → sides_over d.sheet.w d.sheet.h ≡ false → ◌≡◌ {A = ℕ} (cond (is_large (shown d)) 1 0) 0
unfolding view
large-passes d e = rw e

module _ (s : Document) (c : List ℕ) (fit : sheet_misfits c ≡ false) (g : WellFormedIn flat_editing s) (a : Alike (shown (sheet_in c)) (shown s)) where
  formed : Marked s.sheet s.locks
  formed = marked s.sheet s.locks (sheet-passes s g.passes).1

  same_w : width_in c ≡ s.sheet.w
  unfolding view sheet_in
  same_w = a.0

  same-h : height_in c ≡ s.sheet.h
  unfolding view sheet_in
  same-h = a.1

  size : places_in c ≡ length s.sheet.indices
  size = ap (λ (w : ℕ). w * height_in c) same_w ∙ ap (λ (h : ℕ). s.sheet.w * h) same-h ∙ sym formed.formed.limits.indices-length

  suits : length c ≡ 7146 + 2 * length s.sheet.indices
  suits = suited c fit ∙ ap (λ (n : ℕ). 7146 + 2 * n) size

  k-small : s.sheet.k < 65536
  k-small = omega (arith, formed.formed.limits.k-small)

  after : List ℕ
  after = flat_over s c

  read-back : sheet_in (flat_over s c)
      ≡ document_of s.sheet.w s.sheet.h s.sheet.k s.sheet.palette (lab_in (flat_over s c)) s.sheet.indices s.locks
  unfolding sheet_in sheet_over
  read-back =
      let l = formed.formed.limits in
      let m = formed.marks in
      let ew = back.same_width s.sheet.k s.sheet.palette s.sheet.lab s.sheet.indices s.locks c k-small l.palette-length l.lab-length m suits ∙ same_w in
      let eh = back.same-height s.sheet.k s.sheet.palette s.sheet.lab s.sheet.indices s.locks c k-small l.palette-length l.lab-length m suits ∙ same-h in
      let ek = back.same_count s.sheet.k s.sheet.palette s.sheet.lab s.sheet.indices s.locks c k-small l.palette-length l.lab-length m suits in
      let ep = back.same-palette s.sheet.k s.sheet.palette s.sheet.lab s.sheet.indices s.locks c k-small l.palette-length l.lab-length m suits in
      let ei = back.same-indices s.sheet.k s.sheet.palette s.sheet.lab s.sheet.indices s.locks c k-small l.palette-length l.lab-length m suits size (all_fit s.sheet.k s.sheet.indices l.k-small formed.formed.in-range) in
      let el = back.same-locks s.sheet.k s.sheet.palette s.sheet.lab s.sheet.indices s.locks c k-small l.palette-length l.lab-length m suits size in
      λ i. document_of (ew i) (eh i) (ek i) (ep i) (lab_in (flat_over s c)) (ei i) (el i)

  labs : take (3 * s.sheet.k) (lab_in (flat_over s c)) ≡ take (3 * s.sheet.k) s.sheet.lab
  unfolding sheet_over
  labs =
      let l = formed.formed.limits in
      back.lab-back s.sheet.k s.sheet.palette s.sheet.lab s.sheet.indices s.locks c k-small l.palette-length l.lab-length formed.marks suits
      (3 * s.sheet.k) (back.all-kept (3 * s.sheet.k) s.sheet.lab formed.formed.fit g.typed.lab)

  -- where LAB past the entries is the buffer's own, all of it
  pub whole_back : drop (3 * s.sheet.k) s.sheet.lab ≡ drop (3 * s.sheet.k) (lab_in c) → sheet_in (flat_over s c) ≡ s
  unfolding sheet_over
  whole_back past =
      let l = formed.formed.limits in
      let el = back.lab-whole s.sheet.k s.sheet.palette s.sheet.lab s.sheet.indices s.locks c k-small l.palette-length l.lab-length formed.marks suits
      (3 * s.sheet.k) (back.all-kept (3 * s.sheet.k) s.sheet.lab formed.formed.fit g.typed.lab) past in
      read-back ∙ (λ i. document_of s.sheet.w s.sheet.h s.sheet.k s.sheet.palette (el i) s.sheet.indices s.locks)

  pub write-fit : sheet_misfits (flat_over s c) ≡ false
  unfolding sheet_over
  write-fit =
      let l = formed.formed.limits in
      back.still-suits s.sheet.k s.sheet.palette s.sheet.lab s.sheet.indices s.locks c k-small l.palette-length l.lab-length formed.marks suits size

  pub write-shows : shown (sheet_in (flat_over s c)) ≡ shown s
  unfolding view
  write-shows =
      ap shown read-back
      ∙ (λ i.
      record {
        picture =
            record {
              w = s.sheet.w;
              h = s.sheet.h;
              k = s.sheet.k;
              indices = s.sheet.indices;
              colours = take (3 * s.sheet.k) s.sheet.palette;
              labs = labs i;
            };
        locks = take s.sheet.k s.locks;
      })

  checks : first_of (document_checks (sheet_in (flat_over s c))) ≡ 0
  unfolding sheet_checks limit_checks index_checks lab_checks
  checks =
      let n : length (lab_in (flat_over s c)) ≡ length s.sheet.lab = length-read 8 double_from (flat_over s c) 771 765 ∙ sym formed.formed.limits.lab-length in
      ap (λ (d : Document). first_of (document_checks d)) read-back ∙ rw (n, labs) (sheet-passes s g.passes).1

  typed-lab : some (λ (v : Float). not (fits binary64 v)) (lab_in (flat_over s c)) ≡ false
  typed-lab = read_none 8 double_from (λ (v : Float). not (fits binary64 v)) (λ bytes. double (fits binary64 (double_from bytes)) (of_bits-fits binary64 (unle bytes))) 771 765 (flat_over s c)

  typed-palette : some (leb 256) (sheet_in (flat_over s c)).sheet.palette ≡ false
  typed-palette = ap (λ (d : Document). some (leb 256) d.sheet.palette) read-back ∙ g.typed.palette

  pub write-formed : WellFormedIn flat_editing (sheet_in (flat_over s c))
  unfolding sheet_in
  write-formed =
      record {
        typed = record { palette = typed-palette; lab = typed-lab };
        passes = rw (ap is_large write-shows, checks) (ap (λ (n : ℕ). or_else n 0) (large-passes s (sheet-passes s g.passes).0));
      }

pub faithful : Faithful flat_editing flat_coding
faithful =
    record {
      Alike = Alike;
      alike-painted = λ p x. (sym (next-width (lab_by srgb) p.picture (given_by x).edit (given_by x).changes), sym (next-height (lab_by srgb) p.picture (given_by x).edit (given_by x).changes));
      alike-back = λ p q a. (sym a.0, sym a.1);
      write-fit = write-fit;
      write-formed = write-formed;
      write-shows = write-shows;
    }
