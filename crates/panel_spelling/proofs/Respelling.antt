-- A line read into buffers that suffice, and written from them, is what the definition says of it. Assumes nothing.
use mathlib.Core.Path.{◌≡◌, refl, sym, ap, ◌∙◌}
use mathlib.Core.Bool.{Bool, true, false}
use mathlib.Core.List.{List, [], ◌++◌}
use Prim.Native.Nat.{ℕ, ◌+◌, ◌*◌, ◌≤◌}
use native.Mathlib.Nat.{mul-le-mul}
use native.Mathlib.Omega.{arith}
use borrow.Author.Tests.{ltb-true, eq-eqb}
use lib.Dec.{ltb}
use lib.IntN.{ℤ}
use lib.Ieee.{Float}
use lib.ListN.{length, take}
use Rattle.base.specs.Checks.{Check, or_else, first_of, refused_or}
use Rattle.base.specs.Answer.{Told, Size, size}
use Rattle.base.specs.Answer.Told.{result, alone}
use Rattle.base.proofs.First.{first-append, first_past}
use Rattle.base.proofs.Told.{alone-other, same_number}
use Rattle.sheet.specs.Sheet.{Sheet}
use Rattle.sheet.specs.Checks.{limit_checks, index_checks}
use Rattle.panel_frames.specs.declared.Frame.{Frame}
use Rattle.panel_frames.specs.declared.Frame.TheVariants.{Open, Pixels, Set, Add, Merge, Undo, Redo, Mark, Malformed}
use Rattle.panel_frames.specs.Opening.{open_sheet, side_checks, open_checks, sheet_in}
use Rattle.panel_frames.specs.Reading.{frame_of}
use Rattle.panel_frames.specs.Writing.{number_line}
use Rattle.panel_spell.specs.Spelling.{open_line, spelt}
use Rattle.panel_read.specs.ReadSheet.{storage_checks, taken_of, line_read}
use Rattle.panel_spelling.specs.Library.{spelt_as, respelt, OneCase}
use Rattle.panel_spelling.proofs.Accepted.{opened, passed, Taken, taken}
use Rattle.panel_spelling.proofs.Canonical.{opening, same-colours, same-indices, again}

-- ---- storage of the right lengths refuses nothing
storage-fine : (palette : List ℕ) (lab : List Float) → length palette ≡ 765 → length lab ≡ 765 → first_of (storage_checks palette lab) ≡ 0
unfolding storage_checks first_of
storage-fine palette lab p l = rw (eq-eqb (length palette) 765 p, eq-eqb (length lab) 765 l)

no_more : (more : List Check) (s : Sheet) → first_of more ≡ 0 → first_of (open_checks more s) ≡ first_of (open_checks [] s)
unfolding open_checks
no_more more s e =
    first-append (side_checks s) (limit_checks s ++ (more ++ index_checks s))
    ∙ ap (or_else (first_of (side_checks s)))
    (first-append (limit_checks s) (more ++ index_checks s)
    ∙ ap (or_else (first_of (limit_checks s))) (first_past more (index_checks s) e)
    ∙ sym (first-append (limit_checks s) (index_checks s)))
    ∙ sym (first-append (side_checks s) (limit_checks s ++ index_checks s))

sheet-same : (more : List Check) (f : Frame) (bs : List ℕ) → first_of more ≡ 0 → sheet_in more f bs ≡ sheet_in [] f bs
unfolding sheet_in
sheet-same more (Open w h k) bs e = ap (λ (n : ℕ). refused_or n alone (result (open_sheet w h k bs))) (no_more more (open_sheet w h k bs) e)
sheet-same more (Pixels tool n) bs e = refl
sheet-same more (Set i c) bs e = refl
sheet-same more (Add c) bs e = refl
sheet-same more (Merge from into) bs e = refl
sheet-same more Undo bs e = refl
sheet-same more Redo bs e = refl
sheet-same more Mark bs e = refl
sheet-same more Malformed bs e = refl

module _ (line palette : List ℕ) (lab : List Float) (indices : List ℤ) (p : length palette ≡ 765) (l : length lab ≡ 765) (enough : 4096 ≤ length indices) where
  abbrev lent : List Check
  lent = storage_checks palette lab

  abbrev judged : Told Sheet
  judged = sheet_in lent (frame_of line).frame (frame_of line).bytes

  is-respelt : respelt line ≡ spelt_as judged
  unfolding respelt
  is-respelt = ap spelt_as (sym (sheet-same lent (frame_of line).frame (frame_of line).bytes (storage-fine palette lab p l)))

  -- ---- refused: the number
  -- of 64 by 64 places there is always room
  with-room : (s : Sheet) (n : ℕ) (b : Bool) → judged ≡ result s → ltb (length indices) (s.w * s.h) ≡ b → (taken_of (result s) palette lab indices).answer ≡ alone n → spelt s ≡ number_line n
  unfolding taken_of first_of refused_or
  with-room s n true q r e =
      let c = passed palette lab s (opened lent (frame_of line).frame (frame_of line).bytes s q).checks in
      absurd (omega (arith, ltb-true (length indices) (s.w * s.h) r, mul-le-mul c.narrow c.low))
  with-room s n false q r e = absurd (alone-other (sym (rw r at e)))

  numbered : (t : Told Sheet) (n : ℕ) → judged ≡ t → (taken_of t palette lab indices).answer ≡ alone n → spelt_as t ≡ number_line n
  unfolding taken_of spelt_as
  numbered (alone m) n q e = ap number_line (same_number e)
  numbered (result s) n q e = with-room s n (ltb (length indices) (s.w * s.h)) q refl e

  pub respelt-number : (n : ℕ) → (line_read line palette lab indices).answer ≡ alone n → respelt line ≡ number_line n
  unfolding line_read
  respelt-number n e = is-respelt ∙ numbered judged n refl e

  -- ---- accepted: the sheet in the buffers, written
  pub record Accepted (w h k : ℕ) : Type 0 where
    pub narrow : w ≤ 64
    pub low : h ≤ 64
    pub few : k ≤ 255
    pub text :
        let r = line_read line palette lab indices in
        open_line w h k (take (3 * k) r.palette) (take (w * h) r.indices) ≡ respelt line

  by-taken : (z : Size) → Taken palette lab indices judged z → Accepted z.w z.h z.k
  unfolding line_read spelt_as spelt
  by-taken z a =
      let s = a.sheet in
      let o = opened lent (frame_of line).frame (frame_of line).bytes s a.is in
      let g = opening line s.w s.h s.k o.frame in
      let c = passed palette lab s o.checks in
      let bs = (frame_of line).bytes in
      rw (← a.sizes)
      (record {
        narrow = c.narrow;
        low = c.low;
        few = c.few;
        text =
            rw (a.leaves, same-colours line bs s g o.sheet palette lab indices c, same-indices line bs s g o.sheet palette lab indices c)
            (sym (is-respelt ∙ ap spelt_as a.is));
      })

  pub respelt-sheet : (w h k : ℕ) → (line_read line palette lab indices).answer ≡ result (size w h k) → Accepted w h k
  unfolding line_read
  respelt-sheet w h k e = by-taken (size w h k) (taken palette lab indices judged (size w h k) e)

-- ---- an accepted line comes out in upper case
pub one-case : OneCase
unfolding respelt spelt_as
one-case line s e =
    let o = opened [] (frame_of line).frame (frame_of line).bytes s e in
    ap spelt_as e ∙ again line (frame_of line).bytes s (opening line s.w s.h s.k o.frame) o.sheet
