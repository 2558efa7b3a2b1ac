-- What `read_sheet` answers of an opening that was judged, and what it leaves. Assumes nothing.
use mathlib.Core.Path.{◌≡◌, refl, sym, ◌∙◌}
use mathlib.Core.List.{List}
use Prim.Native.Nat.{ℕ, zero, suc, ◌+◌, ◌*◌, ◌≤◌, ◌<◌}
use native.Mathlib.Omega.{arith}
use borrow.Author.Tests.{lt-ltb, le-ltb}
use lib.Ieee.{Float}
use lib.IntN.{ℤ}
use lib.ListN.{length, length-take, length-drop}
use lib.Seq.{take_at}
use Rattle.base.specs.Checks.{Check, first_of, refused_or}
use Rattle.base.specs.Answer.{Told, size}
use Rattle.base.specs.Answer.Told.{result, alone}
use Rattle.base.specs.Lists.{over}
use Rattle.sheet.specs.Sheet.{Sheet}
use Rattle.sheet.specs.Document.{labs_of}
use Rattle.panel_frames.specs.Reading.{told, frame_of, palette_in, indices_in}
use Rattle.panel_frames.specs.Opening.{colours_of, open_sheet, opened_or, sheet_in}
use Rattle.panel_frames.specs.declared.Frame.{Frame}
use Rattle.panel_frames.proofs.Opens.{sheet-take}
use Rattle.panel_read.specs.ReadSheet.{storage_checks, reading, taken_of, line_read, Openable}

-- the colours of an opening's sheet are its palette's
pub colours-in : (w h k : ℕ) (bs : List ℕ) → 6 + 3 * k ≤ length bs → colours_of (open_sheet w h k bs) ≡ palette_in k bs
unfolding open_sheet over
colours-in w h k bs room = take_at (palette_in k bs) _ (3 * k) (simp (length-take, length-drop) (omega arith))

-- ---- the answer
module _ (w h k : ℕ) (bs palette : List ℕ) (lab : List Float) (indices : List ℤ) where
  abbrev judged : Told Sheet
  judged = opened_or (storage_checks palette lab) (open_sheet w h k bs)

  pub read-refused : (n : ℕ) → Openable w h k bs palette lab n → (n ≡ 0 → ⊥) → reading (alone n) palette lab indices ≡ taken_of judged palette lab indices
  unfolding refused_or taken_of
  read-refused zero j nz = absurd (nz refl)
  read-refused (suc n) j nz = rw (← j.value)

  module _ (n : ℕ) (j : Openable w h k bs palette lab n) (z : n ≡ 0) where
    is-opened : judged ≡ result (open_sheet w h k bs)
    unfolding refused_or
    is-opened = let e : first_of _ ≡ 0 = sym j.value ∙ z in rw e

    pub read_short : length indices < w * h → reading (alone 16) palette lab indices ≡ taken_of judged palette lab indices
    unfolding taken_of open_sheet refused_or first_of
    read_short short = rw (is-opened, lt-ltb (length indices) (w * h) short)

    pub read_done : 6 + 3 * k ≤ length bs → w * h ≤ length indices → (palette' : List ℕ) (lab' : List Float) (indices' : List ℤ)
        → palette' ≡ over (palette_in k bs) palette → lab' ≡ over (labs_of (palette_in k bs)) lab → indices' ≡ over (indices_in w h k bs) indices
        → reading (result (size w h k)) palette' lab' indices' ≡ taken_of judged palette lab indices
    unfolding taken_of open_sheet refused_or first_of
    read_done room enough palette' lab' indices' p l i =
        rw (is-opened, le-ltb (length indices) (w * h) enough, colours-in w h k bs room, p, l, i)

-- ---- a frame, and a line
module _ (palette : List ℕ) (lab : List Float) (indices : List ℤ) where
  abbrev lent : List Check
  lent = storage_checks palette lab

  pub read-other : (f : Frame) (bs : List ℕ) → sheet_in lent f bs ≡ alone 22 → reading (alone 22) palette lab indices ≡ taken_of (sheet_in lent f bs) palette lab indices
  unfolding taken_of
  read-other f bs e = rw e

  pub line-by : (line : List ℕ) (f : Frame) (l : List ℕ) → told f l ≡ frame_of line → taken_of (sheet_in lent f l) palette lab indices ≡ line_read line palette lab indices
  unfolding line_read
  line-by line f l e = rw (← e, sheet-take lent f l)
