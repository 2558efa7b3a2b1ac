-- Reading the line of a sheet gives its parts back. Assumes nothing.
use mathlib.Core.Path.{◌≡◌, refl, sym, ap, ◌∙◌}
use mathlib.Core.List.{List}
use Prim.Native.Nat.{ℕ, ◌*◌, ◌≤◌}
use native.Mathlib.Omega.{arith}
use lib.IntN.{ℤ}
use lib.Ieee.{Float}
use lib.ListN.{length}
use Rattle.base.specs.Answer.{size}
use Rattle.base.specs.Answer.Told.{result}
use Rattle.base.specs.Lists.{over}
use Rattle.sheet.specs.Sheet.{Sheet}
use Rattle.sheet.specs.Document.{labs_of}
use Rattle.panel_frames.specs.Opening.{colours_of, open_sheet, opened_or, sheet_in}
use Rattle.panel_frames.specs.Reading.{frame_of}
use Rattle.panel_spell.specs.Spelling.{open_line, spelt}
use Rattle.panel_read.specs.ReadSheet.{storage_checks, reading, taken_of, line_read, read_of}
use Rattle.panel_read.proofs.Bare.{bare-again}
use Rattle.panel_read.proofs.Judging.{openable}
use Rattle.panel_read.proofs.Taking.{read_done}
use Rattle.panel_spelling.specs.OneSpelling.{Spelled, ReadBack}
use Rattle.panel_spelling.proofs.Frames.{digits_of, Reads, reads-back}

module _ (s : Sheet) (q : Spelled s) (palette : List ℕ) (lab : List Float) (indices : List ℤ) (p : length palette ≡ 765) (l : length lab ≡ 765) (room : s.w * s.h ≤ length indices) where
  abbrev bs : List ℕ
  bs = (frame_of (digits_of s)).bytes

  r : Reads s (digits_of s)
  r = reads-back s q

  by-frame : line_read (digits_of s) palette lab indices ≡ taken_of (opened_or (storage_checks palette lab) (open_sheet s.w s.h s.k bs)) palette lab indices
  unfolding line_read sheet_in
  by-frame = rw r.frame

  taken : line_read (digits_of s) palette lab indices
      ≡ reading (result (size s.w s.h s.k)) (over (colours_of s) palette) (over (labs_of (colours_of s)) lab) (over s.indices indices)
  taken =
      let f = q.small in
      let n = r.long in
      let j = openable s.w s.h s.k bs palette lab f.narrow f.low f.fits.limits.k-small (omega arith) p l (rw r.indices f.fits.in-range) in
      by-frame
      ∙ sym (read_done s.w s.h s.k bs palette lab indices 0 j refl (omega arith) room _ _ _
      (ap (λ (c : List ℕ). over c palette) (sym r.colours))
      (ap (λ (c : List ℕ). over (labs_of c) lab) (sym r.colours))
      (ap (λ (i : List ℤ). over i indices) (sym r.indices)))

pub read-back : ReadBack
unfolding read_of spelt open_line
read-back s q palette lab indices p l room = rw (bare-again (digits_of s)) (taken s q palette lab indices p l room)
