-- A change that was read, written in the form that it was read in, is its bytes; and on the sheet its numbers fit those of a change.
-- Assumes nothing.
use Prim.Native.Nat.{ℕ, zero, suc, ◌+◌, ◌*◌, ◌/◌, ◌%◌, ◌^◌, ◌≤◌, ◌<◌}
use mathlib.Core.Path.{◌≡◌, ◌∙◌}
use mathlib.Core.Bool.{false}
use mathlib.Core.List.{List, flat_map}
use native.Mathlib.Nat.{add_assoc, div-add-mod', mul-zero}
use native.Mathlib.Omega.{arith}
use lib.ListN.{length, take, drop}
use lib.Seq.{take-add, drop-drop}
use mir.Syntax.{w16}
use mir.Val.{to_z, SFits}
use mir.Facts.{sfits_to_z}
use Rattle.base.specs.Lists.{some}
use Rattle.base.proofs.Scan.{or_left, or_right}
use Rattle.base.specs.declared.Form.{Form}
use Rattle.base.specs.declared.Form.TheVariants.{Coordinates, Places}
use Rattle.edit.specs.Change.{Change, unpacked, place, outside}
use Rattle.journal_record.specs.Bytes.{le_at}
use Rattle.journal_record.specs.Record.{change_bytes, stride, change_in, changes_in}
use Rattle.journal_record.proofs.Strides.{first_fits, rest-fits}
use Rattle.journal_write.specs.Fit.{FitChange, FitChanges}
use Rattle.journal_write.proofs.Changes.{signed, change-bytes}
use Rattle.journal_write.proofs.Placed.{column-on, row_on}
use Rattle.journal_raw.specs.Raw.{AllBytes}
use Rattle.journal_raw.proofs.AsBytes.{le-again, le_at-below}

sixteen : (n : ℕ) → n < 2 ^ 16 → SFits w16 (to_z w16 n)
sixteen n h = sfits_to_z {w = w16} (record { fits = h })

pub one_more : (f : Form) (n : ℕ) → stride f * suc n ≡ stride f + stride f * n
one_more Coordinates n = omega arith
one_more Places n = omega arith

module _ (w : ℕ) (s : List ℕ) (bytes : AllBytes s) where
  placed-again : (at : ℕ) → at + 7 ≤ length s → change_bytes Places w (change_in Places w s at) ≡ take 7 (drop at s)
  unfolding change_bytes place change_in
  placed-again at fits =
      rw (
        div-add-mod' (le_at 3 s at) w,
        signed (le_at 2 s (at + 3)) (le_at-below 2 s (at + 3) bytes (omega arith)),
        signed (le_at 2 s (at + 5)) (le_at-below 2 s (at + 5) bytes (omega arith)),
        le-again 3 s at bytes (omega arith),
        le-again 2 s (at + 3) bytes (omega arith),
        le-again 2 s (at + 5) bytes (omega arith),
        take-add 3 4 (drop at s),
        drop-drop 3 at s,
        take-add 2 2 (drop (at + 3) s),
        drop-drop 2 (at + 3) s,
        add_assoc at 3 2,
      )

  change-again : (f : Form) (at : ℕ) → at + stride f ≤ length s → change_bytes f w (change_in f w s at) ≡ take (stride f) (drop at s)
  unfolding change_in
  change-again Coordinates at fits = change-bytes w (le_at 8 s at) ∙ le-again 8 s at bytes fits
  change-again Places at fits = placed-again at fits

  pub changes-again : (f : Form) (n at : ℕ) → at + stride f * n ≤ length s
      → flat_map (change_bytes f w) (changes_in f w s at n) ≡ take (stride f * n) (drop at s)
  unfolding changes_in flat_map
  changes-again f zero at fits = rw (mul-zero (stride f))
  changes-again f (suc n) at fits =
      let here : at + stride f ≤ length s = first_fits f at n (length s) fits in
      let rest : at + stride f + stride f * n ≤ length s = rest-fits f at n (length s) fits in
      rw (
        change-again f at here,
        changes-again f n (at + stride f) rest,
        one_more f n,
        take-add (stride f) (stride f * n) (drop at s),
        drop-drop (stride f) at s,
      )

  -- column and row are the sheet's, old and new of 16 bits
  fit-change : (h : ℕ) → w ≤ 1024 → h ≤ 1024 → (f : Form) (at : ℕ) → at + stride f ≤ length s → outside w h (change_in f w s at) ≡ false → FitChange (change_in f w s at)
  unfolding change_in unpacked
  fit-change h small low Coordinates at fits on =
      let v : ℕ = le_at 8 s at in
      record {
        x_fits = omega (arith, column-on w h _ on);
        y-fits = omega (arith, row_on w h _ on);
        old-fits = sixteen (v / 2 ^ 32 % 2 ^ 16) (omega arith);
        new-fits = sixteen (v / 2 ^ 48 % 2 ^ 16) (omega arith);
      }
  fit-change h small low Places at fits on =
      record {
        x_fits = omega (arith, column-on w h _ on);
        y-fits = omega (arith, row_on w h _ on);
        old-fits = sixteen (le_at 2 s (at + 3)) (le_at-below 2 s (at + 3) bytes (omega arith));
        new-fits = sixteen (le_at 2 s (at + 5)) (le_at-below 2 s (at + 5) bytes (omega arith));
      }

  pub fit-changes : (h : ℕ) → w ≤ 1024 → h ≤ 1024 → (f : Form) (n at : ℕ) → at + stride f * n ≤ length s → some (outside w h) (changes_in f w s at n) ≡ false → FitChanges (changes_in f w s at n)
  unfolding changes_in some FitChanges
  fit-changes h small low f zero at fits on = tt
  fit-changes h small low f (suc n) at fits on =
      let c : Change = change_in f w s at in (
        fit-change h small low f at (first_fits f at n (length s) fits) (or_left (outside w h c) _ on),
        fit-changes h small low f n (at + stride f) (rest-fits f at n (length s) fits) (or_right (outside w h c) _ on),
      )
