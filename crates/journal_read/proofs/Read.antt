-- A loop that reads the i-th of n changes from bytes: it has room, and is change i of their list. Assumes nothing.
use mathlib.Core.Path.{◌≡◌, ap, ◌∙◌}
use mathlib.Core.List.{List}
use Prim.Native.Nat.{ℕ, zero, suc, ◌+◌, ◌*◌, ◌<◌, ◌≤◌}
use native.Mathlib.Nat.{not-suc-le-zero, le_of_suc-le-suc}
use native.Mathlib.Omega.{arith}
use lib.ListN.{length, get_or}
use Rattle.base.proofs.Scan.{drop-next}
use Rattle.base.specs.declared.Form.{Form}
use Rattle.edit.specs.Change.{Change, unpacked}
use Rattle.edit_pixels.proofs.Nth.{Nth}
use Rattle.journal_record.specs.Record.{stride, change_in, changes_in}
use Rattle.journal_record.proofs.Finding.{length-in}
use Rattle.journal_record.proofs.Strides.{next-change}
use Rattle.journal_read.specs.Number.{change_of}

module _ (f : Form) (w : ℕ) (bytes : List ℕ) where
  -- the i-th stands i changes further on
  in-at : (at n i : ℕ) (d : Change) → i < n → get_or (changes_in f w bytes at n) i d ≡ change_in f w bytes (at + stride f * i)
  unfolding changes_in
  in-at at zero i d h = absurd (not-suc-le-zero h)
  in-at at (suc n) zero d h = let e : at ≡ at + stride f * 0 = omega arith in ap (change_in f w bytes) e
  in-at at (suc n) (suc i) d h = in-at (at + stride f) n i d (le_of_suc-le-suc h) ∙ ap (change_in f w bytes) (next-change f at i)

  module _ (at n i : ℕ) where
    pub nth_read : (c : ℕ) → i < n → ((v : ℕ) → change_of f v c ≡ change_in f v bytes (at + stride f * i)) → Nth (changes_in f w bytes at n) i (change_of f w c)
    nth_read c h q =
        record { left = drop-next (changes_in f w bytes at n) i (unpacked 0) (rw length-in h) ∙ rw (in-at at n i (unpacked 0) h, ← q w) }

    -- none is left
    pub all_read : n ≤ i → length (changes_in f w bytes at n) ≤ i
    all_read h = rw length-in h
