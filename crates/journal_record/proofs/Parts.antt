-- Numbers in a part of the journal are those of the journal: what `&journal[start..end]` holds at a place, the journal holds `start` further on.
-- Assumes nothing.
use Prim.Native.Nat.{ℕ, zero, suc, ◌+◌, ◌*◌, ◌≤◌, ◌<◌}
use mathlib.Core.Path.{◌≡◌, refl, ◌∙◌}
use mathlib.Core.List.{List}
use native.Mathlib.Nat.{add_assoc}
use native.Mathlib.Omega.{arith}
use lib.ListN.{get_or, take, drop}
use lib.Seq.{drop-drop, get_or-take, get_or-drop}
use Rattle.base.specs.declared.Form.{Form}
use Rattle.base.specs.declared.Form.TheVariants.{Coordinates, Places}
use Rattle.journal_record.specs.Bytes.{le_at}
use Rattle.journal_record.specs.Record.{stride, rgb_in, double_in, lab_in, mark_in, change_in, changes_in}
use Rattle.journal_record.proofs.LittleEndian.{le_at-take}
use Rattle.journal_record.proofs.Strides.{first_fits, rest-fits}

module _ (journal : List ℕ) (start size : ℕ) where
  abbrev pub part : List ℕ
  part = take size (drop start journal)

  pub byte-part : (at : ℕ) → at < size → get_or part at 0 ≡ get_or journal (start + at) 0
  byte-part at h = rw (get_or-take, get_or-drop)

  pub mark-part : (at : ℕ) → at < size → mark_in part at ≡ mark_in journal (start + at)
  mark-part at h = rw (byte-part at h)

  pub le_at-part : (k at : ℕ) → at + k ≤ size → le_at k part at ≡ le_at k journal (start + at)
  unfolding le_at
  le_at-part k at h = le_at-take k (drop start journal) size at h ∙ rw drop-drop

  pub rgb-part : (at : ℕ) → at + 3 ≤ size → rgb_in part at ≡ rgb_in journal (start + at)
  unfolding rgb_in
  rgb-part at h =
      rw (byte-part at (omega arith), byte-part (at + 1) (omega arith), byte-part (at + 2) (omega arith), add_assoc start at 1, add_assoc start at 2)

  pub lab-part : (at : ℕ) → at + 24 ≤ size → lab_in part at ≡ lab_in journal (start + at)
  unfolding lab_in double_in
  lab-part at h =
      rw (
        le_at-part 8 at (omega arith),
        le_at-part 8 (at + 8) (omega arith),
        le_at-part 8 (at + 16) (omega arith),
        add_assoc start at 8,
        add_assoc start at 16,
      )

  change-part : (f : Form) (w at : ℕ) → at + stride f ≤ size → change_in f w part at ≡ change_in f w journal (start + at)
  unfolding change_in
  change-part Coordinates w at h = rw (le_at-part 8 at h)
  change-part Places w at h =
      rw (
        le_at-part 3 at (omega arith),
        le_at-part 2 (at + 3) (omega arith),
        le_at-part 2 (at + 5) (omega arith),
        add_assoc start at 3,
        add_assoc start at 5,
      )

  pub changes-part : (f : Form) (w n at : ℕ) → at + stride f * n ≤ size → changes_in f w part at n ≡ changes_in f w journal (start + at) n
  unfolding changes_in
  changes-part f w zero at h = refl
  changes-part f w (suc n) at h =
      let first : at + stride f ≤ size = first_fits f at n size h in
      let rest : at + stride f + stride f * n ≤ size = rest-fits f at n size h in
      rw (change-part f w at first, changes-part f w n (at + stride f) rest, add_assoc start at (stride f))
