-- The parts of a record without a list, written one behind the other, are the record in front of what was there. Assumes nothing.
use Prim.Native.Nat.{ℕ, ◌+◌, ◌≤◌}
use mathlib.Core.Path.{◌≡◌, refl, ap, ◌∙◌}
use mathlib.Core.Bool.{Bool}
use mathlib.Core.List.{List, [], ◌∷◌, ◌++◌, append_assoc}
use lib.ListN.{length, length-append}
use Rattle.base.specs.declared.Form.{Form}
use Rattle.base.specs.declared.Rgb.{Rgb}
use Rattle.base.specs.declared.Lab.{Lab}
use Rattle.base.specs.Lists.{over}
use Rattle.base.specs.declared.Edit.TheVariants.{PaletteSet, PaletteAdd, PaletteLock}
use Rattle.edit.specs.Storage.{bytes_of}
use Rattle.journal_record.specs.Bytes.{le, splice}
use Rattle.journal_record.specs.Record.{double_bytes, lab_bytes, mark_byte, body_of, record_length, record_of}
use Rattle.journal_record.proofs.LittleEndian.{length-le}
use Rattle.journal_write.proofs.Lengths.{length-lab}
use Rattle.journal_record.proofs.Splice.{over-then, splice-then}

module _ (part : List ℕ) where
  pub lab-written : (p₁ p₂ p₃ : List ℕ) (at : ℕ) (x : Lab) → at ≤ length part → p₁ ≡ splice part at (double_bytes x.l) → p₂ ≡ splice p₁ (at + 8) (double_bytes x.a)
      → p₃ ≡ splice p₂ (at + 16) (double_bytes x.b) → p₃ ≡ splice part at (lab_bytes x)
  unfolding lab_bytes
  lab-written p₁ p₂ p₃ at x h e₁ e₂ e₃ =
      let l : List ℕ = double_bytes x.l in
      let a : List ℕ = double_bytes x.a in
      let b : List ℕ = double_bytes x.b in
      let s₂ : p₂ ≡ splice part at (l ++ a) = splice-then part p₁ p₂ l a at (at + 8) h (rw length-le) e₁ e₂ in
      splice-then part p₂ p₃ (l ++ a) b at (at + 16) h (simp (length-append, length-le)) s₂ e₃ ∙ ap (splice part at) (append_assoc l a b)

  pub add-written : (f : Form) (w : ℕ) (p₁ p₂ : List ℕ) (c : Rgb) → p₁ ≡ over (3 ∷ bytes_of c) part → p₂ ≡ splice p₁ 4 (le 4 8) → p₂ ≡ over (record_of f w (PaletteAdd c) []) part
  unfolding record_of body_of record_length
  add-written f w p₁ p₂ c e₁ e₂ = over-then (3 ∷ bytes_of c) (le 4 8) part p₁ p₂ 4 refl e₁ e₂

  pub set-written : (f : Form) (w : ℕ) (p₁ p₂ p₃ p₄ p₅ : List ℕ) (i : ℕ) (old new : Rgb) (lab : Lab) → p₁ ≡ over (2 ∷ i ∷ []) part → p₂ ≡ splice p₁ 2 (bytes_of old)
      → p₃ ≡ splice p₂ 5 (bytes_of new) → p₄ ≡ splice p₃ 8 (lab_bytes lab) → p₅ ≡ splice p₄ 32 (le 4 36) → p₅ ≡ over (record_of f w (PaletteSet i old new lab) []) part
  unfolding record_of body_of record_length
  set-written f w p₁ p₂ p₃ p₄ p₅ i old new lab e₁ e₂ e₃ e₄ e₅ =
      let front : List ℕ = 2 ∷ i ∷ bytes_of old ++ bytes_of new in
      let s₂ : p₂ ≡ over (2 ∷ i ∷ bytes_of old) part = over-then (2 ∷ i ∷ []) (bytes_of old) part p₁ p₂ 2 refl e₁ e₂ in
      let s₃ : p₃ ≡ over front part = over-then (2 ∷ i ∷ bytes_of old) (bytes_of new) part p₂ p₃ 5 refl s₂ e₃ in
      let s₄ : p₄ ≡ over (front ++ lab_bytes lab) part = over-then front (lab_bytes lab) part p₃ p₄ 8 refl s₃ e₄ in
      over-then (front ++ lab_bytes lab) (le 4 36) part p₄ p₅ 32 (rw length-lab) s₄ e₅

  pub lock-written : (f : Form) (w : ℕ) (p₁ p₂ p₃ : List ℕ) (i : ℕ) (old new : Bool) → p₁ ≡ over (5 ∷ i ∷ []) part → p₂ ≡ splice p₁ 2 (mark_byte old ∷ mark_byte new ∷ [])
      → p₃ ≡ splice p₂ 4 (le 4 8) → p₃ ≡ over (record_of f w (PaletteLock i old new) []) part
  unfolding record_of body_of record_length
  lock-written f w p₁ p₂ p₃ i old new e₁ e₂ e₃ =
      let marks : List ℕ = mark_byte old ∷ mark_byte new ∷ [] in
      over-then (5 ∷ i ∷ marks) (le 4 8) part p₂ p₃ 4 refl (over-then (5 ∷ i ∷ []) marks part p₁ p₂ 2 refl e₁ e₂) e₃
