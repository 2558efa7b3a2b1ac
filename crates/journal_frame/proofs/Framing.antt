-- A record written around its changes is the whole record. Assumes nothing.
use Prim.Native.Nat.{ℕ, ◌+◌, ◌-◌, ◌*◌, ◌≤◌}
use mathlib.Core.Path.{◌≡◌, refl, sym, ap, ◌∙◌}
use mathlib.Core.List.{List, [], ◌∷◌, ◌++◌, flat_map, append_assoc}
use native.Mathlib.Omega.{arith}
use lib.ListN.{length, take, drop, length-append, length-drop}
use lib.Seq.{take_at, drop_at, length-take-le, drop-append_seam, drop-drop}
use Rattle.base.specs.declared.Form.{Form}
use Rattle.base.specs.declared.Rgb.{Rgb}
use Rattle.base.specs.declared.Lab.{Lab}
use Rattle.base.specs.Lists.{over}
use Rattle.base.specs.declared.Edit.{Edit}
use Rattle.base.specs.declared.Edit.TheVariants.{Pixels, PaletteSet, PaletteAdd, PaletteRemove, PaletteLock}
use Rattle.edit.specs.Change.{Change}
use Rattle.edit.specs.List.{list_of}
use Rattle.edit.specs.Storage.{bytes_of}
use Rattle.journal_record.specs.Bytes.{le, splice}
use Rattle.journal_record.specs.Record.{stride, pixels_kind, remove_kind, change_bytes, lab_bytes, list_bytes, body_of, record_length, record_of}
use Rattle.journal_write.specs.List.{within}
use Rattle.journal_frame.specs.Frame.{around}
use Rattle.journal_record.proofs.LittleEndian.{length-le}
use Rattle.journal_write.proofs.Changes.{length-changes}
use Rattle.journal_write.proofs.Lengths.{length-lab}
use Rattle.journal_record.proofs.Splice.{over-then}

module _ {A : Type 0} where
  behind : (x y : List A) (n : ℕ) → length x ≡ n → drop n (x ++ y) ≡ y
  behind x y n e = rw (← e) (drop-append_seam x y)

  -- a front over a list in which a run stands behind it already
  over-splice : (f g l : List A) (n : ℕ) → length f ≡ n → n ≤ length l → over f (splice l n g) ≡ over (f ++ g) l
  unfolding over splice
  over-splice f g l n e h =
      rw (e, behind (take n l) (g ++ drop (length g) (drop n l)) n (length-take-le n l h), length-append, e, drop-drop)
      (sym (append_assoc f g (drop (n + length g) l)))

  -- and a run behind both
  framed : (f g t l : List A) (n m : ℕ) → length f ≡ n → n ≤ length l → n + length g ≡ m → splice (over f (splice l n g)) m t ≡ over ((f ++ g) ++ t) l
  framed f g t l n m e h k = over-then (f ++ g) t l (over f (splice l n g)) _ m (length-append f g ∙ rw (e, k)) (over-splice f g l n e h) refl

-- ---- the whole record
pub around-within : (f : Form) (w : ℕ) (e : Edit) (cs : List Change) (n : ℕ) (part : List ℕ) → length cs ≡ n → record_length f e n ≤ length part
    → around f e n (within f w (list_of e) cs part) ≡ over (record_of f w e cs) part
unfolding around within record_of body_of record_length list_bytes
around-within f w (Pixels tool) cs n part q h =
    framed (pixels_kind f ∷ tool ∷ le 4 n) (flat_map (change_bytes f w) cs) (le 4 (10 + stride f * n)) part 6 (6 + stride f * n) (rw length-le) (omega arith) (rw (length-changes, q))
    ∙ rw q
around-within f w (PaletteSet i old new lab) cs n part q h = refl
around-within f w (PaletteAdd c) cs n part q h = refl
around-within f w (PaletteRemove i c lab) cs n part q h =
    framed (remove_kind f ∷ i ∷ bytes_of c ++ (lab_bytes lab ++ le 4 n)) (flat_map (change_bytes f w) cs) (le 4 (37 + stride f * n)) part 33 (33 + stride f * n) (simp (length-append, length-lab, length-le)) (omega arith) (rw (length-changes, q))
    ∙ rw (q, append_assoc (lab_bytes lab) (le 4 n) (flat_map (change_bytes f w) cs))
around-within f w (PaletteLock i old new) cs n part q h = refl

-- in a journal, from an offset on
pub whole-record : (f : Form) (w : ℕ) (e : Edit) (cs : List Change) (n offset : ℕ) (journal after : List ℕ) → length cs ≡ n → offset + record_length f e n ≤ length journal
    → after ≡ take offset journal ++ within f w (list_of e) cs (drop offset journal)
    → take offset after ++ around f e n (drop offset after) ≡ take offset journal ++ over (record_of f w e cs) (drop offset journal)
whole-record f w e cs n offset journal after q h k =
    let front : length (take offset journal) ≡ offset = length-take-le offset journal (omega arith) in
    let part : length (drop offset journal) ≡ length journal - offset = length-drop offset journal in
    rw (
      k,
      take_at (take offset journal) (within f w (list_of e) cs (drop offset journal)) offset front,
      drop_at (take offset journal) (within f w (list_of e) cs (drop offset journal)) offset front,
      around-within f w e cs n (drop offset journal) q (omega (arith, h, part)),
    )

-- ---- the writers
module _ (f : Form) (part : List ℕ) where
  pub pixels-around : (p₁ p₂ p₃ : List ℕ) (tool n : ℕ) → p₁ ≡ over (pixels_kind f ∷ tool ∷ []) part → p₂ ≡ splice p₁ 2 (le 4 n) → p₃ ≡ splice p₂ (6 + stride f * n) (le 4 (10 + stride f * n))
      → p₃ ≡ around f (Pixels tool) n part
  unfolding around
  pixels-around p₁ p₂ p₃ tool n e₁ e₂ e₃ = e₃ ∙ ap (λ (p : List ℕ). splice p (6 + stride f * n) (le 4 (10 + stride f * n))) (over-then (pixels_kind f ∷ tool ∷ []) (le 4 n) part p₁ p₂ 2 refl e₁ e₂)

  pub remove-around : (p₁ p₂ p₃ p₄ p₅ : List ℕ) (i : ℕ) (c : Rgb) (lab : Lab) (n : ℕ) → p₁ ≡ over (remove_kind f ∷ i ∷ []) part → p₂ ≡ splice p₁ 2 (bytes_of c)
      → p₃ ≡ splice p₂ 5 (lab_bytes lab) → p₄ ≡ splice p₃ 29 (le 4 n) → p₅ ≡ splice p₄ (33 + stride f * n) (le 4 (37 + stride f * n)) → p₅ ≡ around f (PaletteRemove i c lab) n part
  unfolding around
  remove-around p₁ p₂ p₃ p₄ p₅ i c lab n e₁ e₂ e₃ e₄ e₅ =
      let s₂ : p₂ ≡ over (remove_kind f ∷ i ∷ bytes_of c) part = over-then (remove_kind f ∷ i ∷ []) (bytes_of c) part p₁ p₂ 2 refl e₁ e₂ in
      let s₃ : p₃ ≡ over (remove_kind f ∷ i ∷ bytes_of c ++ lab_bytes lab) part = over-then (remove_kind f ∷ i ∷ bytes_of c) (lab_bytes lab) part p₂ p₃ 5 refl s₂ e₃ in
      let s₄ : p₄ ≡ over (remove_kind f ∷ i ∷ bytes_of c ++ (lab_bytes lab ++ le 4 n)) part = over-then (remove_kind f ∷ i ∷ bytes_of c ++ lab_bytes lab) (le 4 n) part p₃ p₄ 29 (rw length-lab) s₃ e₄ in
      e₅ ∙ ap (λ (p : List ℕ). splice p (33 + stride f * n) (le 4 (37 + stride f * n))) s₄
