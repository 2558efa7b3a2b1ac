-- What the loop that writes leaves: the changes' bytes in the record that starts at the offset. Assumes nothing.
use mathlib.Core.Path.{◌≡◌, refl, sym, ap, ◌∙◌}
use mathlib.Core.List.{List, [], ◌∷◌, ◌++◌, map, flat_map, append_assoc}
use Prim.Native.Nat.{ℕ, zero, suc, ◌+◌, ◌-◌, ◌*◌, ◌<◌, ◌≤◌}
use native.Mathlib.Nat.{add_assoc, le_of_suc-le-suc, not-suc-le-zero}
use native.Mathlib.Omega.{arith}
use lib.IntN.{ℤ}
use lib.ListN.{length, get_or, take, drop, length-map, take-append-drop}
use lib.Seq.{take-suc, take_all, take-add, drop-drop, length-take-le}
use Rattle.base.specs.Lists.{over}
use Rattle.base.specs.declared.Form.{Form}
use Rattle.base.proofs.Collect.{flat_map-append, flat_map-one}
use Rattle.edit.specs.declared.ListKind.{ListKind}
use Rattle.edit.specs.declared.ListKind.TheVariants.{NoList, PixelList, RemapList}
use Rattle.edit.specs.Change as flat
use Rattle.edit.specs.Change.{filled_in}
use Rattle.edit.specs.List.{filled_list}
use Rattle.journal_record.specs.Bytes.{splice}
use Rattle.journal_write.specs.List.{within, Puttable}
use Rattle.journal_record.specs.Record.{stride, change_bytes}
use Rattle.journal_write.proofs.Changes.{length-changes}
use Rattle.journal_record.proofs.Splice.{splice-none, splice-then}
use Rattle.base.specs.declared.Change.{Change}
use Rattle.struct_edit.specs.Walk.{flat_of, flat_all, none, put_one, put_upto}
use Rattle.struct_edit.proofs.Told.{told-length, told_at}

-- a run that is written from `a` of the part on that starts at `o`
from-part : {A : Type 0} (l v : List A) (o a : ℕ) → splice l (o + a) v ≡ take o l ++ splice (drop o l) a v
unfolding splice over
from-part l v o a = rw (take-add o a l, drop-drop a o l) (append_assoc (take o l) (take a (drop o l)) (v ++ drop (length v) (drop (o + a) l)))

-- changes written one behind the other
module _ (f : Form) (w : ℕ) (l : List ℕ) (at : ℕ) (cs : List flat.Change) (room : at ≤ length l) where
  next : (d : flat.Change) (i : ℕ) (s : List ℕ) → i < length cs → s ≡ splice l at (flat_map (change_bytes f w) (take i cs))
      → splice s (at + stride f * i) (change_bytes f w (get_or cs i d)) ≡ splice l at (flat_map (change_bytes f w) (take (suc i) cs))
  next d i s h e =
      let first : List ℕ = flat_map (change_bytes f w) (take i cs) in
      let start : at + length first ≡ at + stride f * i = rw (length-changes, length-take-le i cs (omega arith)) in
      splice-then l s _ first (change_bytes f w (get_or cs i d)) at (at + stride f * i) room start e refl
      ∙ ap (splice l at) (rw (take-suc cs i d h, flat_map-append, flat_map-one))

module _ (f : Form) (offset w : ℕ) (indices : List ℤ) (list : List Change) (journal : List ℕ) where
  abbrev fill : flat.Change → flat.Change
  fill = filled_in w indices

  filled_at : (l : List Change) (i : ℕ) → i < length l → get_or (map fill (flat_all l)) i (fill (flat_of none)) ≡ fill (flat_of (get_or l i none))
  filled_at [] i h = absurd (not-suc-le-zero h)
  filled_at (c ∷ l) zero h = refl
  filled_at (c ∷ l) (suc i) h = filled_at l i (le_of_suc-le-suc h)

  filled-length : length (map fill (flat_all list)) ≡ length list
  filled-length = rw length-map (told-length list)

  pixels-upto : offset + 6 ≤ length journal → (i : ℕ) → i ≤ length list
      → put_upto f PixelList offset w indices list journal i ≡ splice journal (offset + 6) (flat_map (change_bytes f w) (take i (map fill (flat_all list))))
  unfolding put_one flat_map
  pixels-upto room zero h = splice-none journal (offset + 6)
  pixels-upto room (suc i) h =
      rw (← add_assoc offset 6 (stride f * i), ← filled_at list i h)
      (next f w journal (offset + 6) (map fill (flat_all list)) room (fill (flat_of none)) i _ (rw filled-length h) (pixels-upto room i (omega arith)))

  remap-upto : (j : ℕ) → offset + 33 ≤ length journal → (i : ℕ) → i ≤ length list
      → put_upto f (RemapList j) offset w indices list journal i ≡ splice journal (offset + 33) (flat_map (change_bytes f w) (take i (flat_all list)))
  unfolding put_one flat_map
  remap-upto j room zero h = splice-none journal (offset + 33)
  remap-upto j room (suc i) h =
      rw (← add_assoc offset 33 (stride f * i), ← told_at list i (flat_of none) h)
      (next f w journal (offset + 33) (flat_all list) room (flat_of none) i _ (rw (told-length list) h) (remap-upto j room i (omega arith)))

  none-upto : (i : ℕ) → put_upto f NoList offset w indices list journal i ≡ journal
  unfolding put_one
  none-upto zero = refl
  none-upto (suc i) = none-upto i

  some-pixels : (l : List Change) → list ≡ l → Puttable f PixelList w (length indices) (length journal - offset) (flat_all list)
      → put_upto f PixelList offset w indices list journal (length list) ≡ take offset journal ++ splice (drop offset journal) 6 (flat_map (change_bytes f w) (map fill (flat_all list)))
  unfolding Puttable flat_map
  some-pixels [] e p = rw e (splice-none journal (offset + 6) ∙ from-part journal [] offset 6)
  some-pixels (c ∷ l) e p =
      let long : 0 < length list = rw e (omega arith) in
      pixels-upto (omega (arith, p.0 (rw (told-length list) long))) (length list) (omega arith)
      ∙ rw (take_all (length list) (map fill (flat_all list)) (omega (arith, filled-length)))
      (from-part journal (flat_map (change_bytes f w) (map fill (flat_all list))) offset 6)

  -- the changes stand in the record
  pub put_all : (l : ListKind) → Puttable f l w (length indices) (length journal - offset) (flat_all list)
      → put_upto f l offset w indices list journal (length list) ≡ take offset journal ++ within f w l (filled_list l w indices (flat_all list)) (drop offset journal)
  unfolding Puttable within filled_list
  put_all NoList p = none-upto (length list) ∙ sym (take-append-drop offset journal)
  put_all PixelList p = some-pixels list refl p
  put_all (RemapList j) p =
      remap-upto j (omega (arith, p)) (length list) (omega arith)
      ∙ rw (take_all (length list) (flat_all list) (omega (arith, told-length list)))
      (from-part journal (flat_map (change_bytes f w) (flat_all list)) offset 33)
