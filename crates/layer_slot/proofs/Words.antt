-- The words of slots are the pixels of the layers. Assumes nothing.
use mathlib.Core.Path.{◌≡◌, refl, sym, ap, ◌∙◌}
use mathlib.Core.Bool.{Bool, true, false}
use mathlib.Core.List.{List, ◌++◌, flat_map}
use Prim.Native.Nat.{ℕ, zero, suc, ◌+◌, ◌*◌, ◌-◌, ◌/◌, ◌<◌, ◌≤◌}
use native.Mathlib.Omega.{arith}
use borrow.Author.Tests.{leb-false}
use borrow.Rule.Slice.PartMut.{put_mid}
use lib.IntN.{ℤ, pos, negsuc, nat_abs}
use lib.Signed.{lt_z}
use lib.ListN.{length, get_or, take, drop, replicate, length-replicate, get_or-replicate}
use Rattle.base.specs.Lists.{some, range, over}
use Rattle.base.proofs.Over.{length_over, over-lent}
use Rattle.base.proofs.Collect.{range-append, flat_map-append}
use Rattle.sheet.specs.Sheet.{stray}
use Rattle.journal_record.specs.Bytes.{le}
use Rattle.journal_record.proofs.LittleEndian.{length-le}
use Rattle.layer_shown.specs.Stack.{pixel_up_to, Stacked}
use Rattle.layer_shown.proofs.Pixels.{in_list, index-known}
use Rattle.layer_word.proofs.Painted.{Painted, flat-length}
use Rattle.layer_top.specs.Entry.{entry_bytes}
use Rattle.layer_top.proofs.Topmost.{seen_below, seen_here, entry-inside, entry-bytes}
use Rattle.layer_slot.specs.Slots.{slot_over, slot_up_to, Slotted, Table, word_at, place_word}
use Rattle.layer_slot.proofs.Slotting.{slot-below, slot-own, part-inside}

pub word-four : (table slots : List ℕ) (j : ℕ) → length (word_at table slots j) ≡ 4
unfolding word_at
word-four table slots j = length-le 4 (get_or table (get_or slots j 0) 0)

pub word-here : (table slots : List ℕ) (j at x : ℕ) → at ≡ get_or slots j 0 → x ≡ get_or table at 0 → le 4 x ≡ word_at table slots j
unfolding word_at
word-here table slots j at x p q = ap (le 4) (q ∙ ap (λ (s : ℕ). get_or table s 0) p)

-- ---- a slot's word is the pixel
over-small : (z : ℤ) (i below : ℕ) → stray 255 z ≡ false → below ≤ 255 * i → slot_over z (255 * i + 1) below ≤ 255 * suc i
unfolding slot_over stray
over-small (pos m) i below s h = omega (arith, leb-false 255 m s)
over-small (negsuc m) i below s h = omega arith

the-slot : (i m : ℕ) → m + (255 * i + 1) ≡ (255 * i + m) + 1
the-slot i m = omega arith

back_one : (i : ℕ) → suc i - 1 ≡ i
back_one i = omega arith

module _ (n count : ℕ) (indices : List ℤ) (long : length indices ≡ n * count) (known : some (stray 255) indices ≡ false) (p : ℕ) (inside : p < n) where
  place : (i : ℕ) → i < count → n * i + p < length indices
  place i h = omega (arith, long, part-inside n count i p 1 h (omega arith))

  read : (i : ℕ) → i < count → stray 255 (get_or indices (n * i + p) (pos 0)) ≡ false
  read i h = rw (in_list indices (n * i + p) (pos 0) (negsuc 0) (place i h)) (index-known 255 indices (n * i + p) known)

  pub slot_small : (i : ℕ) → i ≤ count → slot_up_to n indices i p ≤ 255 * i
  unfolding slot_up_to
  slot_small zero h = omega arith
  slot_small (suc i) h = over-small (get_or indices (n * i + p) (pos 0)) i _ (read i h) (slot_small i (omega arith))

  module _ (palettes table : List ℕ) (wide : length palettes ≡ 765 * count) (t : Table (length palettes / 3) palettes table) where
    step : (i : ℕ) → i < count → (b : Bool) → lt_z (get_or indices (n * i + p) (pos 0)) (pos 0) ≡ b
        → le 4 (get_or table (slot_up_to n indices i p) 0) ≡ pixel_up_to n palettes indices i p
        → le 4 (get_or table (slot_up_to n indices (suc i) p) 0) ≡ pixel_up_to n palettes indices (suc i) p
    unfolding slot_up_to
    step i h true e below =
        let z : ℤ = get_or indices (n * i + p) (pos 0) in
        ap (λ (s : ℕ). le 4 (get_or table s 0)) (sym (slot-below z (255 * i + 1) (slot_up_to n indices i p) e)) ∙ below
        ∙ sym (seen_below n palettes indices (suc i) p z (omega arith) (rw (back_one i) (place i h)) (rw (back_one i) refl) e ∙ ap (λ (k : ℕ). pixel_up_to n palettes indices k p) (back_one i))
    step i h false e below =
        let z : ℤ = get_or indices (n * i + p) (pos 0) in
        let room : 765 * i + 765 ≤ length palettes = omega (arith, wide) in
        let there : 3 * (255 * i + nat_abs z) + 3 ≤ length palettes = entry-inside palettes i z room (read i h) e in
        ap (λ (s : ℕ). le 4 (get_or table s 0)) (sym (slot-own z (255 * i + 1) (slot_up_to n indices i p) e) ∙ the-slot i (nat_abs z))
        ∙ entry-bytes palettes i z _ room (read i h) e (t.entry (255 * i + nat_abs z) (omega arith))
        ∙ ap (λ (k : ℕ). entry_bytes palettes k z) (sym (back_one i))
        ∙ seen_here n palettes indices (suc i) p z (omega arith) (rw (back_one i) (place i h)) (rw (back_one i) refl) (rw (back_one i) room) (read i h) e

    pub slot-pixel : (i : ℕ) → i ≤ count → le 4 (get_or table (slot_up_to n indices i p) 0) ≡ pixel_up_to n palettes indices i p
    unfolding slot_up_to pixel_up_to le
    slot-pixel zero h = rw t.clear
    slot-pixel (suc i) h = step i h (lt_z (get_or indices (n * i + p) (pos 0)) (pos 0)) refl (slot-pixel i (omega arith))

-- ---- a run of pixels behind those that are painted
flat-shift : (f g : ℕ → List ℕ) (a b m : ℕ) → ((j : ℕ) → j < m → g (a + j) ≡ f (b + j)) → flat_map g (range a m) ≡ flat_map f (range b m)
unfolding range flat_map
flat-shift f g a b zero h = refl
flat-shift f g a b (suc m) h =
    let here : g a ≡ f b = ap g {x = a} {y = a + 0} (omega arith) ∙ h 0 (omega arith) ∙ ap f {x = b + 0} {y = b} (omega arith) in
    let rest : flat_map g (range (suc a) m) ≡ flat_map f (range (suc b) m) =
    flat-shift f g (suc a) (suc b) m (λ j k. ap g {x = suc a + j} {y = a + suc j} (omega arith) ∙ h (suc j) (omega arith) ∙ ap f {x = b + suc j} {y = suc b + j} (omega arith)) in
    rw (here, rest)

pub painted-run : (f g : ℕ → List ℕ) (n : ℕ) (out₀ : List ℕ) → ((p : ℕ) → p < n → length (f p) ≡ 4) → 4 * n ≤ length out₀ → {out : List ℕ} {at : ℕ} (m : ℕ)
    → Painted f out₀ out at → at + m ≤ n → (part : List ℕ) → part ≡ over (flat_map g (range 0 m)) (take (length out - 4 * at) (drop (4 * at) out))
    → ((j : ℕ) → j < m → g j ≡ f (at + j)) → Painted f out₀ (put_mid (4 * at) (length out - 4 * at) out part) (at + m)
painted-run f g n out₀ four room {out} {at} m c h part e same =
    let front : length (flat_map f (range 0 at)) ≡ 4 * at = flat-length f 0 at (λ p x y. four p (omega arith)) in
    let all : length (flat_map f (range 0 (at + m))) ≡ 4 * (at + m) = flat-length f 0 (at + m) (λ p x y. four p (omega arith)) in
    let joined : flat_map f (range 0 at) ++ flat_map g (range 0 m) ≡ flat_map f (range 0 (at + m)) =
    rw (range-append 0 at m, flat_map-append f (range 0 at) (range (0 + at) m))
    (ap (λ (l : List ℕ). flat_map f (range 0 at) ++ l) (flat-shift f g 0 (0 + at) m (λ j k. ap g {x = 0 + j} {y = j} (omega arith) ∙ same j k ∙ ap f {x = at + j} {y = 0 + at + j} (omega arith)))) in
    let is : put_mid (4 * at) (length out - 4 * at) out part ≡ over (flat_map f (range 0 (at + m))) out₀ =
    over-lent (flat_map f (range 0 at)) (flat_map g (range 0 m)) out₀ out part (4 * at) front c.is e ∙ ap (λ (l : List ℕ). over l out₀) joined in
    record { long = ap (λ (l : List ℕ). length l) is ∙ length_over (flat_map f (range 0 (at + m))) out₀ (omega (arith, all)); is = is }

-- the words of slots, by the places
pub places-words : (n : ℕ) (indices : List ℤ) (table slots : List ℕ) (i at m : ℕ) (out next : List ℕ) → Slotted n indices i at m slots
    → next ≡ over (flat_map (word_at table slots) (range 0 m)) out → next ≡ over (flat_map (place_word n indices table i at) (range 0 m)) out
unfolding word_at place_word
places-words n indices table slots i at m out next c e =
    e ∙ ap (λ (l : List ℕ). over l out)
    (flat-shift (place_word n indices table i at) (word_at table slots) 0 0 m (λ j k. ap (λ (s : ℕ). le 4 (get_or table s 0)) (ap (λ (q : ℕ). get_or slots q 0) {x = 0 + j} {y = j} (omega arith) ∙ c.slot j k ∙ ap (λ (q : ℕ). slot_up_to n indices i (at + q)) {x = j} {y = 0 + j} (omega arith))))

pub slots-none : (n : ℕ) (indices : List ℤ) (at m : ℕ) → m ≤ 1024 → Slotted n indices 0 at m (replicate 1024 0)
unfolding slot_up_to
slots-none n indices at m h = record { long = length-replicate {A = ℕ} 1024 0; slot = λ j k. get_or-replicate 1024 j 0 0 (omega arith) }

-- the words of a run of places are its pixels
pub run-pixels : {n count : ℕ} {palettes : List ℕ} {indices : List ℤ} {table : List ℕ} → Stacked n count palettes indices → Table (length palettes / 3) palettes table
    → (at m : ℕ) → at + m ≤ n → (j : ℕ) → j < m → place_word n indices table count at j ≡ pixel_up_to n palettes indices count (at + j)
unfolding place_word
run-pixels {n} {count} {palettes} {indices} {table} s t at m h j k =
    slot-pixel n count indices s.indices-length s.in-range (at + j) (omega arith) palettes table s.palettes-length t count (omega arith)
