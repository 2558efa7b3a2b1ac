-- Layers looked at from the top down. Assumes nothing.
use mathlib.Core.Path.{◌≡◌, refl, sym, ap, ◌∙◌}
use mathlib.Core.Bool.{true, false}
use mathlib.Core.List.{List, [], ◌∷◌}
use Prim.Native.Nat.{ℕ, zero, suc, ◌+◌, ◌*◌, ◌-◌, ◌<◌, ◌≤◌}
use native.Mathlib.Omega.{arith}
use borrow.Author.Tests.{leb-false, ltb-true, le-ltb}
use lib.IntN.{ℤ, pos, negsuc, nat_abs}
use lib.Signed.{lt_z, le_z}
use lib.ListN.{length, get_or, take, drop, length-drop}
use lib.Seq.{length-take-le, drop-drop, take-take}
use Rattle.base.specs.Triples.{rgb_at}
use Rattle.base.proofs.Back.{never}
use Rattle.sheet.specs.Sheet.{stray}
use Rattle.sheet.proofs.Entries.{entry}
use Rattle.sheet_diff.specs.Mask.{shown}
use Rattle.journal_record.specs.Bytes.{le}
use Rattle.journal_record.proofs.LittleEndian.{drop-take}
use Rattle.layer_shown.specs.Layers.{laid_over, topmost}
use Rattle.layer_shown.specs.Stack.{shown_in, pixel_up_to}
use Rattle.layer_shown.proofs.Pixels.{unseen, in_list}
use Rattle.layer_top.specs.Entry.{entry_bytes}

-- entry m of layer i is entry 255 i + m of all palettes
in_all : (palettes : List ℕ) (i m : ℕ) → 765 * i + 765 ≤ length palettes → m < 255
    → take 3 (drop (3 * m) (take 765 (drop (765 * i) palettes))) ≡ (rgb_at palettes (255 * i + m)).r ∷ (rgb_at palettes (255 * i + m)).g ∷ (rgb_at palettes (255 * i + m)).b ∷ []
in_all palettes i m h b =
    ap (λ (l : List ℕ). take 3 l) (drop-take (3 * m) 765 (drop (765 * i) palettes))
    ∙ take-take 3 (765 - 3 * m) (drop (3 * m) (drop (765 * i) palettes)) (omega arith)
    ∙ ap (λ (l : List ℕ). take 3 l) (drop-drop (3 * m) (765 * i) palettes ∙ ap (λ (t : ℕ). drop t palettes) {x = 765 * i + 3 * m} {y = 3 * (255 * i + m)} (omega arith))
    ∙ entry palettes (255 * i + m) (omega arith)

-- the bytes of a word that is made of an entry
pub entry-bytes : (palettes : List ℕ) (i : ℕ) (z : ℤ) (x : ℕ) → 765 * i + 765 ≤ length palettes → stray 255 z ≡ false → lt_z z (pos 0) ≡ false
    → let c = rgb_at palettes (255 * i + nat_abs z) in le 4 x ≡ c.r ∷ c.g ∷ c.b ∷ 255 ∷ [] → le 4 x ≡ entry_bytes palettes i z
unfolding entry_bytes shown topmost laid_over stray
entry-bytes palettes i (pos m) x h s n e = e ∙ rw (in_all palettes i m h (leb-false 255 m s))
entry-bytes palettes i (negsuc m) x h s n e = never (sym n)

-- the entry is there
pub entry-inside : (palettes : List ℕ) (i : ℕ) (z : ℤ) → 765 * i + 765 ≤ length palettes → stray 255 z ≡ false → lt_z z (pos 0) ≡ false
    → 3 * (255 * i + nat_abs z) + 3 ≤ length palettes
unfolding stray
entry-inside palettes i (pos m) h s n = omega (arith, leb-false 255 m s)
entry-inside palettes i (negsuc m) h s n = never (sym n)

-- a test against 0, from either side
pub sign-not : (z : ℤ) → le_z (pos 0) z ≡ true → lt_z z (pos 0) ≡ false
sign-not (pos m) e = le-ltb m 0 (omega arith)
sign-not (negsuc m) e = never e

pub sign-is : (z : ℤ) → le_z (pos 0) z ≡ false → lt_z z (pos 0) ≡ true
sign-is (pos m) e = absurd (omega (arith, leb-false 0 m e))
sign-is (negsuc m) e = refl

-- an index below 0 shows nothing, and any other three bytes
nothing : (palette : List ℕ) (z : ℤ) → lt_z z (pos 0) ≡ true → shown palette z ≡ []
unfolding shown
nothing palette (pos m) e = absurd (omega (arith, ltb-true m 0 e))
nothing palette (negsuc m) e = refl

three : (palette : List ℕ) (z : ℤ) → length palette ≡ 765 → stray 255 z ≡ false → lt_z z (pos 0) ≡ false → length (shown palette z) ≡ 3
unfolding shown stray
three palette (pos m) h s e = let b = leb-false 255 m s in length-take-le 3 (drop (3 * m) palette) (simp length-drop (omega arith))
three palette (negsuc m) h s e = never (sym e)

-- ---- a step down
module _ (n : ℕ) (palettes : List ℕ) (indices : List ℤ) (i p : ℕ) (z : ℤ) (any : 0 < i) (inside : n * (i - 1) + p < length indices)
    (read : z ≡ get_or indices (n * (i - 1) + p) (pos 0)) where
  abbrev palette : List ℕ
  palette = take 765 (drop (765 * (i - 1)) palettes)

  stand : pixel_up_to n palettes indices i p ≡ laid_over (shown palette z) (pixel_up_to n palettes indices (i - 1) p)
  unfolding pixel_up_to shown_in
  stand =
      ap (λ (k : ℕ). pixel_up_to n palettes indices k p) {x = i} {y = suc (i - 1)} (omega arith)
      ∙ ap (λ (v : ℤ). laid_over (shown palette v) (pixel_up_to n palettes indices (i - 1) p)) (in_list indices (n * (i - 1) + p) (negsuc 0) (pos 0) inside ∙ sym read)

  -- it shows nothing: those below it are seen
  pub seen_below : lt_z z (pos 0) ≡ true → pixel_up_to n palettes indices i p ≡ pixel_up_to n palettes indices (i - 1) p
  unfolding laid_over
  seen_below e = stand ∙ ap (λ (c : List ℕ). laid_over c (pixel_up_to n palettes indices (i - 1) p)) (nothing palette z e)

  -- it shows an entry: that is the pixel
  pub seen_here : 765 * (i - 1) + 765 ≤ length palettes → stray 255 z ≡ false → lt_z z (pos 0) ≡ false → entry_bytes palettes (i - 1) z ≡ pixel_up_to n palettes indices i p
  unfolding entry_bytes topmost
  seen_here h s e =
      let long : length palette ≡ 765 = length-take-le 765 (drop (765 * (i - 1)) palettes) (simp length-drop (omega arith)) in
      unseen (shown palette z) (0 ∷ 0 ∷ 0 ∷ 0 ∷ []) (pixel_up_to n palettes indices (i - 1) p) (three palette z long s e) ∙ sym stand

-- no layer is left: four zero bytes
pub nothing_left : (n : ℕ) (palettes : List ℕ) (indices : List ℤ) (i p : ℕ) → i ≤ 0 → le 4 0 ≡ pixel_up_to n palettes indices i p
unfolding pixel_up_to le
nothing_left n palettes indices zero p h = refl
nothing_left n palettes indices (suc i) p h = absurd (omega arith)
