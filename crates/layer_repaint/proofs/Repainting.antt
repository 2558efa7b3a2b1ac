-- What is done at a place is what the definition says. Assumes nothing.
use mathlib.Core.Path.{◌≡◌, sym, ap, ◌∙◌}
use mathlib.Core.Bool.{Bool, true, false, not, cond}
use mathlib.Core.List.{List, flat_map}
use Prim.Native.Nat.{ℕ, ◌*◌, ◌<◌, ◌≤◌}
use native.Mathlib.Omega.{arith}
use borrow.Author.Tests.{eq-eqb}
use lib.Dec.{eqb}
use lib.IntN.{ℤ, pos, negsuc}
use lib.ListN.{length, get_or, take, drop, length-drop}
use lib.Seq.{length-take-le}
use Rattle.base.specs.Lists.{range, over}
use Rattle.sheet.specs.Sheet.{stray}
use Rattle.sheet_diff.specs.Mask.{shown, same_bytes}
use Rattle.sheet_diff.specs.Tables.{slot_of, Shades}
use Rattle.sheet_diff.proofs.Shades.{shades-equal}
use Rattle.sheet_diff.proofs.Slots.{slot_small}
use Rattle.layer_shown.specs.Layers.{pixel_in}
use Rattle.layer_shown.specs.Stack.{pixel_up_to}
use Rattle.layer_shown.proofs.Pixels.{in_list, index-known, flat-same}
use Rattle.layer_shown.proofs.Stack.{part-shown}
use Rattle.layer_repaint.specs.Places.{View, view_of, Viewed, other_at, place_of, stack_place}
use Rattle.layer_repaint.proofs.Same.{SameTable}

module _ (pixel : ℕ → List ℕ) (n : ℕ) (before now : View) (bv : Viewed n before) (nv : Viewed n now) where
  -- a pixel has four bytes
  pub place-four : ((p : ℕ) → length (pixel p) ≡ 4) → (out : List ℕ) → 4 * n ≤ length out → (p : ℕ) → p < n → length (place_of pixel before now out p) ≡ 4
  unfolding place_of
  place-four four out room p h = go (other_at before now p)
    where
      go : (b : Bool) → length (cond b (pixel p) (pixel_in out p)) ≡ 4
      go true = four p
      go false = length-take-le 4 (drop (4 * p) out) (simp length-drop (omega arith))

  -- ---- both palettes in tables
  module _ {t u : List ℕ} (ts : Shades 255 before.palette t) (us : Shades 255 now.palette u) where
    -- numbers that are the same show the same
    told : (a b : ℤ) → stray 255 a ≡ false → stray 255 b ≡ false
        → eqb (get_or t (slot_of a) 0) (get_or u (slot_of b) 0) ≡ same_bytes (shown before.palette a) (shown now.palette b)
    told a b e f = shades-equal before.palette now.palette bv.palette-length nv.palette-length a b _ _ e f (ts.shade a e) (us.shade b f)

    -- where the tables are the same, a place with the same index keeps
    pub kept : SameTable t u → (out : List ℕ) (r : ℕ) → get_or before.indices r (negsuc 0) ≡ get_or now.indices r (negsuc 0) → place_of pixel before now out r ≡ pixel_in out r
    unfolding place_of other_at
    kept s out r e =
        let a : ℤ = get_or before.indices r (negsuc 0) in
        let fine : stray 255 a ≡ false = index-known 255 before.indices r bv.in-range in
        let same : same_bytes (shown before.palette a) (shown now.palette a) ≡ true = sym (told a a fine fine) ∙ eq-eqb _ _ (s (slot_of a) (slot_small a fine)) in
        rw (← e, same)

    -- what is written at a place
    pub place-bytes : {p x y : ℕ} {a b : ℤ} → p < n → a ≡ get_or before.indices p (pos 0) → b ≡ get_or now.indices p (pos 0) → stray 255 a ≡ false → stray 255 b ≡ false
        → x ≡ get_or t (slot_of a) 0 → y ≡ get_or u (slot_of b) 0 → (out₀ out : List ℕ) → drop (4 * p) out ≡ drop (4 * p) out₀
        → cond (not (eqb x y)) (pixel p) (pixel_in out p) ≡ place_of pixel before now out₀ p
    unfolding place_of other_at
    place-bytes {p} {x} {y} {a} {b} h ra rb e f ex ey out₀ out stood =
        let pa : get_or before.indices p (negsuc 0) ≡ a = in_list before.indices p (negsuc 0) (pos 0) (omega (arith, bv.indices-length)) ∙ sym ra in
        let pb : get_or now.indices p (negsuc 0) ≡ b = in_list now.indices p (negsuc 0) (pos 0) (omega (arith, nv.indices-length)) ∙ sym rb in
        rw (ex, ey, told a b e f, pa, pb, stood)

-- ---- a layer among the others
pub part-places : (n count : ℕ) (palettes : List ℕ) (indices : List ℤ) (edited : ℕ) (before : View) (out next : List ℕ) (X : List ℕ) (Y : List ℤ)
    → X ≡ take 765 (drop (765 * edited) palettes) → Y ≡ take n (drop (n * edited) indices)
    → next ≡ over (flat_map (place_of (pixel_up_to n palettes indices count) before (view_of X Y) out) (range 0 n)) out
    → next ≡ over (flat_map (stack_place n count palettes indices edited before out) (range 0 n)) out
unfolding place_of other_at stack_place
part-places n count palettes indices edited before out next X Y x y e =
    e
    ∙ ap (λ (l : List ℕ). over l out)
    (flat-same _ _ 0 n (λ p a b. rw (x, y, part-shown n palettes indices edited p (omega arith))))
