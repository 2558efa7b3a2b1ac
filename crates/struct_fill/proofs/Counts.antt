-- `replace_color` and `fill_global` with scratch: what they list, that it is no more than the sheet has pixels, and what they answer. Assumes nothing.
use mathlib.Core.Path.{◌≡◌, refl, sym, ap, ◌∙◌}
use mathlib.Core.Bool.{Bool, true, false, not, cond, ◌&&◌}
use mathlib.Core.List.{List, [], ◌∷◌, ◌++◌, map}
use Prim.Native.Nat.{ℕ, ◌+◌, ◌*◌, ◌<◌, ◌≤◌, min}
use native.Mathlib.Omega.{arith}
use native.Mathlib.Nat.{mul_comm, mul-le-mul_right}
use borrow.Author.Tests.{lt-ltb, le-ltb, leb-true}
use lib.Dec.{leb}
use lib.IntN.{ℤ}
use lib.ListN.{length, take, drop, length-map}
use Rattle.base.specs.Numbers.{too_far}
use Rattle.base.specs.Checks.{Check, ◌when◌, first_of, refused_or}
use Rattle.base.specs.Answer.{Told, Filled, leaving, count_told}
use Rattle.base.specs.Answer.Told.{result, alone}
use Rattle.base.proofs.First.{first_past, first-here, refused-first, past-both}
use Rattle.base.specs.Lists.{over, kept}
use Rattle.base.proofs.Kept.{kept-few}
use Rattle.base.specs.Ints.{eq_z, far}
use Rattle.selection.specs.declared.Selection.{Selection}
use Rattle.selection.specs.declared.Area.{Area}
use Rattle.selection.specs.declared.Area.TheVariants as area
use Rattle.selection.specs.Selection.{all, inside, positions, contains_i}
use Rattle.selection.specs.Region.{off_sheet, region_checks, region_in}
use Rattle.selection.proofs.Rows.{length-positions}
use Rattle.sheet.specs.Sheet.{Sheet}
use Rattle.sheet.specs.Checks.{sheet_checks}
use Rattle.sheet.specs.Document.{index_at}
use mathlib.Core.Option.{Option, none, some}
use Rattle.sheet.proofs.Judging.{none-applied}
use Rattle.edit.specs.Change.{Change, packed}
use Rattle.change_list.specs.Listed.{InScratch}
use Rattle.change_list.proofs.InScratch.{scratch-none, scratch-then}
use Rattle.tool_fill_model.specs.Fills.{has_index, replacing, replaced, from_pixel, global, listed, replace_color_of, fill_global_of}
use Rattle.struct_change.specs.Scratch.{no_room, needing}
use Rattle.struct_palette.proofs.Listing.{Lists, listed_in, none-same}

-- ---- a list of changes over a buffer
abbrev Listing : (List ℕ → Filled ℕ) → List ℕ → ℕ → Told ℕ → Type 0
Listing call ns n done = Lists leaving (λ f. f.answer) (λ f. f.buffer) (λ r f. refl) (λ r f. refl) count_told alone (λ k. refl) call ns n done

module _ (cs : List Change) (out : List ℕ) where
  past : (checks : List Check) → first_of checks ≡ 0 → listed [] cs out ≡ listed checks cs out
  unfolding listed
  past checks e = rw (first_past checks _ e)

  refuses : (checks : List Check) → (first_of checks ≡ 0 → ⊥) → leaving (alone (first_of checks)) out ≡ listed checks cs out
  unfolding listed
  refuses checks z = refused-first _ (λ m. leaving (alone m) out) _ (first_of checks) (first-here checks _ (first_of checks) refl z) z

  short : length out < length cs → leaving (alone 16) out ≡ listed [] cs out
  unfolding listed first_of refused_or
  short h = rw (lt-ltb _ _ h)

  done : length cs ≤ length out → leaving (result (length cs)) (over (map packed cs) out) ≡ listed [] cs out
  unfolding listed first_of refused_or
  done h = rw (le-ltb _ _ h)

listing : (checks : List Check) (cs : List Change) → Listing (listed checks cs) (map packed cs) (first_of checks) (result (length cs))
listing checks cs = record {
  refuses = λ z out. refuses cs out checks z;
  short = λ z out h. short cs out (omega (arith, length-map cs packed)) ∙ past cs out checks z;
  lists = λ z out h. done cs out (omega (arith, length-map cs packed)) ∙ past cs out checks z;
  counts = sym (length-map cs packed);
}

count_none : (a : Told ℕ) → count_told (no_room a) ≡ 0
unfolding no_room
count_none (result n) = refl
count_none (alone n) = refl

none-refused : (n : ℕ) → no_room (alone n) ≡ alone n
unfolding no_room
none-refused n = refl

none_done : (n : ℕ) → no_room (result n) ≡ alone 16
unfolding no_room
none_done n = refl

-- ---- with scratch
module _ (checks : List Check) (cs : List Change) {call : List ℕ → Filled ℕ} (is : call ≡ listed checks cs) (room pixels : ℕ) where
  pub short-scratch : {r r' : Told ℕ} {f g s : List ℕ} {places : ℕ} → room < pixels → leaving r f ≡ call g → r' ≡ no_room r → InScratch (count_told r') places s (leaving r') (needing room pixels call)
  unfolding needing
  short-scratch {r} h d e =
      rw (e, count_none r)
      (scratch-none (λ out k. rw (lt-ltb room pixels h, is)
      (ap (λ (a : Told ℕ). leaving a out) (none-same leaving (λ f. f.answer) (λ f. f.buffer) (λ r f. refl) (λ r f. refl) count_told alone (λ k. refl) (listing checks cs) no_room none-refused (none_done (length cs)) (rw is at d) out))))

  pub in-scratch : {r : Told ℕ} {f : List ℕ} (s : List ℕ) (m places : ℕ) → pixels ≤ room → room ≡ length s → m ≡ min places (length s) → (first_of checks ≡ 0 → length cs ≤ pixels) → leaving r f ≡ call (take m s)
      → InScratch (count_told r) places (f ++ drop m s) (leaving r) (needing room pixels call)
  unfolding needing
  in-scratch {r} {f} s m places h k q b d =
      scratch-then (listed_in leaving (λ f. f.answer) (λ f. f.buffer) (λ r f. refl) (λ r f. refl) count_told alone (λ k. refl) (listing checks cs) s f r m places q
      (λ z. let few = b z in omega (arith, length-map cs packed)) (rw is at d))
      (λ out after j p. rw (le-ltb room pixels h, is) p)

-- ---- no more changes than pixels
replaced-few : (w : ℕ) (l : List ℤ) (region : Selection) (from to : ℤ) → length (replaced w l region from to) ≤ region.w * region.h
unfolding replaced
replaced-few w l region from to = go (eq_z from to)
  where
    listing-few : length (map (replacing from to) (kept (has_index w l from) (positions region))) ≤ region.w * region.h
    listing-few = omega (arith, length-map (kept (has_index w l from) (positions region)) (replacing from to), kept-few (has_index w l from) (positions region), length-positions region)

    go : (b : Bool) → length (cond b [] (map (replacing from to) (kept (has_index w l from) (positions region)))) ≤ region.w * region.h
    go true = omega arith
    go false = listing-few

area-few : (x y w h : ℕ) (width height : ℕ) → x + w ≤ width → y + h ≤ height → w * h ≤ width * height
area-few x y w h width height a b =
    let p : w * h ≤ width * h = mul-le-mul_right h (omega arith) in
    let q : h * width ≤ height * width = mul-le-mul_right width (omega arith) in omega (arith, p, q, mul_comm h width, mul_comm height width)

-- a region that is not refused has no more pixels than the sheet
region-few : (a : Area) (w h : ℕ) → first_of (region_checks a w h) ≡ 0 → (region_in a w h).w * (region_in a w h).h ≤ w * h
unfolding region_checks off_sheet region_in all inside first_of
region-few area.Whole w h e = omega arith
region-few (area.Part s) w h e = go (leb (s.x + s.w) w) (leb (s.y + s.h) h) refl refl e
  where
    go : (a b : Bool) → leb (s.x + s.w) w ≡ a → leb (s.y + s.h) h ≡ b → first_of (5 when not (a && b) ∷ []) ≡ 0 → s.w * s.h ≤ w * h
    go true true p q e = area-few s.x s.y s.w s.h w h (leb-true _ _ p) (leb-true _ _ q)
    go true false p q e = absurd (omega arith)
    go false b p q e = absurd (omega arith)

pixel-few : (g : Option ℤ) (held : Bool) (f : ℤ → List Change) (k : ℕ) → ((z : ℤ) → length (f z) ≤ k) → length (from_pixel g held f) ≤ k
unfolding from_pixel
pixel-few (some z) true f k h = h z
pixel-few (some z) false f k h = omega arith
pixel-few none held f k h = omega arith

-- ---- the calls
module _ (s : Sheet) (a : Area) where
  abbrev region : Selection
  region = region_in a s.w s.h

  pub replace-is : (from to : ℤ) → replace_color_of s a from to ≡ listed (sheet_checks [] s ++ region_checks a s.w s.h) (replaced s.w s.indices region from to)
  unfolding replace_color_of
  replace-is from to = refl

  pub replace-few : (from to : ℤ) → first_of (sheet_checks [] s ++ region_checks a s.w s.h) ≡ 0 → length (replaced s.w s.indices region from to) ≤ length s.indices
  replace-few from to e =
      let x = past-both (sheet_checks [] s) (region_checks a s.w s.h) e in
      omega (arith, replaced-few s.w s.indices region from to, region-few a s.w s.h x.right, (none-applied s x.left).limits.indices-length)

  abbrev farChecks : ℤ → ℤ → List Check
  farChecks x y = too_far when far x ∷ too_far when far y ∷ []

  pub global-is : (x y index : ℤ) → fill_global_of s a x y index ≡ listed (sheet_checks [] s ++ (farChecks x y ++ region_checks a s.w s.h)) (global s region x y index)
  unfolding fill_global_of
  global-is x y index = refl

  pub global-few : (x y index : ℤ) → first_of (sheet_checks [] s ++ (farChecks x y ++ region_checks a s.w s.h)) ≡ 0 → length (global s region x y index) ≤ length s.indices
  unfolding global
  global-few x y index e =
      let p = past-both (sheet_checks [] s) (farChecks x y ++ region_checks a s.w s.h) e in
      let q = past-both (farChecks x y) (region_checks a s.w s.h) p.right in
      let r = region-few a s.w s.h q.right in
      let l = (none-applied s p.left).limits.indices-length in
      pixel-few (index_at s.w s.h s.indices x y) (contains_i region x y) (λ from. replaced s.w s.indices region from index) (length s.indices)
      (λ z. omega (arith, replaced-few s.w s.indices region z index, r, l))
