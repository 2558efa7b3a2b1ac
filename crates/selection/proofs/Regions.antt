-- `region` on a sheet whose sides are in the limits: it finds the region, or refuses with 5. Assumes nothing.
use mathlib.Core.Path.{◌≡◌, refl, sym, ap, ◌∙◌}
use mathlib.Core.Bool.{Bool, true, false}
use mathlib.Core.Option.{Option, none, some}
use Prim.Native.Nat.{ℕ, suc, ◌+◌, ◌*◌, ◌<◌, ◌≤◌}
use native.Mathlib.Nat.{mul_comm, mul-le-mul_right, suc-mul}
use native.Mathlib.Omega.{arith}
use borrow.Author.Tests.{ltb-true, le-ltb, leb-true}
use lib.Dec.{leb, ltb}
use Rattle.base.specs.Checks.{first_of, refused_or}
use Rattle.base.specs.Answer.{Told}
use Rattle.base.specs.Answer.Told.{result}
use Rattle.base.proofs.Told.{alone-other}
use Rattle.base.proofs.Bools.{and_left, and_right}
use Rattle.selection_spans.specs.Spans.{in_span}
use Rattle.selection.specs.declared.Selection.{Selection}
use Rattle.selection.specs.declared.Area.{Area}
use Rattle.selection.specs.declared.Area.TheVariants as area
use Rattle.selection.specs.declared.Chosen.{Chosen}
use Rattle.selection.specs.declared.Chosen.TheVariants as chosen
use Rattle.selection.specs.Selection.{all, inside}
use Rattle.selection.specs.Calls.{chosen_told, too_large, all_of, region_of}
use Rattle.selection.specs.Region.{off_sheet, region_checks, region_in, Fits}

-- a region that is inside
pub record Within (s : Selection) (width height : ℕ) : Type 0 where
  pub right : s.x + s.w ≤ width
  pub below : s.y + s.h ≤ height

module _ (s : Selection) (width height : ℕ) where
  within : (b : Bool) → inside s width height ≡ b → b ≡ true → Within s width height
  unfolding inside
  within b e q =
      record {
        right = leb-true _ _ (and_left (leb (s.x + s.w) width) (leb (s.y + s.h) height) (e ∙ q));
        below = leb-true _ _ (and_right (leb (s.x + s.w) width) (leb (s.y + s.h) height) (e ∙ q));
      }

  pub fits-region : width ≤ 1024 → height ≤ 1024 → (pixels : ℕ) → pixels ≡ width * height → Within s width height → Fits width pixels s
  fits-region across down pixels e f =
      record {
        width = across;
        right = f.right;
        bottom = omega (arith, f.below);
        below = omega (arith, mul-le-mul_right width f.below, mul_comm height width);
      }

-- what a span contains is below the side that the span ends in
pub below_span : (start count at side : ℕ) → start + count ≤ side → in_span start count at ≡ true → at < side
unfolding in_span
below_span start count at side h e = omega (arith, ltb-true at (start + count) (and_right (leb start at) (ltb at (start + count)) e))

-- a row of it is inside the sheet
pub row_inside : (w y h j : ℕ) → j < h → (y + j) * w + w ≤ (y + h) * w
row_inside w y h j k =
    let below : suc (y + j) ≤ y + h = omega arith in
    omega (arith, mul-le-mul_right w below, suc-mul (y + j) w)

-- what a call knows where it has the region
pub record Found (a : Area) (width height : ℕ) (s : Selection) : Type 0 where
  pub unrefused : first_of (region_checks a width height) ≡ 0
  pub value : s ≡ region_in a width height
  pub fits : Within s width height

injected : {p q : Selection} → ◌≡◌ {A = Told (Option Selection)} (result (some p)) (result (some q)) → p ≡ q
injected e = cc

-- an answer that tells a selection has it
pub part-told : (r : Chosen) {s : Selection} → chosen_told r ≡ result (some s) → r ≡ chosen.Part s
part-told (chosen.Part p) e = ap chosen.Part (injected e)
part-told chosen.Nothing e = absurd (let z : ◌≡◌ {A = ℕ} 0 1 = cc in omega arith)
part-told (chosen.Refused n) e = absurd (alone-other e)

module _ (width height : ℕ) (across : width ≤ 1024) (down : height ≤ 1024) where
  fine : too_large width height ≡ false
  unfolding too_large
  fine = rw (le-ltb _ _ across, le-ltb _ _ down)

  found : (a : Area) (s : Selection) → region_of a width height ≡ result (some s) → Found a width height s
  unfolding region_of all_of region_in region_checks off_sheet all first_of refused_or
  found area.Whole s e =
      let same : all width height ≡ s = injected (rw fine at e) in
      record { unrefused = refl; value = sym same; fits = rw (← same) (record { right = omega arith; below = omega arith }) }
  found (area.Part p) s e = go (inside p width height) refl
    where
      go : (b : Bool) → inside p width height ≡ b → Found (area.Part p) width height s
      go true q =
          let same : p ≡ s = injected (rw (fine, q) at e) in
          record { unrefused = rw q; value = sym same; fits = rw (← same) (within p width height true q refl) }
      go false q = absurd (alone-other (rw (fine, q) at e))

  pub region-found : (a : Area) {r : Chosen} (s : Selection) → chosen_told r ≡ region_of a width height → r ≡ chosen.Part s → Found a width height s
  region-found a s e q = found a s (sym e ∙ ap chosen_told q)

  -- where it finds none
  none_in : (a : Area) → ((s : Selection) → region_of a width height ≡ result (some s) → ⊥) → 5 ≡ first_of (region_checks a width height)
  unfolding region_of all_of region_checks off_sheet first_of refused_or
  none_in area.Whole h = absurd (h (all width height) (rw fine))
  none_in (area.Part s) h = go (inside s width height) refl
    where
      go : (b : Bool) → inside s width height ≡ b → 5 ≡ first_of (region_checks (area.Part s) width height)
      go true q = absurd (h s (rw (fine, q)))
      go false q = rw q

  pub region-none : (a : Area) (r : Chosen) → chosen_told r ≡ region_of a width height → ((s : Selection) → r ≡ chosen.Part s → ⊥) → 5 ≡ first_of (region_checks a width height)
  region-none a r e h = none_in a (λ s q. h s (part-told r (e ∙ q)))
