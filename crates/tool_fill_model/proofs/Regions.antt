-- The region of a tool that is given a selection or none. Assumes nothing.
use mathlib.Core.Path.{◌≡◌, refl, sym, ap, ◌∙◌}
use mathlib.Core.Bool.{Bool, true, false, not, cond}
use mathlib.Core.List.{[], ◌∷◌}
use mathlib.Core.Option.{Option, none, some}
use Prim.Native.Nat.{ℕ, ◌+◌, ◌≤◌}
use native.Mathlib.Omega.{arith}
use borrow.Author.Tests.{le-ltb, le-leb, not-false}
use Rattle.base.specs.Checks.{◌when◌, first_of, refused_or}
use Rattle.base.specs.Answer.{Told}
use Rattle.base.specs.Answer.Told.{result, alone}
use Rattle.base.proofs.Told.{alone-other}
use Rattle.selection.specs.declared.Selection.{Selection}
use Rattle.selection.specs.declared.Area.{Area}
use Rattle.selection.specs.declared.Area.TheVariants as area
use Rattle.selection.specs.declared.Chosen.{Chosen}
use Rattle.selection.specs.declared.Chosen.TheVariants as chosen
use Rattle.selection.specs.Selection.{inside, all}
use Rattle.selection.specs.Calls.{chosen_told, too_large, all_of, region_of}
use Rattle.selection.specs.Region.{off_sheet, region_in}

small : (w h : ℕ) → w ≤ 1024 → h ≤ 1024 → too_large w h ≡ false
unfolding too_large
small w h a b = rw (le-ltb 1024 w a, le-ltb 1024 h b)

-- what `region` answers where the sides are within the limit
abbrev chosen_by : Bool → Selection → Told (Option Selection)
chosen_by off s = cond off (alone 5) (result (some s))

region-is : (a : Area) (w h : ℕ) → w ≤ 1024 → h ≤ 1024 → region_of a w h ≡ chosen_by (off_sheet a w h) (region_in a w h)
unfolding region_of all_of first_of refused_or off_sheet region_in
region-is area.Whole w h p q = rw (small w h p q)
region-is (area.Part s) w h p q = rw (small w h p q) (go (not (inside s w h)))
  where
    go : (b : Bool) → refused_or (first_of (5 when b ∷ [])) alone (result (some s)) ≡ cond b (alone 5) (result (some s))
    go true = refl
    go false = refl

-- what each answer of it tells
module _ (a : Area) (w h : ℕ) (p : w ≤ 1024) (q : h ≤ 1024) where
  pub by_part : {r : Chosen} {s : Selection} → chosen_told r ≡ region_of a w h → r ≡ chosen.Part s → false ≡ off_sheet a w h
  by_part {s = s} e f = go (off_sheet a w h) (sym (ap chosen_told f) ∙ e ∙ region-is a w h p q)
    where
      go : (b : Bool) → result (some s) ≡ chosen_by b (region_in a w h) → false ≡ b
      go true e = absurd (alone-other (sym e))
      go false e = refl

  pub by-nothing : {r : Chosen} → chosen_told r ≡ region_of a w h → r ≡ chosen.Nothing → false ≡ off_sheet a w h
  by-nothing e f = go (off_sheet a w h) (sym (ap chosen_told f) ∙ e ∙ region-is a w h p q)
    where
      go : (b : Bool) → result none ≡ chosen_by b (region_in a w h) → false ≡ b
      go true e = absurd (alone-other (sym e))
      go false e = refl

  pub by-refused : {r : Chosen} {n : ℕ} → chosen_told r ≡ region_of a w h → r ≡ chosen.Refused n → true ≡ off_sheet a w h
  by-refused {n = n} e f = go (off_sheet a w h) (sym (ap chosen_told f) ∙ e ∙ region-is a w h p q)
    where
      go : (b : Bool) → alone n ≡ chosen_by b (region_in a w h) → true ≡ b
      go true e = refl
      go false e = absurd (alone-other e)

-- a region that is not off the sheet is on it
pub region-on : (a : Area) (w h : ℕ) → off_sheet a w h ≡ false → inside (region_in a w h) w h ≡ true
unfolding off_sheet region_in inside all
region-on area.Whole w h e = rw (le-leb (0 + w) w (omega arith), le-leb (0 + h) h (omega arith))
region-on (area.Part s) w h e = not-false (inside s w h) e
