-- What the calls answer, by what their tests find. Assumes nothing.
use mathlib.Core.Path.{◌≡◌, refl, sym, ap, ◌∙◌}
use mathlib.Core.Bool.{true, false}
use mathlib.Core.List.{List, [], map}
use Prim.Native.Nat.{ℕ, ◌+◌, ◌*◌, ◌<◌, ◌≤◌}
use native.Mathlib.Omega.{arith}
use borrow.Author.Tests.{lt-ltb, le-ltb}
use lib.IntN.{ℤ, pos, negsuc}
use lib.ListN.{length, get_or, length-map}
use Rattle.base.specs.Checks.{Check, first_of, refused_or}
use Rattle.base.specs.Answer.{filled}
use Rattle.base.specs.Answer.Told.{result}
use Rattle.base.proofs.Told.{alone-other, same-result}
use Rattle.base.specs.declared.Counted.TheVariants as counted
use Rattle.base.proofs.First.{no_zero, first_past, first-here, refused-first}
use Rattle.base.specs.Lists.{over, kept}
use Rattle.base.proofs.Bools.{and_left, and_right}
use Rattle.base.proofs.Over.{over_none}
use Rattle.base.specs.Ints.{eq_z, far, from_zero}
use Rattle.base.proofs.Back.{never}
use mathlib.Core.Option.{Option}
use mathlib.Core.Option as option
use Rattle.sheet.specs.Sheet.{Sheet}
use Rattle.sheet.specs.Checks.{sheet_checks, WellFormed, Judged}
use Rattle.sheet.specs.Document.{index_at}
use Rattle.sheet.proofs.Judging.{past-sheet}
use Rattle.selection_spans.specs.Spans.{in_span}
use Rattle.selection.specs.declared.Selection.{Selection}
use Rattle.selection.specs.declared.Area.{Area}
use Rattle.selection.specs.declared.Held.{Held}
use Rattle.selection.specs.declared.Held.TheVariants as held
use Rattle.selection.specs.Selection.{contains, contains_i, positions}
use Rattle.selection.specs.Calls.{held_told, far_away, contains_iof}
use Rattle.selection.specs.Region.{region_checks, region_in}
use Rattle.selection.proofs.Regions.{Within, below_span}
use Rattle.edit.specs.Change.{Change, packed}
use Rattle.tool_fill_model.specs.Fills.{has_index, replacing, replaced, from_pixel, global, listed, replace_color_of, fill_global_of}

-- ---- a list of changes
module _ (changes : List Change) (out : List ℕ) where
  listed-refused : (cs : List Check) (n : ℕ) → n ≡ first_of cs → (n ≡ 0 → ⊥) → filled (counted.Refused n) out ≡ listed cs changes out
  unfolding listed
  listed-refused cs n e h = refused-first _ (λ m. filled (counted.Refused m) out) _ n (first-here cs _ n e h) h

  listed-past : (cs : List Check) → first_of cs ≡ 0 → listed [] changes out ≡ listed cs changes out
  unfolding listed
  listed-past cs e = rw (first_past cs _ e)

  listed-short : length out < length changes → filled (counted.Refused 16) out ≡ listed [] changes out
  unfolding listed first_of refused_or
  listed-short h = rw (lt-ltb _ _ h)

  listed-done : (count : ℕ) (buffer : List ℕ) → count ≡ length changes → count ≤ length out → buffer ≡ over (map packed changes) out
      → filled (counted.Count count) buffer ≡ listed [] changes out
  unfolding listed first_of refused_or
  listed-done count buffer e h q = rw (← e, le-ltb _ _ h, q)

pub listed-none : (out : List ℕ) → filled (counted.Count 0) out ≡ listed [] [] out
listed-none out = listed-done [] out 0 out refl (omega arith) (over_none out)

-- ---- `replace_in`
module _ (w : ℕ) (l : List ℤ) (s : Selection) (from to : ℤ) (out : List ℕ) where
  pub replaced-same : eq_z from to ≡ true → filled (counted.Count 0) out ≡ listed [] (replaced w l s from to) out
  unfolding replaced
  replaced-same e = rw e (listed-none out)

  module _ (e : eq_z from to ≡ false) (count : ℕ) (c : count ≡ length (kept (has_index w l from) (positions s))) where
    changes-are : replaced w l s from to ≡ map (replacing from to) (kept (has_index w l from) (positions s))
    unfolding replaced
    changes-are = rw e

    counted_is : count ≡ length (replaced w l s from to)
    counted_is = c ∙ sym (ap (λ (m : List Change). length m) changes-are ∙ length-map (kept (has_index w l from) (positions s)) (replacing from to))

    pub replaced-short : length out < count → filled (counted.Refused 16) out ≡ listed [] (replaced w l s from to) out
    replaced-short h = listed-short (replaced w l s from to) out (omega (arith, counted_is))

    pub replaced-done : count ≤ length out → (buffer : List ℕ) → buffer ≡ over (map packed (map (replacing from to) (kept (has_index w l from) (positions s)))) out
        → filled (counted.Count count) buffer ≡ listed [] (replaced w l s from to) out
    replaced-done h buffer q = listed-done (replaced w l s from to) out count buffer counted_is h (q ∙ rw changes-are)

-- ---- `replace_color`
module _ (s : Sheet) (area : Area) (from to : ℤ) (out : List ℕ) where
  pub replace-sheet : (n : ℕ) → Judged s n → (n ≡ 0 → ⊥) → filled (counted.Refused n) out ≡ replace_color_of s area from to out
  unfolding replace_color_of
  replace-sheet n j h = listed-refused _ out _ n (first-here (sheet_checks [] s) _ n j.value h) h

  pub replace-off : WellFormed s → 5 ≡ first_of (region_checks area s.w s.h) → filled (counted.Refused 5) out ≡ replace_color_of s area from to out
  unfolding replace_color_of
  replace-off f e = listed-refused _ out _ 5 (e ∙ sym (past-sheet s f _)) (no_zero (omega arith))

  pub replace-past : WellFormed s → first_of (region_checks area s.w s.h) ≡ 0 → (region : Selection) → region ≡ region_in area s.w s.h
      → listed [] (replaced s.w s.indices region from to) out ≡ replace_color_of s area from to out
  unfolding replace_color_of
  replace-past f e region q = rw q (listed-past _ out _ (past-sheet s f _ ∙ e))

-- ---- the pixel at a position
-- the position is on the sheet
pub record Pointed (w h : ℕ) (l : List ℤ) (x y : ℤ) : Type 0 where
  pub column : from_zero x < w
  pub row : from_zero y < h
  pub index : index_at w h l x y ≡ option.some (get_or l (from_zero y * w + from_zero x) (pos 0))

module _ (s : Selection) (w h : ℕ) (l : List ℤ) (f : Within s w h) where
  pub pointed : (x y : ℤ) → contains_i s x y ≡ true → Pointed w h l x y
  unfolding contains_i contains index_at from_zero
  pointed (pos m) (pos n) e =
      let column = below_span s.x s.w m w f.right (and_left (in_span s.x s.w m) (in_span s.y s.h n) e) in
      let row = below_span s.y s.h n h f.below (and_right (in_span s.x s.w m) (in_span s.y s.h n) e) in
      record { column = column; row = row; index = rw (lt-ltb _ _ column, lt-ltb _ _ row) }
  pointed (pos m) (negsuc n) e = never e
  pointed (negsuc m) y e = never e

module _ (s : Selection) (x y : ℤ) (a : far x ≡ false) (b : far y ≡ false) where
  held-is : contains_iof s x y ≡ result (contains_i s x y)
  unfolding contains_iof far_away first_of refused_or
  held-is = rw (a, b)

  pub held-inside : {r : Held} → held_told r ≡ contains_iof s x y → r ≡ held.Inside → contains_i s x y ≡ true
  held-inside e q = sym (same-result (sym (ap held_told q) ∙ e ∙ held-is))

  pub held-outside : (r : Held) → held_told r ≡ contains_iof s x y → (r ≡ held.Inside → ⊥) → contains_i s x y ≡ false
  held-outside held.Inside e h = absurd (h refl)
  held-outside held.Outside e h = sym (same-result (e ∙ held-is))
  held-outside (held.Refused n) e h = absurd (alone-other (e ∙ held-is))

-- ---- `fill_global`
module _ (s : Sheet) (area : Area) (x y index : ℤ) (out : List ℕ) where
  pub global-sheet : (n : ℕ) → Judged s n → (n ≡ 0 → ⊥) → filled (counted.Refused n) out ≡ fill_global_of s area x y index out
  unfolding fill_global_of
  global-sheet n j h = listed-refused _ out _ n (first-here (sheet_checks [] s) _ n j.value h) h

  module _ (f : WellFormed s) where
    pub global-far-x : far x ≡ true → filled (counted.Refused 15) out ≡ fill_global_of s area x y index out
    unfolding fill_global_of first_of
    global-far-x e = listed-refused _ out _ 15 (rw (past-sheet s f _, e)) (no_zero (omega arith))

    pub global-far-y : far x ≡ false → far y ≡ true → filled (counted.Refused 15) out ≡ fill_global_of s area x y index out
    unfolding fill_global_of first_of
    global-far-y a e = listed-refused _ out _ 15 (rw (past-sheet s f _, a, e)) (no_zero (omega arith))

    module _ (a : far x ≡ false) (b : far y ≡ false) where
      pub global-off : 5 ≡ first_of (region_checks area s.w s.h) → filled (counted.Refused 5) out ≡ fill_global_of s area x y index out
      unfolding fill_global_of first_of
      global-off e = listed-refused _ out _ 5 (rw (past-sheet s f _, a, b) e) (no_zero (omega arith))

      module _ (e : first_of (region_checks area s.w s.h) ≡ 0) (region : Selection) (q : region ≡ region_in area s.w s.h) where
        past : (changes : List Change) → global s region x y index ≡ changes → listed [] changes out ≡ fill_global_of s area x y index out
        unfolding fill_global_of first_of
        past changes g = rw (← q, g) (listed-past changes out _ (rw (past-sheet s f _, a, b) e))

        nowhere : (g : Option ℤ) → index_at s.w s.h s.indices x y ≡ g → contains_i region x y ≡ false → global s region x y index ≡ []
        unfolding global from_pixel
        nowhere (option.some from) p o = rw (p, o)
        nowhere option.none p o = rw p

        pub global-outside : contains_i region x y ≡ false → filled (counted.Count 0) out ≡ fill_global_of s area x y index out
        global-outside o = listed-none out ∙ past [] (nowhere (index_at s.w s.h s.indices x y) refl o)

        from-here : contains_i region x y ≡ true → Pointed s.w s.h s.indices x y
            → global s region x y index ≡ replaced s.w s.indices region (get_or s.indices (from_zero y * s.w + from_zero x) (pos 0)) index
        unfolding global from_pixel
        from-here i p = rw (p.index, i)

        pub global-inside : contains_i region x y ≡ true → Pointed s.w s.h s.indices x y
            → listed [] (replaced s.w s.indices region (get_or s.indices (from_zero y * s.w + from_zero x) (pos 0)) index) out ≡ fill_global_of s area x y index out
        global-inside i p = past _ (from-here i p)
