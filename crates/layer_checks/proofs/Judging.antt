-- Layers judged one after the other. Assumes nothing.
use mathlib.Core.Path.{◌≡◌, refl, sym, ap, ◌∙◌}
use mathlib.Core.Bool.{Bool, true, false, not, cond, ◌||◌}
use mathlib.Core.List.{List, [], ◌∷◌, ◌++◌, flat_map}
use Prim.Native.Nat.{ℕ, zero, suc, ◌+◌, ◌*◌, ◌-◌, ◌%◌, ◌<◌, ◌≤◌, min}
use native.Mathlib.Omega.{arith}
use borrow.Author.Tests.{eq-eqb, ne_eqb, eqb-true, eqb-false, ltb-false, not-false}
use lib.Dec.{eqb}
use lib.IntN.{ℤ}
use lib.Ieee.{Float}
use lib.ListN.{length, get_or, take, drop, length-drop, length-take, drop_of_length-le}
use lib.Seq.{take_all, drop-drop, get_or-drop}
use Rattle.std.proofs.lemmas.List.{take_min}
use Rattle.base.specs.Checks.{first_of}
use Rattle.base.proofs.First.{first_past, first-here, no_zero}
use Rattle.base.proofs.Scan.{or_left, or_right}
use Rattle.base.specs.Lists.{some}
use Rattle.sheet.specs.Sheet.{Sheet, sheet_of}
use Rattle.sheet.specs.Checks.{sheet_checks, WellFormed, Judged}
use Rattle.sheet.proofs.Judging.{judged-limits, judged-fine, limited-bad}
use Rattle.layer_shown.specs.Layers.{layers_of}
use Rattle.layer_shown.specs.Calls.{count_checks, other_size}
use Rattle.layer_shown.proofs.Afresh.{all-well}
use Rattle.layer_checks.specs.Judged.{bottom, count_wrong, sizes_differ, LayersJudged}

-- ---- the first layer
-- it is the first, and the others follow
bottom-first : (sizes palettes : List ℕ) (labs : List Float) (indices : List ℤ) → 3 ≤ length sizes
    → layers_of sizes palettes labs indices
    ≡ bottom sizes palettes labs indices ∷ layers_of (drop 3 sizes) (drop 765 palettes) (drop 765 labs) (drop (get_or sizes 0 0 * get_or sizes 1 0) indices)
unfolding layers_of bottom
bottom-first [] X L Y h = absurd (omega arith)
bottom-first (v ∷ []) X L Y h = absurd (omega arith)
bottom-first (v ∷ g ∷ []) X L Y h = absurd (omega arith)
bottom-first (v ∷ g ∷ k ∷ []) X L Y h = refl
bottom-first (v ∷ g ∷ k ∷ m ∷ more) X L Y h = rw (ne_eqb (suc (suc (suc (suc (length more))))) 3 (λ q. omega arith))

module _ (sizes palettes : List ℕ) (labs : List Float) (indices : List ℤ) where
  abbrev sheet : List ℕ → List Float → List ℤ → Sheet
  sheet X L Y = sheet_of (get_or sizes 0 0) (get_or sizes 1 0) (get_or sizes 2 0) X L Y

  -- it has all that is left
  pub first-last : (n : ℕ) → length sizes ≡ 3 → Judged (sheet palettes labs indices) n → Judged (bottom sizes palettes labs indices) n
  unfolding bottom
  first-last n e j = rw (eq-eqb (length sizes) 3 e) j

  -- it has a part, and too long a side
  module _ (e : length sizes ≡ 3 → ⊥) where
    as-part : bottom sizes palettes labs indices ≡ sheet (take 765 palettes) (take 765 labs) (take (get_or sizes 0 0 * get_or sizes 1 0) indices)
    unfolding bottom
    as-part = rw (ne_eqb (length sizes) 3 e)

    pub first-wide : 1024 < get_or sizes 0 0 → Judged (bottom sizes palettes labs indices) 1
    first-wide h = rw as-part (judged-limits _ 1 (limited-bad _ (λ l. omega (arith, l.w-small))) (no_zero (omega arith)))

    pub first-high : 1024 < get_or sizes 1 0 → Judged (bottom sizes palettes labs indices) 1
    first-high h = rw as-part (judged-limits _ 1 (limited-bad _ (λ l. omega (arith, l.h-small))) (no_zero (omega arith)))

    -- as much as is there of each
    pub first_part : (n p l m : ℕ) → p ≡ min 765 (length palettes) → l ≡ min 765 (length labs) → m ≡ min (get_or sizes 0 0 * get_or sizes 1 0) (length indices)
        → Judged (sheet (take p palettes) (take l labs) (take m indices)) n → Judged (bottom sizes palettes labs indices) n
    first_part n p l m a b c j = rw as-part (rw (a, b, c, take_min 765 palettes, take_min 765 labs, take_min (get_or sizes 0 0 * get_or sizes 1 0) indices) at j)

-- what a first layer that is well-formed takes is there
pub record Long (sizes palettes : List ℕ) (labs : List Float) (indices : List ℤ) : Type 0 where
  pub colours : 765 ≤ length palettes
  pub numbers : 765 ≤ length labs
  pub places : get_or sizes 0 0 * get_or sizes 1 0 ≤ length indices
  pub cells : get_or sizes 0 0 * get_or sizes 1 0 ≤ 1048576

long-enough : (sizes palettes : List ℕ) (labs : List Float) (indices : List ℤ) → WellFormed (bottom sizes palettes labs indices) → Long sizes palettes labs indices
unfolding bottom
long-enough sizes palettes labs indices = go (eqb (length sizes) 3)
  where
    w : ℕ
    w = get_or sizes 0 0

    h : ℕ
    h = get_or sizes 1 0

    go : (b : Bool) → WellFormed (cond b (sheet_of w h (get_or sizes 2 0) palettes labs indices) (sheet_of w h (get_or sizes 2 0) (take 765 palettes) (take 765 labs) (take (w * h) indices)))
        → Long sizes palettes labs indices
    go true f =
        let l = f.limits in
        record { colours = omega (arith, l.palette-length); numbers = omega (arith, l.lab-length); places = omega (arith, l.indices-length); cells = l.cells }
    go false f =
        let l = f.limits in
        record {
          colours = omega (arith, l.palette-length, length-take 765 palettes);
          numbers = omega (arith, l.lab-length, length-take 765 labs);
          places = omega (arith, l.indices-length, length-take (w * h) indices);
          cells = l.cells;
        }

-- what is left from a place on
whole : {A : Type 0} (l : List A) (a : ℕ) → take (length l - a) (drop a l) ≡ drop a l
whole l a = take_all (length l - a) (drop a l) (simp length-drop (omega arith))

-- ---- those that are left
pub record Rest (sizes palettes : List ℕ) (labs : List Float) (indices : List ℤ) (s p at : ℕ) : Type 0 where
  pub s-in : s ≤ length sizes
  pub thirds : (length sizes - s) % 3 ≡ 0
  pub p-in : p ≤ length palettes
  pub l-in : p ≤ length labs
  pub at_in : at ≤ length indices
  pub same : first_of (flat_map (sheet_checks []) (layers_of sizes palettes labs indices))
      ≡ first_of (flat_map (sheet_checks []) (layers_of (drop s sizes) (drop p palettes) (drop p labs) (drop at indices)))

module _ (sizes palettes : List ℕ) (labs : List Float) (indices : List ℤ) where
  module _ {s p at : ℕ} (r : Rest sizes palettes labs indices s p at) where
    pub rest-three : s < length sizes → s + 3 ≤ length sizes
    rest-three h = omega (arith, r.thirds, r.s-in)

    pub rest-none : length sizes ≤ s → 0 ≡ first_of (flat_map (sheet_checks []) (layers_of sizes palettes labs indices))
    unfolding layers_of flat_map first_of
    rest-none h = sym (r.same ∙ rw (drop_of_length-le sizes {i = s} h))

    module _ (h : s < length sizes) where
      abbrev first : Sheet
      first = bottom (drop s sizes) (drop p palettes) (drop p labs) (drop at indices)

      abbrev others : List Sheet
      others = layers_of (drop 3 (drop s sizes)) (drop 765 (drop p palettes)) (drop 765 (drop p labs)) (drop (get_or (drop s sizes) 0 0 * get_or (drop s sizes) 1 0) (drop at indices))

      -- as it is lent
      pub rest-lent : (n : ℕ)
          → Judged (bottom (take (length sizes - s) (drop s sizes)) (take (length palettes - p) (drop p palettes)) (take (length labs - p) (drop p labs)) (take (length indices - at) (drop at indices))) n
          → Judged first n
      rest-lent n j = rw (whole sizes s, whole palettes p, whole labs p, whole indices at) at j

      cut : first_of (flat_map (sheet_checks []) (layers_of sizes palettes labs indices)) ≡ first_of (sheet_checks [] first ++ flat_map (sheet_checks []) others)
      unfolding flat_map
      cut = r.same ∙ ap (λ (l : List Sheet). first_of (flat_map (sheet_checks []) l)) (bottom-first (drop s sizes) (drop p palettes) (drop p labs) (drop at indices) (simp length-drop (omega (arith, rest-three h))))

      pub rest-refused : (n : ℕ) → Judged first n → (n ≡ 0 → ⊥) → n ≡ first_of (flat_map (sheet_checks []) (layers_of sizes palettes labs indices))
      rest-refused n j z = first-here (sheet_checks [] first) (flat_map (sheet_checks []) others) n j.value z ∙ sym cut

      pub rest-long : WellFormed first → Long (drop s sizes) (drop p palettes) (drop p labs) (drop at indices)
      rest-long f = long-enough (drop s sizes) (drop p palettes) (drop p labs) (drop at indices) f

      area : get_or (drop s sizes) 0 0 * get_or (drop s sizes) 1 0 ≡ get_or sizes s 0 * get_or sizes (s + 1) 0
      area = rw (get_or-drop s sizes 0 0, get_or-drop s sizes 1 0) (ap (λ (k : ℕ). get_or sizes k 0 * get_or sizes (s + 1) 0) {x = s + 0} {y = s} (omega arith))

      -- the sides are small, so that their product is
      pub rest-cells : WellFormed first → get_or sizes s 0 * get_or sizes (s + 1) 0 ≤ 1048576
      rest-cells f = rw area at (rest-long f).cells

      pub rest-next : WellFormed first → (s' p' : ℕ) → s' ≡ s + 3 → p' ≡ p + 765
          → Rest sizes palettes labs indices s' p' (at + get_or sizes s 0 * get_or sizes (s + 1) 0)
      rest-next f s' p' e q =
          let l = rest-long f in
          rw (e, q)
          (record {
            s-in = rest-three h;
            thirds = omega (arith, r.thirds, rest-three h);
            p-in = omega (arith, l.colours, length-drop p palettes, r.p-in);
            l-in = omega (arith, l.numbers, length-drop p labs, r.l-in);
            at_in = omega (arith, l.places, length-drop at indices, r.at_in, area);
            same =
                cut ∙ first_past (sheet_checks [] first) (flat_map (sheet_checks []) others) (sym (judged-fine first f).value)
                ∙ (rw (area, drop-drop 3 s sizes, drop-drop 765 p palettes, drop-drop 765 p labs, drop-drop (get_or sizes s 0 * get_or sizes (s + 1) 0) at indices));
          })

-- ---- the count
pub count-thirds : (n : ℕ) → count_wrong n ≡ false → n % 3 ≡ 0
unfolding count_wrong
count-thirds n e = eqb-true (n % 3) 0 (not-false _ (or_left (not (eqb (n % 3) 0)) _ e))

above : (n : ℕ) → (n ≡ 0 → ⊥) → 0 < n
above zero h = absurd (h refl)
above (suc n) h = omega arith

module _ (sizes palettes : List ℕ) (labs : List Float) (indices : List ℤ) where
  pub stack-count : count_wrong (length sizes) ≡ true → LayersJudged sizes palettes labs indices 23
  unfolding count_wrong count_checks first_of
  stack-count e = record { value = rw e; fine = λ z. absurd (no_zero (omega arith) z) }

  pub stack-layers : (n : ℕ) → count_wrong (length sizes) ≡ false → n ≡ first_of (flat_map (sheet_checks []) (layers_of sizes palettes labs indices)) → LayersJudged sizes palettes labs indices n
  unfolding count_wrong count_checks first_of
  stack-layers n e q =
      let c = or_right (not (eqb (length sizes % 3) 0)) _ e in
      record {
        value = rw e q;
        fine =
            λ z.
            record {
              any = above (length sizes) (eqb-false (length sizes) 0 (or_left (eqb (length sizes) 0) _ c));
              few = ltb-false 24 (length sizes) (or_right (eqb (length sizes) 0) _ c);
              thirds = count-thirds (length sizes) e;
              fit = all-well (layers_of sizes palettes labs indices) (sym q ∙ z);
            };
      }

-- ---- sizes that differ
pub sizes-other : (w h : ℕ) (sizes X : List ℕ) (L : List Float) (Y : List ℤ) → some (other_size w h) (layers_of sizes X L Y) ≡ sizes_differ w h sizes
unfolding layers_of sizes_differ some other_size
sizes-other w h [] X L Y = refl
sizes-other w h (v ∷ []) X L Y = refl
sizes-other w h (v ∷ g ∷ []) X L Y = refl
sizes-other w h (v ∷ g ∷ k ∷ []) X L Y = refl
sizes-other w h (v ∷ g ∷ k ∷ m ∷ more) X L Y = ap (λ (b : Bool). (not (eqb v w) || not (eqb g h)) || b) (sizes-other w h (m ∷ more) (drop 765 X) (drop 765 L) (drop (v * g) Y))

-- one layer's sizes, and those of the others
sizes-cut : (w h : ℕ) (x rest : List ℕ) → length x ≡ 3
    → sizes_differ w h (x ++ rest) ≡ (not (eqb (get_or x 0 0) w) || not (eqb (get_or x 1 0) h)) || sizes_differ w h rest
unfolding sizes_differ
sizes-cut w h [] rest e = absurd (omega arith)
sizes-cut w h (a ∷ []) rest e = absurd (omega arith)
sizes-cut w h (a ∷ b ∷ []) rest e = absurd (omega arith)
sizes-cut w h (a ∷ b ∷ k ∷ []) rest e = refl
sizes-cut w h (a ∷ b ∷ k ∷ m ∷ more) rest e = absurd (omega arith)

pub sizes-short : (w h : ℕ) (rest : List ℕ) → length rest < 3 → false ≡ sizes_differ w h rest
unfolding sizes_differ
sizes-short w h [] e = refl
sizes-short w h (a ∷ []) e = refl
sizes-short w h (a ∷ b ∷ []) e = refl
sizes-short w h (a ∷ b ∷ k ∷ more) e = absurd (omega arith)

module _ (w h : ℕ) {left : List ℕ} (x rest : List ℕ) (q : left ≡ x ++ rest) (e : length x ≡ 3) where
  here : sizes_differ w h left ≡ (not (eqb (get_or x 0 0) w) || not (eqb (get_or x 1 0) h)) || sizes_differ w h rest
  here = ap (sizes_differ w h) q ∙ sizes-cut w h x rest e

  pub sizes-wide : (get_or x 0 0 ≡ w → ⊥) → true ≡ sizes_differ w h left
  sizes-wide a = sym (here ∙ rw (ne_eqb (get_or x 0 0) w a))

  pub sizes-high : get_or x 0 0 ≡ w → (get_or x 1 0 ≡ h → ⊥) → true ≡ sizes_differ w h left
  sizes-high a b = sym (here ∙ rw (eq-eqb (get_or x 0 0) w a, ne_eqb (get_or x 1 0) h b))

  pub sizes-next : get_or x 0 0 ≡ w → get_or x 1 0 ≡ h → sizes_differ w h left ≡ sizes_differ w h rest
  sizes-next a b = here ∙ rw (eq-eqb (get_or x 0 0) w a, eq-eqb (get_or x 1 0) h b)
