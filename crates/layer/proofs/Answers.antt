-- What `flatten` and `repaint` answer at each of their tests. Assumes nothing.
use mathlib.Core.Path.{◌≡◌, refl, sym, ap, ◌∙◌}
use mathlib.Core.Bool.{Bool, true, false, not, cond, ◌||◌}
use mathlib.Core.List.{List, [], ◌∷◌, ◌++◌, flat_map, append_assoc}
use Prim.Native.Nat.{ℕ, ◌+◌, ◌*◌, ◌/◌, ◌<◌, ◌≤◌}
use native.Mathlib.Omega.{arith}
use borrow.Author.Tests.{lt-ltb, le-ltb, le-leb, lt-leb, eqb-true, not-false}
use lib.Dec.{ltb, leb, eqb}
use lib.IntN.{ℤ}
use lib.Ieee.{Float}
use lib.ListN.{length, get_or}
use Rattle.base.specs.Checks.{Check, ◌when◌, first_of, refused_or}
use Rattle.base.specs.Answer.{Filled, filled}
use Rattle.base.specs.declared.Counted.TheVariants as counted
use Rattle.base.specs.Numbers.{no_space, layers_differ}
use Rattle.base.specs.Lists.{some, range, over, All}
use Rattle.base.proofs.Scan.{or_left, or_right}
use Rattle.base.proofs.First.{first_past, first-here, refused-first}
use Rattle.sheet.specs.Sheet.{Sheet, sheet_of}
use Rattle.sheet.specs.Checks.{sheet_checks, WellFormed, Judged}
use Rattle.sheet.proofs.Judging.{past-sheet}
use Rattle.sheet.proofs.Strays.{stray-more}
use Rattle.layer_shown.specs.Layers.{layers_of, shown_at, pixel_of, flattened, changed_at, pixel_in, repainted_at, repainted}
use Rattle.layer_shown.specs.Calls.{count_checks, other_size, width_of, height_of, flatten_checks, flatten_of, repaint_checks, repaint_of}
use Rattle.layer_shown.specs.Stack.{pixel_up_to, shown_in, Stacked}
use Rattle.layer_shown.proofs.Pixels.{flat-same}
use Rattle.layer_shown.proofs.Stack.{layers-count, stack-pixel, stack-shown, stacked}
use Rattle.layer_checks.specs.Judged.{sizes_differ, Stands, LayersJudged}
use Rattle.layer_checks.proofs.Judging.{sizes-other}
use Rattle.layer_repaint.specs.Places.{view_of, Viewed, stack_place}

module _ (sizes palettes : List ℕ) (labs : List Float) (indices : List ℤ) where
  abbrev layers : List Sheet
  layers = layers_of sizes palettes labs indices

  abbrev w : ℕ
  w = width_of sizes

  abbrev h : ℕ
  h = height_of sizes

  -- ---- past the checks of the layers
  pub here : (n : ℕ) (ds : List Check) → LayersJudged sizes palettes labs indices n → (n ≡ 0 → ⊥) → n ≡ first_of (count_checks sizes ++ (flat_map (sheet_checks []) layers ++ ds))
  here n ds j z = first-here (count_checks sizes ++ flat_map (sheet_checks []) layers) ds n j.value z ∙ ap first_of (append_assoc (count_checks sizes) (flat_map (sheet_checks []) layers) ds)

  pub past : (ds : List Check) → LayersJudged sizes palettes labs indices 0 → first_of (count_checks sizes ++ (flat_map (sheet_checks []) layers ++ ds)) ≡ first_of ds
  past ds j =
      sym (ap first_of (append_assoc (count_checks sizes) (flat_map (sheet_checks []) layers) ds))
      ∙ first_past (count_checks sizes ++ flat_map (sheet_checks []) layers) ds (sym j.value)

  -- ---- layers of one size
  module _ (j : LayersJudged sizes palettes labs indices 0) (same : sizes_differ w h sizes ≡ false) where
    abbrev stands : Stands sizes palettes labs indices
    stands = j.fine refl

    none : some (other_size w h) layers ≡ false
    none = sizes-other w h sizes palettes labs indices ∙ same

    pub stack : Stacked (w * h) (length sizes / 3) palettes indices
    stack = stacked w h sizes palettes labs indices stands.any stands.thirds stands.few stands.fit none

    pixels : (p : ℕ) → p < w * h → pixel_up_to (w * h) palettes indices (length sizes / 3) p ≡ pixel_of layers p
    pixels p b =
        ap (λ (m : ℕ). pixel_up_to (w * h) palettes indices m p) (sym (layers-count sizes palettes labs indices))
        ∙ sym (stack-pixel w h palettes indices p b sizes labs stands.fit none)

    pub flat-bytes : flat_map (pixel_up_to (w * h) palettes indices (length sizes / 3)) (range 0 (w * h)) ≡ flattened layers (w * h)
    unfolding flattened
    flat-bytes = flat-same _ _ 0 (w * h) (λ p a b. pixels p (omega arith))

-- ---- `flatten`
module _ (sizes palettes : List ℕ) (labs : List Float) (indices : List ℤ) (out : List ℕ) where
  pub flat-refused : (n : ℕ) → LayersJudged sizes palettes labs indices n → (n ≡ 0 → ⊥) → filled (counted.Refused n) out ≡ flatten_of sizes (layers sizes palettes labs indices) out
  unfolding flatten_of flatten_checks
  flat-refused n j z = refused-first _ (λ m. filled (counted.Refused m) out) _ n (here sizes palettes labs indices n _ j z) z

  module _ (j : LayersJudged sizes palettes labs indices 0) where
    pub flat-differs : sizes_differ (width_of sizes) (height_of sizes) sizes ≡ true → filled (counted.Refused 23) out ≡ flatten_of sizes (layers sizes palettes labs indices) out
    unfolding flatten_of flatten_checks first_of refused_or
    flat-differs e = rw (past sizes palettes labs indices _ j, sizes-other (width_of sizes) (height_of sizes) sizes palettes labs indices, e)

    module _ (same : sizes_differ (width_of sizes) (height_of sizes) sizes ≡ false) where
      pub flat-short : length out < 4 * (width_of sizes * height_of sizes) → filled (counted.Refused 16) out ≡ flatten_of sizes (layers sizes palettes labs indices) out
      unfolding flatten_of flatten_checks first_of refused_or
      flat-short b = rw (past sizes palettes labs indices _ j, sizes-other (width_of sizes) (height_of sizes) sizes palettes labs indices, same, lt-ltb _ _ b)

      pub flat-done : 4 * (width_of sizes * height_of sizes) ≤ length out → (buffer : List ℕ)
          → buffer ≡ over (flat_map (pixel_up_to (width_of sizes * height_of sizes) palettes indices (length sizes / 3)) (range 0 (width_of sizes * height_of sizes))) out
          → filled (counted.Count (4 * (width_of sizes * height_of sizes))) buffer ≡ flatten_of sizes (layers sizes palettes labs indices) out
      unfolding flatten_of flatten_checks first_of refused_or
      flat-done b buffer e =
          rw (past sizes palettes labs indices _ j, sizes-other (width_of sizes) (height_of sizes) sizes palettes labs indices, same, le-ltb _ _ b, e, flat-bytes sizes palettes labs indices j same)

-- ---- `repaint`
-- two sizes that are the same
pub same-sides : (a b v g : ℕ) (rest : Bool) → (not (eqb a v) || not (eqb b g)) || rest ≡ false → (a ≡ v) × (b ≡ g)
same-sides a b v g rest e =
    let q = or_left (not (eqb a v) || not (eqb b g)) rest e in
    (eqb-true a v (not-false _ (or_left (not (eqb a v)) _ q)), eqb-true b g (not-false _ (or_right (not (eqb a v)) _ q)))

module _ (sizes palettes : List ℕ) (labs : List Float) (indices : List ℤ) (edited : ℕ) (before : Sheet) (out : List ℕ) where
  abbrev result : Filled ℕ
  result = repaint_of sizes (layers sizes palettes labs indices) edited before out

  -- the test of the sizes
  abbrev differ : Bool
  differ = (not (eqb before.w (width_of sizes)) || not (eqb before.h (height_of sizes))) || sizes_differ (width_of sizes) (height_of sizes) sizes

  sizes-test : some (other_size (width_of sizes) (height_of sizes)) (before ∷ layers sizes palettes labs indices) ≡ differ
  unfolding some other_size
  sizes-test =
      ap (λ (b : Bool). (not (eqb before.w (width_of sizes)) || not (eqb before.h (height_of sizes))) || b)
      (sizes-other (width_of sizes) (height_of sizes) sizes palettes labs indices)

  pub paint-refused : (n : ℕ) → LayersJudged sizes palettes labs indices n → (n ≡ 0 → ⊥) → filled (counted.Refused n) out ≡ result
  unfolding repaint_of repaint_checks
  paint-refused n j z = refused-first _ (λ m. filled (counted.Refused m) out) _ n (here sizes palettes labs indices n _ j z) z

  module _ (j : LayersJudged sizes palettes labs indices 0) where
    pub paint-earlier : (n : ℕ) → Judged before n → (n ≡ 0 → ⊥) → filled (counted.Refused n) out ≡ result
    unfolding repaint_of repaint_checks
    paint-earlier n g z =
        refused-first _ (λ m. filled (counted.Refused m) out) _ n (first-here (sheet_checks [] before) _ n g.value z ∙ sym (past sizes palettes labs indices _ j)) z

    module _ (f : WellFormed before) where
      pub paint-differs : differ ≡ true → filled (counted.Refused 23) out ≡ result
      unfolding repaint_of repaint_checks first_of refused_or
      paint-differs e = rw (past sizes palettes labs indices _ j, past-sheet before f _, sizes-test, e)

      module _ (same : differ ≡ false) where
        pub paint-absent : length sizes / 3 ≤ edited → filled (counted.Refused 23) out ≡ result
        unfolding repaint_of repaint_checks first_of refused_or
        paint-absent b =
            rw (past sizes palettes labs indices _ j, past-sheet before f _, sizes-test, same, layers-count sizes palettes labs indices, le-leb _ _ b)

        cells : length before.indices ≡ width_of sizes * height_of sizes
        cells =
            let q = same-sides before.w before.h (width_of sizes) (height_of sizes) _ same in
            f.limits.indices-length ∙ (rw (q.0, q.1))

        pub one_size : sizes_differ (width_of sizes) (height_of sizes) sizes ≡ false
        one_size = or_right (not (eqb before.w (width_of sizes)) || not (eqb before.h (height_of sizes))) _ same

        -- what the loop asks
        pub paint-stack : Stacked (length before.indices) (length sizes / 3) palettes indices
        paint-stack = rw cells (stack sizes palettes labs indices j one_size)

        pub paint-viewed : Viewed (length before.indices) (view_of before.palette before.indices)
        paint-viewed =
            record {
              palette-length = f.limits.palette-length;
              indices-length = refl;
              in-range = stray-more before.k 255 before.indices f.limits.k-small f.in-range;
            }

        module _ (there : edited < length sizes / 3) where
          -- 16 is the check that is left
          past-there : first_of (repaint_checks sizes (layers sizes palettes labs indices) edited before out)
              ≡ first_of (no_space when ltb (length out) (4 * (width_of sizes * height_of sizes)) ∷ [])
          unfolding repaint_checks first_of
          past-there =
              rw (
                past sizes palettes labs indices _ j,
                past-sheet before f _,
                sizes-test,
                same,
                layers-count sizes palettes labs indices,
                lt-leb _ _ there,
              )

          pub paint-short : length out < 4 * length before.indices → filled (counted.Refused 16) out ≡ result
          unfolding repaint_of first_of refused_or
          paint-short b = rw (past-there, lt-ltb _ _ (rw cells at b))

          abbrev now : Sheet
          now = get_or (layers sizes palettes labs indices) edited before

          place : (p : ℕ) → p < width_of sizes * height_of sizes
              → stack_place (width_of sizes * height_of sizes) (length sizes / 3) palettes indices edited (view_of before.palette before.indices) out p
              ≡ repainted_at (layers sizes palettes labs indices) before now out p
          unfolding stack_place repainted_at changed_at shown_at
          place p b =
              let stands = j.fine refl in
              let none = sizes-other (width_of sizes) (height_of sizes) sizes palettes labs indices ∙ one_size in
              let count : edited < length (layers sizes palettes labs indices) = omega (arith, layers-count sizes palettes labs indices) in
              rw (pixels sizes palettes labs indices j one_size p b, ← stack-shown (width_of sizes) (height_of sizes) palettes indices p b sizes labs stands.fit none edited before count)
              refl

          pub paint-done : 4 * length before.indices ≤ length out → (buffer : List ℕ)
              → buffer ≡ over (flat_map (stack_place (length before.indices) (length sizes / 3) palettes indices edited (view_of before.palette before.indices) out) (range 0 (length before.indices))) out
              → filled (counted.Count (4 * length before.indices)) buffer ≡ result
          unfolding repaint_of repainted first_of refused_or
          paint-done b buffer e =
              let bytes : buffer ≡ over (flat_map (repainted_at (layers sizes palettes labs indices) before now out) (range 0 (width_of sizes * height_of sizes))) out
              = (rw cells at e) ∙ ap (λ (l : List ℕ). over l out) (flat-same _ _ 0 (width_of sizes * height_of sizes) (λ p x y. place p (omega arith))) in
              rw (past-there, le-ltb _ _ (rw cells at b), bytes, cells)
