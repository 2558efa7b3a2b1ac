-- No check of `flatten` and `repaint` applies to 1 to 8 well-formed sheets of one size, and a buffer for their pixels. Assumes nothing.
use mathlib.Core.Path.{◌≡◌, refl, sym, ap, ◌∙◌}
use mathlib.Core.Bool.{Bool, true, false, not, ◌||◌}
use mathlib.Core.List.{List, [], ◌∷◌, ◌++◌, flat_map}
use Prim.Native.Nat.{ℕ, suc, ◌+◌, ◌*◌, ◌%◌, ◌≤◌, ◌<◌}
use native.Mathlib.Nat.{mul-mod_right}
use native.Mathlib.Omega.{arith}
use lib.ListN.{length, set, take}
use lib.Dec.{ltb, leb, eqb}
use borrow.Author.Tests.{le-ltb, lt-leb, eq-eqb, ne_eqb}
use Rattle.base.specs.Limits.{max_layers}
use Rattle.base.specs.Checks.{first_of, refused_or}
use Rattle.base.specs.Answer.{leaving}
use Rattle.base.specs.Answer.Told.{result}
use Rattle.base.specs.Lists.{All, some, over}
use Rattle.base.proofs.First.{first_past}
use Rattle.sheet.specs.Sheet.{Sheet}
use Rattle.sheet.specs.Checks.{sheet_checks, WellFormed}
use Rattle.sheet.proofs.Judging.{judged-fine}
use Rattle.layer_shown.specs.Layers.{flattened}
use Rattle.layer_shown.specs.Calls.{count_checks, other_size, width_of, height_of, flatten_checks, flatten_of, repaint_checks, repaint_of}
use Rattle.layer_shown.proofs.Afresh.{afresh}
use Rattle.layer_history.specs.Painting.{sizes_of, palettes_of, labs_of, indices_of, lent_layers, flatten_lent, repaint_lent}
use Rattle.layer_history.proofs.Lent.{cut_again}

-- ---- a sheet of w by h
pub record Fits (w h : ℕ) (s : Sheet) : Type 0 where
  pub well : WellFormed s
  pub width : s.w ≡ w
  pub height : s.h ≡ h

pub all-well : (w h : ℕ) (sheets : List Sheet) → All (Fits w h) sheets → All WellFormed sheets
unfolding All
all-well w h [] a = tt
all-well w h (s ∷ sheets) a = (a.0.well, all-well w h sheets a.1)

sheets-pass : (sheets : List Sheet) → All WellFormed sheets → first_of (flat_map (sheet_checks []) sheets) ≡ 0
unfolding All flat_map first_of
sheets-pass [] a = refl
sheets-pass (s ∷ sheets) a =
    first_past (sheet_checks [] s) (flat_map (sheet_checks []) sheets) (sym (judged-fine s a.0).value) ∙ sheets-pass sheets a.1

one_size : (w h : ℕ) (sheets : List Sheet) → All (Fits w h) sheets → some (other_size w h) sheets ≡ false
unfolding All some other_size
one_size w h [] a = refl
one_size w h (s ∷ sheets) a = rw (eq-eqb s.w w a.0.width, eq-eqb s.h h a.0.height, one_size w h sheets a.1)

-- ---- three sizes a sheet
three-each : (sheets : List Sheet) → length (sizes_of sheets) ≡ 3 * length sheets
unfolding sizes_of flat_map
three-each [] = refl
three-each (s ∷ sheets) = omega (arith, three-each sheets)

counts-pass : (sheets : List Sheet) → 1 ≤ length sheets → length sheets ≤ max_layers → first_of (count_checks (sizes_of sheets)) ≡ 0
unfolding count_checks first_of
counts-pass sheets a b =
    let l = length sheets in
    rw (three-each sheets, eq-eqb (3 * l % 3) 0 (mul-mod_right 3 l), ne_eqb (3 * l) 0 (λ e. omega arith), le-ltb 24 (3 * l) (omega arith))

-- ---- the calls
module _ (w h : ℕ) (sheets : List Sheet) (fit : All (Fits w h) sheets) (one : 1 ≤ length sheets) (few : length sheets ≤ max_layers) where
  -- w and h of the first are those of all
  first-size : (width_of (sizes_of sheets) ≡ w) × (height_of (sizes_of sheets) ≡ h)
  unfolding sizes_of flat_map All
  first-size = go sheets one fit
    where
      go : (l : List Sheet) → 1 ≤ length l → All (Fits w h) l → (width_of (sizes_of l) ≡ w) × (height_of (sizes_of l) ≡ h)
      go [] one fit = absurd (omega arith)
      go (s ∷ l) one fit = (fit.0.width, fit.0.height)

  cut : lent_layers sheets ≡ sheets
  cut = cut_again sheets (all-well w h sheets fit)

  module _ (out : List ℕ) (room : 4 * (w * h) ≤ length out) where
    flatten-passes : first_of (flatten_checks (sizes_of sheets) sheets out) ≡ 0
    unfolding flatten_checks first_of
    flatten-passes =
        first_past (count_checks (sizes_of sheets)) _ (counts-pass sheets one few)
        ∙ first_past (flat_map (sheet_checks []) sheets) _ (sheets-pass sheets (all-well w h sheets fit))
        ∙ rw (first-size.0, first-size.1, one_size w h sheets fit, le-ltb (length out) (4 * (w * h)) room)

    pub flatten-is : flatten_lent sheets out ≡ leaving (result (4 * (w * h))) (over (flattened sheets (w * h)) out)
    unfolding flatten_of refused_or
    flatten-is = rw (cut, flatten-passes, first-size.0, first-size.1)

    module _ (edited : ℕ) (among : edited < length sheets) (before : Sheet) (fits : Fits w h before) where
      repaint-passes : first_of (repaint_checks (sizes_of sheets) sheets edited before out) ≡ 0
      unfolding repaint_checks first_of All
      repaint-passes =
          first_past (count_checks (sizes_of sheets)) _ (counts-pass sheets one few)
          ∙ first_past (flat_map (sheet_checks []) sheets) _ (sheets-pass sheets (all-well w h sheets fit))
          ∙ first_past (sheet_checks [] before) _ (sym (judged-fine before fits.well).value)
          ∙ rw (
            first-size.0,
            first-size.1,
            one_size w h (before ∷ sheets) (fits, fit),
            lt-leb (length sheets) edited among,
            le-ltb (length out) (4 * (w * h)) room,
          )

      counted : (repaint_of (sizes_of sheets) sheets edited before out).answer ≡ result (4 * (width_of (sizes_of sheets) * height_of (sizes_of sheets)))
      unfolding repaint_of refused_or
      counted = rw repaint-passes

      -- from a buffer that holds the flattening with the earlier sheet
      pub repaint-is : take (4 * (w * h)) out ≡ flattened (set sheets edited before) (w * h) → repaint_lent sheets edited before out ≡ flatten_lent sheets out
      repaint-is held =
          let m = width_of (sizes_of sheets) * height_of (sizes_of sheets) in
          let held' : take (4 * m) out ≡ flattened (set (lent_layers sheets) edited before) m = rw (cut, first-size.0, first-size.1) held in
          let counted' : (repaint_lent sheets edited before out).answer ≡ result (4 * m) = rw cut counted in
          afresh (sizes_of sheets) (palettes_of sheets) (labs_of sheets) (indices_of sheets) edited before out held' (4 * m) counted'
