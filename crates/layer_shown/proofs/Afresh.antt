-- E1: where the buffer held the flattening before the edit, repainting gives what flattening afresh gives. A pixel whose shown
-- colour on the edited layer did not change has, in the buffer, what the flattening has; any other is painted as the flattening
-- has it. Assumes nothing.
use Prim.Native.Nat.{ℕ, zero, suc, ◌+◌, ◌*◌, ◌<◌, ◌≤◌}
use mathlib.Core.Path.{◌≡◌, refl, sym, ap, ◌∙◌}
use mathlib.Core.Bool.{Bool, true, false, not, cond}
use mathlib.Core.List.{List, [], ◌∷◌, ◌++◌, flat_map}
use native.Mathlib.Omega.{arith}
use borrow.Author.Tests.{not-true, not-false}
use lib.Dec.{ltb, leb}
use lib.IntN.{ℤ}
use lib.Ieee.{Float}
use lib.ListN.{length, get_or, set, take, drop, take-append-drop}
use Rattle.base.specs.Checks.{Check, ◌when◌, first_of, refused_or}
use Rattle.base.specs.Numbers.{no_space, layers_differ}
use Rattle.base.specs.Answer.{Filled, leaving}
use Rattle.base.specs.Answer.Told.{result, alone}
use Rattle.base.proofs.Told.{alone-other}
use Rattle.base.proofs.First.{past-both, past, first_past, skip}
use Rattle.base.specs.Lists.{range, some, over, All}
use Rattle.base.proofs.Nowhere.{rest-not}
use Rattle.sheet.specs.Sheet.{Sheet}
use Rattle.sheet.specs.Checks.{sheet_checks, WellFormed}
use Rattle.sheet.proofs.Judging.{none-applied}
use Rattle.sheet_diff.specs.Mask.{same_bytes}
use Rattle.layer_shown.specs.Layers.{layers_of, shown_at, pixel_of, flattened, changed_at, pixel_in, repainted_at, repainted}
use Rattle.layer_shown.specs.Calls.{count_checks, other_size, width_of, height_of, flatten_checks, flatten_of, repaint_checks, repaint_of, Afresh}
use Rattle.layer_shown.proofs.Pixels.{same-bytes, pixel-at, flat-same, pixel-four, pixel-same}

-- ---- on lists
module _ (layers : List Sheet) (edited : ℕ) (before : Sheet) (n : ℕ) (out : List ℕ)
    (four : (p : ℕ) → length (pixel_of (set layers edited before) p) ≡ 4) (held : take (4 * n) out ≡ flattened (set layers edited before) n) where
  abbrev now : Sheet
  now = get_or layers edited before

  held-pixel : (p : ℕ) → p < n → pixel_in out p ≡ pixel_of (set layers edited before) p
  unfolding flattened
  held-pixel p h =
      ap (λ (l : List ℕ). take 4 (drop (4 * p) l)) (sym (take-append-drop (4 * n) out) ∙ ap (λ (l : List ℕ). l ++ drop (4 * n) out) held)
      ∙ pixel-at (pixel_of (set layers edited before)) four 0 n p (drop (4 * n) out) h
      ∙ ap (pixel_of (set layers edited before)) (omega arith)

  one-pixel : (p : ℕ) → p < n → repainted_at layers before now out p ≡ pixel_of layers p
  unfolding repainted_at changed_at
  one-pixel p h = go (same_bytes (shown_at p before) (shown_at p now)) refl
    where
      go : (b : Bool) → same_bytes (shown_at p before) (shown_at p now) ≡ b → cond (not b) (pixel_of layers p) (pixel_in out p) ≡ pixel_of layers p
      go true e = held-pixel p h ∙ pixel-same p layers edited before (same-bytes (shown_at p before) (shown_at p now) e)
      go false e = refl

  pub repainted-afresh : repainted layers before now n out ≡ flattened layers n
  unfolding repainted flattened
  repainted-afresh = flat-same (repainted_at layers before now out) (pixel_of layers) 0 n (λ p a b. one-pixel p (omega arith))

-- ---- the calls
pub all-well : (layers : List Sheet) → first_of (flat_map (sheet_checks []) layers) ≡ 0 → All WellFormed layers
unfolding All flat_map
all-well [] e = tt
all-well (s ∷ l) e =
    let b = past-both (sheet_checks [] s) (flat_map (sheet_checks []) l) e in
    (none-applied s b.left, all-well l b.right)

all_set : (layers : List Sheet) (e : ℕ) (before : Sheet) → All WellFormed layers → WellFormed before → All WellFormed (set layers e before)
unfolding All
all_set [] e before a b = tt
all_set (s ∷ l) zero before a b = (b, a.1)
all_set (s ∷ l) (suc e) before a b = (a.0, all_set l e before a.1 b)

module _ (sizes : List ℕ) (layers : List Sheet) (edited : ℕ) (before : Sheet) (out : List ℕ) where
  -- what is known where repainting is not refused
  pub record Passed : Type 0 where
    pub layers-fit : All WellFormed layers
    pub before-fits : WellFormed before
    pub flatten-passes : first_of (flatten_checks sizes layers out) ≡ 0

  passed : first_of (repaint_checks sizes layers edited before out) ≡ 0 → Passed
  unfolding repaint_checks flatten_checks
  passed e =
      let w = width_of sizes in
      let h = height_of sizes in
      let a = past-both (count_checks sizes) _ e in
      let b = past-both (flat_map (sheet_checks []) layers) _ a.right in
      let c = past-both (sheet_checks [] before) _ b.right in
      let d = past _ _ (omega arith) c.right in
      let f = past _ _ (omega arith) d.rest in
      let same : some (other_size w h) layers ≡ false = rest-not (other_size w h) before layers d.off in
      record {
        layers-fit = all-well layers b.left;
        before-fits = none-applied before c.left;
        flatten-passes =
            first_past (count_checks sizes) _ a.left
            ∙ first_past (flat_map (sheet_checks []) layers) _ b.left
            ∙ skip (layers_differ when some (other_size w h) layers) _ same
            ∙ f.rest;
      }

  by_number : (m : ℕ) → first_of (repaint_checks sizes layers edited before out) ≡ m
      → take (4 * (width_of sizes * height_of sizes)) out ≡ flattened (set layers edited before) (width_of sizes * height_of sizes)
      → (count : ℕ)
      → let n = width_of sizes * height_of sizes in
      let r = refused_or m (λ no. leaving (alone no) out) (leaving (result (4 * n)) (over (repainted layers before (get_or layers edited before) n out) out)) in
      r.answer ≡ result count → r ≡ flatten_of sizes layers out
  unfolding refused_or flatten_of
  by_number zero e held count q =
      let p = passed e in
      let earlier : List Sheet = set layers edited before in
      let four = pixel-four earlier (all_set layers edited before p.layers-fit p.before-fits) in
      rw (p.flatten-passes, repainted-afresh layers edited before (width_of sizes * height_of sizes) out four held)
  by_number (suc m) e held count q = absurd (alone-other q)

pub afresh : Afresh
unfolding repaint_of
afresh sizes palettes labs indices edited before out held count q =
    let layers = layers_of sizes palettes labs indices in
    by_number sizes layers edited before out (first_of (repaint_checks sizes layers edited before out)) refl held count q
