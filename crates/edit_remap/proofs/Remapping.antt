-- A loop that checks the changes of a remap one by one, and marks the places of those that pass: what is left says what the whole list says, and the places met
-- are marked. Assumes nothing.
use mathlib.Core.Path.{◌≡◌, refl, sym, ap, ◌∙◌}
use mathlib.Core.List.{List, flat_map}
use Prim.Native.Nat.{ℕ, ◌+◌, ◌*◌, ◌≤◌}
use lib.ListN.{length, set}
use Rattle.base.specs.Checks.{first_of}
use Rattle.sheet.specs.Sheet.{Sheet}
use Rattle.edit.specs.Change.{Change, place}
use Rattle.edit.specs.Checks.{remap_checks}
use Rattle.edit_pixels.proofs.Nth.{Nth}
use Rattle.edit_pixels.proofs.Passing.{Passing, passing-none, passing-hit, passing-next, passing-all}
use Rattle.edit_remap.specs.Marked.{when_none, MarkedFrom}
use Rattle.edit_remap.proofs.Marking.{MarkedTo, none-marked, one-marked, all-marked, move-inside}

module _ (s : Sheet) (index : ℕ) (cs : List Change) (start : List ℕ) where
  abbrev size : ℕ
  size = s.w * s.h

  pub record Remapping (i : ℕ) (marks : List ℕ) : Type 0 where
    pub passing : Passing (remap_checks s index) cs i
    pub marked : MarkedTo s.w cs size start i marks

  pub remap-none : size ≤ length start → Remapping 0 start
  remap-none h = record { passing = passing-none _ _; marked = none-marked _ _ _ _ h }

  module _ {i : ℕ} {marks : List ℕ} (r : Remapping i marks) where
    module _ {c : Change} (a : Nth cs i c) {n : ℕ} (e : n ≡ first_of (remap_checks s index c)) where
      pub remap-hit : (n ≡ 0 → ⊥) → n ≡ first_of (flat_map (remap_checks s index) cs)
      remap-hit = passing-hit r.passing a e

      pub remap-next : {after : List ℕ} → n ≡ 0 → after ≡ when_none n (set marks (place s.w c) 1) marks → Remapping (i + 1) after
      remap-next {after} z q =
          let marked-here : List ℕ = set marks (place s.w c) 1 in
          let is : after ≡ marked-here = q ∙ ap (λ (m : ℕ). when_none m marked-here marks) z in
          rw is
          record {
            passing = passing-next r.passing a e z;
            marked = one-marked _ _ _ _ r.marked a (move-inside s index size c refl (sym e ∙ z));
          }

    pub remap-all : length cs ≤ i → (0 ≡ first_of (flat_map (remap_checks s index) cs)) × MarkedFrom s.w cs size start marks
    remap-all h = (passing-all r.passing h, λ clear. all-marked _ _ _ _ r.marked h clear)
