-- A loop that checks a list of changes, one by one: what is left says what the whole list says. Assumes nothing.
use mathlib.Core.Path.{◌≡◌, refl, sym, ◌∙◌}
use mathlib.Core.Bool.{Bool, true, false}
use mathlib.Core.List.{List, [], ◌∷◌, ◌++◌, flat_map}
use Prim.Native.Nat.{ℕ, suc, ◌+◌, ◌≤◌}
use lib.ListN.{length, drop}
use Rattle.base.specs.Checks.{Check, ◌when◌, first_of}
use Rattle.base.proofs.First.{first_past, first-here}
use Rattle.base.proofs.Scan.{drop-end}
use Rattle.edit.specs.Change.{Change}
use Rattle.edit_pixels.proofs.Nth.{Nth}

pub record Passing (f : Change → List Check) (cs : List Change) (i : ℕ) : Type 0 where
  rest : first_of (flat_map f (drop i cs)) ≡ first_of (flat_map f cs)

pub passing-none : (f : Change → List Check) (cs : List Change) → Passing f cs 0
passing-none f cs = record { rest = refl }

module _ {f : Change → List Check} {cs : List Change} {i : ℕ} (p : Passing f cs i) where
  module _ {c : Change} (a : Nth cs i c) {n : ℕ} (e : n ≡ first_of (f c)) where
    here : first_of (f c ++ flat_map f (drop (i + 1) cs)) ≡ first_of (flat_map f cs)
    unfolding flat_map
    here = rw a.left at p.rest

    pub passing-hit : (n ≡ 0 → ⊥) → n ≡ first_of (flat_map f cs)
    passing-hit k = first-here (f c) (flat_map f (drop (i + 1) cs)) n e k ∙ here

    pub passing-next : n ≡ 0 → Passing f cs (i + 1)
    passing-next z = record { rest = sym (first_past (f c) (flat_map f (drop (i + 1) cs)) (sym e ∙ z)) ∙ here }

  pub passing-all : length cs ≤ i → 0 ≡ first_of (flat_map f cs)
  unfolding flat_map first_of
  passing-all h = rw (drop-end cs i h) at p.rest

-- one check more, after those of the list
module _ (cs : List Check) (n : ℕ) {b : Bool} (e : first_of cs ≡ 0) where
  pub last-hit : b ≡ true → suc n ≡ first_of (cs ++ (suc n when b ∷ []))
  unfolding first_of
  last-hit t = sym (first_past cs (suc n when b ∷ []) e ∙ rw t)

  pub last-miss : b ≡ false → 0 ≡ first_of (cs ++ (suc n when b ∷ []))
  unfolding first_of
  last-miss t = sym (first_past cs (suc n when b ∷ []) e ∙ rw t)
