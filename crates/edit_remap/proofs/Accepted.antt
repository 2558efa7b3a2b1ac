-- A list of changes to which no check applies: none of them is off the sheet. Assumes nothing.
use mathlib.Core.Path.{◌≡◌, refl, sym, ◌∙◌}
use mathlib.Core.Bool.{Bool, true, false}
use mathlib.Core.List.{List, [], ◌∷◌, flat_map}
use Prim.Native.Nat.{ℕ, suc}
use native.Mathlib.Omega.{arith}
use Rattle.base.specs.Checks.{Check, ◌when◌, first_of}
use Rattle.base.proofs.First.{first_passes, first-append}
use Rattle.base.specs.Lists.{some}
use Rattle.sheet.specs.Sheet.{Sheet}
use Rattle.edit.specs.Change.{Change, outside}
use Rattle.edit.specs.Checks.{pixel_checks, remap_checks}

all-clear : (f : Change → List Check) (p : Change → Bool) → ((c : Change) → first_of (f c) ≡ 0 → p c ≡ false) → (cs : List Change) → first_of (flat_map f cs) ≡ 0 → some p cs ≡ false
unfolding some flat_map
all-clear f p by [] e = refl
all-clear f p by (c ∷ cs) e =
    let z = first_passes (first_of (f c)) (first_of (flat_map f cs)) (sym (first-append (f c) (flat_map f cs)) ∙ e) in
    rw (by c z.0, all-clear f p by cs z.1)

clear : (b : Bool) (n : ℕ) (cs : List Check) → first_of (suc n when b ∷ cs) ≡ 0 → b ≡ false
unfolding first_of
clear true n cs e = absurd (omega arith)
clear false n cs e = refl

module _ (s : Sheet) where
  pub pixels-on : (replay : Bool) (cs : List Change) → first_of (flat_map (pixel_checks replay s) cs) ≡ 0 → some (outside s.w s.h) cs ≡ false
  unfolding pixel_checks
  pixels-on replay cs = all-clear (pixel_checks replay s) (outside s.w s.h) (λ c. clear (outside s.w s.h c) 4 _) cs

  pub remap-on : (i : ℕ) (cs : List Change) → first_of (flat_map (remap_checks s i) cs) ≡ 0 → some (outside s.w s.h) cs ≡ false
  unfolding remap_checks
  remap-on i cs = all-clear (remap_checks s i) (outside s.w s.h) (λ c. clear (outside s.w s.h c) 4 _) cs
