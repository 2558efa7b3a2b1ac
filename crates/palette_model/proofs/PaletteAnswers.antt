-- What `fixed_choices` answers, by what its tests find. Assumes nothing.
use mathlib.Core.Path.{◌≡◌}
use mathlib.Core.Bool.{true, false}
use mathlib.Core.List.{List, []}
use Prim.Native.Nat.{ℕ, ◌*◌, ◌<◌, ◌≤◌}
use borrow.Author.Tests.{le-ltb, lt-ltb}
use lib.ListN.{length, take}
use Rattle.base.specs.Checks.{first_of, refused_or}
use Rattle.base.specs.Lists.{over}
use Rattle.sheet.specs.Sheet.{Sheet}
use Rattle.sheet.specs.Checks.{WellFormed}
use Rattle.edit.specs.Checks.{Permitted}
use Rattle.base.specs.declared.Choices.TheVariants as choices
use Rattle.palette_model.specs.Colours.{PaletteJudged, colour_count, used_of, chosen, fixed_choices_of}
use Rattle.palette_model.proofs.Opening.{past-opened, refused-opened}

module _ (s : Sheet) (p : Permitted) (used : List ℕ) where
  pub choices-refused : (n : ℕ) → PaletteJudged [] (WellFormed s) s p n → (n ≡ 0 → ⊥) → chosen (choices.Refused n) used ≡ fixed_choices_of s p used
  unfolding fixed_choices_of
  choices-refused n o h = refused-opened [] (WellFormed s) s p _ (λ m. chosen (choices.Refused m) used) _ n o h

  module _ (n : ℕ) (o : PaletteJudged [] (WellFormed s) s p n) (z : n ≡ 0) where
    pub choices-free : p.limited ≡ false → chosen choices.Free used ≡ fixed_choices_of s p used
    unfolding fixed_choices_of first_of refused_or
    choices-free e = rw (past-opened [] (WellFormed s) s p n o z, e)

    pub choices-short : p.limited ≡ true → length used < colour_count p.colours → chosen (choices.Refused 16) used ≡ fixed_choices_of s p used
    unfolding fixed_choices_of first_of refused_or
    choices-short e h = rw (past-opened [] (WellFormed s) s p n o z, e, lt-ltb _ _ h)

    pub choices-done : p.limited ≡ true → colour_count p.colours ≤ length used
        → (marks : List ℕ) → marks ≡ over (used_of (take (3 * s.k) s.palette) p.colours (colour_count p.colours)) used
        → chosen (choices.Count (colour_count p.colours)) marks ≡ fixed_choices_of s p used
    unfolding fixed_choices_of first_of refused_or
    choices-done e h marks q = rw (past-opened [] (WellFormed s) s p n o z, e, le-ltb _ _ h, q)
