-- The marks of the permitted colours, one by one. Assumes nothing.
use mathlib.Core.Path.{◌≡◌, sym, ap, ◌∙◌}
use mathlib.Core.List.{List, [], ◌∷◌, ◌++◌, map, map-append}
use Prim.Native.Nat.{ℕ, ◌+◌, ◌<◌, ◌≤◌}
use native.Mathlib.Nat.{zero-add, le_antisymm}
use lib.ListN.{length, set, length-map}
use Rattle.base.specs.Lists.{range, over}
use Rattle.base.proofs.Collect.{length-range, range-next}
use Rattle.base.proofs.Over.{over_none, over-set}
use Rattle.sheet.specs.Document.{mark}
use Rattle.base.specs.Triples.{rgb_at}
use Rattle.edit.specs.Checks.{listed}
use Rattle.palette_model.specs.Colours.{used_of}

module _ (entries colours : List ℕ) where
  abbrev markAt : ℕ → ℕ
  markAt i = mark (listed entries (rgb_at colours i))

  used-more : (i : ℕ) → used_of entries colours (i + 1) ≡ used_of entries colours i ++ (markAt i ∷ [])
  unfolding used_of
  used-more i = ap (map markAt) (rw (zero-add i) at (range-next 0 i)) ∙ map-append markAt (range 0 i) (i ∷ [])

  used-length : (i : ℕ) → length (used_of entries colours i) ≡ i
  unfolding used_of
  used-length i = length-map (range 0 i) markAt ∙ length-range 0 i

  pub used-next : (used₀ used : List ℕ) (i m : ℕ) → used ≡ over (used_of entries colours i) used₀ → i < length used₀ → m ≡ markAt i
      → set used i m ≡ over (used_of entries colours (i + 1)) used₀
  used-next used₀ used i m e h q =
      rw (e, q) (over-set (used_of entries colours i) used₀ i (markAt i) (used-length i) h ∙ ap (λ f. over f used₀) (sym (used-more i)))

  pub used-none : (used : List ℕ) → used ≡ over (used_of entries colours 0) used
  unfolding used_of range
  used-none used = over_none used

  pub used_all : (used₀ used : List ℕ) (i n : ℕ) → used ≡ over (used_of entries colours i) used₀ → i ≤ n → n ≤ i → used ≡ over (used_of entries colours n) used₀
  used_all used₀ used i n e h k = e ∙ ap (λ (j : ℕ). over (used_of entries colours j) used₀) (le_antisymm h k)
