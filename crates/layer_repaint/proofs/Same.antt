-- Indices and tables that are the same. Assumes nothing.
use mathlib.Core.Path.{◌≡◌, sym, ap, ◌∙◌}
use mathlib.Core.Bool.{Bool, true}
use mathlib.Core.List.{List}
use Prim.Native.Nat.{ℕ, ◌+◌, ◌-◌, ◌<◌, ◌≤◌}
use native.Mathlib.Omega.{arith}
use lib.Dec.{eqb}
use lib.IntN.{ℤ}
use lib.ListN.{get_or, take, drop}
use lib.Seq.{get_or-take, get_or-drop}
use Rattle.std.specs.Cmp.Lexicographic.{pointwise}
use Rattle.std.proofs.Common.{int_eq}
use Rattle.std.proofs.lemmas.Bool.Decides.{Decides-eqb, Decides-int_eq}
use Rattle.std.proofs.lemmas.Slice.Eq.{slice_eq-Decides}

-- two tables of 256 with the same numbers
abbrev pub SameTable : List ℕ → List ℕ → Type 0
SameTable t u = (j : ℕ) → j < 256 → get_or t j 0 ≡ get_or u j 0

-- what `==` says of two tables
pub same_table : (t u : List ℕ) (r : Bool) → r ≡ pointwise eqb t u → r ≡ true → SameTable t u
same_table t u r e h = λ j k. ap (λ (l : List ℕ). get_or l j 0) ((slice_eq-Decides Decides-eqb t u r e).0 h)

-- the same index at each place of two parts that `==` takes
pub same_place : (before now : List ℤ) (p q : ℕ) (t : Bool) → t ≡ pointwise int_eq (take (q - p) (drop p before)) (take (q - p) (drop p now)) → t ≡ true
    → (d : ℤ) (r : ℕ) → p ≤ r → r < q → get_or before r d ≡ get_or now r d
same_place before now p q t f h d r low high =
    from before ∙ ap (λ (l : List ℤ). get_or l (r - p) d) ((slice_eq-Decides Decides-int_eq _ _ t f).0 h) ∙ sym (from now)
  where
    from : (l : List ℤ) → get_or l r d ≡ get_or (take (q - p) (drop p l)) (r - p) d
    from l = sym (get_or-take (q - p) (drop p l) (r - p) d (omega arith) ∙ get_or-drop p l (r - p) d ∙ ap (λ (k : ℕ). get_or l k d) {x = p + (r - p)} {y = r} (omega arith))
