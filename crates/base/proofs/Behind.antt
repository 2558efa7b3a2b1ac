-- Two lists that are the same from i on: the element at i, and what lies further on. Assumes nothing.
use mathlib.Core.Path.{◌≡◌, sym, ap, ◌∙◌}
use mathlib.Core.List.{List}
use Prim.Native.Nat.{ℕ, ◌+◌, ◌-◌, ◌≤◌}
use native.Mathlib.Nat.{add-zero}
use native.Mathlib.Omega.{arith}
use lib.ListN.{drop, get_or}
use lib.Seq.{drop-drop, get_or-drop}

module _ {A : Type 0} (s t : List A) (i : ℕ) (e : drop i s ≡ drop i t) where
  pub same_at : (d : A) → get_or s i d ≡ get_or t i d
  same_at d = rw (add-zero i) at (sym (get_or-drop i s 0 d) ∙ ap (λ (l : List A). get_or l 0 d) e ∙ get_or-drop i t 0 d)

  pub further : (k : ℕ) → i ≤ k → drop k s ≡ drop k t
  further k h = let z : i + (k - i) ≡ k = omega arith in rw z at (sym (drop-drop (k - i) i s) ∙ ap (drop (k - i)) e ∙ drop-drop (k - i) i t)
