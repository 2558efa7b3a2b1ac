-- Loops that write a list from the front, n elements so far: what is written, then what stood there. Assumes nothing.
use mathlib.Core.Path.{◌≡◌, sym, ap, ◌∙◌}
use mathlib.Core.List.{List, [], ◌∷◌, ◌++◌}
use Prim.Native.Nat.{ℕ, ◌+◌, ◌<◌, ◌≤◌}
use native.Mathlib.Omega.{arith}
use native.Mathlib.Numerals.{add-one}
use lib.ListN.{length, take, drop, get_or, length-append, length-drop}
use lib.Seq.{take-suc, take_at, sets, sets-eq, drop-append-add, drop-drop}

module _ {A : Type 0} where
  -- one element more of what is read
  pub take_next : (l : List A) (i : ℕ) (d : A) → i < length l → take (i + 1) l ≡ take i l ++ (get_or l i d ∷ [])
  take_next l i d h = rw (add-one, take-suc l i d h)

  -- what stands past the front keeps
  drop_past : (w d : List A) (n m : ℕ) → length w ≡ n → drop (n + m) (w ++ drop n d) ≡ drop (n + m) d
  drop_past w d n m e = ap (λ (k : ℕ). drop (k + m) (w ++ drop n d)) (sym e) ∙ drop-append-add w (drop n d) m ∙ drop-drop m n d

  -- the next elements are stored
  pub written : (w vs d : List A) (n : ℕ) → length w ≡ n → n + length vs ≤ length d → sets (w ++ drop n d) n vs ≡ w ++ vs ++ drop (n + length vs) d
  written w vs d n e h =
      sets-eq vs (w ++ drop n d) n (simp (length-append, length-drop) (omega arith))
      ∙ rw (take_at w (drop n d) n e, drop_past w d n (length vs) e)
