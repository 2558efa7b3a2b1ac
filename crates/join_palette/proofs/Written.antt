-- A loop that writes from the front, one element a turn. Assumes nothing.
use mathlib.Core.Path.{◌≡◌, sym, ap, ◌∙◌}
use mathlib.Core.List.{List, map, append-nil}
use Prim.Native.Nat.{ℕ, ◌+◌, ◌<◌, ◌≤◌}
use native.Mathlib.Omega.{arith}
use lib.ListN.{length, take, get_or, set, length-map, drop_of_length-le}
use lib.Seq.{take_all, length-take-le}
use Rattle.std.proofs.lemmas.List.{map_more}
use Rattle.base.specs.Lists.{over}
use Rattle.base.proofs.Over.{over-set}

module _ {A B : Type 0} (g : B → A) (d : B) (from : List B) where
  pub one-is : (out before : List A) (j : ℕ) (x : A) → out ≡ over (map g (take j from)) before → x ≡ g (get_or from j d)
      → j < length from → j < length before
      → set out j x ≡ over (map g (take (j + 1) from)) before
  one-is out before j x e q h k =
      rw (e, q)
      (over-set (map g (take j from)) before j (g (get_or from j d))
      (length-map (take j from) g ∙ length-take-le j from (omega arith)) k
      ∙ ap (λ l. over l before) (sym (map_more g from j d h)))

  -- all of it: as long as what it is written over
  pub one-all : (out : List A) (j : ℕ) → j ≤ length from → length from ≤ j → length from ≡ length out
      → over (map g (take j from)) out ≡ map g from
  unfolding over
  one-all out j h k e =
      rw (take_all j from k, length-map from g, drop_of_length-le out {i = length from} (omega arith)) (append-nil (map g from))
