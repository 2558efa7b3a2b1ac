-- A slice copied, one element a turn. Assumes nothing.
use mathlib.Core.Path.{◌≡◌, ◌∙◌}
use mathlib.Core.List.{List, append-nil}
use Prim.Native.Nat.{ℕ, ◌+◌, ◌<◌, ◌≤◌}
use native.Mathlib.Omega.{arith}
use lib.ListN.{length, take, get_or, set, drop_of_length-le}
use lib.Seq.{take_all, length-take-le}
use Rattle.base.specs.Lists.{over}
use Rattle.base.proofs.Over.{over-set}
use Rattle.sheet.proofs.Front.{take_next}

module _ {A : Type 0} (from before : List A) {to : List A} (i : ℕ) (e : to ≡ over (take i from) before) where
  pub copied_next : (d : A) → i < length from → length from ≡ length before
      → set to i (get_or from i d) ≡ over (take (i + 1) from) before
  copied_next d h q =
      rw (e, take_next from i d h)
      (over-set (take i from) before i (get_or from i d) (length-take-le i from (omega arith)) (omega arith))

  pub copied_all : i ≤ length from → length from ≤ i → length from ≡ length before → to ≡ from
  unfolding over
  copied_all h k q =
      e ∙ rw (take_all i from k, drop_of_length-le before {i = length from} (omega arith), append-nil from)
