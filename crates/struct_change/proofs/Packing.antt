-- A list packed into a buffer of numbers, as far as that has places. Assumes nothing.
use mathlib.Core.Path.{◌≡◌, sym, ap, ◌∙◌}
use mathlib.Core.List.{List, ◌++◌, append-nil}
use Prim.Native.Nat.{ℕ, min}
use native.Mathlib.Omega.{arith}
use native.Mathlib.Decide.{dec_lt}
use lib.ListN.{length, take, drop, drop_of_length-le}
use lib.Seq.{take_all, length-take-le, take-append-le}
use Rattle.base.specs.Lists.{over}
use Rattle.change_list.specs.Listed.{InScratch}

-- ---- the list in the buffer, as far as that has places
pub packed-front : (list flat zs : List ℕ) (n m : ℕ) → length list ≡ n → m ≡ min n (length flat) → length zs ≡ length flat → zs ≡ over (take m list) flat → take n zs ≡ take (length zs) list
unfolding over
packed-front list flat zs n m e q l d = elim (dec_lt n (length flat)) [
  | yes h ↦
      let k : m ≡ n = omega arith in
      let is : zs ≡ list ++ drop (length list) flat = d ∙ ap (λ (r : List ℕ). r ++ drop (length r) flat) (take_all m list (omega arith)) in
      ap (take n) is ∙ take-append-le n list _ (omega arith) ∙ take_all n list (omega arith) ∙ sym (take_all (length zs) list (omega arith))
  | no h ↦
      let k : m ≡ length flat = omega arith in
      let here : length (take m list) ≡ m = length-take-le m list (omega arith) in
      let is : zs ≡ take m list = d ∙ ap (λ (r : List ℕ). take m list ++ r) (drop_of_length-le flat {i = length (take m list)} (omega arith)) ∙ append-nil (take m list) in
      ap (take n) is ∙ take_all n (take m list) (omega arith) ∙ ap (λ (i : ℕ). take i list) (k ∙ sym l)
]

-- what a call answers of it
pub told : {B : Type 0} (call : ℕ → List ℕ → List ℕ → B) {leaves : List ℕ → B} {c places : ℕ} (list flat zs ws : List ℕ) (n m : ℕ)
    → ((l : List ℕ) → length l ≡ n → take n zs ≡ take (length zs) l → InScratch c places ws leaves (call (length zs) l))
    → length list ≡ n → m ≡ min n (length flat) → length zs ≡ length flat → zs ≡ over (take m list) flat → InScratch c places ws leaves (call (length flat) list)
told call list flat zs ws n m f e q l d = rw (← l) (f list e (packed-front list flat zs n m e q l d))
