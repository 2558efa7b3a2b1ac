-- A line without its newline. Assumes nothing.
use mathlib.Core.Path.{◌≡◌, refl}
use mathlib.Core.List.{List, [], ◌∷◌, ◌++◌}
use Prim.Native.Nat.{ℕ, ◌+◌, ◌-◌}
use native.Mathlib.Omega.{arith}
use borrow.Author.Tests.{eq-eqb}
use lib.ListN.{length, get_or, length-append}
use lib.Seq.{take_at, get_or-append-add}
use Rattle.panel_read.specs.ReadSheet.{bare}

-- a text and its newline
pub bare-again : (l : List ℕ) → bare (l ++ (10 ∷ [])) ≡ l
unfolding bare
bare-again l =
    let n : length (l ++ (10 ∷ [])) - 1 ≡ length l = omega (arith, length-append l (10 ∷ [])) in
    let m : length (l ++ (10 ∷ [])) - 1 ≡ length l + 0 = omega arith in
    let e : get_or (l ++ (10 ∷ [])) (length (l ++ (10 ∷ [])) - 1) 0 ≡ 10 = rw m (get_or-append-add l (10 ∷ []) 0 0) in
    rw (eq-eqb _ 10 e, n) (take_at l (10 ∷ []) (length l) refl)
