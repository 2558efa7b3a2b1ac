-- A list handed out of scratch, and what a call answers then. Assumes nothing.
use Prim.Native.Nat.{ℕ, ◌≤◌, ◌<◌}
use mathlib.Core.Path.{◌≡◌, ap, ◌∙◌}
use mathlib.Core.List.{List, map}
use borrow.Author.Tests.{lt-ltb, le-ltb}
use lib.ListN.{length, take}
use lib.Seq.{length-take-le}
use Rattle.base.specs.Checks.{Check, first_of, refused_or}
use Rattle.base.specs.Answer.{Told, leaving, filled}
use Rattle.base.specs.declared.Counted.TheVariants.{Count, Refused}
use Rattle.base.proofs.First.{refused-first, result-first}
use Rattle.base.specs.Lists.{over}
use Rattle.edit.specs.Change.{Change, packed}
use Rattle.change_list.specs.Fronts.{Front}
use Rattle.change_list.specs.Listed.{handed, listed}

module _ (s out : List ℕ) (n : ℕ) (h : n ≤ length s) where
  pub handed-full : length out < n → filled (Refused 16) out ≡ handed (take n s) out
  unfolding handed first_of refused_or
  handed-full k = rw (length-take-le n s h, lt-ltb (length out) n k)

  pub handed-done : {m : List ℕ} → n ≤ length out → m ≡ over (take n s) out → filled (Count n) m ≡ handed (take n s) out
  unfolding handed first_of refused_or
  handed-done k e = rw (length-take-le n s h, le-ltb (length out) n k, e)

module _ (checks : List Check) (cs : List Change) (out : List ℕ) where
  pub listed-refused : (n : ℕ) → n ≡ first_of checks → (n ≡ 0 → ⊥) → filled (Refused n) out ≡ listed checks cs out
  unfolding listed
  listed-refused n e h = refused-first checks (λ m. filled (Refused m) out) (handed (map packed cs) out) n e h

  -- the list stood at the front of the scratch
  pub listed-done : {a : Told ℕ} {s m : List ℕ} {n : ℕ} → first_of checks ≡ 0 → Front (map packed cs) s n → leaving a m ≡ handed (take n s) out
      → leaving a m ≡ listed checks cs out
  unfolding listed
  listed-done e f d = d ∙ ap (λ (l : List ℕ). handed l out) f.front ∙ result-first checks (λ m. filled (Refused m) out) (handed (map packed cs) out) e
