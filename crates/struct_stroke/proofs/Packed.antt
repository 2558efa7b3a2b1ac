-- What `normalize` answers of the first n numbers of a buffer, which a list is packed into. Assumes nothing.
use mathlib.Core.Path.{◌≡◌, ◌∙◌}
use mathlib.Core.List.{List}
use Prim.Native.Nat.{ℕ, ◌<◌, ◌≤◌, min}
use native.Mathlib.Omega.{arith}
use native.Mathlib.Decide.{dec_lt}
use borrow.Author.Tests.{lt-ltb, le-ltb}
use lib.Dec.{ltb}
use lib.ListN.{length, take}
use lib.Seq.{take_all}
use Rattle.base.specs.Limits.{max_changes}
use Rattle.base.specs.Answer.{filled, Told, leaving, count_told}
use Rattle.base.specs.declared.Counted.TheVariants.{Refused}
use Rattle.change_list.specs.Listed.{InScratch}
use Rattle.change_list.proofs.InScratch.{scratch-none, scratch-then}
use Rattle.change_op.specs.Op.{normalize_checks, normalize_call}
use Rattle.change_op.proofs.Normalizing.{normalize-long, normalize-short}

-- what has n places has them where the lesser has
least-test : (a b n : ℕ) → n ≤ a → ltb b n ≡ ltb (min a b) n
least-test a b n k = elim (dec_lt b n) [
  | yes h ↦ rw (lt-ltb b n h, lt-ltb (min a b) n (omega arith))
  | no h ↦ rw (le-ltb b n (omega arith), le-ltb (min a b) n (omega arith))
]

module _ (flat list : List ℕ) (n room : ℕ) {places : ℕ} {s : List ℕ} (e : length list ≡ n) (q : take n flat ≡ take (length flat) list) where
  pub first-long : max_changes < n → InScratch 0 places s (filled (Refused 21)) (normalize_call (min (length flat) room) list)
  first-long h = scratch-none (λ out k. normalize-long (min (length flat) room) list out (omega arith))

  module _ (h : n ≤ max_changes) where
    pub first_short : length flat < n → InScratch 0 places s (filled (Refused 16)) (normalize_call (min (length flat) room) list)
    first_short k = scratch-none (λ out j. normalize-short (min (length flat) room) list out (omega arith) (omega arith))

    pub first_done : n ≤ length flat → {a : Told ℕ} → InScratch (count_told a) places s (leaving a) (normalize_call room (take n flat)) → InScratch (count_told a) places s (leaving a) (normalize_call (min (length flat) room) list)
    unfolding normalize_call normalize_checks
    first_done k c =
        let is : take n flat ≡ list = q ∙ take_all (length flat) list (omega arith) in
        scratch-then c (λ out after j d. (rw (is, least-test (length flat) room (length list) (omega arith)) at d))
