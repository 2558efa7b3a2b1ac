-- Bytes, of which each is a number of its own, copied all at once. Assumes nothing.
use mathlib.Core.Path.{◌≡◌, refl, sym, ap}
use mathlib.Core.List.{List, [], ◌∷◌}
use Prim.Native.Nat.{ℕ, zero, suc, ◌+◌, ◌≤◌}
use native.Mathlib.Omega.{arith}
use borrow.Rule.Slice.PartMut.{put_mid}
use lib.ListN.{length, take, drop, get_or}
use Rattle.base.specs.Lists.{over}
use Rattle.base.proofs.Scan.{drop-next}
use Rattle.journal_record.specs.Bytes.{splice}
use Rattle.journal_record.proofs.Splice.{length-splice, splice-none, splice-then}
use Rattle.c_form.specs.Fields.{read_from, write_from}
use Rattle.c_form.specs.Flat.{byte_in, byte_over}

pub bytes-read : (b : List ℕ) (at n : ℕ) → at + n ≤ length b → take n (drop at b) ≡ read_from 1 byte_in at n b
unfolding read_from
bytes-read b at zero h = refl
bytes-read b at (suc n) h = rw (drop-next b at 0 (omega arith)) (ap (λ r. get_or b at 0 ∷ r) (bytes-read b (at + 1) n (omega arith)))

-- as many of them as n, by a range
pub part-read : (b : List ℕ) (at m n : ℕ) → m ≡ n → at + n ≤ length b → take m (drop at b) ≡ read_from 1 byte_in at n b
part-read b at m n e h = rw e (bytes-read b at n h)

pub bytes-written : (xs b : List ℕ) (at : ℕ) → at + length xs ≤ length b → splice b at xs ≡ write_from 1 byte_over at xs b
unfolding write_from
bytes-written [] b at h = sym (splice-none b at)
bytes-written (x ∷ xs) b at h =
    let n : length (splice b at (x ∷ [])) ≡ length b = length-splice b (x ∷ []) at (omega arith) in
    sym (splice-then b _ _ (x ∷ []) xs at (at + 1) (omega arith) refl refl (sym (bytes-written xs (splice b at (x ∷ [])) (at + 1) (omega arith))))

-- a part, copied over
pub part-spliced : (b xs : List ℕ) (at k : ℕ) → length xs ≡ k → put_mid at k b xs ≡ splice b at xs
unfolding splice over
part-spliced b xs at k e = rw (← e)
