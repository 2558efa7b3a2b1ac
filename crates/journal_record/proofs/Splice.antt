-- Runs written one after the other: `splice l at v` has v over l from `at` on, and `over f l` has f in front. Assumes nothing.
use mathlib.Core.Path.{◌≡◌, sym, ap, ◌∙◌}
use mathlib.Core.List.{List, [], ◌++◌, append_assoc, append-nil}
use Prim.Native.Nat.{ℕ, ◌+◌, ◌-◌, ◌/◌, ◌%◌, ◌^◌, ◌≤◌}
use lib.ListN.{length, take, drop, length-append, take-append-drop}
use lib.Seq.{sets, sets-eq, drop-drop, length-take-le}
use native.Mathlib.Omega.{arith}
use borrow.Rule.Slice.PartMut.{put_mid}
use Rattle.base.specs.Lists.{over}
use Rattle.base.proofs.Over.{joined, length_over, over-lent}
use Rattle.journal_record.specs.Bytes.{le, splice}
use Rattle.journal_record.proofs.LittleEndian.{length-le, le-add, le-mod}

module _ {A : Type 0} where
  -- a run behind the front
  pub over-then : (f g l s t : List A) (n : ℕ) → length f ≡ n → s ≡ over f l → t ≡ splice s n g → t ≡ over (f ++ g) l
  unfolding splice
  over-then f g l s t n e p q = q ∙ ap (λ (x : List A). splice x n g) p ∙ joined f g l n e

  -- a run with what stood before it as the front
  as-front : (l v : List A) (at : ℕ) → at ≤ length l → splice l at v ≡ over (take at l ++ v) l
  unfolding splice over
  as-front l v at h =
      rw (drop-drop, length-append, length-take-le at l h) (sym (append_assoc (take at l) v (drop (at + length v) l)))

  pub length-splice : (l v : List A) (at : ℕ) → at + length v ≤ length l → length (splice l at v) ≡ length l
  length-splice l v at h =
      rw (as-front l v at (omega arith))
      (length_over (take at l ++ v) l (rw (length-append, length-take-le at l (omega arith)) h))

  pub splice-none : (l : List A) (at : ℕ) → l ≡ splice l at []
  unfolding splice over
  splice-none l at = sym (take-append-drop at l)

  -- `&mut l[at..]` lent to a callee that wrote v over it
  pub splice-lent : (l v part : List A) (at : ℕ) → at ≤ length l → part ≡ over v (take (length l - at) (drop at l)) → put_mid at (length l - at) l part ≡ splice l at v
  splice-lent l v part at h e =
      let front : l ≡ over (take at l) l = splice-none l at ∙ as-front l [] at h ∙ ap (λ (f : List A). over f l) (append-nil (take at l)) in
      over-lent (take at l) v l l part at (length-take-le at l h) front e ∙ sym (as-front l v at h)

  -- stores in a row
  pub splice-sets : (v l : List A) (at : ℕ) → at + length v ≤ length l → sets l at v ≡ splice l at v
  unfolding splice over
  splice-sets v l at h = sets-eq v l at h ∙ rw drop-drop (append_assoc (take at l) v (drop (at + length v) l))

  -- a run, and one right after it
  pub splice-then : (l s t a b : List A) (at n : ℕ) → at ≤ length l → at + length a ≡ n → s ≡ splice l at a → t ≡ splice s n b → t ≡ splice l at (a ++ b)
  splice-then l s t a b at n h e p q =
      let e' : length (take at l ++ a) ≡ n = length-append (take at l) a ∙ rw (length-take-le at l h) e in
      over-then (take at l ++ a) b l s t n e' (p ∙ as-front l a at h) q
      ∙ ap (λ (f : List A). over f l) (append_assoc (take at l) a b)
      ∙ sym (as-front l (a ++ b) at h)

-- a number's lower bytes, and then its upper ones
pub splice-halves : (j k v : ℕ) (l s t : List ℕ) (at : ℕ) → at ≤ length l → s ≡ splice l at (le j (v % 256 ^ j)) → t ≡ splice s (at + j) (le k (v / 256 ^ j)) → t ≡ splice l at (le (j + k) v)
splice-halves j k v l s t at h p q =
    rw (le-add j k v) (splice-then l s t (le j v) (le k (v / 256 ^ j)) at (at + j) h (rw length-le) (rw le-mod at p) q)
