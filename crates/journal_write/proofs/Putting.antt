-- The loop that writes changes one after the other: those before the i-th stand behind each other from `at` on. Assumes nothing.
use Prim.Native.Nat.{ℕ, ◌+◌, ◌*◌, ◌≤◌, ◌<◌}
use mathlib.Core.Path.{◌≡◌, refl, ap, ◌∙◌}
use mathlib.Core.List.{List, ◌++◌, flat_map}
use native.Mathlib.Numerals.{add-one}
use native.Mathlib.Omega.{arith}
use lib.ListN.{length, take, get_or}
use lib.Seq.{take-suc, take_all, length-take-le}
use Rattle.base.specs.declared.Form.{Form}
use Rattle.edit.specs.Change.{Change}
use Rattle.base.proofs.Collect.{flat_map-append, flat_map-one}
use Rattle.journal_record.specs.Bytes.{splice}
use Rattle.journal_record.specs.Record.{stride, change_bytes}
use Rattle.journal_record.proofs.Splice.{length-splice, splice-none, splice-then}
use Rattle.journal_record.proofs.Strides.{change-fits}
use Rattle.journal_write.proofs.Changes.{length-change, length-changes}

module _ (f : Form) (w : ℕ) (part : List ℕ) (at : ℕ) (cs : List Change) where
  pub record Putting (l : List ℕ) (i : ℕ) : Type 0 where
    pub same_length : length l ≡ length part
    pub written : l ≡ splice part at (flat_map (change_bytes f w) (take i cs))

  pub putting-none : Putting part 0
  unfolding flat_map
  putting-none = record { same_length = refl; written = splice-none part at }

  -- the i-th of n changes has room, and is written
  pub putting-room : (n i : ℕ) (l : List ℕ) → (0 < n → at + stride f * n ≤ length part) → Putting l i → i < n → at + stride f * i + stride f ≤ length l
  putting-room n i l roomy p h = rw p.same_length (change-fits f at n i (length part) h (roomy (omega arith)))

  pub putting-next : (d : Change) (n i : ℕ) (c : Change) (l s : List ℕ) → length cs ≡ n → (0 < n → at + stride f * n ≤ length part) → Putting l i → i < n
      → c ≡ get_or cs i d → s ≡ splice l (at + stride f * i) (change_bytes f w c) → Putting s (i + 1)
  putting-next d n i c l s count roomy p h e q =
      let room : at + stride f * i + stride f ≤ length l = putting-room n i l roomy p h in
      let first : List ℕ = flat_map (change_bytes f w) (take i cs) in
      let one : List ℕ = change_bytes f w (get_or cs i d) in
      let start : at + length first ≡ at + stride f * i = rw (length-changes, length-take-le i cs (omega arith)) in
      let long : length one ≡ stride f = length-change f w (get_or cs i d) in
      let put : s ≡ splice l (at + stride f * i) one = rw e at q in
      let next : first ++ one ≡ flat_map (change_bytes f w) (take (i + 1) cs) = rw (add-one, take-suc cs i d (omega arith), flat_map-append, flat_map-one) in
      record {
        same_length = ap length put ∙ length-splice l one (at + stride f * i) (rw long room) ∙ p.same_length;
        written = splice-then part l s first one at (at + stride f * i) (omega (arith, p.same_length)) start p.written put ∙ ap (splice part at) next;
      }

  pub putting-all : (l : List ℕ) (i : ℕ) → Putting l i → length cs ≤ i → l ≡ splice part at (flat_map (change_bytes f w) cs)
  putting-all l i p h = rw (take_all i cs h) at p.written
