-- One change written, and what writing a list asks of each. Assumes nothing.
use mathlib.Core.Path.{◌≡◌, sym}
use mathlib.Core.List.{List, ◌++◌, append_assoc, append-nil}
use Prim.Native.Nat.{ℕ, ◌+◌, ◌-◌, ◌<◌, ◌≤◌}
use native.Mathlib.Omega.{arith}
use borrow.Rule.Slice.PartMut.{put_mid}
use lib.ListN.{length, take, drop, get_or, length-drop, drop_of_length-le}
use lib.Seq.{take_all, take-add, drop-drop, get_or-take}
use Rattle.base.specs.Lists.{over}
use Rattle.base.specs.declared.Form.{Form}
use Rattle.edit.specs.declared.ListKind.{ListKind}
use Rattle.edit.specs.declared.ListKind.TheVariants.{NoList, PixelList, RemapList}
use Rattle.journal_record.specs.Bytes.{splice}
use Rattle.journal_record.proofs.Strides.{change-fits}
use Rattle.journal_write.specs.List.{Puttable}
use Rattle.base.specs.declared.Change.{Change}
use Rattle.struct_edit.specs.Walk.{flat_of, flat_all, none, PutsOne}
use Rattle.struct_edit.proofs.Told.{told-length, told-inside}

-- `&mut l[a..]` lent to a callee that wrote v from `at` of it on
pub spliced-within : {A : Type 0} (l v part : List A) (a at : ℕ) → part ≡ splice (take (length l - a) (drop a l)) at v → put_mid a (length l - a) l part ≡ splice l (a + at) v
unfolding splice over
spliced-within l v part a at e =
    rw (
      e,
      take_all (length l - a) (drop a l) (simp length-drop (omega arith)),
      drop_of_length-le (drop a l) {i = length l - a} (simp length-drop (omega arith)),
      append-nil (take at (drop a l) ++ (v ++ drop (length v) (drop at (drop a l)))),
      take-add a at l,
      drop-drop at a l,
    )
    (sym (append_assoc (take a l) (take at (drop a l)) (v ++ drop (length v) (drop (a + at) l))))

-- ---- a list: what is asked of all is asked of each
pub puttable-at : (f : Form) (l : ListKind) (list : List Change) (k i offset w n : ℕ) {m o : ℕ} → k ≤ length list → i < k → o ≡ m → Puttable f l w n (m - offset) (flat_all list)
    → PutsOne f l offset o i w n (flat_of (get_or (take k list) i none))
unfolding Puttable PutsOne
puttable-at f NoList list k i offset w n b h q p = tt
puttable-at f PixelList list k i offset w n {m} b h q p =
    let below : i < length list = omega (arith, b, h) in
    let room = rw (told-length list) at (p.0 (rw (told-length list) (omega (arith, below)))) in
    (omega (arith, q, change-fits f 6 (length list) i (m - offset) below room), rw get_or-take (told-inside w n list i p.1 below))
puttable-at f (RemapList j) list k i offset w n {m} b h q p =
    omega (arith, q, change-fits f 33 (length list) i (m - offset) (omega (arith, b, h)) (rw (told-length list) at p))
