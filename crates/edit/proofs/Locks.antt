-- The marks after an accepted edit are the ledger's, and its undo gives back those before it. Assumes nothing.
use mathlib.Core.Path.{◌≡◌, refl, sym, ap, ◌∙◌}
use mathlib.Core.Bool.{Bool, true, false, beq}
use mathlib.Core.List.{List, [], ◌∷◌, ◌++◌, append_assoc}
use Prim.Native.Nat.{ℕ, zero, suc, ◌+◌, ◌-◌, ◌≤◌, ◌<◌}
use native.Mathlib.Nat.{not-suc-le-zero, le_of_suc-le-suc}
use native.Mathlib.Omega.{arith}
use lib.ListN.{length, take, drop, get_or, set}
use lib.Seq.{get_or-take, length-take-le, sets-eq, get_or-set_same}
use Rattle.base.specs.declared.Rgb.{Rgb}
use Rattle.base.specs.declared.Lab.{Lab}
use Rattle.sheet.specs.Sheet.{Sheet, view}
use Rattle.base.specs.declared.Edit.{Edit}
use Rattle.base.specs.declared.Edit.TheVariants.{Pixels, PaletteSet, PaletteAdd, PaletteRemove, PaletteLock}
use Rattle.edit.specs.Change.{Change}
use Rattle.edit.specs.Storage.{stored_by, closed_by, reinserted_by, cut_by}
use Rattle.edit.specs.Locks.{lock_at, locks_done, locks_back, next_locks, bears}
use Rattle.edit.specs.List.{filled_list, painted_list}
use Rattle.edit.specs.Apply.{restDone, redone, nextPicture, reverted, filled_edit, filled_changes}
use Rattle.edit.proofs.Passed.{Passed, Unlocked}
use Rattle.edit.proofs.Storage.{entry_by, stored-length, closed-length, opened-length, stored-shows, stored_more, closed-shows, set-undone, add-undone, remove-undone}

-- the mark of an entry as storage has it
entry-is : (l : List Bool) (i : ℕ) → i < length l → entry_by 1 i l ≡ lock_at l i ∷ []
entry-is [] i h = absurd (not-suc-le-zero h)
entry-is (a ∷ l) zero h = refl
entry-is (a ∷ l) (suc i) h = entry-is l i (le_of_suc-le-suc h)

-- a mark stored, and read again
pub mark-stored : (l : List Bool) (i : ℕ) (b : Bool) → i < length l → set l i b ≡ stored_by 1 i (b ∷ []) l
unfolding stored_by
mark-stored l i b h = sets-eq (b ∷ []) l i (omega arith) ∙ append_assoc (take i l) (b ∷ []) (drop (i + 1) l)

stored_there : (i : ℕ) (b : Bool) (l : List Bool) → i < length l → lock_at (stored_by 1 i (b ∷ []) l) i ≡ b
stored_there i b l h = ap (λ (r : List Bool). lock_at r i) (sym (mark-stored l i b h)) ∙ get_or-set_same l i b false h

beq_same : (b : Bool) → beq b b ≡ true
beq_same true = refl
beq_same false = refl

-- 255 marks, of k entries in use
pub record Marks (locks : List Bool) (k : ℕ) : Type 0 where
  pub long : length locks ≡ 255
  pub few : k ≤ 255

module _ (curve : Rgb → Lab) (s : Sheet) (locks : List Bool) (l : Marks locks s.k) where
  pub locks-long : (e : Edit) (cs : List Change) → Passed s e cs → length (locks_done s.k locks e) ≡ 255
  unfolding locks_done
  locks-long (Pixels tool) cs a = l.long
  locks-long (PaletteSet i old new lab) cs a = l.long
  locks-long (PaletteAdd c) cs a = stored-length 1 s.k (false ∷ []) locks refl (omega (arith, l.long)) ∙ l.long
  locks-long (PaletteRemove i c lab) cs a = closed-length 1 i s.k locks (omega (arith, a.entry)) (omega (arith, l.long, l.few)) ∙ l.long
  locks-long (PaletteLock i old new) cs a = stored-length 1 i (new ∷ []) locks refl (omega (arith, l.long, l.few)) ∙ l.long

  pub locks-shown : (e : Edit) (cs : List Change) → Passed s e cs → take (redone curve s e cs).k (locks_done s.k locks e) ≡ next_locks (take s.k locks) e
  unfolding redone restDone painted_list locks_done next_locks
  locks-shown (Pixels tool) cs a = refl
  locks-shown (PaletteSet i old new lab) cs a = refl
  locks-shown (PaletteAdd c) cs a = let n : suc s.k ≡ s.k + 1 = omega arith in rw n (stored_more 1 s.k (false ∷ []) locks refl (omega (arith, l.long)))
  locks-shown (PaletteRemove i c lab) cs a = closed-shows 1 i s.k locks (omega (arith, a.entry)) (omega (arith, l.long, l.few))
  locks-shown (PaletteLock i old new) cs a = stored-shows 1 i s.k (new ∷ []) locks refl (omega arith) (omega (arith, l.long, l.few))

  module _ (t : Sheet) (marks : List Bool) (m : Marks marks t.k) where
    abbrev Back : Edit → List Change → Type 0
    Back e cs = take (reverted t (filled_edit s locks e) (filled_changes s e cs)).k (locks_back t.k marks (filled_edit s locks e)) ≡ take s.k locks

    pub locks-undone : (e : Edit) (cs : List Change) → Passed s e cs → Unlocked locks e → t.k ≡ (nextPicture curve (view s) e cs).k → take t.k marks ≡ next_locks (take s.k locks) e → Back e cs
    unfolding view nextPicture reverted filled_edit filled_changes filled_list locks_back next_locks
    locks-undone (Pixels tool) cs a u k v = v
    locks-undone (PaletteSet i old new lab) cs a u k v = v
    locks-undone (PaletteAdd c) cs a u k v =
        let last : t.k - 1 ≡ s.k = omega (arith, k) in
        let next : t.k ≡ s.k + 1 = omega (arith, k) in
        rw last (add-undone 1 marks locks (false ∷ []) s.k (omega (arith, l.long, l.few)) (rw next at v))
    locks-undone (PaletteRemove i c lab) cs a u k v =
        let fewer : t.k ≡ s.k - 1 = k in
        let next : suc t.k ≡ t.k + 1 = omega arith in
        let old : entry_by 1 i locks ≡ false ∷ [] = entry-is locks i (omega (arith, l.long, l.few, a.entry)) ∙ ap (λ b. b ∷ []) u in
        rw (next, ← old) (remove-undone 1 marks locks i s.k (omega (arith, a.entry)) (omega (arith, l.long, l.few)) t.k fewer (omega (arith, m.long, l.few)) v)
    locks-undone (PaletteLock i old new) cs a u k v =
        let was : entry_by 1 i locks ≡ lock_at locks i ∷ [] = entry-is locks i (omega (arith, l.long, l.few)) in
        rw (k, ← was) (set-undone 1 marks locks i s.k (omega arith) (omega (arith, l.long, l.few)) (new ∷ []) refl (omega (arith, m.long, l.few)) (rw k at v))

    -- and there are 255 of them again
    pub locks-kept : (e : Edit) (cs : List Change) → Passed s e cs → t.k ≡ (nextPicture curve (view s) e cs).k → length (locks_back t.k marks (filled_edit s locks e)) ≡ 255
    unfolding view nextPicture locks_back filled_edit
    locks-kept (Pixels tool) cs a k = m.long
    locks-kept (PaletteSet i old new lab) cs a k = m.long
    locks-kept (PaletteAdd c) cs a k = m.long
    locks-kept (PaletteRemove i c lab) cs a k = opened-length 1 i t.k (false ∷ []) marks refl (omega (arith, k, a.entry, a.two)) (omega (arith, k, m.long, a.two, l.few)) ∙ m.long
    locks-kept (PaletteLock i old new) cs a k = stored-length 1 i _ marks refl (omega (arith, m.long, l.few, a)) ∙ m.long

    -- what undo asks: the entry of a lock bears its new mark
    pub bears-new : (e : Edit) (cs : List Change) → Passed s e cs → t.k ≡ (nextPicture curve (view s) e cs).k → take t.k marks ≡ next_locks (take s.k locks) e
        → bears marks (filled_edit s locks e) ≡ true
    unfolding view nextPicture next_locks bears filled_edit
    bears-new (Pixels tool) cs a k v = refl
    bears-new (PaletteSet i old new lab) cs a k v = refl
    bears-new (PaletteAdd c) cs a k v = refl
    bears-new (PaletteRemove i c lab) cs a k v = refl
    bears-new (PaletteLock i old new) cs a k v =
        let there : i < t.k = omega (arith, k, a) in
        let long : length (take s.k locks) ≡ s.k = length-take-le s.k locks (omega (arith, l.long, l.few)) in
        let is : lock_at marks i ≡ new = sym (get_or-take t.k marks i false there) ∙ ap (λ (r : List Bool). lock_at r i) v ∙ stored_there i new (take s.k locks) (omega (arith, long, a)) in
        rw is (beq_same new)

-- an edit makes the marks that its record makes
pub next-filled : (s : Sheet) (locks l : List Bool) (e : Edit) → next_locks l (filled_edit s locks e) ≡ next_locks l e
unfolding next_locks filled_edit
next-filled s locks l (Pixels tool) = refl
next-filled s locks l (PaletteSet i old new lab) = refl
next-filled s locks l (PaletteAdd c) = refl
next-filled s locks l (PaletteRemove i c lab) = refl
next-filled s locks l (PaletteLock i old new) = refl
