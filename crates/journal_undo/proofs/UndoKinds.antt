-- Undo of a record by its kind: when it is taken, what its steps ask, and that they make the sheet that undo makes. Assumes nothing.
use mathlib.Core.Path.{◌≡◌, sym, ◌∙◌}
use mathlib.Core.Bool.{Bool, true, false, not, beq}
use mathlib.Core.List.{List, [], map}
use Prim.Native.Nat.{ℕ, ◌+◌, ◌-◌, ◌*◌, ◌<◌, ◌≤◌}
use native.Mathlib.Numerals.{add-one}
use native.Mathlib.Omega.{arith}
use borrow.Author.Tests.{ltb-true, leb-true, not-true}
use lib.Dec.{leb}
use lib.IntN.{ℤ}
use lib.Ieee.{Float}
use lib.ListN.{get_or}
use Rattle.base.specs.declared.Form.{Form}
use Rattle.base.specs.declared.Form.TheVariants.{Coordinates}
use Rattle.base.specs.declared.Rgb.{Rgb}
use Rattle.base.specs.declared.Lab.{Lab}
use Rattle.base.specs.Lists.{some}
use Rattle.base.proofs.Bools.{and_left, and_right}
use Rattle.sheet.specs.Sheet.{Sheet, sheet_of}
use Rattle.sheet.specs.Checks.{WellFormed}
use Rattle.base.specs.declared.Edit.{Edit}
use Rattle.base.specs.declared.Edit.TheVariants.{Pixels, PaletteSet, PaletteAdd, PaletteRemove, PaletteLock}
use Rattle.edit.specs.Change.{Change, outside, painted, old_of}
use Rattle.edit.specs.Storage.{bytes_of, numbers_of, stored, reinserted, raised}
use Rattle.edit.specs.Apply.{reverted, can_revert}
use Rattle.edit.specs.Locks.{lock_at, locks_back, bears}
use Rattle.edit_locks.specs.Movable.{MarkIn, Undoable}
use Rattle.journal_record.specs.Record.{rgb_in, lab_in, mark_in, changes_in, by_kind}
use Rattle.journal_read.specs.Sound.{undoable}
use Rattle.journal_read.specs.Lies.{edit_at, changes_at, Lies}
use Rattle.journal_read.proofs.Rooms.{lies-bare}
use Rattle.journal_undo.specs.UndoTests.{pixels_back, set_back, remove_back, lock_back}
use Rattle.journal_undo.proofs.UndoTests.{undo-pixels, undo-set, undo-remove, undo-lock}

-- what is known of a removal that undo takes
pub record Returns (s : Sheet) (i : ℕ) (cs : List Change) : Type 0 where
  pub entry : i ≤ s.k
  pub inside : some (outside s.w s.h) cs ≡ false
  pub room : s.k < 255

removed : (s : Sheet) (i : ℕ) (cs : List Change) (x : Lab) → remove_back s.w s.h s.k s.indices i x cs ≡ true → Returns s i cs
unfolding remove_back
removed s i cs x a =
    let b = and_right (leb i s.k) _ a in
    let c = and_right (not (some (outside s.w s.h) cs)) _ b in
    record { entry = leb-true i s.k (and_left _ _ a); inside = not-true _ (and_left _ _ b); room = ltb-true s.k 255 (and_left _ _ c) }

-- whether undo takes the record, the sheet that it leaves, and the entry of a set or a removal
abbrev pub takes : Sheet → List Bool → Form → List ℕ → ℕ → ℕ → ℕ → Bool
takes s locks form journal kind start count = undoable s locks (edit_at journal kind start) (changes_at form s.w journal kind start count)

abbrev pub leaves : Sheet → Form → List ℕ → ℕ → ℕ → ℕ → Sheet
leaves s form journal kind start count = reverted s (edit_at journal kind start) (changes_at form s.w journal kind start count)

abbrev pub entry_in : List ℕ → ℕ → ℕ
entry_in journal start = get_or journal (start + 1) 0

module _ {s : Sheet} (f : WellFormed s) (locks : List Bool) (form : Form) (journal : List ℕ) {kind : ℕ} (start count : ℕ) where
  module _ (e : kind ≡ 1) where
    pixels-test : takes s locks form journal kind start count ≡ pixels_back s.w s.h s.k s.indices (changes_in form s.w journal (start + 6) count)
    unfolding edit_at changes_at by_kind
    pixels-test = rw e (undo-pixels s f locks (entry_in journal start) (changes_in form s.w journal (start + 6) count))

    pub pixels-takes : {r : Bool} → r ≡ pixels_back s.w s.h s.k s.indices (changes_in form s.w journal (start + 6) count) → r ≡ takes s locks form journal kind start count
    pixels-takes q = q ∙ sym pixels-test

    pub pixels-inside : takes s locks form journal kind start count ≡ true → some (outside s.w s.h) (changes_in form s.w journal (start + 6) count) ≡ false
    unfolding pixels_back
    pixels-inside t = not-true _ (and_left _ _ (sym pixels-test ∙ t))

    pub pixels-leaves : {l : List ℤ} → l ≡ painted old_of s.w (changes_in form s.w journal (start + 6) count) s.indices → sheet_of s.w s.h s.k s.palette s.lab l ≡ leaves s form journal kind start count
    unfolding edit_at changes_at by_kind reverted
    pixels-leaves q = rw (e, q)

  module _ (e : kind ≡ 2) where
    set-test : takes s locks form journal kind start count ≡ set_back s.k (entry_in journal start) (lab_in journal (start + 8))
    unfolding edit_at changes_at by_kind
    set-test = rw e (undo-set s f locks (entry_in journal start) (rgb_in journal (start + 2)) (rgb_in journal (start + 5)) (lab_in journal (start + 8)) [])

    pub set-takes : {r : Bool} → r ≡ set_back s.k (entry_in journal start) (lab_in journal (start + 8)) → r ≡ takes s locks form journal kind start count
    set-takes q = q ∙ sym set-test

    pub set-entry : takes s locks form journal kind start count ≡ true → entry_in journal start < s.k
    unfolding set_back
    set-entry t = ltb-true (entry_in journal start) s.k (and_left _ _ (sym set-test ∙ t))

    pub set-leaves : {p : List ℕ} {m : List Float} → p ≡ stored (3 * (entry_in journal start)) (bytes_of (rgb_in journal (start + 2))) s.palette
        → m ≡ stored (3 * (entry_in journal start)) (numbers_of (lab_in journal (start + 8))) s.lab → sheet_of s.w s.h s.k p m s.indices ≡ leaves s form journal kind start count
    unfolding edit_at changes_at by_kind reverted
    set-leaves p q = rw (e, p, q)

  module _ (e : kind ≡ 3) where
    pub add-takes : {r : Bool} → ((l : List Bool) (c : Rgb) → r ≡ undoable s l (PaletteAdd c) []) → r ≡ takes s locks form journal kind start count
    unfolding edit_at changes_at by_kind
    add-takes q = rw e (q locks (rgb_in journal (start + 1)))

    pub add-entry : takes s locks form journal kind start count ≡ true → 0 < s.k
    unfolding edit_at changes_at by_kind undoable can_revert bears
    add-entry t = ltb-true 0 s.k (and_left _ _ (rw e at t))

    pub add-leaves : sheet_of s.w s.h (s.k - 1) s.palette s.lab s.indices ≡ leaves s form journal kind start count
    unfolding edit_at changes_at by_kind reverted
    add-leaves = rw e

  module _ (e : kind ≡ 4) where
    remove-test : takes s locks form journal kind start count ≡ remove_back s.w s.h s.k s.indices (entry_in journal start) (lab_in journal (start + 5)) (changes_in form s.w journal (start + 33) count)
    unfolding edit_at changes_at by_kind
    remove-test = rw e (undo-remove s f locks (entry_in journal start) (rgb_in journal (start + 2)) (lab_in journal (start + 5)) (changes_in form s.w journal (start + 33) count))

    pub remove-takes : {r : Bool} → r ≡ remove_back s.w s.h s.k s.indices (entry_in journal start) (lab_in journal (start + 5)) (changes_in form s.w journal (start + 33) count) → r ≡ takes s locks form journal kind start count
    remove-takes q = q ∙ sym remove-test

    pub remove-returns : takes s locks form journal kind start count ≡ true → Returns s (entry_in journal start) (changes_in form s.w journal (start + 33) count)
    remove-returns t = removed s (entry_in journal start) (changes_in form s.w journal (start + 33) count) (lab_in journal (start + 5)) (sym remove-test ∙ t)

    pub remove-leaves : {p : List ℕ} {m : List Float} {l : List ℤ} → p ≡ reinserted (3 * (entry_in journal start)) (3 * s.k) (bytes_of (rgb_in journal (start + 2))) s.palette
        → m ≡ reinserted (3 * (entry_in journal start)) (3 * s.k) (numbers_of (lab_in journal (start + 5))) s.lab
        → l ≡ painted old_of s.w (changes_in form s.w journal (start + 33) count) (map (raised (entry_in journal start)) s.indices) → sheet_of s.w s.h (s.k + 1) p m l ≡ leaves s form journal kind start count
    unfolding edit_at changes_at by_kind reverted
    remove-leaves p q r = rw (e, p, q, r, add-one s.k)

  module _ (e : kind ≡ 5) where
    lock-test : takes s locks form journal kind start count ≡ lock_back s.k locks (entry_in journal start) (mark_in journal (start + 3))
    unfolding edit_at changes_at by_kind
    lock-test = rw e (undo-lock s f locks (entry_in journal start) (mark_in journal (start + 2)) (mark_in journal (start + 3)) [])

    pub lock-takes : {r : Bool} → r ≡ lock_back s.k locks (entry_in journal start) (mark_in journal (start + 3)) → r ≡ takes s locks form journal kind start count
    lock-takes q = q ∙ sym lock-test

    pub lock-leaves : sheet_of s.w s.h s.k s.palette s.lab s.indices ≡ leaves s form journal kind start count
    unfolding edit_at changes_at by_kind reverted
    lock-leaves = rw e

-- a lock has no changes
pub lock-lies : {form : Form} {journal : List ℕ} {kind start count : ℕ} → Lies form journal kind start count → kind ≡ 5 → Lies Coordinates journal 5 start 0
lock-lies {form} {journal} {start = start} l e = lies-bare form journal start (rw e at l)

-- its entry's mark, as its edit is read
module _ (journal : List ℕ) (start : ℕ) {edit : Edit} (edit-is : edit ≡ edit_at journal 5 start) where
  pub lock-marked : (n : ℕ) → entry_in journal start < n → MarkIn n edit
  unfolding edit_at by_kind MarkIn
  lock-marked n h = rw edit-is h

  pub lock-bears : (locks : List Bool) {r : Bool} → r ≡ bears locks edit → r ≡ beq (lock_at locks (entry_in journal start)) (mark_in journal (start + 3))
  unfolding edit_at by_kind bears
  lock-bears locks q = q ∙ rw edit-is

-- ---- n marks, which undo moves with their entries
marks-back : (s : Sheet) → WellFormed s → (locks : List Bool) (e : Edit) (cs : List Change) → undoable s locks e cs ≡ true → (n : ℕ) → n ≡ 255 → Undoable s.k n e
unfolding Undoable remove_back lock_back
marks-back s f locks (Pixels tool) cs t n q = tt
marks-back s f locks (PaletteSet i old new x) cs t n q = tt
marks-back s f locks (PaletteAdd c) cs t n q = tt
marks-back s f locks (PaletteRemove i c x) cs t n q =
    let b = removed s i cs x (sym (undo-remove s f locks i c x cs) ∙ t) in (b.entry, omega (arith, q, b.room))
marks-back s f locks (PaletteLock i old new) cs t n q =
    let b : i < s.k = ltb-true i s.k (and_left _ _ (sym (undo-lock s f locks i old new cs) ∙ t)) in omega (arith, q, b, f.limits.k-small)

module _ (journal : List ℕ) (kind start : ℕ) {edit : Edit} (edit-is : edit ≡ edit_at journal kind start) where
  pub marks-undo : (form : Form) (s : Sheet) → WellFormed s → (locks : List Bool) (count : ℕ) → takes s locks form journal kind start count ≡ true → (n : ℕ) → n ≡ 255 → Undoable s.k n edit
  marks-undo form s f locks count t n q = rw edit-is (marks-back s f locks (edit_at journal kind start) (changes_at form s.w journal kind start count) t n q)

  pub marks-undone : (k : ℕ) (locks : List Bool) {marks : List Bool} → marks ≡ locks_back k locks edit → marks ≡ locks_back k locks (edit_at journal kind start)
  marks-undone k locks q = q ∙ rw edit-is
