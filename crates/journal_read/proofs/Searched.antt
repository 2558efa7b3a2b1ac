-- What a search found lies in the journal: its edit and its changes are those that stand there by its kind, its start and its count. Assumes nothing.
use Prim.Native.Nat.{ℕ, ◌+◌, ◌-◌, ◌≤◌}
use mathlib.Core.Path.{◌≡◌, refl, sym, ap, ap₂, ◌∙◌}
use mathlib.Core.Bool.{Bool, true, false, cond}
use mathlib.Core.List.{List}
use mathlib.Core.Option.{none, some, some-injective}
use native.Mathlib.Omega.{arith}
use borrow.Author.Tests.{leb-true, eqb-true}
use lib.Dec.{leb, eqb}
use lib.ListN.{length, take, drop, length-drop}
use lib.Seq.{length-take-le}
use Rattle.base.specs.declared.Form.{Form}
use Rattle.base.specs.declared.Edit.{Edit}
use Rattle.base.specs.declared.Edit.TheVariants.{Pixels, PaletteSet, PaletteAdd, PaletteRemove, PaletteLock}
use Rattle.edit.specs.Change.{Change}
use Rattle.journal_record.specs.declared.Found.TheVariants.{Record, Unsound}
use Rattle.journal_record.specs.Bytes.{le_at}
use Rattle.journal_record.specs.Record.{record_length, Reading, by_kind, read_forth, of_length, read_back}
use Rattle.journal_record.specs.Found.{kind_of, found_at, found_before}
use Rattle.journal_record.proofs.LittleEndian.{drop-take}
use Rattle.journal_record.proofs.Holds.{Tells, tells_at, tells-before, Holds, Held, read-holds}
use Rattle.journal_record.proofs.Parts.{part, byte-part, mark-part, rgb-part, lab-part, changes-part}
use Rattle.journal_read.specs.Lies.{edit_at, changes_at, count_at, Lies}

-- ---- what a part of the journal holds at its front stands in the journal from the part's start on
module _ (f : Form) (w : ℕ) (journal : List ℕ) (start size : ℕ) where
  edit-part : (e : Edit) (cs : List Change) → Holds f w (part journal start size) e cs → record_length f e (length cs) ≤ size → e ≡ edit_at journal (kind_of e) start
  unfolding Holds edit_at by_kind kind_of record_length
  edit-part (Pixels tool) cs h k = ap Pixels (h.0 ∙ byte-part journal start size 1 (omega arith))
  edit-part (PaletteSet i old new lab) cs h k =
      rw (
        h.0 ∙ byte-part journal start size 1 (omega arith),
        h.1 ∙ rgb-part journal start size 2 (omega arith),
        h.2 ∙ rgb-part journal start size 5 (omega arith),
        h.3 ∙ lab-part journal start size 8 (omega arith),
      )
  edit-part (PaletteAdd c) cs h k = ap PaletteAdd (h.0 ∙ rgb-part journal start size 1 (omega arith))
  edit-part (PaletteRemove i c lab) cs h k =
      rw (
        h.0 ∙ byte-part journal start size 1 (omega arith),
        h.1 ∙ rgb-part journal start size 2 (omega arith),
        h.2 ∙ lab-part journal start size 5 (omega arith),
      )
  edit-part (PaletteLock i old new) cs h k =
      rw (
        h.0 ∙ byte-part journal start size 1 (omega arith),
        h.1 ∙ mark-part journal start size 2 (omega arith),
        h.2 ∙ mark-part journal start size 3 (omega arith),
      )

  changes-there : (e : Edit) (cs : List Change) → Holds f w (part journal start size) e cs → record_length f e (length cs) ≤ size → cs ≡ changes_at f w journal (kind_of e) start (length cs)
  unfolding Holds changes_at by_kind kind_of record_length
  changes-there (Pixels tool) cs h k = h.1 ∙ changes-part journal start size f w (length cs) 6 (omega arith)
  changes-there (PaletteSet i old new lab) cs h k = h.4
  changes-there (PaletteAdd c) cs h k = h.1
  changes-there (PaletteRemove i c lab) cs h k = h.3 ∙ changes-part journal start size f w (length cs) 33 (omega arith)
  changes-there (PaletteLock i old new) cs h k = h.3

  -- as many as its count says
  counts-there : (e : Edit) (cs : List Change) → Holds f w (part journal start size) e cs → count_at (kind_of e) (length cs) ≡ length cs
  unfolding Holds count_at by_kind kind_of
  counts-there (Pixels tool) cs h = refl
  counts-there (PaletteSet i old new lab) cs h = ap length (sym h.4)
  counts-there (PaletteAdd c) cs h = ap length (sym h.1)
  counts-there (PaletteRemove i c lab) cs h = refl
  counts-there (PaletteLock i old new) cs h = ap length (sym h.3)

least-kind : (e : Edit) → 1 ≤ kind_of e
unfolding kind_of
least-kind (Pixels tool) = omega arith
least-kind (PaletteSet i old new lab) = omega arith
least-kind (PaletteAdd c) = omega arith
least-kind (PaletteRemove i c lab) = omega arith
least-kind (PaletteLock i old new) = omega arith

most-kind : (e : Edit) → kind_of e ≤ 5
unfolding kind_of
most-kind (Pixels tool) = omega arith
most-kind (PaletteSet i old new lab) = omega arith
most-kind (PaletteAdd c) = omega arith
most-kind (PaletteRemove i c lab) = omega arith
most-kind (PaletteLock i old new) = omega arith

-- ---- a reading whose record lies in the journal
pub record Searched (f : Form) (w : ℕ) (journal : List ℕ) (reading : Reading) (kind start n count : ℕ) : Type 0 where
  pub reads : reading ≡ some (n, edit_at journal kind start, changes_at f w journal kind start count)
  pub lies : Lies f journal kind start count
  pub length-is : n ≡ record_length f (edit_at journal kind start) count

module _ (f : Form) (w : ℕ) (journal : List ℕ) (start size n : ℕ) (room : start + size ≤ length journal) where
  long-part : length (part journal start size) ≡ size
  long-part = length-take-le size (drop start journal) (rw length-drop (omega arith))

  searched-by : (e : Edit) (cs : List Change) (r : Reading) → r ≡ some (n, e, cs) → Held f w (part journal start size) n e cs → Searched f w journal r (kind_of e) start n (length cs)
  searched-by e cs r q h =
      let fits : record_length f e (length cs) ≤ size = omega (arith, h.within, h.length-is, long-part) in
      let edit : e ≡ edit_at journal (kind_of e) start = edit-part f w journal start size e cs h.holds fits in
      let changes : cs ≡ changes_at f w journal (kind_of e) start (length cs) = changes-there f w journal start size e cs h.holds fits in
      let long : record_length f (edit_at journal (kind_of e) start) (length cs) ≡ record_length f e (length cs) = ap (λ (x : Edit). record_length f x (length cs)) (sym edit) in
      record {
        reads = q ∙ ap₂ (λ (x : Edit) (l : List Change). some (n, x, l)) edit changes;
        lies = record { least = least-kind e; most = most-kind e; counts = counts-there f w journal start size e cs h.holds; inside = omega arith };
        length-is = h.length-is ∙ sym long;
      }

  searched : (kind count : ℕ) (r : Reading) (t : Tells r kind n count) → Held f w (part journal start size) n t.edit t.changes → Searched f w journal r kind start n count
  searched kind count r t h = rw (t.kind-is, t.count-is) at (searched-by t.edit t.changes r t.reading h)

-- ---- the record that starts at an offset, and where it ends
pub record SearchedForth (f : Form) (w : ℕ) (journal : List ℕ) (offset end kind start n count : ℕ) : Type 0 where
  pub starts : start ≡ offset
  pub ends : start + n ≤ end
  pub found : Searched f w journal (read_forth f w (take (end - offset) (drop offset journal))) kind start n count

module _ (f : Form) (w : ℕ) (journal : List ℕ) (offset end kind start n count : ℕ) (before : offset ≤ end) (inside : end ≤ length journal) where
  pub searched-forth : found_at offset (read_forth f w (take (end - offset) (drop offset journal))) ≡ Record kind start n count → SearchedForth f w journal offset end kind start n count
  searched-forth q =
      let size : ℕ = end - offset in
      let room : offset + size ≤ length journal = omega arith in
      let bytes : List ℕ = part journal offset size in
      let told = tells_at kind start n count offset (read_forth f w bytes) q in
      let held : Held f w bytes n told.1.edit told.1.changes = read-holds f w bytes n told.1.edit told.1.changes told.1.reading in
      record {
        starts = told.0;
        ends = omega (arith, told.0, held.within, long-part f w journal offset size n room);
        found = rw told.0 (searched f w journal offset size n room kind count (read_forth f w bytes) told.1 held);
      }

-- ---- the record that ends at an offset
pub record SearchedBack (f : Form) (w : ℕ) (journal : List ℕ) (offset kind start n count : ℕ) : Type 0 where
  pub fits : n ≤ offset
  pub starts : start ≡ offset - n
  pub found : Searched f w journal (read_back f w (take offset journal)) kind start n count

abbrev triple : ℕ → Edit → List Change → Reading
triple n e cs = some (n, e, cs)

whole_by : (m n : ℕ) (e : Edit) (cs : List Change) (r : Reading) → of_length m r ≡ triple n e cs → (m ≡ n) × (r ≡ triple n e cs)
unfolding of_length
whole_by m n e cs none q = absurd (let z : ◌≡◌ {A = ℕ} 0 1 = cc in omega arith)
whole_by m n e cs (some r) q = by (eqb r.0 m) refl q
  where
    by : (b : Bool) → eqb r.0 m ≡ b → cond b (some r) none ≡ triple n e cs → (m ≡ n) × (some r ≡ triple n e cs)
    by true t p = let same = some-injective r (n, e, cs) p in (sym (eqb-true r.0 m t) ∙ ap (λ (x : ℕ × Edit × List Change). x.0) same, p)
    by false t p = absurd (let z : ◌≡◌ {A = ℕ} 0 1 = cc in omega arith)

-- its last four bytes are its length, and it is read from there on
back_by : (f : Form) (w : ℕ) (bytes : List ℕ) (n : ℕ) (e : Edit) (cs : List Change) → read_back f w bytes ≡ triple n e cs → (n ≤ length bytes) × (read_forth f w (drop (length bytes - n) bytes) ≡ triple n e cs)
unfolding read_back
back_by f w bytes n e cs q = let m : ℕ = le_at 4 bytes (length bytes - 4) in by m (leb m (length bytes)) refl q
  where
    by : (m : ℕ) (b : Bool) → leb m (length bytes) ≡ b → cond b (of_length m (read_forth f w (drop (length bytes - m) bytes))) none ≡ triple n e cs
        → (n ≤ length bytes) × (read_forth f w (drop (length bytes - n) bytes) ≡ triple n e cs)
    by m true t p = let k = whole_by m n e cs (read_forth f w (drop (length bytes - m) bytes)) p in (rw k.0 at (leb-true m (length bytes) t), rw k.0 at k.1)
    by m false t p = absurd (let z : ◌≡◌ {A = ℕ} 0 1 = cc in omega arith)

module _ (f : Form) (w : ℕ) (journal : List ℕ) (offset kind start n count : ℕ) (inside : offset ≤ length journal) where
  pub searched-back : found_before offset (read_back f w (take offset journal)) ≡ Record kind start n count → SearchedBack f w journal offset kind start n count
  searched-back q =
      let before : List ℕ = take offset journal in
      let long : length before ≡ offset = length-take-le offset journal inside in
      let told = tells-before kind start n count offset (read_back f w before) q in
      let e : Edit = told.1.edit in
      let cs : List Change = told.1.changes in
      let back = back_by f w before n e cs told.1.reading in
      let fits : n ≤ offset = rw long at back.0 in
      let size : ℕ = offset - (offset - n) in
      let bytes : List ℕ = part journal (offset - n) size in
      let forth : read_forth f w bytes ≡ triple n e cs = rw (long, drop-take (offset - n) offset journal) at back.1 in
      record {
        fits = fits;
        starts = told.0;
        found = rw told.0 (searched f w journal (offset - n) size n (omega arith) kind count (read_back f w before) told.1 (read-holds f w bytes n e cs forth));
      }

-- ---- a reading that a search did not find
pub unread-at : (from : ℕ) (r : Reading) → found_at from r ≡ Unsound → r ≡ none
unfolding found_at
unread-at from none e = refl
unread-at from (some r) e = absurd (let z : ◌≡◌ {A = ℕ} 0 1 = cc in omega arith)

pub unread-before : (offset : ℕ) (r : Reading) → found_before offset r ≡ Unsound → r ≡ none
unfolding found_before
unread-before offset none e = refl
unread-before offset (some r) e = absurd (let z : ◌≡◌ {A = ℕ} 0 1 = cc in omega arith)
