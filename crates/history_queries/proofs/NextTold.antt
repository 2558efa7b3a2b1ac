-- What is shown of a record is what undo or redo reads, and its changes lie in the journal from `list` on. Assumes nothing.
use mathlib.Core.Path.{◌≡◌, refl, sym, ap, ap₂, ◌∙◌}
use mathlib.Core.Bool.{Bool, true, false, cond}
use mathlib.Core.List.{List}
use mathlib.Core.Option.{Option, none, some, some-injective}
use Prim.Native.Nat.{ℕ, zero, suc, ◌+◌, ◌-◌, ◌*◌, ◌≤◌, ◌<◌}
use native.Mathlib.Omega.{arith}
use borrow.Author.Tests.{eqb-false}
use lib.Dec.{leb, eqb}
use lib.ListN.{length, take, drop}
use Rattle.base.specs.Checks.{first_of, refused_or}
use Rattle.base.specs.Answer.{Told, Shown}
use Rattle.base.specs.Answer.Told.{result, alone}
use Rattle.base.proofs.Told.{alone-other, same-result}
use Rattle.base.specs.declared.Edit.{Edit}
use Rattle.base.specs.declared.Form.{Form}
use Rattle.edit.specs.Change.{Change}
use Rattle.journal_record.specs.declared.Found.TheVariants as found
use Rattle.journal_record.specs.Record.{stride, changes_in, Reading, read_forth, read_back}
use Rattle.journal_record.specs.Found.{kind_of, found_at, found_before}
use Rattle.journal_read.specs.Lies.{edit_at}
use Rattle.base.specs.declared.Handle.{Handle}
use Rattle.history_ledger.specs.Handle.{stepped_back, stepped_forth}
use Rattle.history_model.specs.Calls.{handle_checks}
use Rattle.history_queries.specs.Looks.{any_width, shows, shown, step_shown, next_undo_of, next_redo_of}
use Rattle.history_queries.proofs.NextFound.{list_at, handle-sound, Seen, seen_back, seen-forth}

-- ---- the next record to redo: what is read of it, that it starts at the standing offset and ends in the used part, and that there is one
pub record Redoes (f : Form) (journal : List ℕ) (h : Handle) (e : Edit) (start n list count : ℕ) : Type 0 where
  pub reads : read_forth f any_width (take (h.end - h.offset) (drop h.offset journal)) ≡ some (n, e, changes_in f any_width journal list count)
  pub starts : start ≡ h.offset
  pub ends : h.offset + n ≤ h.end
  pub left : h.position < h.count

-- ---- a reading that is shown
record Meant (f : Form) (r : Reading) (from : ℕ → ℕ) (e : Edit) (start n list count : ℕ) : Type 0 where
  changes : List Change
  reads : r ≡ some (n, e, changes)
  starts : start ≡ from n
  lists : list ≡ list_at f start n count
  counts : length changes ≡ count

module _ {e : Edit} {start n list count : ℕ} where
  -- ---- back from a record that is shown to the tests before it
  pub unrefused : (m : ℕ) (x : Told (Option Shown)) → refused_or m alone x ≡ shows e start n list count → (m ≡ 0) × (x ≡ shows e start n list count)
  unfolding refused_or
  unrefused zero x p = (refl, p)
  unrefused (suc m) x p = absurd (alone-other p)

  pub something : (b : Bool) (x : Told (Option Shown)) → cond b (result none) x ≡ shows e start n list count → (b ≡ false) × (x ≡ shows e start n list count)
  something true x p = absurd (let z : ◌≡◌ {A = ℕ} 0 1 = cc in omega arith)
  something false x p = (refl, p)

module _ (f : Form) {e : Edit} {start n list count : ℕ} where
  -- ---- to its reading
  told-by : (t : ℕ × Edit × List Change) (from : ℕ → ℕ) → shown f (from t.0) t ≡ shows e start n list count → Meant f (some t) from e start n list count
  unfolding shown
  told-by t from p =
      let q = some-injective _ _ (same-result p) in
      let long : t.0 ≡ n = ap (λ (x : Shown). x.length) q in
      let edit : t.1 ≡ e = ap (λ (x : Shown). x.edit) q in
      let begins : from t.0 ≡ start = ap (λ (x : Shown). x.start) q in
      let lies : from t.0 + t.0 - 4 - stride f * length t.2 ≡ list = ap (λ (x : Shown). x.list) q in
      let many : length t.2 ≡ count = ap (λ (x : Shown). x.count) q in
      record { changes = t.2; reads = ap₂ (λ (m : ℕ) (x : Edit). some (m, x, t.2)) long edit; starts = (cc); lists = (cc); counts = many }

  step-told : (size : ℕ) (h : Handle) (r : Reading) (from : ℕ → ℕ) (inside : ℕ → Bool) (stepped : ℕ → Handle → Handle)
      → step_shown f size h r from inside stepped ≡ shows e start n list count → Meant f r from e start n list count
  unfolding step_shown
  step-told size h none from inside stepped p = absurd (alone-other p)
  step-told size h (some t) from inside stepped p = told-by t from (unrefused _ (shown f (from t.0) t) p).1

  -- ---- its changes
  told-changes : {journal : List ℕ} {r : Reading} {from : ℕ → ℕ} (t : Meant f r from e start n list count) → Seen f journal r (kind_of e) (from n) n count → r ≡ some (n, e, changes_in f any_width journal list count)
  told-changes {journal} {r} {from} t s =
      let same = some-injective _ _ (sym s.reads ∙ t.reads) in
      let edit : edit_at journal (kind_of e) (from n) ≡ e = ap (λ (x : ℕ × Edit × List Change). x.1) same in
      let there : list_at f (from n) n count ≡ list = rw (← t.starts) (sym t.lists) in
      s.reads ∙ ap₂ (λ (x : Edit) (m : ℕ). some (n, x, changes_in f any_width journal m count)) edit there

  told_back : {r : Reading} (offset : ℕ) (t : Meant f r (λ m. offset - m) e start n list count) → found_before offset r ≡ found.Record (kind_of e) (offset - n) n count
  unfolding found_before
  told_back offset t = rw (t.reads, t.counts)

  told-forth : {r : Reading} (offset : ℕ) (t : Meant f r (λ m. offset) e start n list count) → found_at offset r ≡ found.Record (kind_of e) offset n count
  unfolding found_at
  told-forth offset t = rw (t.reads, t.counts)

  -- ---- the two calls
  module _ (journal : List ℕ) (h : Handle) where
    pub undo-told : next_undo_of f journal h ≡ shows e start n list count → read_back f any_width (take h.offset journal) ≡ some (n, e, changes_in f any_width journal list count)
    unfolding next_undo_of
    undo-told p =
        let fine = unrefused (first_of (handle_checks (length journal) h)) _ p in
        let s = handle-sound (length journal) h fine.0 in
        let step = (something (eqb h.position 0) _ fine.1).1 in
        let t = step-told (length journal) h (read_back f any_width (take h.offset journal)) (λ m. h.offset - m) (λ m. leb m h.offset) stepped_back step in
        told-changes t (seen_back f journal h.offset (kind_of e) (h.offset - n) n count (omega (arith, s.ends, s.fits)) (told_back h.offset t)).found

    pub redo-told : next_redo_of f journal h ≡ shows e start n list count → Redoes f journal h e start n list count
    unfolding next_redo_of
    redo-told p =
        let fine = unrefused (first_of (handle_checks (length journal) h)) _ p in
        let s = handle-sound (length journal) h fine.0 in
        let step = something (eqb h.position h.count) _ fine.1 in
        let t = step-told (length journal) h (read_forth f any_width (take (h.end - h.offset) (drop h.offset journal))) (λ m. h.offset) (λ m. leb (h.offset + m) h.end) stepped_forth step.1 in
        let found = seen-forth f journal h.offset h.end (kind_of e) h.offset n count s.ends s.fits (told-forth h.offset t) in
        record {
          reads = told-changes t found.found;
          starts = t.starts;
          ends = found.ends;
          left = omega (arith, s.stands, eqb-false h.position h.count step.0);
        }
