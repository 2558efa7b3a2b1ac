-- The record that `applied` shows is one of the chain: as many records stand before it, one after the other from the journal's first byte, as its number says. Assumes nothing.
use mathlib.Core.Path.{◌≡◌, refl}
use mathlib.Core.List.{List}
use mathlib.Core.Option.{Option, none, some}
use Prim.Native.Nat.{ℕ, zero, suc, ◌+◌, ◌-◌}
use native.Mathlib.Omega.{arith}
use lib.Dec.{leb}
use lib.ListN.{length, take, drop}
use Rattle.base.specs.Checks.{first_of}
use Rattle.base.specs.declared.Edit.{Edit}
use Rattle.base.specs.declared.Form.{Form}
use Rattle.journal_record.specs.Record.{changes_in, read_forth}
use Rattle.base.specs.declared.Handle.{Handle}
use Rattle.history_ledger.specs.Handle.{stepped_forth}
use Rattle.history_model.specs.Calls.{handle_checks}
use Rattle.base.specs.Answer.{Told, Shown}
use Rattle.base.specs.Answer.Told.{result, alone}
use Rattle.base.proofs.Told.{alone-other}
use Rattle.history_queries.specs.Looks.{any_width, shows, next_redo_of, rewound, past, shown_after, applied_of, Starts}
use Rattle.history_queries.specs.Looks.Starts.{oldest, after}
use Rattle.history_queries.proofs.NextTold.{unrefused, something, redo-told}

-- the `number`-th record of the chain: what is read where it starts
pub record Chained (f : Form) (journal : List ℕ) (end number : ℕ) (e : Edit) (start n list count : ℕ) : Type 0 where
  pub starts : Starts f journal end number start
  pub reads : read_forth f any_width (take (end - start) (drop start journal)) ≡ some (n, e, changes_in f any_width journal list count)

-- ---- a record that is shown past another
record Past (x : Told (Option Shown)) (more : ℕ → Told (Option Shown)) (y : Told (Option Shown)) : Type 0 where
  edit : Edit
  start : ℕ
  length : ℕ
  list : ℕ
  count : ℕ
  first : x ≡ shows edit start length list count
  then : more length ≡ y

module _ {e : Edit} {start n list count : ℕ} where
  shown-past : (x : Told (Option Shown)) (more : ℕ → Told (Option Shown)) → past x more ≡ shows e start n list count → Past x more (shows e start n list count)
  unfolding past
  shown-past (result (some r)) more p = record { edit = r.edit; start = r.start; length = r.length; list = r.list; count = r.count; first = refl; then = p }
  shown-past (result none) more p = absurd (let z : ◌≡◌ {A = ℕ} 0 1 = cc in omega arith)
  shown-past (alone a) more p = absurd (alone-other p)

  module _ (f : Form) (journal : List ℕ) where
    chained : (number : ℕ) (h : Handle) (before : ℕ) → Starts f journal h.end before h.offset → shown_after f journal number h ≡ shows e start n list count
        → Chained f journal h.end (before + number) e start n list count
    unfolding shown_after
    chained zero h before s p =
        let t = redo-told f journal h p in
        let last : before + 0 ≡ before = omega arith in
        record { starts = rw (t.starts, last) s; reads = rw t.starts t.reads }
    chained (suc number) h before s p =
        let one = shown-past (next_redo_of f journal h) (λ m. shown_after f journal number (stepped_forth m h)) p in
        let r = (redo-told f journal h one.first).reads in
        let step : before + suc number ≡ suc before + number = omega arith in
        rw step (chained number (stepped_forth one.length h) (suc before) (after (one.length, one.edit, changes_in f any_width journal one.list one.count) s r) one.then)

    pub applied-chained : (h : Handle) (number : ℕ) → applied_of f journal h number ≡ shows e start n list count → Chained f journal h.offset number e start n list count
    unfolding applied_of
    applied-chained h number p =
        let fine = unrefused (first_of (handle_checks (length journal) h)) _ p in
        let all : 0 + number ≡ number = omega arith in
        rw all at (chained number (rewound h) 0 oldest (something (leb h.position number) _ fine.1).1)
