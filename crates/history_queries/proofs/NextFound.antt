-- What a search of the journal tells of the record that is shown: its edit, where it lies, and how many changes it holds. Assumes nothing.
use mathlib.Core.Path.{◌≡◌, ap, ◌∙◌}
use mathlib.Core.List.{List, [], ◌∷◌}
use mathlib.Core.Option.{some}
use Prim.Native.Nat.{ℕ, zero, suc, ◌+◌, ◌-◌, ◌*◌, ◌≤◌}
use native.Mathlib.Omega.{arith}
use borrow.Author.Tests.{not-false}
use lib.ListN.{length, take, drop}
use Rattle.base.specs.Checks.{first_of}
use Rattle.base.proofs.First.{past}
use Rattle.base.specs.declared.Form.{Form}
use Rattle.edit.specs.Change.{Change}
use Rattle.journal_record.specs.declared.Found.TheVariants.{Record}
use Rattle.journal_record.specs.Record.{stride, record_length, changes_in, Reading, by_kind, read_forth, read_back}
use Rattle.journal_record.specs.Found.{found_at, found_before}
use Rattle.journal_record.proofs.Strides.{stride_most}
use Rattle.journal_read.specs.Lies.{edit_at, changes_at, count_at, Lies}
use Rattle.journal_read.proofs.Searched.{Searched, searched-forth, searched-back}
use Rattle.base.specs.declared.Handle.{Handle}
use Rattle.history_ledger.specs.Journal.{long_journal, unsound}
use Rattle.history_ledger.proofs.Soundness.{Sound, sound-facts}
use Rattle.history_model.specs.Calls.{handle_checks}
use Rattle.history_queries.specs.Looks.{any_width}

-- ---- a handle that 1 and 4 do not refuse
pub handle-sound : (n : ℕ) (h : Handle) → first_of (handle_checks n h) ≡ 0 → Sound n h
handle-sound n h e =
    let rest = (past (long_journal n) (unsound n h ∷ []) (omega arith) e).rest in
    sound-facts n h (not-false _ (past (unsound n h) [] (omega arith) rest).off)

-- ---- a record of n bytes that a search found: its changes stand before the last four
abbrev pub list_at : Form → ℕ → ℕ → ℕ → ℕ
list_at f start n count = start + n - 4 - stride f * count

pub record Seen (f : Form) (journal : List ℕ) (r : Reading) (kind start n count : ℕ) : Type 0 where
  pub reads : r ≡ some (n, edit_at journal kind start, changes_in f any_width journal (list_at f start n count) count)
  pub lies : Lies f journal kind start count
  pub inside : start + n ≤ length journal
  pub room : 4 + stride f * count ≤ n

module _ (f : Form) (journal : List ℕ) (start n count : ℕ) where
  list-room : (kind : ℕ) → 1 ≤ kind → kind ≤ 5 → count_at kind count ≡ count → 4 + stride f * count ≤ record_length f (edit_at journal kind start) count
  unfolding count_at edit_at by_kind record_length
  list-room zero l m e = absurd (omega arith)
  list-room (suc zero) l m e = omega arith
  list-room (suc (suc zero)) l m e = omega (arith, stride_most f count)
  list-room (suc (suc (suc zero))) l m e = omega (arith, stride_most f count)
  list-room (suc (suc (suc (suc zero)))) l m e = omega arith
  list-room (suc (suc (suc (suc (suc zero))))) l m e = omega (arith, stride_most f count)
  list-room (suc (suc (suc (suc (suc (suc kind)))))) l m e = absurd (omega arith)

  -- no changes are read anywhere
  none-there : (at : ℕ) → 0 ≡ count → [] ≡ changes_in f any_width journal at count
  unfolding changes_in
  none-there at e = rw (← e)

  list-there : (kind : ℕ) → 1 ≤ kind → kind ≤ 5 → count_at kind count ≡ count → n ≡ record_length f (edit_at journal kind start) count
      → changes_at f any_width journal kind start count ≡ changes_in f any_width journal (list_at f start n count) count
  unfolding count_at changes_at edit_at by_kind record_length
  list-there zero l m e q = absurd (omega arith)
  list-there (suc zero) l m e q = let there : start + 6 ≡ list_at f start n count = omega arith in ap (λ (at : ℕ). changes_in f any_width journal at count) there
  list-there (suc (suc zero)) l m e q = none-there (list_at f start n count) e
  list-there (suc (suc (suc zero))) l m e q = none-there (list_at f start n count) e
  list-there (suc (suc (suc (suc zero)))) l m e q = let there : start + 33 ≡ list_at f start n count = omega arith in ap (λ (at : ℕ). changes_in f any_width journal at count) there
  list-there (suc (suc (suc (suc (suc zero))))) l m e q = none-there (list_at f start n count) e
  list-there (suc (suc (suc (suc (suc (suc kind)))))) l m e q = absurd (omega arith)

  seen : (r : Reading) (kind : ℕ) → Searched f any_width journal r kind start n count → Seen f journal r kind start n count
  seen r kind s =
      let l = s.lies in
      record {
        reads = s.reads ∙ ap (λ (l : List Change). some (n, edit_at journal kind start, l)) (list-there kind l.least l.most l.counts s.length-is);
        lies = l;
        inside = omega (arith, l.inside, s.length-is);
        room = omega (arith, s.length-is, list-room kind l.least l.most l.counts);
      }

-- ---- the record that ends at an offset
pub record SeenBack (f : Form) (journal : List ℕ) (offset kind start n count : ℕ) : Type 0 where
  pub fits : n ≤ offset
  pub starts : start ≡ offset - n
  pub found : Seen f journal (read_back f any_width (take offset journal)) kind start n count

pub seen_back : (f : Form) (journal : List ℕ) (offset kind start n count : ℕ) → offset ≤ length journal
    → found_before offset (read_back f any_width (take offset journal)) ≡ Record kind start n count → SeenBack f journal offset kind start n count
seen_back f journal offset kind start n count h q =
    let s = searched-back f any_width journal offset kind start n count h q in
    record {
      fits = s.fits;
      starts = s.starts;
      found = seen f journal start n count (read_back f any_width (take offset journal)) kind s.found;
    }

-- ---- the record that starts at one, and ends before another
pub record SeenForth (f : Form) (journal : List ℕ) (offset end kind start n count : ℕ) : Type 0 where
  pub starts : start ≡ offset
  pub ends : start + n ≤ end
  pub found : Seen f journal (read_forth f any_width (take (end - offset) (drop offset journal))) kind start n count

pub seen-forth : (f : Form) (journal : List ℕ) (offset end kind start n count : ℕ) → offset ≤ end → end ≤ length journal
    → found_at offset (read_forth f any_width (take (end - offset) (drop offset journal))) ≡ Record kind start n count → SeenForth f journal offset end kind start n count
seen-forth f journal offset end kind start n count h k q =
    let s = searched-forth f any_width journal offset end kind start n count h k q in
    let bytes : List ℕ = take (end - offset) (drop offset journal) in
    record {
      starts = s.starts;
      ends = s.ends;
      found = seen f journal start n count (read_forth f any_width bytes) kind s.found;
    }
