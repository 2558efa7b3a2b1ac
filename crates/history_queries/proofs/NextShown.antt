-- What `next_undo`, `next_redo` and `applied` answer at each of their tests. Assumes nothing.
use mathlib.Core.Path.{◌≡◌, sym, ap, ◌∙◌}
use mathlib.Core.Bool.{Bool, true, false}
use mathlib.Core.List.{List}
use mathlib.Core.Option.{Option, none}
use Prim.Native.Nat.{ℕ, suc, ◌+◌, ◌-◌, ◌≤◌, ◌<◌}
use native.Mathlib.Omega.{arith}
use borrow.Author.Tests.{eq-eqb, ne_eqb, le-leb, lt-leb}
use lib.Dec.{leb}
use lib.ListN.{length, take, drop}
use Rattle.base.specs.Checks.{first_of, refused_or}
use Rattle.base.specs.Answer.{Told, Shown, next_told}
use Rattle.base.specs.Answer.Told.{result, alone}
use Rattle.base.proofs.First.{refused-first}
use Rattle.base.specs.declared.Edit.{Edit}
use Rattle.base.specs.declared.Form.{Form}
use Rattle.journal_record.specs.Record.{changes_in, Reading, read_forth, read_back}
use Rattle.journal_record.proofs.Finding.{length-in}
use Rattle.journal_read.specs.Lies.{edit_at}
use Rattle.base.specs.declared.Handle.{Handle}
use Rattle.history_ledger.specs.Handle.{sound, stepped_back, stepped_forth}
use Rattle.base.specs.declared.Next.{Next}
use Rattle.base.specs.declared.Next.TheVariants as next
use Rattle.history_model.specs.Calls.{handle_checks}
use Rattle.history_queries.specs.Looks.{any_width, shows, shown, step_shown, next_undo_of, next_redo_of, rewound, past, shown_after, applied_of}
use Rattle.history_queries.proofs.NextFound.{list_at, Seen, SeenBack, SeenForth}

-- ---- a record that was found, shown
abbrev pub record_at : Form → List ℕ → ℕ → ℕ → ℕ → ℕ → Told (Option Shown)
record_at f journal kind start n count = shows (edit_at journal kind start) start n (list_at f start n count) count

module _ {f : Form} {journal : List ℕ} {r : Reading} {kind start n count : ℕ} (t : Seen f journal r kind start n count) where
  shown-is : record_at f journal kind start n count ≡ shown f start (n, edit_at journal kind start, changes_in f any_width journal (list_at f start n count) count)
  unfolding shown
  shown-is = rw (length-in f any_width journal (list_at f start n count) count)

  -- one step over it, by the handle after the step
  module _ (size : ℕ) (h : Handle) (from : ℕ → ℕ) (inside : ℕ → Bool) (stepped : ℕ → Handle → Handle) (i : inside n ≡ true) where
    step-unsound : sound size (stepped n h) ≡ false → alone 4 ≡ step_shown f size h r from inside stepped
    unfolding step_shown first_of refused_or
    step-unsound e = rw (t.reads, i, e)

    step-shown : start ≡ from n → sound size (stepped n h) ≡ true → record_at f journal kind start n count ≡ step_shown f size h r from inside stepped
    unfolding step_shown first_of refused_or
    step-shown s e = shown-is ∙ rw (t.reads, i, e, s)

step-none : (f : Form) (size : ℕ) (h : Handle) (r : Reading) (from : ℕ → ℕ) (inside : ℕ → Bool) (stepped : ℕ → Handle → Handle) → r ≡ none → alone 4 ≡ step_shown f size h r from inside stepped
unfolding step_shown
step-none f size h r from inside stepped e = rw e

module _ (f : Form) (journal : List ℕ) (h : Handle) where
  -- ---- 1 and 4
  module _ (n : ℕ) (e : n ≡ first_of (handle_checks (length journal) h)) (k : n ≡ 0 → ⊥) where
    pub undo-refused : alone n ≡ next_undo_of f journal h
    unfolding next_undo_of
    undo-refused = refused-first (handle_checks (length journal) h) alone _ n e k

    pub redo-refused : alone n ≡ next_redo_of f journal h
    unfolding next_redo_of
    redo-refused = refused-first (handle_checks (length journal) h) alone _ n e k

    pub applied-refused : (number : ℕ) → alone n ≡ applied_of f journal h number
    unfolding applied_of
    applied-refused number = refused-first (handle_checks (length journal) h) alone _ n e k

  -- ---- past them
  module _ (fine : first_of (handle_checks (length journal) h) ≡ 0) where
    pub undo-nothing : h.position ≡ 0 → result none ≡ next_undo_of f journal h
    unfolding next_undo_of refused_or
    undo-nothing e = rw (fine, eq-eqb _ _ e)

    module _ (left : h.position ≡ 0 → ⊥) where
      pub undo-steps : step_shown f (length journal) h (read_back f any_width (take h.offset journal)) (λ n. h.offset - n) (λ n. leb n h.offset) stepped_back ≡ next_undo_of f journal h
      unfolding next_undo_of refused_or
      undo-steps = rw (fine, ne_eqb _ _ left)

      pub undo-unread : read_back f any_width (take h.offset journal) ≡ none → alone 4 ≡ next_undo_of f journal h
      undo-unread e = step-none f (length journal) h (read_back f any_width (take h.offset journal)) (λ n. h.offset - n) (λ n. leb n h.offset) stepped_back e ∙ undo-steps

      module _ {kind start n count : ℕ} (t : SeenBack f journal h.offset kind start n count) where
        pub undo-unsound : sound (length journal) (stepped_back n h) ≡ false → alone 4 ≡ next_undo_of f journal h
        undo-unsound e = step-unsound t.found (length journal) h (λ n. h.offset - n) (λ n. leb n h.offset) stepped_back (le-leb _ _ t.fits) e ∙ undo-steps

        pub undo-shown : sound (length journal) (stepped_back n h) ≡ true → record_at f journal kind start n count ≡ next_undo_of f journal h
        undo-shown e = step-shown t.found (length journal) h (λ n. h.offset - n) (λ n. leb n h.offset) stepped_back (le-leb _ _ t.fits) t.starts e ∙ undo-steps

    pub redo-nothing : h.position ≡ h.count → result none ≡ next_redo_of f journal h
    unfolding next_redo_of refused_or
    redo-nothing e = rw (fine, eq-eqb _ _ e)

    module _ (left : h.position ≡ h.count → ⊥) where
      pub redo-steps : step_shown f (length journal) h (read_forth f any_width (take (h.end - h.offset) (drop h.offset journal))) (λ n. h.offset) (λ n. leb (h.offset + n) h.end) stepped_forth ≡ next_redo_of f journal h
      unfolding next_redo_of refused_or
      redo-steps = rw (fine, ne_eqb _ _ left)

      pub redo-unread : read_forth f any_width (take (h.end - h.offset) (drop h.offset journal)) ≡ none → alone 4 ≡ next_redo_of f journal h
      redo-unread e = step-none f (length journal) h (read_forth f any_width (take (h.end - h.offset) (drop h.offset journal))) (λ n. h.offset) (λ n. leb (h.offset + n) h.end) stepped_forth e ∙ redo-steps

      module _ {kind start n count : ℕ} (t : SeenForth f journal h.offset h.end kind start n count) where
        ends : leb (h.offset + n) h.end ≡ true
        ends = le-leb _ _ (rw t.starts at t.ends)

        pub redo-unsound : sound (length journal) (stepped_forth n h) ≡ false → alone 4 ≡ next_redo_of f journal h
        redo-unsound e = step-unsound t.found (length journal) h (λ n. h.offset) (λ n. leb (h.offset + n) h.end) stepped_forth ends e ∙ redo-steps

        pub redo-shown : sound (length journal) (stepped_forth n h) ≡ true → record_at f journal kind start n count ≡ next_redo_of f journal h
        redo-shown e = step-shown t.found (length journal) h (λ n. h.offset) (λ n. leb (h.offset + n) h.end) stepped_forth ends t.starts e ∙ redo-steps

    pub applied-nothing : (number : ℕ) → h.position ≤ number → result none ≡ applied_of f journal h number
    unfolding applied_of refused_or
    applied-nothing number e = rw (fine, le-leb _ _ e)

    pub applied-after : (number : ℕ) → number < h.position → shown_after f journal number (rewound h) ≡ applied_of f journal h number
    unfolding applied_of refused_or
    applied-after number left = rw (fine, lt-leb _ _ left)

-- ---- what `next_redo` shows after some steps, by what it shows now
module _ (f : Form) (journal : List ℕ) (h : Handle) where
  pub after_none : (x : Told (Option Shown)) (left : ℕ) → x ≡ next_redo_of f journal h → left ≡ 0 → x ≡ shown_after f journal left h
  unfolding shown_after
  after_none x left q l = rw l q

  module _ (left : ℕ) (more : left ≡ 0 → ⊥) where
    one_less : left ≡ suc (left - 1)
    one_less = omega (arith, more)

    pub after-record : {e : Edit} {start n list count : ℕ} (x : Next) → next_told x ≡ next_redo_of f journal h → x ≡ next.Record e start n list count
        → shown_after f journal (left - 1) (stepped_forth n h) ≡ shown_after f journal left h
    unfolding shown_after past
    after-record {n = n} x q p =
        let over : shown_after f journal (left - 1) (stepped_forth n h) ≡ shown_after f journal (suc (left - 1)) h = rw (← q, p) in
        over ∙ ap (λ (l : ℕ). shown_after f journal l h) (sym one_less)

    pub after_nothing : (x : Next) → next_told x ≡ next_redo_of f journal h → x ≡ next.Nothing → result none ≡ shown_after f journal left h
    unfolding shown_after past
    after_nothing x q p = rw (one_less, ← q, p)

    pub after-refused : {a : ℕ} (x : Next) → next_told x ≡ next_redo_of f journal h → x ≡ next.Refused a → alone a ≡ shown_after f journal left h
    unfolding shown_after past
    after-refused x q p = rw (one_less, ← q, p)
