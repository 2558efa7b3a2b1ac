-- Demand 3: a list of calls does to the journal's state what it does to the tally; and of the tally alone, what is left once the calls answered "journal full" are
-- struck goes the same way in a longer journal and in the ledger. Assumes nothing.
use mathlib.Core.Path.{◌≡◌, refl, sym, ap, subst, ◌∙◌}
use mathlib.Core.Bool.{Bool, true, false, cond}
use mathlib.Core.List.{List, [], ◌∷◌}
use Prim.Native.Nat.{ℕ, suc, ◌≤◌}
use native.Mathlib.Omega.{arith}
use lib.ListN.{length}
use Rattle.base.specs.Limits.{max_journal}
use Rattle.history_ledger.specs.Calls.{Call, play, lend, Answer}
use Rattle.history_ledger.specs.Calls.Call.{push, undo, redo, mark}
use Rattle.history_ledger.specs.Algebra.{Algebra}
use Rattle.history_ledger.specs.Laws.{Laws}
use Rattle.history_ledger.specs.Journal.{opened, stepLent}
use Rattle.history_ledger.specs.Ledger.{begun, enter}
use Rattle.history_ledger.specs.Demand.{is_full, unstruck, Matches, SameHistory, WholeHistory, TypedCall, TypedCalls}
use Rattle.history_ledger.proofs.Struck.{Kept, kept}
use Rattle.history_ledger.proofs.Playing.{played, onward, play-cons}
use Rattle.history_ledger.proofs.Trace.{Trace, Holds, begin, begins, state_of, ledgerOf, stands}
use Rattle.history_ledger.proofs.Lengths.{saved-told}
use Rattle.history_ledger.proofs.Tally.{tally_of, turn, Stepped}
use Rattle.history_ledger.proofs.Checks.{push-checks}
use Rattle.history_ledger.proofs.Push.{sim-push}
use Rattle.history_ledger.proofs.Moves.{sim-undo, sim-redo, sim-mark}
use Rattle.history_ledger.proofs.Scratch.{any-room}

module _ (A : Algebra) (L : Laws A) where
  open A use {Sheet, Edit, view, places}

  -- ---- the journal and the tally; `room` places of scratch are enough, and each call may have more
  pub record Ran (room n : ℕ) (rooms : ℕ → ℕ) (k : Trace A) (cs : List (Call Edit)) : Type 0 where
    pub answers : List Answer
    pub to : Trace A
    pub holds : Holds A room n to
    pub code : play (stepLent A) (state_of A k) (lend rooms cs) ≡ played answers (state_of A to)
    pub tally : play (turn A n) (tally_of A k) cs ≡ played answers (tally_of A to)

  module _ (room n : ℕ) (permitted : n ≤ max_journal) where
    pub sim : (k : Trace A) → Holds A room n k → (c : Call Edit) → TypedCall A c → Stepped A room n k c
    sim k h (push e) t = sim-push A L room n k h e (push-checks A L room n permitted k h e) t
    sim k h undo t = sim-undo A L room n permitted k h
    sim k h redo t = sim-redo A L room n permitted k h
    sim k h mark t = sim-mark A L room n permitted k h

    pub runs : (rooms : ℕ → ℕ) → ((i : ℕ) → room ≤ rooms i) → (cs : List (Call Edit)) → TypedCalls A cs → (k : Trace A) → Holds A room n k → Ran room n rooms k cs
    unfolding play lend
    runs rooms b [] ts k h = record { answers = []; to = k; holds = h; code = refl; tally = refl }
    runs rooms b (c ∷ cs) ts k h =
        let now = sim k h c ts.0 in
        let others : ℕ → ℕ = λ i. rooms (suc i) in
        let later = runs others (λ i. b (suc i)) cs ts.1 now.to now.holds in
        let code = any-room A (rooms 0) room (state_of A k) c (omega (arith, h.scratch, b 0)) h.scratch ∙ now.code in
        record {
          answers = now.answer ∷ later.answers;
          to = later.to;
          holds = later.holds;
          code = play-cons (stepLent A) (state_of A k) (record { call = c; room = rooms 0 }) (lend others cs) code ∙ ap (onward now.answer) later.code;
          tally = play-cons (turn A n) (tally_of A k) c cs now.tally ∙ ap (onward now.answer) later.tally;
        }

  -- ---- a state that keeps to its trace matches the ledger
  pub matches : (room n : ℕ) (k : Trace A) → n ≤ max_journal → Holds A room n k → Matches A (state_of A k) (ledgerOf A k)
  matches room n k b h =
      record {
        picture = stands A k h.leads;
        position = refl;
        saved = saved-told A L k (omega (arith, h.sized)) h.saves;
      }

  pub unstruck-typed : (cs : List (Call Edit)) (answers : List Answer) → TypedCalls A cs → TypedCalls A (unstruck cs answers)
  unfolding unstruck
  unstruck-typed [] answers ts = tt
  unstruck-typed (c ∷ cs) [] ts = tt
  unstruck-typed (c ∷ cs) (a ∷ answers) ts = go (is_full a) (unstruck-typed cs answers ts.1)
    where
      go : (w : Bool) → TypedCalls A (unstruck cs answers) → TypedCalls A (cond w (unstruck cs answers) (c ∷ unstruck cs answers))
      go true more = more
      go false more = (ts.0, more)

  -- ---- two runs, the second of the calls that the first leaves, and the ledger
  module _ (s : Sheet) (room n n' : ℕ) (rooms rooms' : ℕ → ℕ) (shorter longer : List ℕ) (calls : List (Call Edit))
      (one : Ran room n rooms (begin A s shorter) calls) (two : Ran room n' rooms' (begin A s longer) (unstruck calls one.answers))
      (both : Kept A L n' (tally_of A (begin A s shorter)) calls (played one.answers (tally_of A one.to))) where
    same : played two.answers (tally_of A two.to) ≡ played (unstruck one.answers one.answers) (tally_of A one.to)
    same = sym two.tally ∙ both.longer

    compared : n ≤ max_journal → n' ≤ max_journal
        → let first = play (stepLent A) (opened A s shorter) (lend rooms calls) in
        let left = unstruck calls first.answers in
        let second = play (stepLent A) (opened A s longer) (lend rooms' left) in
        SameHistory A (unstruck first.answers first.answers) first second (play (enter A) (begun A (view s)) left)
    compared b b' =
        rw (one.code, two.code, both.booked)
        (record {
          second-answers = ap (λ ran. ran.answers) same;
          ledger-answers = refl;
          first_ends = matches room n one.to b one.holds;
          second-ends = subst (λ l. Matches A (state_of A two.to) l) (ap (λ ran. ran.ends.ledger) same) (matches room n' two.to b' two.holds);
        })

  pub whole-history : WholeHistory A
  whole-history s w shorter longer b b' rooms rooms' c c' calls ts =
      let room = places (view s) in
      let n = length shorter in
      let n' = length longer in
      let t = tally_of A (begin A s shorter) in
      let one = runs room n (omega arith) rooms c calls ts (begin A s shorter) (begins A s shorter room w (omega arith)) in
      let left = unstruck calls one.answers in
      let two = runs room n' b' rooms' c' left (unstruck-typed calls one.answers ts) (begin A s longer) (begins A s longer room w (omega arith)) in
      compared s room n n' rooms rooms' shorter longer calls one two (subst (Kept A L n' t calls) one.tally (kept A L n n' b calls t)) (omega arith) b'
