-- Between journal and ledger: a ledger that keeps the lengths of its records before and after its standing position. In a journal of n bytes it answers "journal
-- full" by these lengths alone, and else as the ledger does. Assumes nothing.
use mathlib.Core.Path.{◌≡◌, ◌∙◌}
use mathlib.Core.Bool.{false, cond}
use Prim.Native.Nat.{ℕ, ◌≤◌, ◌<◌}
use native.Mathlib.Omega.{arith}
use lib.Dec.{ltb}
use borrow.Author.Tests.{lt-ltb, le-ltb}
use Rattle.base.specs.Numbers.{journal_full}
use Rattle.history_ledger.specs.Calls.{Call, Outcome, refused, Answer}
use Rattle.history_ledger.specs.Calls.Call.{push}
use Rattle.history_ledger.specs.Algebra.{Algebra}
use Rattle.history_ledger.specs.Journal.{step}
use Rattle.history_ledger.specs.Ledger.{enter}
use Rattle.history_ledger.specs.Tally.{Tally, next, wants, is_done}
use Rattle.history_ledger.proofs.Trace.{Trace, Holds, sizes, state_of, ledgerOf}

module _ (A : Algebra) where
  open A use {Edit}

  pub turn : ℕ → Tally A → Call Edit → Outcome (Tally A)
  turn n t c = cond (ltb n (wants A t c)) (refused t journal_full) (next A t c)

  abbrev pub tally_of : Trace A → Tally A
  tally_of k = record { ledger = ledgerOf A k; lengths = record { before = sizes A k.past; after = sizes A k.future } }

  -- a call does to the journal's state what it does to the tally
  pub record Stepped (room n : ℕ) (k : Trace A) (c : Call Edit) : Type 0 where
    pub answer : Answer
    pub to : Trace A
    pub holds : Holds A room n to
    pub code : step A room (state_of A k) c ≡ record { answer = answer; leaves = state_of A to }
    pub tally : turn n (tally_of k) c ≡ record { answer = answer; leaves = tally_of to }

  -- ---- a turn, by what it wants
  pub turn-full : (n : ℕ) (t : Tally A) (c : Call Edit) → n < wants A t c → turn n t c ≡ refused t journal_full
  unfolding turn
  turn-full n t c h = rw (lt-ltb n (wants A t c) h)

  pub turn-fits : (n : ℕ) (t : Tally A) (c : Call Edit) → wants A t c ≤ n → turn n t c ≡ next A t c
  unfolding turn
  turn-fits n t c h = rw (le-ltb n (wants A t c) h)

  -- a push that the ledger does not append
  pub turn-stays : (n : ℕ) (t : Tally A) (e : Edit) (a : Answer) → is_done a ≡ false → enter A t.ledger (push e) ≡ record { answer = a; leaves = t.ledger }
      → turn n t (push e) ≡ record { answer = a; leaves = t }
  turn-stays n t e a d p =
      let w : wants A t (push e) ≡ 0 = rw (p, d) in
      turn-fits n t (push e) (omega arith) ∙ rw (p, d)
