-- A ledger that keeps the lengths of its records, and so says how much journal a call wants. Definitions only. Assumes
-- nothing.
use Rattle.std.specs.Prelude.{Bool, true, false, cond, List, [], ◌∷◌, ℕ, ◌+◌}
use Rattle.base.specs.Answer.Told.{result, alone}
use Rattle.history_ledger.specs.Calls.{Call, Outcome, Answer}
use Rattle.history_ledger.specs.Calls.Call.{push, undo, redo, mark}
use Rattle.history_ledger.specs.Algebra.{Algebra}
use Rattle.history_ledger.specs.Ledger.{Ledger, begun, enter}

abbrev pub total : List ℕ → ℕ
total [] = 0
total (n ∷ ns) = total ns + n

abbrev pub is_done : Answer → Bool
is_done (result done) = true
is_done (alone n) = false

-- the lengths of the records before the standing position, the last first, and after it, the next first
pub record Lengths : Type 0 where
  pub before : List ℕ
  pub after : List ℕ

abbrev pub tail : List ℕ → List ℕ
tail [] = []
tail (n ∷ ns) = ns

-- the first of the list, if there is one, put before the other
abbrev pub first_onto : List ℕ → List ℕ → List ℕ
first_onto [] ys = ys
first_onto (x ∷ xs) ys = x ∷ ys

module _ (A : Algebra) where
  open A use {Picture, Edit, size}

  pub record Tally : Type 0 where
    pub ledger : Ledger A
    pub lengths : Lengths

  -- at first the opening picture, and no records
  abbrev pub blank : Picture → Tally
  blank p = record { ledger = begun A p; lengths = record { before = []; after = [] } }

  -- the lengths after a call, which the ledger answered "done" or not
  abbrev pub counted : Bool → Call Edit → Lengths → Lengths
  counted d (push e) z = cond d (record { before = size e ∷ z.before; after = [] }) z
  counted d undo z = record { before = tail z.before; after = first_onto z.before z.after }
  counted d redo z = record { before = first_onto z.after z.before; after = tail z.after }
  counted d mark z = z

  abbrev pub next : Tally → Call Edit → Outcome Tally
  next t c =
      let o = enter A t.ledger c in
      record { answer = o.answer; leaves = record { ledger = o.leaves; lengths = counted (is_done o.answer) c t.lengths } }

  -- the bytes that a call wants of the journal: a push that the ledger takes, the records before it and its own; any other call none
  abbrev pub wants : Tally → Call Edit → ℕ
  wants t (push e) = cond (is_done (enter A t.ledger (push e)).answer) (total t.lengths.before + size e) 0
  wants t undo = 0
  wants t redo = 0
  wants t mark = 0
