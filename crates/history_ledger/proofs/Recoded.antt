-- A call on a sheet in its form does what the call does on the sheet, written over the form where the answer is "done".
-- Assumes nothing.
use mathlib.Core.Path.{◌≡◌, refl}
use mathlib.Core.Bool.{Bool, true, false, cond}
use mathlib.Core.List.{List, [], ◌∷◌}
use mathlib.Core.Option.{Option, none, some}
use Prim.Native.Nat.{ℕ, zero, suc, ◌+◌, ◌-◌}
use lib.Dec.{leb, eqb}
use lib.ListN.{take, drop}
use Rattle.base.specs.Checks.{Check, first_of, refused_or}
use Rattle.base.specs.Answer.Told.{result, alone}
use Rattle.base.specs.declared.Handle.{Handle}
use Rattle.history_ledger.specs.Handle.{stepped_back, stepped_forth}
use Rattle.history_ledger.specs.Calls.{Answer, Outcome, done, still, refused, guarded}
use Rattle.history_ledger.specs.Algebra.{Algebra, Taken}
use Rattle.history_ledger.specs.Journal.{State, pushOf, pushed, undoOf, redoOf, stepOver}
use Rattle.history_ledger.specs.Coded.{Coding, recoded, coded}

module _ (A : Algebra) (C : Coding A) where
  open C use {Code, read, write}

  abbrev K : Algebra
  K = coded A C

  abbrev pub readState : State Code → State A.Sheet
  readState st = record { sheet = read st.sheet; journal = st.journal; handle = st.handle }

  unfoldable pub leftIn : State Code → Answer → State A.Sheet → State Code
  leftIn st (result d) t = record { sheet = write t.sheet st.sheet; journal = t.journal; handle = t.handle }
  leftIn st (alone n) t = st

  abbrev pub inForm : State Code → Outcome (State A.Sheet) → Outcome (State Code)
  inForm st o = record { answer = o.answer; leaves = leftIn st o.answer o.leaves }

  -- ---- outcomes, one by one
  guarded-in : (st : State Code) (cs : List Check) (x : Outcome (State Code)) (y : Outcome (State A.Sheet)) → x ≡ inForm st y
      → guarded st cs x ≡ inForm st (guarded (readState st) cs y)
  unfolding refused_or leftIn
  guarded-in st cs x y e = go (first_of cs)
    where
      go : (n : ℕ) → refused_or n (refused st) x ≡ inForm st (refused_or n (refused (readState st)) y)
      go zero = e
      go (suc n) = refl

  cond-in : (st : State Code) (b : Bool) (x x' : Outcome (State Code)) (y y' : Outcome (State A.Sheet)) → x ≡ inForm st y → x' ≡ inForm st y'
      → cond b x x' ≡ inForm st (cond b y y')
  cond-in st true x x' y y' e e' = e
  cond-in st false x x' y y' e e' = e'

  still-in : (st : State Code) → still st ≡ inForm st (still (readState st))
  unfolding leftIn
  still-in st = refl

  over-in : (st : State Code) (r : Option (Taken A.Sheet)) (inside : ℕ → Bool) (stepped : ℕ → Handle → Handle)
      → stepOver K st (recoded A C st.sheet r) inside stepped ≡ inForm st (stepOver A (readState st) r inside stepped)
  unfolding stepOver leftIn
  over-in st none inside stepped = refl
  over-in st (some t) inside stepped = guarded-in st _ _ _ refl

  -- ---- the calls
  pub push-in : (room : ℕ) (st : State Code) (e : A.Edit) → pushOf K room st e ≡ inForm st (pushOf A room (readState st) e)
  unfolding pushOf pushed leftIn
  push-in room st e = guarded-in st _ _ _ (cond-in st (A.is_empty e) _ _ _ _ (still-in st) (guarded-in st _ _ _ refl))

  pub undo-in : (st : State Code) → undoOf K st ≡ inForm st (undoOf A (readState st))
  unfolding undoOf
  undo-in st =
      let offset = st.handle.offset in
      guarded-in st _ _ _ (cond-in st (eqb st.handle.position 0) _ _ _ _ (still-in st)
      (over-in st (A.back (take offset st.journal) (read st.sheet)) (λ n. leb n offset) stepped_back))

  pub redo-in : (room : ℕ) (st : State Code) → redoOf K room st ≡ inForm st (redoOf A room (readState st))
  unfolding redoOf
  redo-in room st =
      let offset = st.handle.offset in
      let end = st.handle.end in
      guarded-in st _ _ _ (cond-in st (eqb st.handle.position st.handle.count) _ _ _ _ (still-in st) (guarded-in st _ _ _
      (over-in st (A.forth (take (end - offset) (drop offset st.journal)) (read st.sheet)) (λ n. leb (offset + n) end) stepped_forth)))
