-- Of the tally alone: what is left of a list of calls, once those answered "journal full" are struck, goes the same way in a longer journal and in the
-- ledger. Assumes nothing.
use mathlib.Core.Path.{◌≡◌, refl, sym, ap, subst, ◌∙◌}
use mathlib.Core.Bool.{Bool, true, false}
use mathlib.Core.List.{List, [], ◌∷◌}
use Prim.Native.Nat.{ℕ, ◌≤◌, ◌<◌}
use native.Mathlib.Omega.{arith}
use lib.ListN.{length}
use lib.Dec.{ltb, eqb}
use borrow.Author.Tests.{ltb-true, ltb-false}
use Rattle.base.specs.Numbers.{journal_full}
use Rattle.base.specs.Answer.Told.{alone}
use Rattle.history_ledger.specs.Calls.{Call, Played, play}
use Rattle.history_ledger.specs.Calls.Call.{push, undo, redo, mark}
use Rattle.history_ledger.specs.Algebra.{Algebra}
use Rattle.history_ledger.specs.Laws.{Laws}
use Rattle.history_ledger.specs.Ledger.{Ledger, standing, ledgerChecks, enter}
use Rattle.history_ledger.specs.Demand.{is_full, unstruck}
use Rattle.history_ledger.proofs.Refusals.{twenty-one, passed-other, done-other, not_full, still_full, guarded-full}
use Rattle.history_ledger.proofs.Playing.{played, onward, play-cons}
use Rattle.history_ledger.specs.Tally.{Tally, wants, next}
use Rattle.history_ledger.proofs.Tally.{turn, turn-full, turn-fits}

module _ (A : Algebra) (L : Laws A) where
  open A use {Edit, is_empty}

  -- the ledger never answers "journal full"
  enter-other : (l : Ledger A) (c : Call Edit) → ¬ ((enter A l c).answer ≡ alone journal_full)
  unfolding enter
  enter-other l (push e) p =
      let s = standing A l in
      let a = guarded-full l (ledgerChecks A s e) _ (L.first-not-full e, (L.given-not-full e, (L.picture-not-full s, (passed-other _ L.curve-passes, (twenty-one, (L.own-not-full s e, tt)))))) p in
      done-other (still_full l (is_empty e) _ a.1).1
  enter-other l undo p = done-other (still_full l (eqb l.position 0) _ p).1
  enter-other l redo p = done-other (still_full l (eqb l.position (length l.later)) _ p).1
  enter-other l mark p = done-other p

  pub enter-unstruck : (l : Ledger A) (c : Call Edit) → is_full (enter A l c).answer ≡ false
  enter-unstruck l c = not_full (enter A l c).answer (enter-other l c)

  pub record Kept (n' : ℕ) (t : Tally A) (cs : List (Call Edit)) (ran : Played (Tally A)) : Type 0 where
    pub longer : play (turn A n') t (unstruck cs ran.answers) ≡ played (unstruck ran.answers ran.answers) ran.ends
    pub booked : play (enter A) t.ledger (unstruck cs ran.answers) ≡ played (unstruck ran.answers ran.answers) ran.ends.ledger

  module _ (n n' : ℕ) (b : n ≤ n') where
    abbrev KeptAt : Tally A → List (Call Edit) → Type 0
    KeptAt t cs = Kept n' t cs (play (turn A n) t cs)

    kept-struck : (t : Tally A) (c : Call Edit) (cs : List (Call Edit)) → n < wants A t c → KeptAt t cs → KeptAt t (c ∷ cs)
    unfolding unstruck
    kept-struck t c cs h later =
        subst (Kept n' t (c ∷ cs)) (sym (play-cons (turn A n) t c cs (turn-full A n t c h))) (record { longer = later.longer; booked = later.booked })

    kept-left : (t : Tally A) (c : Call Edit) (cs : List (Call Edit)) → wants A t c ≤ n → KeptAt (next A t c).leaves cs → KeptAt t (c ∷ cs)
    unfolding unstruck
    kept-left t c cs h later =
        let a = (next A t c).answer in
        subst (Kept n' t (c ∷ cs)) (sym (play-cons (turn A n) t c cs (turn-fits A n t c h)))
        (record {
          longer = rw (enter-unstruck t.ledger c) (play-cons (turn A n') t c _ (turn-fits A n' t c (omega arith)) ∙ ap (onward a) later.longer);
          booked = rw (enter-unstruck t.ledger c) (play-cons (enter A) t.ledger c _ refl ∙ ap (onward a) later.booked);
        })

    pub kept : (cs : List (Call Edit)) (t : Tally A) → KeptAt t cs
    unfolding play unstruck
    kept [] t = record { longer = refl; booked = refl }
    kept (c ∷ cs) t = go (ltb n (wants A t c)) refl (kept cs t) (kept cs (next A t c).leaves)
      where
        go : (w : Bool) → ltb n (wants A t c) ≡ w → KeptAt t cs → KeptAt (next A t c).leaves cs → KeptAt t (c ∷ cs)
        go true q struck left = kept-struck t c cs (ltb-true _ _ q) struck
        go false q struck left = kept-left t c cs (ltb-false _ _ q) left
