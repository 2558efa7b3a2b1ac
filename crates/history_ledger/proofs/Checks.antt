-- Which checks apply to a state on the way: of 28, 1 to 4 and 25 only those of a push's arguments, and never the scratch's 16; so push's are the ledger's and 14. Assumes nothing.
use mathlib.Core.Path.{◌≡◌, refl, ap}
use mathlib.Core.Bool.{true, false, cond}
use mathlib.Core.List.{[], ◌∷◌}
use Prim.Native.Nat.{ℕ, zero, suc, ◌+◌, ◌≤◌}
use lib.ListN.{length}
use lib.Dec.{ltb}
use borrow.Author.Tests.{le-ltb}
use Rattle.base.specs.Limits.{max_journal}
use Rattle.base.specs.Numbers.{journal_full, list_too_long}
use Rattle.base.specs.Checks.{◌when◌, or_else, first_of}
use Rattle.base.proofs.First.{or-else-zero, or-else-assoc, first_passes}
use Rattle.history_ledger.specs.Handle.{sound}
use Rattle.history_ledger.specs.Calls.{group}
use Rattle.history_ledger.specs.Algebra.{Algebra}
use Rattle.history_ledger.specs.Laws.{Laws}
use Rattle.history_ledger.specs.Journal.{long_journal, unsound, shortScratch, entry_checks, pushChecks, move_checks, redoChecks}
use Rattle.history_ledger.specs.Ledger.{standing, ledgerChecks}
use Rattle.history_ledger.proofs.Refusals.{when-passes, each-passes}
use Rattle.history_ledger.specs.Tally.{total}
use Rattle.history_ledger.proofs.Trace.{Trace, Holds, sizes, journalOf, handle_of, state_of, ledgerOf, stands}
use Rattle.history_ledger.proofs.Lengths.{sound-handle}

or-else-regroup : (a b c : ℕ) → or_else a (or_else b (or_else c 0)) ≡ or_else (or_else a (or_else b 0)) c
or-else-regroup zero zero c = or-else-zero c
or-else-regroup zero (suc b) c = refl
or-else-regroup (suc a) b c = refl

module _ (A : Algebra) where
  open A use {Picture, Edit, view, first_check, given_check, own_check, is_empty, is_long, size}

  -- the checks that the ledger makes too, and push only after its "still": 21, then push's own
  pub late : Picture → Edit → ℕ
  late p e = first_of (list_too_long when is_long e ∷ group (own_check p e) ∷ [])

  pub record LatePasses (p : Picture) (e : Edit) : Type 0 where
    pub not-long : is_long e ≡ false
    pub own-passes : own_check p e ≡ 0

  pub late-passes : (p : Picture) (e : Edit) → late p e ≡ 0 → LatePasses p e
  unfolding late first_of
  late-passes p e h =
      let each = each-passes (list_too_long when is_long e ∷ group (own_check p e) ∷ []) h in
      record { not-long = when-passes _ (is_long e) each.0; own-passes = each.1.0 }

  -- the checks of a push's arguments, which push and the ledger make first
  pub early : Edit → ℕ
  early e = or_else (first_check e) (given_check e)

  pub early-passes : (e : Edit) → early e ≡ 0 → (first_check e ≡ 0) × (given_check e ≡ 0)
  unfolding early
  early-passes e h = first_passes (first_check e) (given_check e) h

  -- push's checks, and the ledger's, in the state and the ledger of a trace
  pub record PushChecks (room : ℕ) (k : Trace A) (e : Edit) : Type 0 where
    pub entry : first_of (entry_checks A (state_of A k) e) ≡ early e
    pub rest : first_of (pushChecks A room (state_of A k) e)
        ≡ or_else (late (view k.sheet) e) (cond (ltb (length (journalOf A k)) (total (sizes A k.past) + size e)) journal_full 0)
    pub ledger : first_of (ledgerChecks A (standing A (ledgerOf A k)) e) ≡ or_else (early e) (late (view k.sheet) e)

  module _ (L : Laws A) where
    pub late-empty : (p : Picture) (e : Edit) → is_empty e ≡ true → late p e ≡ 0
    unfolding late first_of
    late-empty p e r = rw (L.empty-short e r, L.empty-own p e r)

    module _ (room n : ℕ) (permitted : n ≤ max_journal) (k : Trace A) (h : Holds A room n k) where
      permits : ltb max_journal (length (journalOf A k)) ≡ false
      permits = rw h.sized (le-ltb max_journal n permitted)

      sounds : sound (length (journalOf A k)) (handle_of A k) ≡ true
      sounds = sound-handle A L k h.saves

      pub move-passes : first_of (move_checks A (state_of A k)) ≡ 0
      unfolding first_of
      move-passes = rw (permits, h.fits.passes, sounds)

      pub redo-passes : first_of (redoChecks A (state_of A k)) ≡ 0
      unfolding first_of
      redo-passes = rw (permits, h.fits.passes, sounds, L.curve-passes)

      pub mark-passes : first_of (long_journal (length (journalOf A k)) ∷ unsound (length (journalOf A k)) (handle_of A k) ∷ []) ≡ 0
      unfolding first_of
      mark-passes = rw (permits, sounds)

      pub scratch-passes : first_of (shortScratch A room (state_of A k) ∷ []) ≡ 0
      unfolding first_of
      scratch-passes = rw (le-ltb _ _ h.scratch)

      pub push-checks : (e : Edit) → PushChecks room k e
      unfolding early late first_of
      push-checks e =
          record {
            entry = rw (permits, h.fits.passes, sounds, L.curve-passes) (ap (or_else (first_check e)) (or-else-zero (given_check e)));
            rest = rw (le-ltb _ _ h.scratch) (or-else-regroup (cond (is_long e) list_too_long 0) (own_check (view k.sheet) e) _);
            ledger = rw (← stands A k h.leads, L.view-passes k.sheet h.fits, L.curve-passes) (or-else-assoc (first_check e) (given_check e) _);
          }
