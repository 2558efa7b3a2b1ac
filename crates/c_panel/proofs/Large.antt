-- 28, and a side over 64. Assumes nothing.
use mathlib.Core.Path.{◌≡◌, refl, ap, ◌∙◌}
use mathlib.Core.Bool.{Bool, true, false, cond, ◌||◌, or-true}
use mathlib.Core.List.{List}
use Prim.Native.Nat.{ℕ, ◌+◌, ◌*◌, ◌≤◌, ◌<◌}
use native.Mathlib.Nat.{mul-le-mul}
use borrow.Author.Tests.{lt-ltb, le-ltb, eqb-true, not-false}
use lib.Dec.{ltb}
use lib.ListN.{length}
use Rattle.base.specs.Limits.{max_journal}
use Rattle.base.specs.Checks.{first_of, refused_or, or_else}
use Rattle.base.specs.Answer.{number, number_of, answer_told}
use Rattle.base.specs.declared.Answer as base
use Rattle.base.specs.declared.Answer.TheVariants.{Refused}
use Rattle.base.proofs.Scan.{or_left, or_right}
use Rattle.sheet.specs.Sheet.{view}
use Rattle.history_ledger.specs.Calls.{Outcome}
use Rattle.history_ledger.specs.Calls.Call.{mark}
use Rattle.history_ledger.specs.Journal.{State, move_checks, redoChecks, undoOf, redoOf, stepOver, mark_of}
use Rattle.history_model.specs.Document.{Document}
use Rattle.history_model.specs.Calls.{outcome_of}
use Rattle.history_model.specs.Editing.{editing}
use Rattle.c_form.specs.Flat.{width_in, height_in, count_in, places_in, sheet_misfits, handle_misfits, handle_in}
use Rattle.c_model.specs.Asked.{sides_over, flat_editing}
use Rattle.c_model.specs.Step.{Flat, flat_of, sheet_in, state_in, flat_left, flattened, misfits, moved, handle_left, flat_mark, flat_step, FlatLeaves}
use Rattle.c_model.proofs.Faithful.{suited}
use Rattle.c_panel.specs.Lent.{Sized, flat_moved}

-- ---- 28
pub fits-forty : (b : List ℕ) → handle_misfits b ≡ false → length b ≡ 40
unfolding handle_misfits
fits-forty b e = eqb-true (length b) 40 (not-false _ e)

pub fits-handle : (b c : List ℕ) → (sheet_misfits b || handle_misfits c) ≡ false → length c ≡ 40
fits-handle b c e = fits-forty c (or_right (sheet_misfits b) _ e)

pub fits-suits : (b c : List ℕ) → (sheet_misfits b || handle_misfits c) ≡ false → length b ≡ 7146 + 2 * places_in b
fits-suits b c e = suited b (or_left _ _ e)

pub both-fit : (b c : List ℕ) → sheet_misfits b ≡ false → handle_misfits c ≡ false → (sheet_misfits b || handle_misfits c) ≡ false
both-fit b c p q = rw (p, q)

misfit-leaves : (s : Flat) (o : Outcome (State Document)) → misfits s ≡ true → FlatLeaves 28 s.sheet s.journal s.handle (moved s o)
unfolding moved first_of refused_or
misfit-leaves s o e = rw e (refl, refl)

pub sheet-misfit : (s : Flat) (o : Outcome (State Document)) → sheet_misfits s.sheet ≡ true → FlatLeaves 28 s.sheet s.journal s.handle (moved s o)
sheet-misfit s o e = misfit-leaves s o (rw e)

pub handle-misfit : (s : Flat) (o : Outcome (State Document)) → handle_misfits s.handle ≡ true → FlatLeaves 28 s.sheet s.journal s.handle (moved s o)
handle-misfit s o e = misfit-leaves s o (rw e (or-true (sheet_misfits s.sheet)))

-- past 28: the answer's number
pub numbered : (s : Flat) (o : Outcome (State Document)) (a : base.Answer) (sheet' journal' handle' : List ℕ) (r : ℕ) → misfits s ≡ false
    → flat_moved a sheet' journal' handle' ≡ flattened s o → r ≡ number_of a → FlatLeaves r sheet' journal' handle' (moved s o)
unfolding moved first_of refused_or
numbered s o a sheet' journal' handle' r e p q =
    rw e (q ∙ ap (λ (x : Outcome Flat). number x.answer) p, ap (λ (x : Outcome Flat). x.leaves) p)

-- ---- mark
pub mark-misfit : (s : Flat) → misfits s ≡ true → FlatLeaves 28 s.sheet s.journal s.handle (flat_step s mark)
unfolding flat_step flat_mark first_of refused_or
mark-misfit s e = rw e (refl, refl)

pub mark-no-sheet : (s : Flat) → sheet_misfits s.sheet ≡ true → FlatLeaves 28 s.sheet s.journal s.handle (flat_step s mark)
mark-no-sheet s e = mark-misfit s (rw e)

pub mark-no-handle : (s : Flat) → handle_misfits s.handle ≡ true → FlatLeaves 28 s.sheet s.journal s.handle (flat_step s mark)
mark-no-handle s e = mark-misfit s (rw e (or-true (sheet_misfits s.sheet)))

pub mark-leaves : (s : Flat) (r : ℕ) (b' : List ℕ) (a : base.Answer) {h : _} → misfits s ≡ false
    → outcome_of a h ≡ mark_of (length s.journal) (handle_in s.handle) → b' ≡ handle_left s.handle (answer_told a) h → r ≡ number_of a
    → FlatLeaves r s.sheet s.journal b' (flat_step s mark)
unfolding flat_step flat_mark first_of refused_or
mark-leaves s r b' a {h} e p q t = rw (e, ← p) (t, ap (flat_of s.sheet s.journal) q)

-- ---- the sides
pub over-width : (b : List ℕ) (w : ℕ) → w ≡ width_in b → 64 < w → sides_over (width_in b) (height_in b) ≡ true
unfolding sides_over
over-width b w e h = rw (← e, lt-ltb 64 w h)

pub over-height : (b : List ℕ) (h : ℕ) → h ≡ height_in b → 64 < h → sides_over (width_in b) (height_in b) ≡ true
unfolding sides_over
over-height b h e k = rw (← e, lt-ltb 64 h k) (or-true (ltb 64 (width_in b)))

pub sides-fit : (b : List ℕ) (w h : ℕ) → w ≡ width_in b → h ≡ height_in b → w ≤ 64 → h ≤ 64 → sides_over (width_in b) (height_in b) ≡ false
unfolding sides_over
sides-fit b w h e f p q = rw (← e, ← f, le-ltb 64 w p, le-ltb 64 h q)

pub few : (w h : ℕ) → w ≤ 64 → h ≤ 64 → w * h ≤ 4096
few w h p q = mul-le-mul {n₁ = w} {m₁ = h} {n₂ = 64} {m₂ = 64} p q

pub sized : (b c : List ℕ) (w h k n : ℕ) → (sheet_misfits b || handle_misfits c) ≡ false → w ≡ width_in b → h ≡ height_in b → k ≡ count_in b → n ≡ w * h
    → Sized w h k n b
sized b c w h k n e ew eh ek en =
    record { width = ew; height = eh; count = ek; size = en; suits = rw (en, ew, eh) (fits-suits b c e) }

-- ---- undo under this crate's limits
large-moves : (s : Flat) → sides_over (width_in s.sheet) (height_in s.sheet) ≡ true → first_of (move_checks flat_editing (state_in s)) ≡ 1
unfolding first_of view sheet_in
large-moves s e = rw e (go (ltb max_journal (length s.journal)))
  where
    go : (b : Bool) → or_else (cond b 1 0) 1 ≡ 1
    go true = refl
    go false = refl

pub large-undo : (s : Flat) → sides_over (width_in s.sheet) (height_in s.sheet) ≡ true
    → flat_moved (Refused 1) s.sheet s.journal s.handle ≡ flattened s (undoOf flat_editing (state_in s))
unfolding undoOf refused_or flattened flat_left
large-undo s e = rw (large-moves s e)

pub small-undo : (s : Flat) → sides_over (width_in s.sheet) (height_in s.sheet) ≡ false → undoOf editing (state_in s) ≡ undoOf flat_editing (state_in s)
unfolding undoOf stepOver view sheet_in
small-undo s e = rw e

-- ---- redo
large-redo-checks : (s : Flat) → sides_over (width_in s.sheet) (height_in s.sheet) ≡ true → first_of (redoChecks flat_editing (state_in s)) ≡ 1
unfolding first_of view sheet_in
large-redo-checks s e = rw e (go (ltb max_journal (length s.journal)))
  where
    go : (b : Bool) → or_else (cond b 1 0) 1 ≡ 1
    go true = refl
    go false = refl

pub large-redo : (room : ℕ) (s : Flat) → sides_over (width_in s.sheet) (height_in s.sheet) ≡ true
    → flat_moved (Refused 1) s.sheet s.journal s.handle ≡ flattened s (redoOf flat_editing room (state_in s))
unfolding redoOf refused_or flattened flat_left
large-redo room s e = rw (large-redo-checks s e)

pub small-redo : (room : ℕ) (s : Flat) → sides_over (width_in s.sheet) (height_in s.sheet) ≡ false
    → redoOf editing room (state_in s) ≡ redoOf flat_editing room (state_in s)
unfolding redoOf stepOver view sheet_in
small-redo room s e = rw e
