-- Document 01's "Ledger": whole pictures, and no edit is ever reverted. Definitions only. Assumes nothing.
use Rattle.std.specs.Prelude.{cond, List, [], ◌∷◌, ◌++◌, ℕ, ◌+◌, ◌-◌, length, take, get_or, leb, eqb}
use Rattle.std.proofs.Math.Option.{Option, none, some}
use Rattle.base.specs.Numbers.{list_too_long}
use Rattle.base.specs.Checks.{Check, ◌when◌}
use Rattle.history_ledger.specs.Calls.{Call, Outcome, done, still, guarded, group}
use Rattle.history_ledger.specs.Calls.Call.{push, undo, redo, mark}
use Rattle.history_ledger.specs.Algebra.{Algebra}

-- "forget a saved position beyond it"
unfoldable pub forget : ℕ → Option ℕ → Option ℕ
forget n none = none
forget n (some k) = cond (leb k n) (some k) none

module _ (A : Algebra) where
  open A use {Picture, Edit, first_check, curve_check, picture_check, given_check, own_check, is_empty, is_long, paint}

  -- "a list of whole pictures .., a standing position, a saved position or none"; the list has the opening picture at its front
  pub record Ledger : Type 0 where
    pub opening : Picture
    pub later : List Picture
    pub position : ℕ
    pub saved : Option ℕ

  -- "at first the opening picture, 0, saved 0"
  abbrev pub begun : Picture → Ledger
  begun p = record { opening = p; later = []; position = 0; saved = some 0 }

  unfoldable pub standing : Ledger → Picture
  standing l = get_or (l.opening ∷ l.later) l.position l.opening

  -- "the first of push's checks, 4, 16 and 14 left out, that applies to standing picture and arguments"
  abbrev pub ledgerChecks : Picture → Edit → List Check
  ledgerChecks p e =
      group (first_check e)
      ∷ group (given_check e)
      ∷ group (picture_check p)
      ∷ group curve_check
      ∷ list_too_long when is_long e
      ∷ group (own_check p e)
      ∷ []

  -- "drop pictures after the standing one, forget a saved position beyond it, append the picture `redo` makes, step up"
  unfoldable pub appended : Ledger → Picture → Ledger
  appended l p =
      record {
        opening = l.opening;
        later = take l.position l.later ++ (p ∷ []);
        position = l.position + 1;
        saved = forget l.position l.saved;
      }

  unfoldable pub moved_to : ℕ → Ledger → Ledger
  moved_to n l = record { opening = l.opening; later = l.later; position = n; saved = l.saved }

  unfoldable pub enter : Ledger → Call Edit → Outcome Ledger
  -- "gives its number and no change. Else empty pixels are "still". Else .. "done""
  enter l (push e) =
      guarded l (ledgerChecks (standing l) e)
      (cond (is_empty e) (still l)
      (done (appended l (paint (standing l) e))))
  -- "Undo: at 0 "still", else one down, "done""
  enter l undo = cond (eqb l.position 0) (still l) (done (moved_to (l.position - 1) l))
  -- "Redo: at the last "still", else one up, "done""
  enter l redo = cond (eqb l.position (length l.later)) (still l) (done (moved_to (l.position + 1) l))
  -- "Mark: saved is standing, "done""
  enter l mark = done (record { opening = l.opening; later = l.later; position = l.position; saved = some l.position })
