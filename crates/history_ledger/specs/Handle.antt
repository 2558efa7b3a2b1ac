-- Document 01's handle: when it is sound, when it is dirty, and the steps that push, undo, redo and mark make on it. Definitions only. Assumes nothing.
use Rattle.std.specs.Prelude.{Bool, true, not, cond, ◌&&◌, ◌||◌, List, [], ◌∷◌, ℕ, ◌+◌, ◌-◌, ◌*◌, leb, eqb}
use Rattle.std.specs.Bool.{beq}
use Rattle.std.proofs.Math.Option.{Option, none, some}
use Rattle.base.specs.declared.Handle.{Handle}

-- "saved position or none": all ones for none
abbrev pub nowhere : ℕ
nowhere = 18446744073709551615

unfoldable pub saved_position : Handle → Option ℕ
saved_position h = cond (eqb h.saved nowhere) none (some h.saved)

-- "fresh, five zeros"
abbrev pub fresh : Handle
fresh = record { offset = 0; end = 0; position = 0; count = 0; saved = 0 }

-- "It is sound when standing offset ≤ end ≤ journal length, position ≤ count, saved ≤ count, 8 × position ≤ offset, 8 ×
-- (count - position) ≤ end - offset, offset 0 exactly at position 0, offset = end exactly at position = count": its
-- clauses, in a journal of `size` bytes
unfoldable pub clauses : ℕ → Handle → List Bool
clauses size h =
    leb h.offset h.end
    ∷ leb h.end size
    ∷ leb h.position h.count
    ∷ (eqb h.saved nowhere || leb h.saved h.count)
    ∷ leb (8 * h.position) h.offset
    ∷ leb (8 * (h.count - h.position)) (h.end - h.offset)
    ∷ beq (eqb h.offset 0) (eqb h.position 0)
    ∷ beq (eqb h.offset h.end) (eqb h.position h.count)
    ∷ []

abbrev pub all_of : List Bool → Bool
all_of [] = true
all_of (b ∷ bs) = b && all_of bs

unfoldable pub sound : ℕ → Handle → Bool
sound size h = all_of (clauses size h)

-- "An accepted push makes end the standing offset after the record", here of n bytes; the ledger's "drop pictures after
-- the standing one, forget a saved position beyond it, append .., step up"
abbrev pub after_push : ℕ → Handle → Handle
after_push n h =
    record {
      offset = h.offset + n;
      end = h.offset + n;
      position = h.position + 1;
      count = h.position + 1;
      saved = cond (leb h.saved h.position) h.saved nowhere;
    }

-- "Undo steps the standing offset back over the record that ends there, redo forward over the one that starts there; neither .. moves the end"
abbrev pub stepped_back : ℕ → Handle → Handle
stepped_back n h = record { offset = h.offset - n; end = h.end; position = h.position - 1; count = h.count; saved = h.saved }

abbrev pub stepped_forth : ℕ → Handle → Handle
stepped_forth n h = record { offset = h.offset + n; end = h.end; position = h.position + 1; count = h.count; saved = h.saved }

-- "Mark: saved is standing"
abbrev pub marked : Handle → Handle
marked h = record { offset = h.offset; end = h.end; position = h.position; count = h.count; saved = h.position }

-- "Dirty means saved is none or another position"
unfoldable pub is_other : Option ℕ → ℕ → Bool
is_other none position = true
is_other (some saved) position = not (eqb saved position)

abbrev pub dirty : Handle → Bool
dirty h = is_other (saved_position h) h.position
