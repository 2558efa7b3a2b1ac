-- A record where it lies in the bytes of a journal, and what a measure of it answers. Definitions only. Assumes nothing.
use Rattle.std.specs.Prelude.{ℕ, ◌+◌, ◌≤◌, ◌<◌, cond, List, length, take, drop, Some, None}
use Rattle.std.specs.Prelude as rust
use Rattle.std.proofs.Math.Option.{Option, none, some}
use Rattle.base.specs.declared.Form.{Form}
use Rattle.journal_record.specs.Record.{changes_in}
use Rattle.journal_raw.specs.declared.Written.{Written}
use Rattle.journal_raw.specs.Raw.{Raw, head_length, raw_length, stray}

-- the record of this kind and count that starts at `at`
abbrev pub raw_at : Form → ℕ → List ℕ → ℕ → ℕ → ℕ → Raw
raw_at f w bytes at kind count =
    record {
      kind = kind;
      head = take (head_length kind) (drop (at + 1) bytes);
      changes = changes_in f w bytes (at + 1 + head_length kind) count;
    }

-- its length, and its length in the form g; none where a change is off the sheet
unfoldable pub measured_raw : Form → ℕ → ℕ → Option (ℕ × Raw) → rust.Option Written
measured_raw g w h none = None
measured_raw g w h (some r) = cond (stray w h r.1) None (Some (record { length = r.0; size = raw_length g r.1 }))

-- what writing a record in the form g asks: only a sheet that has a width has changes, and there is room from `to` on
pub record Room (g : Form) (w : ℕ) (r : Raw) (to room : ℕ) : Type 0 where
  pub wide : 0 < length r.changes → 0 < w
  pub roomy : to + raw_length g r ≤ room
