-- "Convert a whole journal with its handle from the old form to the new and back": document 02, E9. Definitions only. Assumes nothing.
use Rattle.std.specs.Prelude.{ℕ, ◌+◌, ◌-◌, ◌||◌, List, [], ◌∷◌, ◌++◌, ltb, length, take, drop}
use Rattle.std.proofs.Math.Option.{Option, none, some}
use Rattle.base.specs.Limits.{max_side}
use Rattle.base.specs.Numbers.{bad_sheet, journal_damaged, journal_full}
use Rattle.base.specs.Checks.{Check, ◌when◌}
use Rattle.base.specs.Lists.{over}
use Rattle.base.specs.declared.Form.{Form}
use Rattle.base.specs.declared.Handle.{Handle}
use Rattle.history_ledger.specs.Calls.{Outcome, done, refused, guarded}
use Rattle.history_ledger.specs.Journal.{long_journal, unsound}
use Rattle.journal_raw.specs.Raw.{Raw, other, raws_bytes, raws_in, any_stray}

-- what a conversion hands back: the handle, and the journal lent for the outcome
pub record Lent : Type 0 where
  pub handle : Handle
  pub out : List ℕ

abbrev pub lent : Handle → List ℕ → Lent
lent handle out = record { handle = handle; out = out }

-- "Every record of the used part": those before the standing offset, and those after it, which are undone
pub record Used : Type 0 where
  pub past : List Raw
  pub future : List Raw

unfoldable pub both_read : Option (List Raw) → Option (List Raw) → Option Used
both_read none future = none
both_read (some past) none = none
both_read (some past) (some future) = some (record { past = past; future = future })

-- "records that do not add up to the handle's offsets and counts" are not read: the standing offset is the edge after
-- exactly `position` records, and the end the edge after exactly `count`
unfoldable pub used_in : Form → ℕ → List ℕ → Handle → Option Used
used_in f w journal h =
    both_read (raws_in f w h.position (take h.offset journal))
    (raws_in f w (h.count - h.position) (take (h.end - h.offset) (drop h.offset journal)))

-- the outcome's bytes, and its handle: the offsets of the new lengths
abbrev pub used_bytes : Form → ℕ → Used → List ℕ
used_bytes g w u = raws_bytes g w u.past ++ raws_bytes g w u.future

abbrev pub moved_to : ℕ → ℕ → Handle → Handle
moved_to offset end h = record { offset = offset; end = end; position = h.position; count = h.count; saved = h.saved }

abbrev pub used_handle : Form → ℕ → Used → Handle → Handle
used_handle g w u h = moved_to (length (raws_bytes g w u.past)) (length (raws_bytes g w u.past) + length (raws_bytes g w u.future)) h

-- 4 for "a place off the sheet"; "14 when its outcome is longer than the journal lent for it"
abbrev pub record_checks : Form → ℕ → ℕ → List ℕ → Used → List Check
record_checks g w h out u =
    journal_damaged when (any_stray w h u.past || any_stray w h u.future)
    ∷ journal_full when ltb (length out) (length (raws_bytes g w u.past) + length (raws_bytes g w u.future))
    ∷ []

unfoldable pub rewritten : Form → ℕ → ℕ → Handle → List ℕ → Option Used → Outcome Lent
rewritten g w h handle out none = refused (lent handle out) journal_damaged
rewritten g w h handle out (some u) =
    guarded (lent handle out) (record_checks g w h out u)
    (done (lent (used_handle g w u handle) (over (used_bytes g w u) out)))

-- 1 for a side or a journal over its limit, 4 for an unsound handle
abbrev pub entry_checks : ℕ → ℕ → ℕ → ℕ → Handle → List Check
entry_checks w h size room handle =
    bad_sheet when (ltb max_side w || ltb max_side h)
    ∷ long_journal size
    ∷ long_journal room
    ∷ unsound size handle
    ∷ []

unfoldable pub convert_of : Form → ℕ → ℕ → List ℕ → Handle → List ℕ → Outcome Lent
convert_of f w h journal handle out =
    guarded (lent handle out) (entry_checks w h (length journal) (length out) handle)
    (rewritten (other f) w h handle out (used_in f w journal handle))
