-- What the measures of a part and of the whole used part answer, and what writing a part asks. Definitions only. Assumes nothing.
use Rattle.std.specs.Prelude.{ℕ, ◌+◌, ◌-◌, ◌≤◌, ◌<◌, ◌≡◌, cond, ◌||◌, List, length, take, drop, Some, None}
use Rattle.std.specs.Prelude as rust
use Rattle.std.proofs.Math.Option.{Option, none, some}
use Rattle.base.specs.Answer.{answer_told}
use Rattle.base.specs.Lists as lists
use Rattle.base.specs.declared.Form.{Form}
use Rattle.base.specs.declared.Handle.{Handle}
use Rattle.history_ledger.specs.Calls.{Outcome}
use Rattle.journal_raw.specs.Raw.{Raw, other, raws_bytes, raws_in, any_stray}
use Rattle.history_convert.specs.declared.Sizes.{Sizes}
use Rattle.base.specs.declared.Converted.{Converted}
use Rattle.history_convert.specs.Convert.{Lent, lent, Used, used_in}

-- the length of a part in the form g; none where it is not read or a change is off the sheet
unfoldable pub size_of : Form → ℕ → ℕ → Option (List Raw) → rust.Option ℕ
size_of g w h none = None
size_of g w h (some rs) = cond (any_stray w h rs) None (Some (length (raws_bytes g w rs)))

-- the same of both parts
unfoldable pub sizes_of : Form → ℕ → ℕ → Option Used → rust.Option Sizes
sizes_of g w h none = None
sizes_of g w h (some u) =
    cond (any_stray w h u.past || any_stray w h u.future) None
    (Some (record { past = length (raws_bytes g w u.past); future = length (raws_bytes g w u.future) }))

-- both parts, measured one by one
unfoldable pub both_of : rust.Option ℕ → rust.Option ℕ → rust.Option Sizes
both_of None future = None
both_of (Some past) None = None
both_of (Some past) (Some future) = Some (record { past = past; future = future })

-- what writing the n records of a part asks: they are read, only a sheet that has a width has changes, and there is room from `to` on
pub record Ready (f : Form) (w n : ℕ) (bytes : List ℕ) (to room : ℕ) : Type 0 where
  pub raws : List Raw
  pub reads : raws_in f w n bytes ≡ some raws
  pub wide : lists.All (λ (r : Raw). 0 < length r.changes → 0 < w) raws
  pub roomy : to + length (raws_bytes (other f) w raws) ≤ room

-- the same of both parts, the second from `past` on
pub record Rewritable (f : Form) (w : ℕ) (journal : List ℕ) (h : Handle) (past room : ℕ) : Type 0 where
  pub used : Used
  pub reads : used_in f w journal h ≡ some used
  pub past-reads : raws_in f w h.position (take h.offset journal) ≡ some used.past
  pub future-reads : raws_in f w (h.count - h.position) (take (h.end - h.offset) (drop h.offset journal)) ≡ some used.future
  pub past-wide : lists.All (λ (r : Raw). 0 < length r.changes → 0 < w) used.past
  pub future-wide : lists.All (λ (r : Raw). 0 < length r.changes → 0 < w) used.future
  pub past_is : length (raws_bytes (other f) w used.past) ≡ past
  pub roomy : past + length (raws_bytes (other f) w used.future) ≤ room

-- the answer of the call, with what it leaves
abbrev pub leaves : Converted → List ℕ → Outcome Lent
leaves r out = record { answer = answer_told r.answer; leaves = lent r.handle out }
