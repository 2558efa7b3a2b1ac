-- What the lent buffers hold, and what the functions on them promise each other. Definitions only. Assumes nothing.
use Rattle.std.specs.Prelude.{ℕ, ◌+◌, ◌*◌, ◌≤◌, ◌≡◌, Bool, cond, List, ℤ, Float, length, take}
use Rattle.std.proofs.Math.Option.{none, some}
use Rattle.journal_record.specs.Bytes.{splice}
use Rattle.history_model.specs.Document.{document_of}
use Rattle.history_model.specs.Calls.{state_of}
use Rattle.panel_open.specs.declared.Core.{Core}
use Rattle.panel_open.specs.declared.Stepped.{Stepped}
use Rattle.panel_lines.specs.Lines.{Said}
use Rattle.panel_calls.specs.Panel.{Panel}

-- the state in the buffers: before the opening, nothing in them counts
unfoldable pub panel_in : Core → List ℕ → List Float → List ℤ → List Bool → List ℕ → Panel
panel_in c palette lab indices locks journal =
    cond c.opened
    (some (state_of (document_of c.w c.h c.k palette lab (take (c.w * c.h) indices) locks) journal c.handle))
    none

-- the lengths of the buffers, and a sheet that they hold
pub record Fits (core : Core) (palette lab indices locks journal bytes list : ℕ) : Type 0 where
  pub small : core.w * core.h ≤ 4096
  pub palette-length : palette ≡ 765
  pub lab-length : lab ≡ 765
  pub indices-length : indices ≡ 4096
  pub locks-length : locks ≡ 255
  pub journal-length : journal ≡ 4096
  pub bytes-length : bytes ≡ 8192
  pub list_length : list ≡ 4096

-- a text stands in the list from `at` on, ends where the answer says, and is at most 8,203 bytes long: 5 bytes and 4,096 indices, and a newline
pub record Tells (r : Stepped) (core : Core) (out₀ out : List ℕ) (at : ℕ) (text : List ℕ) : Type 0 where
  pub core_is : r.core ≡ core
  pub out-is : out ≡ splice out₀ at text
  pub end_is : r.at ≡ at + length text
  pub short : length text ≤ 8203

-- a line was answered: the state after it, and its text
pub record Steps (r : Stepped) (p : Panel) (out₀ out : List ℕ) (at : ℕ) (o : Said Panel) : Type 0 where
  pub state-is : p ≡ o.state
  pub out-is : out ≡ splice out₀ at o.text
  pub end_is : r.at ≡ at + length o.text
  pub short : length o.text ≤ 8203
  pub small : r.core.w * r.core.h ≤ 4096
