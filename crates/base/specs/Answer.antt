-- What a call answers, as document 01 has it: a number, and with 0 the values of a result. One definition for each enum
-- that is an answer gives them for each of its cases; the contracts compare these, and no definition of a call names an
-- enum's case. Definitions only. Assumes nothing.
use Rattle.std.specs.Prelude.{ℕ, Bool, List, ℤ, Float}
use Rattle.std.proofs.Math.Option.{Option, none, some}
use Rattle.base.specs.declared.Edit.{Edit}
use Rattle.base.specs.declared.Lab.{Lab}
use Rattle.base.specs.declared.Answer.{Answer}
use Rattle.base.specs.declared.Answer.TheVariants as answer
use Rattle.base.specs.declared.Counted.{Counted}
use Rattle.base.specs.declared.Counted.TheVariants as counted
use Rattle.base.specs.declared.Truth.{Truth}
use Rattle.base.specs.declared.Truth.TheVariants as truth
use Rattle.base.specs.declared.Next.{Next}
use Rattle.base.specs.declared.Next.TheVariants as next
use Rattle.base.specs.declared.Got.{Got}
use Rattle.base.specs.declared.Got.TheVariants as got
use Rattle.base.specs.declared.Root.{Root}
use Rattle.base.specs.declared.Root.TheVariants as root
use Rattle.base.specs.declared.Triple.{Triple}
use Rattle.base.specs.declared.Triple.TheVariants as triple
use Rattle.base.specs.declared.Found.{Found}
use Rattle.base.specs.declared.Found.TheVariants as found
use Rattle.base.specs.declared.Choices.{Choices}
use Rattle.base.specs.declared.Choices.TheVariants as choices
use Rattle.base.specs.declared.MadeEdit.{MadeEdit}
use Rattle.base.specs.declared.MadeEdit.TheVariants as made-edit
use Rattle.base.specs.declared.Removed.{Removed}
use Rattle.base.specs.declared.Removed.TheVariants as removed
use Rattle.base.specs.declared.Removal.{Removal}
use Rattle.base.specs.declared.Removal.TheVariants as removal
use Rattle.base.specs.declared.MadeOp.{MadeOp}
use Rattle.base.specs.declared.MadeOp.TheVariants as made-op
use Rattle.base.specs.declared.Copied.{Copied}
use Rattle.base.specs.declared.Copied.TheVariants as copied
use Rattle.base.specs.declared.Extraction.{Extraction}
use Rattle.base.specs.declared.Extraction.TheVariants as extraction
use Rattle.base.specs.declared.Opened.{Opened}
use Rattle.base.specs.declared.Opened.TheVariants as opened
use Rattle.base.specs.declared.Handle.{Handle}
use Rattle.base.specs.declared.Joined.{Joined}
use Rattle.base.specs.declared.Joined.TheVariants as joined

-- "A refusal returns its number alone", and so does "still"; a result is its values
pub data Told (R : Type 0) : Type 0 where
  result : R → Told R
  alone : ℕ → Told R

-- "00 done, FF still, else number"
abbrev pub number : {R : Type 0} → Told R → ℕ
number (Told.result values) = 0
number (Told.alone n) = n

-- ---- what a call that returns no value answers: "done" has nothing beside its number
abbrev pub Done : Told (Unit {0})
Done = Told.result tt

abbrev pub Still : Told (Unit {0})
Still = Told.alone 255

abbrev pub answer_told : Answer → Told (Unit {0})
answer_told answer.Done = Done
answer_told answer.Still = Still
answer_told (answer.Refused n) = Told.alone n

abbrev pub number_of : Answer → ℕ
number_of a = number (answer_told a)

-- ---- how many results a call wrote
abbrev pub counted_told : Counted → Told ℕ
counted_told (counted.Count n) = Told.result n
counted_told (counted.Refused n) = Told.alone n

abbrev pub counted_number : Counted → ℕ
counted_number a = number (counted_told a)

-- none where it is a refusal
abbrev pub count_told : Told ℕ → ℕ
count_told (Told.result n) = n
count_told (Told.alone n) = 0

-- what such a call leaves: its answer, and the buffer
pub record Filled (A : Type 0) : Type 0 where
  pub answer : Told ℕ
  pub buffer : List A

abbrev pub leaving : {A : Type 0} → Told ℕ → List A → Filled A
leaving told buffer = record { answer = told; buffer = buffer }

abbrev pub filled : {A : Type 0} → Counted → List A → Filled A
filled answer buffer = leaving (counted_told answer) buffer

-- ---- one value: a truth, a double, an edit
abbrev pub truth_told : Truth → Told Bool
truth_told (truth.Is b) = Told.result b
truth_told (truth.Refused n) = Told.alone n

abbrev pub root_told : Root → Told Float
root_told (root.Value x) = Told.result x
root_told (root.Refused n) = Told.alone n

abbrev pub triple_told : Triple → Told Lab
triple_told (triple.Value x) = Told.result x
triple_told (triple.Refused n) = Told.alone n

abbrev pub made_edit_told : MadeEdit → Told Edit
made_edit_told (made-edit.Edit e) = Told.result e
made_edit_told (made-edit.Refused n) = Told.alone n

-- ---- a value or none: an index, or none outside the image; how many colours, or none where all are free
abbrev pub got_told : Got → Told (Option ℤ)
got_told (got.Index z) = Told.result (some z)
got_told got.Outside = Told.result none
got_told (got.Refused n) = Told.alone n

abbrev pub choices_told : Choices → Told (Option ℕ)
choices_told (choices.Count n) = Told.result (some n)
choices_told choices.Free = Told.result none
choices_told (choices.Refused n) = Told.alone n

-- ---- several values
-- an entry, and its squared distance
pub record EntryAt : Type 0 where
  pub index : ℕ
  pub distance : Float

abbrev pub entry_at : ℕ → Float → EntryAt
entry_at index distance = record { index = index; distance = distance }

abbrev pub found_told : Found → Told EntryAt
found_told (found.Entry index distance) = Told.result (entry_at index distance)
found_told (found.Refused n) = Told.alone n

-- an edit, and how many changes its list has
pub record Op : Type 0 where
  pub edit : Edit
  pub count : ℕ

abbrev pub op : Edit → ℕ → Op
op edit count = record { edit = edit; count = count }

abbrev pub op_count : Told Op → ℕ
op_count (Told.result o) = o.count
op_count (Told.alone n) = 0

abbrev pub made_op_told : MadeOp → Told Op
made_op_told (made-op.Op edit count) = Told.result (op edit count)
made_op_told (made-op.Refused n) = Told.alone n

abbrev pub removal_told : Removal → Told Op
removal_told (removal.Made edit count) = Told.result (op edit count)
removal_told (removal.Refused n) = Told.alone n

-- the same of an entry's removal, and the entry that its pixels move to
pub record Replacement : Type 0 where
  pub made : Op
  pub into : EntryAt

abbrev pub replacement : Op → EntryAt → Replacement
replacement made into = record { made = made; into = into }

abbrev pub replacement_count : Told Replacement → ℕ
replacement_count (Told.result r) = r.made.count
replacement_count (Told.alone n) = 0

abbrev pub removed_told : Removed → Told Replacement
removed_told (removed.Made edit count into distance) = Told.result (replacement (op edit count) (entry_at into distance))
removed_told (removed.Refused n) = Told.alone n

-- a clip's sides
pub record Sides : Type 0 where
  pub w : ℕ
  pub h : ℕ

abbrev pub sides : ℕ → ℕ → Sides
sides w h = record { w = w; h = h }

abbrev pub copied_told : Copied → Told Sides
copied_told (copied.Clip w h) = Told.result (sides w h)
copied_told (copied.Refused n) = Told.alone n

-- how many tiles and map entries
pub record Extracted : Type 0 where
  pub tiles : ℕ
  pub entries : ℕ

abbrev pub extracted : ℕ → ℕ → Extracted
extracted tiles entries = record { tiles = tiles; entries = entries }

abbrev pub extraction_told : Extraction → Told Extracted
extraction_told (extraction.Made tiles entries) = Told.result (extracted tiles entries)
extraction_told (extraction.Refused n) = Told.alone n

-- a sheet's sides and palette count
pub record Size : Type 0 where
  pub w : ℕ
  pub h : ℕ
  pub k : ℕ

abbrev pub size : ℕ → ℕ → ℕ → Size
size w h k = record { w = w; h = h; k = k }

abbrev pub opened_told : Opened → Told Size
opened_told (opened.Sheet w h k) = Told.result (size w h k)
opened_told (opened.Refused n) = Told.alone n

-- a joined palette's count, and a history for each of the two sheets
pub record Joint : Type 0 where
  pub k : ℕ
  pub first : Handle
  pub second : Handle

abbrev pub joint : ℕ → Handle → Handle → Joint
joint k first second = record { k = k; first = first; second = second }

abbrev pub joined_told : Joined → Told Joint
joined_told (joined.Palette k first second) = Told.result (joint k first second)
joined_told (joined.Refused n) = Told.alone n

-- a record of the journal: its edit, where it starts and how long it is, where its changes start and how many they are; or none
pub record Shown : Type 0 where
  pub edit : Edit
  pub start : ℕ
  pub length : ℕ
  pub list : ℕ
  pub count : ℕ

abbrev pub shown_as : Edit → ℕ → ℕ → ℕ → ℕ → Shown
shown_as edit start length list count = record { edit = edit; start = start; length = length; list = list; count = count }

abbrev pub next_told : Next → Told (Option Shown)
next_told (next.Record edit start length list count) = Told.result (some (shown_as edit start length list count))
next_told next.Nothing = Told.result none
next_told (next.Refused n) = Told.alone n
