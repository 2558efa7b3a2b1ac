-- Change request E13: "The shortest stroke". Proved: proofs/Tools.antt, `shortest-stroke`. Definitions only. Assumes nothing.
use Rattle.std.specs.Prelude.{◌≡◌, Bool, false, List, [], map, ℕ, ◌≤◌, ◌<◌, ℤ, length, take}
use Rattle.std.proofs.Math.Option.{Option}
use Rattle.base.specs.Checks.{first_of}
use Rattle.base.specs.Answer.{Told, Filled}
use Rattle.base.specs.Answer.Told.{result}
use Rattle.base.specs.Lists.{All, some}
use Rattle.color_lab.specs.Convert.{lab_of}
use Rattle.sheet.specs.Sheet.{Sheet, Picture, view, stray}
use Rattle.sheet.specs.Checks.{sheet_checks}
use Rattle.selection.specs.declared.Selection.{Selection}
use Rattle.selection.specs.declared.Area.{Area}
use Rattle.tool_line.specs.Line.{Point}
use Rattle.base.specs.declared.Edit.TheVariants.{Pixels}
use Rattle.edit.specs.Change.{Change, unpacked}
use Rattle.edit.specs.Apply.{nextPicture}
use Rattle.change_normal.specs.Normal.{normalize_of}
use Rattle.change_normal.specs.Laws.{On, FirstOlds}
use Rattle.change_stroke.specs.Stroke.{extend_call}
use Rattle.tool_draw.specs.Calls.{pencil_call, eraser_call, line_call, rectangle_call}
use Rattle.tool_fill_model.specs.Fill.{flood_fill_of}
use Rattle.tool_fill_model.specs.Fills.{replace_color_of, fill_global_of}
use Rattle.tool_paste_model.specs.Pasting.{Left, paste_call}
use Rattle.selection.specs.Calls.{shift}
use Rattle.tool_paste_model.specs.Moves.{move_call}

-- "a change list whose places are on the sheet, whose first old at each place is the sheet's own index and whose every new is in -1..k-1"
pub record Drawn (s : Sheet) (cs : List Change) : Type 0 where
  pub on : All (On s.w s.h) cs
  pub olds : FirstOlds s.w s.indices [] cs
  pub news : All (λ c. stray s.k c.new ≡ false) cs

-- the picture that a list makes from a sheet, as the ledger has it
abbrev pub picture_of : Sheet → List Change → Picture
picture_of s cs = nextPicture lab_of (view s) (Pixels 0) cs

-- "the normalised list makes the same picture, and every other change list that makes that picture from that sheet names at least as many changes"
pub record Shortest (s : Sheet) (cs : List Change) : Type 0 where
  pub same : picture_of s (normalize_of cs) ≡ picture_of s cs
  pub least : (ds : List Change) → picture_of s ds ≡ picture_of s cs → length (normalize_of cs) ≤ length ds

-- "returns such a list", which is the normalised one: no list for its picture is shorter
pub record Returned (s : Sheet) (cs : List Change) : Type 0 where
  pub drawn : Drawn s cs
  pub normal : normalize_of cs ≡ cs

-- where a call answers that it wrote n changes, the first n of its buffer are such a list
abbrev pub Returns : Sheet → Filled ℕ → Type 0
Returns s r = (n : ℕ) → r.answer ≡ result n → Returned s (map unpacked (take n r.buffer))

abbrev pub Shifts : Sheet → Left → Type 0
Shifts s r = (n : ℕ) (c : Told (Option Selection)) → r.answer ≡ result (shift n c) → Returned s (map unpacked (take n r.buffer))

-- "in that range": -1..k-1
abbrev pub Known : Sheet → ℤ → Type 0
Known s index = stray s.k index ≡ false

pub record ShortestStroke (s : Sheet) : Type 0 where
  -- "for all such lists"
  pub lists : first_of (sheet_checks [] s) ≡ 0 → (cs : List Change) → Drawn s cs → Shortest s cs
  -- "each drawing tool"
  pub pencil : (area : Area) (points : List ℤ) (size : ℕ) (index : ℤ) (room : ℕ) (out : List ℕ) → Known s index
      → Returns s (pencil_call s area points size index room out)
  pub eraser : (area : Area) (points : List ℤ) (size : ℕ) (room : ℕ) (out : List ℕ) → Returns s (eraser_call s area points size room out)
  pub line : (area : Area) (a b : Point) (size : ℕ) (index : ℤ) (room : ℕ) (out : List ℕ) → Known s index → Returns s (line_call s area a b size index room out)
  pub rectangle : (area : Area) (a b : Point) (filled : Bool) (index : ℤ) (room : ℕ) (out : List ℕ) → Known s index
      → Returns s (rectangle_call s area a b filled index room out)
  pub flood-fill : (area : Area) (x y index : ℤ) (room : ℕ) (out : List ℕ) → Known s index → Returns s (flood_fill_of s area x y index room out)
  pub fill-global : (area : Area) (x y index : ℤ) (out : List ℕ) → Known s index → Returns s (fill_global_of s area x y index out)
  pub replace-color : (area : Area) (from to : ℤ) (out : List ℕ) → Known s to → Returns s (replace_color_of s area from to out)
  pub move-selection : (part : Selection) (dx dy : ℤ) (room : ℕ) (out : List ℕ) → Shifts s (move_call s part dx dy room out)
  pub paste : (cw ch : ℕ) (clip : List ℤ) (x y : ℤ) (room : ℕ) (out : List ℕ) → some (stray s.k) clip ≡ false
      → Shifts s (paste_call s cw ch clip x y room out)
  -- "a `Stroke` from its start": it has no changes, and each event brings such a list
  pub begun : Returned s []
  pub extend : first_of (sheet_checks [] s) ≡ 0 → (room count : ℕ) (list stroke : List ℕ)
      → Drawn s (map unpacked (take count stroke)) → Drawn s (map unpacked list)
      → Returns s (extend_call room count list stroke)
