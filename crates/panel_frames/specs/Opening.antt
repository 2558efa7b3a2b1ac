-- A sheet as the bytes of an opening frame, and the sheet that a frame opens: the reading of `panel` and of `read_sheet`. Definitions only. Assumes nothing.
use Rattle.std.specs.Prelude.{ℕ, ◌*◌, List, [], ◌∷◌, ◌++◌, map, ltb, ℤ, take, replicate}
use Rattle.base.specs.Limits.{storage}
use Rattle.base.specs.Numbers.{bad_sheet, unread_frame}
use Rattle.base.specs.Checks.{Check, ◌when◌, checked}
use Rattle.base.specs.Answer.{Told}
use Rattle.base.specs.Answer.Told.{result, alone}
use Rattle.base.specs.Lists.{over}
use Rattle.color_doubles.specs.Arithmetic.{decimal}
use Rattle.sheet.specs.Sheet.{Sheet, sheet_of}
use Rattle.sheet.specs.Checks.{limit_checks, index_checks}
use Rattle.journal_record.specs.Bytes.{le}
use Rattle.panel_hex.specs.Hex.{byte_of}
use Rattle.panel_frames.specs.Reading.{palette_in, indices_in}
use Rattle.panel_frames.specs.declared.Frame.{Frame}
use Rattle.panel_frames.specs.declared.Frame.TheVariants.{Open, Pixels, Set, Add, Merge, Undo, Redo, Mark, Malformed}

-- "00 w(2) h(2) k, palette, indices (FF is -1)"
unfoldable pub open_bytes : ℕ → ℕ → ℕ → List ℕ → List ℤ → List ℕ
open_bytes w h k palette indices = 0 ∷ le 2 w ++ (le 2 h ++ (k ∷ palette ++ map byte_of indices))

-- "Only the first k entries count"
abbrev pub colours_of : Sheet → List ℕ
colours_of s = take (3 * s.k) s.palette

-- the sheet of such bytes: storage past the entries is zero
unfoldable pub open_sheet : ℕ → ℕ → ℕ → List ℕ → Sheet
open_sheet w h k bs = sheet_of w h k (over (palette_in k bs) (replicate storage 0)) (replicate storage (decimal 0 1)) (indices_in w h k bs)

-- "w and h ≤ 64"
abbrev pub max_open : ℕ
max_open = 64

-- "1 also for sides over 64"
abbrev pub side_checks : Sheet → List Check
side_checks s = bad_sheet when ltb max_open s.w ∷ bad_sheet when ltb max_open s.h ∷ []

-- then 1 and 2 of the sheet; `more` are what else a call holds to number 1. No other number can come
unfoldable pub open_checks : List Check → Sheet → List Check
open_checks more s = side_checks s ++ (limit_checks s ++ (more ++ index_checks s))

-- the sheet, where none applies
abbrev pub opened_or : List Check → Sheet → Told Sheet
opened_or more s = checked (open_checks more s) alone (result s)

-- the sheet that a frame opens, or its number: 22 for another frame and for a "malformed line"
unfoldable pub sheet_in : List Check → Frame → List ℕ → Told Sheet
sheet_in more (Open w h k) bs = opened_or more (open_sheet w h k bs)
sheet_in more (Pixels tool n) bs = alone unread_frame
sheet_in more (Set i c) bs = alone unread_frame
sheet_in more (Add c) bs = alone unread_frame
sheet_in more (Merge from into) bs = alone unread_frame
sheet_in more Undo bs = alone unread_frame
sheet_in more Redo bs = alone unread_frame
sheet_in more Mark bs = alone unread_frame
sheet_in more Malformed bs = alone unread_frame
