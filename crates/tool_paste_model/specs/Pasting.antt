-- `paste` of tools.rs: its list of changes, its checks, and its answer, which is that of `move_selection`, too. Definitions only. Assumes nothing.
use Rattle.std.specs.Prelude.{ℕ, ◌*◌, ◌≤◌, ◌≡◌, not, cond, ◌||◌, List, [], ◌∷◌, ◌++◌, ltb, eqb, ℤ, pos, ◌+ℤ◌, ◌-ℤ◌, length}
use Rattle.std.proofs.Math.Option.{Option, none, some}
use Rattle.base.specs.Limits.{max_side}
use Rattle.base.specs.Numbers.{too_far, no_space, bad_clip}
use Rattle.base.specs.Checks.{Check, ◌when◌}
use Rattle.base.specs.Answer.{Told}
use Rattle.base.specs.Answer.Told.{result, alone}
use Rattle.base.specs.Ints.{far}
use Rattle.sheet.specs.Sheet.{Sheet}
use Rattle.sheet.specs.Checks.{sheet_checks}
use Rattle.selection.specs.declared.Selection.{Selection}
use Rattle.selection.specs.Selection.{positions, all, from_corners}
use Rattle.selection.specs.Calls.{Shift, shift, shifted_told}
use Rattle.edit.specs.Change.{Change}
use Rattle.change_list.specs.Listed.{listed}
use Rattle.change_normal.specs.Normal.{normalize_of}
use Rattle.tool_paste_model.specs.declared.Landing.{Landing}
use Rattle.tool_paste_model.specs.Blocks.{Lands, landed}
use Rattle.selection.specs.declared.Shifted.{Shifted}

-- "every pixel of the rectangle, transparent ones included", with its top-left corner at (x, y)
unfoldable pub paste_changes : ℕ → ℕ → List ℤ → ℕ → ℕ → List ℤ → ℤ → ℤ → List Change
paste_changes w h l cw ch clip x y = landed w h l cw clip x y (positions (all cw ch))

-- "the pasted rectangle as the new selection (`None` when nothing of it is inside)": `if clip.w == 0 || clip.h == 0`, then
-- `from_corners(at, (at.0 + clip.w - 1, at.1 + clip.h - 1))`
unfoldable pub pasted_selection : ℕ → ℕ → ℤ → ℤ → ℕ → ℕ → Option Selection
pasted_selection cw ch x y w h =
    cond (eqb cw 0 || eqb ch 0) none (from_corners x y (x +ℤ pos cw -ℤ pos 1) (y +ℤ pos ch -ℤ pos 1) w h)

-- ---- what a call leaves that puts a rectangle of indices somewhere: its answer, and the buffer
pub record Left : Type 0 where
  pub answer : Told Shift
  pub buffer : List ℕ

abbrev pub putting : Told Shift → List ℕ → Left
putting told buffer = record { answer = told; buffer = buffer }

abbrev pub left : Shifted → List ℕ → Left
left answer buffer = putting (shifted_told answer) buffer

-- how many changes it counts, none where it is a refusal
abbrev pub shift_count : Told Shift → ℕ
shift_count (result m) = m.count
shift_count (alone n) = 0

abbrev pub shifted_count : Shifted → ℕ
shifted_count answer = shift_count (shifted_told answer)

-- a list that was counted, beside a selection
unfoldable pub shifted_of : Told (Option Selection) → Told ℕ → Told Shift
shifted_of s (result n) = result (shift n s)
shifted_of s (alone n) = alone n

-- a call's checks; then its list at the front of the buffer, or 16, and its selection
unfoldable pub leaves : List Check → List Change → Option Selection → List ℕ → Left
leaves checks cs s out = let r = listed checks cs out in putting (shifted_of (result s) r.answer) r.buffer

-- ---- the call
-- 15 of the corner; 17: "side over 1,024 .. or length not w × h"; then "scratch under w × h places"
unfoldable pub clip_checks : ℕ → ℕ → List ℤ → ℤ → ℤ → ℕ → ℕ → List Check
clip_checks cw ch clip x y room pixels =
    too_far when far x
    ∷ too_far when far y
    ∷ bad_clip when ltb max_side cw
    ∷ bad_clip when ltb max_side ch
    ∷ bad_clip when not (eqb (length clip) (cw * ch))
    ∷ no_space when ltb room pixels
    ∷ []

unfoldable pub paste_checks : Sheet → ℕ → ℕ → List ℤ → ℤ → ℤ → ℕ → List Check
paste_checks t cw ch clip x y room = sheet_checks [] t ++ clip_checks cw ch clip x y room (length t.indices)

unfoldable pub paste_call : Sheet → ℕ → ℕ → List ℤ → ℤ → ℤ → ℕ → List ℕ → Left
paste_call t cw ch clip x y room out =
    leaves (paste_checks t cw ch clip x y room) (normalize_of (paste_changes t.w t.h t.indices cw ch clip x y))
    (pasted_selection cw ch x y t.w t.h) out

-- ---- what its steps ask: a clip in the limits, a sheet in the limits, and room for the sheet
pub record Pastable (w h : ℕ) (l : List ℤ) (cw ch : ℕ) (x y : ℤ) (clip room : ℕ) : Type 0 where
  pub size : length l ≡ w * h
  pub small : ch ≤ 1024
  pub lands : Lands w h cw (all cw ch) x y clip room

-- the rectangle that lands, or nothing
unfoldable pub placed_of : Landing → Landing → Option Selection
placed_of x y = cond (eqb x.count 0 || eqb y.count 0) none (some (record { x = x.to; y = y.to; w = x.count; h = y.count }))
