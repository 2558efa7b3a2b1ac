-- `move_selection` of tools.rs: its list of changes, statement by statement, its checks and its answer. Definitions only. Assumes nothing.
use Rattle.std.specs.Prelude.{ℕ, ◌+◌, ◌*◌, ◌≤◌, ◌≡◌, Bool, cond, ◌&&◌, List, [], ◌∷◌, ◌++◌, map, ltb, ℤ, pos, negsuc, length}
use Rattle.std.proofs.Math.Option.{Option, some}
use Rattle.base.specs.Numbers.{no_space}
use Rattle.base.specs.Checks.{Check, ◌when◌}
use Rattle.base.specs.Ints.{eq_z}
use Rattle.sheet.specs.Sheet.{Sheet}
use Rattle.sheet.specs.Checks.{sheet_checks}
use Rattle.selection_spans.specs.declared.Span.{Span}
use Rattle.selection_spans.specs.Positions.{Position}
use Rattle.selection.specs.declared.Selection.{Selection}
use Rattle.selection.specs.Selection.{positions, translated}
use Rattle.selection.specs.Calls.{shift_checks}
use Rattle.edit.specs.Change.{Change}
use Rattle.change_normal.specs.Normal.{normalize_of}
use Rattle.tool_paste_model.specs.declared.Landing.{Landing}
use Rattle.tool_paste_model.specs.Blocks.{Includes, Lands, index_in, landed}
use Rattle.tool_paste_model.specs.Pasting.{Left, leaves}

-- "transparency where they were", of each position of the selection
unfoldable pub cleared : ℕ → List ℤ → List Position → List Change
cleared w l ps = map (λ p. record { x = p.x; y = p.y; old = index_in w l p; new = negsuc 0 }) ps

-- "`move_selection` clears first, then paints"
unfoldable pub move_changes : ℕ → ℕ → List ℤ → Selection → ℤ → ℤ → List Change
move_changes w h l s dx dy = cleared w l (positions s) ++ landed w h l w l dx dy (positions s)

-- "shift 0": `dx == 0 && dy == 0`
unfoldable pub unmoved : ℤ → ℤ → Bool
unmoved dx dy = eq_z dx (pos 0) && eq_z dy (pos 0)

-- "shift 0 gives no changes and the old selection"
unfoldable pub moved_list : ℕ → ℕ → List ℤ → Selection → ℤ → ℤ → List Change
moved_list w h l s dx dy = cond (unmoved dx dy) [] (normalize_of (move_changes w h l s dx dy))

unfoldable pub moved_selection : Selection → ℤ → ℤ → ℕ → ℕ → Option Selection
moved_selection s dx dy w h = cond (unmoved dx dy) (some s) (translated s dx dy w h)

-- ---- the call
-- 1, 2, 3; 15 of the shift, 5 of the selection; then "scratch under w × h places"
unfoldable pub move_checks : Sheet → Selection → ℤ → ℤ → ℕ → List Check
move_checks t s dx dy room = sheet_checks [] t ++ (shift_checks s dx dy t.w t.h ++ (no_space when ltb room (length t.indices) ∷ []))

unfoldable pub move_call : Sheet → Selection → ℤ → ℤ → ℕ → List ℕ → Left
move_call t s dx dy room out =
    leaves (move_checks t s dx dy room) (moved_list t.w t.h t.indices s dx dy) (moved_selection s dx dy t.w t.h) out

-- ---- what its steps ask: a selection inside a sheet in the limits, and room for the sheet
pub record Movable (w h : ℕ) (l : List ℤ) (s : Selection) (dx dy : ℤ) (room : ℕ) : Type 0 where
  pub size : length l ≡ w * h
  pub below : s.y + s.h ≤ h
  pub lands : Lands w h w s dx dy (length l) room

-- rows of a sheet of h rows that include a selection's and those that it lands on
pub record MoveRows (h : ℕ) (s : Selection) (y : Landing) (rows : Span) : Type 0 where
  pub ends : rows.start + rows.count ≤ h
  pub top : rows.start ≤ s.y
  pub bottom : s.y + s.h ≤ rows.start + rows.count
  pub lands : Includes rows y
