-- Layers that are edited, each by its own history, and repainted after every call: document 02, E1. Whatever the calls, the
-- buffer is the flattening of the sheets as they stand. Proved: `always-flat` in proofs/Flat.antt. Definitions only.
-- Assumes nothing. `flatten_of` and `repaint_of` (layer_shown/specs/Calls.antt) are what the contracts of `flatten` and
-- `repaint` say; `layered (stepLent (editing_by f c))` makes a push, an undo, a redo or a mark on one layer
-- (history_model/specs/Layers.antt), f the form of its history, c the curve of the session.
use Rattle.std.specs.Prelude.{◌≡◌, ℕ, ◌*◌, ◌≤◌, ◌<◌, ℤ, Float, length}
use mathlib.Core.List.{List, [], ◌∷◌, map, flat_map}
use Rattle.base.specs.Limits.{max_layers}
use Rattle.base.specs.Checks.{first_of}
use Rattle.base.specs.Answer.{Told, Filled, leaving}
use Rattle.base.specs.Answer.Told.{result}
use Rattle.base.specs.Lists.{All, range, over}
use Rattle.base.specs.declared.Form.{Form}
use Rattle.color_curve.specs.Curve.{Curve, CurveFits}
use Rattle.sheet.specs.Sheet.{Sheet}
use Rattle.history_ledger.specs.Calls.{Call, Lent, play}
use Rattle.history_ledger.specs.Journal.{State, opened, stepLent}
use Rattle.history_ledger.specs.Layers.{OnLayer, layered}
use Rattle.history_model.specs.Document.{Document, document_checks}
use Rattle.history_model.specs.Editing.{Given, editing_by}
use Rattle.history_model.specs.Handed.{HandedSheet, sheet_by}
use Rattle.history_model.specs.Layers.{HandedCall, call_on}
use Rattle.layer_shown.specs.Layers.{layers_of, flattened}
use Rattle.layer_shown.specs.Calls.{flatten_of, repaint_of}

-- layers by their numbers, each with sheet, marks, journal and handle of its own
abbrev pub Layers : Type 0
Layers = ℕ → State Document

-- the sheets of the first n, bottom first: a mark is not shown (document 02, E5)
unfoldable pub sheets_of : ℕ → Layers → List Sheet
sheets_of n layers = map (λ i. (layers i).sheet.sheet) (range 0 n)

-- ---- the two calls, on sheets that are lent in one buffer a kind
unfoldable pub sizes_of : List Sheet → List ℕ
sizes_of sheets = flat_map (λ (s : Sheet). s.w ∷ s.h ∷ s.k ∷ []) sheets

unfoldable pub palettes_of : List Sheet → List ℕ
palettes_of sheets = flat_map (λ (s : Sheet). s.palette) sheets

unfoldable pub labs_of : List Sheet → List Float
labs_of sheets = flat_map (λ (s : Sheet). s.lab) sheets

unfoldable pub indices_of : List Sheet → List ℤ
indices_of sheets = flat_map (λ (s : Sheet). s.indices) sheets

-- as the contracts have it: the layers are cut out of the buffers
abbrev pub lent_layers : List Sheet → List Sheet
lent_layers sheets = layers_of (sizes_of sheets) (palettes_of sheets) (labs_of sheets) (indices_of sheets)

abbrev pub flatten_lent : List Sheet → List ℕ → Filled ℕ
flatten_lent sheets out = flatten_of (sizes_of sheets) (lent_layers sheets) out

abbrev pub repaint_lent : List Sheet → ℕ → Sheet → List ℕ → Filled ℕ
repaint_lent sheets edited before out = repaint_of (sizes_of sheets) (lent_layers sheets) edited before out

-- ---- "After an edit, undo or redo on one layer": `repaint`, with the sheet that the layer had before the call
unfoldable pub repaint_after : Form → Curve → ℕ → Layers → OnLayer (Lent (Call Given)) → List ℕ → Filled ℕ
repaint_after form curve n layers c out =
    let next = (layered (stepLent (editing_by form curve)) layers c).leaves in
    repaint_lent (sheets_of n next) c.layer (layers c.layer).sheet.sheet out

-- a list of calls, with a repaint after each: what the repaints answer, and the buffer at the end
pub record Painted : Type 0 where
  pub answers : List (Told ℕ)
  pub out : List ℕ

unfoldable pub painted : Form → Curve → ℕ → Layers → List ℕ → List (OnLayer (Lent (Call Given))) → Painted
painted form curve n layers out [] = record { answers = []; out = out }
painted form curve n layers out (c ∷ cs) =
    let now = repaint_after form curve n layers c out in
    let later = painted form curve n (layered (stepLent (editing_by form curve)) layers c).leaves now.buffer cs in
    record { answers = now.answer ∷ later.answers; out = later.out }

-- ---- a sheet of w by h, with its marks, that none of 1 to 3 refuses
pub record Opens (w h : ℕ) (d : Document) : Type 0 where
  pub passes : first_of (document_checks d) ≡ 0
  pub width : d.sheet.w ≡ w
  pub height : d.sheet.h ≡ h

-- The first flattening and every repaint answered a count. At the end the buffer is what `flatten` makes of the sheets at the
-- end in the buffer as it was lent: their flattening, and past it what was there.
pub record Flat (w h : ℕ) (handed : List HandedCall) (buffer : List ℕ) (first : Filled ℕ) (ran : Painted) (ends : List Sheet) : Type 0 where
  pub opening : first.answer ≡ result (4 * (w * h))
  pub counts : ran.answers ≡ map (λ c. result (4 * (w * h))) handed
  pub afresh : flatten_lent ends buffer ≡ leaving (result (4 * (w * h))) ran.out
  pub shows : ran.out ≡ over (flattened ends (w * h)) buffer

-- For either form and every curve that fits, 1 to 8 layers of one size, every list of calls, each on one of them, and every buffer for w × h pixels that was
-- flattened at first. Nothing is asked of the journals and of each call's scratch: a call that they refuse changes no sheet.
abbrev pub AlwaysFlat : Type 0
AlwaysFlat =
    (form : Form) (curve : Curve) → CurveFits curve → (n w h : ℕ) → 1 ≤ n → n ≤ max_layers
    → (lent : ℕ → HandedSheet) → ((i : ℕ) → i < n → Opens w h (sheet_by (lent i)))
    → (journals : ℕ → List ℕ)
    → (handed : List HandedCall) → All (λ c. c.layer < n) handed
    → (buffer : List ℕ) → 4 * (w * h) ≤ length buffer
    → let opening : Layers = λ i. opened (editing_by form curve) (sheet_by (lent i)) (journals i) in
    let calls = map call_on handed in
    let first = flatten_lent (sheets_of n opening) buffer in
    let ends = (play (layered (stepLent (editing_by form curve))) opening calls).ends in
    Flat w h handed buffer first (painted form curve n opening first.buffer calls) (sheets_of n ends)
