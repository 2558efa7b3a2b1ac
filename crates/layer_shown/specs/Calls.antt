-- `flatten` and `repaint`: their checks and their answers, and that repainting equals flattening afresh. Change request E1.
-- Definitions only. Assumes nothing.
use Rattle.std.specs.Prelude.{◌≡◌, Bool, not, ◌||◌, ℕ, ◌*◌, ◌%◌, ltb, leb, eqb, ℤ, Float, length, get_or, set, take}
use mathlib.Core.List.{List, [], ◌∷◌, ◌++◌, flat_map}
use Rattle.base.specs.Limits.{max_layers}
use Rattle.base.specs.Numbers.{no_space, layers_differ}
use Rattle.base.specs.Checks.{Check, ◌when◌, checked}
use Rattle.base.specs.Answer.{Filled, leaving}
use Rattle.base.specs.Answer.Told.{result, alone}
use Rattle.base.specs.Lists.{some, over}
use Rattle.sheet.specs.Sheet.{Sheet}
use Rattle.sheet.specs.Checks.{sheet_checks}
use Rattle.layer_shown.specs.Layers.{layers_of, flattened, repainted}

-- 23: "before all others when the count is not 1 to 8", three sizes a layer
unfoldable pub count_checks : List ℕ → List Check
count_checks sizes =
    layers_differ when (not (eqb (length sizes % 3) 0) || (eqb (length sizes) 0 || ltb (3 * max_layers) (length sizes)))
    ∷ []

-- "when a size differs" from w by h
unfoldable pub other_size : ℕ → ℕ → Sheet → Bool
other_size w h s = not (eqb s.w w) || not (eqb s.h h)

-- the size of the first
abbrev pub width_of : List ℕ → ℕ
width_of sizes = get_or sizes 0 0

abbrev pub height_of : List ℕ → ℕ
height_of sizes = get_or sizes 1 0

-- ---- `flatten`
-- "before all others ..; after 1 to 3 of each layer .. when a size differs"; "A short buffer gets 16"
unfoldable pub flatten_checks : List ℕ → List Sheet → List ℕ → List Check
flatten_checks sizes layers out =
    count_checks sizes ++ (flat_map (sheet_checks []) layers
    ++ (layers_differ when some (other_size (width_of sizes) (height_of sizes)) layers
    ∷ no_space when ltb (length out) (4 * (width_of sizes * height_of sizes))
    ∷ []))

unfoldable pub flatten_of : List ℕ → List Sheet → List ℕ → Filled ℕ
flatten_of sizes layers out =
    let n = width_of sizes * height_of sizes in
    checked (flatten_checks sizes layers out) (λ no. leaving (alone no) out)
    (leaving (result (4 * n)) (over (flattened layers n) out))

-- ---- `repaint`
-- "after 1 to 3 of each layer, then the earlier sheet .. when a size differs or the edited layer is not among them"
unfoldable pub repaint_checks : List ℕ → List Sheet → ℕ → Sheet → List ℕ → List Check
repaint_checks sizes layers edited before out =
    count_checks sizes
    ++ (flat_map (sheet_checks []) layers
    ++ (sheet_checks [] before
    ++ (layers_differ when some (other_size (width_of sizes) (height_of sizes)) (before ∷ layers)
    ∷ layers_differ when leb (length layers) edited
    ∷ no_space when ltb (length out) (4 * (width_of sizes * height_of sizes))
    ∷ [])))

unfoldable pub repaint_of : List ℕ → List Sheet → ℕ → Sheet → List ℕ → Filled ℕ
repaint_of sizes layers edited before out =
    let n = width_of sizes * height_of sizes in
    checked (repaint_checks sizes layers edited before out) (λ no. leaving (alone no) out)
    (leaving (result (4 * n)) (over (repainted layers before (get_or layers edited before) n out) out))

-- ---- the promise
-- "Where the buffer held the flattening before the edit, the result must equal flattening everything afresh". Proved:
-- proofs/Afresh.antt, `afresh`
abbrev pub Afresh : Type 0
Afresh =
    (sizes palettes : List ℕ) (labs : List Float) (indices : List ℤ) (edited : ℕ) (before : Sheet) (out : List ℕ)
    → let layers = layers_of sizes palettes labs indices in
    let n = width_of sizes * height_of sizes in
    take (4 * n) out ≡ flattened (set layers edited before) n
    → (count : ℕ) → (repaint_of sizes layers edited before out).answer ≡ result count
    → repaint_of sizes layers edited before out ≡ flatten_of sizes layers out
