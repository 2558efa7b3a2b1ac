-- Layers that are repainted after each call stay flat: after each call the edited layer's earlier sheet, put back among the
-- sheets, gives the sheets of before, whose flattening the buffer holds; so `repaint` gives what `flatten` gives. Assumes
-- nothing.
use mathlib.Core.Path.{◌≡◌, refl, sym, ap, ◌∙◌}
use mathlib.Core.Bool.{Bool, true, false, cond}
use mathlib.Core.List.{List, [], ◌∷◌, ◌++◌, map}
use Prim.Native.Nat.{ℕ, zero, suc, ◌+◌, ◌*◌, ◌≤◌, ◌<◌}
use native.Mathlib.Omega.{arith}
use lib.ListN.{length, set, take, drop, length-map}
use lib.Seq.{take_at, drop_at}
use lib.Dec.{eqb}
use borrow.Author.Tests.{eqb-true, ne_eqb}
use Rattle.base.specs.Limits.{max_layers}
use Rattle.base.specs.Answer.{Told, Filled, leaving}
use Rattle.base.specs.Answer.Told.{result}
use Rattle.base.specs.Lists.{All, range, over}
use Rattle.base.specs.declared.Form.{Form}
use Rattle.base.proofs.Collect.{length-range, length-flat_map}
use Rattle.base.proofs.Over.{length_over}
use Rattle.color_curve.specs.Curve.{Curve, CurveFits}
use Rattle.sheet.specs.Sheet.{Sheet}
use Rattle.history_ledger.specs.Calls.{Call, Lent, play}
use Rattle.history_ledger.specs.Journal.{opened, stepLent}
use Rattle.history_ledger.specs.Layers.{OnLayer, layered}
use Rattle.history_model.specs.Editing.{Given, editing_by}
use Rattle.history_model.specs.Handed.{sheet_by, call_by}
use Rattle.history_model.specs.Layers.{HandedCall, call_on}
use Rattle.history_model.proofs.Demand3.{call-typed, handed-fits}
use Rattle.layer_shown.specs.Layers.{pixel_of, flattened}
use Rattle.layer_shown.proofs.Pixels.{pixel-four}
use Rattle.layer_history.specs.Painting.{Layers, sheets_of, flatten_lent, repaint_after, Painted, painted, Opens, Flat, AlwaysFlat}
use Rattle.layer_history.proofs.Kept.{Stays, stays-fits, opens, stays}
use Rattle.layer_history.proofs.Passing.{Fits, all-well, flatten-is, repaint-is}

-- ---- lists over a range
all-range : {A : Type 0} (P : A → Type 0) (f : ℕ → A) (a n : ℕ) → ((i : ℕ) → i < a + n → P (f i)) → All P (map f (range a n))
unfolding All range
all-range P f a zero h = tt
all-range P f a (suc n) h = (h a (omega arith), all-range P f (suc a) n (λ i b. h i (omega arith)))

map_same : {A : Type 0} (f g : ℕ → A) (a n : ℕ) → ((i : ℕ) → a ≤ i → f i ≡ g i) → map f (range a n) ≡ map g (range a n)
unfolding range
map_same f g a zero h = refl
map_same f g a (suc n) h = rw (h a (omega arith), map_same f g (suc a) n (λ i b. h i (omega arith)))

-- one of them put back
put_back : {A : Type 0} (f g : ℕ → A) (a n p j : ℕ) → j ≡ a + p → p < n → ((i : ℕ) → ¬ (i ≡ j) → g i ≡ f i)
    → set (map g (range a n)) p (f j) ≡ map f (range a n)
unfolding range
put_back f g a zero p j e b h = absurd (omega arith)
put_back f g a (suc n) zero j e b h =
    let q : j ≡ a = omega arith in
    rw (q, map_same g f (suc a) n (λ i c. h i (λ r. omega arith)))
put_back f g a (suc n) (suc p) j e b h = rw (h a (λ q. omega arith), put_back f g (suc a) n p j (omega arith) (omega arith) h)

-- ---- over a result of the same length
over-over : {A : Type 0} (f g l : List A) → length f ≡ length g → over g (over f l) ≡ over g l
unfolding over
over-over f g l e = ap (λ r. g ++ r) (drop_at f (drop (length f) l) (length g) e ∙ ap (λ n. drop n l) e)

flat-length : (w h : ℕ) (sheets : List Sheet) → All (Fits w h) sheets → length (flattened sheets (w * h)) ≡ 4 * (w * h)
unfolding flattened
flat-length w h sheets a =
    length-flat_map (pixel_of sheets) 4 (pixel-four sheets (all-well w h sheets a)) (range 0 (w * h)) ∙ rw (length-range 0 (w * h)) (omega arith)

module _ (form : Form) (curve : Curve) (fits : CurveFits curve) (n w h : ℕ) (one : 1 ≤ n) (few : n ≤ max_layers) (buffer : List ℕ) (room : 4 * (w * h) ≤ length buffer) where
  -- every layer is one of w by h
  abbrev Stand : Layers → Type 0
  Stand layers = (i : ℕ) → i < n → Stays form curve w h (layers i)

  -- the buffer holds their flattening
  abbrev flat : Layers → List ℕ
  flat layers = over (flattened (sheets_of n layers) (w * h)) buffer

  module _ (layers : Layers) (stand : Stand layers) where
    fit : All (Fits w h) (sheets_of n layers)
    unfolding sheets_of
    fit =
        all-range (Fits w h) (λ i. (layers i).sheet.sheet) 0 n
        (λ i b. let s = stand i (omega arith) in record { well = stays-fits form curve s; width = s.width; height = s.height })

    how-many : length (sheets_of n layers) ≡ n
    unfolding sheets_of
    how-many = length-map (range 0 n) (λ i. (layers i).sheet.sheet) ∙ length-range 0 n

    flat-is : (out : List ℕ) → 4 * (w * h) ≤ length out
        → flatten_lent (sheets_of n layers) out ≡ leaving (result (4 * (w * h))) (over (flattened (sheets_of n layers) (w * h)) out)
    flat-is out b = flatten-is w h (sheets_of n layers) fit (omega (arith, how-many)) (omega (arith, how-many)) out b

  -- ---- a call, and the repaint after it
  module _ (layers : Layers) (stand : Stand layers) (c : HandedCall) (among : c.layer < n) where
    abbrev next : Layers
    next = (layered (stepLent (editing_by form curve)) layers (call_on c)).leaves

    next-stands : Stand next
    unfolding layered
    next-stands i b = go (eqb i c.layer) refl
      where
        go : (t : Bool) → eqb i c.layer ≡ t → Stays form curve w h (cond t (stepLent (editing_by form curve) (layers c.layer) (call_on c).call).leaves (layers i))
        go true e = stays form curve fits (stand c.layer among) c.call.room (call_by c.call.call) (call-typed c.call.call)
        go false e = stand i b

    -- with the earlier sheet put back they are as they were
    earlier : set (sheets_of n next) c.layer (layers c.layer).sheet.sheet ≡ sheets_of n layers
    unfolding sheets_of layered
    earlier =
        put_back (λ i. (layers i).sheet.sheet) (λ i. (next i).sheet.sheet) 0 n c.layer c.layer (omega arith) among
        (λ i q. rw (ne_eqb i c.layer q))

    repaints : repaint_after form curve n layers (call_on c) (flat layers) ≡ leaving (result (4 * (w * h))) (flat next)
    unfolding repaint_after over
    repaints =
        let before = flattened (sheets_of n layers) (w * h) in
        let after = flattened (sheets_of n next) (w * h) in
        let long : length before ≡ 4 * (w * h) = flat-length w h (sheets_of n layers) (fit layers stand) in
        let long' : length after ≡ 4 * (w * h) = flat-length w h (sheets_of n next) (fit next next-stands) in
        let enough : 4 * (w * h) ≤ length (flat layers) = omega (arith, length_over before buffer (omega arith)) in
        let held : take (4 * (w * h)) (flat layers) ≡ flattened (set (sheets_of n next) c.layer (layers c.layer).sheet.sheet) (w * h) =
        take_at before (drop (length before) buffer) (4 * (w * h)) long ∙ ap (λ l. flattened l (w * h)) (sym earlier) in
        let s = stand c.layer among in
        let was : Fits w h (layers c.layer).sheet.sheet = record { well = stays-fits form curve s; width = s.width; height = s.height } in
        let many : length (sheets_of n next) ≡ n = how-many next next-stands in
        repaint-is w h (sheets_of n next) (fit next next-stands) (omega arith) (omega arith) (flat layers) enough
        c.layer (omega arith) (layers c.layer).sheet.sheet was held
        ∙ flat-is next next-stands (flat layers) enough
        ∙ ap (leaving (result (4 * (w * h)))) (over-over before after buffer (long ∙ sym long'))

  -- ---- a list of them
  pub record Went (handed : List HandedCall) (ran : Painted) (ends : Layers) : Type 0 where
    pub counts : ran.answers ≡ map (λ c. result (4 * (w * h))) handed
    pub out : ran.out ≡ flat ends
    pub stand : Stand ends

  went : (handed : List HandedCall) → All (λ c. c.layer < n) handed → (layers : Layers) → Stand layers
      → Went handed (painted form curve n layers (flat layers) (map call_on handed)) (play (layered (stepLent (editing_by form curve))) layers (map call_on handed)).ends
  unfolding painted play All
  went [] a layers stand = record { counts = refl; out = refl; stand = stand }
  went (c ∷ handed) a layers stand =
      let now = repaints layers stand c a.0 in
      let later = went handed a.1 (next layers stand c a.0) (next-stands layers stand c a.0) in
      rw now (record { counts = ap (λ l. result (4 * (w * h)) ∷ l) later.counts; out = later.out; stand = later.stand })

pub always-flat : AlwaysFlat
always-flat form curve fits n w h one few lent opening journals handed among buffer room =
    let layers : Layers = λ i. opened (editing_by form curve) (sheet_by (lent i)) (journals i) in
    let stand : (i : ℕ) → i < n → Stays form curve w h (layers i) =
    λ i b.
    let o = opening i b in
    opens form curve (sheet_by (lent i)) (journals i) (handed-fits form curve (lent i) o.passes) o.width o.height in
    let first = flat-is form curve fits n w h one few buffer room layers stand buffer room in
    let ran = went form curve fits n w h one few buffer room handed among layers stand in
    rw first
    (record {
      opening = refl;
      counts = ran.counts;
      afresh = flat-is form curve fits n w h one few buffer room _ ran.stand buffer room ∙ ap (leaving (result (4 * (w * h)))) (sym ran.out);
      shows = ran.out;
    })
