-- A shift counted from -65,536 on, and where a span lands. Assumes nothing.
use Prim.Native.Nat.{ℕ, suc, ◌+◌, ◌-◌, ◌≤◌, ◌<◌}
use mathlib.Core.Path.{◌≡◌, refl, ap, ◌∙◌}
use mathlib.Core.Bool.{Bool, true, false, cond}
use native.Mathlib.Omega.{arith}
use native.Mathlib.Decide.{dec_lt}
use borrow.Author.Tests.{ltb-true, ltb-false}
use lib.Dec.{ltb}
use lib.IntN.{ℤ, pos, negsuc, ◌+ℤ◌}
use mir.Syntax.{w32}
use mir.Val.{SFits}
use Rattle.base.specs.Ints.{far, from_zero}
use Rattle.base.proofs.Back.{near-abs}
use Rattle.base.proofs.Sums.{from-zero-by, sum_fits}
use Rattle.selection_spans.specs.declared.Span.{Span}
use Rattle.tool_paste_model.specs.declared.Landing.{Landing}
use Rattle.tool_paste_model.specs.Blocks.{landing, Lying, Includes}

abbrev pub offset_of : ℤ → ℕ
offset_of d = from_zero (d +ℤ pos 65536)

pub offset-fits : (d : ℤ) → far d ≡ false → SFits w32 (d +ℤ pos 65536)
offset-fits d e = sum_fits d (pos 65536) (omega (arith, near-abs d e))

back-offset : (k : ℕ) → offset_of (negsuc k) ≡ 65536 - suc k
back-offset k = from-zero-by 65536 (suc k) (ltb 65536 (suc k)) refl

pub offset-small : (d : ℤ) → far d ≡ false → offset_of d ≤ 131072
unfolding from_zero
offset-small (pos k) e = omega (arith, near-abs (pos k) e)
offset-small (negsuc k) e = omega (arith, back-offset k)

-- where a place lands that is moved by d
module _ (x : ℕ) where
  down_by : (k : ℕ) (t : Bool) → ltb x (suc k) ≡ t → suc k ≤ x → cond t (negsuc (suc k - suc x)) (pos (x - suc k)) ≡ pos (x - suc k)
  down_by k true e h = absurd (omega (arith, ltb-true x (suc k) e))
  down_by k false e h = refl

  below_by : (k : ℕ) (t : Bool) → ltb x (suc k) ≡ t → x < suc k → cond t (negsuc (suc k - suc x)) (pos (x - suc k)) ≡ negsuc (suc k - suc x)
  below_by k true e h = refl
  below_by k false e h = absurd (omega (arith, ltb-false x (suc k) e))

  pub lands-on : (d : ℤ) → far d ≡ false → 65536 ≤ x + offset_of d → pos x +ℤ d ≡ pos (x + offset_of d - 65536)
  unfolding from_zero
  lands-on (pos k) e h = ap pos (omega arith)
  lands-on (negsuc k) e h =
      let o = back-offset k in
      let n = near-abs (negsuc k) e in
      down_by k (ltb x (suc k)) refl (omega arith) ∙ ap pos (omega arith)

  pub lands-before : (d : ℤ) → far d ≡ false → x + offset_of d < 65536 → pos x +ℤ d ≡ negsuc (65535 - (x + offset_of d))
  unfolding from_zero
  lands-before (pos k) e h = absurd (omega arith)
  lands-before (negsuc k) e h =
      let o = back-offset k in
      let n = near-abs (negsuc k) e in
      below_by k (ltb x (suc k)) refl (omega arith) ∙ ap negsuc (omega arith)

-- ---- a place that lands off an axis
pub data Off (side : ℕ) (z : ℤ) : Type 0 where
  before : (n : ℕ) → z ≡ negsuc n → Off side z
  past : (t : ℕ) → z ≡ pos t → side ≤ t → Off side z

module _ (start count : ℕ) (d : ℤ) (side : ℕ) (near : far d ≡ false) where
  abbrev axis : Landing
  axis = landing start count (offset_of d) side

  pub axis-low : start ≤ axis.from
  unfolding landing
  axis-low = omega arith

  pub axis-high : 0 < axis.count → axis.from + axis.count ≤ start + count
  unfolding landing
  axis-high h = omega arith

  pub axis-side : 0 < axis.count → axis.to + axis.count ≤ side
  unfolding landing
  axis-side h = omega arith

  pub axis-few : axis.count ≤ side
  unfolding landing
  axis-few = omega arith

  pub axis-near : (axis.from ≤ start + 65536) × (axis.to ≤ start + 65536)
  unfolding landing
  axis-near = (omega arith, omega (arith, offset-small d near))

  -- those that land
  pub axis-meets : (i : ℕ) → pos (axis.from + i) +ℤ d ≡ pos (axis.to + i)
  unfolding landing
  axis-meets i = lands-on (axis.from + i) d near (omega arith) ∙ ap pos (omega arith)

  pub axis-before : (x : ℕ) → x < axis.from → start ≤ x → Off side (pos x +ℤ d)
  unfolding landing
  axis-before x h k = before (65535 - (x + offset_of d)) (lands-before x d near (omega arith))

  pub axis-past : (x : ℕ) → axis.from + axis.count ≤ x → x < start + count → Off side (pos x +ℤ d)
  unfolding landing
  axis-past x h k = past (x + offset_of d - 65536) (lands-on x d near (omega arith)) (omega arith)

-- ---- the rows that something lands on
module _ {y : Landing} {other : ℕ} {rows : Span} (r : Lying y other rows) where
  pub lying-included : Includes rows y
  lying-included = let c = r.count in record { from = λ h. (let s = r.start h in omega arith); upto = λ h. (let s = r.start h in omega arith) }

  -- they end where the sheet does, or before
  pub lying-ends : {side : ℕ} → other ≤ side → (0 < y.count → y.to + y.count ≤ side) → rows.start + rows.count ≤ side
  lying-ends o e =
      let c = r.count in
      elim (dec_lt 0 y.count) [
        | yes h ↦ (let s = r.start h in let t = e h in omega arith)
        | no h ↦ (let s = r.none (omega arith) in omega arith)
      ]
