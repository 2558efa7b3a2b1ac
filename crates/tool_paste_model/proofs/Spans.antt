-- The places that a pasted rectangle takes of an axis are those that `from_corners` gives. Assumes nothing.
use Prim.Native.Nat.{ℕ, suc, ◌+◌, ◌-◌, ◌≤◌, ◌<◌, min}
use mathlib.Core.Path.{◌≡◌, refl, sym, ap, ◌∙◌}
use mathlib.Core.Bool.{true, false, cond, or-true}
use native.Mathlib.Omega.{arith}
use native.Mathlib.Decide.{dec_lt, ℕ_discrete}
use borrow.Author.Tests.{lt-ltb, le-ltb, ne_eqb}
use lib.Dec.{ltb, eqb}
use lib.IntN.{ℤ, pos, negsuc, pred_ℤ, ◌+ℤ◌, ◌-ℤ◌, +ℤ-suc_ℤ, +ℤ_idl, +ℤ_comm, -ℤ_one, pred-suc}
use lib.Signed.{lt_z}
use Rattle.base.specs.Ints.{far, min_z, max_z, from_zero, up_to}
use Rattle.selection_spans.specs.Spans.{between}
use Rattle.selection_spans.proofs.Spans.{half_open}
use mathlib.Core.Option.{Option}
use Rattle.base.specs.Answer.{Told}
use Rattle.base.specs.Answer.Told.{result}
use Rattle.selection.specs.declared.Selection.{Selection}
use Rattle.selection.specs.Selection.{rectangle, from_corners}
use Rattle.selection.proofs.Spans.{clipped}
use Rattle.tool_paste_model.specs.Blocks.{landing}
use Rattle.tool_paste_model.proofs.Landings.{offset_of, lands-on, lands-before, axis-side}
use Rattle.tool_paste_model.specs.declared.Landing.{Landing}
use Rattle.tool_paste_model.specs.Pasting.{placed_of, pasted_selection}

-- the number that is t from -65,536 on
num : ℕ → ℤ
num t = cond (ltb t 65536) (negsuc (65535 - t)) (pos (t - 65536))

below : (t : ℕ) → t < 65536 → num t ≡ negsuc (65535 - t)
unfolding num
below t h = rw (lt-ltb t 65536 h)

above : (t : ℕ) → 65536 ≤ t → num t ≡ pos (t - 65536)
unfolding num
above t h = rw (le-ltb t 65536 h)

num-is : (x : ℕ) (d : ℤ) → far d ≡ false → pos x +ℤ d ≡ num (x + offset_of d)
num-is x d e = elim (dec_lt (x + offset_of d) 65536) [
  | yes h ↦ lands-before x d e h ∙ sym (below (x + offset_of d) h)
  | no h ↦ lands-on x d e (omega arith) ∙ sym (above (x + offset_of d) (omega arith))
]

from-num : (t : ℕ) → from_zero (num t) ≡ t - 65536
unfolding from_zero
from-num t = elim (dec_lt t 65536) [ yes h ↦ rw (below t h) (omega arith) | no h ↦ rw (above t (omega arith)) ]

up-to-num : (t : ℕ) → up_to (num t) ≡ suc t - 65536
unfolding up_to
up-to-num t = elim (dec_lt t 65536) [ yes h ↦ rw (below t h) (omega arith) | no h ↦ rw (above t (omega arith)) (omega arith) ]

not-less : (s t : ℕ) → s ≤ t → lt_z (num t) (num s) ≡ false
not-less s t k = elim (dec_lt t 65536) [
  | yes h ↦ rw (below t h, below s (omega arith)) (le-ltb (65535 - s) (65535 - t) (omega arith))
  | no h ↦ elim (dec_lt s 65536) [ yes i ↦ rw (above t (omega arith), below s i) | no i ↦ rw (above t (omega arith), above s (omega arith)) (le-ltb (t - 65536) (s - 65536) (omega arith)) ]
]

less : (s t : ℕ) → s < t → lt_z (num s) (num t) ≡ true
less s t k = elim (dec_lt t 65536) [
  | yes h ↦ rw (below t h, below s (omega arith)) (lt-ltb (65535 - t) (65535 - s) (omega arith))
  | no h ↦ elim (dec_lt s 65536) [ yes i ↦ rw (above t (omega arith), below s i) | no i ↦ rw (above t (omega arith), above s (omega arith)) (lt-ltb (s - 65536) (t - 65536) (omega arith)) ]
]

min-num : (s t : ℕ) → s ≤ t → min_z (num s) (num t) ≡ num s
unfolding min_z
min-num s t k = rw (not-less s t k)

max-num : (s t : ℕ) → s ≤ t → max_z (num s) (num t) ≡ num t
unfolding max_z
max-num s t k = elim (ℕ_discrete s t) [ yes e ↦ rw (e, not-less t t (omega arith)) | no n ↦ rw (less s t (omega arith)) ]

-- from d, count of them
last-is : (d : ℤ) (c : ℕ) → d +ℤ pos (suc c) -ℤ pos 1 ≡ pos c +ℤ d
last-is d c = -ℤ_one (d +ℤ pos (suc c)) ∙ ap pred_ℤ (+ℤ-suc_ℤ d (pos c)) ∙ pred-suc (d +ℤ pos c) ∙ +ℤ_comm d (pos c)

module _ (count : ℕ) (d : ℤ) (side : ℕ) (near : far d ≡ false) where
  module _ (h : 0 < count) where
    c : ℕ
    c = count - 1

    first : d ≡ num (offset_of d)
    first = sym (+ℤ_idl d) ∙ num-is 0 d near ∙ ap num (omega arith)

    last : d +ℤ pos count -ℤ pos 1 ≡ num (c + offset_of d)
    unfolding c
    last = let e : count ≡ suc (count - 1) = omega arith in ap (λ (k : ℕ). d +ℤ pos k -ℤ pos 1) e ∙ last-is d (count - 1) ∙ num-is (count - 1) d near

    low : from_zero (min_z d (d +ℤ pos count -ℤ pos 1)) ≡ offset_of d - 65536
    low =
        ap (λ (z : ℤ). from_zero (min_z d z)) last ∙ ap (λ (z : ℤ). from_zero (min_z z (num (c + offset_of d)))) first
        ∙ ap from_zero (min-num (offset_of d) (c + offset_of d) (omega arith)) ∙ from-num (offset_of d)

    high : up_to (max_z d (d +ℤ pos count -ℤ pos 1)) ≡ suc (c + offset_of d) - 65536
    high =
        ap (λ (z : ℤ). up_to (max_z d z)) last ∙ ap (λ (z : ℤ). up_to (max_z z (num (c + offset_of d)))) first
        ∙ ap up_to (max-num (offset_of d) (c + offset_of d) (omega arith)) ∙ up-to-num (c + offset_of d)

    pub start_is : (between d (d +ℤ pos count -ℤ pos 1) side).start ≡ (landing 0 count (offset_of d) side).to
    unfolding landing
    start_is = rw (half_open d (d +ℤ pos count -ℤ pos 1) side, low) (omega arith)

    pub count-is : (between d (d +ℤ pos count -ℤ pos 1) side).count ≡ (landing 0 count (offset_of d) side).count
    unfolding landing c
    count-is =
        let o : ℕ = offset_of d in
        let past : suc (count - 1 + o) ≡ 0 + o + count = omega arith in
        let from : o ≡ 0 + o = omega arith in
        rw (half_open d (d +ℤ pos count -ℤ pos 1) side, low, high)
        (ap (λ (k : ℕ). min (k - 65536) side - (o - 65536)) past ∙ ap (λ (k : ℕ). min (0 + o + count - 65536) side - (k - 65536)) from)

  pub span_none : count ≡ 0 → (landing 0 count (offset_of d) side).count ≡ 0
  unfolding landing
  span_none e = omega arith

-- the rectangle
module _ (cw ch : ℕ) (x y : ℤ) (w h : ℕ) (p : far x ≡ false) (q : far y ≡ false) {a b : Landing} (e : a ≡ landing 0 cw (offset_of x) w) (f : b ≡ landing 0 ch (offset_of y) h) where
  corners : 0 < cw → 0 < ch → placed_of (landing 0 cw (offset_of x) w) (landing 0 ch (offset_of y) h) ≡ from_corners x y (x +ℤ pos cw -ℤ pos 1) (y +ℤ pos ch -ℤ pos 1) w h
  unfolding placed_of rectangle
  corners i j =
      rw (← start_is cw x w p i, ← count-is cw x w p i, ← start_is ch y h q j, ← count-is ch y h q j)
      (clipped x y (x +ℤ pos cw -ℤ pos 1) (y +ℤ pos ch -ℤ pos 1) w h {x = between x (x +ℤ pos cw -ℤ pos 1) w} {y = between y (y +ℤ pos ch -ℤ pos 1) h} refl refl)

  pub placed-is : {c : Told (Option Selection)} → c ≡ result (placed_of a b) → c ≡ result (pasted_selection cw ch x y w h)
  unfolding placed_of pasted_selection
  placed-is g = g ∙ rw (e, f) (elim (ℕ_discrete cw 0) [
    | yes z ↦ rw (span_none cw x w p z, z)
    | no n ↦ elim (ℕ_discrete ch 0) [
      | yes z ↦ rw (span_none ch y h q z, z, or-true (eqb (landing 0 cw (offset_of x) w).count 0), or-true (eqb cw 0))
      | no m ↦ rw (ne_eqb cw 0 n, ne_eqb ch 0 m) (ap result (corners (omega arith) (omega arith)))
    ]
  ])

  pub placed-fits : w ≤ 1024 → h ≤ 1024 → (0 < a.count → a.to + a.count ≤ 1024) × (0 < b.count → b.to + b.count ≤ 1024)
  placed-fits i j = rw (e, f) ((λ k. omega (arith, axis-side 0 cw x w p k)), (λ k. omega (arith, axis-side 0 ch y h q k)))
