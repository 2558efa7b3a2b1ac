-- The point that a fill starts from. Assumes nothing.
use mathlib.Core.Path.{◌≡◌, sym, ap, ◌∙◌}
use mathlib.Core.Bool.{true, false}
use Prim.Native.Nat.{ℕ, ◌+◌, ◌*◌, ◌≤◌, ◌<◌}
use native.Mathlib.Omega.{arith}
use native.Mathlib.Nat.{mul-le-mul, le_refl, mul_comm, add-mul, one-mul}
use borrow.Author.Tests.{leb-true}
use lib.Dec.{leb}
use lib.IntN.{ℤ, pos, negsuc}
use Rattle.base.specs.Checks.{first_of, refused_or}
use Rattle.base.specs.Answer.Told.{result}
use Rattle.base.proofs.Told.{alone-other, same-result}
use Rattle.base.proofs.Bools.{and_left, and_right}
use Rattle.base.specs.Ints.{far, from_zero}
use Rattle.base.proofs.Back.{never}
use Rattle.selection_spans.specs.Spans.{in_span}
use Rattle.selection.specs.declared.Selection.{Selection}
use Rattle.selection.specs.declared.Held.{Held}
use Rattle.selection.specs.declared.Held.TheVariants as held
use Rattle.selection.specs.Selection.{inside, contains, contains_i}
use Rattle.selection.specs.Calls.{held_told, far_away, contains_iof}
use Rattle.selection.proofs.Regions.{below_span}

held-is : (s : Selection) (x y : ℤ) → far x ≡ false → far y ≡ false → contains_iof s x y ≡ result (contains_i s x y)
unfolding contains_iof far_away first_of refused_or
held-is s x y p q = rw (p, q)

-- what each answer of it tells; it refuses nothing here
module _ (s : Selection) (x y : ℤ) (p : far x ≡ false) (q : far y ≡ false) where
  told : {r v : Held} → held_told r ≡ contains_iof s x y → r ≡ v → held_told v ≡ result (contains_i s x y)
  told e f = sym (ap held_told f) ∙ e ∙ held-is s x y p q

  pub by-inside : {r : Held} → held_told r ≡ contains_iof s x y → r ≡ held.Inside → true ≡ contains_i s x y
  by-inside e f = same-result (told e f)

  pub by-outside : {r : Held} → held_told r ≡ contains_iof s x y → r ≡ held.Outside → false ≡ contains_i s x y
  by-outside e f = same-result (told e f)

  pub by-refused : {r : Held} {n : ℕ} → held_told r ≡ contains_iof s x y → r ≡ held.Refused n → false ≡ contains_i s x y
  by-refused e f = absurd (alone-other (told e f))

pub record OnSheet (w h : ℕ) (x y : ℤ) : Type 0 where
  pub column : from_zero x < w
  pub row : from_zero y < h

pub on-sheet : (s : Selection) (x y : ℤ) (w h : ℕ) → contains_i s x y ≡ true → inside s w h ≡ true → OnSheet w h x y
unfolding contains_i contains inside from_zero
on-sheet s (pos x) (pos y) w h e i = record {
  column = below_span s.x s.w x w (leb-true (s.x + s.w) w (and_left (leb (s.x + s.w) w) _ i)) (and_left (in_span s.x s.w x) _ e);
  row = below_span s.y s.h y h (leb-true (s.y + s.h) h (and_right (leb (s.x + s.w) w) _ i)) (and_right (in_span s.x s.w x) _ e);
}
on-sheet s (pos x) (negsuc y) w h e i = never e
on-sheet s (negsuc x) y w h e i = never e

-- the start is a place of the sheet
start-in : (w h x y : ℕ) → x < w → y < h → y * w + x < w * h
start-in w h x y a b =
    let r : (y + 1) * w ≤ h * w = (let k : y + 1 ≤ h = omega arith in mul-le-mul k (le_refl w)) in
    omega (arith, add-mul y 1 w, one-mul w, mul_comm h w)

pub start-on : {w h : ℕ} {x y : ℤ} (row column : ℕ) → OnSheet w h x y → row ≡ from_zero y → column ≡ from_zero x → row * w + column < w * h
start-on {w} {h} {x} {y} row column on down across = rw (down, across) (start-in w h (from_zero x) (from_zero y) on.column on.row)

pub rows_few : (w h : ℕ) → h ≤ 1024 → w * h ≤ 1024 * w
rows_few w h low = rw (mul_comm w h) (mul-le-mul low (le_refl w))
