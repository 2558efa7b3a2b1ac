-- When a list is touched, and what is known of it then. Assumes nothing.
use Prim.Native.Nat.{ℕ, ◌%◌, ◌≤◌, ◌<◌}
use mathlib.Core.Path.{◌≡◌, sym, ap, ◌∙◌}
use mathlib.Core.Bool.{Bool, true, false, not, ◌||◌}
use mathlib.Core.List.{List, map}
use native.Mathlib.Omega.{arith}
use lib.Dec.{eqb, leb}
use lib.ListN.{length, get_or}
use borrow.Author.Tests.{eq-eqb, ne_eqb, eqb-true, leb-false}
use Rattle.base.specs.Lists.{some}
use Rattle.base.proofs.Bools.{and_left, and_right}
use Rattle.base.proofs.Scan.{some-none, or_left, or_right}
use Rattle.base.proofs.Nowhere.{some-map}
use Rattle.base.proofs.Back.{never}
use Rattle.sheet.specs.Sheet.{Sheet}
use Rattle.sheet.specs.Checks.{WellFormed}
use Rattle.edit.specs.Change.{outside, unpacked}
use Rattle.edit_pixels.proofs.Fitting.{pixel-fits}
use Rattle.tile_copies.specs.Mirror.{Mirrorable}
use Rattle.tile_mirror_checks.specs.Calls.{divides, touching, straying}

-- ---- by the tests
module _ (t w h : ℕ) where
  pub no-side : t ≡ 0 → false ≡ divides t w h
  unfolding divides
  no-side e = rw (eq-eqb t 0 e)

  module _ (some-side : t ≡ 0 → ⊥) where
    pub across-not : (w % t ≡ 0 → ⊥) → eqb (w % t) 0 ≡ divides t w h
    unfolding divides
    across-not e = rw (ne_eqb t 0 some-side, ne_eqb (w % t) 0 e)

    pub across-then : w % t ≡ 0 → eqb (h % t) 0 ≡ divides t w h
    unfolding divides
    across-then e = rw (ne_eqb t 0 some-side, eq-eqb (w % t) 0 e)

module _ (count t w h : ℕ) where
  pub off-not : (on : Bool) → on ≡ false → false ≡ touching on count t w h
  unfolding touching
  off-not on e = rw e

  pub empty-not : (on : Bool) → on ≡ true → count ≡ 0 → false ≡ touching on count t w h
  unfolding touching
  empty-not on e z = rw (e, eq-eqb count 0 z)

  pub else-divides : (on r : Bool) → on ≡ true → (count ≡ 0 → ⊥) → r ≡ divides t w h → r ≡ touching on count t w h
  unfolding touching
  else-divides on r e z d = rw (e, ne_eqb count 0 z) d

-- ---- what is known
not_eqb : (a b : ℕ) → not (eqb a b) ≡ true → a ≡ b → ⊥
not_eqb a b e q = never (sym (ap not (eq-eqb a b q)) ∙ e)

module _ (s : Sheet) (f : WellFormed s) (on : Bool) (t : ℕ) (list : List ℕ) (touched : Bool) (is : touched ≡ touching on (length list) t s.w s.h)
    (few : length list ≤ 1048576) (held : straying touched s.w s.h list ≡ false) where
  pub mirrorable : touched ≡ true → Mirrorable s.w s.h t s.indices list
  unfolding touching divides straying outside
  mirrorable y =
      let e : touching on (length list) t s.w s.h ≡ true = sym is ∙ y in
      let a = and_right on _ e in
      let b = and_right (not (eqb (length list) 0)) _ a in
      let c = and_right (not (eqb t 0)) _ b in
      let lim = f.limits in
      let n : length list ≡ 0 → ⊥ = not_eqb (length list) 0 (and_left _ _ a) in
      let z : t ≡ 0 → ⊥ = not_eqb t 0 (and_left _ _ b) in
      let none : some (outside s.w s.h) (map unpacked list) ≡ false = rw y at held in
      record {
        tiled = record { side = omega arith; across = eqb-true (s.w % t) 0 (and_left (eqb (s.w % t) 0) (eqb (s.h % t) 0) c); down = eqb-true (s.h % t) 0 (and_right (eqb (s.w % t) 0) (eqb (s.h % t) 0) c); w-small = lim.w-small; h-small = lim.h-small; long = lim.indices-length };
        fits = λ p. pixel-fits s.k s.indices p lim.k-small f.in-range;
        some = omega arith;
        few = few;
        across = λ j b. leb-false _ _ (or_left (leb s.w (unpacked (get_or list j 0)).x) (leb s.h (unpacked (get_or list j 0)).y) (at none j b));
        down = λ j b. leb-false _ _ (or_right (leb s.w (unpacked (get_or list j 0)).x) (leb s.h (unpacked (get_or list j 0)).y) (at none j b));
      }
    where
      at : some (outside s.w s.h) (map unpacked list) ≡ false → (j : ℕ) → j < length list → leb s.w (unpacked (get_or list j 0)).x || leb s.h (unpacked (get_or list j 0)).y ≡ false
      at none j b = some-none (λ c. outside s.w s.h (unpacked c)) list j 0 (sym (some-map unpacked (outside s.w s.h) list) ∙ none) b

-- ---- a change off the sheet
module _ (w h : ℕ) (list : List ℕ) (touched : Bool) where
  pub untouched : touched ≡ false → false ≡ straying touched w h list
  unfolding straying
  untouched e = rw e

  pub touched-then : (r : Bool) → touched ≡ true → r ≡ some (outside w h) (map unpacked list) → r ≡ straying touched w h list
  unfolding straying
  touched-then r e f = rw e f
