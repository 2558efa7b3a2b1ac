-- Where a colour is first among colours, and a table of where each index goes. Assumes nothing.
use mathlib.Core.Path.{◌≡◌, ap, ◌∙◌}
use mathlib.Core.Bool.{true, false, cond}
use mathlib.Core.List.{List, ◌∷◌}
use Prim.Native.Nat.{ℕ, suc, ◌+◌, ◌*◌, ◌<◌, ◌≤◌}
use native.Mathlib.Omega.{arith}
use native.Mathlib.Numerals.{towards_suc}
use lib.IntN.{ℤ, pos, negsuc}
use mir.Syntax.{w16}
use mir.Val.{to_z}
use mir.Facts.{to_z_pos}
use lib.ListN.{length, get_or, set, drop, drop_of_length-le}
use lib.Seq.{drop-cons}
use Rattle.base.specs.declared.Rgb.{Rgb}
use Rattle.base.specs.Triples.{rgb_at}
use Rattle.sheet_diff.proofs.Shades.{holds-none, holds_more}
use Rattle.edit.specs.Checks.{same_rgb}
use Rattle.join_model.specs.Places.{place_in, goes, Moves}

-- ---- a search
three : (l : List ℕ) (n : ℕ) → n + 3 ≤ length l
    → drop n l ≡ get_or l n 0 ∷ get_or l (n + 1) 0 ∷ get_or l (n + 2) 0 ∷ drop (n + 3) l
three l n h =
    simp towards_suc
    (rw (
      drop-cons l n 0 (omega arith),
      drop-cons l (suc n) 0 (omega arith),
      drop-cons l (suc (suc n)) 0 (omega arith),
    ))

-- none of the first i is the colour
pub record Placing (l : List ℕ) (c : Rgb) (i : ℕ) : Type 0 where
  pub says : place_in l c ≡ i + place_in (drop (3 * i) l) c

pub placing-none : (l : List ℕ) (c : Rgb) → Placing l c 0
placing-none l c = record { says = omega arith }

module _ {l : List ℕ} {c : Rgb} {i : ℕ} (p : Placing l c i) where
  at_entry : 3 * i + 3 ≤ length l
      → place_in (drop (3 * i) l) c ≡ cond (same_rgb (rgb_at l i) c) 0 (suc (place_in (drop (3 * (i + 1)) l) c))
  unfolding place_in rgb_at
  at_entry h =
      let q : 3 * i + 3 ≡ 3 * (i + 1) = omega arith in
      rw (three l (3 * i) h, q)

  pub placing-next : 3 * i + 3 ≤ length l → same_rgb (rgb_at l i) c ≡ false → Placing l c (i + 1)
  placing-next h e =
      let q : place_in (drop (3 * i) l) c ≡ suc (place_in (drop (3 * (i + 1)) l) c) = at_entry h ∙ rw e in
      record { says = omega (arith, p.says, q) }

  pub placing-here : 3 * i + 3 ≤ length l → same_rgb (rgb_at l i) c ≡ true → i ≡ place_in l c
  placing-here h e =
      let q : place_in (drop (3 * i) l) c ≡ 0 = at_entry h ∙ rw e in
      omega (arith, p.says, q)

  pub placing-end : length l ≤ 3 * i → i ≡ place_in l c
  unfolding place_in
  placing-end h =
      let q : place_in (drop (3 * i) l) c ≡ 0 = rw (drop_of_length-le l {i = 3 * i} h) in
      omega (arith, p.says, q)

-- ---- a table
module _ (colours palette : List ℕ) where
  -- what is asked of what stands for an index
  abbrev Goes : ℤ → ℤ → Type 0
  Goes z x = x ≡ goes colours palette z

  pub moves-none : (t : List ℤ) → get_or t 0 (pos 0) ≡ negsuc 0 → Moves 0 colours palette t
  unfolding goes
  moves-none t h = record { moves = holds-none (pos 0) Goes t h }

  pub moves_more : {k : ℕ} {t : List ℤ} → Moves k colours palette t → (x : ℤ) → k + 1 < length t
      → x ≡ goes colours palette (pos k) → Moves (k + 1) colours palette (set t (k + 1) x)
  moves_more {k} {t} m x h q = record { moves = holds_more (pos 0) Goes k t x m.moves h q }

-- an entry's place, as the table has it
pub goes_at : (colours palette : List ℕ) (i : ℕ) (c : Rgb) (r : ℕ) → c ≡ rgb_at palette i → r ≡ place_in colours c
    → r ≤ 255
    → to_z w16 r ≡ goes colours palette (pos i)
unfolding goes
goes_at colours palette i c r e q h = to_z_pos w16 (omega arith) ∙ ap pos (q ∙ ap (place_in colours) e)
