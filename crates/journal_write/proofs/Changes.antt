-- A change's bytes: eight are those of its packed number, seven those of its place, its old and its new; and what was written is read. Assumes nothing.
use Prim.Native.Nat.{ℕ, ◌+◌, ◌*◌, ◌/◌, ◌%◌, ◌^◌, ◌<◌, ◌≤◌}
use mathlib.Core.Path.{◌≡◌, refl, sym, ap, ap₂, ◌∙◌}
use mathlib.Core.List.{List, [], ◌∷◌, ◌++◌, flat_map, append_assoc}
use native.Mathlib.Nat.{div-div-eq-div-mul, mul-add, mul_assoc, mul_comm, add_assoc, div-add-mod', mul-le-mul, mul-add-mod_self_right, mul-add-div_right, mod-eq_of_lt, div-eq_of_lt}
use native.Mathlib.Omega.{arith}
use lib.ListN.{length, length-append}
use mir.Syntax.{w16}
use mir.Val.{to_z, of_z}
use mir.Facts.{to_z-of_z, of_z-to_z, Fits-of_z}
use Rattle.base.specs.declared.Form.{Form}
use Rattle.base.specs.declared.Form.TheVariants.{Coordinates, Places}
use Rattle.edit.specs.Change.{Change, packed, unpacked, place}
use Rattle.base.proofs.Collect.{length-flat_map}
use Rattle.journal_record.specs.Bytes.{le, le_at, splice}
use Rattle.journal_record.specs.Record.{stride, change_bytes, change_in, changes_in}
use Rattle.journal_write.specs.Fit.{FitChange, FitChanges, FitPlaces}
use Rattle.journal_record.proofs.LittleEndian.{length-le, le-add, le-mod, le_at-of}
use Rattle.journal_record.proofs.Splice.{splice-then}

-- eight bytes are four numbers of two
pairs : (v : ℕ) → le 8 v ≡ le 2 (v % 2 ^ 16) ++ (le 2 (v / 2 ^ 16 % 2 ^ 16) ++ (le 2 (v / 2 ^ 32 % 2 ^ 16) ++ le 2 (v / 2 ^ 48 % 2 ^ 16)))
pairs v =
    rw (
      le-mod 2 v,
      le-mod 2 (v / 2 ^ 16),
      le-mod 2 (v / 2 ^ 32),
      le-mod 2 (v / 2 ^ 48),
      le-add 2 6 v,
      le-add 2 4 (v / 2 ^ 16),
      div-div-eq-div-mul v (2 ^ 16) (2 ^ 16),
      le-add 2 2 (v / 2 ^ 32),
      div-div-eq-div-mul v (2 ^ 32) (2 ^ 16),
    )

-- two bytes hold a signed number of 16 bits
pub signed : (n : ℕ) → n < 2 ^ 16 → of_z w16 (to_z w16 n) ≡ n
signed n h = of_z-to_z {w = w16} (record { fits = h })

pub change-bytes : (w v : ℕ) → change_bytes Coordinates w (unpacked v) ≡ le 8 v
unfolding change_bytes unpacked
change-bytes w v = rw (signed (v / 2 ^ 32 % 2 ^ 16) (omega arith), signed (v / 2 ^ 48 % 2 ^ 16) (omega arith)) (sym (pairs v))

-- ---- a place in three bytes
-- of a width the three lowest bytes count
pub low-place : (w x y : ℕ) → le 3 (y * (w % 2 ^ 24) + x) ≡ le 3 (y * w + x)
low-place w x y =
    let M : ℕ = 2 ^ 24 in
    let low : ℕ = y * (w % M) + x in
    let split : y * w + x ≡ y * (w / M) * M + low =
    rw (mul_assoc, ← add_assoc, ← mul-add, div-add-mod') in
    sym (le-mod 3 low) ∙ ap (le 3) (sym (mul-add-mod_self_right (y * (w / M)) M low) ∙ rw (← split)) ∙ le-mod 3 (y * w + x)

pub low_fits : (w : ℕ) {a : ℕ} → a < 2 ^ 16 → a * (w % 2 ^ 24) < 2 ^ 48
low_fits w {a} h =
    let most : a ≤ 2 ^ 16 = omega arith in
    let width : w % 2 ^ 24 ≤ 2 ^ 24 = omega arith in
    omega (arith, mul-le-mul most width)

-- old and new are a number's upper half
upper : (v : ℕ) → le 4 (v / 2 ^ 32) ≡ le 2 (v / 2 ^ 32 % 2 ^ 16) ++ le 2 (v / 2 ^ 48 % 2 ^ 16)
upper v = rw (le-mod 2 (v / 2 ^ 32), le-mod 2 (v / 2 ^ 48), le-add 2 2 (v / 2 ^ 32), div-div-eq-div-mul v (2 ^ 32) (2 ^ 16))

-- written one behind the other
pub placed-bytes : (l s t : List ℕ) (at w v p : ℕ) → at ≤ length l → le 3 p ≡ le 3 (place w (unpacked v)) → s ≡ splice l at (le 3 p) → t ≡ splice s (at + 3) (le 4 (v / 2 ^ 32))
    → t ≡ splice l at (change_bytes Places w (unpacked v))
unfolding change_bytes unpacked
placed-bytes l s t at w v p h e q r =
    rw (signed (v / 2 ^ 32 % 2 ^ 16) (omega arith), signed (v / 2 ^ 48 % 2 ^ 16) (omega arith), ← upper v, ← e)
    (splice-then l s t (le 3 p) (le 4 (v / 2 ^ 32)) at (at + 3) h (rw length-le) q r)

-- the lowest 16 bits of a number
lowest : (v a b : ℕ) → a < 2 ^ 16 → v ≡ a + b * 2 ^ 16 → v % 2 ^ 16 ≡ a
lowest v a b h e = omega arith

module _ (c : Change) (h : FitChange c) where
  old-bits : of_z w16 c.old < 2 ^ 16
  old-bits = (Fits-of_z h.old-fits).fits

  new-bits : of_z w16 c.new < 2 ^ 16
  new-bits = (Fits-of_z h.new-fits).fits

  pub packed-fits : packed c < 2 ^ 64
  unfolding packed
  packed-fits = let o = old-bits in let n = new-bits in omega arith

  pub unpacked-packed : unpacked (packed c) ≡ c
  unfolding unpacked packed
  unpacked-packed =
      let o = old-bits in
      let n = new-bits in
      let v : ℕ = c.x + c.y * 2 ^ 16 + of_z w16 c.old * 2 ^ 32 + of_z w16 c.new * 2 ^ 48 in
      let x-is : v % 2 ^ 16 ≡ c.x = lowest v c.x (c.y + (of_z w16 c.old + of_z w16 c.new * 2 ^ 16) * 2 ^ 16) h.x_fits (omega arith) in
      let y-is : v / 2 ^ 16 % 2 ^ 16 ≡ c.y = lowest (v / 2 ^ 16) c.y (of_z w16 c.old + of_z w16 c.new * 2 ^ 16) h.y-fits (omega arith) in
      let old-is : v / 2 ^ 32 % 2 ^ 16 ≡ of_z w16 c.old = lowest (v / 2 ^ 32) (of_z w16 c.old) (of_z w16 c.new) old-bits (omega arith) in
      let new_is : v / 2 ^ 48 % 2 ^ 16 ≡ of_z w16 c.new = lowest (v / 2 ^ 48) (of_z w16 c.new) 0 new-bits (omega arith) in
      rw (x-is, y-is, old-is, new_is, to_z-of_z h.old-fits, to_z-of_z h.new-fits)

  bytes_packed : (w : ℕ) → change_bytes Coordinates w c ≡ le 8 (packed c)
  bytes_packed w = rw unpacked-packed at (change-bytes w (packed c))

  -- the column and the row of its place
  column-back : (w : ℕ) → c.x < w → place w c % w ≡ c.x
  unfolding place
  column-back w b = mul-add-mod_self_right c.y w c.x ∙ mod-eq_of_lt b

  row_back : (w : ℕ) → c.x < w → place w c / w ≡ c.y
  unfolding place
  row_back w b = mul-add-div_right {m = w} (omega arith) c.y c.x ∙ omega (arith, div-eq_of_lt b)

  placed-in : (w : ℕ) → c.x < w → place w c < 2 ^ 24 → (s p q : List ℕ) (at : ℕ) → s ≡ p ++ (change_bytes Places w c ++ q) → length p ≡ at → change_in Places w s at ≡ c
  unfolding change_in change_bytes
  placed-in w b m s p q at e l =
      let P = le 3 (place w c) in
      let O = le 2 (of_z w16 c.old) in
      let N = le 2 (of_z w16 c.new) in
      let at_place : le_at 3 s at ≡ place w c = le_at-of 3 (place w c) s p (O ++ (N ++ q)) at (e ∙ simp append_assoc) l m in
      let at_old : le_at 2 s (at + 3) ≡ of_z w16 c.old = le_at-of 2 (of_z w16 c.old) s (p ++ P) (N ++ q) (at + 3) (e ∙ simp append_assoc) (rw (length-append, length-le, l)) old-bits in
      let at_new : le_at 2 s (at + 5) ≡ of_z w16 c.new = le_at-of 2 (of_z w16 c.new) s (p ++ (P ++ O)) q (at + 5) (e ∙ simp append_assoc) (simp (length-append, length-le, l)) new-bits in
      rw (at_place, at_old, at_new, column-back w b, row_back w b, to_z-of_z h.old-fits, to_z-of_z h.new-fits)

  -- a change that was written is read, the first of some
  change-in : (f : Form) (w : ℕ) (cs : List Change) → FitPlaces f w (c ∷ cs) → (s p q : List ℕ) (at : ℕ) → s ≡ p ++ (change_bytes f w c ++ q) → length p ≡ at → change_in f w s at ≡ c
  unfolding change_in FitPlaces
  change-in Coordinates w cs k s p q at e l = ap unpacked (le_at-of 8 (packed c) s p q at (rw (bytes_packed w) at e) l packed-fits) ∙ unpacked-packed
  change-in Places w cs k s p q at e l = placed-in w k.0.0 k.0.1 s p q at e l

rest-places : (f : Form) (w : ℕ) (c : Change) (cs : List Change) → FitPlaces f w (c ∷ cs) → FitPlaces f w cs
unfolding FitPlaces
rest-places Coordinates w c cs k = tt
rest-places Places w c cs k = k.1

pub length-change : (f : Form) (w : ℕ) (c : Change) → length (change_bytes f w c) ≡ stride f
unfolding change_bytes
length-change Coordinates w c = simp (length-append, length-le)
length-change Places w c = simp (length-append, length-le)

pub length-changes : (f : Form) (w : ℕ) (cs : List Change) → length (flat_map (change_bytes f w) cs) ≡ stride f * length cs
length-changes f w cs = length-flat_map (change_bytes f w) (stride f) (length-change f w) cs ∙ mul_comm (length cs) (stride f)

-- a list of changes that was written is read
pub changes-in : (f : Form) (w : ℕ) (cs : List Change) → FitChanges cs → FitPlaces f w cs → (s p q : List ℕ) (at : ℕ) → s ≡ p ++ (flat_map (change_bytes f w) cs ++ q) → length p ≡ at
    → changes_in f w s at (length cs) ≡ cs
unfolding changes_in FitChanges flat_map
changes-in f w [] h k s p q at e l = refl
changes-in f w (c ∷ cs) h k s p q at e l =
    let rest : List ℕ = flat_map (change_bytes f w) cs ++ q in
    let here : s ≡ p ++ (change_bytes f w c ++ rest) = e ∙ simp append_assoc in
    let after : s ≡ (p ++ change_bytes f w c) ++ rest = here ∙ sym (append_assoc p (change_bytes f w c) rest) in
    ap₂ ◌∷◌ (change-in c h.0 f w cs k s p rest at here l)
    (changes-in f w cs h.1 (rest-places f w c cs k) s (p ++ change_bytes f w c) q (at + stride f) after (rw (length-append, length-change, l)))
