-- Tables of shades: equal numbers are equal colours, and how a table is filled. Assumes nothing.
use mathlib.Core.Path.{◌≡◌, refl, sym, ◌∙◌}
use mathlib.Core.Logic.{⊎_elim}
use mathlib.Core.Bool.{Bool, true, false, not, ◌&&◌}
use mathlib.Core.List.{List}
use Prim.Native.Nat.{ℕ, zero, suc, ◌+◌, ◌*◌, ◌<◌, ◌≤◌}
use native.Mathlib.Omega.{arith}
use native.Mathlib.Nat.{eq-or-lt_of_le, le_of_suc-le-suc}
use native.Mathlib.Numerals.{add-one}
use borrow.Author.Tests.{leb-false, lt-leb, eq-eqb, ne_eqb, eqb-true, eqb-false}
use lib.Dec.{eqb}
use lib.IntN.{ℤ, pos, negsuc}
use lib.ListN.{length, get_or, set}
use lib.Seq.{get_or-set_same, get_or-set_other}
use mir.Val.{bool_byte}
use Rattle.base.specs.declared.Rgb.{Rgb}
use Rattle.base.proofs.Back.{never}
use Rattle.sheet.specs.Sheet.{stray}
use Rattle.sheet.specs.Document.{mark}
use Rattle.base.specs.Triples.{rgb_at}
use Rattle.sheet_diff.specs.Mask.{shown, same_bytes, differs}
use Rattle.sheet_diff.specs.Tables.{slot_of, Numbered, Shade, Shades}
use Rattle.sheet.proofs.Entries.{bytes_of, entry}

-- ---- equal numbers are equal colours
number-equal : (c d : Rgb) (x y : ℕ) → Numbered c x → Numbered d y → (r g b : Bool) → eqb c.r d.r ≡ r → eqb c.g d.g ≡ g → eqb c.b d.b ≡ b
    → eqb x y ≡ r && (g && (b && true))
number-equal c d x y m n true true true p q s = eq-eqb x y (omega (arith, eqb-true))
number-equal c d x y m n true true false p q s = ne_eqb x y (λ h. eqb-false c.b d.b s (omega arith))
number-equal c d x y m n true false b p q s = ne_eqb x y (λ h. eqb-false c.g d.g q (omega arith))
number-equal c d x y m n false g b p q s = ne_eqb x y (λ h. eqb-false c.r d.r p (omega arith))

colours-equal : (c d : Rgb) (x y : ℕ) → Numbered c x → Numbered d y → eqb x y ≡ same_bytes (bytes_of c) (bytes_of d)
unfolding same_bytes
colours-equal c d x y m n = number-equal c d x y m n (eqb c.r d.r) (eqb c.g d.g) (eqb c.b d.b) refl refl refl

-- an entry's three bytes are in the storage
within : (p : List ℕ) (n : ℕ) → length p ≡ 765 → stray 255 (pos n) ≡ false → 3 * n + 3 ≤ length p
unfolding stray
within p n h e = omega (arith, leb-false 255 n e)

module _ (p q : List ℕ) (hp : length p ≡ 765) (hq : length q ≡ 765) where
  pub shades-equal : (a b : ℤ) (x y : ℕ) → stray 255 a ≡ false → stray 255 b ≡ false → Shade p a x → Shade q b y → eqb x y ≡ same_bytes (shown p a) (shown q b)
  unfolding Shade shown same_bytes
  shades-equal (pos n) (pos m) x y e f s t = rw (entry p n (within p n hp e), entry q m (within q m hq f)) (colours-equal (rgb_at p n) (rgb_at q m) x y s t)
  shades-equal (pos n) (negsuc m) x y e f s t = rw (entry p n (within p n hp e), t) (ne_eqb x 16777216 (λ h. omega (arith, s)))
  shades-equal (negsuc n) (pos m) x y e f s t = rw (entry q m (within q m hq f), s) (ne_eqb 16777216 y (λ h. omega (arith, t)))
  shades-equal (negsuc n) (negsuc m) x y e f s t = rw (s, t)

  -- what a comparison of two tables marks
  pub marked : {t u : List ℕ} (a b : ℤ) {x y : ℕ} → Shades 255 p t → Shades 255 q u → stray 255 a ≡ false → stray 255 b ≡ false
      → x ≡ get_or t (slot_of a) 0 → y ≡ get_or u (slot_of b) 0 → bool_byte (not (eqb x y)) ≡ mark (differs p q a b)
  unfolding differs
  marked a b s t e f ex ey = mark-byte _ ∙ rw (ex, ey, shades-equal a b _ _ e f (s.shade a e) (t.shade b f))
    where
      mark-byte : (b : Bool) → bool_byte b ≡ mark b
      mark-byte true = refl
      mark-byte false = refl

-- ---- how a table is filled, whatever is asked of what stands for an index
module _ {A : Type 0} (d : A) (P : ℤ → A → Type 0) where
  -- what stands for the transparent index and for the first k entries is what is asked
  abbrev pub Holds : ℕ → List A → Type 0
  Holds k t = (z : ℤ) → stray k z ≡ false → P z (get_or t (slot_of z) d)

  -- at first all that matters is the transparent index
  pub holds-none : (t : List A) → P (negsuc 0) (get_or t 0 d) → Holds 0 t
  unfolding stray slot_of
  holds-none t h (pos n) e = absurd (omega (arith, leb-false 0 n e))
  holds-none t h (negsuc zero) e = h
  holds-none t h (negsuc (suc n)) e = never (sym e)

  -- an entry more
  one_more : (k : ℕ) (t : List A) (x : A) → Holds k t → suc k < length t → P (pos k) x → Holds (suc k) (set t (suc k) x)
  unfolding stray slot_of
  one_more k t x s h m (pos n) e =
      ⊎_elim
      (λ q. rw q (rw (get_or-set_same t (suc k) x d h) m))
      (λ less. rw (get_or-set_other t (suc k) (suc n) x d (λ q. omega arith)) (s (pos n) (lt-leb k n less)))
      (eq-or-lt_of_le (le_of_suc-le-suc (leb-false (suc k) n e)))
  one_more k t x s h m (negsuc zero) e = rw (get_or-set_other t (suc k) 0 x d (λ q. omega arith)) (s (negsuc 0) refl)
  one_more k t x s h m (negsuc (suc n)) e = never (sym e)

  pub holds_more : (k : ℕ) (t : List A) (x : A) → Holds k t → k + 1 < length t → P (pos k) x → Holds (k + 1) (set t (k + 1) x)
  holds_more k t x s h m = rw (add-one k) (one_more k t x s (omega arith) m)

pub shades-none : (p t : List ℕ) → get_or t 0 0 ≡ 16777216 → Shades 0 p t
unfolding Shade
shades-none p t h = record { shade = holds-none 0 (Shade p) t h }

pub shades-more : {k : ℕ} {p t : List ℕ} {x : ℕ} → Shades k p t → k + 1 < length t → Numbered (rgb_at p k) x → Shades (k + 1) p (set t (k + 1) x)
unfolding Shade
shades-more {k} {p} {t} {x} s h m = record { shade = holds_more 0 (Shade p) k t x s.shade h m }
