-- Loops that scan a list from the front, with what is left of it as `drop i l`. Assumes nothing.
use mathlib.Core.Path.{◌≡◌, refl}
use mathlib.Core.Bool.{Bool, true, false, ◌||◌, or_assoc, or-false}
use mathlib.Core.List.{List, [], ◌∷◌}
use Prim.Native.Nat.{ℕ, zero, suc, ◌+◌, ◌<◌, ◌≤◌}
use native.Mathlib.Numerals.{add-one}
use native.Mathlib.Nat.{le_of_suc-le-suc, not-suc-le-zero}
use lib.ListN.{length, get_or, drop, drop_of_length-le}
use lib.Seq.{drop-cons}
use Rattle.base.specs.Lists.{some}

pub or_left : (a b : Bool) → a || b ≡ false → a ≡ false
or_left true b e = e
or_left false b e = refl

pub or_right : (a b : Bool) → a || b ≡ false → b ≡ false
or_right true b e = cc
or_right false b e = e

-- A scan without early exit has a flag for what it met: the flag and what is left say what the whole list says.
pub record Flagged {A : Type 0} (p : A → Bool) (l : List A) (i : ℕ) (flag : Bool) : Type 0 where
  pub says : flag || some p (drop i l) ≡ some p l

module _ {A : Type 0} where
  -- one element more
  pub drop-next : (l : List A) (i : ℕ) (d : A) → i < length l → drop i l ≡ get_or l i d ∷ drop (i + 1) l
  drop-next l i d h = rw (add-one, drop-cons l i d)

  pub drop-end : (l : List A) (i : ℕ) → length l ≤ i → drop i l ≡ []
  drop-end l i h = drop_of_length-le l h

  -- where none has p, the one at i has not
  pub some-none : (p : A → Bool) (l : List A) (i : ℕ) (d : A) → some p l ≡ false → i < length l → p (get_or l i d) ≡ false
  unfolding some
  some-none p [] i d e h = absurd (not-suc-le-zero h)
  some-none p (x ∷ l) zero d e h = or_left (p x) (some p l) e
  some-none p (x ∷ l) (suc i) d e h = some-none p l i d (or_right (p x) (some p l) e) (le_of_suc-le-suc h)

  -- a step finds t at i, and the flag becomes u
  pub flag-step : (d : A) {p : A → Bool} {l : List A} {i : ℕ} {flag t u : Bool} → Flagged p l i flag → i < length l → t ≡ p (get_or l i d) → u ≡ flag || t → Flagged p l (i + 1) u
  unfolding some
  flag-step d {p} {l} {i} {flag} f h e v = record { says = rw (v, e, or_assoc flag (p (get_or l i d))) (rw (drop-next l i d h) at f.says) }

  pub flag-end : {p : A → Bool} {l : List A} {i : ℕ} {flag : Bool} → Flagged p l i flag → length l ≤ i → flag ≡ some p l
  unfolding some
  flag-end {p} {l} {i} {flag} f h = rw (drop-end l i h, or-false flag) at f.says
