-- A loop over a list of colours, three bytes each: whether one so far was met, and what is left, say what the whole list says. Assumes nothing.
use mathlib.Core.Path.{◌≡◌, refl}
use mathlib.Core.Bool.{Bool, false, ◌||◌, or_assoc, or-false}
use mathlib.Core.List.{List, [], ◌∷◌}
use Prim.Native.Nat.{ℕ, suc, ◌+◌, ◌*◌, ◌<◌, ◌≤◌}
use native.Mathlib.Omega.{arith}
use native.Mathlib.Numerals.{towards_suc}
use lib.ListN.{length, get_or, drop, length-drop}
use lib.Seq.{drop-cons}
use Rattle.base.specs.declared.Rgb.{Rgb}
use Rattle.base.specs.Triples.{rgb_at}
use Rattle.edit.specs.Checks.{same_rgb, listed}

-- three elements that stand one after the other
three : (l : List ℕ) (n : ℕ) → n + 3 ≤ length l → drop n l ≡ get_or l n 0 ∷ get_or l (n + 1) 0 ∷ get_or l (n + 2) 0 ∷ drop (n + 3) l
three l n h = simp towards_suc (rw (drop-cons l n 0 (omega arith), drop-cons l (suc n) 0 (omega arith), drop-cons l (suc (suc n)) 0 (omega arith)))

few : (l : List ℕ) (c : Rgb) → length l < 3 → listed l c ≡ false
unfolding listed
few [] c h = refl
few (r ∷ []) c h = refl
few (r ∷ g ∷ []) c h = refl
few (r ∷ g ∷ b ∷ l) c h = absurd (omega arith)

pub record Listing (l : List ℕ) (c : Rgb) (i : ℕ) (found : Bool) : Type 0 where
  says : found || listed (drop (3 * i) l) c ≡ listed l c

pub listing_none : (l : List ℕ) (c : Rgb) → Listing l c 0 false
listing_none l c = record { says = refl }

module _ {l : List ℕ} {c : Rgb} {i : ℕ} {found : Bool} (p : Listing l c i found) where
  pub listing-next : {t u : Bool} → 3 * i + 3 ≤ length l → t ≡ same_rgb (rgb_at l i) c → u ≡ found || t → Listing l c (i + 1) u
  unfolding listed rgb_at
  listing-next h e v =
      let q : 3 * i + 3 ≡ 3 * (i + 1) = omega arith in
      record { says = rw (v, e, or_assoc found _ _) (rw (three l (3 * i) h, q) at p.says) }

  pub listing-all : length l < 3 * i + 3 → found ≡ listed l c
  listing-all h = rw (few (drop (3 * i) l) c (simp length-drop (omega arith)), or-false found) at p.says
