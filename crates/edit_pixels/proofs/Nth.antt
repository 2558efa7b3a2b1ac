-- A change of a list, by what is left of the list from it on. Assumes nothing.
use mathlib.Core.Path.{◌≡◌, ◌∙◌}
use mathlib.Core.Bool.{Bool, false, ◌||◌, or_assoc}
use mathlib.Core.List.{List, ◌∷◌, map}
use Prim.Native.Nat.{ℕ, ◌+◌, ◌<◌}
use lib.ListN.{length, get_or, drop, length-map, get_or-map}
use Rattle.base.specs.Lists.{some}
use Rattle.base.proofs.Nowhere.{first-not, nowhere-drop}
use Rattle.base.proofs.Scan.{Flagged, drop-next}
use Rattle.edit.specs.Change.{Change, unpacked}

-- c is change i
pub record Nth (cs : List Change) (i : ℕ) (c : Change) : Type 0 where
  pub left : drop i cs ≡ c ∷ drop (i + 1) cs

-- of a list of one number a change
pub nth-unpacked : (list : List ℕ) (i : ℕ) → i < length list → Nth (map unpacked list) i (unpacked (get_or list i 0))
nth-unpacked list i h = record { left = drop-next (map unpacked list) i (unpacked 0) (rw length-map h) ∙ rw (get_or-map unpacked list i 0) }

module _ {cs : List Change} {i : ℕ} {c : Change} (a : Nth cs i c) (p : Change → Bool) where
  -- where none has p, it has not
  pub nth-not : some p cs ≡ false → p c ≡ false
  nth-not e = first-not p c (drop (i + 1) cs) (rw a.left at (nowhere-drop p i cs e))

  -- a flag for what has p, and what is left, say what the whole list says
  pub nth-flag : {flag t u : Bool} → Flagged p cs i flag → t ≡ p c → u ≡ flag || t → Flagged p cs (i + 1) u
  unfolding some
  nth-flag {flag} f e v = record { says = rw (v, e, or_assoc flag (p c)) (rw a.left at f.says) }
