-- A removal's indices: what was lowered is raised again, where nothing stands on the entry; and nothing does, since 12 moves each named pixel
-- off it and 13 leaves none unnamed. Assumes nothing.
use mathlib.Core.Path.{◌≡◌, refl, sym, ap, ◌∙◌}
use mathlib.Core.Logic.{◌⊎◌, inl, inr}
use mathlib.Core.Bool.{Bool, true, false, not, cond, ◌&&◌, true≢false}
use mathlib.Core.List.{List, [], ◌∷◌, map}
use Prim.Native.Nat.{ℕ, zero, suc, ◌+◌, ◌-◌, ◌<◌}
use native.Mathlib.Nat.{add-zero, zero-add}
use native.Mathlib.Omega.{arith}
use borrow.Author.Tests.{eqb-false, leb-false, ltb-true, ltb-false, le-leb, lt-leb}
use lib.Dec.{ltb}
use lib.IntN.{ℤ, pos, negsuc, pred_ℤ}
use lib.ListN.{length, get_or}
use Rattle.base.specs.Lists.{some}
use Rattle.base.proofs.Scan.{or_left, or_right}
use Rattle.base.specs.Ints.{eq_z}
use Rattle.sheet.specs.Sheet.{Sheet, stray}
use Rattle.edit.specs.Change.{Change, painted, new_of, old_of}
use Rattle.edit.specs.Checks.{named, left_from}
use Rattle.edit.specs.Storage.{lowered, raised}
use Rattle.base.proofs.Nowhere.{nowhere-of, nowhere-both, some-map, map-undone}
use Rattle.edit.proofs.Painting.{painted-length, painted-nowhere, painted-avoids, pixels-back}
use Rattle.edit.proofs.Passed.{RemoveFits}

-- on the entry
abbrev pub on : ℕ → ℤ → Bool
on i z = eq_z z (pos i)

-- ---- an index off the entry, lowered
module _ (i : ℕ) where
  raised-lowered : (z : ℤ) → on i z ≡ false → raised i (lowered i z) ≡ z
  unfolding eq_z lowered raised
  raised-lowered (negsuc n) e = refl
  raised-lowered (pos n) e = go (ltb i n) refl
    where
      up : (n : ℕ) → i < n → raised i (pred_ℤ (pos n)) ≡ pos n
      up zero b = absurd (omega arith)
      up (suc n) b = rw (le-leb i n (omega arith))

      go : (x : Bool) → ltb i n ≡ x → raised i (cond x (pred_ℤ (pos n)) (pos n)) ≡ pos n
      go true q = up n (ltb-true i n q)
      go false q = rw (lt-leb i n (omega (arith, ltb-false i n q, eqb-false n i e)))

  lowered-in-range : (k : ℕ) → i < k → (z : ℤ) → on i z ≡ false → stray k z ≡ false → stray (k - 1) (lowered i z) ≡ false
  unfolding eq_z lowered stray
  lowered-in-range k b (negsuc zero) e h = refl
  lowered-in-range k b (negsuc (suc n)) e h = h
  lowered-in-range k b (pos n) e h = go (ltb i n) refl
    where
      f : n < k
      f = leb-false k n h

      down : (n : ℕ) → i < n → n < k → stray (k - 1) (pred_ℤ (pos n)) ≡ false
      down zero b c = absurd (omega arith)
      down (suc n) b c = lt-leb (k - 1) n (omega arith)

      go : (x : Bool) → ltb i n ≡ x → stray (k - 1) (cond x (pred_ℤ (pos n)) (pos n)) ≡ false
      go true q = down n (ltb-true i n q) f
      go false q = lt-leb (k - 1) n (omega (arith, ltb-false i n q, eqb-false n i e))

  -- and a list of such
  pub lowered-back : (l : List ℤ) → some (on i) l ≡ false → map (raised i) (map (lowered i) l) ≡ l
  lowered-back l a = map-undone (lowered i) (on i) (raised i) raised-lowered l a

  pub lowered-fit : (k : ℕ) (l : List ℤ) → i < k → some (on i) l ≡ false → some (stray k) l ≡ false
      → some (stray (k - 1)) (map (lowered i) l) ≡ false
  lowered-fit k l b a h =
      some-map (lowered i) (stray (k - 1)) l ∙ nowhere-both (on i) (stray k) _ (lowered-in-range k b) l a h

-- ---- 13: each pixel of the entry is named
named-or-off : (w i : ℕ) (cs : List Change) (j : ℕ) (l : List ℤ) → left_from w i cs j l ≡ false
    → (n : ℕ) → n < length l → (named w cs (j + n) ≡ true) ⊎ (on i (get_or l n (pos 0)) ≡ false)
unfolding left_from
named-or-off w i cs j [] e n b = absurd (omega arith)
named-or-off w i cs j (z ∷ l) e zero b = rw (add-zero j) (go (on i z) (named w cs j) (or_left _ (left_from w i cs (suc j) l) e))
  where
    go : (a m : Bool) → (a && not m) ≡ false → (m ≡ true) ⊎ (a ≡ false)
    go false m q = inr refl
    go true true q = inl refl
    go true false q = absurd (true≢false q)
named-or-off w i cs j (z ∷ l) e (suc n) b =
    let s : suc j + n ≡ j + suc n = omega arith in
    rw (← s) (named-or-off w i cs (suc j) l (or_right (on i z && not (named w cs j)) _ e) n (omega arith))

module _ (s : Sheet) (i : ℕ) (cs : List Change) (f : RemoveFits s i cs) where
  -- the indices before they are lowered: the remap painted
  abbrev remapped : List ℤ
  remapped = painted new_of s.w cs s.indices

  none-on : some (on i) remapped ≡ false
  none-on =
      nowhere-of (on i) remapped (pos 0)
      (λ n b.
      let c : n < length s.indices = rw painted-length at b in
      painted-avoids new_of s.w (on i) cs s.indices n c f.remap.others
      (rw (zero-add n) at (named-or-off s.w i cs 0 s.indices f.none_left n c)))

  pub remove-in-range : some (stray s.k) s.indices ≡ false → some (stray (s.k - 1)) (map (lowered i) remapped) ≡ false
  remove-in-range a = lowered-fit i s.k remapped f.entry none-on (painted-nowhere new_of s.w (stray s.k) cs s.indices a f.remap.in-range)

  -- undo of a removal
  pub remove-back : painted old_of s.w cs (map (raised i) (map (lowered i) remapped)) ≡ s.indices
  remove-back =
      rw (lowered-back i remapped none-on)
      (ap (λ z. painted old_of s.w z remapped) (sym f.remap.filled) ∙ pixels-back s.w cs s.indices)
