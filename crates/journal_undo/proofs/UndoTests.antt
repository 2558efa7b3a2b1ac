-- On a well-formed sheet the tests of a kind are `undoable`: the sheet that undo leaves passes 1 to 3 exactly then. Assumes nothing.
use mathlib.Core.Path.{◌≡◌, refl, sym, ap, ◌∙◌}
use mathlib.Core.Bool.{Bool, true, false, not, cond, beq, ◌&&◌, ◌||◌, and-true, and_comm, or_assoc, or-false}
use mathlib.Core.List.{List, [], ◌∷◌, ◌++◌, map}
use Prim.Native.Nat.{ℕ, zero, suc, ◌+◌, ◌*◌, ◌<◌, ◌≤◌}
use native.Mathlib.Omega.{arith}
use borrow.Author.Tests.{ltb-true, ltb-false, leb-true, leb-false, lt-leb}
use lib.Dec.{ltb, leb, eqb}
use lib.IntN.{ℤ, pos, negsuc, suc_ℤ}
use lib.Ieee.{Float}
use lib.ListN.{length, take, drop, length-map}
use Rattle.base.specs.Checks.{first_of}
use Rattle.base.specs.declared.Rgb.{Rgb}
use Rattle.base.specs.declared.Lab.{Lab}
use Rattle.base.specs.Lists.{some}
use Rattle.base.proofs.Nowhere.{nowhere-take, nowhere-drop, nowhere-weaker, some-map}
use Rattle.color_doubles.specs.Finite.{unfit, unfit_triple}
use Rattle.sheet.specs.Sheet.{Sheet, sheet_of, stray}
use Rattle.sheet.specs.Checks.{sheet_checks, Limits, WellFormed}
use Rattle.sheet.proofs.Judging.{limited-bad, judged-limits, judged-index, judged-lab, judged-fine}
use Rattle.base.specs.declared.Edit.TheVariants.{Pixels, PaletteSet, PaletteRemove, PaletteLock}
use Rattle.edit.specs.Change.{Change, outside, painted, old_of}
use Rattle.edit.specs.Storage.{bytes_of, numbers_of, stored, stored_by, reinserted, reinserted_by, raised}
use Rattle.edit.specs.Apply.{reverted, can_revert}
use Rattle.edit.specs.Locks.{lock_at, bears}
use Rattle.edit.proofs.Painting.{painted-length}
use Rattle.edit.proofs.Storage.{opened-shows}
use Rattle.edit.proofs.Entries.{palette-store, lab-store, set-length, set-shows, reinsert-length}
use Rattle.edit.proofs.Fits.{same-limits, more-in-range}
use Rattle.journal_read.specs.Sound.{undoable}
use Rattle.journal_olds.proofs.Fresh.{painted-alike}
use Rattle.journal_undo.specs.UndoTests.{pixels_back, set_back, remove_back, lock_back}

-- ---- the sheet that is left, by 1 to 3
sound : (t : Sheet) → Limits t → (a b : Bool) → some (stray t.k) t.indices ≡ a → some unfit (take (3 * t.k) t.lab) ≡ b
    → eqb (first_of (sheet_checks [] t)) 0 ≡ not a && not b
sound t l true b p q = rw (← (judged-index t l p).value)
sound t l false true p q = rw (← (judged-lab t l p q).value)
sound t l false false p q = rw (← (judged-fine t (record { limits = l; in-range = p; fit = q })).value)

unsound : (t : Sheet) → (Limits t → ⊥) → eqb (first_of (sheet_checks [] t)) 0 ≡ false
unsound t h = rw (← (judged-limits t 1 (limited-bad t h) (λ e. omega arith)).value)

-- ---- an entry among numbers that have no p
module _ {A : Type 0} (p : A → Bool) where
  some-append : (k l : List A) → some p (k ++ l) ≡ some p k || some p l
  unfolding some
  some-append [] l = refl
  some-append (x ∷ k) l = rw (some-append k l) (sym (or_assoc (p x) (some p k) (some p l)))

  some-between : (k v l : List A) → some p k ≡ false → some p l ≡ false → some p (k ++ (v ++ l)) ≡ some p v
  some-between k v l a b = rw (some-append k (v ++ l), a, some-append v l, b) (or-false (some p v))

three-unfit : (x : Lab) → some unfit (numbers_of x) ≡ unfit_triple x
unfolding some unfit_triple
three-unfit x = rw (or-false (unfit x.b), or_assoc (unfit x.l) (unfit x.a) (unfit x.b))

-- ---- an index raised
raised-in-range : (i k : ℕ) (z : ℤ) → stray k z ≡ false → stray (suc k) (raised i z) ≡ false
unfolding stray raised
raised-in-range i k (negsuc zero) e = refl
raised-in-range i k (negsuc (suc n)) e = e
raised-in-range i k (pos n) e = go (leb i n)
  where
    less : n < k
    less = leb-false k n e

    go : (t : Bool) → stray (suc k) (cond t (suc_ℤ (pos n)) (pos n)) ≡ false
    go true = lt-leb (suc k) (suc n) (omega (arith, less))
    go false = lt-leb (suc k) n (omega (arith, less))

raised-fit : (i k : ℕ) (l : List ℤ) → some (stray k) l ≡ false → some (stray (suc k)) (map (raised i) l) ≡ false
raised-fit i k l a = some-map (raised i) (stray (suc k)) l ∙ nowhere-weaker (stray k) _ (raised-in-range i k) l a

-- ---- the kinds but for an add
module _ (s : Sheet) (f : WellFormed s) (locks : List Bool) where
  pub undo-pixels : (tool : ℕ) (cs : List Change) → undoable s locks (Pixels tool) cs ≡ pixels_back s.w s.h s.k s.indices cs
  unfolding undoable can_revert bears reverted pixels_back
  undo-pixels tool cs =
      let l : List ℤ = painted old_of s.w cs s.indices in
      let fits = same-limits f.limits s.k s.palette s.lab l f.limits.k-small f.limits.palette-length f.limits.lab-length (painted-length old_of s.w cs s.indices) in
      rw (sound (sheet_of s.w s.h s.k s.palette s.lab l) fits (some (stray s.k) l) false refl f.fit, and-true (not (some (stray s.k) l)))

  pub undo-set : (i : ℕ) (old new : Rgb) (x : Lab) (cs : List Change) → undoable s locks (PaletteSet i old new x) cs ≡ set_back s.k i x
  unfolding undoable can_revert bears reverted set_back stored_by
  undo-set i old new x cs = go (ltb i s.k) refl
    where
      t : Sheet
      t = sheet_of s.w s.h s.k (stored (3 * i) (bytes_of old) s.palette) (stored (3 * i) (numbers_of x) s.lab) s.indices

      fits : i < s.k → Limits t
      fits b =
          same-limits f.limits s.k _ _ s.indices f.limits.k-small (set-length (palette-store f) i (bytes_of old) refl b)
          (set-length (lab-store f) i (numbers_of x) refl b) refl

      numbers : i < s.k → some unfit (take (3 * s.k) t.lab) ≡ unfit_triple x
      numbers b = let l : List Float = take (3 * s.k) s.lab in
          ap (some unfit) (set-shows (lab-store f) i (numbers_of x) refl b)
          ∙ some-between unfit (take (3 * i) l) (numbers_of x) (drop (3 * i + 3) l) (nowhere-take unfit (3 * i) l f.fit) (nowhere-drop unfit (3 * i + 3) l f.fit)
          ∙ three-unfit x

      go : (b : Bool) → ltb i s.k ≡ b → b && eqb (first_of (sheet_checks [] t)) 0 ≡ b && not (unfit_triple x)
      go false e = refl
      go true e = let b : i < s.k = ltb-true i s.k e in sound t (fits b) false (unfit_triple x) f.in-range (numbers b)

  pub undo-remove : (i : ℕ) (c : Rgb) (x : Lab) (cs : List Change) → undoable s locks (PaletteRemove i c x) cs ≡ remove_back s.w s.h s.k s.indices i x cs
  unfolding undoable can_revert bears reverted remove_back reinserted_by
  undo-remove i c x cs = go (leb i s.k) (ltb s.k 255) refl refl
    where
      l : List ℤ
      l = painted old_of s.w cs (map (raised i) s.indices)

      t : Sheet
      t = sheet_of s.w s.h (suc s.k) (reinserted (3 * i) (3 * s.k) (bytes_of c) s.palette) (reinserted (3 * i) (3 * s.k) (numbers_of x) s.lab) l

      fits : i ≤ s.k → s.k < 255 → Limits t
      fits b d =
          same-limits f.limits (suc s.k) _ _ l (omega arith) (reinsert-length (palette-store f) i (bytes_of c) refl b d)
          (reinsert-length (lab-store f) i (numbers_of x) refl b d) (painted-length old_of s.w cs (map (raised i) s.indices) ∙ length-map s.indices (raised i))

      numbers : i ≤ s.k → s.k < 255 → some unfit (take (3 * suc s.k) t.lab) ≡ unfit_triple x
      numbers b d = let m : List Float = take (3 * s.k) s.lab in
          let next : 3 * suc s.k ≡ 3 * s.k + 3 = omega arith in
          let long : length s.lab ≡ 765 = f.limits.lab-length in
          ap (λ (n : ℕ). some unfit (take n t.lab)) next
          ∙ ap (some unfit) (opened-shows 3 (3 * i) (3 * s.k) (numbers_of x) s.lab refl (omega arith) (omega arith))
          ∙ some-between unfit (take (3 * i) m) (numbers_of x) (drop (3 * i) m) (nowhere-take unfit (3 * i) m f.fit) (nowhere-drop unfit (3 * i) m f.fit)
          ∙ three-unfit x

      strays : some (stray (suc s.k)) l ≡ some (stray (suc s.k)) (painted old_of s.w cs s.indices)
      strays =
          painted-alike (stray (suc s.k)) old_of s.w cs (map (raised i) s.indices) s.indices (length-map s.indices (raised i))
          (raised-fit i s.k s.indices f.in-range) (nowhere-weaker (stray s.k) (stray (suc s.k)) (more-in-range s.k) s.indices f.in-range)

      off : Bool
      off = some (outside s.w s.h) cs

      bad : Bool
      bad = some (stray (suc s.k)) (painted old_of s.w cs s.indices)

      go : (a b : Bool) → leb i s.k ≡ a → ltb s.k 255 ≡ b
          → (a && not off) && eqb (first_of (sheet_checks [] t)) 0 ≡ a && (not off && (b && (not (unfit_triple x) && not bad)))
      go false b p q = refl
      go true true p q =
          let d : i ≤ s.k = leb-true i s.k p in
          let e : s.k < 255 = ltb-true s.k 255 q in
          rw (sound t (fits d e) bad (unfit_triple x) strays (numbers d e), and_comm (not bad) (not (unfit_triple x)))
      go true false p q = rw (unsound t (λ z. let a = z.k-small in omega (arith, ltb-false s.k 255 q)))

  -- a lock leaves the sheet as it was
  pub undo-lock : (i : ℕ) (old new : Bool) (cs : List Change) → undoable s locks (PaletteLock i old new) cs ≡ lock_back s.k locks i new
  unfolding undoable can_revert bears reverted lock_back
  undo-lock i old new cs = rw (sound s f.limits false false f.in-range f.fit, and-true (beq (lock_at locks i) new))
