-- What the calls that take an entry out answer, by what their tests find. Laws on the removal are over what a call hands back of it. Assumes nothing.
use mathlib.Core.Path.{◌≡◌, refl, sym, ap, subst, ◌∙◌}
use mathlib.Core.Bool.{Bool, true, false, or-true}
use mathlib.Core.List.{List, [], map}
use Prim.Native.Nat.{ℕ, zero, suc, ◌<◌, ◌≤◌}
use native.Mathlib.Omega.{arith}
use borrow.Author.Tests.{le-leb, lt-leb, le-ltb, lt-ltb, eq-eqb, ne_eqb}
use lib.IntN.{ℤ, pos}
use lib.ListN.{length, length-map}
use Rattle.base.specs.Checks.{Check, first_of, refused_or}
use Rattle.base.specs.declared.Rgb.{Rgb}
use Rattle.base.specs.declared.Lab.{Lab}
use Rattle.base.proofs.First.{first_past, first-here, refused-first, result-first}
use Rattle.base.specs.Lists.{over}
use Rattle.base.specs.Answer.{Told, Op, op, EntryAt, Replacement, replacement}
use Rattle.base.specs.Answer.Told.{result, alone}
use Rattle.base.proofs.Told.{alone-other, same-result}
use Rattle.base.specs.declared.Found.TheVariants as found
use Rattle.sheet.specs.Sheet.{Sheet}
use Rattle.sheet.specs.Checks.{mark_checks, sheet_checks, MarkedJudged}
use Rattle.base.specs.Triples.{rgb_at}
use Rattle.sheet.proofs.Marks.{past-marked}
use Rattle.base.specs.declared.Edit.TheVariants.{PaletteRemove}
use Rattle.edit.specs.Change.{packed}
use Rattle.edit.specs.Locks.{lock_at}
use Rattle.edit_pixels.specs.Listing.{places_from}
use Rattle.edit_entries.specs.Unfilled.{no_lab}
use Rattle.color_nearest.specs.declared.Near.{Near}
use Rattle.palette_model.specs.Nearest.{other_checks, Removable, FirstOther, Nearest}
use Rattle.palette_model.specs.RemoveNearest.{nearest_other_of, NearestOther}
use Rattle.palette_model.specs.Removal.{moved, remap_of, Remapped, Replaced, remapping, with_target, remove_to, merge_checks}

-- ---- `nearest_other`
module _ (s : Sheet) (i : ℕ) where
  pub near-refused : (n : ℕ) → Removable (other_checks s i) s i n → (n ≡ 0 → ⊥) → NearestOther s i (found.Refused n)
  unfolding nearest_other_of
  near-refused n r h = record { value = refused-first (other_checks s i) alone _ n r.value h; first = λ j e. absurd (alone-other e) }

  pub near-found : (n : ℕ) → Removable (other_checks s i) s i n → n ≡ 0 → (r : Near) → Nearest s.lab s.k i r → NearestOther s i (found.Entry r.entry r.distance)
  unfolding nearest_other_of
  near-found n r z m f =
      record {
        value = ap result f.value ∙ result-first (other_checks s i) alone _ (sym r.value ∙ z);
        first = λ e h. subst (λ (j : ℕ). FirstOther s.lab s.k i j) (ap (λ (x : EntryAt). x.index) (same-result h)) f.first;
      }

-- ---- the remap
pub remap-length : (w : ℕ) (l : List ℤ) (i target : ℕ) → length (remap_of w l i target) ≡ length (places_from (pos i) 0 l)
unfolding remap_of
remap-length w l i target = length-map (places_from (pos i) 0 l) (moved w i target)

module _ {R : Type 0} (handed : Op → R) (w : ℕ) (palette : List ℕ) (l : List ℤ) (i target : ℕ) (list : List ℕ) where
  -- a call's own checks before it
  pub remove-refused : (cs : List Check) (n : ℕ) → n ≡ first_of cs → (n ≡ 0 → ⊥) → remapping (alone n) list ≡ remove_to handed cs w palette l i target list
  unfolding remove_to
  remove-refused cs n e h = refused-first _ (λ m. remapping (alone m) list) _ n (first-here cs _ n e h) h

  pub remove-past : (cs : List Check) → first_of cs ≡ 0 → remove_to handed [] w palette l i target list ≡ remove_to handed cs w palette l i target list
  unfolding remove_to
  remove-past cs e = rw (first_past cs _ e)

  -- 16, or the list
  pub remove-short : length list < length (places_from (pos i) 0 l) → remapping (alone 16) list ≡ remove_to handed [] w palette l i target list
  unfolding remove_to first_of refused_or
  remove-short h = rw (remap-length w l i target, lt-ltb _ _ h)

  pub remove-done : (count : ℕ) (c : Rgb) (v : Lab) (list' : List ℕ) → count ≡ length (places_from (pos i) 0 l) → count ≤ length list
      → c ≡ rgb_at palette i → v ≡ no_lab → list' ≡ over (map packed (remap_of w l i target)) list
      → remapping (result (handed (op (PaletteRemove i c v) count))) list' ≡ remove_to handed [] w palette l i target list
  unfolding remove_to first_of refused_or
  remove-done count c v list' e h f g q = rw (remap-length w l i target, ← e, le-ltb _ _ h, f, g, q)

-- ---- `remove_entry`: the entry that the pixels move to, handed back with the removal
with_first : (into : EntryAt) (n : ℕ) (o : Op) (before after : List ℕ) → let f = refused_or n (λ m. remapping (alone m) before) (remapping (result o) after) in
    remapping (with_target into f.answer) f.list ≡ refused_or n (λ m. remapping (alone m) before) (remapping (result (replacement o into)) after)
unfolding refused_or with_target
with_first into zero o before after = refl
with_first into (suc n) o before after = refl

module _ (into : EntryAt) (w : ℕ) (palette : List ℕ) (l : List ℤ) (i target : ℕ) (list : List ℕ) where
  abbrev made : Remapped
  made = remove_to (λ o. o) [] w palette l i target list

  abbrev wanted : Replaced
  wanted = remove_to (λ o. replacement o into) [] w palette l i target list

  made-with : remapping (with_target into made.answer) made.list ≡ wanted
  unfolding remove_to
  made-with = with_first into _ _ _ _

  pub remove-with : (a : Told Op) (b : Told Replacement) (list' : List ℕ) → remapping a list' ≡ made → b ≡ with_target into a → remapping b list' ≡ wanted
  remove-with a b list' h e = rw e (ap (λ (f : Remapped). remapping (with_target into f.answer) f.list) h ∙ made-with)

-- ---- `merge_entries`
module _ (s : Sheet) (locks : List Bool) (from into n : ℕ) (j : MarkedJudged s locks n) where
  pub merge-sheet : (n ≡ 0 → ⊥) → n ≡ first_of (merge_checks s locks from into)
  unfolding merge_checks
  merge-sheet h = first-here (sheet_checks (mark_checks locks) s) _ n j.value h

  module _ (z : n ≡ 0) where
    pub merge-from : s.k ≤ from → 18 ≡ first_of (merge_checks s locks from into)
    unfolding merge_checks first_of
    merge-from h = rw (past-marked s locks n j z, le-leb _ _ h)

    pub merge_into : s.k ≤ into → 18 ≡ first_of (merge_checks s locks from into)
    unfolding merge_checks first_of
    merge_into h = rw (past-marked s locks n j z, le-leb _ _ h, or-true)

    pub merge-same : from ≡ into → 18 ≡ first_of (merge_checks s locks from into)
    unfolding merge_checks first_of
    merge-same h = rw (past-marked s locks n j z, eq-eqb _ _ h, or-true, or-true)

    module _ (a : from < s.k) (b : into < s.k) (ne : from ≡ into → ⊥) where
      pub merge-locked : lock_at locks from ≡ true → 24 ≡ first_of (merge_checks s locks from into)
      unfolding merge_checks first_of
      merge-locked e = rw (past-marked s locks n j z, lt-leb _ _ a, lt-leb _ _ b, ne_eqb _ _ ne, e)

      pub merge-fine : lock_at locks from ≡ false → first_of (merge_checks s locks from into) ≡ 0
      unfolding merge_checks first_of
      merge-fine e = rw (past-marked s locks n j z, lt-leb _ _ a, lt-leb _ _ b, ne_eqb _ _ ne, e)
