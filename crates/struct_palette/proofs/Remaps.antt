-- `remove_entry` and `merge_entries` with scratch: what they list, that it is no more than the sheet has pixels, and what they answer. Assumes nothing.
use mathlib.Core.Path.{◌≡◌, refl, sym, ap, ◌∙◌}
use mathlib.Core.Bool.{Bool}
use mathlib.Core.List.{List, ◌++◌, map}
use Prim.Native.Nat.{ℕ, ◌<◌, ◌≤◌, min}
use native.Mathlib.Omega.{arith}
use borrow.Author.Tests.{lt-ltb, le-ltb}
use lib.IntN.{ℤ, pos}
use lib.ListN.{length, take, drop, length-map}
use Rattle.base.specs.Checks.{Check, first_of}
use Rattle.base.specs.Lists.{over}
use Rattle.sheet.specs.Sheet.{Sheet}
use Rattle.base.specs.Triples.{rgb_at}
use Rattle.base.specs.declared.Edit.TheVariants.{PaletteRemove}
use Rattle.edit.specs.Change.{packed}
use Rattle.change_list.specs.Listed.{InScratch}
use Rattle.change_list.proofs.InScratch.{scratch-none, scratch-then}
use Rattle.edit_pixels.specs.Listing.{places_from}
use Rattle.edit_pixels.proofs.Places.{places-few}
use Rattle.base.specs.Answer.{Told, Op, op, replacement}
use Rattle.base.specs.Answer.Told.{result, alone}
use Rattle.edit_entries.specs.Unfilled.{no_lab}
use Rattle.palette_model.specs.Nearest.{removal_checks, substitute}
use Rattle.palette_model.specs.Removal.{remap_of, WithList, remapping, remove_to, remove_entry_of, merge_checks, merge_entries_of}
use Rattle.palette_model.proofs.RemoveAnswers.{remap-length, remove-refused, remove-past, remove-short, remove-done}
use Rattle.struct_palette.specs.Scratch.{no_removal, needing_remap}
use Rattle.struct_palette.proofs.Listing.{Lists, listed_in, none-same}

-- ---- a remap over a list: what a call hands back of it, and how many changes that counts
module _ {R : Type 0} (handed : Op → R) (count : Told R → ℕ) (count-alone : (n : ℕ) → count (alone n) ≡ 0) (count-made : (o : Op) → count (result (handed o)) ≡ o.count) where
  abbrev Listing : (List ℕ → WithList R) → List ℕ → ℕ → Told R → Type 0
  Listing call ns n done = Lists remapping (λ f. f.answer) (λ f. f.list) (λ r f. refl) (λ r f. refl) count alone count-alone call ns n done

  count_none : (a : Told R) → count (no_removal a) ≡ 0
  unfolding no_removal
  count_none (result o) = count-alone 16
  count_none (alone n) = count-alone n

  none-refused : (n : ℕ) → no_removal {R = R} (alone n) ≡ alone n
  unfolding no_removal
  none-refused n = refl

  module _ (checks : List Check) (w : ℕ) (palette : List ℕ) (l : List ℤ) (i target : ℕ) where
    abbrev ns : List ℕ
    ns = map packed (remap_of w l i target)

    long : length ns ≡ length (places_from (pos i) 0 l)
    long = length-map (remap_of w l i target) packed ∙ remap-length w l i target

    abbrev made : Op
    made = op (PaletteRemove i (rgb_at palette i) no_lab) (length (places_from (pos i) 0 l))

    listing : Listing (remove_to handed checks w palette l i target) ns (first_of checks) (result (handed made))
    listing = record {
      refuses = λ z out. remove-refused handed w palette l i target out checks (first_of checks) refl z;
      short = λ z out h. remove-short handed w palette l i target out (omega (arith, long)) ∙ remove-past handed w palette l i target out checks z;
      lists = λ z out h. remove-done handed w palette l i target out (length (places_from (pos i) 0 l)) (rgb_at palette i) no_lab (over ns out) refl (omega (arith, long)) refl refl refl ∙ remove-past handed w palette l i target out checks z;
      counts = count-made made ∙ sym long;
    }

    none_made : no_removal (result (handed made)) ≡ alone 16
    unfolding no_removal
    none_made = refl

    -- ---- with scratch
    module _ {call : List ℕ → WithList R} (is : call ≡ remove_to handed checks w palette l i target) (room : ℕ) where
      pub short-remap : {r r' : Told R} {f g s : List ℕ} {places : ℕ} → room < length l → remapping r f ≡ call g → r' ≡ no_removal r → InScratch (count r') places s (remapping r') (needing_remap room (length l) call)
      unfolding needing_remap
      short-remap {r} h d e =
          rw (e, count_none r)
          (scratch-none (λ out k. rw (lt-ltb room (length l) h, is)
          (ap (λ (a : Told R). remapping a out) (none-same remapping (λ f. f.answer) (λ f. f.list) (λ r f. refl) (λ r f. refl) count alone count-alone listing no_removal none-refused none_made (rw is at d) out))))

      pub remap-in : {r : Told R} {f : List ℕ} (s : List ℕ) (m places : ℕ) → length l ≤ room → room ≡ length s → m ≡ min places (length s) → remapping r f ≡ call (take m s)
          → InScratch (count r) places (f ++ drop m s) (remapping r) (needing_remap room (length l) call)
      unfolding needing_remap
      remap-in {r} {f} s m places h k q d =
          scratch-then (listed_in remapping (λ f. f.answer) (λ f. f.list) (λ r f. refl) (λ r f. refl) count alone count-alone listing s f r m places q
          (λ z. omega (arith, long, places-few (pos i) 0 l)) (rw is at d))
          (λ out after j p. rw (le-ltb room (length l) h, is) p)

pub remove-is : (s : Sheet) (locks : List Bool) (i : ℕ) → let into = substitute s.lab s.k i in remove_entry_of s locks i ≡ remove_to (λ made. replacement made into) (removal_checks s locks i) s.w s.palette s.indices i into.index
unfolding remove_entry_of
remove-is s locks i = refl

pub merge-is : (s : Sheet) (locks : List Bool) (from into : ℕ) → merge_entries_of s locks from into ≡ remove_to (λ made. made) (merge_checks s locks from into) s.w s.palette s.indices from into
unfolding merge_entries_of
merge-is s locks from into = refl
