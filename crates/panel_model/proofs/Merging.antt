-- The list of a merge always has room for its changes, so what `merge_entries` answers is 18 or the edit. Assumes nothing.
use Prim.Native.Nat.{ℕ, zero, suc, ◌≤◌}
use mathlib.Core.Path.{◌≡◌, refl, sym, ap, ◌∙◌}
use mathlib.Core.Bool.{Bool, true, false}
use mathlib.Core.List.{List, [], ◌∷◌, ◌++◌, map}
use native.Mathlib.Omega.{arith}
use borrow.Author.Tests.{le-ltb}
use lib.Dec.{ltb}
use lib.IntN.{ℤ, pos}
use lib.ListN.{length, take, length-map}
use lib.Seq.{take_at}
use Rattle.base.specs.Numbers.{no_space}
use Rattle.base.specs.Checks.{Check, ◌when◌, first_of, refused_or}
use Rattle.base.proofs.First.{or-else-zero, first-append}
use Rattle.base.specs.Lists.{over}
use Rattle.base.proofs.Back.{never}
use Rattle.base.specs.Triples.{rgb_at}
use Rattle.base.specs.declared.Edit.{Edit}
use Rattle.base.specs.declared.Edit.TheVariants.{PaletteRemove}
use Rattle.edit.specs.Change.{Change, unpacked, packed}
use Rattle.base.specs.Answer.{Told, Op, op}
use Rattle.base.specs.Answer.Told.{result, alone}
use Rattle.base.proofs.Told.{same-result, same_number}
use Rattle.base.specs.declared.Form.{Form}
use Rattle.base.specs.declared.Handle.{Handle}
use Rattle.base.specs.declared.Removal.TheVariants.{Made, Refused}
use Rattle.color_curve.specs.Curve.{srgb}
use Rattle.edit_entries.specs.Unfilled.{no_lab}
use Rattle.edit_pixels.specs.Listing.{places_from}
use Rattle.edit_pixels.proofs.Places.{places-few}
use Rattle.palette_model.specs.Removal.{moved, remap_of, Remapped, remapped, remove_to, merge_checks, merge_entries_of}
use Rattle.history_ledger.specs.Calls.{Outcome, refused}
use Rattle.history_ledger.specs.Calls.Call.{push}
use Rattle.history_ledger.specs.Journal.{State, step, pushOf}
use Rattle.history_model.specs.Calls.{state_of}
use Rattle.history_model.specs.Document.{Document}
use Rattle.history_model.specs.Editing.{given_of, editing_by}
use Rattle.panel_model.specs.Acts.{given, mergedBy}

remap-few : (w i target : ℕ) (l : List ℤ) → length (remap_of w l i target) ≤ length l
unfolding remap_of
remap-few w i target l = rw (length-map (places_from (pos i) 0 l) (moved w i target)) (places-few (pos i) 0 l)

abbrev made : Told Op → Bool
made (result o) = true
made (alone n) = false

module _ (d : Document) (from into : ℕ) (list : List ℕ) (fits : length d.sheet.indices ≤ length list) where
  abbrev cs : List Check
  cs = merge_checks d.sheet d.locks from into

  abbrev remap : List Change
  remap = remap_of d.sheet.w d.sheet.indices from into

  abbrev entry : Edit
  entry = PaletteRemove from (rgb_at d.sheet.palette from) no_lab

  abbrev merging : Remapped
  merging = merge_entries_of d.sheet d.locks from into list

  space : Check
  space = no_space when ltb (length list) (length remap)

  remap-fits : length remap ≤ length list
  remap-fits = omega (arith, remap-few d.sheet.w from into d.sheet.indices, fits)

  no_more : first_of (cs ++ (space ∷ [])) ≡ first_of cs
  unfolding first_of space
  no_more = rw (first-append cs (space ∷ []), le-ltb (length list) (length remap) remap-fits) (or-else-zero (first_of cs))

  as-merge : merging
      ≡ refused_or (first_of cs) (λ n. remapped (Refused n) list) (remapped (Made entry (length remap)) (over (map packed remap) list))
  unfolding merge_entries_of remove_to space
  as-merge = rw no_more

  -- what is asked where no check applies, and where one does
  merged-made : first_of cs ≡ 0 → merging ≡ remapped (Made entry (length remap)) (over (map packed remap) list)
  unfolding refused_or
  merged-made z = as-merge ∙ rw z

  merged-refused : (v : ℕ) → first_of cs ≡ suc v → merging ≡ remapped (Refused (suc v)) list
  unfolding refused_or
  merged-refused v z = as-merge ∙ rw z

  front : take (length remap) (over (map packed remap) list) ≡ map packed remap
  unfolding over
  front = take_at (map packed remap) _ (length remap) (length-map remap packed)

  -- "18 comes first, then what the push of the merge answers"
  abbrev pushing : Form → ℕ → State Document → Outcome (State Document)
  pushing f room st = step (editing_by f srgb) room st (push (given_of false [] entry (map packed remap)))

  guards : (f : Form) (room : ℕ) (journal : List ℕ) (h : Handle)
      → let st = state_of d journal h in mergedBy f room st from into ≡ refused_or (first_of cs) (refused st) (pushing f room st)
  unfolding mergedBy
  guards f room journal h = refl

  -- ---- the edit
  module _ (e : Edit) (n : ℕ) (l : List ℕ) (q : remapped (Made e n) l ≡ merging) where
    -- no check applies, and the edit is the merge's, its list at the front
    pub record Merged : Type 0 where
      fine : first_of cs ≡ 0
      edit : e ≡ entry
      count : n ≡ length remap
      laid : l ≡ over (map packed remap) list

    merged : Merged
    merged = by (first_of cs) refl
      where
        by : (v : ℕ) → first_of cs ≡ v → Merged
        by zero z =
            let r : remapped (Made e n) l ≡ remapped (Made entry (length remap)) (over (map packed remap) list) = q ∙ merged-made z in
            let a : op e n ≡ op entry (length remap) = same-result (ap (λ (x : Remapped). x.answer) r) in
            record {
              fine = z;
              edit = ap (λ (o : Op). o.edit) a;
              count = ap (λ (o : Op). o.count) a;
              laid = ap (λ (x : Remapped). x.list) r;
            }
        by (suc v) z = never (sym (ap (λ (x : Remapped). made x.answer) (q ∙ merged-refused v z)))

    -- the list has room
    pub merge-room : length l ≡ length list → n ≤ length l
    merge-room s = omega (arith, merged.count, remap-fits, s)

    pub merge-made : (f : Form) (room : ℕ) (journal : List ℕ) (h : Handle)
        → let st = state_of d journal h in
        pushOf (editing_by f srgb) room st (given e (map unpacked (take n l))) ≡ mergedBy f room st from into
    unfolding refused_or
    merge-made f room journal h =
        rw (merged.edit, merged.count, merged.laid, front) (sym (guards f room journal h ∙ rw merged.fine))

  -- ---- a number
  pub merge-refused : (n : ℕ) (l : List ℕ) → remapped (Refused n) l ≡ merging → (f : Form) (room : ℕ) (journal : List ℕ) (h : Handle)
      → refused (state_of d journal h) n ≡ mergedBy f room (state_of d journal h) from into
  unfolding refused_or
  merge-refused n l q f room journal h = by (first_of cs) refl
    where
      by : (v : ℕ) → first_of cs ≡ v → refused (state_of d journal h) n ≡ mergedBy f room (state_of d journal h) from into
      by zero z = never (ap (λ (x : Remapped). made x.answer) (q ∙ merged-made z))
      by (suc v) z =
          let n-is : n ≡ suc v = same_number (ap (λ (x : Remapped). x.answer) (q ∙ merged-refused v z)) in
          sym (guards f room journal h ∙ rw (z, n-is))
