-- What the loops over structs leave after all changes, in the core's words: the first check that applies, the places of a removal marked, and the list painted.
-- Assumes nothing.
use mathlib.Core.Path.{◌≡◌, refl, sym, ap, ◌∙◌}
use mathlib.Core.Bool.{Bool}
use mathlib.Core.List.{List, [], ◌∷◌, ◌++◌, flat_map}
use Prim.Native.Nat.{ℕ, zero, suc, ◌+◌, ◌*◌, ◌<◌, ◌≤◌}
use native.Mathlib.Numerals.{add-one}
use native.Mathlib.Omega.{arith}
use lib.IntN.{ℤ}
use lib.ListN.{length, get_or, set, take, replicate}
use lib.Seq.{take-suc, take_all, take-set-lt, length-take-le}
use Rattle.base.specs.Checks.{Check, or_else, first_of}
use Rattle.base.proofs.First.{or-else-assoc, or-else-zero, first-append}
use Rattle.base.proofs.Collect.{flat_map-append, flat_map-one}
use Rattle.sheet.specs.Sheet.{Sheet}
use Rattle.edit.specs.declared.ListKind.{ListKind}
use Rattle.edit.specs.declared.ListKind.TheVariants.{NoList, PixelList, RemapList}
use Rattle.edit.specs.Change as flat
use Rattle.edit.specs.Change.{place, painted, new_of}
use Rattle.edit.specs.List.{painted_list}
use Rattle.edit.specs.Checks.{change_checks}
use Rattle.edit_pixels.specs.Inside.{bare}
use Rattle.edit_checks.specs.Marks.{Markable, ClearFor, MarksFor}
use Rattle.edit_remap.proofs.Marking.{Marking, marking-none, marking-next, marking-all, move-inside}
use Rattle.base.specs.declared.Change.{Change}
use Rattle.struct_edit.specs.Walk.{flat_of, flat_all, none, walked_of, check_upto, mark_one, mark_upto, paint_upto}
use Rattle.struct_edit.proofs.Checking.{or-zero, first-zero}
use Rattle.struct_edit.proofs.Told.{told-length, told_at, told-nth}

-- the first i changes and the next one are the first i + 1
take-told : (list : List Change) (i : ℕ) → i < length list → take (suc i) (flat_all list) ≡ take i (flat_all list) ++ (flat_of (get_or list i none) ∷ [])
take-told list i h = take-suc (flat_all list) i (flat_of none) (rw (told-length list) h) ∙ ap (λ (c : flat.Change). take i (flat_all list) ++ (c ∷ [])) (told_at list i (flat_of none) h)

all_told : (list : List Change) → take (length list) (flat_all list) ≡ flat_all list
all_told list = take_all (length list) (flat_all list) (omega (arith, told-length list))

-- ---- checked
module _ (n : ℕ) (replay : Bool) (s : Sheet) (l : ListKind) (list : List Change) where
  abbrev each : flat.Change → List Check
  each = change_checks replay s l

  checked-upto : (i : ℕ) → i ≤ length list → check_upto n replay s l list i ≡ or_else n (first_of (flat_map each (take i (flat_all list))))
  unfolding flat_map first_of
  checked-upto zero h = sym (or-else-zero n)
  checked-upto (suc i) h =
      let c : flat.Change = flat_of (get_or list i none) in
      let before : List Check = flat_map each (take i (flat_all list)) in
      ap (λ (m : ℕ). or_else m (first_of (each c))) (checked-upto i (omega arith))
      ∙ sym (or-else-assoc n (first_of before) (first_of (each c)))
      ∙ ap (or_else n) (sym (first-append before (each c)) ∙ rw (take-told list i h, flat_map-append, flat_map-one))

  pub checked-all : check_upto n replay s l list (length list) ≡ or_else n (first_of (flat_map each (flat_all list)))
  checked-all = checked-upto (length list) (omega arith) ∙ rw (all_told list)

-- ---- marked: a removal whose list passes
module _ (replay : Bool) (s : Sheet) (j : ℕ) (list : List Change) (marks : List ℕ) (m : ℕ) (size : m ≡ s.w * s.h) (long : m ≤ length marks) (clear : take m marks ≡ replicate m 0) where
  abbrev removal : ListKind
  removal = RemapList j

  marking-upto : (i : ℕ) → i ≤ length list → check_upto 0 replay s removal list i ≡ 0 → Marking s.w (flat_all list) m i (take m (mark_upto 0 replay s removal list marks i))
  unfolding mark_one change_checks
  marking-upto zero h z = rw (length-take-le m marks long) at (marking-none s.w (flat_all list) m clear)
  marking-upto (suc i) h z =
      let c : flat.Change = flat_of (get_or list i none) in
      let before : List ℕ = mark_upto 0 replay s removal list marks i in
      let z₀ : check_upto 0 replay s removal list i ≡ 0 = or-zero _ _ z in
      let stands : place s.w c < m = move-inside s j m c size (rw z₀ at z) in
      let next : Marking s.w (flat_all list) m (i + 1) (set (take m before) (place s.w c) 1) = marking-next (marking-upto i (omega arith) z₀) (told-nth list i h) stands in
      rw (z, take-set-lt m before (place s.w c) 1 stands, ← add-one i) next

pub marked_all : (n : ℕ) (replay : Bool) (s : Sheet) (l : ListKind) (list : List Change) (marks : List ℕ) (m : ℕ) → m ≡ s.w * s.h → Markable l m (length marks) → ClearFor l m marks
    → check_upto n replay s l list (length list) ≡ 0 → MarksFor l s.w m (flat_all list) (mark_upto n replay s l list marks (length list))
unfolding Markable ClearFor MarksFor
marked_all n replay s NoList list marks m size long clear z = tt
marked_all n replay s PixelList list marks m size long clear z = tt
marked_all n replay s (RemapList i) list marks m size long clear z =
    let none : n ≡ 0 = first-zero n replay s (RemapList i) list (length list) z in
    rw none (marking-all (marking-upto replay s i list marks m size long.1 clear (length list) (omega arith) (rw none at z)) (omega (arith, told-length list)))

-- ---- what `check_list` answers and leaves, of the list that an edit goes by
module _ (n : ℕ) (replay : Bool) (w h k : ℕ) (indices : List ℤ) (l kind : ListKind) (same : kind ≡ l) (list : List Change) (marks : List ℕ) (c : ℕ) (after : List ℕ)
    (said : (c ≡ check_upto n replay (bare w h k indices) kind list (length list)) × (after ≡ mark_upto n replay (bare w h k indices) kind list marks (length list))) where
  pub list-answer : c ≡ or_else n (first_of (flat_map (change_checks replay (bare w h k indices) l) (flat_all list)))
  list-answer = rw same at said.0 ∙ checked-all n replay (bare w h k indices) l list

  pub list-marks : (n ≡ 0 → Markable l (w * h) (length marks)) → c ≡ 0 → ClearFor l (w * h) marks → MarksFor l w (w * h) (flat_all list) after
  list-marks long z clear =
      let zero : check_upto n replay (bare w h k indices) l list (length list) ≡ 0 = sym (rw same at said.0) ∙ z in
      rw (rw same at said.1)
      (marked_all n replay (bare w h k indices) l list marks (w * h) refl (long (first-zero n replay (bare w h k indices) l list (length list) zero)) clear zero)

-- ---- painted
painted-then : (w : ℕ) (xs ys : List flat.Change) (l : List ℤ) → painted new_of w (xs ++ ys) l ≡ painted new_of w ys (painted new_of w xs l)
unfolding painted
painted-then w [] ys l = refl
painted-then w (c ∷ xs) ys l = painted-then w xs ys (set l (place w c) (new_of c))

list-then : (l : ListKind) (w : ℕ) (xs ys : List flat.Change) (m : List ℤ) → painted_list l w (xs ++ ys) m ≡ painted_list l w ys (painted_list l w xs m)
unfolding painted_list
list-then NoList w xs ys m = refl
list-then PixelList w xs ys m = painted-then w xs ys m
list-then (RemapList i) w xs ys m = painted-then w xs ys m

none-painted : (l : ListKind) (w : ℕ) (m : List ℤ) → m ≡ painted_list l w [] m
unfolding painted_list painted
none-painted NoList w m = refl
none-painted PixelList w m = refl
none-painted (RemapList i) w m = refl

module _ (l : ListKind) (w : ℕ) (list : List Change) (m : List ℤ) where
  painted_upto : (i : ℕ) → i ≤ length list → paint_upto l w list m i ≡ painted_list l w (take i (flat_all list)) m
  painted_upto zero h = none-painted l w m
  painted_upto (suc i) h =
      let c : flat.Change = flat_of (get_or list i none) in
      ap (painted_list l w (c ∷ [])) (painted_upto i (omega arith)) ∙ sym (list-then l w (take i (flat_all list)) (c ∷ []) m)
      ∙ ap (λ (cs : List flat.Change). painted_list l w cs m) (sym (take-told list i h))

  pub painted-all : paint_upto l w list m (length list) ≡ painted_list l w (flat_all list) m
  painted-all = painted_upto (length list) (omega arith) ∙ ap (λ (cs : List flat.Change). painted_list l w cs m) (all_told list)

-- ---- how many are gone through
pub walked_all : (a n m : ℕ) → m ≡ walked_of a n → m ≤ n
walked_all zero n m q = omega (arith, q)
walked_all (suc a) n m q = omega (arith, q)

pub walked-zero : (a n m : ℕ) → m ≡ walked_of a n → 0 < m → a ≡ 0
walked-zero zero n m q h = refl
walked-zero (suc a) n m q h = absurd (omega (arith, q, h))
