-- What `move_selection` answers, by what its tests find. Assumes nothing.
use Prim.Native.Nat.{ℕ, zero, suc, ◌+◌, ◌-◌, ◌≤◌, ◌<◌}
use mathlib.Core.Path.{◌≡◌, refl, sym, ap, ◌∙◌}
use mathlib.Core.Bool.{true, false, not}
use mathlib.Core.List.{List, [], ◌∷◌, ◌++◌, map}
use mathlib.Core.Option.{Option, none, some}
use native.Mathlib.Omega.{arith}
use native.Mathlib.Nat.{mul_comm, mul-le-mul_right}
use borrow.Author.Tests.{lt-ltb, le-ltb, ltb-false, leb-true, eq-eqb, ne_eqb, not-false}
use lib.Dec.{ltb, leb, eqb}
use lib.IntN.{ℤ, pos, negsuc}
use lib.ListN.{length, take}
use lib.Signed.{mag}
use mir.Syntax.{w32}
use mir.Val.{of_z, SFits}
use Rattle.base.specs.Numbers.{bad_sheet, off_the_sheet, too_far, no_space}
use Rattle.base.specs.Checks.{◌when◌, first_of, refused_or}
use Rattle.base.specs.Answer.{Told, leaving}
use Rattle.base.specs.Answer.Told.{result, alone}
use Rattle.base.proofs.Told.{alone-other, same_number}
use Rattle.base.proofs.First.{first_past, first-here, past, past-both}
use Rattle.base.proofs.Bools.{and_left, and_right}
use Rattle.base.specs.Ints.{eq_z}
use Rattle.sheet.specs.Sheet.{Sheet}
use Rattle.sheet.specs.Checks.{sheet_checks, WellFormed, Judged}
use Rattle.sheet.proofs.Judging.{none-applied, past-sheet}
use Rattle.selection.specs.declared.Selection.{Selection}
use Rattle.selection.specs.declared.Chosen.{Chosen}
use Rattle.selection.specs.declared.Chosen.TheVariants as chosen
use Rattle.selection.specs.Selection.{inside, translated}
use Rattle.selection.specs.Calls.{Shift, chosen_told, too_large, far_away, shift_checks, translated_of}
use Rattle.selection.proofs.Checks.{near}
use Rattle.edit.specs.Change.{packed}
use Rattle.change_list.specs.Fronts.{Front}
use Rattle.change_list.specs.Listed.{handed}
use Rattle.change_normal.specs.Normal.{normalize_of}
use Rattle.tool_paste_model.specs.Pasting.{putting, shifted_of}
use Rattle.tool_paste_model.proofs.Answers.{leaves-refused, leaves-done}
use Rattle.tool_paste_model.specs.Moves.{Movable, unmoved, move_changes, moved_list, moved_selection, move_checks, move_call}

-- ---- shift 0
zero_bits : (z : ℤ) → mag z < 2147483648 → eqb (of_z w32 z) 0 ≡ eq_z z (pos 0)
unfolding eq_z
zero_bits (pos n) h = refl
zero_bits (negsuc n) h = ne_eqb (4294967296 - suc n) 0 (λ e. omega arith)

module _ {dx dy : ℤ} (f : SFits w32 dx) (g : SFits w32 dy) where
  pub unmoved-both : of_z w32 dx ≡ 0 → eqb (of_z w32 dy) 0 ≡ unmoved dx dy
  unfolding unmoved
  unmoved-both e = rw (← zero_bits dx f.sfits, eq-eqb _ _ e) (zero_bits dy g.sfits)

  pub unmoved-not : (of_z w32 dx ≡ 0 → ⊥) → eqb (of_z w32 dx) 0 ≡ unmoved dx dy
  unfolding unmoved
  unmoved-not e = rw (← zero_bits dx f.sfits, ne_eqb _ _ e)

-- ---- the first check of a shift, from what `translated` answers
module _ (s : Selection) (dx dy : ℤ) (w h : ℕ) where
  pub shift-part : {t : Selection} {c : Chosen} → c ≡ chosen.Part t → chosen_told c ≡ translated_of s dx dy w h → 0 ≡ first_of (shift_checks s dx dy w h)
  unfolding translated_of refused_or
  shift-part {t} p q = go (first_of (shift_checks s dx dy w h)) (sym q ∙ ap chosen_told p)
    where
      go : (n : ℕ) → refused_or n alone (result (translated s dx dy w h)) ≡ result (some t) → 0 ≡ n
      go zero e = refl
      go (suc n) e = absurd (alone-other e)

  pub shift-nothing : {c : Chosen} → c ≡ chosen.Nothing → chosen_told c ≡ translated_of s dx dy w h → 0 ≡ first_of (shift_checks s dx dy w h)
  unfolding translated_of refused_or
  shift-nothing p q = go (first_of (shift_checks s dx dy w h)) (sym q ∙ ap chosen_told p)
    where
      go : (n : ℕ) → refused_or n alone (result (translated s dx dy w h)) ≡ result none → 0 ≡ n
      go zero e = refl
      go (suc n) e = absurd (alone-other e)

  pub shift-refused : {m : ℕ} {c : Chosen} → c ≡ chosen.Refused m → chosen_told c ≡ translated_of s dx dy w h → m ≡ first_of (shift_checks s dx dy w h)
  unfolding translated_of refused_or
  shift-refused {m} p q = go (first_of (shift_checks s dx dy w h)) (sym q ∙ ap chosen_told p)
    where
      go : (n : ℕ) → refused_or n alone (result (translated s dx dy w h)) ≡ alone m → m ≡ n
      go zero e = absurd (alone-other (sym e))
      go (suc n) e = sym (same_number e)

  -- what it means that none applies
  pub record Shiftable : Type 0 where
    pub across : far_away dx dy ≡ false
    pub within : inside s w h ≡ true

  pub shift-fine : first_of (shift_checks s dx dy w h) ≡ 0 → Shiftable
  unfolding shift_checks
  shift-fine e =
      let a = past (bad_sheet when too_large w h) _ (omega arith) e in
      let b = past (too_far when far_away dx dy) _ (omega arith) a.rest in
      let c = past (off_the_sheet when not (inside s w h)) _ (omega arith) b.rest in
      record { across = b.off; within = not-false (inside s w h) c.off }

  -- the selection afterwards
  pub selection-still : unmoved dx dy ≡ true → result (some s) ≡ result (moved_selection s dx dy w h)
  unfolding moved_selection
  selection-still e = rw e

  pub selection-moved : {c : Told (Option Selection)} → unmoved dx dy ≡ false → first_of (shift_checks s dx dy w h) ≡ 0 → c ≡ translated_of s dx dy w h → c ≡ result (moved_selection s dx dy w h)
  unfolding moved_selection translated_of refused_or
  selection-moved e z q = rw e (rw z at q)

-- ---- the list, and none where the shift is 0
module _ (w h : ℕ) (l : List ℤ) (s : Selection) (dx dy : ℤ) where
  pub list-still : (buffer : List ℕ) → unmoved dx dy ≡ true → Front (map packed (moved_list w h l s dx dy)) buffer 0
  unfolding moved_list
  list-still buffer e = rw e record { front = refl; count = refl }

  pub list-shifted : {buffer : List ℕ} {r : ℕ} → unmoved dx dy ≡ false → Front (map packed (normalize_of (move_changes w h l s dx dy))) buffer r
      → Front (map packed (moved_list w h l s dx dy)) buffer r
  unfolding moved_list
  list-shifted e f = rw e f

-- ---- the first check of a move
module _ (t : Sheet) (s : Selection) (dx dy : ℤ) (room : ℕ) where
  pub move-sheet : {n : ℕ} → Judged t n → (n ≡ 0 → ⊥) → n ≡ first_of (move_checks t s dx dy room)
  unfolding move_checks
  move-sheet {n} j z = first-here (sheet_checks [] t) _ n j.value z

  module _ (f : WellFormed t) where
    pub move-shift : {n : ℕ} → n ≡ first_of (shift_checks s dx dy t.w t.h) → (n ≡ 0 → ⊥) → n ≡ first_of (move_checks t s dx dy room)
    unfolding move_checks
    move-shift {n} e z = first-here (shift_checks s dx dy t.w t.h) _ n e z ∙ sym (past-sheet t f _)

    module _ (e : first_of (shift_checks s dx dy t.w t.h) ≡ 0) where
      pub move-short : room < length t.indices → 16 ≡ first_of (move_checks t s dx dy room)
      unfolding move_checks first_of
      move-short k = rw (past-sheet t f _, first_past (shift_checks s dx dy t.w t.h) _ e, lt-ltb _ _ k)

      pub move-none : length t.indices ≤ room → 0 ≡ first_of (move_checks t s dx dy room)
      unfolding move_checks first_of
      move-none k = rw (past-sheet t f _, first_past (shift_checks s dx dy t.w t.h) _ e, le-ltb _ _ k)

  -- what it means that none applies
  module _ (e : first_of (move_checks t s dx dy room) ≡ 0) where
    parts : (first_of (sheet_checks [] t) ≡ 0) × (first_of (shift_checks s dx dy t.w t.h) ≡ 0) × (length t.indices ≤ room)
    unfolding move_checks
    parts =
        let a = past-both (sheet_checks [] t) (shift_checks s dx dy t.w t.h ++ (no_space when ltb room (length t.indices) ∷ [])) e in
        let b = past-both (shift_checks s dx dy t.w t.h) (no_space when ltb room (length t.indices) ∷ []) a.right in
        let c = past (no_space when ltb room (length t.indices)) [] (omega arith) b.right in
        (a.left, b.left, ltb-false _ _ c.off)

    pub move-shiftable : first_of (shift_checks s dx dy t.w t.h) ≡ 0
    move-shiftable = parts.1

    pub move-movable : Movable t.w t.h t.indices s dx dy room
    unfolding inside
    move-movable =
        let f = (none-applied t parts.0).limits in
        let g = shift-fine s dx dy t.w t.h parts.1 in
        let n = near g.across in
        let right = leb-true _ _ (and_left (leb (s.x + s.w) t.w) (leb (s.y + s.h) t.h) g.within) in
        let below = leb-true _ _ (and_right (leb (s.x + s.w) t.w) (leb (s.y + s.h) t.h) g.within) in
        let r = parts.2 in
        let hs = f.h-small in
        let il = f.indices-length in
        record {
          size = f.indices-length;
          below = below;
          lands = record {
            wide = f.w-small;
            high = f.h-small;
            source-wide = f.w-small;
            right = right;
            bottom = omega arith;
            below = omega (arith, mul-le-mul_right t.w below, mul_comm t.h t.w);
            across = n.across;
            down = n.down;
            roomy = omega arith;
          };
        }

-- ---- what the call leaves
module _ (t : Sheet) (s : Selection) (dx dy : ℤ) (room : ℕ) (out : List ℕ) where
  pub move-refused : {n : ℕ} → n ≡ first_of (move_checks t s dx dy room) → (n ≡ 0 → ⊥) → putting (alone n) out ≡ move_call t s dx dy room out
  unfolding move_call
  move-refused {n} e z = leaves-refused _ _ _ out n e z

  pub move-done : {a : Told ℕ} {c : Told (Option Selection)} {r : Told Shift} {buffer m : List ℕ} {n : ℕ} → first_of (move_checks t s dx dy room) ≡ 0
      → Front (map packed (moved_list t.w t.h t.indices s dx dy)) buffer n → leaving a m ≡ handed (take n buffer) out
      → c ≡ result (moved_selection s dx dy t.w t.h) → r ≡ shifted_of c a → putting r m ≡ move_call t s dx dy room out
  unfolding move_call
  move-done e f d p q = rw (q, p) (leaves-done _ _ _ out e f d)
