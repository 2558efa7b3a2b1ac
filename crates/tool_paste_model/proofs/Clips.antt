-- What `paste` answers, by what its tests find. Assumes nothing.
use Prim.Native.Nat.{ℕ, ◌*◌, ◌≤◌, ◌<◌}
use mathlib.Core.Path.{◌≡◌, sym, ◌∙◌}
use mathlib.Core.Bool.{true, false, not}
use mathlib.Core.List.{List, [], map}
use mathlib.Core.Option.{Option}
use native.Mathlib.Omega.{arith}
use native.Mathlib.Nat.{mul_comm, zero-add, mul-le-mul_right}
use borrow.Author.Tests.{lt-ltb, le-ltb, ltb-false, eq-eqb, ne_eqb, eqb-true, not-false}
use lib.Dec.{ltb, eqb}
use lib.IntN.{ℤ}
use lib.ListN.{length, take}
use Rattle.base.specs.Limits.{max_side}
use Rattle.base.specs.Numbers.{too_far, no_space, bad_clip}
use Rattle.base.specs.Checks.{◌when◌, first_of}
use Rattle.base.specs.Answer.{Told, leaving}
use Rattle.base.specs.Answer.Told.{result, alone}
use Rattle.base.proofs.First.{first-here, past, past-both}
use Rattle.base.specs.Ints.{far}
use Rattle.sheet.specs.Sheet.{Sheet}
use Rattle.sheet.specs.Checks.{sheet_checks, WellFormed, Judged}
use Rattle.sheet.proofs.Judging.{none-applied, past-sheet}
use Rattle.selection.specs.declared.Selection.{Selection}
use Rattle.selection.specs.Calls.{Shift}
use Rattle.selection.specs.Selection.{all}
use Rattle.edit.specs.Change.{packed}
use Rattle.change_list.specs.Fronts.{Front}
use Rattle.change_list.specs.Listed.{handed}
use Rattle.change_normal.specs.Normal.{normalize_of}
use Rattle.tool_paste_model.specs.Pasting.{Pastable, paste_changes, pasted_selection, clip_checks, paste_checks, paste_call, putting, shifted_of}
use Rattle.tool_paste_model.proofs.Answers.{leaves-refused, leaves-done}

module _ (cw ch : ℕ) (clip : List ℤ) (x y : ℤ) (room pixels : ℕ) where
  pub clip-far : far x ≡ true → 15 ≡ first_of (clip_checks cw ch clip x y room pixels)
  unfolding clip_checks first_of
  clip-far a = rw a

  module _ (a : far x ≡ false) where
    pub clip-far-down : far y ≡ true → 15 ≡ first_of (clip_checks cw ch clip x y room pixels)
    unfolding clip_checks first_of
    clip-far-down b = rw (a, b)

    module _ (b : far y ≡ false) where
      pub clip-wide : 1024 < cw → 17 ≡ first_of (clip_checks cw ch clip x y room pixels)
      unfolding clip_checks first_of
      clip-wide c = rw (a, b, lt-ltb 1024 cw c)

      module _ (c : cw ≤ 1024) where
        pub clip-high : 1024 < ch → 17 ≡ first_of (clip_checks cw ch clip x y room pixels)
        unfolding clip_checks first_of
        clip-high d = rw (a, b, le-ltb 1024 cw c, lt-ltb 1024 ch d)

        module _ (d : ch ≤ 1024) where
          pub clip-odd : (length clip ≡ cw * ch → ⊥) → 17 ≡ first_of (clip_checks cw ch clip x y room pixels)
          unfolding clip_checks first_of
          clip-odd e = rw (a, b, le-ltb 1024 cw c, le-ltb 1024 ch d, ne_eqb _ _ e)

          module _ (e : length clip ≡ cw * ch) where
            pub clip-short : room < pixels → 16 ≡ first_of (clip_checks cw ch clip x y room pixels)
            unfolding clip_checks first_of
            clip-short f = rw (a, b, le-ltb 1024 cw c, le-ltb 1024 ch d, eq-eqb _ _ e, lt-ltb room pixels f)

            pub clip-none : pixels ≤ room → 0 ≡ first_of (clip_checks cw ch clip x y room pixels)
            unfolding clip_checks first_of
            clip-none f = rw (a, b, le-ltb 1024 cw c, le-ltb 1024 ch d, eq-eqb _ _ e, le-ltb room pixels f)

  -- what it means that none applies
  pub record Fit : Type 0 where
    pub across : far x ≡ false
    pub down : far y ≡ false
    pub wide : cw ≤ 1024
    pub high : ch ≤ 1024
    pub whole : length clip ≡ cw * ch
    pub roomy : pixels ≤ room

  pub clip-fine : first_of (clip_checks cw ch clip x y room pixels) ≡ 0 → Fit
  unfolding clip_checks
  clip-fine z =
      let a = past (too_far when far x) _ (omega arith) z in
      let b = past (too_far when far y) _ (omega arith) a.rest in
      let c = past (bad_clip when ltb max_side cw) _ (omega arith) b.rest in
      let d = past (bad_clip when ltb max_side ch) _ (omega arith) c.rest in
      let e = past (bad_clip when not (eqb (length clip) (cw * ch))) _ (omega arith) d.rest in
      let f = past (no_space when ltb room pixels) _ (omega arith) e.rest in
      record {
        across = a.off;
        down = b.off;
        wide = ltb-false max_side cw c.off;
        high = ltb-false max_side ch d.off;
        whole = eqb-true _ _ (not-false (eqb (length clip) (cw * ch)) e.off);
        roomy = ltb-false room pixels f.off;
      }

-- the sides of a clip do not wrap
pub sides-fit : {cw ch : ℕ} → cw ≤ 1024 → ch ≤ 1024 → cw * ch ≤ 1048576
sides-fit {cw} {ch} a b = omega (arith, mul-le-mul_right ch a)

module _ (t : Sheet) (cw ch : ℕ) (clip : List ℤ) (x y : ℤ) (room : ℕ) where
  pub paste-sheet : {n : ℕ} → Judged t n → (n ≡ 0 → ⊥) → n ≡ first_of (paste_checks t cw ch clip x y room)
  unfolding paste_checks
  paste-sheet {n} j z = first-here (sheet_checks [] t) _ n j.value z

  pub paste-clip : WellFormed t → {n : ℕ} → n ≡ first_of (clip_checks cw ch clip x y room (length t.indices)) → n ≡ first_of (paste_checks t cw ch clip x y room)
  unfolding paste_checks
  paste-clip f e = e ∙ sym (past-sheet t f _)

  module _ (e : first_of (paste_checks t cw ch clip x y room) ≡ 0) where
    sheet-fine : WellFormed t
    unfolding paste_checks
    sheet-fine = none-applied t (past-both (sheet_checks [] t) (clip_checks cw ch clip x y room (length t.indices)) e).left

    fit : Fit cw ch clip x y room (length t.indices)
    unfolding paste_checks
    fit = clip-fine cw ch clip x y room (length t.indices) (past-both (sheet_checks [] t) (clip_checks cw ch clip x y room (length t.indices)) e).right

    pub paste-pastable : Pastable t.w t.h t.indices cw ch x y (length clip) room
    unfolding all
    paste-pastable =
        let f = sheet-fine.limits in
        let g = fit in
        let r = g.roomy in
        let i = f.indices-length in
        let c = g.whole in
        let d = g.high in
        record {
          size = f.indices-length;
          small = g.high;
          lands = record {
            wide = f.w-small;
            high = f.h-small;
            source-wide = g.wide;
            right = omega arith;
            bottom = omega arith;
            below = rw (zero-add ch, mul_comm ch cw, ← c) (omega arith);
            across = g.across;
            down = g.down;
            roomy = omega arith;
          };
        }

    pub paste-near : (far x ≡ false) × (far y ≡ false) × (cw ≤ 1024) × (ch ≤ 1024) × (t.w ≤ 1024) × (t.h ≤ 1024)
    paste-near = (fit.across, fit.down, fit.wide, fit.high, sheet-fine.limits.w-small, sheet-fine.limits.h-small)

  module _ (out : List ℕ) where
    pub paste-refused : {n : ℕ} → n ≡ first_of (paste_checks t cw ch clip x y room) → (n ≡ 0 → ⊥) → putting (alone n) out ≡ paste_call t cw ch clip x y room out
    unfolding paste_call
    paste-refused {n} e z = leaves-refused _ _ _ out n e z

    pub paste-done : {a : Told ℕ} {c : Told (Option Selection)} {r : Told Shift} {buffer m : List ℕ} {n : ℕ} → first_of (paste_checks t cw ch clip x y room) ≡ 0
        → Front (map packed (normalize_of (paste_changes t.w t.h t.indices cw ch clip x y))) buffer n → leaving a m ≡ handed (take n buffer) out
        → c ≡ result (pasted_selection cw ch x y t.w t.h) → r ≡ shifted_of c a → putting r m ≡ paste_call t cw ch clip x y room out
    unfolding paste_call
    paste-done e f d p q = rw (q, p) (leaves-done _ _ _ out e f d)
