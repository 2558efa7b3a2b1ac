-- What a call leaves that puts a rectangle of indices somewhere. Assumes nothing.
use Prim.Native.Nat.{ℕ}
use mathlib.Core.Path.{◌≡◌, refl, ap, ◌∙◌}
use mathlib.Core.List.{List, map}
use mathlib.Core.Option.{Option}
use lib.ListN.{take}
use Rattle.base.specs.Checks.{Check, first_of}
use Rattle.base.specs.Answer.{Told, Filled, leaving, counted_told, count_told}
use Rattle.base.specs.Answer.Told.{result, alone}
use Rattle.base.specs.declared.Counted.{Counted}
use Rattle.base.specs.declared.Counted.TheVariants as counted
use Rattle.selection.specs.declared.Selection.{Selection}
use Rattle.selection.specs.Calls.{Shift, shift}
use Rattle.edit.specs.Change.{Change, packed}
use Rattle.change_list.specs.Fronts.{Front}
use Rattle.change_list.specs.Listed.{handed, InScratch}
use Rattle.change_list.proofs.Handing.{listed-refused, listed-done}
use Rattle.change_list.proofs.InScratch.{scratch-then}
use Rattle.tool_paste_model.specs.Pasting.{Left, putting, shift_count, shifted_of, leaves}

module _ (checks : List Check) (cs : List Change) (c : Option Selection) (out : List ℕ) where
  pub leaves-refused : (n : ℕ) → n ≡ first_of checks → (n ≡ 0 → ⊥) → putting (alone n) out ≡ leaves checks cs c out
  unfolding leaves shifted_of
  leaves-refused n e z = rw (← listed-refused checks cs out n e z)

  pub leaves-done : {a : Told ℕ} {s m : List ℕ} {n : ℕ} → first_of checks ≡ 0 → Front (map packed cs) s n → leaving a m ≡ handed (take n s) out
      → putting (shifted_of (result c) a) m ≡ leaves checks cs c out
  unfolding leaves
  leaves-done e f d = rw (← listed-done checks cs out e f d)

pub shifted-count : (s : Told (Option Selection)) {c : Counted} {n : ℕ} → c ≡ counted.Count n → result (shift n s) ≡ shifted_of s (counted_told c)
unfolding shifted_of
shifted-count s e = rw e

pub shifted-refused : (s : Told (Option Selection)) {c : Counted} {n : ℕ} → c ≡ counted.Refused n → alone n ≡ shifted_of s (counted_told c)
unfolding shifted_of
shifted-refused s e = rw e

count_kept : (s : Told (Option Selection)) (a : Told ℕ) → shift_count (shifted_of s a) ≡ count_told a
unfolding shifted_of
count_kept s (result n) = refl
count_kept s (alone n) = refl

-- a list that is left in the scratch, beside a selection
pub shifted_in : {a : Told ℕ} (c : Told (Option Selection)) {r : Told Shift} {places : ℕ} {s : List ℕ} {call : List ℕ → Left} {listing : List ℕ → Filled ℕ}
    → InScratch (count_told a) places s (leaving a) listing → r ≡ shifted_of c a
    → ((out after : List ℕ) → leaving a after ≡ listing out → putting r after ≡ call out) → InScratch (shift_count r) places s (putting r) call
shifted_in {a} c k e f = rw (ap shift_count e ∙ count_kept c a) (scratch-then k (λ out after h d. f out after d))
