-- An edit recorded and done over a list of structs: what the loops and the last step ask, and that they leave what a push leaves. Assumes nothing.
use mathlib.Core.Path.{◌≡◌, refl, sym, ap, ◌∙◌}
use mathlib.Core.Bool.{Bool, false}
use mathlib.Core.List.{List, ◌++◌}
use Prim.Native.Nat.{ℕ, zero, suc, ◌-◌, ◌<◌, ◌≤◌}
use native.Mathlib.Omega.{arith}
use lib.IntN.{ℤ}
use lib.Ieee.{Float}
use lib.ListN.{length, length-map}
use Rattle.base.specs.Checks.{refused_or}
use Rattle.base.specs.declared.Edit.{Edit}
use Rattle.base.specs.declared.Form.{Form}
use Rattle.base.specs.declared.Handle.{Handle}
use Rattle.color_curve.specs.Curve.{Curve, lab_by}
use Rattle.edit.specs.declared.ListKind.{ListKind}
use Rattle.edit.specs.List.{list_of, empty_pixels}
use Rattle.edit_list.specs.Paintable.{Paintable}
use Rattle.journal_write.specs.List.{Puttable}
use Rattle.history_ledger.specs.Journal.{State, pushed}
use Rattle.history_model.specs.Document.{Document, document_of}
use Rattle.history_model.specs.Editing.{Given, given_of, editing_by}
use Rattle.history_model.specs.Calls.{state_of, Standing, Acceptable}
use Rattle.history_push_checks.specs.Steps.{is_still, pushed_or}
use Rattle.history_push.specs.Finish.{finished, Finishes}
use Rattle.history_push.proofs.Carrying.{carry-puts, carry-paints, carry-finishes, carried}
use Rattle.base.specs.declared.Change.{Change}
use Rattle.struct_change.specs.Struct.{packed_of}
use Rattle.struct_edit.specs.Walk.{packed_all, flat_all, walked_of, put_upto, paint_upto}
use Rattle.struct_edit.proofs.Whole.{painted-all, walked_all, walked-zero}
use Rattle.struct_edit.proofs.Journaled.{put_all}

module _ (form : Form) (w h k : ℕ) (palette : List ℕ) (lab : List Float) (indices : List ℤ) (locks : List Bool) (journal : List ℕ) (handle : Handle) (e : Edit) (list : List Change) (kind : ListKind) (same : kind ≡ list_of e)
    (n m : ℕ) (many : m ≡ walked_of n (length list)) where
  abbrev st : State Document
  st = state_of (document_of w h k palette lab indices locks) journal handle

  abbrev long : length (packed_all list) ≡ length list
  long = length-map list packed_of

  module _ (stands : n ≡ 0 → Standing st) (fine : n ≡ 0 → empty_pixels (list_of e) (length (flat_all list)) ≡ false → Acceptable form st e (flat_all list)) where
    puts : n ≡ 0 → Puttable form (list_of e) w (length indices) (length journal - handle.offset) (flat_all list)
    puts z = carry-puts form w h k palette lab indices locks journal handle e (packed_all list) (length list) long (stands z) (fine z)

    pub puts-ask : (m ≤ length list) × (0 < m → Puttable form kind w (length indices) (length journal - handle.offset) (flat_all list))
    puts-ask = (walked_all n (length list) m many, λ some. rw same (puts (walked-zero n (length list) m many some)))

    pub paints-ask : (m ≤ length list) × (0 < m → Paintable kind w (length indices) (flat_all list))
    paints-ask = (
      walked_all n (length list) m many,
      λ some. let z = walked-zero n (length list) m many some in rw same (carry-paints form w h k palette lab indices locks journal handle e (packed_all list) (length list) long (stands z) (fine z)),
    )

    pub finish-asks : (after : List ℕ) → length after ≡ length journal → n ≡ 0 → empty_pixels (list_of e) (length list) ≡ false → Finishes form k palette lab locks after handle e (length list)
    finish-asks after q z = carry-finishes form w h k palette lab indices locks journal handle e (packed_all list) (length list) long (stands z) (fine z) after q

    module _ (curve : Curve) (limited : Bool) (permitted : List ℕ) (l : List ℤ) (j : List ℕ) (p : l ≡ paint_upto kind w list indices m) (q : j ≡ put_upto form kind handle.offset w indices list journal m) where
      abbrev left : State Document
      left = state_of (document_of w h k palette lab l locks) j handle

      abbrev g : Given
      g = given_of limited permitted e (packed_all list)

      pub carried-out : pushed_or n (empty_pixels (list_of e) (length list)) left (finished form (lab_by curve) left e (length list)) ≡ pushed_or n (is_still g) st (pushed (editing_by form curve) st g)
      unfolding pushed_or refused_or
      carried-out = by n refl
        where
          by : (a : ℕ) → n ≡ a → pushed_or n (empty_pixels (list_of e) (length list)) left (finished form (lab_by curve) left e (length list)) ≡ pushed_or n (is_still g) st (pushed (editing_by form curve) st g)
          by zero z =
              let all : m ≡ length list = many ∙ ap (λ (a : ℕ). walked_of a (length list)) z in
              rw z
              (carried form w h k palette lab indices locks journal handle e (packed_all list) (length list) long curve limited permitted l j
              (rw (same, all) at p ∙ painted-all (list_of e) w list indices)
              (rw (same, all) at q ∙ put_all form handle.offset w indices list journal (list_of e) (puts z))
              (fine z))
          by (suc a) z =
              let none : m ≡ 0 = many ∙ ap (λ (a : ℕ). walked_of a (length list)) z in
              rw (z, rw none at p, rw none at q)
