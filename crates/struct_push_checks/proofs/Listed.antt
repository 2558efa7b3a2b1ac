-- The checks of `push` around a list of structs: what the loop and the step after it ask, and that they answer the push's number. Assumes nothing.
use mathlib.Core.Path.{◌≡◌}
use mathlib.Core.Bool.{Bool, false}
use mathlib.Core.List.{List, flat_map}
use Prim.Native.Nat.{ℕ, ◌*◌, ◌≤◌}
use native.Mathlib.Omega.{arith}
use lib.IntN.{ℤ}
use lib.Ieee.{Float}
use lib.ListN.{length, length-map}
use Rattle.base.specs.Limits.{max_changes, max_journal}
use Rattle.base.specs.Checks.{or_else, first_of}
use Rattle.base.specs.declared.Edit.{Edit}
use Rattle.base.specs.declared.Form.{Form}
use Rattle.base.specs.declared.Handle.{Handle}
use Rattle.color_curve.specs.Curve.{Curve}
use Rattle.edit.specs.declared.ListKind.{ListKind}
use Rattle.edit.specs.Change as flat
use Rattle.edit.specs.List.{list_of}
use Rattle.edit.specs.Checks.{change_checks, left_checks}
use Rattle.edit_pixels.specs.Inside.{bare}
use Rattle.edit_checks.specs.Marks.{MarksFor, Checkable}
use Rattle.history_ledger.specs.Journal.{State}
use Rattle.history_model.specs.Document.{Document, document_of}
use Rattle.history_model.specs.Editing.{Given, given_of}
use Rattle.history_model.specs.Calls.{state_of}
use Rattle.history_push_checks.specs.Steps.{Begun, PushNumbered, full_number}
use Rattle.history_push_checks.proofs.PushSteps.{begun-checkable, settle-checkable, settle-short, settle-marks, push-number}
use Rattle.base.specs.declared.Change.{Change}
use Rattle.struct_change.specs.Struct.{packed_of}
use Rattle.struct_edit.specs.Walk.{packed_all, flat_all, check_upto, mark_upto}
use Rattle.struct_edit.proofs.Whole.{list-answer, list-marks}

module _ (form : Form) (curve : Curve) (room w h k : ℕ) (palette : List ℕ) (lab : List Float) (indices : List ℤ) (locks : List Bool) (journal : List ℕ) (handle : Handle) (limited : Bool) (permitted : List ℕ) (e : Edit) (list : List Change) where
  abbrev state : State Document
  state = state_of (document_of w h k palette lab indices locks) journal handle

  abbrev given : Given
  given = given_of limited permitted e (packed_all list)

  abbrev long : length (packed_all list) ≡ length list
  long = length-map list packed_of

  module _ (kind : ListKind) (same : kind ≡ list_of e) (n : ℕ) (marks : List ℕ) (b : Begun form curve room state given n marks) where
    checkable : (m : ℕ) → m ≡ room → n ≡ 0 → Checkable (list_of e) w h (length indices) m
    checkable = begun-checkable form curve room w h k palette lab indices locks journal handle limited permitted e (packed_all list) (length list) long n marks b

    pub list-asks : (m : ℕ) → m ≡ room → (length list ≤ length list) × (n ≡ 0 → Checkable kind w h (length indices) m)
    list-asks m q = (omega arith, λ z. rw same (checkable m q z))

    module _ (c : ℕ) (after : List ℕ)
        (said : (c ≡ check_upto n false (bare w h k indices) kind list (length list)) × (after ≡ mark_upto n false (bare w h k indices) kind list marks (length list))) where
      answered : c ≡ or_else n (first_of (flat_map (change_checks false (bare w h k indices) (list_of e)) (flat_all list)))
      answered = list-answer n false w h k indices (list_of e) kind same list marks c after said

      pub settle-asks : (m : ℕ) → m ≡ room → (c ≡ 0 → Checkable (list_of e) w h (length indices) m) × (c ≡ 0 → (length list ≤ max_changes) × (handle.offset ≤ max_journal))
      settle-asks m q = (
        settle-checkable form curve room w h k palette lab indices locks journal handle limited permitted e (packed_all list) (length list) long n marks b c answered m q,
        settle-short form curve room w h k palette lab indices locks journal handle limited permitted e (packed_all list) (length list) long n marks b c answered,
      )

      marked : length marks ≡ room → c ≡ 0 → MarksFor (list_of e) w (w * h) (flat_all list) after
      marked q z =
          settle-marks form curve room w h k palette lab indices locks journal handle limited permitted e (packed_all list) (length list) long n marks b c answered after z
          (list-marks n false w h k indices (list_of e) kind same list marks c after said (λ y. (checkable (length marks) q y).markable) z)

      pub numbered : length marks ≡ room → (l : ℕ)
          → ((cs : List flat.Change) → (c ≡ 0 → MarksFor (list_of e) w (w * h) cs after)
          → l ≡ or_else (or_else c (first_of (left_checks (bare w h 0 indices) (list_of e) cs))) (full_number form handle.offset e (length list) (length journal)))
          → PushNumbered form curve room state given l
      numbered q l settled =
          push-number form curve room w h k palette lab indices locks journal handle limited permitted e (packed_all list) (length list) long n marks b c answered l (settled (flat_all list) (marked q))
