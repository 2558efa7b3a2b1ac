-- The steps of `replay` around a list of structs: what the loops and the steps after them ask, and that they answer and leave what a replay does. Assumes
-- nothing.
use mathlib.Core.Path.{◌≡◌, refl, ap, ◌∙◌}
use mathlib.Core.Bool.{Bool, true}
use mathlib.Core.List.{List, flat_map}
use Prim.Native.Nat.{ℕ, suc, zero, ◌*◌, ◌<◌, ◌≤◌}
use native.Mathlib.Omega.{arith}
use lib.IntN.{ℤ}
use lib.Ieee.{Float}
use lib.ListN.{length}
use Rattle.base.specs.Checks.{or_else, first_of}
use Rattle.base.specs.declared.Lab.{Lab}
use Rattle.base.specs.declared.Rgb.{Rgb}
use Rattle.color_curve.specs.Curve.{Curve}
use Rattle.base.specs.declared.Edit.{Edit}
use Rattle.edit.specs.declared.ListKind.{ListKind}
use Rattle.edit.specs.Change as flat
use Rattle.edit.specs.List.{list_of, painted_list}
use Rattle.edit.specs.Checks.{Permitted, change_checks, left_checks}
use Rattle.edit_pixels.specs.Inside.{bare}
use Rattle.edit_checks.specs.Marks.{MarksFor, Checkable}
use Rattle.edit_list.specs.Paintable.{Paintable}
use Rattle.history_model.specs.Document.{Document, document_of, document_done, document_rest}
use Rattle.history_model.specs.Replay.{replay_checks}
use Rattle.history_replay.specs.Steps.{ReplayBegun, done_or}
use Rattle.history_replay.proofs.Replaying.{opened-checkable, checked-checkable, checked-marks, replay-number, done-either}
use Rattle.base.specs.declared.Change.{Change}
use Rattle.struct_edit.specs.Walk.{flat_all, walked_of, check_upto, mark_upto, paint_upto}
use Rattle.struct_edit.proofs.Whole.{list-answer, list-marks, painted-all, walked_all, walked-zero}

-- ---- the number
module _ (curve : Curve) (room w h k : ℕ) (palette : List ℕ) (lab : List Float) (indices : List ℤ) (locks : List Bool) (p : Permitted) (e : Edit) (list : List Change) where
  abbrev d : Document
  d = document_of w h k palette lab indices locks

  module _ (kind : ListKind) (same : kind ≡ list_of e) (n : ℕ) (marks : List ℕ) (o : ReplayBegun curve room d p e (flat_all list) n marks) where
    checkable : (m : ℕ) → m ≡ room → n ≡ 0 → Checkable (list_of e) w h (length indices) m
    checkable = opened-checkable curve room w h k palette lab indices locks p e (flat_all list) n marks o

    pub list-asks : (m : ℕ) → m ≡ room → (length list ≤ length list) × (n ≡ 0 → Checkable kind w h (length indices) m)
    list-asks m q = (omega arith, λ z. rw same (checkable m q z))

    module _ (c : ℕ) (after : List ℕ)
        (said : (c ≡ check_upto n true (bare w h k indices) kind list (length list)) × (after ≡ mark_upto n true (bare w h k indices) kind list marks (length list))) where
      answered : c ≡ or_else n (first_of (flat_map (change_checks true (bare w h k indices) (list_of e)) (flat_all list)))
      answered = list-answer n true w h k indices (list_of e) kind same list marks c after said

      pub left-asks : (m : ℕ) → m ≡ room → c ≡ 0 → Checkable (list_of e) w h (length indices) m
      left-asks m q z = checked-checkable curve room w h k palette lab indices locks p e (flat_all list) n marks o c answered m q z

      marked : length marks ≡ room → c ≡ 0 → MarksFor (list_of e) w (w * h) (flat_all list) after
      marked q z =
          checked-marks curve room w h k palette lab indices locks p e (flat_all list) n marks o c answered after z
          (list-marks n true w h k indices (list_of e) kind same list marks c after said (λ y. (checkable (length marks) q y).markable) z)

      pub numbered : length marks ≡ room → (l : ℕ)
          → ((cs : List flat.Change) → (c ≡ 0 → MarksFor (list_of e) w (w * h) cs after) → l ≡ or_else c (first_of (left_checks (bare w h 0 indices) (list_of e) cs)))
          → l ≡ first_of (replay_checks curve room d p e (flat_all list))
      numbered q l left = replay-number curve room w h k palette lab indices locks p e (flat_all list) n marks o c answered l (left (flat_all list) (marked q))

-- ---- the edit done
module _ (curve : Rgb → Lab) (w k : ℕ) (palette : List ℕ) (lab : List Float) (indices : List ℤ) (locks : List Bool) (e : Edit) (list : List Change) (kind : ListKind) (same : kind ≡ list_of e) (n m : ℕ)
    (many : m ≡ walked_of n (length list)) where
  pub paints-ask : (n ≡ 0 → Paintable (list_of e) w (length indices) (flat_all list)) → (m ≤ length list) × (0 < m → Paintable kind w (length indices) (flat_all list))
  paints-ask fit = (walked_all n (length list) m many, λ some. rw same (fit (walked-zero n (length list) m many some)))

  pub redone-list : (h : ℕ) (l : List ℤ) → l ≡ paint_upto kind w list indices m
      → done_or n (document_of w h k palette lab l locks) (document_rest curve (document_of w h k palette lab l locks) e)
      ≡ done_or n (document_of w h k palette lab indices locks) (document_done curve (document_of w h k palette lab indices locks) e (flat_all list))
  redone-list h l q = done-either curve w h k palette lab indices locks e (flat_all list) n l paints (keeps n refl)
    where
      paints : n ≡ 0 → l ≡ painted_list (list_of e) w (flat_all list) indices
      paints z = let all : m ≡ length list = many ∙ ap (λ (a : ℕ). walked_of a (length list)) z in rw (same, all) at q ∙ painted-all (list_of e) w list indices

      keeps : (a : ℕ) → n ≡ a → (n ≡ 0 → ⊥) → l ≡ indices
      keeps zero z h = absurd (h z)
      keeps (suc a) z h = let none : m ≡ 0 = many ∙ ap (λ (b : ℕ). walked_of b (length list)) z in rw none at q
