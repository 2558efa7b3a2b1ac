-- The steps of `replay` put together, of a list in any form: the number is that of the first check, and the edit is done. What goes through the list is told
-- by what it answers, `each`, and by what it paints. Assumes nothing.
use mathlib.Core.Path.{◌≡◌, refl, sym, ap, ◌∙◌}
use mathlib.Core.Bool.{Bool, true}
use mathlib.Core.List.{List, ◌++◌, flat_map}
use Prim.Native.Nat.{ℕ, zero, suc, ◌*◌}
use native.Mathlib.Omega.{arith}
use lib.IntN.{ℤ}
use lib.Ieee.{Float}
use lib.ListN.{length}
use Rattle.base.specs.Checks.{or_else, first_of, refused_or}
use Rattle.base.proofs.First.{or-else-assoc, first_passes, past-both}
use Rattle.base.specs.declared.Lab.{Lab}
use Rattle.base.specs.declared.Rgb.{Rgb}
use Rattle.color_curve.specs.Curve.{Curve, lab_by, curve_checks, CurveFits}
use Rattle.sheet.specs.Sheet.{Sheet, sheet_of}
use Rattle.sheet.specs.Checks.{permitted_checks}
use Rattle.base.specs.declared.Edit.{Edit}
use Rattle.edit.specs.declared.ListKind.{ListKind}
use Rattle.edit.specs.Change.{Change}
use Rattle.edit.specs.List.{list_of, painted_list}
use Rattle.edit.specs.Checks.{Permitted, change_checks, left_checks}
use Rattle.edit.specs.Apply.{redone}
use Rattle.edit_pixels.specs.Inside.{bare}
use Rattle.edit_locks.specs.Movable as movable
use Rattle.edit_checks.specs.Marks.{ClearFor, MarksFor, Checkable}
use Rattle.edit_list.proofs.Deciding.{first-kept, head-markable, list-decides, bare-changes, bare-left}
use Rattle.edit_apply.specs.Redoable.{Finishable}
use Rattle.edit_apply.proofs.Redoing.{redoable-finishes, marks-redo}
use Rattle.history_ledger.specs.Calls.{refused, done}
use Rattle.history_model.specs.Document.{Document, document_of, document_checks, document_done, document_rest}
use Rattle.history_model.specs.Replay.{replay_own, replay_checks, replay_of}
use Rattle.history_model.proofs.Keeps.{marked}
use Rattle.history_model.proofs.ReplayChecks.{replayable}
use Rattle.history_replay.specs.Steps.{ReplayBegun, done_or}

-- ---- what is left to do, by the number
pub refused-done : (n : ℕ) (d t : Document) → (n ≡ 0 → ⊥) → refused d n ≡ done_or n d t
unfolding done_or refused_or
refused-done zero d t h = absurd (h refl)
refused-done (suc n) d t h = refl

pub passed-done : (n : ℕ) (d t u : Document) → n ≡ 0 → u ≡ t → done u ≡ done_or n d t
unfolding done_or refused_or
passed-done n d t u z q = rw (z, q)

-- ---- `open_replay`
pub opened-refused : {curve : Curve} {room : ℕ} {d : Document} {p : Permitted} {e : Edit} {cs : List Change} {marks : List ℕ} (n : ℕ) → (n ≡ 0 → ⊥) → n ≡ first_of (replay_checks curve room d p e cs) → ReplayBegun curve room d p e cs n marks
opened-refused n h q = record { refuses = λ _. q; ready = λ z. absurd (h z) }

-- ---- the number
module _ (curve : Curve) (room w h k : ℕ) (palette : List ℕ) (lab : List Float) (indices : List ℤ) (locks : List Bool) (p : Permitted) (e : Edit) (cs : List Change) where
  abbrev s : Sheet
  s = sheet_of w h k palette lab indices

  abbrev document : Document
  document = document_of w h k palette lab indices locks

  abbrev kind : ListKind
  kind = list_of e

  -- what the checks of the changes answer
  abbrev each : ℕ
  each = first_of (flat_map (change_checks true (bare w h k indices) kind) cs)

  module _ (n : ℕ) (marks : List ℕ) (o : ReplayBegun curve room document p e cs n marks) where
    -- what the list's checks ask
    pub opened-checkable : (m : ℕ) → m ≡ room → n ≡ 0 → Checkable kind w h (length indices) m
    opened-checkable m q z =
        let r = o.ready z in
        record { pixels = r.marked.formed.limits.indices-length; markable = head-markable true s locks p e m r.marked.formed.limits (rw q r.enough) r.head }

    module _ (c : ℕ) (d : c ≡ or_else n each) where
      began : c ≡ 0 → n ≡ 0
      began z = (first_passes n each (sym d ∙ z)).0

      pub checked-checkable : (m : ℕ) → m ≡ room → c ≡ 0 → Checkable kind w h (length indices) m
      checked-checkable m q z = opened-checkable m q (began z)

      -- the marks that the list leaves, where they were clear before it
      pub checked-marks : (after : List ℕ) → c ≡ 0 → (ClearFor kind (w * h) marks → MarksFor kind w (w * h) cs after) → MarksFor kind w (w * h) cs after
      checked-marks after z leaves = leaves (o.ready (began z)).clear

      -- with 13, the whole number
      pub replay-number : (l : ℕ) → l ≡ or_else c (first_of (left_checks (bare w h 0 indices) kind cs)) → l ≡ first_of (replay_checks curve room document p e cs)
      replay-number l q = by_number n refl
        where
          changes : c ≡ or_else n (first_of (flat_map (change_checks true s kind) cs))
          changes = d ∙ ap (or_else n) (bare-changes true s kind cs)

          whole : l ≡ or_else n (or_else (first_of (flat_map (change_checks true s kind) cs)) (first_of (left_checks s kind cs)))
          whole = q ∙ rw (changes, bare-left s kind cs) (sym (or-else-assoc n (first_of (flat_map (change_checks true s kind) cs)) (first_of (left_checks s kind cs))))

          by_number : (m : ℕ) → n ≡ m → l ≡ first_of (replay_checks curve room document p e cs)
          by_number zero z = let r = o.ready z in rw z at whole ∙ sym (list-decides true s locks p e cs r.head) ∙ r.decides
          by_number (suc m) z =
              let kept : n ≡ 0 → ⊥ = λ y. omega (arith, z, y) in
              whole ∙ first-kept n _ kept ∙ o.refuses kept

-- ---- the edit done, where the list is painted if no number refuses it
pub done-either : (curve : Rgb → Lab) (w h k : ℕ) (palette : List ℕ) (lab : List Float) (indices : List ℤ) (locks : List Bool) (e : Edit) (cs : List Change) (n : ℕ) (l : List ℤ)
    → (n ≡ 0 → l ≡ painted_list (list_of e) w cs indices) → ((n ≡ 0 → ⊥) → l ≡ indices)
    → done_or n (document_of w h k palette lab l locks) (document_rest curve (document_of w h k palette lab l locks) e)
    ≡ done_or n (document_of w h k palette lab indices locks) (document_done curve (document_of w h k palette lab indices locks) e cs)
unfolding done_or refused_or redone
done-either curve w h k palette lab indices locks e cs zero l paints keeps = ap (λ (x : List ℤ). done (document_rest curve (document_of w h k palette lab x locks) e)) (paints refl)
done-either curve w h k palette lab indices locks e cs (suc n) l paints keeps = rw (keeps (λ z. omega (arith, z)))

-- ---- `replay`
pub replay-is : (curve : Curve) (room : ℕ) (d : Document) (p : Permitted) (e : Edit) (cs : List Change) (n : ℕ) → n ≡ first_of (replay_checks curve room d p e cs) → done_or n d (document_done (lab_by curve) d e cs) ≡ replay_of curve room d p e cs
unfolding done_or replay_of
replay-is curve room d p e cs n q = rw q

-- what the rest asks, where no check applies: of storage, and of the marks
module _ (curve : Curve) (room w h k : ℕ) (palette : List ℕ) (lab : List Float) (indices : List ℤ) (locks : List Bool) (p : Permitted) (e : Edit) (cs : List Change)
    (z : first_of (replay_checks curve room (document_of w h k palette lab indices locks) p e cs) ≡ 0) where
  marks-there : length locks ≡ 255
  unfolding replay_checks
  marks-there =
      let d : Document = document_of w h k palette lab indices locks in
      let given = past-both (permitted_checks p.limited p.colours) (document_checks d ++ (curve_checks curve ++ replay_own room d p e cs)) z in
      (marked d.sheet locks (past-both (document_checks d) (curve_checks curve ++ replay_own room d p e cs) given.right).left).marks

  pub replay-finishes : Finishable k (length palette) (length lab) e × movable.Redoable k (length locks) e × CurveFits curve
  replay-finishes =
      let r = replayable curve room w h k palette lab indices locks p e cs z in
      let can = r.can in
      (redoable-finishes e can, marks-redo _ cs can.limits (length locks) marks-there e can.unrefused, r.curve-fits)
