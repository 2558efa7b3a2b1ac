-- From calls to what a line does. Assumes nothing.
use Prim.Native.Nat.{ℕ, zero, suc, ◌+◌, ◌*◌, ◌≤◌}
use mathlib.Core.Path.{◌≡◌, refl, ap, ◌∙◌}
use mathlib.Core.Bool.{Bool, true, false}
use mathlib.Core.List.{List, [], ◌++◌}
use mathlib.Core.Option.{none, some}
use native.Mathlib.Omega.{arith}
use borrow.Author.Tests.{ne_eqb}
use lib.IntN.{ℤ}
use lib.Ieee.{Float}
use lib.ListN.{length, take, drop, length-append, length-drop}
use lib.Seq.{take_at, length-take-le, get_or-take}
use Rattle.base.specs.Answer.{number_of}
use Rattle.base.specs.declared.Moved.{Moved}
use Rattle.history_model.specs.Document.{document_of}
use Rattle.history_model.specs.Calls.{state_of, leaves}
use Rattle.history_ledger.specs.Handle.{dirty}
use Rattle.panel_frames.specs.Reading.{told, size_of, frame_of, change_at, changes_from}
use Rattle.panel_frames.specs.Writing.{line_of, number_line}
use Rattle.panel_frames.specs.declared.Frame.{Frame}
use Rattle.panel_frames.specs.declared.Frame.TheVariants.{Open, Pixels, Set, Add, Merge, Undo, Redo, Mark, Malformed}
use Rattle.panel_frames.specs.Opening.{sheet_in}
use Rattle.panel_frames.proofs.Opens.{sheet-take}
use Rattle.panel_lines.specs.Lines.{Said, said}
use Rattle.panel_calls.specs.Panel.{Panel, call_of, whole_line, shown, opens_as, unopened_of, act_of, step_of}
use Rattle.panel_open.specs.declared.Core.{Core}
use Rattle.panel_open.specs.Memory.{panel_in, Fits}
use Rattle.panel_open.proofs.Texts.{shut}

-- ---- a frame on the open sheet, which the call left as m and the buffers have it
module _
    (core : Core) (palette : List ℕ) (lab : List Float) (indices : List ℤ) (locks : List Bool) (journal : List ℕ) (f : Frame) (bs : List ℕ)
    (m : Moved) (palette' : List ℕ) (lab' : List Float) (part indices' : List ℤ) (locks' : List Bool) (journal' : List ℕ)
    (is_open : core.opened ≡ true)
    (e : leaves m core.w core.h palette' lab' part locks' journal' ≡ call_of (state_of (document_of core.w core.h core.k palette lab (take (core.w * core.h) indices) locks) journal core.handle) f bs)
    (p : take (core.w * core.h) indices' ≡ part) where
  abbrev next : Core
  next = record { opened = true; w = core.w; h = core.h; k = m.k; handle = m.handle }

  abbrev acted : Said Panel
  acted = act_of (panel_in core palette lab indices locks journal) f bs

  is-shown : acted ≡ shown (leaves m core.w core.h palette' lab' part locks' journal')
  unfolding panel_in act_of
  is-shown = rw (is_open, e)

  pub act-state : panel_in next palette' lab' indices' locks' journal' ≡ acted.state
  unfolding panel_in shown
  act-state = rw (is-shown, p)

  pub act-number : (num : ℕ) → num ≡ number_of m.answer → num ≡ 22 → number_line num ≡ acted.text
  unfolding shown
  act-number num n z = rw (is-shown, ← n, z)

  pub act-whole : (num : ℕ) → num ≡ number_of m.answer → (num ≡ 22 → ⊥) → line_of num m.handle.position (dirty m.handle) m.k (take (core.w * core.h) indices') ≡ acted.text
  unfolding shown whole_line
  act-whole num n z = rw (is-shown, ← n, ne_eqb num 22 z, p)

-- ---- a part of a list that a call wrote, and the rest of it
module _ (part indices : List ℤ) (n : ℕ) (room : n ≤ length indices) (same : length part ≡ length (take n indices)) where
  part_length : length part ≡ n
  part_length = same ∙ length-take-le n indices room

  pub part-front : take n (part ++ drop n indices) ≡ part
  part-front = take_at part (drop n indices) n part_length

  pub part-whole : length (part ++ drop n indices) ≡ length indices
  part-whole = simp (length-append, length-drop) (omega (arith, part_length))

-- ---- a line, by its frame

change-take : (l : List ℕ) (m i : ℕ) → i + 6 ≤ m → change_at (take m l) i ≡ change_at l i
unfolding change_at
change-take l m i h =
    rw (
      get_or-take m l i 0 (omega arith),
      get_or-take m l (i + 1) 0 (omega arith),
      get_or-take m l (i + 2) 0 (omega arith),
      get_or-take m l (i + 2 + 1) 0 (omega arith),
      get_or-take m l (i + 4) 0 (omega arith),
      get_or-take m l (i + 4 + 1) 0 (omega arith),
    )

changes-take : (l : List ℕ) (m n i : ℕ) → i + 6 * n ≤ m → changes_from (take m l) i n ≡ changes_from l i n
unfolding changes_from
changes-take l m zero i h = refl
changes-take l m (suc n) i h = rw (change-take l m i (omega arith), changes-take l m n (i + 6) (omega arith))

-- only a frame's own bytes matter
act-take : (p : Panel) (f : Frame) (l : List ℕ) → act_of p f (take (size_of f) l) ≡ act_of p f l
unfolding act_of unopened_of call_of size_of
act-take none f l = ap opens_as (sheet-take [] f l)
act-take (some st) (Open w h k) l = refl
act-take (some st) (Pixels tool n) l = rw (changes-take l (2 + 6 * n) n 2 (omega arith))
act-take (some st) (Set i c) l = refl
act-take (some st) (Add c) l = refl
act-take (some st) (Merge from into) l = refl
act-take (some st) Undo l = refl
act-take (some st) Redo l = refl
act-take (some st) Mark l = refl
act-take (some st) Malformed l = refl

pub step_by : (p : Panel) (line : List ℕ) (f : Frame) (l : List ℕ) → told f l ≡ frame_of line → step_of p line ≡ act_of p f l
unfolding step_of
step_by p line f l e = rw (← e) (act-take p f l)

-- before the opening
pub act-shut : (core : Core) (palette : List ℕ) (lab : List Float) (indices : List ℤ) (locks : List Bool) (journal : List ℕ) (f : Frame) (bs : List ℕ) → core.opened ≡ false
    → act_of (panel_in core palette lab indices locks journal) f bs ≡ unopened_of f bs
unfolding act_of
act-shut core palette lab indices locks journal f bs e = rw (shut core palette lab indices locks journal e)

pub unopened-call : (f : Frame) (bs : List ℕ) → ((w h k : ℕ) → f ≡ Open w h k → ⊥) → unopened_of f bs ≡ said none (number_line 22)
unfolding unopened_of opens_as sheet_in
unopened-call (Open w h k) bs o = absurd (o w h k refl)
unopened-call (Pixels tool n) bs o = refl
unopened-call (Set i c) bs o = refl
unopened-call (Add c) bs o = refl
unopened-call (Merge from into) bs o = refl
unopened-call Undo bs o = refl
unopened-call Redo bs o = refl
unopened-call Mark bs o = refl
unopened-call Malformed bs o = refl

-- buffers keep their lengths
pub refits : {core core' : Core} {p l i m j b s p' l' i' m' j' b' s' : ℕ} → Fits core p l i m j b s → core'.w * core'.h ≤ 4096
    → p' ≡ p → l' ≡ l → i' ≡ i → m' ≡ m → j' ≡ j → b' ≡ b → s' ≡ s → Fits core' p' l' i' m' j' b' s'
refits f small ep el ei em ej eb es =
    record {
      small = small;
      palette-length = ep ∙ f.palette-length;
      lab-length = el ∙ f.lab-length;
      indices-length = ei ∙ f.indices-length;
      locks-length = em ∙ f.locks-length;
      journal-length = ej ∙ f.journal-length;
      bytes-length = eb ∙ f.bytes-length;
      list_length = es ∙ f.list_length;
    }
