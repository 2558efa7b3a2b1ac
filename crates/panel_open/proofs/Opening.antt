-- The opening: its buffers are filled as the definition's sheet has them, and the first check that applies decides. Assumes nothing.
use Prim.Native.Nat.{ℕ, zero, suc, ◌*◌, ◌≤◌, ◌<◌}
use mathlib.Core.Path.{◌≡◌, refl, sym, ap, ◌∙◌}
use mathlib.Core.Bool.{Bool, true, false}
use mathlib.Core.List.{List, [], ◌∷◌, ◌++◌}
use mathlib.Core.Option.{none, some}
use native.Mathlib.Omega.{arith}
use borrow.Author.Tests.{lt-ltb, le-ltb}
use lib.IntN.{ℤ}
use lib.Ieee.{Float}
use lib.ListN.{take, drop, replicate, length-replicate}
use Rattle.base.specs.Limits.{max_entries, storage}
use Rattle.base.specs.Checks.{Check, first_of, refused_or}
use Rattle.base.specs.Answer.{number, number_of, Done}
use Rattle.base.specs.declared.Answer.{Answer}
use Rattle.base.specs.Lists.{over}
use Rattle.color_doubles.specs.Arithmetic.{decimal}
use Rattle.sheet.specs.Sheet.{Sheet, sheet_of}
use Rattle.sheet.specs.Checks.{limit_checks, mark_checks, index_checks}
use Rattle.sheet.specs.Document.{New, cleared_marks, new_made, new_lab, new_of}
use Rattle.base.specs.declared.Handle.{Handle}
use Rattle.history_ledger.specs.Handle.{fresh, dirty}
use Rattle.panel_frames.specs.Reading.{palette_in, indices_in}
use Rattle.panel_frames.specs.Writing.{line_of, number_line}
use Rattle.panel_open.specs.declared.Core.{Core}
use Rattle.panel_lines.specs.Lines.{said}
use Rattle.panel_frames.specs.Opening.{open_sheet, open_checks}
use Rattle.panel_calls.specs.Panel.{journal_bytes, whole_line, begun, opens_as, open_of}
use Rattle.panel_open.specs.Memory.{panel_in}

-- ---- the marks
abbrev pub unlocked : List Bool
unlocked = replicate max_entries false

no-below : (k : ℕ) → suc k ≤ 0 → ⊥
no-below k h = omega arith

drop-same : {A : Type 0} (a : A) (n k : ℕ) → k ≤ n → replicate k a ++ drop k (replicate n a) ≡ replicate n a
drop-same a n zero h = refl
drop-same a zero (suc k) h = absurd (no-below k h)
drop-same a (suc n) (suc k) h = ap (λ l. a ∷ l) (drop-same a n k (omega arith))

none-locked : (k : ℕ) → k ≤ 255 → cleared_marks k unlocked ≡ unlocked
unfolding cleared_marks over
none-locked k h = rw (length-replicate k false) (drop-same false 255 k h)

-- ---- the checks
module _ (w h k : ℕ) (bs : List ℕ) where
  abbrev s : Sheet
  s = open_sheet w h k bs

  abbrev cs : List Check
  cs = limit_checks s ++ index_checks s

  -- a number that comes first
  failed : (n : ℕ) → first_of (open_checks [] s) ≡ suc n → open_of s ≡ said none (number_line (suc n))
  unfolding opens_as refused_or
  failed n e = rw e

  pub open-wide : 64 < w → open_of s ≡ said none (number_line 1)
  unfolding open_checks first_of open_sheet
  open-wide a = failed 0 (rw (lt-ltb 64 w a))

  pub open-tall : w ≤ 64 → 64 < h → open_of s ≡ said none (number_line 1)
  unfolding open_checks first_of open_sheet
  open-tall a b = failed 0 (rw (le-ltb 64 w a, lt-ltb 64 h b))

  pub open-many : w ≤ 64 → h ≤ 64 → 255 < k → open_of s ≡ said none (number_line 1)
  unfolding open_checks first_of limit_checks open_sheet
  open-many a b d = failed 0 (rw (le-ltb 64 w a, le-ltb 64 h b, le-ltb 1024 w (omega arith), le-ltb 1024 h (omega arith), lt-ltb 255 k d))

  module _ (small-w : w ≤ 64) (small-h : h ≤ 64) where
    -- 255 marks add no number
    marked-first : first_of (limit_checks s ++ (mark_checks unlocked ++ index_checks s)) ≡ first_of cs
    unfolding first_of mark_checks limit_checks
    marked-first = refl

    same_first : first_of (open_checks [] s) ≡ first_of cs
    unfolding open_checks open_sheet first_of
    same_first = rw (le-ltb 64 w small-w, le-ltb 64 h small-h)

    -- what `new` answers of the sheet
    module _ (a : Answer) (lab' : List Float) (locks' : List Bool) (e : new_made a lab' locks' ≡ new_of s unlocked) where
      answered : number_of a ≡ first_of cs
      unfolding new_of refused_or
      answered = by (first_of cs) refl
        where
          by : (v : ℕ) → first_of cs ≡ v → number_of a ≡ first_of cs
          by zero z = ap (λ (x : New). number x.answer) e ∙ rw (marked-first, z)
          by (suc v) z = ap (λ (x : New). number x.answer) e ∙ rw (marked-first, z)

      pub open-failed : (num : ℕ) → num ≡ number_of a → (num ≡ 0 → ⊥) → open_of s ≡ said none (number_line num)
      open-failed zero n z = absurd (z refl)
      open-failed (suc num) n z = failed num (same_first ∙ sym answered ∙ sym n)

      module _ (z : number_of a ≡ 0) where
        none_first : first_of cs ≡ 0
        none_first = sym answered ∙ z

        pub open_done : open_of s ≡ said (some (begun s)) (whole_line Done (begun s))
        unfolding opens_as refused_or
        open_done = rw (same_first, none_first)

        pub lab-made : lab' ≡ new_lab s
        unfolding new_of refused_or
        lab-made = ap (λ (x : New). x.lab) e ∙ rw (marked-first, none_first)

        -- `new` writes false where false stands
        pub locks-made : k ≤ 255 → locks' ≡ unlocked
        unfolding new_of refused_or open_sheet
        locks-made few = ap (λ (x : New). x.locks) e ∙ rw (marked-first, none_first) (none-locked k few)

  -- ---- the state after it
  module _ (palette : List ℕ) (lab : List Float) (indices : List ℤ) (locks : List Bool) (journal : List ℕ) (handle : Handle)
      (e-palette : palette ≡ over (palette_in k bs) (replicate storage 0)) (e-lab : lab ≡ new_lab s) (e-indices : take (w * h) indices ≡ indices_in w h k bs)
      (e-locks : locks ≡ unlocked) (e-journal : journal ≡ replicate journal_bytes 0) (e-handle : handle ≡ fresh) where
    abbrev next : Core
    next = record { opened = true; w = w; h = h; k = k; handle = handle }

    pub open-state : panel_in next palette lab indices locks journal ≡ some (begun s)
    unfolding panel_in begun open_sheet
    open-state = rw (e-palette, e-lab, e-indices, e-locks, e-journal, e-handle)

    pub open-text : (num : ℕ) → num ≡ 0 → line_of num handle.position (dirty handle) k (take (w * h) indices) ≡ whole_line Done (begun s)
    unfolding whole_line begun open_sheet
    open-text num z = rw (e-handle, e-indices, z)

  -- the sheet in the buffers, before `new`
  pub open-sheet : (palette : List ℕ) (lab : List Float) (indices : List ℤ) → palette ≡ over (palette_in k bs) (replicate storage 0) → lab ≡ replicate storage (decimal 0 1)
      → indices ≡ indices_in w h k bs → sheet_of w h k palette lab indices ≡ s
  unfolding open_sheet
  open-sheet palette lab indices e-palette e-lab e-indices = rw (e-palette, e-lab, e-indices)

  pub new_is : (palette : List ℕ) (lab lab' : List Float) (indices : List ℤ) (locks locks' : List Bool) (a : Answer) → palette ≡ over (palette_in k bs) (replicate storage 0) → lab ≡ replicate storage (decimal 0 1)
      → indices ≡ indices_in w h k bs → locks ≡ unlocked → new_made a lab' locks' ≡ new_of (sheet_of w h k palette lab indices) locks → new_made a lab' locks' ≡ new_of s unlocked
  new_is palette lab lab' indices locks locks' a e-palette e-lab e-indices e-locks e = e ∙ rw (open-sheet palette lab indices e-palette e-lab e-indices, e-locks)
