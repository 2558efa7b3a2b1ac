-- What an accepted line was: an opening frame whose sheet no check refuses, and the buffers after it. Assumes nothing.
use mathlib.Core.Path.{◌≡◌, refl, sym, ap, ◌∙◌}
use mathlib.Core.Bool.{Bool, true, false, not}
use mathlib.Core.List.{List, [], ◌++◌}
use Prim.Native.Nat.{ℕ, zero, suc, ◌*◌, ◌≤◌}
use native.Mathlib.Omega.{arith}
use borrow.Author.Tests.{ltb-false, eqb-true, not-false}
use lib.Dec.{ltb, eqb}
use lib.IntN.{ℤ}
use lib.Ieee.{Float}
use lib.ListN.{length}
use Rattle.base.specs.Numbers.{bad_sheet, stray_index}
use Rattle.base.specs.Checks.{Check, ◌when◌, first_of, refused_or, checked}
use Rattle.base.specs.Answer.{Told, Size, size}
use Rattle.base.specs.Answer.Told.{result, alone}
use Rattle.base.specs.Lists.{some, over}
use Rattle.base.proofs.First.{past, past-both}
use Rattle.base.proofs.Told.{alone-other, same-result}
use Rattle.sheet.specs.Sheet.{Sheet, stray}
use Rattle.sheet.specs.Checks.{limit_checks, index_checks}
use Rattle.sheet.specs.Document.{labs_of}
use Rattle.panel_frames.specs.declared.Frame.{Frame}
use Rattle.panel_frames.specs.declared.Frame.TheVariants.{Open, Pixels, Set, Add, Merge, Undo, Redo, Mark, Malformed}
use Rattle.panel_frames.specs.Opening.{colours_of, open_sheet, open_checks, sheet_in}
use Rattle.panel_read.specs.ReadSheet.{storage_checks, reading, taken_of}

-- ---- the frame
opened-or : (cs : List Check) (s t : Sheet) → checked cs alone (result s) ≡ result t → (first_of cs ≡ 0) × (s ≡ t)
unfolding refused_or
opened-or cs s t e = go (first_of cs) refl e
  where
    go : (n : ℕ) → first_of cs ≡ n → refused_or n alone (result s) ≡ result t → (first_of cs ≡ 0) × (s ≡ t)
    go zero q e = (q, same-result e)
    go (suc n) q e = absurd (alone-other e)

pub record Opened (more : List Check) (f : Frame) (bs : List ℕ) (s : Sheet) : Type 0 where
  pub frame : f ≡ Open s.w s.h s.k
  pub sheet : open_sheet s.w s.h s.k bs ≡ s
  pub checks : first_of (open_checks more s) ≡ 0

open-opened : (more : List Check) (w h k : ℕ) (bs : List ℕ) (s : Sheet) → open_sheet w h k bs ≡ s → first_of (open_checks more (open_sheet w h k bs)) ≡ 0 → Opened more (Open w h k) bs s
unfolding open_sheet
open-opened more w h k bs s e c =
    let ew : w ≡ s.w = ap (λ (t : Sheet). t.w) e in
    let eh : h ≡ s.h = ap (λ (t : Sheet). t.h) e in
    let ek : k ≡ s.k = ap (λ (t : Sheet). t.k) e in
    record { frame = rw (ew, eh, ek); sheet = ap (λ (t : Sheet). open_sheet t.w t.h t.k bs) (sym e) ∙ e; checks = ap (λ (t : Sheet). first_of (open_checks more t)) (sym e) ∙ c }

pub opened : (more : List Check) (f : Frame) (bs : List ℕ) (s : Sheet) → sheet_in more f bs ≡ result s → Opened more f bs s
unfolding sheet_in
opened more (Open w h k) bs s e = let p = opened-or (open_checks more (open_sheet w h k bs)) (open_sheet w h k bs) s e in open-opened more w h k bs s p.1 p.0
opened more (Pixels tool n) bs s e = absurd (alone-other e)
opened more (Set i c) bs s e = absurd (alone-other e)
opened more (Add c) bs s e = absurd (alone-other e)
opened more (Merge from into) bs s e = absurd (alone-other e)
opened more Undo bs s e = absurd (alone-other e)
opened more Redo bs s e = absurd (alone-other e)
opened more Mark bs s e = absurd (alone-other e)
opened more Malformed bs s e = absurd (alone-other e)

-- ---- the checks that did not apply
pub record Passed (palette : List ℕ) (lab : List Float) (s : Sheet) : Type 0 where
  pub narrow : s.w ≤ 64
  pub low : s.h ≤ 64
  pub few : s.k ≤ 255
  pub palette-long : length palette ≡ 765
  pub lab-long : length lab ≡ 765
  pub in-range : some (stray s.k) s.indices ≡ false

pub passed : (palette : List ℕ) (lab : List Float) (s : Sheet) → first_of (open_checks (storage_checks palette lab) s) ≡ 0 → Passed palette lab s
unfolding open_checks limit_checks storage_checks index_checks
passed palette lab s e =
    let a = past (bad_sheet when ltb 64 s.w) _ (omega arith) e in
    let b = past (bad_sheet when ltb 64 s.h) _ (omega arith) a.rest in
    let c = past-both (limit_checks s) (storage_checks palette lab ++ index_checks s) b.rest in
    let c1 = past (bad_sheet when ltb 1024 s.w) _ (omega arith) c.left in
    let c2 = past (bad_sheet when ltb 1024 s.h) _ (omega arith) c1.rest in
    let c3 = past (bad_sheet when ltb 255 s.k) _ (omega arith) c2.rest in
    let d = past (bad_sheet when not (eqb (length palette) 765)) _ (omega arith) c.right in
    let f = past (bad_sheet when not (eqb (length lab) 765)) _ (omega arith) d.rest in
    let g = past (stray_index when some (stray s.k) s.indices) [] (omega arith) f.rest in
    record {
      narrow = ltb-false 64 s.w a.off;
      low = ltb-false 64 s.h b.off;
      few = ltb-false 255 s.k c3.off;
      palette-long = eqb-true (length palette) 765 (not-false _ d.off);
      lab-long = eqb-true (length lab) 765 (not-false _ f.off);
      in-range = g.off;
    }

-- ---- what was taken
module _ (palette : List ℕ) (lab : List Float) (indices : List ℤ) where
  pub record Taken (t : Told Sheet) (z : Size) : Type 0 where
    pub sheet : Sheet
    pub is : t ≡ result sheet
    pub sizes : size sheet.w sheet.h sheet.k ≡ z
    pub room : sheet.w * sheet.h ≤ length indices
    pub leaves : taken_of t palette lab indices ≡ reading (result z) (over (colours_of sheet) palette) (over (labs_of (colours_of sheet)) lab) (over sheet.indices indices)

  by-room : (s : Sheet) (z : Size) (b : Bool) → ltb (length indices) (s.w * s.h) ≡ b → (taken_of (result s) palette lab indices).answer ≡ result z → Taken (result s) z
  unfolding taken_of first_of refused_or
  by-room s z true q e = absurd (alone-other (rw q at e))
  by-room s z false q e =
      let same : size s.w s.h s.k ≡ z = same-result (rw q at e) in
      record { sheet = s; is = refl; sizes = same; room = ltb-false (length indices) (s.w * s.h) q; leaves = rw (q, same) }

  pub taken : (t : Told Sheet) (z : Size) → (taken_of t palette lab indices).answer ≡ result z → Taken t z
  unfolding taken_of
  taken (alone n) z e = absurd (alone-other e)
  taken (result s) z e = by-room s z (ltb (length indices) (s.w * s.h)) refl e
