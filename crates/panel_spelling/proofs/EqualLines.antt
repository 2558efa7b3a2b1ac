-- Two sheets get equal lines exactly when their parts are equal, and a sheet gets its line where there is room. Assumes nothing.
use mathlib.Core.Path.{◌≡◌, refl, sym, ap, ◌∙◌}
use mathlib.Core.List.{List, [], ◌∷◌, ◌++◌}
use Prim.Native.Nat.{ℕ}
use native.Mathlib.Omega.{arith}
use lib.IntN.{ℤ}
use lib.ListN.{length, take, length-append}
use lib.Seq.{take_at}
use Rattle.sheet.specs.Sheet.{Sheet}
use Rattle.panel_frames.specs.declared.Frame.TheVariants.{Open}
use Rattle.panel_frames.specs.Opening.{colours_of}
use Rattle.panel_frames.specs.Reading.{frame_of, palette_in, indices_in}
use Rattle.panel_spell.specs.Spelling.{open_line, spelt}
use Rattle.panel_spell.proofs.Judging.{length-spelt, spellable, spell-done}
use Rattle.panel_spelling.specs.OneSpelling.{Spelled, Written, Same, EqualLines}
use Rattle.panel_spelling.proofs.Openings.{open-w, open-h, open-k}
use Rattle.panel_spelling.proofs.Frames.{digits_of, reads-back}

pub written : Written
written s q text room =
    let e = length-spelt s q.fits in
    sym (spell-done s text 0 (spellable s (length text) q.narrow q.low q.fits (omega arith)) refl (length (spelt s)) _ refl refl)

front_same : (a b : List ℕ) → a ++ (10 ∷ []) ≡ b ++ (10 ∷ []) → a ≡ b
front_same a b e =
    let n : length a ≡ length b = omega (arith, length-append a (10 ∷ []), length-append b (10 ∷ []), ap length e) in
    sym (take_at a (10 ∷ []) (length a) refl) ∙ ap (take (length a)) e ∙ take_at b (10 ∷ []) (length a) (sym n)

told_same : (s t : Sheet) → Spelled s → Spelled t → spelt s ≡ spelt t → Same s t
unfolding spelt open_line
told_same s t f g e =
    let d : digits_of s ≡ digits_of t = front_same (digits_of s) (digits_of t) e in
    let a = reads-back s f in
    let b = reads-back t g in
    let o : Open s.w s.h s.k ≡ Open t.w t.h t.k = sym a.frame ∙ ap (λ (l : List ℕ). (frame_of l).frame) d ∙ b.frame in
    let bs : (frame_of (digits_of s)).bytes ≡ (frame_of (digits_of t)).bytes = ap (λ (l : List ℕ). (frame_of l).bytes) d in
    record {
      w = open-w o;
      h = open-h o;
      k = open-k o;
      indices = sym a.indices ∙ ap (λ (l : List ℕ). indices_in s.w s.h s.k l) bs ∙ rw (open-w o, open-h o, open-k o) b.indices;
      colours = sym a.colours ∙ ap (λ (l : List ℕ). palette_in s.k l) bs ∙ rw (open-k o) b.colours;
    }

same-told : (s t : Sheet) → Same s t → spelt s ≡ spelt t
unfolding spelt
same-told s t e =
    ap (λ (w : ℕ). open_line w s.h s.k (colours_of s) s.indices) e.w
    ∙ ap (λ (h : ℕ). open_line t.w h s.k (colours_of s) s.indices) e.h
    ∙ ap (λ (k : ℕ). open_line t.w t.h k (colours_of s) s.indices) e.k
    ∙ ap (λ (c : List ℕ). open_line t.w t.h t.k c s.indices) e.colours
    ∙ ap (λ (l : List ℤ). open_line t.w t.h t.k (colours_of t) l) e.indices

pub equal-lines : EqualLines
equal-lines s t f g = (told_same s t f g, same-told s t)
