-- Chunks of any size: what is printed is what is printed for the lines of the whole input. Assumes nothing.
use Prim.Native.Nat.{ℕ, ◌+◌, ◌≤◌, ◌<◌}
use mathlib.Core.Path.{◌≡◌, refl, sym, ap, ◌∙◌}
use mathlib.Core.List.{List, [], ◌∷◌, ◌++◌, append_assoc, append-nil}
use mathlib.Core.Bool.{Bool, true, false, cond}
use native.Mathlib.Numerals.{add-one}
use native.Mathlib.Omega.{arith}
use borrow.Author.Tests.{lt-ltb, le-ltb, ltb-true, ltb-false, ne_eqb}
use lib.Dec.{ltb, eqb}
use lib.ListN.{length, take, set, length-append}
use lib.Seq.{take_all, take-append-le, length-take-le, take-suc-set}
use Rattle.panel_lines.specs.Lines.{last_line, lastFed, finished, lines_from, lines_of, Said, joined, answers, printed, Fed, fed, held, grown, saying, byteFed, chunkFed}

pub saying-nil : {S : Type 0} (o : Fed S) → saying [] o ≡ o
unfolding saying
saying-nil o = refl

pub saying-append : {S : Type 0} (a b : List ℕ) (o : Fed S) → saying (a ++ b) o ≡ saying a (saying b o)
unfolding saying
saying-append a b o = ap (λ (t : List ℕ). fed o.state o.line t) (append_assoc a b o.text)

module _ {S : Type 0} (step : S → List ℕ → Said S) where
  -- a chunk and then another is both at once
  pub chunk-append : (a b : List ℕ) (s : S) (l : List ℕ) → chunkFed step s l (a ++ b) ≡ saying (chunkFed step s l a).text (chunkFed step (chunkFed step s l a).state (chunkFed step s l a).line b)
  unfolding chunkFed saying
  chunk-append [] b s l = refl
  chunk-append (x ∷ a) b s l =
      let o = byteFed step s l x in
      ap (saying o.text) (chunk-append a b o.state o.line) ∙ sym (saying-append o.text (chunkFed step o.state o.line a).text (chunkFed step (chunkFed step o.state o.line a).state (chunkFed step o.state o.line a).line b))

  -- a turn: what a byte does, and then the rest
  pub turned : (s s' : S) (l l' t t' : List ℕ) (b : ℕ) (rest : List ℕ) → fed s' l' t' ≡ saying t (byteFed step s l b) → saying t' (chunkFed step s' l' rest) ≡ saying t (chunkFed step s l (b ∷ rest))
  unfolding chunkFed saying
  turned s s' l l' t t' b rest e =
      let o = byteFed step s l b in
      let es : s' ≡ o.state = ap (λ (x : Fed S). x.state) e in
      let el : l' ≡ o.line = ap (λ (x : Fed S). x.line) e in
      let et : t' ≡ t ++ o.text = ap (λ (x : Fed S). x.text) e in
      rw (es, el, et) (saying-append t o.text (chunkFed step o.state o.line rest))

-- the held line is the front of the line
pub grown-front : (l : List ℕ) (b : ℕ) → grown (take held l) b ≡ take held (l ++ (b ∷ []))
unfolding grown
grown-front l b = by (ltb (length l) held) refl
  where
    by : (t : Bool) → ltb (length l) held ≡ t → cond (ltb (length (take held l)) held) (take held l ++ (b ∷ [])) (take held l) ≡ take held (l ++ (b ∷ []))
    by true e =
        let h : length l < held = ltb-true (length l) held e in
        let a : take held l ≡ l = take_all held l (omega arith) in
        let n : length (l ++ (b ∷ [])) ≤ held = rw (length-append l (b ∷ [])) (omega arith) in
        rw (a, e, take_all held (l ++ (b ∷ [])) n)
    by false e =
        let h : held ≤ length l = ltb-false (length l) held e in
        let n : length (take held l) ≡ held = length-take-le held l h in
        rw (n, take-append-le held l (b ∷ []) h)

module _ {S : Type 0} (step : S → List ℕ → Said S) (clip : (s : S) (l : List ℕ) → step s (take held l) ≡ step s l) where
  last-front : (s : S) (l : List ℕ) → lastFed step s (take held l) ≡ joined (answers step s (last_line l))
  unfolding lastFed joined answers last_line
  last-front s [] = refl
  last-front s (a ∷ l) = ap (λ (x : Said S). x.text) (clip s (a ∷ l)) ∙ sym (append-nil (step s (a ∷ l)).text)

  -- fed to the end, a program that keeps 16,385 bytes of a line prints what it would print of the lines themselves
  pub fed-lines : (bs : List ℕ) (s : S) (l : List ℕ) → finished step (chunkFed step s (take held l) bs) ≡ joined (answers step s (lines_from l bs))
  unfolding finished chunkFed lines_from byteFed saying joined answers
  fed-lines [] s l = last-front s l
  fed-lines (b ∷ bs) s l = by (eqb b 10) refl (λ s l. fed-lines bs s l)
    where
      by : (t : Bool) → eqb b 10 ≡ t → ((s : S) (l : List ℕ) → finished step (chunkFed step s (take held l) bs) ≡ joined (answers step s (lines_from l bs))) → finished step (chunkFed step s (take held l) (b ∷ bs)) ≡ joined (answers step s (lines_from l (b ∷ bs)))
      by true e ih =
          rw (e, clip s l)
          (append_assoc (step s l).text (chunkFed step (step s l).state [] bs).text (lastFed step (chunkFed step (step s l).state [] bs).state (chunkFed step (step s l).state [] bs).line)
          ∙ ap (λ (t : List ℕ). (step s l).text ++ t) (ih (step s l).state []))
      by false e ih = rw (e, grown-front l b) (ih s (l ++ (b ∷ [])))

  -- the whole input
  pub fed-printed : (s : S) (input : List ℕ) → finished step (chunkFed step s [] input) ≡ printed step s input
  unfolding printed lines_of
  fed-printed s input = fed-lines input s []

-- ---- a byte that ends no line, with a text before it
pub fed-eq : {S : Type 0} {s s' : S} {l l' t t' : List ℕ} → s ≡ s' → l ≡ l' → t ≡ t' → fed s l t ≡ fed s' l' t'
fed-eq e f g = rw (e, f, g)

module _ {S : Type 0} (step : S → List ℕ → Said S) (s : S) (line out : List ℕ) (len at b : ℕ) (n : length line ≡ held) (other : b ≡ 10 → ⊥) where
  -- it is kept
  pub byte-kept : len < held → fed s (take (len + 1) (set line len b)) (take at out) ≡ saying (take at out) (byteFed step s (take len line) b)
  unfolding saying byteFed grown
  byte-kept h =
      let k : length (take len line) ≡ len = length-take-le len line (omega arith) in
      rw (ne_eqb b 10 other, k, lt-ltb len held h) (fed-eq refl (rw (add-one len) (take-suc-set line len b (omega arith))) (sym (append-nil (take at out))))

  -- or it is one too many
  pub byte-skipped : len ≤ held → held ≤ len → fed s (take len line) (take at out) ≡ saying (take at out) (byteFed step s (take len line) b)
  unfolding saying byteFed grown
  byte-skipped h g =
      let k : length (take len line) ≡ len = length-take-le len line (omega arith) in
      rw (ne_eqb b 10 other, k, le-ltb len held g) (fed-eq refl refl (sym (append-nil (take at out))))
