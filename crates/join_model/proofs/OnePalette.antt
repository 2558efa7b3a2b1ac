-- What holds of two sheets that `join` did not refuse: the joined palette's laws, read in the storage of both outcomes.
-- Assumes nothing.
use mathlib.Core.Path.{◌≡◌, refl, sym, ap, subst, ◌∙◌}
use mathlib.Core.Bool.{Bool, true, false}
use mathlib.Core.List.{List, [], ◌∷◌, ◌++◌, map, flat_map, append_assoc}
use Prim.Native.Nat.{ℕ, zero, suc, ◌+◌, ◌*◌, ◌<◌, ◌≤◌}
use native.Mathlib.Omega.{arith}
use borrow.Author.Tests.{ltb-false, eqb-true, eqb-false}
use lib.Dec.{ltb, eqb}
use lib.IntN.{ℤ}
use lib.Ieee.{Float, nan}
use lib.ListN.{length, take, drop, get_or, length-take}
use lib.Seq.{take_at, get_or-take}
use Rattle.base.specs.Checks.{◌when◌, first_of, refused_or}
use Rattle.base.specs.Answer.{Told, Joint, joint}
use Rattle.base.specs.Numbers.{joined_too_long}
use Rattle.base.specs.Answer.Told.{result, alone}
use Rattle.base.specs.Lists.{some, over, range, All}
use Rattle.base.specs.Triples.{lab_at}
use Rattle.base.proofs.Scan.{some-none}
use Rattle.base.proofs.Nowhere.{or-both, nowhere-append}
use Rattle.base.proofs.First.{past, past-both, first_past, result-first, no_zero}
use Rattle.base.proofs.Over.{length_over}
use Rattle.color_doubles.specs.Finite.{unfit}
use Rattle.sheet.specs.Sheet.{Sheet, stray}
use Rattle.sheet.specs.Checks.{limit_checks, mark_checks, index_checks, lab_checks, sheet_checks, Limits, WellFormed, Marked}
use Rattle.sheet.proofs.Strays.{stray-more}
use Rattle.sheet.proofs.Judging.{judged-fine, none-applied}
use Rattle.sheet.proofs.Marks.{marked-sheet, marked-short}
use Rattle.sheet_diff.specs.Mask.{shown}
use Rattle.edit.specs.Storage.{numbers_of}
use Rattle.history_ledger.specs.Handle.{fresh}
use Rattle.join_model.specs.Joined.{Entry, entry_at, entries_of, colours_of, labs_of, marks_of, moved_to}
use Rattle.join_model.specs.News.{news_of}
use Rattle.join_model.specs.Stored.{Below}
use Rattle.join_model.proofs.Named.{labs_at}
use Rattle.join_model.proofs.Joined.{joins}
use Rattle.join_model.proofs.Bytes.{entries-length, joined-news, colours-front, labs-front, locks-front, map-map}
use Rattle.join_model.proofs.Bytes.{colours-named, labs-named, marks-named, colours-append, labs-append}
use Rattle.join_model.proofs.Bytes.{marks-append, colours-length, labs-length, marks-length, news-below}
use Rattle.join_model.proofs.Shown.{map-but, none-moved, first-shown, second-shown, second-inside, longer}
use Rattle.sheet_lent.specs.Lent.{Lent, lent_checks, LentFits}
use Rattle.join_model.specs.Join.{joined_of, Left, left_as, join_checks, join_of, outcome}
use Rattle.join_model.specs.OnePalette.{sheet_in, OnePalette, JoinsSheets}
use Rattle.sheet_lent.proofs.Judging.{lent_none}

-- ---- LAB numbers that are finite
three-fit : (l : List Float) (k i : ℕ) → i < k → 3 * k ≤ length l → some unfit (take (3 * k) l) ≡ false
    → some unfit (numbers_of (lab_at l i)) ≡ false
unfolding some lab_at
three-fit l k i h long e =
    or-both (one (3 * i) (omega arith))
    (or-both (one (3 * i + 1) (omega arith)) (or-both (one (3 * i + 2) (omega arith)) refl))
  where
    one : (j : ℕ) → j < 3 * k → unfit (get_or l j nan) ≡ false
    one j b =
        ap unfit (sym (get_or-take (3 * k) l j nan b))
        ∙ some-none unfit (take (3 * k) l) j nan e (omega (arith, length-take (3 * k) l))

labs-fit : (l : List Float) (k : ℕ) → 3 * k ≤ length l → some unfit (take (3 * k) l) ≡ false → (is : List ℕ)
    → Below k is → some unfit (labs_at l is) ≡ false
unfolding labs_at flat_map Below All some
labs-fit l k long e [] b = refl
labs-fit l k long e (i ∷ is) b =
    nowhere-append unfit (numbers_of (lab_at l i)) (labs_at l is) (three-fit l k i b.0 long e)
    (labs-fit l k long e is b.1)

-- ---- two sheets whose entries join to at most 255
module _ (a : Sheet) (locks : List Bool) (b : Sheet) (locks2 : List Bool) (x y : Lent) (fa : Marked a locks)
    (fb : Marked b locks2) (lx : LentFits a.w a.h x) (ly : LentFits b.w b.h y)
    (short : length (joined_of a locks b locks2) ≤ 255) where
  abbrev all : List Entry
  all = joined_of a locks b locks2

  abbrev n : ℕ
  n = length all

  abbrev E1 : List Entry
  E1 = entries_of a.k a.palette a.lab locks

  abbrev news : List ℕ
  news = news_of (take (3 * a.k) a.palette) b.palette b.k

  abbrev N : List Entry
  N = map (entry_at b.palette b.lab locks2) news

  long_a : 3 * a.k ≤ length a.palette
  long_a = omega (arith, fa.formed.limits.palette-length, fa.formed.limits.k-small)

  long_b : 3 * b.k ≤ length b.palette
  long_b = omega (arith, fb.formed.limits.palette-length, fb.formed.limits.k-small)

  parts : all ≡ E1 ++ N
  parts = joined-news a.k a.palette a.lab locks b.k b.palette b.lab locks2 long_a long_b

  -- the front of what is written is the front of its first part
  fore : {A : Type 0} (f g l : List A) (m : ℕ) → length f ≡ m → take m (over (f ++ g) l) ≡ f
  unfolding over
  fore f g l m e = ap (take m) (append_assoc f g (drop (length (f ++ g)) l)) ∙ take_at f _ m e

  whole : {A : Type 0} (f l : List A) (m : ℕ) → length f ≡ m → take m (over f l) ≡ f
  unfolding over
  whole f l m e = take_at f _ m e

  count1 : length E1 ≡ a.k
  count1 = entries-length a.k a.palette a.lab locks

  colours1 : colours_of E1 ≡ take (3 * a.k) a.palette
  unfolding entries_of
  colours1 = colours-named a.palette a.lab locks (range 0 a.k) ∙ colours-front a.k a.palette long_a

  labs1 : labs_of E1 ≡ take (3 * a.k) a.lab
  unfolding entries_of
  labs1 =
      labs-named a.palette a.lab locks (range 0 a.k)
      ∙ labs-front a.k a.lab (omega (arith, fa.formed.limits.lab-length, fa.formed.limits.k-small))

  marks1 : marks_of E1 ≡ take a.k locks
  unfolding entries_of
  marks1 =
      marks-named a.palette a.lab locks (range 0 a.k)
      ∙ locks-front a.k locks (omega (arith, fa.marks, fa.formed.limits.k-small))

  fit : some unfit (labs_of all) ≡ false
  fit =
      ap (some unfit) (ap labs_of parts ∙ labs-append E1 N)
      ∙ nowhere-append unfit (labs_of E1) (labs_of N) (ap (some unfit) labs1 ∙ fa.formed.fit)
      (ap (some unfit) (labs-named b.palette b.lab locks2 news)
      ∙ labs-fit b.lab b.k (omega (arith, fb.formed.limits.lab-length, fb.formed.limits.k-small)) fb.formed.fit news (news-below (take (3 * a.k) a.palette) b.palette b.k))

  -- an outcome is well-formed
  formed : (s : Sheet) (z : Lent) → Limits s → LentFits s.w s.h z → (indices : List ℤ)
      → length indices ≡ s.w * s.h → some (stray n) indices ≡ false
      → let o = outcome all indices z.holds in
      first_of (sheet_checks (mark_checks o.locks) (sheet_in s n o)) ≡ 0
  unfolding outcome
  formed s z ls lz indices long e =
      let o = outcome all indices z.holds in
      let f : WellFormed (sheet_in s n o) =
      record {
        limits =
            record {
              w-small = ls.w-small;
              h-small = ls.h-small;
              k-small = short;
              cells = ls.cells;
              palette-length =
                  length_over (colours_of all) z.holds.palette
                  (omega (arith, colours-length all, lz.palette-length))
                  ∙ lz.palette-length;
              lab-length =
                  length_over (labs_of all) z.holds.lab (omega (arith, labs-length all, lz.lab-length))
                  ∙ lz.lab-length;
              indices-length = long;
            };
        in-range = e;
        fit = ap (some unfit) (whole (labs_of all) z.holds.lab (3 * n) (labs-length all)) ∙ fit;
      } in
      let m : length o.locks ≡ 255 =
      length_over (marks_of all) z.holds.locks (omega (arith, marks-length all, lz.locks-length))
      ∙ lz.locks-length in
      sym (marked-sheet (sheet_in s n o) o.locks m 0 (judged-fine (sheet_in s n o) f)).value

  abbrev moved : List ℤ
  moved = map (moved_to all b.palette) b.indices

  moved_length : (l : List ℤ) → length (map (moved_to all b.palette) l) ≡ length l
  moved_length [] = refl
  moved_length (z ∷ l) = ap suc (moved_length l)

  holds : OnePalette a locks b locks2 (left_as (result (joint n fresh fresh)) (outcome all a.indices x.holds) (outcome all moved y.holds)) n
  unfolding outcome
  holds =
      record {
        begins-colours =
            ap (λ (t : List Entry). take (3 * a.k) (over (colours_of t) x.holds.palette)) parts
            ∙ ap (λ (t : List ℕ). take (3 * a.k) (over t x.holds.palette)) (colours-append E1 N)
            ∙ fore (colours_of E1) (colours_of N) x.holds.palette (3 * a.k)
            (colours-length E1 ∙ ap (λ (i : ℕ). 3 * i) count1)
            ∙ colours1;
        begins-labs =
            ap (λ (t : List Entry). take (3 * a.k) (over (labs_of t) x.holds.lab)) parts
            ∙ ap (λ (t : List Float). take (3 * a.k) (over t x.holds.lab)) (labs-append E1 N)
            ∙ fore (labs_of E1) (labs_of N) x.holds.lab (3 * a.k) (labs-length E1 ∙ ap (λ (i : ℕ). 3 * i) count1)
            ∙ labs1;
        begins-marks =
            ap (λ (t : List Entry). take a.k (over (marks_of t) x.holds.locks)) parts
            ∙ ap (λ (t : List Bool). take a.k (over t x.holds.locks)) (marks-append E1 N)
            ∙ fore (marks_of E1) (marks_of N) x.holds.locks a.k (marks-length E1 ∙ count1) ∙ marks1;
        same-colours =
            whole (colours_of all) x.holds.palette (3 * n) (colours-length all)
            ∙ sym (whole (colours_of all) y.holds.palette (3 * n) (colours-length all));
        same-labs =
            whole (labs_of all) x.holds.lab (3 * n) (labs-length all)
            ∙ sym (whole (labs_of all) y.holds.lab (3 * n) (labs-length all));
        same-marks =
            whole (marks_of all) x.holds.locks n (marks-length all)
            ∙ sym (whole (marks_of all) y.holds.locks n (marks-length all));
        unchanged = refl;
        first-shows = map-but (stray a.k) (shown (over (colours_of all) x.holds.palette)) (shown a.palette)
            (first-shown a.k a.palette a.lab locks b.k b.palette b.lab locks2 long_a long_b x.holds.palette)
            a.indices fa.formed.in-range;
        second-shows =
            map-map (shown (over (colours_of all) y.holds.palette)) (moved_to all b.palette) b.indices
            ∙ map-but (stray b.k)
            (λ z. shown (over (colours_of all) y.holds.palette) (moved_to all b.palette z)) (shown b.palette)
            (second-shown a.k a.palette a.lab locks b.k b.palette b.lab locks2 long_a long_b y.holds.palette)
            b.indices fb.formed.in-range;
        least = λ palette e h. (joins E1 (entries_of b.k b.palette b.lab locks2)).least palette (rw count1 e) h;
        first-formed = formed a x fa.formed.limits lx a.indices fa.formed.limits.indices-length
            (stray-more a.k n a.indices (longer a.k a.palette a.lab locks b.k b.palette b.lab locks2 long_a long_b x.holds.palette) fa.formed.in-range);
        second-formed =
            formed b y fb.formed.limits ly moved (moved_length b.indices ∙ fb.formed.limits.indices-length)
            (none-moved (stray b.k) (stray n) (moved_to all b.palette) (second-inside a.k a.palette a.lab locks b.k b.palette b.lab locks2 long_a long_b y.holds.palette) b.indices fb.formed.in-range);
      }

-- ---- from the answer back: no check applied
abbrev told-count : Told Joint → ℕ
told-count (result j) = j.k
told-count (alone n) = 0

answered : (m : ℕ) (r : ℕ → Left) (l : Left) (j : Joint) → ((i : ℕ) → (r i).answer ≡ alone i)
    → (refused_or m r l).answer ≡ result j → m ≡ 0
unfolding refused_or
answered zero r l j f e = refl
answered (suc m) r l j f e = let z : ◌≡◌ {A = ℕ} 0 1 = cc (f (suc m), e) in absurd (omega arith)

value_of : (s : Sheet) (locks : List Bool) → length locks ≡ 255 → first_of (sheet_checks (mark_checks locks) s) ≡ 0
    → first_of (sheet_checks [] s) ≡ 0
unfolding sheet_checks
value_of s locks m e =
    let p = past-both (limit_checks s) (mark_checks locks ++ (index_checks s ++ lab_checks s)) e in
    first_past (limit_checks s) (index_checks s ++ lab_checks s) p.left
    ∙ (past-both (mark_checks locks) (index_checks s ++ lab_checks s) p.right).right

one : 0 < 1
one = omega arith

-- 1 to 3 of a sheet and its marks: none applies
marked-none : (s : Sheet) (locks : List Bool) → first_of (sheet_checks (mark_checks locks) s) ≡ 0 → Marked s locks
marked-none s locks e = go (eqb (length locks) 255) refl
  where
    go : (t : Bool) → eqb (length locks) 255 ≡ t → Marked s locks
    go true q =
        let m : length locks ≡ 255 = eqb-true (length locks) 255 q in
        record { formed = none-applied s (value_of s locks m e); marks = m }
    go false q = absurd (no_zero one ((marked-short s locks (eqb-false (length locks) 255 q)).value ∙ e))

pass : (a : Sheet) (locks : List Bool) (b : Sheet) (locks2 : List Bool) (x y : Lent)
    → first_of (join_checks a locks b locks2 x y) ≡ 0
    → Marked a locks × Marked b locks2 × LentFits a.w a.h x × LentFits b.w b.h y ×
    (length (joined_of a locks b locks2) ≤ 255)
unfolding join_checks
pass a locks b locks2 x y e =
    let p1 = past-both (sheet_checks (mark_checks locks) a) _ e in
    let p2 = past-both (sheet_checks (mark_checks locks2) b) _ p1.right in
    let p3 = past-both (lent_checks a.w a.h x) _ p2.right in
    let p4 = past-both (lent_checks b.w b.h y) _ p3.right in
    let p5 = past (joined_too_long when ltb 255 (length (joined_of a locks b locks2))) [] (omega arith) p4.right in
    (marked-none a locks p1.left, marked-none b locks2 p2.left, lent_none a.w a.h x p3.left, lent_none b.w b.h y p4.left, ltb-false 255 (length (joined_of a locks b locks2)) p5.off)

pub one-palette : JoinsSheets
unfolding join_of
one-palette a locks b locks2 x y j e =
    let all = joined_of a locks b locks2 in
    let done : Left =
    left_as (result (joint (length all) fresh fresh)) (outcome all a.indices x.holds)
    (outcome all (map (moved_to all b.palette) b.indices) y.holds) in
    let none : first_of (join_checks a locks b locks2 x y) ≡ 0 =
    answered (first_of (join_checks a locks b locks2 x y)) (λ m. left_as (alone m) x.holds y.holds) done j
    (λ i. refl) e in
    let is : done ≡ join_of a locks b locks2 x y =
    result-first (join_checks a locks b locks2 x y) (λ m. left_as (alone m) x.holds y.holds) done none in
    let count : length all ≡ j.k = ap told-count (ap (λ (l : Left). l.answer) is ∙ e) in
    let c = pass a locks b locks2 x y none in
    subst (λ (l : Left). OnePalette a locks b locks2 l j.k) is (subst (λ (m : ℕ). OnePalette a locks b locks2 done m) count (holds a locks b locks2 x y c.0 c.1 c.2 c.3 c.4))
