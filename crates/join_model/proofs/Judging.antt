-- What is known of `join` at each of its tests, and what both lent sheets hold at its end. Assumes nothing.
use mathlib.Core.Path.{◌≡◌, refl, sym, ap, ◌∙◌}
use mathlib.Core.Bool.{Bool}
use mathlib.Core.List.{List, [], ◌∷◌, ◌++◌, map}
use Prim.Native.Nat.{ℕ, ◌+◌, ◌*◌, ◌<◌, ◌≤◌}
use native.Mathlib.Omega.{arith}
use borrow.Author.Tests.{lt-ltb, le-ltb}
use lib.Dec.{ltb}
use lib.IntN.{ℤ}
use lib.Ieee.{Float}
use lib.ListN.{length, take, length-append, length-map, length-take}
use lib.Seq.{take_at}
use Rattle.base.specs.Checks.{Check, ◌when◌, first_of}
use Rattle.base.specs.Answer.{joint}
use Rattle.base.specs.Answer.Told.{result, alone}
use Rattle.base.specs.Numbers.{joined_too_long}
use Rattle.base.specs.Lists.{over}
use Rattle.base.proofs.Each.{all_map}
use Rattle.base.proofs.Over.{length_over}
use Rattle.base.proofs.First.{first_past, first-here, refused-first, result-first}
use Rattle.base.specs.declared.Handle.{Handle}
use Rattle.sheet.specs.Sheet.{Sheet}
use Rattle.sheet.specs.Checks.{mark_checks, sheet_checks, Marked, MarkedJudged}
use Rattle.sheet.proofs.Marks.{past-marked}
use Rattle.history_ledger.specs.Handle.{fresh}
use Rattle.join_model.specs.Joined.{Entry, entry_at, entries_of, colours_of, labs_of, moved_to}
use Rattle.join_model.specs.News.{Found}
use Rattle.join_model.specs.Stored.{Below, all_of, Entered}
use Rattle.join_model.specs.Places.{goes}
use Rattle.join_model.proofs.Bytes.{entries-length, joined-news, goes-entries, colours-length, labs-length}
use Rattle.join_model.proofs.Bytes.{news-below, news-short}
use Rattle.sheet_lent.specs.Lent.{buffers_of, Lent, lent_checks, LentJudged}
use Rattle.join_model.specs.Join.{joined_of, outcome, left_as, join_checks, join_of}
use Rattle.join_model.specs.Judged.{brought_of, Joinable, JoinJudged}

-- ---- the entries that bring a colour
module _ (a : Sheet) (locks : List Bool) (b : Sheet) (locks2 : List Bool) (first : Marked a locks)
    (second : Marked b locks2)
    {before news : List ℕ} {n : ℕ} (f : Found (brought_of a b) before news n) where
  all-is : joined_of a locks b locks2 ≡ all_of a.k a.palette a.lab locks b.palette b.lab locks2 (brought_of a b)
  unfolding all_of
  all-is =
      joined-news a.k a.palette a.lab locks b.k b.palette b.lab locks2
      (omega (arith, first.formed.limits.palette-length, first.formed.limits.k-small))
      (omega (arith, second.formed.limits.palette-length, second.formed.limits.k-small))

  all-count : length (joined_of a locks b locks2) ≡ a.k + n
  unfolding all_of
  all-count =
      ap length all-is
      ∙ length-append (entries_of a.k a.palette a.lab locks)
      (map (entry_at b.palette b.lab locks2) (brought_of a b))
      ∙ rw (
        entries-length a.k a.palette a.lab locks,
        length-map (brought_of a b) (entry_at b.palette b.lab locks2),
        f.count,
      )

  listed : take n news ≡ brought_of a b
  unfolding over
  listed = ap (take n) f.list ∙ take_at (brought_of a b) _ n (sym f.count)

  pub listed_below : Below 255 (take n news)
  unfolding Below
  listed_below =
      rw listed
      (all_map (λ (i : ℕ) (q : i < b.k). omega (arith, second.formed.limits.k-small)) (brought_of a b)
      (news-below (take (3 * a.k) a.palette) b.palette b.k))

  pub listed-few : n ≤ 255
  listed-few =
      omega
      (arith, f.count, news-short (take (3 * a.k) a.palette) b.palette b.k, second.formed.limits.k-small)

  pub listed-length : length before ≡ 255 → length news ≡ 255
  listed-length q =
      ap length f.list ∙ length_over (brought_of a b) before (omega (arith, f.count, listed-few)) ∙ q

-- ---- the tests, one after the other
module _ (a : Sheet) (locks : List Bool) (b : Sheet) (locks2 : List Bool) (x y : Lent) where
  abbrev c2 : List Check
  c2 = sheet_checks (mark_checks locks2) b

  abbrev c3 : List Check
  c3 = lent_checks a.w a.h x

  abbrev c4 : List Check
  c4 = lent_checks b.w b.h y

  abbrev c5 : List Check
  c5 = joined_too_long when ltb 255 (length (joined_of a locks b locks2)) ∷ []

  abbrev Judges : List ℕ → List ℕ → ℕ → ℕ → Type 0
  Judges before after r n = JoinJudged a locks b locks2 x y before after r n

  refusing : {before after : List ℕ} {r n : ℕ} → r ≡ first_of (join_checks a locks b locks2 x y) → (r ≡ 0 → ⊥)
      → Judges before after r n
  refusing e h = record { value = e; fine = λ z. absurd (h z) }

  -- the first sheet, the second, the lent ones
  pub join_first : {before after : List ℕ} {n : ℕ} (r : ℕ) → MarkedJudged a locks r → (r ≡ 0 → ⊥)
      → Judges before after r n
  unfolding join_checks
  join_first r j h =
      refusing (first-here (sheet_checks (mark_checks locks) a) (c2 ++ (c3 ++ (c4 ++ c5))) r j.value h) h

  module _ {n1 : ℕ} (j : MarkedJudged a locks n1) (e1 : n1 ≡ 0) where
    past1 : first_of (join_checks a locks b locks2 x y) ≡ first_of (c2 ++ (c3 ++ (c4 ++ c5)))
    unfolding join_checks
    past1 = past-marked a locks n1 j e1 (c2 ++ (c3 ++ (c4 ++ c5)))

    pub join-second : {before after : List ℕ} {n : ℕ} (r : ℕ) → MarkedJudged b locks2 r → (r ≡ 0 → ⊥)
        → Judges before after r n
    join-second r j2 h = refusing (first-here c2 (c3 ++ (c4 ++ c5)) r j2.value h ∙ sym past1) h

    module _ {n2 : ℕ} (j2 : MarkedJudged b locks2 n2) (e2 : n2 ≡ 0) where
      past2 : first_of (join_checks a locks b locks2 x y) ≡ first_of (c3 ++ (c4 ++ c5))
      past2 = past1 ∙ past-marked b locks2 n2 j2 e2 (c3 ++ (c4 ++ c5))

      pub join-lent : {before after : List ℕ} {n : ℕ} (r : ℕ) → LentJudged a.w a.h x r → (r ≡ 0 → ⊥)
          → Judges before after r n
      join-lent r l h = refusing (first-here c3 (c4 ++ c5) r l.value h ∙ sym past2) h

      module _ {n3 : ℕ} (l : LentJudged a.w a.h x n3) (e3 : n3 ≡ 0) where
        past3 : first_of (join_checks a locks b locks2 x y) ≡ first_of (c4 ++ c5)
        past3 = past2 ∙ first_past c3 (c4 ++ c5) (sym l.value ∙ e3)

        pub join-lent2 : {before after : List ℕ} {n : ℕ} (r : ℕ) → LentJudged b.w b.h y r → (r ≡ 0 → ⊥)
            → Judges before after r n
        join-lent2 r m h = refusing (first-here c4 c5 r m.value h ∙ sym past3) h

        module _ {n4 : ℕ} (m : LentJudged b.w b.h y n4) (e4 : n4 ≡ 0) where
          past4 : first_of (join_checks a locks b locks2 x y) ≡ first_of c5
          past4 = past3 ∙ first_past c4 c5 (sym m.value ∙ e4)

          module _ {before news : List ℕ} {n : ℕ} (f : Found (brought_of a b) before news n) where
            count : length (joined_of a locks b locks2) ≡ a.k + n
            count = all-count a locks b locks2 (j.fine e1) (j2.fine e2) f

            -- the joined palette
            pub join-long : 255 < a.k + n → Judges before news 27 n
            unfolding first_of
            join-long h = refusing (sym (past4 ∙ rw (count, lt-ltb 255 (a.k + n) h))) (λ e. omega arith)

            pub join-short : a.k + n ≤ 255 → Judges before news 0 n
            unfolding first_of
            join-short h =
                record {
                  value = sym (past4 ∙ rw (count, le-ltb 255 (a.k + n) h));
                  fine = λ _.
                      record {
                        first = j.fine e1;
                        second = j2.fine e2;
                        lent = l.fine e3;
                        lent2 = m.fine e4;
                        news = f;
                        short = h;
                      };
                }

-- ---- the answer
module _ (a : Sheet) (locks : List Bool) (b : Sheet) (locks2 : List Bool) (x y : Lent) {before news : List ℕ} {r n : ℕ}
    (g : JoinJudged a locks b locks2 x y before news r n) where
  pub join-refused : (r ≡ 0 → ⊥) → left_as (alone r) x.holds y.holds ≡ join_of a locks b locks2 x y
  unfolding join_of
  join-refused h =
      refused-first (join_checks a locks b locks2 x y) (λ m. left_as (alone m) x.holds y.holds) _ r g.value h

  -- both outcomes
  module _ (e0 : r ≡ 0) {p p2 : List ℕ} {q q2 : List Float} {s s2 : List Bool}
      (e : Entered (all_of a.k a.palette a.lab locks b.palette b.lab locks2 (take n news)) x.holds.palette x.holds.lab x.holds.locks p q s)
      (e2 : Entered (all_of a.k a.palette a.lab locks b.palette b.lab locks2 (take n news)) y.holds.palette y.holds.lab y.holds.locks p2 q2 s2) where
    abbrev all : List Entry
    all = joined_of a locks b locks2

    j : Joinable a locks b locks2 x y before news n
    j = g.fine e0

    same-all : all_of a.k a.palette a.lab locks b.palette b.lab locks2 (take n news) ≡ all
    same-all =
        ap (all_of a.k a.palette a.lab locks b.palette b.lab locks2)
        (listed a locks b locks2 j.first j.second j.news)
        ∙ sym (all-is a locks b locks2 j.first j.second j.news)

    count-all : length all ≡ a.k + n
    count-all = all-count a locks b locks2 j.first j.second j.news

    -- the joined colours stand in front of the second lent palette
    front : take (3 * (a.k + n)) p2 ≡ colours_of all
    unfolding over
    front =
        ap (take (3 * (a.k + n))) (e2.colours ∙ ap (λ (l : List Entry). over (colours_of l) y.holds.palette) same-all)
        ∙ take_at (colours_of all) _ (3 * (a.k + n)) (colours-length all ∙ ap (λ (i : ℕ). 3 * i) count-all)

    pub front_long : 3 * (a.k + n) ≤ length p2
    front_long =
        omega (arith, ap length front, length-take (3 * (a.k + n)) p2, colours-length all, count-all)

    -- what was written is as long as it was
    pub colours-long : length p ≡ length x.holds.palette
    colours-long =
        ap length (e.colours ∙ ap (λ (t : List Entry). over (colours_of t) x.holds.palette) same-all)
        ∙ length_over (colours_of all) x.holds.palette
        (omega (arith, colours-length all, count-all, j.short, j.lent.palette-length))

    pub labs-long : length q ≡ length x.holds.lab
    labs-long =
        ap length (e.labs ∙ ap (λ (t : List Entry). over (labs_of t) x.holds.lab) same-all)
        ∙ length_over (labs_of all) x.holds.lab
        (omega (arith, labs-length all, count-all, j.short, j.lent.lab-length))

    pub join-done : (indices indices2 : List ℤ) (u v : Handle) → u ≡ fresh → v ≡ fresh → indices ≡ a.indices
        → indices2 ≡ map (goes (take (3 * (a.k + n)) p2) b.palette) b.indices
        → left_as (result (joint (a.k + n) u v)) (buffers_of p q indices s)
        (buffers_of p2 q2 indices2 s2) ≡ join_of a locks b locks2 x y
    unfolding join_of outcome
    join-done indices indices2 u v fu fv i i2 =
        rw (fu, fv, i, i2, front, moved b.indices, e.colours, e.labs, e.marks, e2.colours, e2.labs, e2.marks, same-all, ← count-all)
        (result-first (join_checks a locks b locks2 x y) (λ m. left_as (alone m) x.holds y.holds) _ (sym g.value ∙ e0))
      where
        moved : (l : List ℤ) → map (goes (colours_of all) b.palette) l ≡ map (moved_to all b.palette) l
        moved [] = refl
        moved (z ∷ l) = rw (goes-entries all b.palette z, moved l)
