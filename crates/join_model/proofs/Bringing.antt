-- The entries that bring a colour, listed one after the other. Assumes nothing.
use mathlib.Core.Path.{◌≡◌, refl, sym, ap, ◌∙◌}
use mathlib.Core.Bool.{Bool, true, false, not, cond, ◌||◌, ◌&&◌}
use mathlib.Core.List.{List, [], ◌∷◌, ◌++◌, append-nil}
use Prim.Native.Nat.{ℕ, zero, suc, ◌+◌, ◌*◌, ◌<◌, ◌≤◌}
use borrow.Author.Tests.{lt-ltb, le-ltb, ltb-true, ltb-false}
use lib.Dec.{ltb}
use lib.Seq.{length-take-le}
use native.Mathlib.Omega.{arith}
use native.Mathlib.Nat.{zero-add}
use lib.ListN.{length, take, set, length-append}
use Rattle.base.specs.Lists.{kept, range}
use Rattle.base.proofs.Kept.{kept_append}
use Rattle.base.proofs.Collect.{range-next}
use Rattle.base.proofs.Over.{over_none, over-set}
use Rattle.base.specs.declared.Rgb.{Rgb}
use Rattle.base.specs.Triples.{rgb_at}
use Rattle.edit.specs.Checks.{same_rgb, listed}
use Rattle.join_model.specs.News.{brings, news_of, Found}
use Rattle.join_model.specs.Places.{place_in}

module _ (first second : List ℕ) where
  pub news-next : (i : ℕ) (t : Bool) → brings first second i ≡ t
      → news_of first second (i + 1) ≡ news_of first second i ++ cond t (i ∷ []) []
  unfolding news_of kept
  news-next i t e =
      ap (kept (brings first second)) (range-next 0 i ∙ ap (λ (n : ℕ). range 0 i ++ (n ∷ [])) (zero-add i))
      ∙ kept_append (brings first second) (range 0 i) (i ∷ [])
      ∙ rw e

  pub found_none : (before : List ℕ) → Found (news_of first second 0) before before 0
  unfolding news_of kept range
  found_none before = record { count = refl; list = over_none before }

  module _ (i : ℕ) {before after : List ℕ} {n : ℕ} (f : Found (news_of first second i) before after n) where
    pub found-new : brings first second i ≡ true → n < length before
        → Found (news_of first second (i + 1)) before (set after n i) (n + 1)
    found-new e h =
        record {
          count = rw (news-next i true e, length-append (news_of first second i) (i ∷ [])) (omega (arith, f.count));
          list = rw (f.list, news-next i true e) (over-set (news_of first second i) before n i (sym f.count) h);
        }

    pub found-old : brings first second i ≡ false → Found (news_of first second (i + 1)) before after n
    found-old e = rw (news-next i false e, append-nil (news_of first second i)) f

-- ---- one entry, tested
up : (p n : ℕ) → ltb p n ≡ ltb (suc p) (suc n)
up p n = go (ltb p n) refl
  where
    go : (b : Bool) → ltb p n ≡ b → b ≡ ltb (suc p) (suc n)
    go true e = sym (lt-ltb (suc p) (suc n) (omega (arith, ltb-true p n e)))
    go false e = sym (le-ltb (suc p) (suc n) (omega (arith, ltb-false p n e)))

-- a colour is listed where its place is one of the entries
listed-place : (n : ℕ) (l : List ℕ) (c : Rgb) → length l ≡ 3 * n → listed l c ≡ ltb (place_in l c) n
unfolding listed place_in
listed-place zero [] c e = refl
listed-place zero (r ∷ l) c e = absurd (omega arith)
listed-place (suc n) [] c e = absurd (omega arith)
listed-place (suc n) (r ∷ []) c e = absurd (omega arith)
listed-place (suc n) (r ∷ g ∷ []) c e = absurd (omega arith)
listed-place (suc n) (r ∷ g ∷ b ∷ l) c e = go (same_rgb (record { r = r; g = g; b = b }) c) (listed-place n l c (omega arith))
  where
    go : (t : Bool) → listed l c ≡ ltb (place_in l c) n → t || listed l c ≡ ltb (cond t 0 (suc (place_in l c))) (suc n)
    go true h = sym (lt-ltb 0 (suc n) (omega arith))
    go false h = h ∙ up (place_in l c) n

module _ (first second : List ℕ) (i : ℕ) (c : Rgb) (e : c ≡ rgb_at second i) where
  -- it is in the first
  pub brings-first : (k p : ℕ) → length first ≡ 3 * k → p ≡ place_in first c → p < k → false ≡ brings first second i
  unfolding brings
  brings-first k p long q h = rw (← e, listed-place k first c long, ← q, lt-ltb p k h)

  -- it stands before
  pub brings-before : (p : ℕ) → 3 * i ≤ length second → p ≡ place_in (take (3 * i) second) c → p < i → false ≡ brings first second i
  unfolding brings
  brings-before p long q h =
      rw (← e, listed-place i (take (3 * i) second) c (length-take-le (3 * i) second long), ← q, lt-ltb p i h)
      (none (listed first c))
    where
      none : (b : Bool) → false ≡ not b && false
      none true = refl
      none false = refl

  -- neither
  pub brings-new : (k p r : ℕ) → length first ≡ 3 * k → p ≡ place_in first c → k ≤ p → 3 * i ≤ length second
      → r ≡ place_in (take (3 * i) second) c → i ≤ r → true ≡ brings first second i
  unfolding brings
  brings-new k p r long q h long2 s g =
      rw (
        ← e,
        listed-place k first c long,
        ← q,
        le-ltb p k h,
        listed-place i (take (3 * i) second) c (length-take-le (3 * i) second long2),
        ← s,
        le-ltb r i g,
      )
