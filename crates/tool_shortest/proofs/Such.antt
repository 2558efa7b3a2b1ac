-- Lists that keep E13's terms: joined, normalised, and as short as can be. Assumes nothing.
use Prim.Native.Nat.{ℕ, zero, suc, ◌+◌, ◌*◌, ◌^◌, ◌≤◌, ◌<◌}
use mathlib.Core.Path.{◌≡◌, refl, sym, ap, ◌∙◌}
use mathlib.Core.Bool.{Bool, true, false, cond}
use mathlib.Core.List.{List, [], ◌∷◌, ◌++◌, map}
use native.Mathlib.Omega.{arith}
use borrow.Author.Tests.{leb-false}
use lib.IntN.{ℤ, pos, negsuc}
use lib.ListN.{length, get_or}
use mir.Syntax.{w16}
use mir.Val.{SFits}
use Rattle.base.proofs.Back.{never}
use Rattle.base.specs.Lists.{some, kept, All}
use Rattle.base.proofs.Each.{all_append, at_all}
use Rattle.base.proofs.Kept.{all-kept}
use Rattle.base.proofs.Nowhere.{first-not, rest-not}
use Rattle.sheet.specs.Sheet.{Sheet, Picture, view, stray}
use Rattle.sheet.specs.Checks.{WellFormed}
use Rattle.edit.specs.Change.{Change, place, packed, unpacked, painted, new_of}
use Rattle.edit.specs.Apply.{nextPicture}
use Rattle.change_list.specs.Between.{between}
use Rattle.journal_write.specs.Fit.{FitChange}
use Rattle.journal_write.proofs.Changes.{unpacked-packed}
use Rattle.base_sort.proofs.Order.{less, same, more, tri}
use Rattle.change_normal.specs.Normal.{key_of, joined, enter, entered, changing, normalize_of}
use Rattle.change_normal.specs.Laws.{On, FirstOlds}
use Rattle.change_normal.proofs.Group.{enter-less, enter-same, enter-more}
use Rattle.change_normal.proofs.Shortest.{first-olds, inside, normal-on, normal-olds, same-picture, shortest}
use Rattle.change_normal.proofs.ByPlace.{normal-again}
use Rattle.change_normal.proofs.Pictures.{painted-append, normal-between}
use Rattle.change_stroke.specs.Stroke.{extended}
use Rattle.tool_shortest.specs.Shortest.{Drawn, Shortest, Returned}

-- ---- first olds
module _ (w : ℕ) (l : List ℤ) where
  abbrev Unnamed : Change → List Change → Type 0
  Unnamed c m = All (λ e. key_of c ≡ key_of e → ⊥) m

  -- where more came before, less is asked
  first_more : (cs m n : List Change) → ((c : Change) → Unnamed c n → Unnamed c m) → FirstOlds w l m cs → FirstOlds w l n cs
  unfolding FirstOlds All
  first_more [] m n f o = tt
  first_more (c ∷ cs) m n f o = ((λ u. o.0 (f c u)), first_more cs (c ∷ m) (c ∷ n) (λ e u. (u.0, f e u.1)) o.1)

  pub first-append : (a b m : List Change) → FirstOlds w l m a → FirstOlds w l [] b → FirstOlds w l m (a ++ b)
  unfolding FirstOlds All
  first-append [] b m o p = first_more b [] m (λ c u. tt) p
  first-append (c ∷ a) b m o p = (o.0, first-append a b (c ∷ m) o.1 p)

-- ---- news
module _ (P : ℤ → Type 0) where
  abbrev News : List Change → Type 0
  News cs = All (λ c. P c.new) cs

  news-enter : (c : Change) (m : List Change) → P c.new → News m → News (enter c m)
  unfolding All enter joined
  news-enter c [] p a = (p, tt)
  news-enter c (e ∷ m) p a = elim (tri (key_of c) (key_of e)) [
    | less q ↦ rw (enter-less c e m q) (p, a)
    | same q ↦ rw (enter-same c e m q) (p, a.1)
    | more q ↦ rw (enter-more c e m q) (a.0, news-enter c m p a.1)
  ]

  news-entered : (m cs : List Change) → News m → News cs → News (entered m cs)
  unfolding All entered
  news-entered m [] a b = a
  news-entered m (c ∷ cs) a b = news-entered (enter c m) cs (news-enter c m b.0 a) b.1

  pub news-normal : (cs : List Change) → News cs → News (normalize_of cs)
  unfolding All normalize_of
  news-normal cs a = all-kept (λ c. P c.new) changing (entered [] cs) (news-entered [] cs tt a)

-- ---- an index of a sheet
pub all-not : {A : Type 0} (p : A → Bool) (l : List A) → some p l ≡ false → All (λ x. p x ≡ false) l
unfolding All
all-not p [] e = tt
all-not p (x ∷ l) e = (first-not p x l e, all-not p l (rest-not p x l e))

pub index-fits : (k : ℕ) (z : ℤ) → k ≤ 255 → stray k z ≡ false → SFits w16 z
unfolding stray
index-fits k (pos n) h e = let b = leb-false k n e in record { sfits = omega arith }
index-fits k (negsuc zero) h e = record { sfits = omega arith }
index-fits k (negsuc (suc n)) h e = never (sym e)

pub index-known : (k : ℕ) (l : List ℤ) (p : ℕ) → some (stray k) l ≡ false → p < length l → stray k (get_or l p (pos 0)) ≡ false
index-known k l p e h = at_all (λ z. stray k z ≡ false) (pos 0) l (all-not (stray k) l e) p h

module _ (s : Sheet) (f : WellFormed s) where
  abbrev narrow : s.w ≤ 2 ^ 16
  narrow = let a = f.limits.w-small in omega arith

  module _ (cs : List Change) (d : Drawn s cs) where
    -- "the normalised list makes the same picture, and every other .. names at least as many changes"
    pub shortest-of : Shortest s cs
    unfolding nextPicture view
    shortest-of =
        let size = f.limits.indices-length in
        record {
          same = ap (λ (l : List ℤ). record { w = s.w; h = s.h; k = s.k; indices = l; colours = (view s).colours; labs = (view s).labs })
              (same-picture s.w s.h narrow s.indices size cs d.on d.olds);
          least = λ ds e. shortest s.w s.h narrow s.indices size cs d.on d.olds ds (ap (λ (p : Picture). p.indices) e);
        }

    all-olds : All (λ c. c.old ≡ get_or s.indices (place s.w c) (pos 0)) (normalize_of cs)
    all-olds = normal-olds s.w s.h narrow s.indices f.limits.indices-length cs d.on d.olds

    drawn-normal : Drawn s (normalize_of cs)
    drawn-normal =
        record {
          on = normal-on s.w s.h narrow s.indices f.limits.indices-length cs d.on d.olds;
          olds = first-olds s.w s.indices [] (normalize_of cs) all-olds;
          news = news-normal (λ z. stray s.k z ≡ false) cs d.news;
        }

    pub returned-normal : Returned s (normalize_of cs)
    returned-normal = record { drawn = drawn-normal; normal = normal-again cs }

  pub drawn-append : (a b : List Change) → Drawn s a → Drawn s b → Drawn s (a ++ b)
  drawn-append a b p q =
      record {
        on = all_append (On s.w s.h) a b p.on q.on;
        olds = first-append s.w s.indices a b [] p.olds q.olds;
        news = all_append (λ c. stray s.k c.new ≡ false) a b p.news q.news;
      }

  -- ---- a stroke that goes on event by event is what all its changes give at once
  between-drawn : (cs : List Change) → Drawn s cs → normalize_of cs ≡ between s.w s.indices (painted new_of s.w cs s.indices)
  between-drawn cs d = normal-between s.w s.h narrow s.indices f.limits.indices-length cs d.on d.olds

  pub extended-whole : (a b : List Change) → Drawn s a → Drawn s b → extended (normalize_of a) b ≡ normalize_of (a ++ b)
  unfolding extended
  extended-whole a b p q =
      let w = s.w in
      let l = s.indices in
      between-drawn (normalize_of a ++ b) (drawn-append (normalize_of a) b (drawn-normal a p) q)
      ∙ ap (between w l)
      (painted-append w (normalize_of a) b l
      ∙ ap (painted new_of w b) (same-picture w s.h narrow l f.limits.indices-length a p.on p.olds)
      ∙ sym (painted-append w a b l))
      ∙ sym (between-drawn (a ++ b) (drawn-append a b p q))

  -- ---- written as numbers, and read
  fit : (c : Change) → On s.w s.h c → c.old ≡ get_or s.indices (place s.w c) (pos 0) → stray s.k c.new ≡ false → FitChange c
  unfolding On
  fit c o q n =
      let a = f.limits.w-small in
      let b = f.limits.h-small in
      let known : stray s.k (get_or s.indices (place s.w c) (pos 0)) ≡ false =
      index-known s.k s.indices (place s.w c) f.in-range (rw f.limits.indices-length (inside s.w s.h narrow c o)) in
      record {
        x_fits = omega (arith, o.0);
        y-fits = omega (arith, o.1);
        old-fits = rw q (index-fits s.k _ f.limits.k-small known);
        new-fits = index-fits s.k c.new f.limits.k-small n;
      }

  trip : (cs : List Change) → All (On s.w s.h) cs → All (λ c. c.old ≡ get_or s.indices (place s.w c) (pos 0)) cs → All (λ c. stray s.k c.new ≡ false) cs
      → map unpacked (map packed cs) ≡ cs
  unfolding All
  trip [] a b c = refl
  trip (e ∷ cs) a b c = rw (unpacked-packed e (fit e a.0 b.0 c.0), trip cs a.1 b.1 c.1)

  pub packed-trip : (cs : List Change) → Returned s cs → map unpacked (map packed cs) ≡ cs
  packed-trip cs r = trip cs r.drawn.on (rw r.normal at (all-olds cs r.drawn)) r.drawn.news
