-- The joined palette begins with the first, holds the second, and none that does is shorter: what it brings are different
-- colours, none of them in the first, so each has a place of its own behind the first's entries. Assumes nothing.
use mathlib.Core.Path.{◌≡◌, refl, sym, ap, ◌∙◌}
use mathlib.Core.Bool.{Bool, true, false, cond, ◌||◌}
use mathlib.Core.List.{List, [], ◌∷◌, ◌++◌, map, append_assoc, append-nil}
use Prim.Native.Nat.{ℕ, suc, ◌≤◌, ◌<◌}
use native.Mathlib.Omega.{arith}
use borrow.Author.Tests.{eqb-true, eq-eqb}
use lib.Dec.{eqb}
use lib.ListN.{length, take, drop, get_or, length-append, length-map, length-take, length-drop, take-append-drop}
use lib.Seq.{take_at}
use Rattle.base.specs.declared.Rgb.{Rgb}
use Rattle.base.specs.Lists.{some, All}
use Rattle.base.proofs.Back.{never}
use Rattle.base.proofs.Bools.{and_left, and_right}
use Rattle.base.proofs.Each.{all_of, all_append, at_all}
use Rattle.base.proofs.Nowhere.{or-both, first-not, rest-not, some-map}
use Rattle.edit.specs.Checks.{same_rgb}
use Rattle.join_model.specs.Joined.{Entry, rgb_of, has, joined, place_of, Joins}

-- ---- colours
pub same-rgb : (a b : Rgb) → same_rgb a b ≡ true → a ≡ b
unfolding same_rgb
same-rgb a b e =
    let r : a.r ≡ b.r = eqb-true _ _ (and_left (eqb a.r b.r) _ e) in
    let t = and_right (eqb a.r b.r) _ e in
    let g : a.g ≡ b.g = eqb-true _ _ (and_left (eqb a.g b.g) _ t) in
    let bl : a.b ≡ b.b = eqb-true _ _ (and_right (eqb a.g b.g) _ t) in
    λ i. record { r = r i; g = g i; b = bl i }

pub rgb-itself : (a : Rgb) → same_rgb a a ≡ true
unfolding same_rgb
rgb-itself a = rw (eq-eqb a.r a.r refl, eq-eqb a.g a.g refl, eq-eqb a.b a.b refl)

-- ---- where a colour is
pub has-append : (k l : List Entry) (c : Rgb) → has (k ++ l) c ≡ has k c || has l c
unfolding has some
has-append [] l c = refl
has-append (e ∷ k) l c = rw (has-append k l c) (or-again (same_rgb e.rgb c) (has k c) (has l c))
  where
    or-again : (x y z : Bool) → x || (y || z) ≡ (x || y) || z
    or-again true y z = refl
    or-again false y z = refl

found : (l : List Entry) (c : Rgb) (none : Entry) → has l c ≡ true
    → (place_of l c < length l) × ((get_or l (place_of l c) none).rgb ≡ c)
unfolding has some place_of
found [] c none e = never e
found (x ∷ l) c none e = go (same_rgb x.rgb c) refl e (λ h. found l c none h)
  where
    go : (b : Bool) → same_rgb x.rgb c ≡ b → b || has l c ≡ true
        → (has l c ≡ true → (place_of l c < length l) × ((get_or l (place_of l c) none).rgb ≡ c))
        → (cond b 0 (suc (place_of l c)) < length (x ∷ l)) × ((get_or (x ∷ l) (cond b 0 (suc (place_of l c))) none).rgb ≡ c)
    go true q h f = (omega arith, same-rgb x.rgb c q)
    go false q h f = (omega (arith, (f h).0), (f h).1)

single : {A : Type 0} (P : A → Type 0) (x : A) → P x → All P (x ∷ [])
unfolding All
single P x p = (p, tt)

only : (e : Entry) → has (e ∷ []) e.rgb ≡ true
unfolding has some
only e = rw (rgb-itself e.rgb)

-- ---- colours that are all different
unfoldable Different : List Entry → Type 0
Different [] = Unit {0}
Different (e ∷ l) = (has l e.rgb ≡ false) × Different l

-- without the first entry of a colour
unfoldable without : Rgb → List Entry → List Entry
without c [] = []
without c (e ∷ l) = cond (same_rgb e.rgb c) l (e ∷ without c l)

without-length : (c : Rgb) (l : List Entry) → has l c ≡ true → length l ≡ suc (length (without c l))
unfolding has some without
without-length c [] h = never h
without-length c (e ∷ l) h = go (same_rgb e.rgb c) h (λ k. without-length c l k)
  where
    go : (b : Bool) → b || has l c ≡ true → (has l c ≡ true → length l ≡ suc (length (without c l)))
        → length (e ∷ l) ≡ suc (length (cond b l (e ∷ without c l)))
    go true h f = refl
    go false h f = omega (arith, f h)

without_other : (c d : Rgb) (l : List Entry) → same_rgb d c ≡ false → has l d ≡ true → has (without c l) d ≡ true
unfolding has some without
without_other c d [] n h = never h
without_other c d (e ∷ l) n h = go (same_rgb e.rgb c) refl (same_rgb e.rgb d) refl h (λ k. without_other c d l n k)
  where
    go : (b : Bool) → same_rgb e.rgb c ≡ b → (t : Bool) → same_rgb e.rgb d ≡ t → t || has l d ≡ true
        → (has l d ≡ true → has (without c l) d ≡ true) → has (cond b l (e ∷ without c l)) d ≡ true
    go true q true r h f = never (sym n ∙ rw (sym (same-rgb e.rgb d r) ∙ same-rgb e.rgb c q) (rgb-itself c))
    go true q false r h f = h
    go false q true r h f = rw r
    go false q false r h f = rw r (f h)

rgb-other : (a b : Rgb) → same_rgb a b ≡ false → same_rgb b a ≡ false
rgb-other a b n = go (same_rgb b a) refl
  where
    go : (t : Bool) → same_rgb b a ≡ t → t ≡ false
    go true e = never (sym n ∙ rw (same-rgb b a e) (rgb-itself a))
    go false e = refl

-- the entries of l have colours of m, and not c
others : (c : Rgb) (m l : List Entry) → has l c ≡ false → All (λ e. has m e.rgb ≡ true) l
    → All (λ e. has (without c m) e.rgb ≡ true) l
unfolding All has some
others c m [] n a = tt
others c m (e ∷ l) n a =
    (without_other c e.rgb m (first-not (λ (x : Entry). same_rgb x.rgb c) e l n) a.0, others c m l (rest-not (λ (x : Entry). same_rgb x.rgb c) e l n) a.1)

pigeons : (l m : List Entry) → Different l → All (λ e. has m e.rgb ≡ true) l → length l ≤ length m
unfolding Different All
pigeons [] m d a = omega arith
pigeons (e ∷ l) m d a =
    omega (arith, without-length e.rgb m a.0, pigeons l (without e.rgb m) d.1 (others e.rgb m l d.0 a.1))

-- ---- what is brought
none_of : (k l : List Entry) (c : Rgb) → has (k ++ l) c ≡ false → (has k c ≡ false) × (has l c ≡ false)
none_of k l c e = go (has k c) (has l c) (sym (has-append k l c) ∙ e)
  where
    go : (x y : Bool) → x || y ≡ false → (x ≡ false) × (y ≡ false)
    go true y e = never (sym e)
    go false y e = (refl, e)

one_more : (l : List Entry) (e : Entry) → Different l → has l e.rgb ≡ false → Different (l ++ (e ∷ []))
unfolding Different has some
one_more [] e d n = (refl, tt)
one_more (x ∷ l) e d n =
    let a = first-not (λ (y : Entry). same_rgb y.rgb e.rgb) x l n in
    (has-append l (e ∷ []) x.rgb ∙ or-both d.0 (or-both (rgb-other x.rgb e.rgb a) refl), one_more l e d.1 (rest-not (λ (y : Entry). same_rgb y.rgb e.rgb) x l n))

module _ (first : List Entry) (Q : Entry → Type 0) where
  record Brought (there : List Entry) : Type 0 where
    news : List Entry
    is : there ≡ first ++ news
    new : All (λ e. has first e.rgb ≡ false) news
    different : Different news
    each : All Q news

  bring : (there : List Entry) (e : Entry) → Brought there → Q e
      → Brought (cond (has there e.rgb) there (there ++ (e ∷ [])))
  bring there e b q = go (has there e.rgb) refl
    where
      go : (t : Bool) → has there e.rgb ≡ t → Brought (cond t there (there ++ (e ∷ [])))
      go true h = b
      go false h =
          let apart = none_of first b.news e.rgb (rw b.is at h) in
          record {
            news = b.news ++ (e ∷ []);
            is = ap (λ (l : List Entry). l ++ (e ∷ [])) b.is ∙ append_assoc first b.news (e ∷ []);
            new =
                all_append (λ e. has first e.rgb ≡ false) b.news (e ∷ []) b.new
                (single (λ e. has first e.rgb ≡ false) e apart.0);
            different = one_more b.news e b.different apart.1;
            each = all_append Q b.news (e ∷ []) b.each (single Q e q);
          }

  all-brought : (there es : List Entry) → Brought there → All Q es → Brought (joined there es)
  unfolding joined All
  all-brought there [] b a = b
  all-brought there (e ∷ es) b a =
      all-brought (cond (has there e.rgb) there (there ++ (e ∷ []))) es (bring there e b a.0) a.1

  begun : Brought first
  unfolding All Different
  begun = record { news = []; is = sym (append-nil first); new = tt; different = tt; each = tt }

-- ---- what is there stays, and what is brought is there
kept : (there : List Entry) (e : Entry) (c : Rgb) → has there c ≡ true
    → has (cond (has there e.rgb) there (there ++ (e ∷ []))) c ≡ true
kept there e c h = go (has there e.rgb)
  where
    go : (t : Bool) → has (cond t there (there ++ (e ∷ []))) c ≡ true
    go true = h
    go false = has-append there (e ∷ []) c ∙ rw h

kept-all : (there es : List Entry) (c : Rgb) → has there c ≡ true → has (joined there es) c ≡ true
unfolding joined
kept-all there [] c h = h
kept-all there (e ∷ es) c h = kept-all (cond (has there e.rgb) there (there ++ (e ∷ []))) es c (kept there e c h)

here : (there : List Entry) (e : Entry) → has (cond (has there e.rgb) there (there ++ (e ∷ []))) e.rgb ≡ true
here there e = go (has there e.rgb) refl
  where
    go : (t : Bool) → has there e.rgb ≡ t → has (cond t there (there ++ (e ∷ []))) e.rgb ≡ true
    go true h = h
    go false h = has-append there (e ∷ []) e.rgb ∙ rw h (only e)

brought : (there es : List Entry) → All (λ e. has (joined there es) e.rgb ≡ true) es
unfolding joined All
brought there [] = tt
brought there (e ∷ es) =
    (kept-all (cond (has there e.rgb) there (there ++ (e ∷ []))) es e.rgb (here there e), brought (cond (has there e.rgb) there (there ++ (e ∷ []))) es)

-- ---- a palette that begins with the first
by-colours : (k l : List Entry) (c : Rgb) → map rgb_of k ≡ map rgb_of l → has k c ≡ has l c
unfolding has
by-colours k l c e =
    sym (some-map rgb_of (λ r. same_rgb r c) k) ∙ ap (some (λ r. same_rgb r c)) e ∙ some-map rgb_of (λ r. same_rgb r c) l

module _ (first palette : List Entry) (same : map rgb_of (take (length first) palette) ≡ map rgb_of first) where
  abbrev n : ℕ
  n = length first

  behind : (c : Rgb) → has palette c ≡ true → has first c ≡ false → has (drop n palette) c ≡ true
  behind c h f =
      go (has (take n palette) c) (by-colours (take n palette) first c same ∙ f)
      (sym (has-append (take n palette) (drop n palette) c) ∙ rw (take-append-drop n palette) h)
    where
      go : (x : Bool) → x ≡ false → x || has (drop n palette) c ≡ true → has (drop n palette) c ≡ true
      go true e q = never (sym e)
      go false e q = q

  all-behind : (l : List Entry) → All (λ e. has palette e.rgb ≡ true) l → All (λ e. has first e.rgb ≡ false) l
      → All (λ e. has (drop n palette) e.rgb ≡ true) l
  unfolding All
  all-behind [] a b = tt
  all-behind (e ∷ l) a b = (behind e.rgb a.0 b.0, all-behind l a.1 b.1)

  long : n ≤ length palette
  long = omega (arith, ap length same, length-map (take n palette) rgb_of, length-map first rgb_of, length-take n palette)

  fewest : (second : List Entry) → All (λ e. has palette e.rgb ≡ true) second
      → length (joined first second) ≤ length palette
  fewest second a =
      let b =
      all-brought first (λ e. has palette e.rgb ≡ true) first second
      (begun first (λ e. has palette e.rgb ≡ true)) a in
      let p = pigeons b.news (drop n palette) b.different (all-behind b.news b.each b.new) in
      omega (arith, ap length b.is, length-append first b.news, length-drop n palette, long)

pub joins : (first second : List Entry) → Joins first second
joins first second =
    record {
      begins =
          let b =
          all-brought first (λ e. Unit {0}) first second (begun first (λ e. Unit {0})) (all_of (λ e. tt) second) in
          ap (take (length first)) b.is ∙ take_at first b.news (length first) refl;
      shows =
          λ n none h. found (joined first second) _ none
          (at_all (λ e. has (joined first second) e.rgb ≡ true) none second (brought first second) n h);
      least = λ palette same a. fewest first palette same second a;
    }
