-- Entries and the bytes of storage: what the code finds in bytes is what the definitions say of entries, and the joined
-- palette is the first's entries and those that bring a colour. Assumes nothing.
use mathlib.Core.Path.{◌≡◌, refl, sym, ap, ◌∙◌}
use mathlib.Core.Bool.{Bool, true, false, not, cond, ◌&&◌, ◌||◌}
use mathlib.Core.List.{List, [], ◌∷◌, ◌++◌, map, flat_map, append_assoc, append-nil}
use Prim.Native.Nat.{ℕ, zero, suc, ◌+◌, ◌*◌, ◌<◌, ◌≤◌}
use native.Mathlib.Omega.{arith}
use native.Mathlib.Nat.{add-zero, add-suc, suc-add, zero-add}
use native.Mathlib.Numerals.{add-one}
use lib.IntN.{ℤ, pos, negsuc}
use lib.Ieee.{Float, nan}
use lib.ListN.{length, take, drop, length-map}
use lib.Seq.{take-add, take-suc}
use Rattle.base.specs.declared.Rgb.{Rgb}
use Rattle.base.specs.Lists.{some, range, kept, over}
use Rattle.base.specs.Triples.{rgb_at, lab_at}
use Rattle.base.proofs.Collect.{range-suc, flat_map-append, flat_map-one, length-range, length-flat_map}
use Rattle.base.proofs.Each.{all-in-range}
use Rattle.base.proofs.Kept.{kept-few, all-kept}
use Rattle.sheet.proofs.Entries.{three, entry}
use Rattle.edit.specs.Checks.{same_rgb, listed}
use Rattle.edit.specs.Locks.{lock_at}
use Rattle.edit.specs.Storage.{bytes_of, numbers_of}
use Rattle.join_model.specs.Joined.{Entry, entry_at, entries_of, colours_of, labs_of, marks_of, has, joined, place_of}
use Rattle.join_model.specs.Joined.{moved_to}
use Rattle.join_model.specs.News.{brings, news_of}
use Rattle.join_model.specs.Stored.{Below, all_of, Entered}
use Rattle.join_model.proofs.Named.{colours_at, labs_at, locks_at}
use Rattle.join_model.specs.Places.{place_in, goes}
use Rattle.join_model.proofs.Bringing.{news-next}
use Rattle.join_model.proofs.Joined.{same-rgb, has-append}

-- ---- storage of entries that a list names
flat-map : {A B C : Type 0} (f : B → List C) (g : A → B) (l : List A) → flat_map f (map g l) ≡ flat_map (λ x. f (g x)) l
unfolding flat_map
flat-map f g [] = refl
flat-map f g (x ∷ l) = ap (λ r. f (g x) ++ r) (flat-map f g l)

pub map-map : {A B C : Type 0} (f : B → C) (g : A → B) (l : List A) → map f (map g l) ≡ map (λ x. f (g x)) l
map-map f g [] = refl
map-map f g (x ∷ l) = ap (λ r. f (g x) ∷ r) (map-map f g l)

map-append : {A B : Type 0} (f : A → B) (k l : List A) → map f (k ++ l) ≡ map f k ++ map f l
map-append f [] l = refl
map-append f (x ∷ k) l = ap (λ r. f x ∷ r) (map-append f k l)

module _ (p : List ℕ) (l : List Float) (m : List Bool) (is : List ℕ) where
  pub colours-named : colours_of (map (entry_at p l m) is) ≡ colours_at p is
  unfolding colours_of colours_at
  colours-named = flat-map (λ (e : Entry). bytes_of e.rgb) (entry_at p l m) is

  pub labs-named : labs_of (map (entry_at p l m) is) ≡ labs_at l is
  unfolding labs_of labs_at
  labs-named = flat-map (λ (e : Entry). numbers_of e.lab) (entry_at p l m) is

  pub marks-named : marks_of (map (entry_at p l m) is) ≡ locks_at m is
  unfolding marks_of locks_at
  marks-named = map-map (λ (e : Entry). e.lock) (entry_at p l m) is

module _ (k l : List Entry) where
  pub colours-append : colours_of (k ++ l) ≡ colours_of k ++ colours_of l
  unfolding colours_of
  colours-append = flat_map-append (λ (e : Entry). bytes_of e.rgb) k l

  pub labs-append : labs_of (k ++ l) ≡ labs_of k ++ labs_of l
  unfolding labs_of
  labs-append = flat_map-append (λ (e : Entry). numbers_of e.lab) k l

  pub marks-append : marks_of (k ++ l) ≡ marks_of k ++ marks_of l
  unfolding marks_of
  marks-append = map-append (λ (e : Entry). e.lock) k l

pub colours-length : (es : List Entry) → length (colours_of es) ≡ 3 * length es
unfolding colours_of
colours-length es = length-flat_map (λ (e : Entry). bytes_of e.rgb) 3 (λ e. refl) es ∙ omega arith

pub labs-length : (es : List Entry) → length (labs_of es) ≡ 3 * length es
unfolding labs_of
labs-length es = length-flat_map (λ (e : Entry). numbers_of e.lab) 3 (λ e. refl) es ∙ omega arith

pub marks-length : (es : List Entry) → length (marks_of es) ≡ length es
unfolding marks_of
marks-length es = length-map es (λ (e : Entry). e.lock)

pub entries-length : (k : ℕ) (p : List ℕ) (l : List Float) (m : List Bool) → length (entries_of k p l m) ≡ k
unfolding entries_of
entries-length k p l m = length-map (range 0 k) (entry_at p l m) ∙ length-range 0 k

-- ---- the first k entries are the front of the storage
front-next : {A : Type 0} (g : ℕ → List A) (l : List A) (k : ℕ) → take 3 (drop (3 * k) l) ≡ g k
    → flat_map g (range 0 k) ≡ take (3 * k) l → flat_map g (range 0 (suc k)) ≡ take (3 * suc k) l
front-next g l k e h =
    let q : 3 * suc k ≡ 3 * k + 3 = omega arith in
    ap (flat_map g) (range-suc 0 k ∙ ap (λ (n : ℕ). range 0 k ++ (n ∷ [])) (zero-add k)) ∙ flat_map-append g (range 0 k) (k ∷ [])
    ∙ rw (flat_map-one g k, h, q, take-add (3 * k) 3 l, e)

pub colours-front : (k : ℕ) (p : List ℕ) → 3 * k ≤ length p → colours_at p (range 0 k) ≡ take (3 * k) p
unfolding colours_at range flat_map
colours-front zero p h = refl
colours-front (suc k) p h =
    front-next (λ (i : ℕ). bytes_of (rgb_at p i)) p k (entry p k (omega arith)) (colours-front k p (omega arith))

pub labs-front : (k : ℕ) (l : List Float) → 3 * k ≤ length l → labs_at l (range 0 k) ≡ take (3 * k) l
unfolding labs_at range flat_map lab_at
labs-front zero l h = refl
labs-front (suc k) l h =
    front-next (λ (i : ℕ). numbers_of (lab_at l i)) l k (three l (3 * k) nan (omega arith)) (labs-front k l (omega arith))

pub locks-front : (k : ℕ) (m : List Bool) → k ≤ length m → locks_at m (range 0 k) ≡ take k m
unfolding locks_at range
locks-front zero m h = refl
locks-front (suc k) m h =
    ap (map (lock_at m)) (range-suc 0 k ∙ ap (λ (n : ℕ). range 0 k ++ (n ∷ [])) (zero-add k)) ∙ map-append (lock_at m) (range 0 k) (k ∷ [])
    ∙ ap (λ r. r ++ (lock_at m k ∷ [])) (locks-front k m (omega arith)) ∙ sym (take-suc m k false h)

-- ---- found in bytes, found in entries
pub listed-entries : (es : List Entry) (c : Rgb) → listed (colours_of es) c ≡ has es c
unfolding listed colours_of flat_map has some
listed-entries [] c = refl
listed-entries (e ∷ es) c = ap (λ (b : Bool). same_rgb e.rgb c || b) (listed-entries es c)

pub place-entries : (es : List Entry) (c : Rgb) → place_in (colours_of es) c ≡ place_of es c
unfolding place_in colours_of flat_map place_of
place-entries [] c = refl
place-entries (e ∷ es) c = ap (λ (n : ℕ). cond (same_rgb e.rgb c) 0 (suc n)) (place-entries es c)

pub goes-entries : (es : List Entry) (p : List ℕ) (z : ℤ) → goes (colours_of es) p z ≡ moved_to es p z
unfolding goes moved_to
goes-entries es p (pos n) = ap pos (place-entries es (rgb_at p n))
goes-entries es p (negsuc n) = refl

listed-front : (k : ℕ) (p : List ℕ) (l : List Float) (m : List Bool) (c : Rgb) → 3 * k ≤ length p
    → listed (take (3 * k) p) c ≡ has (map (entry_at p l m) (range 0 k)) c
listed-front k p l m c h =
    ap (λ (b : List ℕ). listed b c) (sym (colours-front k p h) ∙ sym (colours-named p l m (range 0 k))) ∙ listed-entries (map (entry_at p l m) (range 0 k)) c

has_one : (e : Entry) (c : Rgb) (t : Bool) → same_rgb e.rgb c ≡ t → has (e ∷ []) c ≡ t
unfolding has some
has_one e c true q = rw q
has_one e c false q = rw q

-- ---- one entry more, where it is not there yet
or-again : (x y z : Bool) → (x || y) || z ≡ x || (y || z)
or-again true y z = refl
or-again false y z = refl

absorbed : (there : List Entry) (e : Entry) (c : Rgb) → has there e.rgb ≡ true
    → has there c || has (e ∷ []) c ≡ has there c
absorbed there e c h = go (same_rgb e.rgb c) refl
  where
    or-true : (b : Bool) → b ≡ true → b || true ≡ b
    or-true true q = refl
    or-true false q = sym q

    or-false : (b : Bool) → b || false ≡ b
    or-false true = refl
    or-false false = refl

    one : (t : Bool) → same_rgb e.rgb c ≡ t → has (e ∷ []) c ≡ t
    one t q = has_one e c t q

    go : (t : Bool) → same_rgb e.rgb c ≡ t → has there c || has (e ∷ []) c ≡ has there c
    go true q = rw (one true q) (or-true (has there c) (ap (has there) (sym (same-rgb e.rgb c q)) ∙ h))
    go false q = rw (one false q) (or-false (has there c))

has_more : (there : List Entry) (e : Entry) (c : Rgb)
    → has (cond (has there e.rgb) there (there ++ (e ∷ []))) c ≡ has there c || has (e ∷ []) c
has_more there e c = go (has there e.rgb) refl
  where
    go : (t : Bool) → has there e.rgb ≡ t → has (cond t there (there ++ (e ∷ []))) c ≡ has there c || has (e ∷ []) c
    go true q = sym (absorbed there e c q)
    go false q = has-append there (e ∷ []) c

-- ---- the joined palette: the first's entries, and those of the second that bring a colour
module _ (first : List Entry) (bytes : List ℕ) (known : (c : Rgb) → listed bytes c ≡ has first c) (p : List ℕ)
    (l : List Float) (m : List Bool) where
  abbrev e2 : ℕ → Entry
  e2 = entry_at p l m

  abbrev so_far : ℕ → List Entry
  so_far i = first ++ map e2 (news_of bytes p i)

  -- what was brought so far, with the first, has the colours that were met so far
  Met : ℕ → Type 0
  Met i = (c : Rgb) → has (so_far i) c ≡ has first c || has (map e2 (range 0 i)) c

  brings-is : (i : ℕ) → 3 * i ≤ length p → Met i → brings bytes p i ≡ not (has (so_far i) (e2 i).rgb)
  unfolding brings Met
  brings-is i h s =
      rw (known (rgb_at p i), listed-front i p l m (rgb_at p i) h, s (rgb_at p i))
      (neither (has first (rgb_at p i)) (has (map e2 (range 0 i)) (rgb_at p i)))
    where
      neither : (a b : Bool) → not a && not b ≡ not (a || b)
      neither true b = refl
      neither false b = refl

  news-suc : (i : ℕ) (t : Bool) → brings bytes p i ≡ t → news_of bytes p (suc i) ≡ news_of bytes p i ++ cond t (i ∷ []) []
  news-suc i t e = ap (news_of bytes p) (sym (add-one i)) ∙ news-next bytes p i t e

  -- one entry more
  grown : (i : ℕ) → 3 * i ≤ length p → Met i
      → cond (has (so_far i) (e2 i).rgb) (so_far i) (so_far i ++ (e2 i ∷ [])) ≡ so_far (suc i)
  grown i h s = go (has (so_far i) (e2 i).rgb) refl
    where
      go : (t : Bool) → has (so_far i) (e2 i).rgb ≡ t → cond t (so_far i) (so_far i ++ (e2 i ∷ [])) ≡ so_far (suc i)
      go true q =
          ap (λ (r : List ℕ). first ++ map e2 r) (sym (news-suc i false (brings-is i h s ∙ ap not q) ∙ append-nil (news_of bytes p i)))
      go false q =
          append_assoc first (map e2 (news_of bytes p i)) (e2 i ∷ [])
          ∙ ap (λ (r : List Entry). first ++ r) (sym (map-append e2 (news_of bytes p i) (i ∷ [])))
          ∙ ap (λ (r : List ℕ). first ++ map e2 r) (sym (news-suc i true (brings-is i h s ∙ ap not q)))

  met-more : (i : ℕ) (c : Rgb) → has (map e2 (range 0 (suc i))) c ≡ has (map e2 (range 0 i)) c || has (e2 i ∷ []) c
  met-more i c =
      ap (λ (r : List ℕ). has (map e2 r) c) (range-suc 0 i ∙ ap (λ (n : ℕ). range 0 i ++ (n ∷ [])) (zero-add i))
      ∙ ap (λ (r : List Entry). has r c) (map-append e2 (range 0 i) (i ∷ []))
      ∙ has-append (map e2 (range 0 i)) (e2 i ∷ []) c

  none-met : Met 0
  unfolding Met news_of kept range has some
  none-met c = rw (append-nil first) (or-none (has first c))
    where
      or-none : (b : Bool) → b ≡ b || false
      or-none true = refl
      or-none false = refl

  met : (i : ℕ) → 3 * i ≤ length p → Met i
  unfolding Met
  met zero h c = none-met c
  met (suc i) h c =
      let s = met i (omega arith) in
      ap (λ (r : List Entry). has r c) (sym (grown i (omega arith) s))
      ∙ has_more (so_far i) (e2 i) c
      ∙ ap (λ (b : Bool). b || has (e2 i ∷ []) c) (s c)
      ∙ or-again (has first c) (has (map e2 (range 0 i)) c) (has (e2 i ∷ []) c)
      ∙ ap (λ (b : Bool). has first c || b) (sym (met-more i c))

  all-joined : (i n : ℕ) → 3 * (i + n) ≤ length p → joined (so_far i) (map e2 (range i n)) ≡ so_far (i + n)
  unfolding joined range
  all-joined i zero h = rw (add-zero i)
  all-joined i (suc n) h =
      ap (λ (t : List Entry). joined t (map e2 (range (suc i) n))) (grown i (omega arith) (met i (omega arith)))
      ∙ all-joined (suc i) n (rw (suc-add i n, ← add-suc i n) h)
      ∙ ap so_far (suc-add i n ∙ sym (add-suc i n))

pub joined-news : (k : ℕ) (p : List ℕ) (l : List Float) (m : List Bool) (k2 : ℕ) (p2 : List ℕ) (l2 : List Float) (m2 : List Bool)
    → 3 * k ≤ length p → 3 * k2 ≤ length p2
    → joined (entries_of k p l m) (entries_of k2 p2 l2 m2) ≡ entries_of k p l m ++ map (entry_at p2 l2 m2)
    (news_of (take (3 * k) p) p2 k2)
unfolding entries_of news_of kept range
joined-news k p l m k2 p2 l2 m2 h h2 =
    ap (λ (t : List Entry). joined t (map (entry_at p2 l2 m2) (range 0 k2))) (sym (append-nil (map (entry_at p l m) (range 0 k))))
    ∙ all-joined (map (entry_at p l m) (range 0 k)) (take (3 * k) p) (λ c. listed-front k p l m c h) p2 l2 m2 0 k2
    (rw (zero-add k2) h2)
    ∙ rw (zero-add k2)

-- ---- the entries that bring a colour are entries of the second
pub news-below : (f p : List ℕ) (k : ℕ) → Below k (news_of f p k)
unfolding Below news_of
news-below f p k = all-kept (λ i. i < k) (brings f p) (range 0 k) (all-in-range (λ i. i < k) 0 k (λ i a b. omega arith))

-- and no more than it has
pub news-short : (f p : List ℕ) (k : ℕ) → length (news_of f p k) ≤ k
unfolding news_of
news-short f p k = omega (arith, kept-few (brings f p) (range 0 k), length-range 0 k)

-- ---- the joined entries, as the code stores them
module _ (k : ℕ) (p : List ℕ) (l : List Float) (m : List Bool) (p2 : List ℕ) (l2 : List Float) (m2 : List Bool)
    (is : List ℕ) where
  abbrev first : List Entry
  first = map (entry_at p l m) (range 0 k)

  abbrev second : List Entry
  second = map (entry_at p2 l2 m2) is

  pub entered : {q q' : List ℕ} {r r' : List Float} {s s' : List Bool}
      → q' ≡ over (colours_at p (range 0 k) ++ colours_at p2 is) q → r' ≡ over
      (labs_at l (range 0 k) ++ labs_at l2 is) r → s' ≡ over (locks_at m (range 0 k) ++ locks_at m2 is) s
      → Entered (all_of k p l m p2 l2 m2 is) q r s q' r' s'
  unfolding all_of entries_of
  entered {q} {q'} {r} {r'} {s} {s'} c b t =
      record {
        colours =
            c
            ∙ ap (λ (f : List ℕ). over f q)
            (sym (colours-append first second ∙ rw (colours-named p l m (range 0 k), colours-named p2 l2 m2 is)));
        labs =
            b
            ∙ ap (λ (f : List Float). over f r)
            (sym (labs-append first second ∙ rw (labs-named p l m (range 0 k), labs-named p2 l2 m2 is)));
        marks =
            t
            ∙ ap (λ (f : List Bool). over f s)
            (sym (marks-append first second ∙ rw (marks-named p l m (range 0 k), marks-named p2 l2 m2 is)));
      }
