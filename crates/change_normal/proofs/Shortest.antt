-- What `normalize_of` gives: in order by y, then x; the same picture, and no list for it is shorter (change request E13). Assumes nothing.
use Prim.Native.Nat.{ℕ, zero, suc, ◌+◌, ◌*◌, ◌/◌, ◌%◌, ◌≤◌, ◌<◌, ◌^◌}
use mathlib.Core.Path.{◌≡◌, refl, sym, ap, ◌∙◌}
use mathlib.Core.Logic.{◌≢◌, ◌⊎◌, inl, inr}
use mathlib.Core.Bool.{Bool, true, false, cond}
use mathlib.Core.List.{List, [], ◌∷◌}
use native.Mathlib.Omega.{arith}
use native.Mathlib.Decide.{dec_lt}
use native.Mathlib.Nat.{mul_comm, le_of_suc-le-suc, not-suc-le-zero}
use lib.Arith.{digits_lt, digits_div, digits_mod}
use lib.IntN.{ℤ, pos}
use lib.ListN.{length, get_or, set}
use lib.Seq.{get_or-set_other, set-get_or, set-set, set_comm}
use borrow.Author.Tests.{leb-false, not-true, not-false}
use Rattle.edit.specs.Change.{Change, place, outside, painted, new_of}
use Rattle.base.specs.Ints.{eq_z}
use lib.Dec.{leb}
use Rattle.base.specs.Lists.{some, kept, All}
use Rattle.base.proofs.Scan.{or_left, or_right}
use Rattle.base.proofs.Nowhere.{first-not, rest-not}
use Rattle.base.proofs.Back.{eq_z-same, same_index}
use Rattle.edit.proofs.Painting.{painted-length}
use Rattle.base_sort.proofs.Order.{less, same, more, tri}
use Rattle.base.proofs.Each.{all_map}
use Rattle.base.proofs.Kept.{all-kept}
use Rattle.change_normal.specs.Normal.{key_of, joined, enter, entered, changing, normalize_of}
use Rattle.change_normal.specs.Laws.{On, FirstOlds, Ordered}
use Rattle.change_normal.proofs.Group.{enter-less, enter-same, enter-more, key-joined}

-- ---- places at which pictures differ
-- how many they are
unfoldable pub differing : List ℤ → List ℤ → ℕ
differing [] m = 0
differing (x ∷ l) [] = 0
differing (x ∷ l) (y ∷ m) = cond (eq_z x y) 0 1 + differing l m

bit_le : (b : Bool) → cond b 0 1 ≤ 1
bit_le true = omega arith
bit_le false = omega arith

pub differing-same : (l : List ℤ) → differing l l ≡ 0
unfolding differing
differing-same [] = refl
differing-same (x ∷ l) = rw (eq_z-same x) (omega (arith, differing-same l))

pub differing-le : (l m : List ℤ) (p : ℕ) (v : ℤ) → differing l (set m p v) ≤ suc (differing l m)
unfolding differing
differing-le [] m p v = omega arith
differing-le (x ∷ l) [] p v = omega arith
differing-le (x ∷ l) (y ∷ m) zero v = omega (arith, bit_le (eq_z x v))
differing-le (x ∷ l) (y ∷ m) (suc p) v = omega (arith, differing-le l m p v)

pub differing-set : (l m : List ℤ) (p : ℕ) (v : ℤ) → p < length l → length l ≡ length m → get_or m p (pos 0) ≡ get_or l p (pos 0) → eq_z (get_or l p (pos 0)) v ≡ false
    → differing l (set m p v) ≡ suc (differing l m)
unfolding differing
differing-set [] m p v h k e f = absurd (not-suc-le-zero h)
differing-set (x ∷ l) [] p v h k e f = absurd (omega arith)
differing-set (x ∷ l) (y ∷ m) zero v h k e f = let g : eq_z x y ≡ true = rw e (eq_z-same x) in rw (f, g) (omega arith)
differing-set (x ∷ l) (y ∷ m) (suc p) v h k e f = omega (arith, differing-set l m p v (le_of_suc-le-suc h) (omega arith) e f)

pub unchanged : (e : Change) → changing e ≡ true → eq_z e.old e.new ≡ false
unfolding changing
unchanged e q = not-true (eq_z e.old e.new) q

-- ---- P of each entry

module _ (P : Change → Type 0) where
  pub all-enter : (joins : (e c : Change) → P e → P (joined e c)) (c : Change) (m : List Change) → P c → All P m → All P (enter c m)
  unfolding All enter
  all-enter joins c [] p h = (p, tt)
  all-enter joins c (e ∷ m) p h = elim (tri (key_of c) (key_of e)) [
    | less q ↦ rw (enter-less c e m q) (p, h)
    | same q ↦ rw (enter-same c e m q) (joins e c h.0, h.1)
    | more q ↦ rw (enter-more c e m q) (h.0, all-enter joins c m p h.1)
  ]

-- ---- in order

above-joined : (p : ℕ) (e c : Change) → p < key_of e → p < key_of (joined e c)
above-joined p e c h = rw (key-joined e c) h

pub ordered-enter : (c : Change) (m : List Change) → Ordered m → Ordered (enter c m)
unfolding Ordered All enter
ordered-enter c [] h = (tt, tt)
ordered-enter c (e ∷ m) h = elim (tri (key_of c) (key_of e)) [
  | less q ↦ rw (enter-less c e m q) ((q, all_map (λ f k. omega arith) m h.0), h)
  | same q ↦ rw (enter-same c e m q) (all_map (λ f k. rw (key-joined e c) k) m h.0, h.1)
  | more q ↦ rw (enter-more c e m q) (all-enter (λ f. key_of e < key_of f) (above-joined (key_of e)) c m q h.0, ordered-enter c m h.1)
]

pub ordered-entered : (m cs : List Change) → Ordered m → Ordered (entered m cs)
unfolding entered
ordered-entered m [] h = h
ordered-entered m (c ∷ cs) h = ordered-entered (enter c m) cs (ordered-enter c m h)

ordered-kept : (t : Change → Bool) (m : List Change) → Ordered m → Ordered (kept t m)
unfolding Ordered kept
ordered-kept t [] h = tt
ordered-kept t (e ∷ m) h = pick (t e) (ordered-kept t m h.1)
  where
    pick : (b : Bool) → Ordered (kept t m) → Ordered (cond b (e ∷ kept t m) (kept t m))
    pick true k = (all-kept (λ f. key_of e < key_of f) t m h.0, k)
    pick false k = k

-- keys are in order by y, then x
pub by_row : (c e : Change) → c.x < 2 ^ 16 → e.x < 2 ^ 16 → key_of c < key_of e → (c.y < e.y) ⊎ ((c.y ≡ e.y) × (c.x < e.x))
unfolding key_of
by_row c e h k l = elim (dec_lt c.y e.y) [ yes p ↦ inl p | no p ↦ (let q : c.y ≡ e.y = omega arith in inr (q, omega arith)) ]

-- the normal form is in order by y, then x, and names no place twice
pub normal-ordered : (cs : List Change) → Ordered (normalize_of cs)
unfolding normalize_of Ordered
normal-ordered cs = ordered-kept changing (entered [] cs) (ordered-entered [] cs tt)

-- and each of its changes changes something
pub all-changing : (m : List Change) → All (λ e. changing e ≡ true) (kept changing m)
unfolding All kept
all-changing [] = tt
all-changing (e ∷ m) = pick (changing e) refl (all-changing m)
  where
    pick : (b : Bool) → changing e ≡ b → All (λ e. changing e ≡ true) (kept changing m) → All (λ e. changing e ≡ true) (cond b (e ∷ kept changing m) (kept changing m))
    pick true q k = (q, k)
    pick false q k = k

pub normal-changing : (cs : List Change) → All (λ e. changing e ≡ true) (normalize_of cs)
unfolding normalize_of
normal-changing cs = all-changing (entered [] cs)

-- a list of changes that are all on the sheet, and one whose olds are all the picture's
pub on-sheet : (w h : ℕ) (cs : List Change) → some (outside w h) cs ≡ false → All (On w h) cs
unfolding All On outside
on-sheet w h [] e = tt
on-sheet w h (c ∷ cs) e =
    let o : outside w h c ≡ false = first-not (outside w h) c cs e in
    ((leb-false w c.x (or_left (leb w c.x) (leb h c.y) o), leb-false h c.y (or_right (leb w c.x) (leb h c.y) o)), on-sheet w h cs (rest-not (outside w h) c cs e))

pub first-olds : (w : ℕ) (l : List ℤ) (seen cs : List Change) → All (λ c. c.old ≡ get_or l (place w c) (pos 0)) cs → FirstOlds w l seen cs
unfolding All FirstOlds
first-olds w l seen [] a = tt
first-olds w l seen (c ∷ cs) a = ((λ b. a.0), first-olds w l (c ∷ seen) cs a.1)

-- ---- places

module _ (w h : ℕ) (small : w ≤ 2 ^ 16) where
  pub same_place : (c e : Change) → On w h c → On w h e → key_of c ≡ key_of e → place w c ≡ place w e
  unfolding key_of place On
  same_place c e p q k =
      let x : c.x ≡ e.x = omega arith in
      let y : c.y ≡ e.y = omega arith in
      rw (x, y)

  pub other_place : (c e : Change) → On w h c → On w h e → (key_of c ≡ key_of e → ⊥) → place w c ≢ place w e
  unfolding key_of place On
  other_place c e p q n k =
      let y : c.y ≡ e.y = sym (digits_div c.y p.0) ∙ ap (λ (z : ℕ). z / w) k ∙ digits_div e.y q.0 in
      let x : c.x ≡ e.x = sym (digits_mod c.y p.0) ∙ ap (λ (z : ℕ). z % w) k ∙ digits_mod e.y q.0 in
      n (rw (x, y))

  pub on-joined : (e c : Change) → On w h e → On w h (joined e c)
  unfolding On joined
  on-joined e c p = p

  place-joined : (e c : Change) → place w (joined e c) ≡ place w e
  unfolding place joined
  place-joined e c = refl

  new-joined : (e c : Change) → (joined e c).new ≡ c.new
  unfolding joined
  new-joined e c = refl

  pub inside : (e : Change) → On w h e → place w e < w * h
  unfolding On place
  inside e p = rw (mul_comm w h) (digits_lt p.1 p.0)

  -- a place that none of them names
  painted_past : (p : ℕ) (v : ℤ) (m : List Change) (l : List ℤ) → All (λ e. p ≢ place w e) m → painted new_of w m (set l p v) ≡ set (painted new_of w m l) p v
  unfolding painted All
  painted_past p v [] l a = refl
  painted_past p v (e ∷ m) l a = ap (painted new_of w m) (set_comm l p (place w e) v e.new a.0) ∙ painted_past p v m (set l (place w e) e.new) a.1

  painted-keeps : (p : ℕ) (m : List Change) (l : List ℤ) → All (λ e. p ≢ place w e) m → get_or (painted new_of w m l) p (pos 0) ≡ get_or l p (pos 0)
  unfolding painted All
  painted-keeps p [] l a = refl
  painted-keeps p (e ∷ m) l a = painted-keeps p m (set l (place w e) e.new) a.1 ∙ get_or-set_other l (place w e) p e.new (pos 0) a.0

  -- those behind an entry have other places
  apart : (c : Change) (m : List Change) → On w h c → All (On w h) m → All (λ e. key_of c < key_of e) m → All (λ e. place w c ≢ place w e) m
  unfolding All
  apart c [] p a b = tt
  apart c (e ∷ m) p a b = (other_place c e p a.0 (λ k. omega (arith, b.0)), apart c m p a.1 b.1)

  -- ---- the same picture

  one-entered : (c : Change) (l : List ℤ) → painted new_of w (enter c []) l ≡ set (painted new_of w [] l) (place w c) c.new
  unfolding painted enter
  one-entered c l = refl

  none-painted : (l : List ℤ) → l ≡ painted new_of w [] l
  unfolding painted
  none-painted l = refl

  one_more : (c : Change) (cs : List Change) (l : List ℤ) → painted new_of w cs (set l (place w c) c.new) ≡ painted new_of w (c ∷ cs) l
  unfolding painted
  one_more c cs l = refl

  first : (c : Change) (m : List Change) (l : List ℤ) → All (λ e. place w c ≢ place w e) m → painted new_of w (c ∷ m) l ≡ set (painted new_of w m l) (place w c) c.new
  unfolding painted
  first c m l a = painted_past (place w c) c.new m l a

  again : (c e : Change) (m : List Change) (l : List ℤ) → place w c ≡ place w e → All (λ f. place w e ≢ place w f) m
      → painted new_of w (joined e c ∷ m) l ≡ set (painted new_of w (e ∷ m) l) (place w c) c.new
  again c e m l q a =
      sym (one_more (joined e c) m l) ∙ ap (painted new_of w m) (ap (λ (x : ℕ). set l x (joined e c).new) (place-joined e c) ∙ ap (set l (place w e)) (new-joined e c) ∙ sym (set-set l (place w e) e.new c.new))
      ∙ painted_past (place w e) c.new m (set l (place w e) e.new) a ∙ ap (λ (x : ℕ). set (painted new_of w m (set l (place w e) e.new)) x c.new) (sym q)
      ∙ ap (λ (x : List ℤ). set x (place w c) c.new) (one_more e m l)

  behind : (c e : Change) (m : List Change) (l : List ℤ) → painted new_of w (enter c m) (set l (place w e) e.new) ≡ set (painted new_of w m (set l (place w e) e.new)) (place w c) c.new
      → painted new_of w (e ∷ enter c m) l ≡ set (painted new_of w (e ∷ m) l) (place w c) c.new
  unfolding painted
  behind c e m l q = q

  pub painted-enter : (c : Change) (m : List Change) (l : List ℤ) → On w h c → All (On w h) m → Ordered m → painted new_of w (enter c m) l ≡ set (painted new_of w m l) (place w c) c.new
  unfolding All Ordered
  painted-enter c [] l p a o = one-entered c l
  painted-enter c (e ∷ m) l p a o = elim (tri (key_of c) (key_of e)) [
    | less q ↦ ap (λ (x : List Change). painted new_of w x l) (enter-less c e m q) ∙ first c (e ∷ m) l (apart c (e ∷ m) p a (q, all_map (λ f k. omega arith) m o.0))
    | same q ↦ ap (λ (x : List Change). painted new_of w x l) (enter-same c e m q) ∙ again c e m l (same_place c e p a.0 q) (apart e m a.0 a.1 o.0)
    | more q ↦ ap (λ (x : List Change). painted new_of w x l) (enter-more c e m q) ∙ behind c e m l (painted-enter c m (set l (place w e) e.new) p a.1 o.1)
  ]

  pub painted-entered : (m cs : List Change) (l : List ℤ) → All (On w h) m → All (On w h) cs → Ordered m → painted new_of w (entered m cs) l ≡ painted new_of w cs (painted new_of w m l)
  unfolding entered All
  painted-entered m [] l a b o = none-painted (painted new_of w m l)
  painted-entered m (c ∷ cs) l a b o =
      painted-entered (enter c m) cs l (all-enter (On w h) on-joined c m b.0 a) b.1 (ordered-enter c m o)
      ∙ ap (painted new_of w cs) (painted-enter c m l b.0 a o) ∙ one_more c cs (painted new_of w m l)

  -- ---- olds

  abbrev pub OldOf : List ℤ → Change → Type 0
  OldOf l e = e.old ≡ get_or l (place w e) (pos 0)

  only_one : (c e : Change) → All (λ f. key_of e ≡ key_of f → ⊥) (enter c []) → (key_of e ≡ key_of c → ⊥) × All {A = Change} (λ f. key_of e ≡ key_of f → ⊥) []
  unfolding enter All
  only_one c e a = a

  only-old : (l : List ℤ) (c : Change) → OldOf l c → All (OldOf l) (enter c [])
  unfolding enter All
  only-old l c p = (p, tt)

  enter-named : (c e : Change) (m : List Change) → All (λ f. key_of e ≡ key_of f → ⊥) (enter c m) → (key_of e ≡ key_of c → ⊥) × All (λ f. key_of e ≡ key_of f → ⊥) m
  unfolding All
  enter-named c e [] a = only_one c e a
  enter-named c e (f ∷ m) a = elim (tri (key_of c) (key_of f)) [
    | less q ↦ (let b = rw (enter-less c f m q) at a in (b.0, b.1))
    | same q ↦ (let b = rw (enter-same c f m q) at a in ((λ k. b.0 (k ∙ q ∙ sym (key-joined f c))), ((λ k. b.0 (k ∙ sym (key-joined f c))), b.1)))
    | more q ↦ (let b = rw (enter-more c f m q) at a in let r = enter-named c e m b.1 in (r.0, (b.0, r.1)))
  ]

  -- every place of the map was named
  unfoldable Named : List Change → List Change → Type 0
  Named m seen = (e : Change) → All (λ f. key_of e ≡ key_of f → ⊥) m → All (λ f. key_of e ≡ key_of f → ⊥) seen

  named-enter : (c : Change) (m seen : List Change) → Named m seen → Named (enter c m) (c ∷ seen)
  unfolding Named All
  named-enter c m seen n e a = let r = enter-named c e m a in (r.0, n e r.1)

  old-joined : (l : List ℤ) (e c : Change) → OldOf l e → OldOf l (joined e c)
  unfolding joined place
  old-joined l e c p = p

  -- where c's place is in the map, entering it keeps the olds
  olds-enter : (l : List ℤ) (c : Change) (m : List Change) → (All (λ e. key_of c ≡ key_of e → ⊥) m → OldOf l c) → All (OldOf l) m → Ordered m → All (OldOf l) (enter c m)
  unfolding All Ordered
  olds-enter l c [] f a o = only-old l c (f tt)
  olds-enter l c (e ∷ m) f a o = elim (tri (key_of c) (key_of e)) [
    | less q ↦ rw (enter-less c e m q) (f ((λ k. omega arith), all_map (λ g r k. omega arith) m o.0), a)
    | same q ↦ rw (enter-same c e m q) (old-joined l e c a.0, a.1)
    | more q ↦ rw (enter-more c e m q) (a.0, olds-enter l c m (λ b. f ((λ k. omega arith), b)) a.1 o.1)
  ]

  olds-entered : (l : List ℤ) (m seen cs : List Change) → FirstOlds w l seen cs → Named m seen → All (OldOf l) m → Ordered m → All (OldOf l) (entered m cs)
  unfolding FirstOlds entered Named
  olds-entered l m seen [] f n a o = a
  olds-entered l m seen (c ∷ cs) f n a o =
      olds-entered l (enter c m) (c ∷ seen) cs f.1 (named-enter c m seen n) (olds-enter l c m (λ b. f.0 (n c b)) a o) (ordered-enter c m o)

  -- ---- dropping what changes nothing

  olds-past : (l : List ℤ) (p : ℕ) (v : ℤ) (m : List Change) → All (λ e. p ≢ place w e) m → All (OldOf l) m → All (OldOf (set l p v)) m
  unfolding All
  olds-past l p v [] a b = tt
  olds-past l p v (e ∷ m) a b = (b.0 ∙ sym (get_or-set_other l p (place w e) v (pos 0) (λ k. a.0 (sym k))), olds-past l p v m a.1 b.1)

  kept_step : (e : Change) (m : List Change) (l : List ℤ) → OldOf l e
      → painted new_of w (kept changing m) (set l (place w e) e.new) ≡ painted new_of w m (set l (place w e) e.new) → painted new_of w (kept changing m) l ≡ painted new_of w m l
      → (t : Bool) → changing e ≡ t → painted new_of w (cond t (e ∷ kept changing m) (kept changing m)) l ≡ painted new_of w m (set l (place w e) e.new)
  unfolding changing
  kept_step e m l b i₁ i₂ true q = sym (one_more e (kept changing m) l) ∙ i₁
  kept_step e m l b i₁ i₂ false q =
      let n : e.old ≡ e.new = same_index e.old e.new (not-false (eq_z e.old e.new) q) in
      let s : set l (place w e) e.new ≡ l = ap (set l (place w e)) (sym n ∙ b) ∙ set-get_or l (place w e) (pos 0) in
      i₂ ∙ ap (painted new_of w m) (sym s)

  -- what is left of a map changes the picture as the map does
  pub painted-kept : (m : List Change) (l : List ℤ) → All (On w h) m → Ordered m → All (OldOf l) m → painted new_of w (kept changing m) l ≡ painted new_of w m l
  unfolding kept All Ordered
  painted-kept [] l a o b = refl
  painted-kept (e ∷ m) l a o b =
      kept_step e m l b.0 (painted-kept m (set l (place w e) e.new) a.1 o.1 (olds-past l (place w e) e.new m (apart e m a.0 a.1 o.0) b.1))
      (painted-kept m l a.1 o.1 b.1) (changing e) refl
      ∙ one_more e m l

  -- ---- at how many places

  pub differing-painted : (l : List ℤ) (ds : List Change) (m : List ℤ) → differing l (painted new_of w ds m) ≤ differing l m + length ds
  unfolding painted
  differing-painted l [] m = omega arith
  differing-painted l (d ∷ ds) m = omega (arith, differing-painted l ds (set m (place w d) d.new), differing-le l m (place w d) d.new)

  pub differing-normal : (l : List ℤ) (m : List Change) → length l ≡ w * h → All (On w h) m → Ordered m → All (OldOf l) m → All (λ e. changing e ≡ true) m
      → differing l (painted new_of w m l) ≡ length m
  unfolding All Ordered
  differing-normal l [] s a o b c = ap (differing l) (sym (none-painted l)) ∙ differing-same l
  differing-normal l (e ∷ m) s a o b c =
      let r : All (λ f. place w e ≢ place w f) m = apart e m a.0 a.1 o.0 in
      let v : eq_z (get_or l (place w e) (pos 0)) e.new ≡ false = rw b.0 at (unchanged e c.0) in
      ap (differing l) (first e m l r)
      ∙ differing-set l (painted new_of w m l) (place w e) e.new (rw s (inside e a.0)) (sym (painted-length new_of w m l)) (painted-keeps (place w e) m l r) v
      ∙ ap suc (differing-normal l m s a.1 o.1 b.1 c.1)

  -- ---- E13

  pub on-entered : (m cs : List Change) → All (On w h) m → All (On w h) cs → All (On w h) (entered m cs)
  unfolding entered All
  on-entered m [] a b = a
  on-entered m (c ∷ cs) a b = on-entered (enter c m) cs (all-enter (On w h) on-joined c m b.0 a) b.1

  module _ (l : List ℤ) (size : length l ≡ w * h) (cs : List Change) (on : All (On w h) cs) (olds : FirstOlds w l [] cs) where
    map_on : All (On w h) (entered [] cs)
    unfolding All
    map_on = on-entered [] cs tt on

    map-ordered : Ordered (entered [] cs)
    unfolding Ordered
    map-ordered = ordered-entered [] cs tt

    map-olds : All (OldOf l) (entered [] cs)
    unfolding Named All Ordered
    map-olds = olds-entered l [] [] cs olds (λ e a. tt) tt tt

    pub normal-on : All (On w h) (normalize_of cs)
    unfolding normalize_of
    normal-on = all-kept (On w h) changing (entered [] cs) map_on

    pub normal-olds : All (OldOf l) (normalize_of cs)
    unfolding normalize_of
    normal-olds = all-kept (OldOf l) changing (entered [] cs) map-olds

    pub same-picture : painted new_of w (normalize_of cs) l ≡ painted new_of w cs l
    unfolding normalize_of All Ordered
    same-picture = painted-kept (entered [] cs) l map_on map-ordered map-olds ∙ painted-entered [] cs l tt on tt ∙ ap (painted new_of w cs) (sym (none-painted l))

    pub shortest : (ds : List Change) → painted new_of w ds l ≡ painted new_of w cs l → length (normalize_of cs) ≤ length ds
    shortest ds e =
        let d : differing l (painted new_of w (normalize_of cs) l) ≡ length (normalize_of cs) =
        differing-normal l (normalize_of cs) size normal-on (normal-ordered cs) normal-olds (normal-changing cs) in
        omega (arith, ap (differing l) (same-picture ∙ sym e), differing-painted l ds l, differing-same l)
