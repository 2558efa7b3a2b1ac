-- A normal form is what lies between the two pictures: of changes whose olds are the picture's, the normal form lists the places where the
-- painted picture differs, in row order. Assumes nothing.
use Prim.Native.Nat.{ℕ, zero, suc, ◌+◌, ◌*◌, ◌/◌, ◌%◌, ◌≤◌, ◌<◌, ◌^◌}
use mathlib.Core.Path.{◌≡◌, refl, sym, ap, ◌∙◌}
use mathlib.Core.Logic.{◌≢◌}
use mathlib.Core.Bool.{true, false, cond}
use mathlib.Core.List.{List, [], ◌∷◌, ◌++◌}
use native.Mathlib.Omega.{arith}
use native.Mathlib.Decide.{ℕ_discrete}
use lib.Arith.{digits_lt, digits_div, digits_mod}
use lib.IntN.{ℤ, pos}
use lib.ListN.{length, get_or, set, drop, drop_of_length-le, length-set}
use lib.Seq.{drop-cons, get_or-set_same}
use borrow.Author.Tests.{ne_eqb}
use Rattle.base.specs.Ints.{eq_z}
use Rattle.base.specs.Lists.{some, All}
use Rattle.base.proofs.Nowhere.{or-both}
use Rattle.base.proofs.Back.{eq_z-same}
use Rattle.edit.specs.Change.{Change, place, painted, new_of}
use Rattle.edit.specs.Checks.{named}
use Rattle.edit.proofs.Painting.{painted-length, painted-keeps}
use Rattle.base.proofs.Each.{all_map}
use Rattle.change_list.specs.Between.{between_from, between}
use Rattle.change_normal.specs.Normal.{key_of, changing, normalize_of}
use Rattle.change_normal.specs.Laws.{On, FirstOlds, Ordered}
use Rattle.change_normal.proofs.Shortest.{unchanged, normal-ordered, normal-changing, inside, normal-on, normal-olds, same-picture}

-- one list painted after the other
pub painted-append : (w : ℕ) (a b : List Change) (l : List ℤ) → painted new_of w (a ++ b) l ≡ painted new_of w b (painted new_of w a l)
unfolding painted
painted-append w [] b l = refl
painted-append w (c ∷ a) b l = painted-append w a b (set l (place w c) c.new)

none : (w : ℕ) (m : List Change) (q : ℕ) → All (λ e. place w e ≢ q) m → named w m q ≡ false
unfolding named some All
none w [] q a = refl
none w (e ∷ m) q a = or-both (ne_eqb (place w e) q a.0) (none w m q a.1)

all-four : (P Q R S T : Change → Type 0) → ((e : Change) → P e → Q e → R e → S e → T e) → (n : List Change) → All P n → All Q n → All R n → All S n → All T n
unfolding All
all-four P Q R S T f [] a b c d = tt
all-four P Q R S T f (e ∷ n) a b c d = (f e a.0 b.0 c.0 d.0, all-four P Q R S T f n a.1 b.1 c.1 d.1)

not_named : (w : ℕ) (e : Change) (m : List Change) (q : ℕ) → place w e ≢ q → named w m q ≡ false → named w (e ∷ m) q ≡ false
unfolding named some
not_named w e m q n g = or-both (ne_eqb (place w e) q n) g

nothing : (w p : ℕ) (l m : List ℤ) → length l ≤ p → between_from w p (drop p l) (drop p m) ≡ []
unfolding between_from
nothing w p l m h = rw (drop_of_length-le l h)

module _ (w h : ℕ) (small : w ≤ 2 ^ 16) where
  -- keys in order are places in order
  pub later : (c e : Change) → On w h c → On w h e → key_of c < key_of e → place w c < place w e
  unfolding On key_of place
  later c e p q k = elim (ℕ_discrete c.y e.y) [
    | yes y ↦ (let r : c.y * w ≡ e.y * w = ap (λ (z : ℕ). z * w) y in omega arith)
    | no y ↦ (let r : c.y * w + c.x < e.y * w = digits_lt (omega arith) p.0 in omega arith)
  ]

  pub all-later : (c : Change) (n : List Change) → On w h c → All (On w h) n → All (λ e. key_of c < key_of e) n → All (λ e. place w c < place w e) n
  unfolding All
  all-later c [] p a b = tt
  all-later c (e ∷ n) p a b = (later c e p a.0 b.0, all-later c n p a.1 b.1)

  -- the column and the row of a place
  column : (e : Change) → On w h e → place w e % w ≡ e.x
  unfolding On place
  column e p = digits_mod e.y p.0

  row : (e : Change) → On w h e → place w e / w ≡ e.y
  unfolding On place
  row e p = digits_div e.y p.0

  module _ (l m : List ℤ) (size : length l ≡ w * h) (long : length m ≡ length l) where
    -- a change of the list between them
    pub record Differs (e : Change) : Type 0 where
      pub on : On w h e
      pub old-is : e.old ≡ get_or l (place w e) (pos 0)
      pub new_is : e.new ≡ get_or m (place w e) (pos 0)
      pub differs : changing e ≡ true

    ons : (n : List Change) → All Differs n → All (On w h) n
    ons n a = all_map (λ e d. d.on) n a

    -- one place more
    step : (p : ℕ) → p < length l → between_from w p (drop p l) (drop p m)
        ≡ cond (eq_z (get_or l p (pos 0)) (get_or m p (pos 0))) (between_from w (suc p) (drop (suc p) l) (drop (suc p) m))
        (record { x = p % w; y = p / w; old = get_or l p (pos 0); new = get_or m p (pos 0) } ∷ between_from w (suc p) (drop (suc p) l) (drop (suc p) m))
    unfolding between_from
    step p b = rw (drop-cons l p (pos 0) b, drop-cons m p (pos 0) (rw long b))

    alike : (p : ℕ) → p < length l → get_or l p (pos 0) ≡ get_or m p (pos 0) → between_from w p (drop p l) (drop p m) ≡ between_from w (suc p) (drop (suc p) l) (drop (suc p) m)
    alike p b e = step p b ∙ rw (← e, eq_z-same (get_or l p (pos 0)))

    found : (e : Change) → Differs e
        → between_from w (place w e) (drop (place w e) l) (drop (place w e) m) ≡ e ∷ between_from w (suc (place w e)) (drop (suc (place w e)) l) (drop (suc (place w e)) m)
    found e d =
        let b : place w e < length l = rw size (inside w h small e d.on) in
        let n : eq_z e.old e.new ≡ false = unchanged e d.differs in
        step (place w e) b ∙ rw (← d.old-is, ← d.new_is, n, column e d.on, row e d.on)

    -- a list in order that has the changes from place p on
    pub scan : (k p : ℕ) (n : List Change) → p + k ≡ length l → Ordered n → All Differs n → All (λ e. p ≤ place w e) n
        → ((q : ℕ) → p ≤ q → q < length l → named w n q ≡ false → get_or l q (pos 0) ≡ get_or m q (pos 0))
        → n ≡ between_from w p (drop p l) (drop p m)
    unfolding All Ordered
    scan zero p [] s o a b f = sym (nothing w p l m (omega arith))
    scan zero p (e ∷ n) s o a b f = absurd (omega (arith, inside w h small e a.0.on, b.0, size))
    scan (suc k) p [] s o a b f =
        scan k (suc p) [] (omega arith) tt tt tt (λ q c d g. f q (omega arith) d g) ∙ sym (alike p (omega arith) (f p (omega arith) (omega arith) (none w [] p tt)))
    scan (suc k) p (e ∷ n) s o a b f = elim (ℕ_discrete (place w e) p) [
      | yes z ↦ ap (λ (t : List Change). e ∷ t) (scan k (suc (place w e)) n (omega arith) o.1 a.1 (all-later e n a.0.on (ons n a.1) o.0) rest)
          ∙ sym (found e a.0) ∙ ap (λ (i : ℕ). between_from w i (drop i l) (drop i m)) z
      | no z ↦ scan k (suc p) (e ∷ n) (omega arith) o a (past z) (λ q c d g. f q (omega arith) d g) ∙ sym (alike p (omega arith) (f p (omega arith) (omega arith) (none w (e ∷ n) p (others z))))
    ]
      where
        behind : All (λ c. place w e < place w c) n
        behind = all-later e n a.0.on (ons n a.1) o.0

        past : (place w e ≡ p → ⊥) → All (λ c. suc p ≤ place w c) (e ∷ n)
        past z = (omega (arith, b.0), all_map (λ c x. omega (arith, b.0)) n behind)

        others : (place w e ≡ p → ⊥) → All (λ c. place w c ≢ p) (e ∷ n)
        others z = (z, all_map (λ c x q. omega (arith, b.0)) n behind)

        rest : (q : ℕ) → suc (place w e) ≤ q → q < length l → named w n q ≡ false → get_or l q (pos 0) ≡ get_or m q (pos 0)
        rest q c d g = f q (omega (arith, b.0)) d (not_named w e n q (λ x. omega arith) g)

  -- each change of a list in order stands in the picture that they paint
  news : (l : List ℤ) (n : List Change) → length l ≡ w * h → All (On w h) n → Ordered n → All (λ e. e.new ≡ get_or (painted new_of w n l) (place w e) (pos 0)) n
  unfolding All Ordered painted
  news l [] s a o = tt
  news l (e ∷ n) s a o = (
    sym (painted-keeps new_of w n (set l (place w e) e.new) (place w e) (none w n (place w e) (all_map (λ c x q. omega arith) n (all-later e n a.0 a.1 o.0)))
        ∙ get_or-set_same l (place w e) e.new (pos 0) (rw s (inside w h small e a.0))),
    news (set l (place w e) e.new) n (length-set l (place w e) e.new ∙ s) a.1 o.1,
  )

  module _ (l : List ℤ) (size : length l ≡ w * h) (cs : List Change) (on : All (On w h) cs) (olds : FirstOlds w l [] cs) where
    -- what lies between the picture and the painted one
    pub normal-between : normalize_of cs ≡ between w l (painted new_of w cs l)
    unfolding between
    normal-between =
        let n : List Change = normalize_of cs in
        let m : List ℤ = painted new_of w n l in
        let ons : All (On w h) n = normal-on w h small l size cs on olds in
        let facts : All (Differs l m size (painted-length new_of w n l)) n =
        all-four (On w h) (λ e. e.old ≡ get_or l (place w e) (pos 0)) (λ e. e.new ≡ get_or m (place w e) (pos 0)) (λ e. changing e ≡ true)
        (Differs l m size (painted-length new_of w n l)) (λ e a b c d. record { on = a; old-is = b; new_is = c; differs = d })
        n ons (normal-olds w h small l size cs on olds) (news l n size ons (normal-ordered cs)) (normal-changing cs) in
        scan l m size (painted-length new_of w n l) (length l) 0 n (omega arith) (normal-ordered cs) facts (all_map (λ e a. omega arith) n ons)
        (λ q a b f. sym (painted-keeps new_of w n l q f))
        ∙ ap (between w l) (same-picture w h small l size cs on olds)
