-- Some rows of a picture, laid out, painted and compared alone: beside them nothing was painted, so there is no change. Assumes nothing.
use Prim.Native.Nat.{ℕ, zero, suc, ◌+◌, ◌-◌, ◌*◌, ◌%◌, ◌≤◌, ◌<◌, ◌^◌}
use mathlib.Core.Path.{◌≡◌, refl, sym, ap, ◌∙◌}
use mathlib.Core.List.{List, [], ◌∷◌, map}
use native.Mathlib.Omega.{arith}
use native.Mathlib.Nat.{add-zero, zero-add, zero-mul, add-mul, suc-mul, mul_comm, mul-le-mul_right}
use borrow.Rule.Slice.PartMut.{put_mid}
use lib.IntN.{ℤ}
use lib.ListN.{length, take, drop, set, length-drop}
use lib.Seq.{take-take, drop-drop, take_all, take_at, drop_at, length-take-le, take-set-le, take-set-lt, drop-set-lt, drop-set-add}
use Rattle.std.proofs.lemmas.List.{drop-map}
use mir.Syntax.{w16}
use mir.Val.{to_z}
use Rattle.base.specs.Lists.{All}
use Rattle.base.proofs.Mapped.{map-take}
use Rattle.base.proofs.Back.{eq_z-same}
use Rattle.edit.specs.Change.{Change, place, painted, new_of}
use Rattle.change_list.specs.Between.{between_from, between, laid_out, rows_of, between_rows, HasRows}

-- ---- c elements from the a-th on
module _ {A : Type 0} where
  part-take : (c a n : ℕ) (l : List A) → a + c ≤ n → take c (drop a (take n l)) ≡ take c (drop a l)
  part-take c zero n l h = take-take c n l (omega arith)
  part-take c (suc a) zero l h = absurd (omega arith)
  part-take c (suc a) (suc n) [] h = refl
  part-take c (suc a) (suc n) (x ∷ l) h = part-take c a n l (omega arith)

  length_part : (c a : ℕ) (l : List A) → a + c ≤ length l → length (take c (drop a l)) ≡ c
  length_part c a l h = length-take-le c (drop a l) (omega (arith, length-drop a l))

  part-map : {B : Type 0} (f : A → B) (c a : ℕ) (l : List A) → take c (drop a (map f l)) ≡ map f (take c (drop a l))
  part-map f c a l = ap (take c) (drop-map f a l) ∙ sym (map-take f c (drop a l))

  part-put : (c a : ℕ) (s part : List A) → a + c ≤ length s → length part ≡ c → take c (drop a (put_mid a c s part)) ≡ part
  part-put c a s part h e = ap (take c) (drop_at (take a s) _ a (length-take-le a s (omega arith))) ∙ take_at part _ c e

pub length-rows : (w first count : ℕ) (l : List ℤ) → first * w + count * w ≤ length l → length (rows_of w first count l) ≡ count * w
unfolding rows_of
length-rows w first count l h = length_part (count * w) (first * w) l h

pub no_rows : (w first : ℕ) (l : List ℤ) → rows_of w first 0 l ≡ []
unfolding rows_of
no_rows w first l = rw (zero-mul w)

-- the rows of a picture that is laid out, as they are read
pub rows-read : (w first count n : ℕ) (s : List ℕ) → first * w + count * w ≤ n
    → rows_of w first count (laid_out n s) ≡ take (count * w) (map (λ v. to_z w16 (v % 2 ^ 16)) (drop (first * w) s))
unfolding laid_out rows_of
rows-read w first count n s h =
    let index : ℕ → ℤ = λ v. to_z w16 (v % 2 ^ 16) in
    part-map index (count * w) (first * w) (take n s) ∙ ap (map index) (part-take (count * w) (first * w) n s h)
    ∙ map-take index (count * w) (drop (first * w) s)

-- rows of a sheet whose sides are in the limits
pub has-rows : {w h first count pixels room : ℕ} → w ≤ 1024 → h ≤ 1024 → first + count ≤ h → pixels ≡ w * h → pixels ≤ room → HasRows w first count pixels room
has-rows {w} {h} a b below size r =
    record { narrow = omega arith; few = omega arith; inside = omega (arith, mul-le-mul_right w below, mul_comm h w); roomy = r }

-- ---- laid out: the part of the scratch that was lent holds the rows
module _ (w first count : ℕ) (l : List ℤ) (s : List ℕ) (r : HasRows w first count (length l) (length s)) where
  abbrev at : ℕ
  at = first * w

  abbrev end : ℕ
  end = first * w + count * w

  pub end-inside : end ≤ length l
  end-inside = let i = r.inside in omega (arith, add-mul first count w)

  pub rows-laid : (part : List ℕ) → laid_out (length (take (end - at) (drop at l))) part ≡ take (end - at) (drop at l)
      → length part ≡ length (take (end - at) (drop at s))
      → rows_of w first count (laid_out (length l) (put_mid at (end - at) s part)) ≡ rows_of w first count l
  unfolding laid_out rows_of
  rows-laid part e k =
      let c : ℕ = count * w in
      let o = r.roomy in
      let i = end-inside in
      let n : end - at ≡ c = omega arith in
      let index : ℕ → ℤ = λ v. to_z w16 (v % 2 ^ 16) in
      let long : length part ≡ c = k ∙ length_part (end - at) at s (omega arith) ∙ n in
      let lent : ℕ = length (take (end - at) (drop at l)) in
      let front : take lent part ≡ part = take_all lent part (omega (arith, length_part (end - at) at l (omega arith))) in
      rw n (rows-read w first count (length l) (put_mid at c s part) (omega arith) ∙ sym (map-take index c (drop at (put_mid at c s part)))
      ∙ ap (map index) (part-put c at s part (omega arith) long ∙ sym front) ∙ e ∙ ap (λ (k : ℕ). take k (drop at l)) n)

-- ---- compared: what is alike before the rows and behind them gives no change
module _ (w : ℕ) where
  between_none : (p : ℕ) (l : List ℤ) → between_from w p l [] ≡ []
  unfolding between_from
  between_none p [] = refl
  between_none p (a ∷ l) = refl

  between-same : (p : ℕ) (l : List ℤ) → between_from w p l l ≡ []
  unfolding between_from
  between-same p [] = refl
  between-same p (a ∷ l) = rw (eq_z-same a) (between-same (suc p) l)

  skip-front : (p a : ℕ) (l m : List ℤ) → take a l ≡ take a m → between_from w p l m ≡ between_from w (p + a) (drop a l) (drop a m)
  unfolding between_from
  skip-front p zero l m e = rw (add-zero p)
  skip-front p (suc a) [] m e = refl
  skip-front p (suc a) (x ∷ l) [] e = sym (between_none (p + suc a) (drop a l))
  skip-front p (suc a) (x ∷ l) (y ∷ m) e =
      let here : x ≡ y = cc in
      let rest : take a l ≡ take a m = cc in
      let next : suc p + a ≡ p + suc a = omega arith in
      rw (here, eq_z-same y) (skip-front (suc p) a l m rest ∙ rw next)

  cut-behind : (p c : ℕ) (l m : List ℤ) → drop c l ≡ drop c m → between_from w p l m ≡ between_from w p (take c l) (take c m)
  unfolding between_from
  cut-behind p zero l m e = rw e (between-same p m)
  cut-behind p (suc c) [] m e = refl
  cut-behind p (suc c) (x ∷ l) [] e = refl
  cut-behind p (suc c) (x ∷ l) (y ∷ m) e = rw (cut-behind (suc p) c l m e)

  module _ (first count : ℕ) where
    between-rows : (l m : List ℤ) → take (first * w) l ≡ take (first * w) m → drop (first * w + count * w) l ≡ drop (first * w + count * w) m
        → between w l m ≡ between_rows w first count l m
    unfolding between between_rows rows_of
    between-rows l m e f =
        let a : ℕ = first * w in
        let c : ℕ = count * w in
        (rw (zero-add a) at (skip-front 0 a l m e)) ∙ cut-behind a c (drop a l) (drop a m) (drop-drop c a l ∙ f ∙ sym (drop-drop c a m))

    -- ---- painted: changes in these rows
    pub record InRows (c : Change) : Type 0 where
      pub column : c.x < w
      pub from : first ≤ c.y
      pub below : c.y < first + count

    -- the place of one, counted from the first row's
    at_place : (c : Change) → InRows c → (first * w ≤ place w c) × (place w c < first * w + count * w)
    unfolding place
    at_place c r =
        let x = r.column in
        (omega (arith, mul-le-mul_right w r.from), omega (arith, mul-le-mul_right w r.below, suc-mul c.y w, add-mul first count w))

    before-kept : (cs : List Change) → All InRows cs → (l : List ℤ) → take (first * w) (painted new_of w cs l) ≡ take (first * w) l
    unfolding painted All
    before-kept [] r l = refl
    before-kept (c ∷ cs) r l = before-kept cs r.1 _ ∙ take-set-le (first * w) l (place w c) c.new (at_place c r.0).0

    behind-kept : (cs : List Change) → All InRows cs → (l : List ℤ)
        → drop (first * w + count * w) (painted new_of w cs l) ≡ drop (first * w + count * w) l
    unfolding painted All
    behind-kept [] r l = refl
    behind-kept (c ∷ cs) r l = behind-kept cs r.1 _ ∙ drop-set-lt (first * w + count * w) l (place w c) c.new (at_place c r.0).1

    set-rows : (l : List ℤ) (p : ℕ) (v : ℤ) → (first * w ≤ p) × (p < first * w + count * w)
        → rows_of w first count (set l p v) ≡ set (rows_of w first count l) (p - first * w) v
    unfolding rows_of
    set-rows l p v h =
        let low = h.0 in
        let high = h.1 in
        let a : ℕ = first * w in
        let i : ℕ = p - a in
        let e : p ≡ a + i = omega arith in
        ap (λ (q : ℕ). take (count * w) (drop a (set l q v))) e ∙ ap (take (count * w)) (drop-set-add a l i v)
        ∙ take-set-lt (count * w) (drop a l) i v (omega arith)

    painted-alike : (cs : List Change) → All InRows cs → (k l : List ℤ) → rows_of w first count k ≡ rows_of w first count l
        → rows_of w first count (painted new_of w cs k) ≡ rows_of w first count (painted new_of w cs l)
    unfolding painted All
    painted-alike [] r k l e = e
    painted-alike (c ∷ cs) r k l e =
        let h = at_place c r.0 in
        let p : ℕ = place w c in
        painted-alike cs r.1 _ _ (set-rows k p c.new h ∙ ap (λ (m : List ℤ). set m (p - first * w) c.new) e ∙ sym (set-rows l p c.new h))

    -- painted where only the rows are laid out, and compared there: what lies between the whole pictures
    pub painted-rows : (cs : List Change) → All InRows cs → (k l : List ℤ) → rows_of w first count k ≡ rows_of w first count l
        → between_rows w first count l (painted new_of w cs k) ≡ between w l (painted new_of w cs l)
    unfolding between_rows
    painted-rows cs r k l e =
        ap (between_from w (first * w) (rows_of w first count l)) (painted-alike cs r k l e)
        ∙ sym (between-rows l (painted new_of w cs l) (sym (before-kept cs r l)) (sym (behind-kept cs r l)))
