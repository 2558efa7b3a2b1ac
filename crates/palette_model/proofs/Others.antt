-- The nearest of the entries but one: searched in the two parts around it, what that is, and how far. Assumes nothing.
use mathlib.Core.Path.{◌≡◌, refl, sym, ap, subst, ◌∙◌}
use mathlib.Core.Bool.{Bool, true, false, cond}
use mathlib.Core.List.{List, ◌++◌}
use Prim.Native.Nat.{ℕ, suc, ◌+◌, ◌*◌, ◌-◌, ◌<◌, ◌≤◌}
use native.Mathlib.Numerals.{add-one}
use native.Mathlib.Omega.{arith}
use borrow.Author.Tests.{le-leb, lt-leb, leb-true, leb-false, ltb-true, ltb-false}
use lib.Dec.{T, ltb, leb}
use lib.ListN.{length, get_or, take, drop, get_or-append}
use lib.Seq.{length-take-le, get_or-take, get_or-drop, get_or-append-add, take-take, take-add, drop_at}
use lib.Ieee.{Float, nan, lt, le}
use Rattle.base.specs.declared.Lab.{Lab}
use Rattle.base.specs.Answer.{entry_at}
use Rattle.base.specs.Lists.{some}
use Rattle.base.proofs.Scan.{some-none}
use Rattle.base.proofs.Nowhere.{or-both, nowhere-take}
use Rattle.color_doubles.specs.Finite.{unfit, unfit_triple}
use Rattle.color_nearest.specs.declared.Near.{Near}
use Rattle.color_nearest.specs.Nearest.{dist2_of, distance, nearest_of, FirstNearest}
use Rattle.base.specs.Triples.{lab_at}
use Rattle.color_nearest.proofs.FirstNearest.{Found, found}
use Rattle.color_nearest.proofs.Halves.{both}
use Rattle.color_nearest.proofs.Parts.{parts, nearest-within}
use Rattle.edit.specs.Storage.{cut, cut_by}
use Rattle.edit.proofs.Storage.{cut-length, cut-nowhere}
use Rattle.palette_model.specs.Nearest.{nearest_other, FirstOther, substitute, Nearest}

-- ---- a list without the three numbers at `at`
module _ {A : Type 0} (at : ℕ) (l : List A) (d : A) (h : at ≤ length l) where
  cut-before : (n : ℕ) → n < at → get_or (cut at l) n d ≡ get_or l n d
  unfolding cut_by
  cut-before n b = get_or-append (take at l) (drop (at + 3) l) d n (omega (arith, length-take-le at l h)) ∙ get_or-take at l n d b

  cut-after : (q : ℕ) → get_or (cut at l) (at + q) d ≡ get_or l (at + 3 + q) d
  unfolding cut_by
  cut-after q =
      ap (λ (n : ℕ). get_or (take at l ++ drop (at + 3) l) (n + q) d) (sym (length-take-le at l h))
      ∙ get_or-append-add (take at l) (drop (at + 3) l) q d
      ∙ get_or-drop (at + 3) l q d

  -- an entry more
  cut_later : (n m : ℕ) → at ≤ n → n + 3 ≡ m → get_or (cut at l) n d ≡ get_or l m d
  cut_later n m b e =
      let there : n ≡ at + (n - at) = omega arith in
      let here : at + 3 + (n - at) ≡ m = omega arith in
      ap (λ (j : ℕ). get_or (cut at l) j d) there ∙ cut-after (n - at) ∙ ap (λ (j : ℕ). get_or l j d) here

-- the front of a list, cut in two by the removed entry
cut_parts : {A : Type 0} (at n : ℕ) (l : List A) → at + 3 ≤ n → n ≤ length l → cut at (take n l) ≡ take at l ++ take (n - (at + 3)) (drop (at + 3) l)
unfolding cut_by
cut_parts at n l b c =
    let whole : n ≡ at + 3 + (n - (at + 3)) = omega arith in
    let behind = ap (λ (m : ℕ). take m l) whole ∙ take-add (at + 3) (n - (at + 3)) l in
    rw (take-take at n l (omega arith))
    (ap (λ r. take at l ++ r) (ap (drop (at + 3)) behind ∙ drop_at (take (at + 3) l) _ (at + 3) (length-take-le (at + 3) l (omega arith))))

-- ---- the numbers of entries, without and with entry i
abbrev shifted : ℕ → ℕ → ℕ
shifted i j = cond (leb i j) (suc j) j

shifted-before : (i j : ℕ) → j < i → shifted i j ≡ j
shifted-before i j h = rw (lt-leb i j h)

shifted-from : (i j : ℕ) → i ≤ j → shifted i j ≡ suc j
shifted-from i j h = rw (le-leb i j h)

shifted-most : (i j : ℕ) → shifted i j ≤ suc j
shifted-most i j = go (leb i j)
  where
    go : (b : Bool) → cond b (suc j) j ≤ suc j
    go true = omega arith
    go false = omega arith

shifted-not : (i j : ℕ) → shifted i j ≡ i → ⊥
shifted-not i j q = go (leb i j) refl q
  where
    go : (b : Bool) → leb i j ≡ b → cond b (suc j) j ≡ i → ⊥
    go true e q = omega (arith, leb-true i j e)
    go false e q = omega (arith, leb-false i j e)

-- the entry m, another than i, is the j-th of the others, and those of the others before it are the entries before m
record Without (i m : ℕ) : Type 0 where
  j : ℕ
  back : shifted i j ≡ m
  inside : (k : ℕ) → i < k → m < k → suc j < k
  before : (n : ℕ) → m < shifted i n → j < n

without : (i m : ℕ) → (m ≡ i → ⊥) → Without i m
without i m ne = go (ltb m i) refl
  where
    go : (b : Bool) → ltb m i ≡ b → Without i m
    go true e =
        let h = ltb-true m i e in
        record { j = m; back = shifted-before i m h; inside = λ k a b. omega arith; before = λ n c. less n (leb i n) refl c }
      where
        less : (n : ℕ) (b : Bool) → leb i n ≡ b → m < cond b (suc n) n → m < n
        less n true e' c = omega (arith, leb-true i n e', ltb-true m i e)
        less n false e' c = c
    go false e =
        let h = ltb-false m i e in
        let k : i < m = omega (arith, ne) in
        let one : suc (m - 1) ≡ m = omega arith in
        record { j = m - 1; back = shifted-from i (m - 1) (omega arith) ∙ one; inside = λ k a b. omega arith; before = λ n c. omega (arith, shifted-most i n) }

module _ (lab : List Float) (k i : ℕ) where
  -- the LAB list without entry i, and the nearest there
  abbrev others : List Float
  others = cut (3 * i) (take (3 * k) lab)

  abbrev pub nearest : Near
  nearest = nearest_of (lab_at lab i) others (k - 1)

  abbrev near : ℕ
  near = nearest.entry

  module _ (room : 3 * k ≤ length lab) (h : i < k) where
    long : length (take (3 * k) lab) ≡ 3 * k
    long = length-take-le (3 * k) lab room

    -- entry j of the others
    number-before : (n : ℕ) → n < 3 * i → get_or others n nan ≡ get_or lab n nan
    number-before n b = cut-before (3 * i) (take (3 * k) lab) nan (omega (arith, long)) n b ∙ get_or-take (3 * k) lab n nan (omega arith)

    number-from : (n m : ℕ) → 3 * i ≤ n → n + 3 ≡ m → m < 3 * k → get_or others n nan ≡ get_or lab m nan
    number-from n m b e c = cut_later (3 * i) (take (3 * k) lab) nan (omega (arith, long)) n m b e ∙ get_or-take (3 * k) lab m nan c

    entry_of : (j : ℕ) → suc j < k → lab_at others j ≡ lab_at lab (shifted i j)
    unfolding lab_at
    entry_of j c = go (leb i j) refl
      where
        go : (b : Bool) → leb i j ≡ b → lab_at others j ≡ lab_at lab (cond b (suc j) j)
        go true e =
            let le = leb-true i j e in
            rw (number-from (3 * j) (3 * suc j) (omega arith) (omega arith) (omega arith), number-from (3 * j + 1) (3 * suc j + 1) (omega arith) (omega arith) (omega arith), number-from (3 * j + 2) (3 * suc j + 2) (omega arith) (omega arith) (omega arith))
        go false e =
            let less = leb-false i j e in
            rw (number-before (3 * j) (omega arith), number-before (3 * j + 1) (omega arith), number-before (3 * j + 2) (omega arith))

    near_within : near ≤ k - 1
    near_within = nearest-within (lab_at lab i) others (k - 1)

    -- the search in the two parts
    pub near-is : (p : Lab) (s u r : Near) → p ≡ lab_at lab i → s ≡ nearest_of p (take (3 * i) lab) i → u ≡ nearest_of p (take (3 * k - (3 * i + 3)) (drop (3 * i + 3) lab)) (k - 1 - i)
        → r ≡ both s (record { entry = i + u.entry; distance = u.distance }) → r ≡ nearest
    near-is p s u r e a b c =
        let ks = take (3 * i) lab in
        let ls = take (3 * k - (3 * i + 3)) (drop (3 * i + 3) lab) in
        let all : i + (k - 1 - i) ≡ k - 1 = omega arith in
        c ∙ rw (a, b) (sym (parts p ks ls i (length-take-le (3 * i) lab (omega arith)) (k - 1 - i)))
        ∙ ap (λ (n : ℕ). nearest_of p (ks ++ ls) n) all
        ∙ ap (λ (q : Lab). nearest_of q (ks ++ ls) (k - 1)) e
        ∙ ap (λ (l : List Float). nearest_of (lab_at lab i) l (k - 1)) (sym (cut_parts (3 * i) (3 * k) lab (omega arith) room))

    -- its bounds
    pub sum-within : (p : Lab) (l : List Float) (u : Near) → u ≡ nearest_of p l (k - 1 - i) → i + u.entry < k
    sum-within p l u e = omega (arith, ap (λ (s : Near). s.entry) e, nearest-within p l (k - 1 - i))

    pub is_within : (r : Near) → r ≡ nearest → r.entry < k
    is_within r e = omega (arith, near_within, ap (λ (s : Near). s.entry) e)

    module _ (more : 2 ≤ k) (fit : some unfit (take (3 * k) lab) ≡ false) where
      number-fit : (n : ℕ) → n < 3 * k → unfit (get_or lab n nan) ≡ false
      number-fit n b = rw (get_or-take (3 * k) lab n nan b) at (some-none unfit (take (3 * k) lab) n nan fit (rw long b))

      target-fit : unfit_triple (lab_at lab i) ≡ false
      unfolding unfit_triple lab_at
      target-fit = or-both (or-both (number-fit (3 * i) (omega arith)) (number-fit (3 * i + 1) (omega arith))) (number-fit (3 * i + 2) (omega arith))

      found-in-others : Found (lab_at lab i) others (k - 1) nearest
      found-in-others =
          found (lab_at lab i) others (k - 1) target-fit
          (nowhere-take unfit (3 * (k - 1)) others (cut-nowhere 3 unfit (3 * i) (take (3 * k) lab) fit))
          (omega (arith, cut-length 3 (3 * i) (3 * k) (take (3 * k) lab) (omega arith) long))
          (omega arith)

      nearest-of-others : FirstNearest (lab_at lab i) others (k - 1) near
      nearest-of-others = found-in-others.nearest

      -- entry j of the others is entry m
      same-distance : (j m : ℕ) → suc j < k → shifted i j ≡ m → distance (lab_at lab i) others j ≡ distance (lab_at lab i) lab m
      same-distance j m c e = ap (dist2_of (lab_at lab i)) (entry_of j c ∙ ap (lab_at lab) e)

      carried : (R : Float → Float → Bool) (m : ℕ) → m < k → (u : Without i m)
          → T (R (distance (lab_at lab i) others near) (distance (lab_at lab i) others u.j)) → T (R (distance (lab_at lab i) lab (shifted i near)) (distance (lab_at lab i) lab m))
      carried R m c u t =
          subst (λ (x : Float). T (R x (distance (lab_at lab i) lab m))) (same-distance near (shifted i near) (omega (arith, nearest-of-others.inside)) refl)
          (subst (λ (y : Float). T (R (distance (lab_at lab i) others near) y)) (same-distance u.j m (u.inside k h c) u.back) t)

      pub first-other : FirstOther lab k i (shifted i near)
      first-other =
          let f = nearest-of-others in
          let below : shifted i near < k = omega (arith, shifted-most i near, f.inside) in
          record {
            other = shifted-not i near;
            inside = below;
            least = λ m c ne. let u = without i m ne in carried le m c u (f.least u.j (omega (arith, u.inside k h c)));
            first = λ m c ne. let u = without i m ne in carried lt m (omega arith) u (f.first u.j (u.before near c));
          }

      -- the distance that the search kept is the entry's own
      own-distance : nearest.distance ≡ distance (lab_at lab i) lab (shifted i near)
      own-distance = found-in-others.own ∙ same-distance near (shifted i near) (omega (arith, nearest-of-others.inside)) refl

      nearest-is : (r : Near) → r.entry ≡ shifted i near → r.distance ≡ nearest.distance → Nearest lab k i r
      unfolding nearest_other substitute
      nearest-is r e d =
          record {
            value = rw (e, d) (ap (entry_at (shifted i near)) own-distance);
            first = subst (FirstOther lab k i) (sym e) first-other;
          }

      -- what the code answers
      pub nearest-from : (r : Near) → r ≡ nearest → i ≤ r.entry → Nearest lab k i (record { entry = r.entry + 1; distance = r.distance })
      nearest-from r e b =
          nearest-is _ (add-one r.entry ∙ ap (λ (s : Near). suc s.entry) e ∙ sym (shifted-from i near (rw e at b))) (ap (λ (s : Near). s.distance) e)

      pub nearest-before : (r : Near) → r ≡ nearest → r.entry < i → Nearest lab k i r
      nearest-before r e b =
          nearest-is r (ap (λ (s : Near). s.entry) e ∙ sym (shifted-before i near (rw e at b))) (ap (λ (s : Near). s.distance) e)
