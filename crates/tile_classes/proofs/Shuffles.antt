-- The numbers after the places, put in order where they stand: the same numbers, none below the one before it. Assumes nothing.
use mathlib.Core.Path.{◌≡◌, sym, ap, ◌∙◌}
use mathlib.Core.List.{List, [], ◌∷◌, ◌++◌}
use Prim.Native.Nat.{ℕ, zero, suc, ◌+◌, ◌-◌, ◌<◌, ◌≤◌}
use native.Mathlib.Decide.{ℕ_discrete}
use native.Mathlib.Nat.{le_of_suc-le-suc, not-suc-le-zero}
use native.Mathlib.Omega.{arith}
use borrow.Rule.Slice.PartMut.{put_mid, mid_of, post_of, same_len_mid}
use lib.ListN.{length, take, drop, get_or, length-take, length-drop, get_or-append}
use lib.Seq.{length-take-le, get_or-take, get_or-drop, get_or-append-add}
use Rattle.base.proofs.Each.{at_all}
use Rattle.base_sort.specs.Order.{sorted, count}
use Rattle.base_sort.proofs.Order.{Sorted, sorted-sorted, count-sorted, one_same, one-other}
use Rattle.tile_classes.specs.Ranks.{number_at}

-- where a number stands
record Stands (l : List ℕ) (v : ℕ) : Type 0 where
  place : ℕ
  below : place < length l
  is : get_or l place 0 ≡ v

at_count : (l : List ℕ) (i : ℕ) → i < length l → 0 < count (get_or l i 0) l
unfolding count
at_count [] i h = absurd (not-suc-le-zero h)
at_count (x ∷ l) zero h = omega (arith, one_same x)
at_count (x ∷ l) (suc i) h = omega (arith, at_count l i (le_of_suc-le-suc h))

count-at : (v : ℕ) (l : List ℕ) → 0 < count v l → Stands l v
unfolding count
count-at v [] h = absurd (not-suc-le-zero h)
count-at v (x ∷ l) h = elim (ℕ_discrete v x) [
  | yes e ↦ record { place = 0; below = omega arith; is = sym e }
  | no e ↦ (let s = count-at v l (omega (arith, one-other v x e)) in record { place = suc s.place; below = omega (arith, s.below); is = s.is })
]

-- in order, by places
sorted-at : (l : List ℕ) → Sorted l → (i j : ℕ) → i ≤ j → j < length l → get_or l i 0 ≤ get_or l j 0
unfolding Sorted
sorted-at [] s i j h k = absurd (not-suc-le-zero k)
sorted-at (x ∷ l) s zero zero h k = omega arith
sorted-at (x ∷ l) s zero (suc j) h k = at_all (λ y. x ≤ y) 0 l s.0 j (le_of_suc-le-suc k)
sorted-at (x ∷ l) s (suc i) zero h k = absurd (not-suc-le-zero h)
sorted-at (x ∷ l) s (suc i) (suc j) h k = sorted-at l s.1 i j (le_of_suc-le-suc h) (le_of_suc-le-suc k)

-- number v is among the n after the places
pub record Among (n : ℕ) (s : List ℕ) (v : ℕ) : Type 0 where
  pub place : ℕ
  pub below : place < n
  pub is : number_at n s place ≡ v

pub record Shuffled (n : ℕ) (s₀ s : List ℕ) : Type 0 where
  pub long : length s ≡ length s₀
  pub places : (c : ℕ) → c < n → get_or s c 0 ≡ get_or s₀ c 0
  pub in_order : (i j : ℕ) → i ≤ j → j < n → number_at n s i ≤ number_at n s j
  pub from : (i : ℕ) → i < n → Among n s₀ (number_at n s i)
  pub still : (c : ℕ) → c < n → Among n s (number_at n s₀ c)

module _ (n m : ℕ) (e : m ≡ n + n) (s₀ part : List ℕ) (room : m ≤ length s₀) (p : part ≡ sorted (mid_of n (m - n) s₀))
    (k : length part ≡ length (mid_of n (m - n) s₀)) where
  abbrev lent : List ℕ
  lent = mid_of n (m - n) s₀

  abbrev after : List ℕ
  after = put_mid n (m - n) s₀ part

  length-lent : length lent ≡ n
  length-lent = simp (length-take, length-drop) (omega arith)

  length_part : length part ≡ n
  length_part = k ∙ length-lent

  lent_at : (i : ℕ) → i < n → get_or lent i 0 ≡ number_at n s₀ i
  lent_at i h = get_or-take (m - n) (drop n s₀) i 0 (omega arith) ∙ get_or-drop n s₀ i 0

  length_front : length (take n s₀) ≡ n
  length_front = length-take-le n s₀ (omega arith)

  part_at : (i : ℕ) → i < n → number_at n after i ≡ get_or part i 0
  part_at i h =
      ap (λ (j : ℕ). get_or after (j + i) 0) (sym length_front) ∙ get_or-append-add (take n s₀) (part ++ post_of n (m - n) s₀) i 0
      ∙ get_or-append part (post_of n (m - n) s₀) 0 i (omega (arith, length_part))

  front_at : (c : ℕ) → c < n → get_or after c 0 ≡ get_or s₀ c 0
  front_at c h = get_or-append (take n s₀) (part ++ post_of n (m - n) s₀) 0 c (omega (arith, length_front)) ∙ get_or-take n s₀ c 0 h

  count-part : (v : ℕ) → count v part ≡ count v lent
  count-part v = ap (count v) p ∙ count-sorted v lent

  pub shuffled : Shuffled n s₀ after
  shuffled =
      record {
        long = same_len_mid n (m - n) s₀ part k;
        places = front_at;
        in_order = λ i j h b. rw (part_at i (omega arith), part_at j b) (sorted-at part (rw p (sorted-sorted lent)) i j h (omega (arith, length_part)));
        from = λ i h. came i h (count-at (get_or part i 0) lent (omega (arith, at_count part i (omega (arith, length_part)), count-part (get_or part i 0))));
        still = λ c h. stays c h (count-at (get_or lent c 0) part (omega (arith, at_count lent c (omega (arith, length-lent)), count-part (get_or lent c 0))));
      }
    where
      came : (i : ℕ) → i < n → Stands lent (get_or part i 0) → Among n s₀ (number_at n after i)
      came i h t =
          let b : t.place < n = omega (arith, t.below, length-lent) in
          record { place = t.place; below = b; is = sym (lent_at t.place b) ∙ t.is ∙ sym (part_at i h) }

      stays : (c : ℕ) → c < n → Stands part (get_or lent c 0) → Among n after (number_at n s₀ c)
      stays c h t =
          let b : t.place < n = omega (arith, t.below, length_part) in
          record { place = t.place; below = b; is = part_at t.place b ∙ t.is ∙ lent_at c h }
