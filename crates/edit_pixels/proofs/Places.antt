-- The places of the pixels on an entry, as a loop meets them. Assumes nothing.
use mathlib.Core.Path.{◌≡◌, refl, sym, ap, ◌∙◌}
use mathlib.Core.Bool.{Bool, true, false, cond}
use mathlib.Core.List.{List, [], ◌∷◌, ◌++◌, map, append-nil, map-append}
use Prim.Native.Nat.{ℕ, suc, ◌+◌, ◌<◌, ◌≤◌}
use native.Mathlib.Nat.{add-zero, add-suc, suc-add, zero-add}
use native.Mathlib.Omega.{arith}
use lib.IntN.{ℤ, pos}
use lib.ListN.{length, get_or, set, take, drop, length-append, length-map, length-set, take-append-drop}
use lib.Seq.{length-take-le, take_all}
use Rattle.base.specs.Lists.{over}
use Rattle.base.proofs.Over.{over_none, over-set}
use Rattle.base.specs.Ints.{eq_z}
use Rattle.sheet.proofs.Front.{take_next}
use Rattle.edit_pixels.specs.Listing.{places_from}

module _ (i : ℤ) where
  pub places-append : (p : ℕ) (k l : List ℤ) → places_from i p (k ++ l) ≡ places_from i p k ++ places_from i (p + length k) l
  unfolding places_from
  places-append p [] l = rw (add-zero p)
  places-append p (z ∷ k) l = rw (add-suc p (length k), ← suc-add p (length k), places-append (suc p) k l) (go (eq_z z i) (places_from i (suc p) k) _)
    where
      go : (b : Bool) (m n : List ℕ) → cond b (p ∷ m ++ n) (m ++ n) ≡ cond b (p ∷ m) m ++ n
      go true m n = refl
      go false m n = refl

  pub places-few : (p : ℕ) (l : List ℤ) → length (places_from i p l) ≤ length l
  unfolding places_from
  places-few p [] = omega arith
  places-few p (z ∷ l) = go (eq_z z i) (places-few (suc p) l)
    where
      go : (b : Bool) → length (places_from i (suc p) l) ≤ length l → length (cond b (p ∷ places_from i (suc p) l) (places_from i (suc p) l)) ≤ suc (length l)
      go true h = omega arith
      go false h = omega arith

  module _ (l : List ℤ) where
    -- the places among the first x
    unfoldable pub front : ℕ → List ℕ
    front x = places_from i 0 (take x l)

    -- one pixel more
    more : (x : ℕ) → x < length l → front (x + 1) ≡ front x ++ cond (eq_z (get_or l x (pos 0)) i) (x ∷ []) []
    unfolding front places_from
    more x h =
        rw (take_next l x (pos 0) h, places-append 0 (take x l) (get_or l x (pos 0) ∷ []), length-take-le x l (omega arith), zero-add x)

    front-hit : (x : ℕ) → x < length l → eq_z (get_or l x (pos 0)) i ≡ true → front (x + 1) ≡ front x ++ (x ∷ [])
    front-hit x h e = more x h ∙ rw e

    front-miss : (x : ℕ) → x < length l → eq_z (get_or l x (pos 0)) i ≡ false → front (x + 1) ≡ front x
    front-miss x h e = more x h ∙ rw e (append-nil (front x))

    -- all of them
    front-all : (x : ℕ) → length l ≤ x → front x ≡ places_from i 0 l
    unfolding front
    front-all x h = rw (take_all x l h)

    front-few : (x : ℕ) → x ≤ length l → length (front x) ≤ x
    unfolding front
    front-few x h = omega (arith, places-few 0 (take x l), length-take-le x l h)

    -- no more than there are
    pub front-within : (x : ℕ) → length (front x) ≤ length (places_from i 0 l)
    unfolding front
    front-within x =
        let whole = ap (λ (m : List ℤ). length (places_from i 0 m)) (take-append-drop x l) in
        let cut = ap (λ (m : List ℕ). length m) (places-append 0 (take x l) (drop x l)) ∙ length-append (places_from i 0 (take x l)) _ in
        omega (arith, whole, cut)

-- ---- a loop that counts: n places among the first x
pub record Counting (i : ℤ) (l : List ℤ) (n x : ℕ) : Type 0 where
  pub inside : x ≤ length l
  pub few : n ≤ x
  met : n ≡ length (front i l x)

module _ (i : ℤ) (l : List ℤ) where
  none-met : front i l 0 ≡ []
  unfolding front places_from
  none-met = refl

  counting-is : (n x : ℕ) → x ≤ length l → n ≡ length (front i l x) → Counting i l n x
  counting-is n x h e = record { inside = h; few = omega (arith, front-few i l x h); met = e }

  pub counting-none : Counting i l 0 0
  counting-none = counting-is 0 0 (omega arith) (rw none-met)

module _ {i : ℤ} {l : List ℤ} {n x : ℕ} (p : Counting i l n x) where
  pub counting-hit : x < length l → eq_z (get_or l x (pos 0)) i ≡ true → Counting i l (n + 1) (x + 1)
  counting-hit h e = counting-is i l (n + 1) (x + 1) (omega arith) (rw (front-hit i l x h e, length-append, ← p.met))

  pub counting-miss : x < length l → eq_z (get_or l x (pos 0)) i ≡ false → Counting i l n (x + 1)
  counting-miss h e = counting-is i l n (x + 1) (omega arith) (rw (front-miss i l x h e) p.met)

  pub counting-all : length l ≤ x → n ≡ length (places_from i 0 l)
  counting-all h = p.met ∙ ap (λ (m : List ℕ). length m) (front-all i l x h)

-- ---- a loop that lists f of each place
pub record Listing (f : ℕ → ℕ) (i : ℤ) (l : List ℤ) (list₀ list : List ℕ) (n x : ℕ) : Type 0 where
  pub counted : Counting i l n x
  pub long : length list ≡ length list₀
  listed : list ≡ over (map f (front i l x)) list₀

module _ (f : ℕ → ℕ) (i : ℤ) (l : List ℤ) where
  pub listing_none : (list : List ℕ) → Listing f i l list list 0 0
  listing_none list = record { counted = counting-none i l; long = refl; listed = rw (none-met i l) (over_none list) }

module _ {f : ℕ → ℕ} {i : ℤ} {l : List ℤ} {list₀ list : List ℕ} {n x : ℕ} (p : Listing f i l list₀ list n x) where
  -- there is room for one more
  pub listing-room : length (places_from i 0 l) ≤ length list₀ → x < length l → eq_z (get_or l x (pos 0)) i ≡ true → n < length list
  listing-room room h e = omega (arith, front-within i l (x + 1), (counting-hit p.counted h e).met, p.long)

  pub listing_hit : (list' : List ℕ) → length (places_from i 0 l) ≤ length list₀ → x < length l → eq_z (get_or l x (pos 0)) i ≡ true
      → list' ≡ set list n (f x) → Listing f i l list₀ list' (n + 1) (x + 1)
  listing_hit list' room h e q =
      let stored = q ∙ ap (λ (m : List ℕ). set m n (f x)) p.listed
      ∙ over-set (map f (front i l x)) list₀ n (f x) (length-map (front i l x) f ∙ sym p.counted.met) (omega (arith, listing-room room h e, p.long))
      ∙ ap (λ (m : List ℕ). over m list₀) (sym (ap (map f) (front-hit i l x h e) ∙ map-append f (front i l x) (x ∷ []))) in
      record { counted = counting-hit p.counted h e; long = rw (q, length-set list n (f x)) p.long; listed = stored }

  pub listing_miss : x < length l → eq_z (get_or l x (pos 0)) i ≡ false → Listing f i l list₀ list n (x + 1)
  listing_miss h e = record { counted = counting-miss p.counted h e; long = p.long; listed = p.listed ∙ rw (front-miss i l x h e) }

  pub listing-all : length l ≤ x → list ≡ over (map f (places_from i 0 l)) list₀
  listing-all h = p.listed ∙ rw (front-all i l x h)
