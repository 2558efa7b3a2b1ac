-- The passes together: what they leave pending at each place is the normal form of the copies and then the caller's changes. Assumes nothing.
use Prim.Native.Nat.{ℕ, zero, suc, ◌+◌, ◌*◌, ◌/◌, ◌%◌, ◌≤◌, ◌<◌, ◌^◌}
use mathlib.Core.Path.{◌≡◌, refl, sym, ap, ◌∙◌}
use mathlib.Core.Bool.{Bool, not, cond, ◌&&◌}
use mathlib.Core.List.{List, [], ◌∷◌, ◌++◌, map, flat_map, map-append}
use native.Mathlib.Omega.{arith}
use native.Mathlib.Numerals.{add-one}
use native.Mathlib.Nat.{mul_comm, mul-le-mul_right}
use native.Mathlib.Decide.{ℕ_discrete}
use lib.Arith.{digits_lt, digits_div, digits_mod}
use lib.Dec.{eqb}
use lib.IntN.{ℤ}
use lib.ListN.{length, take, get_or, length-map}
use lib.Seq.{get_or-take, ext_get_or}
use borrow.Author.Tests.{eq-eqb, ne_eqb}
use Rattle.base.specs.Lists.{range, kept, All}
use Rattle.base.proofs.Kept.{kept_append}
use Rattle.base.proofs.Collect.{flat_map-append, flat_map-one}
use Rattle.selection.specs.declared.Selection.{Selection}
use Rattle.selection.specs.Selection.{contains}
use Rattle.edit.specs.Change.{Change, packed, unpacked, place}
use Rattle.base.proofs.Each.{all_append, all_map, all-flat}
use Rattle.change_normal.specs.Normal.{key_of, changing}
use Rattle.change_normal.specs.Laws.{On, at_place, first_last}
use Rattle.tile_cells.specs.Cells.{cell_count, code_of, first_cells}
use Rattle.tile_cells.specs.Extract.{extract_of}
use Rattle.tile_cells.proofs.Rows.{get_d_map, length-first, first_next, first-at}
use Rattle.tile_cells.proofs.Corners.{across, area}
use Rattle.tile_marks.specs.Marks.{cell_of_place, class_by, run, place_at, mark_by, marked_by, marked, land_by, landed, Listed, Coded, Classes, Marks}
use Rattle.tile_copies.specs.Pending.{pending_by, pending, emitted, emitted_all}
use Rattle.tile_marks.proofs.Runs.{mark-small, marked-class, marked-mark}
use Rattle.tile_copies.specs.Mirror.{copies_of, mirror_changes, mirrored, Mirrorable}
use Rattle.tile_copies.proofs.Places.{flat-same, key_at, key-place, key-same, normal-gathered}
use Rattle.tile_copies.proofs.AtPlace.{copies, own, copyTo, all-waiting, waiting-landed}
use Rattle.tile_copies.proofs.Written.{emitted-is}
use Rattle.tile_copies.proofs.Coordinates.{class_of, place-cell, class-in}
use Rattle.tile_copies.proofs.Copies.{copies_at, copies-on}

pub map-flat : {A : Type 0} (f : Change → ℕ) (g : A → List Change) (l : List A) → map f (flat_map g l) ≡ flat_map (λ x. map f (g x)) l
unfolding flat_map
map-flat f g [] = refl
map-flat f g (x ∷ l) = map-append f (g x) (flat_map g l) ∙ ap (map f (g x) ++◌) (map-flat f g l)

module _ (w h t : ℕ) (l : List ℤ) (list : List ℕ) (region : Selection) (m : Mirrorable w h t l list) where
  abbrev n : ℕ
  n = length list

  abbrev C : ℕ → Change
  C j = unpacked (get_or list j 0)

  abbrev N : ℕ
  N = w * h

  pub wide : 0 < w
  wide = omega (arith, m.across 0 m.some)

  small : w ≤ 2 ^ 16
  small = omega (arith, m.tiled.w-small)

  columns : 0 < w / t
  columns = go (w / t) (across m.tiled)
    where
      go : (z : ℕ) → z * t ≡ w → 0 < z
      go zero e = absurd (omega (arith, m.across 0 m.some))
      go (suc z) e = omega arith

  side-fits : t ≤ w
  side-fits = let k : 1 ≤ w / t = columns in omega (arith, across m.tiled, mul-le-mul_right t k)

  on : (j : ℕ) → j < n → On w h (C j)
  unfolding On
  on j b = (m.across j b, m.down j b)

  at_in : (j : ℕ) → j < n → place_at w list j < N
  unfolding place
  at_in j b = rw (mul_comm w h) (digits_lt (m.down j b) (m.across j b))

  pub listed : (k : ℕ) → k ≡ N → Listed w list k
  listed k e = record { few = m.few; small = rw e (area m.tiled); on = λ j b. rw e (at_in j b) }

  K-in : (p : ℕ) → p < N → class_of w t l p < N
  K-in p b = class-in w h t l m.tiled columns p wide b

  K-small : (p : ℕ) → p < N → class_of w t l p < 2 ^ 20
  K-small p b = omega (arith, K-in p b, area m.tiled)

  -- ---- the codes
  module _ (s₀ : List ℕ) (long₀ : length s₀ ≡ N) (e₀ : take (cell_count w h t) s₀ ≡ first_cells w h t l) where
    pub class-by : (p : ℕ) → p < N → class_by w t (get_or s₀ (cell_of_place w t p) 0) p ≡ class_of w t l p
    unfolding class_of first_cells
    class-by p b =
        let c : ℕ = cell_of_place w t p in
        let below : c < cell_count w h t = place-cell w h t l m.tiled columns p wide b in
        let code : get_or s₀ c 0 ≡ code_of w t l c = sym (get_or-take (cell_count w h t) s₀ c 0 below) ∙ ap (λ (s : List ℕ). get_or s c 0) e₀ ∙ first-at (code_of w t l) (cell_count w h t) c 0 below in
        ap (λ (x : ℕ). class_by w t x p) code

    pub coded : Coded w t s₀
    coded = record { side = m.tiled.side; wide = side-fits; small = rw long₀ (area m.tiled); within = λ p b. rw long₀ (rw (class-by p (rw long₀ at b)) (K-in p (rw long₀ at b))) }

  -- ---- the caller's list
  abbrev raw : List Change
  raw = mirror_changes w t l region (extract_of w h t l) (map unpacked list)

  upto : ℕ → List Change
  upto i = map C (range 0 i)

  upto_next : (i : ℕ) → upto (suc i) ≡ upto i ++ (C i ∷ [])
  unfolding upto
  upto_next i = rw (← add-one i) (first_next C i)

  upto_all : upto n ≡ map unpacked list
  unfolding upto
  upto_all =
      let d : Change = unpacked 0 in
      ext_get_or d (map C (range 0 n)) (map unpacked list) (length-first C n ∙ sym (length-map list unpacked))
      (λ i b. let k : i < n = rw (length-first C n) at b in first-at C n i d k ∙ sym (get_d_map unpacked list i 0 d k))

  upto-none : upto 0 ≡ []
  unfolding upto range
  upto-none = refl

  all-on : (i : ℕ) → i ≤ n → All (On w h) (upto i)
  unfolding All
  all-on zero b = rw upto-none tt
  all-on (suc i) b = rw (upto_next i) (all_append (On w h) (upto i) (C i ∷ []) (all-on i (omega arith)) (on i (omega arith), tt))

  raw-on : All (On w h) raw
  unfolding mirror_changes
  raw-on =
      let a : All (On w h) (map unpacked list) = rw upto_all at (all-on n (omega arith)) in
      all_append (On w h) (flat_map (copies_of w t l region (extract_of w h t l)) (map unpacked list)) (map unpacked list)
      (all-flat (On w h) (copies_of w t l region (extract_of w h t l)) (map unpacked list) (all_map (λ c o. copies-on w h t l m.tiled columns region c o) (map unpacked list) a)) a

  -- ---- at one place
  module _ (key : ℕ → ℕ) (key-is : (j : ℕ) → j < n → key j ≡ class_of w t l (place_at w list j)) (p : ℕ) (b : p < N) where
    abbrev R : Bool
    R = contains region (p % w) (p / w)

    abbrev mine : ℕ → List Change
    mine i = own w l list key (class_of w t l p) p R i

    abbrev theirs : ℕ → List Change
    theirs i = copies w l list key (class_of w t l p) p R i

    own-one : (i : ℕ) → i < n → cond (eqb (place_at w list i) p) (C i ∷ []) [] ≡ at_place (key_at w p) (C i ∷ [])
    unfolding at_place kept
    own-one i k = elim (ℕ_discrete (place_at w list i) p) [
      | yes e ↦ rw (eq-eqb (place_at w list i) p e, eq-eqb (key_at w p) (key_of (C i)) (ap (key_at w) (sym e) ∙ sym (key-place w h wide small (C i) (on i k))))
      | no e ↦ rw (ne_eqb (place_at w list i) p e, ne_eqb (key_at w p) (key_of (C i)) (λ q. e (sym (key-same w h wide small p (place_at w list i) (q ∙ key-place w h wide small (C i) (on i k))))))
    ]

    own-all : (i : ℕ) → i ≤ n → mine i ≡ at_place (key_at w p) (upto i)
    unfolding own at_place upto range kept
    own-all zero k = refl
    own-all (suc i) k =
        ap (λ (x : List Change). x ++ cond (eqb (place_at w list i) p) (C i ∷ []) []) (own-all i (omega arith)) ∙ ap (at_place (key_at w p) (upto i) ++◌) (own-one i (omega arith))
        ∙ sym (kept_append (λ e. eqb (key_at w p) (key_of e)) (upto i) (C i ∷ [])) ∙ ap (at_place (key_at w p)) (sym (upto_next i))

    abbrev made : List Change → List Change
    made cs = flat_map (copies_of w t l region (extract_of w h t l)) cs

    copies-all : (i : ℕ) → i ≤ n → theirs i ≡ at_place (key_at w p) (made (upto i))
    unfolding copies at_place upto range kept flat_map
    copies-all zero k = refl
    copies-all (suc i) k =
        let one : cond (R && (eqb (key i) (class_of w t l p) && not (eqb (place_at w list i) p))) (copyTo w l p (C i).new ∷ []) [] ≡ at_place (key_at w p) (copies_of w t l region (extract_of w h t l) (C i)) =
        rw (key-is i (omega arith)) (sym (copies_at w h t l m.tiled columns region (C i) (on i (omega arith)) p b)) in
        let f = copies_of w t l region (extract_of w h t l) in
        ap (λ (x : List Change). x ++ cond (R && (eqb (key i) (class_of w t l p) && not (eqb (place_at w list i) p))) (copyTo w l p (C i).new ∷ []) []) (copies-all i (omega arith))
        ∙ ap (at_place (key_at w p) (made (upto i)) ++◌) one
        ∙ sym (kept_append (λ e. eqb (key_at w p) (key_of e)) (made (upto i)) (f (C i)))
        ∙ ap (at_place (key_at w p)) (ap (made (upto i) ++◌) (sym (flat_map-one f (C i))) ∙ sym (flat_map-append f (upto i) (C i ∷ [])) ∙ ap made (sym (upto_next i)))

    raw_at : at_place (key_at w p) raw ≡ theirs n ++ mine n
    unfolding mirror_changes at_place
    raw_at =
        kept_append (λ e. eqb (key_at w p) (key_of e)) (made (map unpacked list)) (map unpacked list)
        ∙ ap (λ (x : List Change). at_place (key_at w p) (made x) ++ at_place (key_at w p) x) (sym upto_all)
        ∙ ap (◌++ at_place (key_at w p) (upto n)) (sym (copies-all n (omega arith))) ∙ ap (theirs n ++◌) (sym (own-all n (omega arith)))

    at_p : (j : ℕ) → j < n → place_at w list j ≡ p → ((C j).x ≡ p % w) × ((C j).y ≡ p / w)
    unfolding place
    at_p j h e = (sym (digits_mod (C j).y (m.across j h)) ∙ ap (λ (q : ℕ). q % w) e, sym (digits_div (C j).y (m.across j h)) ∙ ap (λ (q : ℕ). q / w) e)

    -- the number of p, before the caller's changes
    module _ (base v : ℕ) (low : base < 2 ^ 42) (is : v ≡ base + land_by w region list p (run key (mark_by w list) (class_of w t l p) 0 n) * 2 ^ 42) where
      pub after-emitted : emitted w l p (run (place_at w list) (λ j. pending_by (get_or list j 0)) p v n) ≡ map packed (kept changing (first_last (at_place (key_at w p) raw)))
      after-emitted =
          emitted-is w l p (run (place_at w list) (λ j. pending_by (get_or list j 0)) p v n) (m.fits p)
          ∙ ap (λ (x : List Change). map packed (kept changing x))
          (all-waiting w l list key (class_of w t l p) p R n at_p v (rw is (waiting-landed w l list key (class_of w t l p) p R region base (run key (mark_by w list) (class_of w t l p) 0 n) low refl)) ∙ ap first_last (sym raw_at))

  -- ---- the passes
  module _ (s₁ : List ℕ) (long₁ : length s₁ ≡ N) (e₁ : (p : ℕ) → p < N → get_or s₁ p 0 ≡ class_of w t l p) where
    pub classes : Classes s₁
    classes = record { within = λ p b. let k : p < N = rw long₁ at b in rw (long₁, e₁ p k) (K-in p k) }

    abbrev key : ℕ → ℕ
    key j = get_or s₁ (place_at w list j) 0

    key-is : (j : ℕ) → j < n → key j ≡ class_of w t l (place_at w list j)
    key-is j b = e₁ (place_at w list j) (at_in j b)

    module _ (s₂ : List ℕ) (long₂ : length s₂ ≡ N) (e₂ : (p : ℕ) → p < length s₁ → get_or s₂ p 0 ≡ marked w list s₁ p) where
      two : (p : ℕ) → p < N → get_or s₂ p 0 ≡ run key (marked_by w list) p (class_of w t l p) n
      unfolding marked
      two p b = e₂ p (rw long₁ b) ∙ ap (λ (c : ℕ). run key (marked_by w list) p c n) (e₁ p b)

      class-two : (p : ℕ) → p < N → get_or s₂ p 0 % 2 ^ 20 ≡ class_of w t l p
      class-two p b = rw (two p b) (marked-class w list key p (class_of w t l p) (K-small p b) n)

      mark-two : (p : ℕ) → p < N → get_or s₂ p 0 / 2 ^ 20 ≡ run key (mark_by w list) p 0 n
      mark-two p b = rw (two p b) (marked-mark w list key p (class_of w t l p) (K-small p b) n)

      pub marks : Marks list s₂
      marks = record {
        within = λ p b. let k : p < N = rw long₂ at b in rw (long₂, class-two p k) (K-in p k);
        most = λ p b. let k : p < N = rw long₂ at b in rw (mark-two p k) (mark-small w list key p n);
      }

      two-low : (p : ℕ) → p < N → get_or s₂ p 0 < 2 ^ 42
      two-low p b = omega (arith, marks.most p (rw long₂ b), m.few)

      module _ (s₃ : List ℕ) (long₃ : length s₃ ≡ N) (e₃ : (p : ℕ) → p < length s₂ → get_or s₃ p 0 ≡ landed w region list s₂ p) where
        three : (p : ℕ) → p < N → get_or s₃ p 0 ≡ get_or s₂ p 0 + land_by w region list p (run key (mark_by w list) (class_of w t l p) 0 n) * 2 ^ 42
        unfolding landed
        three p b = e₃ p (rw long₂ b) ∙ rw (class-two p b, mark-two (class_of w t l p) (K-in p b))

        module _ (s₄ : List ℕ) (long₄ : length s₄ ≡ N) (e₄ : (p : ℕ) → p < length s₃ → get_or s₄ p 0 ≡ pending w list s₃ p) where
          four : (p : ℕ) → p < N → get_or s₄ p 0 ≡ run (place_at w list) (λ j. pending_by (get_or list j 0)) p (get_or s₃ p 0) n
          unfolding pending
          four p b = e₄ p (rw long₃ b)

          pub whole : emitted_all w l s₄ ≡ map packed (mirrored w h t l region (map unpacked list))
          unfolding emitted_all mirrored
          whole =
              rw long₄ (flat-same (λ p. emitted w l p (get_or s₄ p 0)) (λ p. map packed (kept changing (first_last (at_place (key_at w p) raw)))) 0 N
              (λ p a b. let k : p < N = omega arith in ap (emitted w l p) (four p k) ∙ after-emitted key key-is p k (get_or s₂ p 0) (get_or s₃ p 0) (two-low p k) (three p k))
              ∙ sym (map-flat packed (λ p. kept changing (first_last (at_place (key_at w p) raw))) (range 0 N))
              ∙ ap (map packed) (sym (normal-gathered w h wide small raw raw-on)))
