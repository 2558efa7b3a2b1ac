-- The normal form of changes of places, each of which is a place's only change: one scan of the places. So what a flood leaves is the normal form of
-- the changes of the places that are reached, in whatever order they were met. Assumes nothing.
use Prim.Native.Nat.{ℕ, zero, suc, ◌+◌, ◌*◌, ◌/◌, ◌%◌, ◌≤◌, ◌<◌}
use mathlib.Core.Path.{◌≡◌, refl, sym, ap, ◌∙◌}
use mathlib.Core.Bool.{Bool, true, false, cond, ◌||◌, or-true, or-false, or_assoc}
use mathlib.Core.List.{List, [], ◌∷◌, map}
use native.Mathlib.Omega.{arith}
use native.Mathlib.Decide.{ℕ_discrete}
use native.Mathlib.Nat.{div-add-mod', mod-lt, le-div_iff_mul-le}
use lib.Dec.{eqb}
use lib.IntN.{ℤ, pos}
use lib.ListN.{length, get_or}
use borrow.Author.Tests.{eq-eqb, ne_eqb}
use Rattle.base.specs.Lists.{range, some, kept, All}
use Rattle.base.proofs.Each.{all_of}
use Rattle.base.proofs.Kept.{kept_map, kept_same, kept-all}
use Rattle.base.specs.Ints.{eq_z}
use Rattle.selection.specs.declared.Selection.{Selection}
use Rattle.edit.specs.Change.{Change}
use Rattle.change_normal.specs.Normal.{key_of, joined, enter, entered, changing, normalize_of}
use Rattle.change_normal.proofs.Group.{enter-none, enter-less, enter-same, enter-more}
use Rattle.tool_fill_model.specs.Flood.{change_at, flooded, flood_of}
use Rattle.tool_fill_model.proofs.Flooded.{kept-within}

nothing : (i k : ℕ) → kept (λ q. false) (range i k) ≡ []
unfolding kept range
nothing i zero = refl
nothing i (suc k) = nothing (suc i) k

unfoldable pub plus : (ℕ → Bool) → ℕ → ℕ → Bool
plus f p q = f q || eqb q p

hit : (f : ℕ → Bool) (p i : ℕ) → i ≡ p → plus f p i ≡ true
unfolding plus
hit f p i e = rw (eq-eqb i p e) (or-true (f i))

other : (f : ℕ → Bool) (p i : ℕ) → (i ≡ p → ⊥) → plus f p i ≡ f i
unfolding plus
other f p i n = rw (ne_eqb i p n) (or-false (f i))

-- before what is above it
enter-low : (c : Change) (m : List Change) → All (λ e. key_of c < key_of e) m → enter c m ≡ c ∷ m
unfolding All
enter-low c [] a = enter-none c
enter-low c (e ∷ m) a = enter-less c e m a.0

module _ (at : ℕ → Change) (less : (i p : ℕ) → i < p → key_of (at i) < key_of (at p)) (again : (p : ℕ) → joined (at p) (at p) ≡ at p) where
  above : (p : ℕ) (f : ℕ → Bool) (i k : ℕ) → p < i → All (λ e. key_of (at p) < key_of e) (map at (kept f (range i k)))
  unfolding All kept range
  above p f i zero h = tt
  above p f i (suc k) h = pick (f i) (above p f (suc i) k (omega arith))
    where
      pick : (b : Bool) → All (λ e. key_of (at p) < key_of e) (map at (kept f (range (suc i) k))) → All (λ e. key_of (at p) < key_of e) (map at (cond b (i ∷ kept f (range (suc i) k)) (kept f (range (suc i) k))))
      pick true a = (less p i h, a)
      pick false a = a

  past : (f : ℕ → Bool) (p i k : ℕ) → p < i → kept (plus f p) (range i k) ≡ kept f (range i k)
  unfolding kept range
  past f p i zero h = refl
  past f p i (suc k) h = let r : kept (plus f p) (range (suc i) k) ≡ kept f (range (suc i) k) = past f p (suc i) k (omega arith) in let e : plus f p i ≡ f i = other f p i (λ q. omega arith) in rw (e, r)

  pub enter-scan : (f : ℕ → Bool) (p i k : ℕ) → i ≤ p → p < i + k → enter (at p) (map at (kept f (range i k))) ≡ map at (kept (plus f p) (range i k))
  unfolding kept range
  enter-scan f p i zero a b = absurd (omega arith)
  enter-scan f p i (suc k) a b = elim (ℕ_discrete i p) [
    | yes e ↦ (let r : kept (plus f p) (range (suc i) k) ≡ kept f (range (suc i) k) = past f p (suc i) k (omega arith) in
        let g : plus f p i ≡ true = hit f p i e in rw (g, r) (here (f i) e))
    | no n ↦ (let g : plus f p i ≡ f i = other f p i n in rw g (before (f i) n (enter-scan f p (suc i) k (omega arith) (omega arith))))
  ]
    where
      here : (b : Bool) → i ≡ p → enter (at p) (map at (cond b (i ∷ kept f (range (suc i) k)) (kept f (range (suc i) k)))) ≡ at i ∷ map at (kept f (range (suc i) k))
      here true e = enter-same (at p) (at i) _ (ap (λ (q : ℕ). key_of (at q)) (sym e)) ∙ ap (λ (c : Change). c ∷ map at (kept f (range (suc i) k))) (ap (λ (q : ℕ). joined (at i) (at q)) (sym e) ∙ again i)
      here false e = enter-low (at p) _ (above p f (suc i) k (omega arith)) ∙ ap (λ (q : ℕ). at q ∷ map at (kept f (range (suc i) k))) (sym e)

      before : (b : Bool) → (i ≡ p → ⊥) → enter (at p) (map at (kept f (range (suc i) k))) ≡ map at (kept (plus f p) (range (suc i) k))
          → enter (at p) (map at (cond b (i ∷ kept f (range (suc i) k)) (kept f (range (suc i) k)))) ≡ map at (cond b (i ∷ kept (plus f p) (range (suc i) k)) (kept (plus f p) (range (suc i) k)))
      before true n ih = enter-more (at p) (at i) _ (less i p (omega arith)) ∙ ap (λ (r : List Change). at i ∷ r) ih
      before false n ih = ih

  -- all of them
  pub entered-scan : (n : ℕ) (f : ℕ → Bool) (ps : List ℕ) → All (λ p. p < n) ps → entered (map at (kept f (range 0 n))) (map at ps) ≡ map at (kept (λ q. f q || some (eqb q) ps) (range 0 n))
  unfolding entered All some plus
  entered-scan n f [] a = ap (map at) (kept_same f (λ q. f q || false) (range 0 n) (all_of (λ q. sym (or-false (f q))) (range 0 n)))
  entered-scan n f (p ∷ ps) a =
      ap (λ (m : List Change). entered m (map at ps)) (enter-scan f p 0 n (omega arith) (omega (arith, a.0)))
      ∙ entered-scan n (plus f p) ps a.1
      ∙ ap (map at) (kept_same (λ q. plus f p q || some (eqb q) ps) (λ q. f q || (eqb q p || some (eqb q) ps)) (range 0 n) (all_of (λ q. or_assoc (f q) (eqb q p) (some (eqb q) ps)) (range 0 n)))

  -- the normal form of the changes of places to one index: one scan of the rows
  pub normal-scan : (n : ℕ) (ps : List ℕ) → All (λ p. p < n) ps → normalize_of (map at ps) ≡ kept changing (map at (kept (λ q. some (eqb q) ps) (range 0 n)))
  unfolding normalize_of
  normal-scan n ps a =
      ap (kept changing)
      (ap (λ (m : List ℕ). entered (map at m) (map at ps)) (sym (nothing 0 n)) ∙ entered-scan n (λ q. false) ps a)

-- ---- a flood's places
module _ (w : ℕ) (z : 0 < w) (small : w ≤ 65536) (old new : ℤ) where
  key-at : (p : ℕ) → key_of (change_at w old new p) ≡ p / w * 65536 + p % w
  unfolding key_of change_at
  key-at p = refl

  pub key-less : (i p : ℕ) → i < p → key_of (change_at w old new i) < key_of (change_at w old new p)
  key-less i p h =
      let d : i / w ≤ p / w = (le-div_iff_mul-le z).1 (omega (arith, div-add-mod' i w)) in
      let ri : i % w < w = mod-lt i z in
      let rp : p % w < w = mod-lt p z in
      rw (key-at i, key-at p) (elim (ℕ_discrete (i / w) (p / w)) [
        | yes e ↦ omega (arith, div-add-mod' i w, div-add-mod' p w, ap (λ (x : ℕ). x * w) e)
        | no n ↦ omega arith
      ])

  joined_at : (p : ℕ) → joined (change_at w old new p) (change_at w old new p) ≡ change_at w old new p
  unfolding joined change_at
  joined_at p = refl

  changes-at : eq_z old new ≡ false → (p : ℕ) → changing (change_at w old new p) ≡ true
  unfolding changing change_at
  changes-at e p = rw e

-- `normalize(out)` of the Rust: any list of the places reached has the flood as its normal form
pub any_order : (w : ℕ) (l : List ℤ) (region : Selection) (start : ℕ) (index : ℤ) → 0 < w → w ≤ 65536 → eq_z (get_or l start (pos 0)) index ≡ false
    → (ps : List ℕ) → All (λ p. p < length l) ps → ((p : ℕ) → p < length l → some (eqb p) ps ≡ flooded w l region start p)
    → normalize_of (map (change_at w (get_or l start (pos 0)) index) ps) ≡ flood_of w l region start index
unfolding flood_of
any_order w l region start index z small e ps a h =
    let old : ℤ = get_or l start (pos 0) in
    let reached : List ℕ = kept (λ q. some (eqb q) ps) (range 0 (length l)) in
    normal-scan (change_at w old index) (key-less w z small old index) (joined_at w z small old index) (length l) ps a
    ∙ kept_map changing (change_at w old index) reached
    ∙ ap (map (change_at w old index)) (kept-all (λ p. changing (change_at w old index p)) reached (all_of (changes-at w z small old index e) reached))
    ∙ ap (map (change_at w old index)) (kept-within (λ q. some (eqb q) ps) (flooded w l region start) 0 (length l) (λ p q. h p (omega arith)))
