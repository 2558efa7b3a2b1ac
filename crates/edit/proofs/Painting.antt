-- Painted lists of changes: a place that no change names keeps its index, and the olds that were filled in, painted over the news, give the
-- picture back, places named twice included: each place gets its own index back, in any order. Assumes nothing.
use mathlib.Core.Path.{◌≡◌, refl, sym, subst, ◌∙◌}
use mathlib.Core.Logic.{◌⊎◌, inl, inr}
use mathlib.Core.Bool.{Bool, true, false, false≢true}
use mathlib.Core.List.{List, [], ◌∷◌, map}
use Prim.Native.Nat.{ℕ, ◌*◌, ◌<◌}
use native.Mathlib.Omega.{arith}
use borrow.Author.Tests.{eqb-true, eqb-false, leb-false}
use lib.Dec.{leb, eqb}
use lib.IntN.{ℤ, pos}
use lib.ListN.{length, get_or, set, length-set}
use lib.Seq.{ext_get_or, get_or-set_same, get_or-set_other}
use Rattle.base.specs.Lists.{some}
use Rattle.base.proofs.Scan.{or_left, or_right, some-none}
use Rattle.sheet.specs.Sheet.{stray}
use Rattle.sheet.proofs.Places as places
use Rattle.edit.specs.Change.{Change, place, outside, painted, new_of, old_of, filled_in}
use Rattle.edit.specs.Checks.{named}
use Rattle.base.proofs.Nowhere.{or-both, first-not, rest-not, nowhere-set, nowhere-weaker, some-map}

module _ (f : Change → ℤ) (w : ℕ) where
  pub painted-length : (cs : List Change) (l : List ℤ) → length (painted f w cs l) ≡ length l
  unfolding painted
  painted-length [] l = refl
  painted-length (c ∷ cs) l = painted-length cs (set l (place w c) (f c)) ∙ length-set l (place w c) (f c)

  -- a place that no change names
  pub painted-keeps : (cs : List Change) (l : List ℤ) (i : ℕ) → named w cs i ≡ false → get_or (painted f w cs l) i (pos 0) ≡ get_or l i (pos 0)
  unfolding painted named
  painted-keeps [] l i n = refl
  painted-keeps (c ∷ cs) l i n =
      let here : Change → Bool = λ c. eqb (place w c) i in
      painted-keeps cs (set l (place w c) (f c)) i (rest-not here c cs n)
      ∙ get_or-set_other l (place w c) i (f c) (pos 0) (λ e. eqb-false (place w c) i (first-not here c cs n) (sym e))

  -- what neither the picture nor a change has
  pub painted-nowhere : (p : ℤ → Bool) (cs : List Change) (l : List ℤ) → some p l ≡ false → some (λ c. p (f c)) cs ≡ false
      → some p (painted f w cs l) ≡ false
  unfolding painted some
  painted-nowhere p [] l a b = a
  painted-nowhere p (c ∷ cs) l a b =
      painted-nowhere p cs (set l (place w c) (f c)) (nowhere-set p l (place w c) (f c) a (first-not (λ c. p (f c)) c cs b)) (rest-not (λ c. p (f c)) c cs b)

  -- what no change has is not at a place that is named, or had it not before
  pub painted-avoids : (p : ℤ → Bool) (cs : List Change) (l : List ℤ) (j : ℕ) → j < length l → some (λ c. p (f c)) cs ≡ false
      → (named w cs j ≡ true) ⊎ (p (get_or l j (pos 0)) ≡ false) → p (get_or (painted f w cs l) j (pos 0)) ≡ false
  unfolding painted named some
  painted-avoids p [] l j b a (inl e) = absurd (false≢true e)
  painted-avoids p [] l j b a (inr e) = e
  painted-avoids p (c ∷ cs) l j b a h =
      painted-avoids p cs (set l (place w c) (f c)) j (rw length-set b) (rest-not (λ c. p (f c)) c cs a) (go h (eqb (place w c) j) refl)
    where
      go : (named w (c ∷ cs) j ≡ true) ⊎ (p (get_or l j (pos 0)) ≡ false) → (x : Bool) → eqb (place w c) j ≡ x
          → (named w cs j ≡ true) ⊎ (p (get_or (set l (place w c) (f c)) j (pos 0)) ≡ false)
      go h true q =
          let e : place w c ≡ j = eqb-true (place w c) j q in
          inr (rw (e, get_or-set_same l j (f c) (pos 0) b) (first-not (λ c. p (f c)) c cs a))
      go (inl e) false q = inl (rw q at e)
      go (inr e) false q = inr (rw (get_or-set_other l (place w c) j (f c) (pos 0) (λ z. eqb-false (place w c) j q (sym z))) e)

-- a picture that differs from l only at named places is l again once the olds, filled in from l, are painted
pub restore : (w : ℕ) (cs : List Change) (l m : List ℤ) → length m ≡ length l
    → ((i : ℕ) → i < length l → named w cs i ≡ false → get_or m i (pos 0) ≡ get_or l i (pos 0))
    → painted old_of w (map (filled_in w l) cs) m ≡ l
unfolding painted filled_in place named some
restore w [] l m n h = ext_get_or (pos 0) m l n (λ i b. h i (omega arith) refl)
restore w (c ∷ cs) l m n h = restore w cs l (set m p v) (length-set m p v ∙ n) next
  where
    p : ℕ
    p = place w c

    v : ℤ
    v = get_or l p (pos 0)

    next : (i : ℕ) → i < length l → named w cs i ≡ false → get_or (set m p v) i (pos 0) ≡ get_or l i (pos 0)
    next i b o = go (eqb p i) refl
      where
        go : (x : Bool) → eqb p i ≡ x → get_or (set m p v) i (pos 0) ≡ get_or l i (pos 0)
        go true q = subst (λ j. get_or (set m p v) j (pos 0) ≡ get_or l j (pos 0)) (eqb-true p i q) (get_or-set_same m p v (pos 0) (omega (arith, eqb-true p i q)))
        go false q = get_or-set_other m p i v (pos 0) (λ e. eqb-false p i q (sym e)) ∙ h i b (or-both q o)

-- undo of a pixel edit
pub pixels-back : (w : ℕ) (cs : List Change) (l : List ℤ) → painted old_of w (map (filled_in w l) cs) (painted new_of w cs l) ≡ l
pixels-back w cs l = restore w cs l (painted new_of w cs l) (painted-length new_of w cs l) (λ i b n. painted-keeps new_of w cs l i n)

-- ---- changes filled in from l, as a sheet of width u has it
module _ (u : ℕ) (l : List ℤ) where
  -- they paint the same news
  pub filled-news : (w : ℕ) (cs : List Change) (m : List ℤ) → painted new_of w (map (filled_in u l) cs) m ≡ painted new_of w cs m
  unfolding painted filled_in place
  filled-news w [] m = refl
  filled-news w (c ∷ cs) m = filled-news w cs (set m (place w c) c.new)

  -- they are off a sheet where the changes are
  pub filled-outside : (w h : ℕ) (cs : List Change) → some (outside w h) (map (filled_in u l) cs) ≡ some (outside w h) cs
  unfolding filled_in outside
  filled-outside w h cs = some-map (filled_in u l) (outside w h) cs

-- a change on the sheet has its place among the indices
pub place_inside : (w h : ℕ) (c : Change) → outside w h c ≡ false → place w c < w * h
unfolding outside place
place_inside w h c o = places.place (leb-false h c.y (or_right (leb w c.x) _ o)) (leb-false w c.x (or_left _ (leb h c.y) o))

-- the olds that are filled in are indices of the picture
pub olds-in-range : (w h k : ℕ) (l : List ℤ) (cs : List Change) → length l ≡ w * h → some (stray k) l ≡ false → some (outside w h) cs ≡ false
    → some (λ c. stray k (old_of c)) (map (filled_in w l) cs) ≡ false
unfolding filled_in
olds-in-range w h k l cs n a o =
    some-map (filled_in w l) (λ c. stray k (old_of c)) cs
    ∙ nowhere-weaker (outside w h) (λ c. stray k (get_or l (place w c) (pos 0)))
    (λ c b. some-none (stray k) l (place w c) (pos 0) a (rw n (place_inside w h c b))) cs o
