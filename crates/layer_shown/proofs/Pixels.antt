-- A pixel of a flattening: four bytes, which depend on the colours that the layers show there. Assumes nothing.
use Prim.Native.Nat.{ℕ, zero, suc, ◌+◌, ◌*◌, ◌<◌, ◌≤◌}
use mathlib.Core.Path.{◌≡◌, refl, sym, ap, ◌∙◌}
use mathlib.Core.Bool.{Bool, true, false, not, cond, ◌&&◌}
use mathlib.Core.List.{List, [], ◌∷◌, ◌++◌, map, flat_map, reverse, reverse_aux, reverse-append, map-append, append_assoc}
use native.Mathlib.Omega.{arith}
use native.Mathlib.Nat.{not-suc-le-zero, le_of_suc-le-suc}
use borrow.Author.Tests.{eqb-true, not-true, leb-false}
use lib.Dec.{eqb}
use lib.IntN.{ℤ, pos, negsuc}
use lib.ListN.{length, get_or, set, take, drop, length-append, length-take, length-drop}
use lib.Seq.{take_at, drop_at, drop-drop}
use Rattle.base.specs.Lists.{range, some, over, All}
use Rattle.base.proofs.Bools.{and_left, and_right}
use Rattle.base.proofs.Nowhere.{first-not, rest-not}
use Rattle.base.proofs.Collect.{flat_map-append, flat_map-one, range-suc}
use Rattle.base.proofs.Back.{never}
use Rattle.sheet.specs.Sheet.{Sheet, stray}
use Rattle.sheet.specs.Checks.{WellFormed}
use Rattle.sheet_diff.specs.Mask.{shown, same_bytes}
use Rattle.layer_shown.specs.Layers.{shown_at, laid_over, topmost, pixel_of, flattened, changed_at, pixel_in, repainted_at, repainted}

-- ---- colours are three bytes or none
pub data Colour (c : List ℕ) : Type 0 where
  clear : c ≡ [] → Colour c
  three : length c ≡ 3 → Colour c

-- ---- lists that are equal byte by byte
pub same-bytes : (a b : List ℕ) → same_bytes a b ≡ true → a ≡ b
unfolding same_bytes
same-bytes [] [] e = refl
same-bytes [] (y ∷ b) e = never e
same-bytes (x ∷ a) [] e = never e
same-bytes (x ∷ a) (y ∷ b) e =
    let p : x ≡ y = eqb-true x y (and_left (eqb x y) (same_bytes a b) e) in
    let q : a ≡ b = same-bytes a b (and_right (eqb x y) (same_bytes a b) e) in
    rw (p, q)

-- ---- four bytes
pub over-four : (c below : List ℕ) → Colour c → length below ≡ 4 → length (laid_over c below) ≡ 4
unfolding laid_over
over-four [] below k h = h
over-four (b ∷ bs) below (clear e) h = absurd (no-nil e)
  where
    no-nil : (b ∷ bs) ≡ [] → ⊥
    no-nil e = let z : suc (length bs) ≡ 0 = ap (λ (l : List ℕ). length l) e in omega arith
over-four (b ∷ bs) below (three e) h = rw (length-append (b ∷ bs) (255 ∷ [])) (omega arith)

pub topmost-four : (cs : List (List ℕ)) → All Colour cs → length (topmost cs) ≡ 4
unfolding topmost All
topmost-four [] a = refl
topmost-four (c ∷ cs) a = over-four c (topmost cs) a.0 (topmost-four cs a.1)

-- an element of a list is the same whatever stands for one past the end
pub in_list : {A : Type 0} (l : List A) (i : ℕ) (d e : A) → i < length l → get_or l i d ≡ get_or l i e
in_list [] i d e h = absurd (not-suc-le-zero h)
in_list (x ∷ l) zero d e h = refl
in_list (x ∷ l) (suc i) d e h = in_list l i d e (le_of_suc-le-suc h)

-- what lies below a colour is not seen
pub unseen : (c a b : List ℕ) → length c ≡ 3 → laid_over c a ≡ laid_over c b
unfolding laid_over
unseen [] a b h = absurd (omega arith)
unseen (x ∷ c) a b h = refl

-- ---- n pixels of four bytes each
module _ (f : ℕ → List ℕ) (four : (p : ℕ) → length (f p) ≡ 4) where
  -- the four bytes of pixel p, of those from a on
  pub pixel-at : (a n p : ℕ) (rest : List ℕ) → p < n → take 4 (drop (4 * p) (flat_map f (range a n) ++ rest)) ≡ f (a + p)
  unfolding range flat_map
  pixel-at a zero p rest h = absurd (not-suc-le-zero h)
  pixel-at a (suc n) zero rest h =
      ap (λ (l : List ℕ). take 4 l) (append_assoc (f a) (flat_map f (range (suc a) n)) rest)
      ∙ take_at (f a) (flat_map f (range (suc a) n) ++ rest) 4 (four a)
      ∙ ap f (omega arith)
  pixel-at a (suc n) (suc p) rest h =
      let more : List ℕ = flat_map f (range (suc a) n) ++ rest in
      let past : 4 * suc p ≡ 4 + 4 * p = omega arith in
      ap (λ (l : List ℕ). take 4 (drop (4 * suc p) l)) (append_assoc (f a) (flat_map f (range (suc a) n)) rest)
      ∙ ap (λ (m : ℕ). take 4 (drop m (f a ++ more))) past
      ∙ ap (λ (l : List ℕ). take 4 l) (sym (drop-drop (4 * p) 4 (f a ++ more)) ∙ ap (λ (l : List ℕ). drop (4 * p) l) (drop_at (f a) more 4 (four a)))
      ∙ pixel-at (suc a) n p rest (le_of_suc-le-suc h)
      ∙ ap f (omega arith)

pub flat-same : (f g : ℕ → List ℕ) (a n : ℕ) → ((p : ℕ) → a ≤ p → p < a + n → f p ≡ g p)
    → flat_map f (range a n) ≡ flat_map g (range a n)
unfolding range flat_map
flat-same f g a zero e = refl
flat-same f g a (suc n) e = rw (e a (omega arith) (omega arith), flat-same f g (suc a) n (λ p x y. e p (omega arith) (omega arith)))

-- ---- a layer of a well-formed sheet shows a colour, or nothing
pub index-known : (k : ℕ) (l : List ℤ) (p : ℕ) → some (stray k) l ≡ false → stray k (get_or l p (negsuc 0)) ≡ false
unfolding stray
index-known k [] p e = refl
index-known k (z ∷ l) zero e = first-not (stray k) z l e
index-known k (z ∷ l) (suc p) e = index-known k l p (rest-not (stray k) z l e)

pub shown-colour : (palette : List ℕ) (k : ℕ) → length palette ≡ 765 → k ≤ 255 → (z : ℤ) → stray k z ≡ false → Colour (shown palette z)
unfolding shown stray
shown-colour palette k h b (pos n) e =
    let low = leb-false k n e in
    three (length-take 3 (drop (3 * n) palette) ∙ rw (length-drop (3 * n) palette, h) (omega arith))
shown-colour palette k h b (negsuc n) e = clear refl

pub colour-of : (s : Sheet) → WellFormed s → (p : ℕ) → Colour (shown_at p s)
unfolding shown_at
colour-of s f p = shown-colour s.palette s.k f.limits.palette-length f.limits.k-small _ (index-known s.k s.indices p f.in-range)

-- ---- so each pixel has four bytes
all-reverse : {A : Type 0} (P : A → Type 0) (l m : List A) → All P l → All P m → All P (reverse_aux l m)
unfolding All
all-reverse P [] m a b = b
all-reverse P (x ∷ l) m a b = all-reverse P l (x ∷ m) a.1 (a.0, b)

colours : (p : ℕ) (layers : List Sheet) → All WellFormed layers → All Colour (map (shown_at p) layers)
unfolding All
colours p [] a = tt
colours p (s ∷ l) a = (colour-of s a.0 p, colours p l a.1)

pub pixel-four : (layers : List Sheet) → All WellFormed layers → (p : ℕ) → length (pixel_of layers p) ≡ 4
unfolding pixel_of All
pixel-four layers a p = topmost-four (reverse (map (shown_at p) layers)) (all-reverse Colour (map (shown_at p) layers) [] (colours p layers a) tt)

-- ---- a layer that shows what it showed
pub shown-set : (p : ℕ) (layers : List Sheet) (e : ℕ) (before : Sheet) → shown_at p before ≡ shown_at p (get_or layers e before)
    → map (shown_at p) (set layers e before) ≡ map (shown_at p) layers
shown-set p [] e before q = refl
shown-set p (s ∷ l) zero before q = ap (λ (c : List ℕ). c ∷ map (shown_at p) l) q
shown-set p (s ∷ l) (suc e) before q = ap (λ (m : List (List ℕ)). shown_at p s ∷ m) (shown-set p l e before q)

pub pixel-same : (p : ℕ) (layers : List Sheet) (e : ℕ) (before : Sheet) → shown_at p before ≡ shown_at p (get_or layers e before)
    → pixel_of (set layers e before) p ≡ pixel_of layers p
unfolding pixel_of
pixel-same p layers e before q = ap (λ (m : List (List ℕ)). topmost (reverse m)) (shown-set p layers e before q)

-- ---- the topmost layer is laid over the others
pub pixel-top : (layers : List Sheet) (s : Sheet) (p : ℕ) → pixel_of (layers ++ (s ∷ [])) p ≡ laid_over (shown_at p s) (pixel_of layers p)
unfolding pixel_of topmost
pixel-top layers s p =
    ap (λ (m : List (List ℕ)). topmost (reverse m)) (map-append (shown_at p) layers (s ∷ []))
    ∙ ap topmost (reverse-append (map (shown_at p) layers) (shown_at p s ∷ []))
