-- Lists of changes that paint a block: a change a place, row by row. Assumes nothing.
use Prim.Native.Nat.{ℕ, zero, suc, ◌+◌, ◌*◌, ◌<◌}
use mathlib.Core.Path.{◌≡◌, refl, ap, ◌∙◌}
use mathlib.Core.List.{List, [], ◌∷◌, ◌++◌, flat_map}
use native.Mathlib.Omega.{arith}
use lib.IntN.{ℤ}
use lib.ListN.{set}
use Rattle.base.specs.Lists.{range}
use Rattle.base.proofs.Collect.{range-suc, flat_map-append, flat_map-one}
use Rattle.edit.specs.Change.{Change, place, painted, new_of}
use Rattle.change_normal.proofs.Pictures.{painted-append}
use Rattle.tool_paste_model.specs.Blocks.{written, block}

-- one change, to z at a place
pub record One (w at : ℕ) (z : ℤ) (cs : List Change) : Type 0 where
  pub change : Change
  pub is : cs ≡ change ∷ []
  pub place_is : place w change ≡ at
  pub new_is : change.new ≡ z

one-painted : {w at : ℕ} {z : ℤ} {cs : List Change} → One w at z cs → (l : List ℤ) → painted new_of w cs l ≡ set l at z
unfolding painted
one-painted o l = rw (o.is, o.place_is, o.new_is)

collected-suc : {B : Type 0} (f : ℕ → List B) (start n : ℕ) → flat_map f (range start (suc n)) ≡ flat_map f (range start n) ++ f (start + n)
collected-suc f start n = ap (flat_map f) (range-suc start n) ∙ flat_map-append f (range start n) ((start + n) ∷ []) ∙ ap (λ k. flat_map f (range start n) ++ k) (flat_map-one f (start + n))

module _ (w : ℕ) where
  pub row-painted : (g : ℕ → List Change) (v : ℕ → ℤ) (x to n : ℕ) → ((i : ℕ) → i < n → One w (to + i) (v i) (g (x + i))) → (l : List ℤ)
      → painted new_of w (flat_map g (range x n)) l ≡ written v to n l
  unfolding written range flat_map painted
  row-painted g v x to zero h l = refl
  row-painted g v x to (suc n) h l =
      ap (λ (cs : List Change). painted new_of w cs l) (collected-suc g x n) ∙ painted-append w (flat_map g (range x n)) (g (x + n)) l
      ∙ one-painted (h n (omega arith)) (painted new_of w (flat_map g (range x n)) l)
      ∙ ap (λ (k : List ℤ). set k (to + n) (v n)) (row-painted g v x to n (λ i k. h i (omega arith)) l)

  pub block-painted : (g : ℕ → ℕ → List Change) (v : ℕ → ℕ → ℤ) (x y tx ty n m : ℕ)
      → ((j i : ℕ) → j < m → i < n → One w ((ty + j) * w + tx + i) (v j i) (g (y + j) (x + i))) → (l : List ℤ)
      → painted new_of w (flat_map (λ r. flat_map (g r) (range x n)) (range y m)) l ≡ block v w tx ty n m l
  unfolding block range flat_map painted
  block-painted g v x y tx ty n zero h l = refl
  block-painted g v x y tx ty n (suc m) h l =
      let rows : ℕ → List Change = λ r. flat_map (g r) (range x n) in
      ap (λ (cs : List Change). painted new_of w cs l) (collected-suc rows y m) ∙ painted-append w (flat_map rows (range y m)) (rows (y + m)) l
      ∙ row-painted (g (y + m)) (v m) x ((ty + m) * w + tx) n (λ i k. h m i (omega arith) k) (painted new_of w (flat_map rows (range y m)) l)
      ∙ ap (written (v m) ((ty + m) * w + tx) n) (block-painted g v x y tx ty n m (λ j i a b. h j i (omega arith) b) l)
