-- What a list that lands paints: the block that the code writes, clipped to the sheet. Assumes nothing.
use Prim.Native.Nat.{ℕ, ◌+◌, ◌-◌, ◌*◌, ◌≤◌, ◌<◌, ◌^◌}
use mathlib.Core.Path.{◌≡◌, refl, sym, ap, ◌∙◌}
use mathlib.Core.Bool.{Bool, true, false, cond, ◌&&◌}
use mathlib.Core.List.{List, [], ◌∷◌, flat_map}
use native.Mathlib.Omega.{arith}
use native.Mathlib.Nat.{suc-mul, mul_comm, mul-le-mul_right}
use borrow.Author.Tests.{lt-ltb, le-ltb, ltb-true}
use lib.Dec.{ltb}
use lib.IntN.{ℤ, pos, negsuc, ◌+ℤ◌}
use lib.ListN.{length, get_or}
use Rattle.base.specs.Lists.{range, All}
use Rattle.base.proofs.Each.{all_map}
use Rattle.base.specs.Ints.{from_zero}
use Rattle.sheet.specs.Document.{index_at}
use mathlib.Core.Option.{none, some}
use Rattle.selection_spans.specs.declared.Span.{Span}
use Rattle.selection_spans.specs.Positions.{Position}
use Rattle.selection.specs.declared.Selection.{Selection}
use Rattle.selection.specs.Selection.{positions}
use Rattle.edit.specs.Change.{Change, place, painted, new_of}
use Rattle.change_list.specs.Between.{rows_of, between_rows}
use Rattle.change_list.proofs.Parts.{InRows, painted-rows}
use Rattle.change_normal.specs.Normal.{normalize_of}
use Rattle.change_normal.specs.Laws.{On}
use Rattle.change_normal.proofs.Shortest.{first-olds}
use Rattle.change_normal.proofs.Pictures.{normal-between}
use Rattle.tool_paste_model.specs.declared.Landing.{Landing}
use Rattle.tool_paste_model.specs.Blocks.{block, source_at, landing, Includes, Rows, Lands, index_in, onto_got, onto, landed}
use Rattle.tool_paste_model.proofs.Landings.{offset_of, Off, before, past, axis-low, axis-high, axis-side, axis-few, axis-near, axis-meets, axis-before, axis-past}
use Rattle.tool_paste_model.proofs.Collected.{none-collected, clipped, collected-alike, by_rows, all-collected, all-range}
use Rattle.tool_paste_model.proofs.Painting.{One, block-painted}

-- ---- one index, where it lands
module _ (w h : ℕ) (l : List ℤ) where
  abbrev changed : ℕ → ℕ → ℤ → Change
  changed x y z = record { x = x; y = y; old = get_or l (y * w + x) (pos 0); new = z }

  onto-at : (x y : ℕ) (z : ℤ) → x < w → y < h → onto w h l (pos x) (pos y) z ≡ changed x y z ∷ []
  unfolding onto onto_got index_at from_zero
  onto-at x y z a b = rw (lt-ltb x w a, lt-ltb y h b)

  onto-right : (x : ℕ) (ty z : ℤ) → w ≤ x → onto w h l (pos x) ty z ≡ []
  unfolding onto onto_got index_at
  onto-right x (pos y) z a = rw (le-ltb x w a)
  onto-right x (negsuc y) z a = refl

  onto-left : (x : ℕ) (ty z : ℤ) → onto w h l (negsuc x) ty z ≡ []
  unfolding onto onto_got index_at
  onto-left x ty z = refl

  onto-above : (tx : ℤ) (y : ℕ) (z : ℤ) → onto w h l tx (negsuc y) z ≡ []
  unfolding onto onto_got index_at
  onto-above (pos x) y z = refl
  onto-above (negsuc x) y z = refl

  onto-below : (tx : ℤ) (y : ℕ) (z : ℤ) → h ≤ y → onto w h l tx (pos y) z ≡ []
  unfolding onto onto_got index_at
  onto-below (pos x) y z a = rw (le-ltb y h a) (go (ltb x w) refl)
    where
      go : (b : Bool) → ltb x w ≡ b → onto_got (pos x) (pos y) z (cond (b && false) (some (get_or l (y * w + x) (pos 0))) none) ≡ []
      go true e = refl
      go false e = refl
  onto-below (negsuc x) y z a = refl

  off-column : (tx ty z : ℤ) → Off w tx → onto w h l tx ty z ≡ []
  off-column tx ty z (before n e) = rw e (onto-left n ty z)
  off-column tx ty z (past t e k) = rw e (onto-right t ty z k)

  off-row : (tx ty z : ℤ) → Off h ty → onto w h l tx ty z ≡ []
  off-row tx ty z (before n e) = rw e (onto-above tx n z)
  off-row tx ty z (past t e k) = rw e (onto-below tx t z k)

  -- ---- its change is on the sheet and has the picture's index as old
  pub record Good (c : Change) : Type 0 where
    pub on : On w h c
    pub old-is : c.old ≡ get_or l (place w c) (pos 0)

  pub good-at : (x y : ℕ) (z : ℤ) → x < w → y < h → Good (changed x y z)
  unfolding On place
  good-at x y z a b = record { on = (a, b); old-is = refl }

  good-onto : (tx ty z : ℤ) → All Good (onto w h l tx ty z)
  unfolding onto onto_got index_at from_zero All
  good-onto (pos x) (pos y) z = go (ltb x w) refl (ltb y h) refl
    where
      go : (a : Bool) → ltb x w ≡ a → (b : Bool) → ltb y h ≡ b → All Good (onto w h l (pos x) (pos y) z)
      go true p true q = rw (onto-at x y z (ltb-true x w p) (ltb-true y h q)) (good-at x y z (ltb-true x w p) (ltb-true y h q), tt)
      go true p false q = rw (p, q) tt
      go false p b q = rw p tt
  good-onto (pos x) (negsuc y) z = tt
  good-onto (negsuc x) ty z = tt

  pub good-landed : (sw : ℕ) (source : List ℤ) (dx dy : ℤ) (ps : List Position) → All Good (landed w h l sw source dx dy ps)
  unfolding landed
  good-landed sw source dx dy ps = all-collected Good _ (λ p. good-onto (pos p.x +ℤ dx) (pos p.y +ℤ dy) (index_in sw source p)) ps

  -- ---- painted where some rows are laid out: what lies between the pictures there
  pub good-between : w ≤ 2 ^ 16 → length l ≡ w * h → (cs : List Change) → All Good cs → (first count : ℕ) → All (InRows w first count) cs
      → (k : List ℤ) → rows_of w first count k ≡ rows_of w first count l → between_rows w first count l (painted new_of w cs k) ≡ normalize_of cs
  good-between small size cs g first count r k e =
      painted-rows w first count cs r k l e
      ∙ sym (normal-between w h small l size cs (all_map (λ c d. d.on) cs g) (first-olds w l [] cs (all_map (λ c d. d.old-is) cs g)))

-- ---- rows that a list has
pub row_in : (a b w x n places : ℕ) → a < b → x + n ≤ w → b * w ≤ places → a * w + x + n ≤ places
row_in a b w x n places h k e = omega (arith, suc-mul a w, mul-le-mul_right w h)

-- ---- the rectangle that lands
module _ (w h sw : ℕ) (s : Selection) (dx dy : ℤ) (places room : ℕ) (m : Lands w h sw s dx dy places room) where
  abbrev across : Landing
  across = landing s.x s.w (offset_of dx) w

  abbrev down : Landing
  down = landing s.y s.h (offset_of dy) h

  -- what the writing of its rows asks, of the picture that is read and of the one that is written
  rows-of : (wide x y bottom size : ℕ) → wide ≤ 1024 → x ≤ s.x + 65536 → y ≤ s.y + 65536
      → (0 < across.count → x + across.count ≤ wide) → (0 < down.count → y + down.count ≤ bottom) → bottom * wide ≤ size
      → Rows wide x y across.count down.count size
  rows-of wide x y bottom size u a b r t e =
      let c = axis-few s.y s.h dy h m.down in
      let p = m.right in
      let q = m.bottom in
      let v = m.high in
      let k = m.source-wide in
      record {
        wide = omega arith;
        right = omega arith;
        below = omega arith;
        inside = λ j k n. row_in (y + j) bottom wide x across.count size (omega (arith, t (omega arith))) (r n) e;
      }

  pub rows-read : Rows sw across.from down.from across.count down.count places
  rows-read =
      let a = axis-near s.x s.w dx w m.across in
      let b = axis-near s.y s.h dy h m.down in
      let r = m.right in
      rows-of sw across.from down.from (s.y + s.h) places m.source-wide a.0 b.0
      (λ n. omega (arith, axis-high s.x s.w dx w m.across n)) (axis-high s.y s.h dy h m.down) m.below

  pub rows_written : Rows w across.to down.to across.count down.count room
  rows_written =
      let a = axis-near s.x s.w dx w m.across in
      let b = axis-near s.y s.h dy h m.down in
      rows-of w across.to down.to h room m.wide a.1 b.1
      (axis-side s.x s.w dx w m.across) (axis-side s.y s.h dy h m.down) (rw (mul_comm h w) m.roomy)

  module _ (l source : List ℤ) where
    -- of row y and column x
    abbrev at : ℕ → ℕ → List Change
    at y x = onto w h l (pos x +ℤ dx) (pos y +ℤ dy) (get_or source (y * sw + x) (pos 0))

    columns : (y : ℕ) → flat_map (at y) (range s.x s.w) ≡ flat_map (at y) (range across.from across.count)
    columns y =
        clipped (at y) s.x s.w across.from across.count (axis-low s.x s.w dx w m.across) (axis-high s.x s.w dx w m.across)
        (λ i a b k. off-column w h l _ _ _ (axis-before s.x s.w dx w m.across i k a))
        (λ i a b k. off-column w h l _ _ _ (axis-past s.x s.w dx w m.across i k b))

    abbrev across-row : ℕ → List Change
    across-row y = flat_map (at y) (range across.from across.count)

    rows : flat_map across-row (range s.y s.h) ≡ flat_map across-row (range down.from down.count)
    rows =
        clipped across-row s.y s.h down.from down.count (axis-low s.y s.h dy h m.down) (axis-high s.y s.h dy h m.down)
        (λ i a b k. none-collected (at i) across.from across.count (λ x p q. off-row w h l _ _ _ (axis-before s.y s.h dy h m.down i k a)))
        (λ i a b k. none-collected (at i) across.from across.count (λ x p q. off-row w h l _ _ _ (axis-past s.y s.h dy h m.down i k b)))

    landed-clipped : landed w h l sw source dx dy (positions s) ≡ flat_map across-row (range down.from down.count)
    unfolding landed
    landed-clipped = by_rows (λ p. onto w h l (pos p.x +ℤ dx) (pos p.y +ℤ dy) (index_in sw source p)) s ∙ collected-alike _ _ columns (range s.y s.h) ∙ rows

    -- the change of one that lands
    lands-at : (j i : ℕ) → j < down.count → i < across.count
        → at (down.from + j) (across.from + i)
        ≡ changed w h l (across.to + i) (down.to + j) (get_or source ((down.from + j) * sw + (across.from + i)) (pos 0)) ∷ []
    lands-at j i a b =
        let column : across.to + i < w = omega (arith, axis-side s.x s.w dx w m.across (omega arith)) in
        let row : down.to + j < h = omega (arith, axis-side s.y s.h dy h m.down (omega arith)) in
        rw (axis-meets s.x s.w dx w m.across i, axis-meets s.y s.h dy h m.down j)
        (onto-at w h l (across.to + i) (down.to + j) _ column row)

    one_in : (rows : Span) → Includes rows down → (y x : ℕ) → down.from ≤ y → y < down.from + down.count → across.from ≤ x → x < across.from + across.count
        → All (InRows w rows.start rows.count) (at y x)
    unfolding All
    one_in rows h y x a b p q =
        let j : ℕ = y - down.from in
        let i : ℕ = x - across.from in
        let ey : y ≡ down.from + j = omega arith in
        let ex : x ≡ across.from + i = omega arith in
        let f = h.from (omega arith) in
        let g = h.upto (omega arith) in
        rw (ey, ex)
        (rw (lands-at j i (omega arith) (omega arith))
        (record { column = omega (arith, axis-side s.x s.w dx w m.across (omega arith)); from = omega arith; below = omega arith }, tt))

    -- all of them lie in rows that include the landing
    pub landed-in : (rows : Span) → Includes rows down → All (InRows w rows.start rows.count) (landed w h l sw source dx dy (positions s))
    landed-in rows h =
        let In : Change → Type 0 = InRows w rows.start rows.count in
        rw landed-clipped
        (all-range In across-row down.from down.count (λ y a b. all-range In (at y) across.from across.count (λ x p q. one_in rows h y x a b p q)))

    one : (j i : ℕ) → j < down.count → i < across.count
        → One w ((down.to + j) * w + across.to + i) (source_at source sw across.from down.from j i) (at (down.from + j) (across.from + i))
    unfolding place
    one j i a b =
        let tx : ℕ = across.to + i in
        let ty : ℕ = down.to + j in
        record {
          change = changed w h l tx ty (get_or source ((down.from + j) * sw + (across.from + i)) (pos 0));
          is = lands-at j i a b;
          place_is = omega arith;
          new_is = ap (λ (k : ℕ). get_or source k (pos 0)) (omega arith);
        }

    pub landed-block : (k : List ℤ) → painted new_of w (landed w h l sw source dx dy (positions s)) k
        ≡ block (source_at source sw across.from down.from) w across.to down.to across.count down.count k
    landed-block k =
        ap (λ (cs : List Change). painted new_of w cs k) landed-clipped
        ∙ block-painted w at (source_at source sw across.from down.from) across.from down.from across.to down.to across.count down.count one k

-- ---- as `land` meets them
module _ {w h sw : ℕ} {s : Selection} {dx dy : ℤ} {places room : ℕ} (m : Lands w h sw s dx dy places room) {x y : Landing}
    (p : x ≡ landing s.x s.w (offset_of dx) w) (q : y ≡ landing s.y s.h (offset_of dy) h) where
  pub land-rows : Rows sw x.from y.from x.count y.count places × Rows w x.to y.to x.count y.count room
  land-rows = rw (p, q) (rows-read w h sw s dx dy places room m, rows_written w h sw s dx dy places room m)

  pub land-painted : (source a b : List ℤ) → a ≡ block (source_at source sw x.from y.from) w x.to y.to x.count y.count b
      → (l : List ℤ) → a ≡ painted new_of w (landed w h l sw source dx dy (positions s)) b
  land-painted source a b e l = e ∙ rw (p, q) (sym (landed-block w h sw s dx dy places room m l source b))
