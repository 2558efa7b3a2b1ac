-- What the list of `move_selection` paints: the selection cleared, then the block that lands. Assumes nothing.
use Prim.Native.Nat.{ℕ, ◌+◌, ◌-◌, ◌≤◌, min, max}
use mathlib.Core.Path.{◌≡◌, refl, sym, ap, ◌∙◌}
use mathlib.Core.List.{List, [], ◌∷◌, ◌++◌, map, flat_map}
use native.Mathlib.Omega.{arith}
use mathlib.Core.Bool.{false}
use lib.IntN.{ℤ, negsuc}
use lib.ListN.{length}
use Rattle.base.specs.Ints.{far}
use Rattle.base.specs.Lists.{range, All}
use Rattle.base.proofs.Each.{all_append}
use Rattle.selection_spans.specs.declared.Span.{Span}
use Rattle.selection_spans.specs.Positions.{Position, position}
use Rattle.selection.specs.declared.Selection.{Selection}
use Rattle.selection.specs.Selection.{positions}
use Rattle.edit.specs.Change.{Change, place, painted, new_of, packed}
use Rattle.change_list.specs.Fronts.{Front}
use Rattle.change_list.specs.Between.{laid_out, rows_of, between_rows, HasRows}
use Rattle.change_list.proofs.Parts.{InRows, has-rows}
use Rattle.change_normal.specs.Normal.{normalize_of}
use Rattle.change_normal.proofs.Pictures.{painted-append}
use Rattle.tool_paste_model.specs.declared.Landing.{Landing}
use Rattle.tool_paste_model.specs.Blocks.{block, landing, Lying, Includes, Rows, Lands, index_in, landed}
use Rattle.tool_paste_model.proofs.Collected.{map-collected, by_rows, all-range}
use Rattle.tool_paste_model.proofs.Landings.{offset_of, axis-side, lying-included, lying-ends}
use Rattle.tool_paste_model.proofs.Painting.{block-painted}
use Rattle.tool_paste_model.proofs.Placing.{Good, good-at, landed-in, good-landed, good-between, row_in}
use Rattle.tool_paste_model.specs.Moves.{Movable, MoveRows, cleared, move_changes}

-- ---- the selection that is cleared
module _ (w h : ℕ) (l : List ℤ) (s : Selection) where
  abbrev gone : Position → Change
  gone p = record { x = p.x; y = p.y; old = index_in w l p; new = negsuc 0 }

  cleared-rows : cleared w l (positions s) ≡ flat_map (λ y. flat_map (λ x. gone (position y x) ∷ []) (range s.x s.w)) (range s.y s.h)
  unfolding cleared
  cleared-rows = map-collected gone (positions s) ∙ by_rows (λ p. gone p ∷ []) s

  pub cleared-block : (k : List ℤ) → painted new_of w (cleared w l (positions s)) k ≡ block (λ j i. negsuc 0) w s.x s.y s.w s.h k
  unfolding place
  cleared-block k =
      ap (λ (cs : List Change). painted new_of w cs k) cleared-rows
      ∙ block-painted w (λ y x. gone (position y x) ∷ []) (λ j i. negsuc 0) s.x s.y s.x s.y s.w s.h
      (λ j i a b. record { change = gone (position (s.y + j) (s.x + i)); is = refl; place_is = omega arith; new_is = refl }) k

  good-cleared : s.x + s.w ≤ w → s.y + s.h ≤ h → All (Good w h l) (cleared w l (positions s))
  unfolding All
  good-cleared a b =
      rw cleared-rows
      (all-range (Good w h l) _ s.y s.h (λ y p q. all-range (Good w h l) _ s.x s.w (λ x r t. (good-at w h l x y (negsuc 0) (omega arith) (omega arith), tt))))

  -- in rows that include the selection's
  cleared-in : (rows : Span) → s.x + s.w ≤ w → rows.start ≤ s.y → s.y + s.h ≤ rows.start + rows.count
      → All (InRows w rows.start rows.count) (cleared w l (positions s))
  unfolding All
  cleared-in rows a b c =
      let In : Change → Type 0 = InRows w rows.start rows.count in
      rw cleared-rows
      (all-range In _ s.y s.h (λ y p q. all-range In _ s.x s.w (λ x r t. (record { column = omega arith; from = omega arith; below = omega arith }, tt))))

  pub good-move : (dx dy : ℤ) → s.x + s.w ≤ w → s.y + s.h ≤ h → All (Good w h l) (move_changes w h l s dx dy)
  unfolding move_changes
  good-move dx dy a b = all_append (Good w h l) (cleared w l (positions s)) _ (good-cleared a b) (good-landed w h l w l dx dy (positions s))

-- ---- the rows that a move can change, as `move_rows` finds them
module _ {h : ℕ} (s : Selection) (dy : ℤ) (near : far dy ≡ false) (below : s.y + s.h ≤ h)
    {y : Landing} (p : y ≡ landing s.y s.h (offset_of dy) h) {to : Span} (q : Lying y s.y to) where
  pub move-ends : to.start + to.count ≤ h
  move-ends = lying-ends q (omega arith) (λ k. rw p (axis-side s.y s.h dy h near (rw p at k)))

  pub move-hull : {first end : ℕ} → first ≡ min s.y to.start → end ≡ max (s.y + s.h) (to.start + to.count)
      → MoveRows h s (landing s.y s.h (offset_of dy) h) (record { start = first; count = end - first })
  move-hull {first} {end} e f =
      let ends = move-ends in
      rw (← p) (hull (lying-included q) (omega arith) (omega arith) (omega arith) (omega arith) (omega arith))
    where
      hull : {first end : ℕ} → Includes to y → first ≤ s.y → first ≤ to.start → s.y + s.h ≤ end → to.start + to.count ≤ end → end ≤ h
          → MoveRows h s y (record { start = first; count = end - first })
      hull i a b c d g =
          record {
            ends = omega arith;
            top = a;
            bottom = omega arith;
            lands = record { from = λ k. (let x = i.from k in omega arith); upto = λ k. (let x = i.upto k in omega arith) };
          }

-- ---- as `list_move` meets them
module _ {w h : ℕ} {l : List ℤ} {s : Selection} {dx dy : ℤ} {room : ℕ} (m : Movable w h l s dx dy room) where
  pub clear-fits : {room' : ℕ} → room' ≡ room → Rows w s.x s.y s.w s.h room'
  clear-fits e =
      let n = m.lands in
      let a = n.wide in
      let b = n.right in
      let c = n.bottom in
      rw e
      record {
        wide = omega arith;
        right = omega arith;
        below = omega arith;
        inside = λ j k i. row_in (s.y + j) (s.y + s.h) w s.x s.w room (omega arith) n.right (omega (arith, n.below, n.roomy, m.size));
      }

  pub lands-again : {room' : ℕ} → room' ≡ room → Lands w h w s dx dy (length l) room'
  lands-again e = rw e m.lands

  -- the rows that a move can change
  module _ {rows : Span} (q : MoveRows h s (landing s.y s.h (offset_of dy) h) rows) where
    pub move-has-rows : {room' : ℕ} → room' ≡ room → HasRows w rows.start rows.count (length l) room'
    move-has-rows e =
        let n = m.lands in
        let d = n.roomy in
        let size = m.size in
        rw e (has-rows n.wide n.high q.ends size (omega arith))

    -- laid out, cleared, painted: what differs is the move's normal form
    pub move-front : (s₁ s₂ s₃ : List ℕ) {s₄ : List ℕ} {r : ℕ}
        → rows_of w rows.start rows.count (laid_out (length l) s₁) ≡ rows_of w rows.start rows.count l
        → ((p : ℕ) → laid_out p s₂ ≡ block (λ j i. negsuc 0) w s.x s.y s.w s.h (laid_out p s₁))
        → ((p : ℕ) (k : List ℤ) → laid_out p s₃ ≡ painted new_of w (landed w h k w l dx dy (positions s)) (laid_out p s₂))
        → Front (map packed (between_rows w rows.start rows.count l (laid_out (length l) s₃))) s₄ r
        → Front (map packed (normalize_of (move_changes w h l s dx dy))) s₄ r
    unfolding move_changes
    move-front s₁ s₂ s₃ a b c f =
        let n = m.lands in
        let laid : List ℤ = laid_out (length l) s₁ in
        let cs : List Change = cleared w l (positions s) in
        let ds : List Change = landed w h l w l dx dy (positions s) in
        let e : laid_out (length l) s₃ ≡ painted new_of w (cs ++ ds) laid =
        c (length l) l ∙ ap (painted new_of w ds) (b (length l) ∙ sym (cleared-block w h l s laid)) ∙ sym (painted-append w cs ds laid) in
        let inside : All (InRows w rows.start rows.count) (cs ++ ds) =
        all_append (InRows w rows.start rows.count) cs ds (cleared-in w h l s rows n.right q.top q.bottom)
        (landed-in w h w s dx dy (length l) room n l l rows q.lands) in
        let k : between_rows w rows.start rows.count l (laid_out (length l) s₃) ≡ normalize_of (cs ++ ds) =
        ap (between_rows w rows.start rows.count l) e
        ∙ good-between w h l (let z = n.wide in omega arith) m.size (cs ++ ds) (good-move w h l s dx dy n.right m.below) rows.start rows.count inside laid a in
        rw k at f
