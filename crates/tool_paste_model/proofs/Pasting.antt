-- What the list of `paste` paints: the block that lands. Assumes nothing.
use Prim.Native.Nat.{ℕ, ◌+◌, ◌≤◌}
use mathlib.Core.Path.{◌≡◌, sym, ap, ◌∙◌}
use mathlib.Core.List.{List, map}
use native.Mathlib.Omega.{arith}
use lib.IntN.{ℤ}
use lib.ListN.{length}
use Rattle.selection_spans.specs.declared.Span.{Span}
use Rattle.selection.specs.Selection.{positions, all}
use Rattle.edit.specs.Change.{Change, painted, new_of, packed}
use Rattle.change_list.specs.Fronts.{Front}
use Rattle.change_list.specs.Between.{laid_out, rows_of, between_rows, HasRows}
use Rattle.change_list.proofs.Parts.{has-rows}
use Rattle.change_normal.specs.Normal.{normalize_of}
use Rattle.tool_paste_model.specs.declared.Landing.{Landing}
use Rattle.tool_paste_model.specs.Blocks.{landing, Lying, Includes, Lands, landed}
use Rattle.tool_paste_model.proofs.Landings.{offset_of, axis-side, lying-included, lying-ends}
use Rattle.tool_paste_model.proofs.Placing.{landed-in, good-landed, good-between}
use Rattle.tool_paste_model.specs.Pasting.{Pastable, paste_changes}

module _ {w h : ℕ} {l : List ℤ} {cw ch : ℕ} {dx dy : ℤ} {places room : ℕ} (m : Pastable w h l cw ch dx dy places room) where
  pub clip-lands : {room' : ℕ} → room' ≡ room → Lands w h cw (all cw ch) dx dy places room'
  clip-lands e = rw e m.lands

  -- the rows that the clip lands on
  module _ {y : Landing} {rows : Span} (p : y ≡ landing 0 ch (offset_of dy) h) (q : Lying y 0 rows) where
    paste-included : Includes rows (landing 0 ch (offset_of dy) h)
    paste-included = rw (← p) (lying-included q)

    pub paste-rows : {room' : ℕ} → room' ≡ room → HasRows w rows.start rows.count (length l) room'
    paste-rows e =
        let n = m.lands in
        let d = n.roomy in
        let size = m.size in
        rw e (has-rows n.wide n.high (lying-ends q (omega arith) (λ k. rw p (axis-side 0 ch dy h n.down (rw p at k)))) size (omega arith))

    -- laid out, painted: what differs is the paste's normal form
    pub paste-front : (clip : List ℤ) (s₁ s₂ : List ℕ) {s₃ : List ℕ} {r : ℕ}
        → rows_of w rows.start rows.count (laid_out (length l) s₁) ≡ rows_of w rows.start rows.count l
        → ((p : ℕ) (k : List ℤ) → laid_out p s₂ ≡ painted new_of w (landed w h k cw clip dx dy (positions (all cw ch))) (laid_out p s₁))
        → Front (map packed (between_rows w rows.start rows.count l (laid_out (length l) s₂))) s₃ r
        → Front (map packed (normalize_of (paste_changes w h l cw ch clip dx dy))) s₃ r
    unfolding paste_changes all
    paste-front clip s₁ s₂ a c f =
        let n = m.lands in
        let ds : List Change = landed w h l cw clip dx dy (positions (all cw ch)) in
        let k : between_rows w rows.start rows.count l (laid_out (length l) s₂) ≡ normalize_of ds =
        ap (between_rows w rows.start rows.count l) (c (length l) l)
        ∙ good-between w h l (let z = n.wide in omega arith) m.size ds (good-landed w h l cw clip dx dy (positions (all cw ch))) rows.start rows.count
        (landed-in w h cw (all cw ch) dx dy places room n l clip rows paste-included) (laid_out (length l) s₁) a in
        rw k at f
