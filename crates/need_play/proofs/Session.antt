-- A session on the way: what was played so far, and what is left, give what the whole gives. Assumes nothing.
use mathlib.Core.Path.{◌≡◌, refl, sym, ap, subst, ◌∙◌}
use mathlib.Core.Bool.{Bool, true, false, not, ◌||◌}
use mathlib.Core.List.{List, [], ◌∷◌, ◌++◌}
use mathlib.Core.Option.{Option, none, some}
use Prim.Native.Nat.{ℕ, ◌+◌, ◌-◌, ◌*◌, ◌≤◌, ◌<◌, max}
use native.Mathlib.Omega.{arith}
use borrow.Author.Tests.{ltb-true, ltb-false, lt-leb}
use lib.Dec.{ltb, leb, T}
use lib.Ieee.{Float, binary64, fits, nan}
use mir.Syntax.{w8}
use mir.Val.{Fits}
use lib.ListN.{length, take, drop, get_or}
use Rattle.base.specs.Lists as lists
use Rattle.base.proofs.Nowhere.{nowhere-of}
use Rattle.base.specs.Limits.{max_journal}
use Rattle.base.specs.declared.Form.{Form}
use Rattle.base.proofs.Back.{never}
use Rattle.color_curve.specs.Curve.{srgb}
use Rattle.sheet.specs.Sheet.{view}
use Rattle.history_ledger.specs.Algebra.{Algebra, WellFormedIn}
use Rattle.history_ledger.specs.Calls.{Call, Outcome, Answer, Played}
use Rattle.history_ledger.specs.Demand.{is_full}
use Rattle.history_ledger.specs.Journal.{State, opened, step}
use Rattle.history_ledger.specs.Script.{act, left_by, answers_to, any_full, TypedAsk, highest}
use Rattle.history_ledger.proofs.Script.{least-journal, highest-is-least}
use Rattle.history_model.specs.Document.{Document, Shown, shown}
use Rattle.history_model.specs.Editing.{Given, editing_by}
use Rattle.history_along.proofs.Along.{Along, along-start, along-step, along-fits}
use Rattle.history_model.proofs.Keeps.{keeps, double}
use Rattle.panel_frames.specs.Reading.{frame_of}
use Rattle.panel_lines.specs.Lines.{lines_of}
use Rattle.need_model.specs.Asked.{line_asks, script_of}
use Rattle.need_model.specs.Need.{need_in}
use Rattle.need_model.proofs.Typed.{line-typed, script-typed}
use Rattle.need_model.proofs.Least.{srgb-fits}
use Rattle.need_lines.specs.Cut.{line_length}
use Rattle.need_lines.proofs.Cut.{line_at, lines_end}
use Rattle.need_play.specs.Play.{line_on}
use Rattle.need_play.specs.Session.{Counted}
use Rattle.need_play.proofs.Acted.{Acts, acted}

module _ (f : Form) (d : Document) (text journal : List ℕ) (room : ℕ) where
  abbrev A : Algebra
  A = editing_by f srgb

  abbrev rest : ℕ → List (Shown → Option (Call Given))
  rest at = script_of (lines_of (drop at text))

  abbrev from : State Document → List (Shown → Option (Call Given)) → Played (State Document)
  from st fs = act (λ i. step A room) (λ (st : State Document). shown st.sheet) st fs

  abbrev start : State Document
  start = opened A d journal

  pub record Going (at need : ℕ) (st : State Document) : Type 0 where
    along : Along f srgb room (length journal) st
    counts : highest A (λ i. room) need st (rest at) ≡ highest A (λ i. room) 0 start (script_of (lines_of text))
    ends : (from st (rest at)).ends ≡ (from start (script_of (lines_of text))).ends
    full : any_full (from st (rest at)).answers ≡ any_full (from start (script_of (lines_of text))).answers

  module _ (fits : WellFormedIn (editing_by f srgb) d) (permitted : length journal ≤ max_journal) (roomy : d.sheet.w * d.sheet.h ≤ room) where
    along-ask : {st : State Document} → Along f srgb room (length journal) st → (c : Option (Call Given)) → TypedAsk A c
        → Along f srgb room (length journal) (left_by (step A room) st c)
    along-ask a none t = a
    along-ask a (some c) t = along-step f srgb srgb-fits permitted a c t

    pub going_start : Going 0 0 start
    unfolding view
    going_start = record { along = along-start f srgb d journal fits roomy; counts = refl; ends = refl; full = refl }

    -- answers one after the other
    full-append : (a b : List Answer) → any_full (a ++ b) ≡ any_full a || any_full b
    full-append [] b = refl
    full-append (x ∷ a) b = ap (λ (t : Bool). is_full x || t) (full-append a b) ∙ or-again (is_full x) (any_full a) (any_full b)
      where
        or-again : (x y z : Bool) → x || (y || z) ≡ (x || y) || z
        or-again true y z = refl
        or-again false y z = refl

    module _ {at need : ℕ} {st : State Document} (g : Going at need st) (h : at < length text) (end : ℕ) (e : end ≡ at + line_length (drop at text)) where
      abbrev line : List ℕ
      line = take (end - at) (drop at text)

      abbrev ask : Option (Call Given)
      ask = line_asks line (shown st.sheet)

      abbrev next : State Document
      next = left_by (step A room) st ask

      one : Acts f room st (line_on f room st line) ask
      unfolding line_on
      one = acted f room st (along-fits f srgb g.along).passes (frame_of line).frame (frame_of line).bytes

      cut : rest at ≡ line_asks line ∷ rest (end + 1)
      unfolding script_of
      cut = ap script_of (line_at text at end h e)

      full-next : any_full (from st (rest at)).answers ≡ is_full (line_on f room st line).answer || any_full (from next (rest (end + 1))).answers
      unfolding act
      full-next =
          ap (λ (fs : List (Shown → Option (Call Given))). any_full (from st fs).answers) cut
          ∙ full-append (answers_to (step A room) st ask) (from next (rest (end + 1))).answers
          ∙ ap (λ (t : Bool). t || any_full (from next (rest (end + 1))).answers) (sym one.full)

      -- a call that is answered "journal full"
      pub going-full : is_full (line_on f room st line).answer ≡ true → length journal < need_in f d text
      unfolding view
      going-full t = by (ltb (length journal) (need_in f d text)) refl
        where
          all-full : any_full (from start (script_of (lines_of text))).answers ≡ true
          all-full = sym g.full ∙ full-next ∙ rw t

          by : (b : Bool) → ltb (length journal) (need_in f d text) ≡ b → length journal < need_in f d text
          by true q = ltb-true (length journal) (need_in f d text) q
          by false q =
              never (sym ((least-journal A (keeps f srgb srgb-fits) d fits (λ i. room) (λ i. roomy) (script_of (lines_of text)) (script-typed f (lines_of text)) journal permitted).0 (ltb-false (length journal) (need_in f d text) q)).none-full ∙ all-full)

      -- any other
      pub going_next : (o : Outcome (State Document)) → o ≡ line_on f room st line → is_full o.answer ≡ false → (to : ℕ) → drop to text ≡ drop (end + 1) text
          → Going to (max need o.leaves.handle.end) o.leaves
      unfolding act highest
      going_next o q t to z =
          let left : o.leaves ≡ next = ap (λ (o : Outcome (State Document)). o.leaves) q ∙ one.leaves in
          let none : is_full (line_on f room st line).answer ≡ false = ap (λ (o : Outcome (State Document)). is_full o.answer) (sym q) ∙ t in
          let to-rest : rest to ≡ rest (end + 1) = ap (λ (l : List ℕ). script_of (lines_of l)) z in
          subst (λ s. Going to (max need s.handle.end) s) (sym left)
          (record {
            along = along-ask g.along ask (line-typed f line (shown st.sheet));
            counts = ap (highest A (λ i. room) (max need next.handle.end) next) to-rest ∙ sym (ap (highest A (λ i. room) need st) cut) ∙ g.counts;
            ends = ap (λ (fs : List (Shown → Option (Call Given))). (from next fs).ends) to-rest ∙ sym (ap (λ (fs : List (Shown → Option (Call Given))). (from st fs).ends) cut) ∙ g.ends;
            full = ap (λ (fs : List (Shown → Option (Call Given))). any_full (from next fs).answers) to-rest ∙ sym (full-next ∙ ap (λ (b : Bool). b || any_full (from next (rest (end + 1))).answers) none) ∙ g.full;
          })

    -- as code has it: what a call left, with scratch that is as long as it was
    module _ {at need : ℕ} {st : State Document} (g : Going at need st) (h : at < length text) (end : ℕ) (e : end ≡ at + line_length (drop at text)) {places : ℕ} (same : places ≡ room)
        (o : Outcome (State Document)) (played : o ≡ line_on f places st (take (end - at) (drop at text))) (t : Bool) (told : t ≡ is_full o.answer) where
      is-played : o ≡ line_on f room st (take (end - at) (drop at text))
      is-played = subst (λ r. o ≡ line_on f r st (take (end - at) (drop at text))) same played

      pub full-on : t ≡ true → length journal < need_in f d text
      full-on b = going-full g h end e (ap (λ (o : Outcome (State Document)). is_full o.answer) (sym is-played) ∙ sym told ∙ b)

      pub next-on : t ≡ false → (to m : ℕ) → drop to text ≡ drop (end + 1) text → m ≡ max need o.leaves.handle.end → Going to m o.leaves
      next-on b to m z q = subst (λ n. Going to n o.leaves) (sym q) (going_next g h end e o is-played (sym told ∙ b) to z)

    -- the last line is played
    pub going_end : {at need : ℕ} {st : State Document} → Going at need st → length text ≤ at → Counted f d text (length journal) false need (shown st.sheet)
    unfolding act highest script_of view
    going_end {at} {need} {st} g h =
        let no_more : rest at ≡ [] = ap script_of (lines_end text at h) in
        let none-full : any_full (from start (script_of (lines_of text))).answers ≡ false = sym g.full ∙ ap (λ (fs : List (Shown → Option (Call Given))). any_full (from st fs).answers) no_more in
        let least = least-journal A (keeps f srgb srgb-fits) d fits (λ i. room) (λ i. roomy) (script_of (lines_of text)) (script-typed f (lines_of text)) journal permitted in
        let fine : need_in f d text ≤ length journal = by (ltb (length journal) (need_in f d text)) refl (λ b. sym none-full ∙ least.1 b) in
        let counted : need ≡ need_in f d text =
        sym (ap (highest A (λ i. room) need st) no_more) ∙ g.counts ∙ highest-is-least A (keeps f srgb srgb-fits) d fits (λ i. room) (λ i. roomy) (script_of (lines_of text)) (script-typed f (lines_of text)) journal permitted fine in
        let ends : st ≡ (from start (script_of (lines_of text))).ends = sym (ap (λ (fs : List (Shown → Option (Call Given))). (from st fs).ends) no_more) ∙ g.ends in
        record {
          stopped = λ q. never q;
          enough = λ q. fine;
          counts = λ q. counted;
          shows = λ q. ap (λ (s : State Document). shown s.sheet) ends ∙ (least.0 fine).ends.picture;
        }
      where
        by : (b : Bool) → ltb (length journal) (need_in f d text) ≡ b → (length journal < need_in f d text → false ≡ true) → need_in f d text ≤ length journal
        by true q k = never (k (ltb-true (length journal) (need_in f d text) q))
        by false q k = ltb-false (length journal) (need_in f d text) q

-- a session that stopped
pub stopped-at : {f : Form} {d : Document} {text : List ℕ} {journal : ℕ} {need : ℕ} {p : Shown} → journal < need_in f d text → Counted f d text journal true need p
stopped-at h = record { stopped = λ q. h; enough = λ q. never (sym q); counts = λ q. never (sym q); shows = λ q. never (sym q) }

-- a sheet whose numbers are in the range of their types
pub sheet-typed : (p : List ℕ) (l : List Float) → ((i : ℕ) → Fits w8 (get_or p i 0)) → ((i : ℕ) → T (fits binary64 (get_or l i nan)))
    → (lists.some (leb 256) p ≡ false) × (lists.some (λ (v : Float). not (fits binary64 v)) l ≡ false)
sheet-typed p l b f = (nowhere-of (leb 256) p 0 (λ i h. lt-leb 256 (get_or p i 0) (omega (arith, b i))), nowhere-of (λ (v : Float). not (fits binary64 v)) l nan (λ i h. double (fits binary64 (get_or l i nan)) (f i)))
