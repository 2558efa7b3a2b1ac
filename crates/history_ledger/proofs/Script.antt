-- How much journal frames need. As long as nothing is answered "journal full", journal, tally and ledger meet the same pictures, so the frames ask for the same
-- calls. Assumes nothing.
use mathlib.Core.Path.{◌≡◌, refl, sym, ap, ◌∙◌}
use mathlib.Core.Bool.{Bool, true, false, cond}
use mathlib.Core.List.{List, [], ◌∷◌, ◌++◌}
use mathlib.Core.Option.{Option, none, some}
use Prim.Native.Nat.{ℕ, suc, ◌+◌, ◌≤◌, ◌<◌, max}
use native.Mathlib.Omega.{arith}
use lib.ListN.{length}
use lib.Dec.{ltb}
use borrow.Author.Tests.{ltb-true, ltb-false}
use Rattle.base.specs.Limits.{max_journal}
use Rattle.history_ledger.specs.Calls.{Call, Answer, Outcome, Played}
use Rattle.history_ledger.specs.Calls.Call.{push, undo, redo, mark}
use Rattle.history_ledger.specs.Algebra.{Algebra}
use Rattle.history_ledger.specs.Laws.{Laws}
use Rattle.history_ledger.specs.Journal.{State, step}
use Rattle.history_ledger.specs.Ledger.{Ledger, standing, enter}
use Rattle.history_ledger.specs.Demand.{is_full, TypedCall}
use Rattle.history_ledger.specs.Tally.{Tally, total, tail, first_onto, is_done, counted, wants, next}
use Rattle.history_ledger.specs.Script.{answers_to, left_by, act, any_full, Script, TypedAsk, TypedScript, wantsOf, needFrom, Enough, LeastJournal, highest, HighestIsLeast}
use Rattle.history_ledger.proofs.Trace.{Trace, Holds, begin, begins, state_of, ledgerOf, stands}
use Rattle.history_ledger.proofs.Tally.{tally_of, turn-full, turn-fits, Stepped}
use Rattle.history_ledger.proofs.Struck.{enter-unstruck}
use Rattle.history_ledger.proofs.Scratch.{any-room}
use Rattle.history_ledger.proofs.Whole.{sim, matches}

-- ---- one frame more
module _ {S C P : Type 0} (step : ℕ → S → C → Outcome S) (picture : S → P) where
  abbrev later : S → List (P → Option C) → Played S
  later s fs = act (λ i. step (suc i)) picture s fs

  abbrev after : S → Option C → List (P → Option C) → Played S
  after s o fs = let ran = later (left_by (step 0) s o) fs in record { answers = answers_to (step 0) s o ++ ran.answers; ends = ran.ends }

  act-cons : (s : S) (f : P → Option C) (fs : List (P → Option C)) {o : Option C} → f (picture s) ≡ o → act step picture s (f ∷ fs) ≡ after s o fs
  unfolding act
  act-cons s f fs e = ap (λ o. after s o fs) e

  -- a call that leaves a state s'
  after_call : (s : S) (c : C) (fs : List (P → Option C)) {a : Answer} {s' : S} → step 0 s c ≡ record { answer = a; leaves = s' }
      → after s (some c) fs ≡ record { answers = a ∷ (later s' fs).answers; ends = (later s' fs).ends }
  after_call s c fs e = ap (λ (o : Outcome S). let ran = later o.leaves fs in record { answers = o.answer ∷ ran.answers; ends = ran.ends }) e

module _ (A : Algebra) (L : Laws A) (room n : ℕ) (permitted : n ≤ max_journal) where
  open A use {Sheet, Picture, Edit, view, size}

  abbrev picture : State Sheet → Picture
  picture st = view st.sheet

  -- ---- a call that fits, and one that does not, with scratch of its own
  record Goes (k : Trace A) (own : ℕ) (c : Call Edit) : Type 0 where
    pub to : Trace A
    pub holds : Holds A room n to
    pub code : step A own (state_of A k) c ≡ record { answer = (enter A (ledgerOf A k) c).answer; leaves = state_of A to }
    pub tally : (next A (tally_of A k) c).leaves ≡ tally_of A to

  module _ (k : Trace A) (h : Holds A room n k) (own : ℕ) (b : room ≤ own) (c : Call Edit) (t : TypedCall A c) where
    abbrev stepped : Stepped A room n k c
    stepped = sim A L room n permitted k h c t

    same_code : step A own (state_of A k) c ≡ record { answer = stepped.answer; leaves = state_of A stepped.to }
    same_code = any-room A own room (state_of A k) c (omega (arith, h.scratch)) h.scratch ∙ stepped.code

    fits : wants A (tally_of A k) c ≤ n → Goes k own c
    fits d =
        let e = sym (turn-fits A n (tally_of A k) c d) ∙ stepped.tally in
        record {
          to = stepped.to;
          holds = stepped.holds;
          code = same_code ∙ ap (λ (a : Answer). record { answer = a; leaves = state_of A stepped.to }) (sym (ap (λ o. o.answer) e));
          tally = ap (λ o. o.leaves) e;
        }

    full : n < wants A (tally_of A k) c → is_full (step A own (state_of A k) c).answer ≡ true
    full d =
        let e = sym stepped.tally ∙ turn-full A n (tally_of A k) c d in
        rw (same_code, ap (λ o. o.answer) e)

  -- the pictures are one
  meets : (k : Trace A) → Holds A room n k → picture (state_of A k) ≡ standing A (ledgerOf A k)
  meets k h = stands A k h.leads

  abbrev coded : (ℕ → ℕ) → Trace A → Script A → Played (State Sheet)
  coded rooms k fs = act (λ i. step A (rooms i)) picture (state_of A k) fs

  abbrev booked : Trace A → Script A → Played (Ledger A)
  booked k fs = act (λ i. enter A) (standing A) (ledgerOf A k) fs

  abbrev needAfter : Trace A → Option (Call Edit) → Script A → ℕ
  needAfter k o fs = max (wantsOf A (tally_of A k) o) (needFrom A (left_by (next A) (tally_of A k) o) fs)

  -- ---- one frame, by what it asks; `others` is what holds of the frames after it
  module _ (rooms : ℕ → ℕ) (b : room ≤ rooms 0) (f : Picture → Option (Call Edit)) (fs : Script A) (k : Trace A) (h : Holds A room n k) where
    abbrev rooms' : ℕ → ℕ
    rooms' i = rooms (suc i)

    module _ (o : Option (Call Edit)) (e : f (standing A (ledgerOf A k)) ≡ o) where
      coded-is : coded rooms k (f ∷ fs) ≡ after (λ i. step A (rooms i)) picture (state_of A k) o fs
      coded-is = act-cons (λ i. step A (rooms i)) picture (state_of A k) f fs (ap f (meets k h) ∙ e)

      booked-is : booked k (f ∷ fs) ≡ after (λ i. enter A) (standing A) (ledgerOf A k) o fs
      booked-is = act-cons (λ i. enter A) (standing A) (ledgerOf A k) f fs e

    one-enough : (o : Option (Call Edit)) → f (standing A (ledgerOf A k)) ≡ o → TypedAsk A o → needAfter k o fs ≤ n
        → ((to : Trace A) → Holds A room n to → needFrom A (tally_of A to) fs ≤ n → Enough A (coded rooms' to fs) (booked to fs))
        → Enough A (coded rooms k (f ∷ fs)) (booked k (f ∷ fs))
    one-enough none e t d others = rw (coded-is none e, booked-is none e) (others k h (omega arith))
    one-enough (some c) e t d others =
        let g = fits k h (rooms 0) b c t (omega arith) in
        let rest : needFrom A (next A (tally_of A k) c).leaves fs ≤ n = omega arith in
        let l = others g.to g.holds (rw g.tally at rest) in
        let book : enter A (ledgerOf A k) c ≡ record { answer = (enter A (ledgerOf A k) c).answer; leaves = ledgerOf A g.to } =
        ap (λ (l : Ledger A). record { answer = (enter A (ledgerOf A k) c).answer; leaves = l }) (ap (λ (t : Tally A). t.ledger) g.tally) in
        rw (
          coded-is (some c) e,
          booked-is (some c) e,
          after_call (λ i. step A (rooms i)) picture (state_of A k) c fs g.code,
          after_call (λ i. enter A) (standing A) (ledgerOf A k) c fs book,
        )
        (record {
          none-full = rw (enter-unstruck A L (ledgerOf A k) c) l.none-full;
          answers = ap (λ (more : List Answer). (enter A (ledgerOf A k) c).answer ∷ more) l.answers;
          ends = l.ends;
        })

    one-short : (o : Option (Call Edit)) → f (standing A (ledgerOf A k)) ≡ o → TypedAsk A o → n < needAfter k o fs
        → ((to : Trace A) → Holds A room n to → n < needFrom A (tally_of A to) fs → any_full (coded rooms' to fs).answers ≡ true)
        → any_full (coded rooms k (f ∷ fs)).answers ≡ true
    one-short none e t d others = rw (coded-is none e) (others k h (omega arith))
    one-short (some c) e t d others = go (ltb n (wants A (tally_of A k) c)) refl
      where
        go : (w : Bool) → ltb n (wants A (tally_of A k) c) ≡ w → any_full (coded rooms k (f ∷ fs)).answers ≡ true
        go true q = rw (coded-is (some c) e, full k h (rooms 0) b c t (ltb-true _ _ q))
        go false q =
            let w : wants A (tally_of A k) c ≤ n = ltb-false n (wants A (tally_of A k) c) q in
            let g = fits k h (rooms 0) b c t w in
            let rest : n < needFrom A (next A (tally_of A k) c).leaves fs = omega arith in
            rw (coded-is (some c) e ∙ after_call (λ i. step A (rooms i)) picture (state_of A k) c fs g.code, enter-unstruck A L (ledgerOf A k) c)
            (others g.to g.holds (rw g.tally at rest))

  -- ---- all frames
  enough : (rooms : ℕ → ℕ) → ((i : ℕ) → room ≤ rooms i) → (fs : Script A) → TypedScript A fs → (k : Trace A) → Holds A room n k
      → needFrom A (tally_of A k) fs ≤ n → Enough A (coded rooms k fs) (booked k fs)
  unfolding act needFrom
  enough rooms b [] ts k h d = record { none-full = refl; answers = refl; ends = matches A L room n k permitted h }
  enough rooms b (f ∷ fs) ts k h d =
      one-enough rooms (b 0) f fs k h (f (standing A (ledgerOf A k))) refl (ts.0 (standing A (ledgerOf A k))) d
      (λ to g d. enough (λ i. rooms (suc i)) (λ i. b (suc i)) fs ts.1 to g d)

  short : (rooms : ℕ → ℕ) → ((i : ℕ) → room ≤ rooms i) → (fs : Script A) → TypedScript A fs → (k : Trace A) → Holds A room n k
      → n < needFrom A (tally_of A k) fs → any_full (coded rooms k fs).answers ≡ true
  unfolding act needFrom
  short rooms b [] ts k h d = absurd (omega arith)
  short rooms b (f ∷ fs) ts k h d =
      one-short rooms (b 0) f fs k h (f (standing A (ledgerOf A k))) refl (ts.0 (standing A (ledgerOf A k))) d
      (λ to g d. short (λ i. rooms (suc i)) (λ i. b (suc i)) fs ts.1 to g d)

  -- ---- as code counts it: the end offset is what the records take, and only a push that the ledger takes makes it another
  abbrev span_of : Tally A → ℕ
  span_of t = total t.lengths.before + total t.lengths.after

  back-over : (before behind : List ℕ) → total (tail before) + total (first_onto before behind) ≡ total before + total behind
  back-over [] behind = refl
  back-over (x ∷ xs) behind = omega arith

  forth-over : (before behind : List ℕ) → total (first_onto behind before) + total (tail behind) ≡ total before + total behind
  forth-over before [] = refl
  forth-over before (x ∷ xs) = omega arith

  -- the greatest so far, where it is at least what the records take now
  span-next : (t : Tally A) (c : Call Edit) (m : ℕ) → span_of t ≤ m → max m (span_of (next A t c).leaves) ≡ max m (wants A t c)
  span-next t (push e) m h = go (is_done (enter A t.ledger (push e)).answer)
    where
      go : (d : Bool) → let z = counted A d (push e) t.lengths in max m (total z.before + total z.after) ≡ max m (cond d (total t.lengths.before + size e) 0)
      go true = omega arith
      go false = omega arith
  span-next t undo m h = omega (arith, back-over t.lengths.before t.lengths.after)
  span-next t redo m h = omega (arith, forth-over t.lengths.before t.lengths.after)
  span-next t mark m h = omega arith

  abbrev Counts : (ℕ → ℕ) → Script A → Trace A → ℕ → Type 0
  Counts rooms fs k m = highest A rooms m (state_of A k) fs ≡ max m (needFrom A (tally_of A k) fs)

  module _ (rooms : ℕ → ℕ) (b : room ≤ rooms 0) (f : Picture → Option (Call Edit)) (fs : Script A) (k : Trace A) (h : Holds A room n k) (m : ℕ) (l : span_of (tally_of A k) ≤ m) where
    one-highest : (o : Option (Call Edit)) → f (standing A (ledgerOf A k)) ≡ o → TypedAsk A o → needAfter k o fs ≤ n
        → ((to : Trace A) → Holds A room n to → (m : ℕ) → span_of (tally_of A to) ≤ m → needFrom A (tally_of A to) fs ≤ n → Counts (λ i. rooms (suc i)) fs to m)
        → let st = left_by (step A (rooms 0)) (state_of A k) o in
        highest A (λ i. rooms (suc i)) (max m st.handle.end) st fs ≡ max m (needAfter k o fs)
    one-highest none e t d others =
        let same : max m (span_of (tally_of A k)) ≡ m = omega arith in
        rw same (others k h m l (omega arith) ∙ omega arith)
    one-highest (some c) e t d others =
        let g = fits k h (rooms 0) b c t (omega arith) in
        let rest : needFrom A (next A (tally_of A k) c).leaves fs ≤ n = omega arith in
        let more : max m (span_of (tally_of A g.to)) ≡ max m (wants A (tally_of A k) c) = ap (λ (u : Tally A). max m (span_of u)) (sym g.tally) ∙ span-next (tally_of A k) c m l in
        let goes : (step A (rooms 0) (state_of A k) c).leaves ≡ state_of A g.to = ap (λ (o : Outcome (State Sheet)). o.leaves) g.code in
        let then = others g.to g.holds (max m (span_of (tally_of A g.to))) (omega arith) (rw g.tally at rest) in
        let need : needFrom A (tally_of A g.to) fs ≡ needFrom A (next A (tally_of A k) c).leaves fs = ap (λ (u : Tally A). needFrom A u fs) (sym g.tally) in
        ap (λ (st : State Sheet). highest A (λ i. rooms (suc i)) (max m st.handle.end) st fs) goes ∙ then ∙ omega arith

  counts : (rooms : ℕ → ℕ) → ((i : ℕ) → room ≤ rooms i) → (fs : Script A) → TypedScript A fs → (k : Trace A) → Holds A room n k
      → (m : ℕ) → span_of (tally_of A k) ≤ m → needFrom A (tally_of A k) fs ≤ n → Counts rooms fs k m
  unfolding highest needFrom
  counts rooms b [] ts k h m l d = omega arith
  counts rooms b (f ∷ fs) ts k h m l d =
      rw (ap f (meets k h))
      (one-highest rooms (b 0) f fs k h m l (f (standing A (ledgerOf A k))) refl (ts.0 (standing A (ledgerOf A k))) d
      (λ to g m l d. counts (λ i. rooms (suc i)) (λ i. b (suc i)) fs ts.1 to g m l d))

module _ (A : Algebra) (L : Laws A) where
  open A use {view, places}

  pub least-journal : LeastJournal A
  least-journal s w rooms c fs ts journal b =
      let room = places (view s) in
      let k = begin A s journal in
      let h = begins A s journal room w (omega arith) in
      (enough A L room (length journal) b rooms c fs ts k h, short A L room (length journal) b rooms c fs ts k h)

  -- the greatest end offset is the need
  pub highest-is-least : HighestIsLeast A
  highest-is-least s w rooms c fs ts journal b d =
      let room = places (view s) in
      counts A L room (length journal) b rooms c fs ts (begin A s journal) (begins A s journal room w (omega arith)) 0 (omega arith) d ∙ omega arith
