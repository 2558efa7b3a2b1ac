-- How much journal a session needs whose calls may depend on the picture that they meet, as a merge's list does
-- (document 02, E11), stated over any algebra of edits. Calls that do not are frames that look at no picture. Proved of
-- every algebra that keeps specs/Laws.antt: `least-journal` and `highest-is-least` in proofs/Script.antt. Definitions
-- only. Assumes nothing.
use Rattle.std.specs.Prelude.{◌≡◌, Bool, true, false, ◌||◌, List, [], ◌∷◌, ◌++◌, ℕ, suc, ◌≤◌, ◌<◌, max, length}
use Rattle.std.proofs.Math.Option.{Option, none, some}
use Rattle.base.specs.Limits.{max_journal}
use Rattle.history_ledger.specs.Calls.{Call, Answer, Outcome, Played}
use Rattle.history_ledger.specs.Algebra.{Algebra, WellFormedIn}
use Rattle.history_ledger.specs.Journal.{State, opened, step}
use Rattle.history_ledger.specs.Ledger.{Ledger, begun, standing, enter}
use Rattle.history_ledger.specs.Demand.{is_full, TypedCall, Matches}
use Rattle.history_ledger.specs.Tally.{Tally, blank, wants, next}

-- ---- a call that may be none
abbrev pub answers_to : {S C : Type 0} → (S → C → Outcome S) → S → Option C → List Answer
answers_to step s none = []
answers_to step s (some c) = (step s c).answer ∷ []

abbrev pub left_by : {S C : Type 0} → (S → C → Outcome S) → S → Option C → S
left_by step s none = s
left_by step s (some c) = (step s c).leaves

-- frames, each of which asks for a call by the picture that it meets, or for none: played one after the other, number i by `step i`
unfoldable pub act : {S C P : Type 0} → (ℕ → S → C → Outcome S) → (S → P) → S → List (P → Option C) → Played S
act step picture s [] = record { answers = []; ends = s }
act step picture s (f ∷ fs) =
    let c = f (picture s) in
    let later = act (λ i. step (suc i)) picture (left_by (step 0) s c) fs in
    record { answers = answers_to (step 0) s c ++ later.answers; ends = later.ends }

-- some call was answered "journal full"
abbrev pub any_full : List Answer → Bool
any_full [] = false
any_full (a ∷ more) = is_full a || any_full more

module _ (A : Algebra) where
  open A use {Sheet, Picture, Edit, view, places}

  abbrev pub Script : Type 0
  Script = List (Picture → Option (Call Edit))

  -- the numbers of each push are in the range of their types
  abbrev pub TypedAsk : Option (Call Edit) → Type 0
  TypedAsk none = Unit {0}
  TypedAsk (some c) = TypedCall A c

  abbrev pub TypedScript : Script → Type 0
  TypedScript [] = Unit {0}
  TypedScript (f ∷ fs) = ((p : Picture) → TypedAsk (f p)) × TypedScript fs

  -- the most that a call of the script wants, in the ledger
  abbrev pub wantsOf : Tally A → Option (Call Edit) → ℕ
  wantsOf t none = 0
  wantsOf t (some c) = wants A t c

  unfoldable pub needFrom : Tally A → Script → ℕ
  needFrom t [] = 0
  needFrom t (f ∷ fs) = let c = f (standing A t.ledger) in max (wantsOf t c) (needFrom (left_by (next A) t c) fs)

  -- "the journal length it needs": of the opening picture and the frames alone
  abbrev pub need_of : Picture → Script → ℕ
  need_of p fs = needFrom (blank A p) fs

  -- "play it from a fresh history .., on a lent working sheet and journal", frame number i with `rooms i` places of scratch; and in the ledger
  abbrev pub actedOn : (ℕ → ℕ) → Sheet → List ℕ → Script → Played (State Sheet)
  actedOn rooms s journal fs = act (λ i. step A (rooms i)) (λ st. view st.sheet) (opened A s journal) fs

  abbrev pub entered : Picture → Script → Played (Ledger A)
  entered p fs = act (λ i. enter A) (standing A) (begun A p) fs

  -- what a journal that is long enough gives
  pub record Enough (ran : Played (State Sheet)) (ledger : Played (Ledger A)) : Type 0 where
    pub none-full : any_full ran.answers ≡ false
    pub answers : ran.answers ≡ ledger.answers
    -- "The working sheet ends as the ledger's standing picture"
    pub ends : Matches A ran.ends ledger.ends

  -- "At that length no push is answered "journal full", and at each smaller length at least one is"
  abbrev pub LeastJournal : Type 0
  LeastJournal =
      (s : Sheet) → WellFormedIn A s → (rooms : ℕ → ℕ) → ((i : ℕ) → places (view s) ≤ rooms i)
      → (fs : Script) → TypedScript fs → (journal : List ℕ) → length journal ≤ max_journal
      → (need_of (view s) fs ≤ length journal → Enough (actedOn rooms s journal fs) (entered (view s) fs))
      × (length journal < need_of (view s) fs → any_full (actedOn rooms s journal fs).answers ≡ true)

  -- as code can count it: the farthest that the end offset gets
  unfoldable pub highest : (ℕ → ℕ) → ℕ → State Sheet → Script → ℕ
  highest rooms n st [] = n
  highest rooms n st (f ∷ fs) =
      let after = left_by (step A (rooms 0)) st (f (view st.sheet)) in
      highest (λ i. rooms (suc i)) (max n after.handle.end) after fs

  abbrev pub HighestIsLeast : Type 0
  HighestIsLeast =
      (s : Sheet) → WellFormedIn A s → (rooms : ℕ → ℕ) → ((i : ℕ) → places (view s) ≤ rooms i)
      → (fs : Script) → TypedScript fs → (journal : List ℕ) → length journal ≤ max_journal → need_of (view s) fs ≤ length journal
      → highest rooms 0 (opened A s journal) fs ≡ need_of (view s) fs
