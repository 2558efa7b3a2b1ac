-- On the open sheet a line leaves what the calls that it asks for leave. So the states of a session are those of a list of calls from the opening
-- on, of which demand 3 speaks. Assumes nothing.
use Prim.Native.Nat.{ℕ, zero, suc}
use mathlib.Core.Path.{◌≡◌, refl, sym, ap, ◌∙◌}
use mathlib.Core.List.{List, [], ◌∷◌, ◌++◌}
use mathlib.Core.Option.{some}
use Rattle.base.specs.Checks.{first_of, refused_or}
use Rattle.palette_model.specs.Removal.{merge_checks}
use Rattle.history_ledger.specs.Calls.{Outcome, Played, play, lend}
use Rattle.history_ledger.specs.Journal.{State, step, stepLent}
use Rattle.history_ledger.proofs.Scratch.{one-room}
use Rattle.history_model.specs.Document.{Document}
use Rattle.history_model.specs.Editing.{editing}
use Rattle.panel_frames.specs.Reading.{frame_of}
use Rattle.panel_frames.specs.declared.Frame.{Frame}
use Rattle.panel_frames.specs.declared.Frame.TheVariants.{Open, Pixels, Set, Add, Merge, Undo, Redo, Mark, Malformed}
use Rattle.panel_calls.specs.Panel.{room, merged_of, call_of, shown, act_of, step_of}
use Rattle.panel_session.specs.Played.{asked, asked_by, calls_of, after}

merge-played : (st : State Document) (from into : ℕ) (bs : List ℕ) → (merged_of st from into).leaves ≡ (play (step editing room) st (asked st (Merge from into) bs)).ends
unfolding merged_of asked refused_or play
merge-played st from into bs = by (first_of (merge_checks st.sheet.sheet st.sheet.locks from into)) refl
  where
    by : (v : ℕ) → first_of (merge_checks st.sheet.sheet st.sheet.locks from into) ≡ v → (merged_of st from into).leaves ≡ (play (step editing room) st (asked st (Merge from into) bs)).ends
    by zero e = rw e
    by (suc v) e = rw e

call_played : (st : State Document) (f : Frame) (bs : List ℕ) → (call_of st f bs).leaves ≡ (play (step editing room) st (asked st f bs)).ends
unfolding call_of asked play
call_played st (Open w h k) bs = refl
call_played st (Pixels tool n) bs = refl
call_played st (Set i c) bs = refl
call_played st (Add c) bs = refl
call_played st (Merge from into) bs = merge-played st from into bs
call_played st Undo bs = refl
call_played st Redo bs = refl
call_played st Mark bs = refl
call_played st Malformed bs = refl

state-played : (st : State Document) (line : List ℕ) → (step_of (some st) line).state ≡ some (play (step editing room) st (asked_by st line)).ends
unfolding step_of act_of shown asked_by
state-played st line = rw (call_played st (frame_of line).frame (frame_of line).bytes)

play-append : {S C : Type 0} (f : S → C → Outcome S) (s : S) (a b : List C) → (play f s (a ++ b)).ends ≡ (play f (play f s a).ends b).ends
unfolding play
play-append f s [] b = refl
play-append f s (c ∷ a) b = play-append f (f s c).leaves a b

pub session-played : (lines : List (List ℕ)) (st : State Document) → after (some st) lines ≡ some (play (step editing room) st (calls_of st lines)).ends
unfolding after calls_of play
session-played [] st = refl
session-played (line ∷ lines) st =
    let st' : State Document = (play (step editing room) st (asked_by st line)).ends in
    ap (λ p. after p lines) (state-played st line)
    ∙ session-played lines st'
    ∙ ap some (sym (play-append (step editing room) st (asked_by st line) (calls_of st' lines)))

-- as a run of demand 3, in which every call has the program's scratch
pub session-run : (lines : List (List ℕ)) (st : State Document) → after (some st) lines ≡ some (play (stepLent editing) st (lend (λ i. room) (calls_of st lines))).ends
session-run lines st = session-played lines st ∙ ap (λ (ran : Played (State Document)). some ran.ends) (sym (one-room editing room (calls_of st lines) st))
