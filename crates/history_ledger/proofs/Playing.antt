-- A list of calls, one call at a time. Assumes nothing.
use mathlib.Core.Path.{◌≡◌, ap}
use mathlib.Core.List.{List, ◌∷◌}
use Rattle.history_ledger.specs.Calls.{Outcome, Played, play, Answer}

abbrev pub played : {S : Type 0} → List Answer → S → Played S
played answers s = record { answers = answers; ends = s }

-- a first call in front of what the others answer and leave
abbrev pub onward : {S : Type 0} → Answer → Played S → Played S
onward a later = played (a ∷ later.answers) later.ends

pub play-cons : {S C : Type 0} (step : S → C → Outcome S) (s : S) (c : C) (cs : List C) {a : Answer} {s' : S}
    → step s c ≡ record { answer = a; leaves = s' } → play step s (c ∷ cs) ≡ onward a (play step s' cs)
unfolding play
play-cons step s c cs p = ap (λ now. onward now.answer (play step now.leaves cs)) p
