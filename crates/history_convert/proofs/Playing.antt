-- Two such histories (proofs/Alike.antt) after a list of calls. Assumes nothing.
use Prim.Native.Nat.{ℕ, suc}
use mathlib.Core.Path.{◌≡◌, refl, ap, subst}
use mathlib.Core.List.{List, [], ◌∷◌, map}
use Rattle.base.specs.Lists as lists
use Rattle.base.specs.declared.Form.{Form}
use Rattle.base.specs.declared.Handle.{Handle}
use Rattle.color_curve.specs.Curve.{Curve}
use Rattle.history_ledger.specs.Calls.{Answer, Call, Played, play, lend}
use Rattle.history_ledger.specs.Journal.{State, step, stepLent}
use Rattle.history_ledger.proofs.Playing.{onward, play-cons}
use Rattle.history_model.specs.Document.{Document}
use Rattle.history_model.specs.Editing.{editing_by}
use Rattle.history_model.specs.Handed.{HandedPush, call_by}
use Rattle.history_model.specs.Calls.{state_of}
use Rattle.history_convert.specs.Conversion.{NeverFull, Alike}
use Rattle.history_convert.proofs.Alike.{Parallel, positions, counts, calls}

-- a list of calls from a state, and the first of them
abbrev run : Form → Curve → Document → List ℕ → Handle → (ℕ → ℕ) → List (Call HandedPush) → Played (State Document)
run form c d j h scratch handed = play (stepLent (editing_by form c)) (state_of d j h) (lend scratch (map call_by handed))

run-cons : (form : Form) (c : Curve) (d : Document) (j : List ℕ) (h : Handle) (scratch : ℕ → ℕ) (call : Call HandedPush) (handed : List (Call HandedPush)) {a : Answer} {d₁ : Document} {j₁ : List ℕ} {h₁ : Handle}
    → step (editing_by form c) (scratch 0) (state_of d j h) (call_by call) ≡ record { answer = a; leaves = state_of d₁ j₁ h₁ }
    → run form c d j h scratch (call ∷ handed) ≡ onward a (run form c d₁ j₁ h₁ (λ i. scratch (suc i)) handed)
unfolding lend
run-cons form c d j h scratch call handed e =
    play-cons (stepLent (editing_by form c)) (state_of d j h) (record { call = call_by call; room = scratch 0 }) (lend (λ i. scratch (suc i)) (map call_by handed)) e

pub plays : (f g : Form) (w : ℕ) (c : Curve) (handed : List (Call HandedPush)) (scratch : ℕ → ℕ) (d : Document) (j : List ℕ) (h : Handle) (j' : List ℕ) (h' : Handle) → Parallel f g w d j h j' h'
    → NeverFull (run f c d j h scratch handed).answers → NeverFull (run g c d j' h' scratch handed).answers
    → Alike (run f c d j h scratch handed) (run g c d j' h' scratch handed)
unfolding play lend lists.All
plays f g w c [] scratch d j h j' h' b n n' =
    record { answers = refl; document = refl; position = positions f g w d j h j' h' b; count = counts f g w d j h j' h' b; saved = b.saved }
plays f g w c (call ∷ handed) scratch d j h j' h' b n n' =
    let a = calls f g w d j h j' h' b c (scratch 0) call n.0 n'.0 in
    let later : ℕ → ℕ = λ i. scratch (suc i) in
    let one : run f c d j h scratch (call ∷ handed) ≡ onward a.answer (run f c a.d a.j a.h later handed) = run-cons f c d j h scratch call handed a.one-is in
    let two : run g c d j' h' scratch (call ∷ handed) ≡ onward a.answer (run g c a.d a.j' a.h' later handed) = run-cons g c d j' h' scratch call handed a.two_is in
    let m : NeverFull (a.answer ∷ (run f c a.d a.j a.h later handed).answers) = subst (λ (p : Played (State Document)). NeverFull p.answers) one n in
    let m' : NeverFull (a.answer ∷ (run g c a.d a.j' a.h' later handed).answers) = subst (λ (p : Played (State Document)). NeverFull p.answers) two n' in
    let k = plays f g w c handed later a.d a.j a.h a.j' a.h' a.after m.1 m'.1 in
    rw (one, two)
    (record { answers = ap (λ (l : List Answer). a.answer ∷ l) k.answers; document = k.document; position = k.position; count = k.count; saved = k.saved })
