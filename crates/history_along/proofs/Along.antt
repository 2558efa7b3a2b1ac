-- A state on the way of a session: the trace that leads to it (history_ledger's proofs/Trace), kept by every call. So the
-- sheet on the way is one that none of 1 to 3 refuses. Assumes nothing.
use mathlib.Core.Path.{◌≡◌, refl, sym, ap, subst, ◌∙◌}
use mathlib.Core.List.{List, [], ◌∷◌}
use Prim.Native.Nat.{ℕ, ◌*◌, ◌≤◌}
use native.Mathlib.Omega.{arith}
use lib.ListN.{length}
use Rattle.base.specs.Limits.{max_journal}
use Rattle.base.specs.declared.Form.{Form}
use Rattle.color_curve.specs.Curve.{Curve, CurveFits}
use Rattle.sheet.specs.Sheet.{view}
use Rattle.history_ledger.specs.Algebra.{Algebra, WellFormedIn}
use Rattle.history_ledger.specs.Calls.{Call, play, lend}
use Rattle.history_ledger.specs.Demand.{TypedCall}
use Rattle.history_ledger.specs.Journal.{State, opened, step}
use Rattle.history_ledger.proofs.Trace as trace
use Rattle.history_ledger.proofs.Trace.{Trace, Holds, begin, begins}
use Rattle.history_ledger.proofs.Whole.{runs}
use Rattle.history_model.specs.Document.{Document}
use Rattle.history_model.specs.Editing.{Given, editing_by}
use Rattle.history_model.proofs.Keeps.{keeps}

module _ (form : Form) (session : Curve) where
  abbrev A : Algebra
  A = editing_by form session

  -- with scratch of `room` places, in a journal of n bytes
  pub record Along (room n : ℕ) (st : State Document) : Type 0 where
    pub by : Trace A
    pub holds : Holds A room n by
    pub is : st ≡ trace.state_of A by

  pub along-start : {room : ℕ} (d : Document) (journal : List ℕ) → WellFormedIn A d → d.sheet.w * d.sheet.h ≤ room
      → Along room (length journal) (opened A d journal)
  unfolding view
  along-start {room} d journal f places = record { by = begin A d journal; holds = begins A d journal room f places; is = refl }

  pub along-step : CurveFits session → {room n : ℕ} {st : State Document} → n ≤ max_journal → Along room n st → (c : Call Given) → TypedCall A c
      → Along room n (step A room st c).leaves
  unfolding play lend
  along-step fits {room} {n} permitted a c t =
      let ran = runs A (keeps form session fits) room n permitted (λ i. room) (λ i. omega arith) (c ∷ []) (t, tt) a.by a.holds in
      record { by = ran.to; holds = ran.holds; is = ap (λ s. (step A room s c).leaves) a.is ∙ ap (λ p. p.ends) ran.code }

  pub along-fits : {room n : ℕ} {st : State Document} → Along room n st → WellFormedIn A st.sheet
  along-fits a = subst (λ s. WellFormedIn A s.sheet) (sym a.is) a.holds.fits
