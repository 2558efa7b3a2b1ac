-- A call on a layer leaves a sheet of the same size that none of 1 to 3 refuses, whatever the journal's length and the
-- call's scratch: in a journal of permitted length every state on the way has a trace, and what scratch or journal refuse
-- leaves the state as it was. Assumes nothing.
use mathlib.Core.Path.{◌≡◌, refl, sym, ap, subst, ◌∙◌}
use mathlib.Core.Bool.{Bool, true, false, cond}
use mathlib.Core.List.{List, [], ◌∷◌}
use mathlib.Core.Option.{Option, none, some}
use Prim.Native.Nat.{ℕ, zero, suc, ◌+◌, ◌-◌, ◌*◌, ◌≤◌, ◌<◌}
use native.Mathlib.Omega.{arith}
use lib.ListN.{length, take, drop}
use lib.Dec.{ltb, leb, eqb}
use borrow.Author.Tests.{lt-ltb, ltb-true, ltb-false}
use Rattle.base.specs.Limits.{max_journal}
use Rattle.base.specs.Numbers.{no_space}
use Rattle.base.specs.Checks.{Check, first_of, refused_or}
use Rattle.base.specs.declared.Handle.{Handle}
use Rattle.base.specs.declared.Lab.{Lab}
use Rattle.base.specs.declared.Rgb.{Rgb}
use Rattle.base.specs.declared.Form.{Form}
use Rattle.color_curve.specs.Curve.{Curve, lab_by, CurveFits}
use Rattle.sheet.specs.Sheet.{view}
use Rattle.sheet.specs.Checks.{WellFormed}
use Rattle.edit.proofs.Redone.{SameSize, redone-size}
use Rattle.journal_record.specs.Record as records
use Rattle.journal_record.specs.Record.{read_back, read_forth}
use Rattle.journal_read.specs.Sound.{undoable, redoable}
use Rattle.history_ledger.specs.Algebra.{Algebra, Taken, WellFormedIn}
use Rattle.history_ledger.specs.Calls.{Call, Outcome, guarded, refused, still, done}
use Rattle.history_ledger.specs.Calls.Call.{push, undo, redo, mark}
use Rattle.history_ledger.specs.Demand.{TypedCall}
use Rattle.history_ledger.specs.Handle.{stepped_back, stepped_forth}
use Rattle.history_ledger.specs.Journal.{State, opened, step, stepOver, entry_checks, pushChecks, move_checks, redoChecks, shortScratch}
use Rattle.history_ledger.specs.Journal.{pushOf, undoOf, redoOf, mark_of, pushed}
use Rattle.history_ledger.proofs.Scratch.{any-room}
use Rattle.history_ledger.proofs.Refusals.{when-passes, each-passes}
use Rattle.history_model.specs.Document.{Document, document_done, document_back}
use Rattle.history_model.specs.Editing.{Given, editing_by, taken, undone_by, redone_by}
use Rattle.history_along.proofs.Along.{Along, along-start, along-step, along-fits}
use Rattle.history_model.proofs.Keeps.{marked}
use Rattle.edit.proofs.Reverted.{reverted-size}

-- ---- the size that a reading leads to
abbrev Leads : (Document → Type 0) → Option (Taken Document) → Type 0
Leads P none = Unit {0}
Leads P (some r) = P r.sheet

leads-taken : (P : Document → Type 0) (ok : Bool) (n : ℕ) (d : Document) → P d → Leads P (taken ok n d)
leads-taken P true n d h = h
leads-taken P false n d h = tt

abbrev Sides : Document → Document → Type 0
Sides d after = SameSize d.sheet after.sheet

undone-size : (d : Document) (r : records.Reading) → Leads (Sides d) (undone_by d r)
unfolding undone_by
undone-size d none = tt
undone-size d (some r) = leads-taken (Sides d) (undoable d.sheet d.locks r.1 r.2) r.0 (document_back d r.1 r.2) (reverted-size d.sheet r.1 r.2)

forth-size : (curve : Rgb → Lab) (d : Document) (r : records.Reading) → Leads (Sides d) (redone_by curve d r)
unfolding redone_by
forth-size curve d none = tt
forth-size curve d (some r) =
    leads-taken (Sides d) (redoable d.sheet d.locks r.1 r.2) r.0 (document_done curve d r.1 r.2) (redone-size curve d.sheet r.1 r.2)

-- ---- what a call leaves is what was there, or what the outcome behind its checks leaves
pub record Left {S : Type 0} (P : S → Type 0) (o : Outcome S) : Type 0 where
  pub is : P o.leaves

module _ {S : Type 0} (P : S → Type 0) (s : S) (h : P s) where
  after-checks : (cs : List Check) (o : Outcome S) → Left P o → Left P (guarded s cs o)
  unfolding refused_or
  after-checks cs o k = go (first_of cs)
    where
      go : (n : ℕ) → Left P (refused_or n (refused s) o)
      go zero = k
      go (suc n) = record { is = h }

  or-still : (b : Bool) (o : Outcome S) → Left P o → Left P (cond b (still s) o)
  or-still true o k = record { is = h }
  or-still false o k = k

applied : {S : Type 0} (s : S) (cs : List Check) (o : Outcome S) → ¬ (first_of cs ≡ 0) → Left (λ t. t ≡ s) (guarded s cs o)
unfolding refused_or
applied s cs o h = go (first_of cs) refl
  where
    go : (n : ℕ) → first_of cs ≡ n → Left (λ t. t ≡ s) (refused_or n (refused s) o)
    go zero e = absurd (h e)
    go (suc n) e = record { is = refl }

-- ---- in either form, with the curve of a session
module _ (form : Form) (session : Curve) where
  abbrev A : Algebra
  A = editing_by form session

  -- ---- a call leaves the size, in every state
  module _ (st : State Document) where
    abbrev Sized : State Document → Type 0
    Sized after = Sides st.sheet after.sheet

    stands : Sized st
    stands = record { w = refl; h = refl }

    step-over : (r : Option (Taken Document)) (inside : ℕ → Bool) (stepped : ℕ → Handle → Handle) → Leads (Sides st.sheet) r
        → Left Sized (stepOver A st r inside stepped)
    unfolding stepOver
    step-over none inside stepped h = record { is = stands }
    step-over (some r) inside stepped h = after-checks Sized st stands _ _ (record { is = h })

    sized : (room : ℕ) (c : Call Given) → Left Sized (step A room st c)
    unfolding pushOf undoOf redoOf pushed
    sized room (push g) =
        after-checks Sized st stands (entry_checks A st g) _
        (or-still Sized st stands (A.is_empty g) _
        (after-checks Sized st stands (pushChecks A room st g) (done (pushed A st g))
        (record { is = redone-size (lab_by session) st.sheet.sheet g.edit g.changes })))
    sized room undo =
        let used : List ℕ = take st.handle.offset st.journal in
        after-checks Sized st stands (move_checks A st) _
        (or-still Sized st stands (eqb st.handle.position 0) _
        (step-over (undone_by st.sheet (read_back form st.sheet.sheet.w used)) (λ n. leb n st.handle.offset) stepped_back (undone-size st.sheet (read_back form st.sheet.sheet.w used))))
    sized room redo =
        let used : List ℕ = take (st.handle.end - st.handle.offset) (drop st.handle.offset st.journal) in
        after-checks Sized st stands (redoChecks A st) _
        (or-still Sized st stands (eqb st.handle.position st.handle.count) _
        (after-checks Sized st stands (shortScratch A room st ∷ []) _
        (step-over (redone_by (lab_by session) st.sheet (read_forth form st.sheet.sheet.w used)) (λ n. leb (st.handle.offset + n) st.handle.end) stepped_forth
        (forth-size (lab_by session) st.sheet (read_forth form st.sheet.sheet.w used)))))
    sized room mark = record { is = stands }

  -- ---- a journal that is too long, or scratch that is too short, leaves everything as it was
  overlong : (room : ℕ) (st : State Document) (c : Call Given) → max_journal < length st.journal → (step A room st c).leaves ≡ st
  unfolding pushOf undoOf redoOf mark_of first_of refused_or
  overlong room st (push g) h = rw (lt-ltb max_journal (length st.journal) h)
  overlong room st undo h = rw (lt-ltb max_journal (length st.journal) h)
  overlong room st redo h = rw (lt-ltb max_journal (length st.journal) h)
  overlong room st mark h = rw (lt-ltb max_journal (length st.journal) h)

  module _ (room : ℕ) (st : State Document) (short : room < st.sheet.sheet.w * st.sheet.sheet.h) where
    not-enough : ¬ (cond (ltb room (st.sheet.sheet.w * st.sheet.sheet.h)) no_space 0 ≡ 0)
    not-enough e = omega (arith, ltb-false room (st.sheet.sheet.w * st.sheet.sheet.h) (when-passes 15 (ltb room (st.sheet.sheet.w * st.sheet.sheet.h)) e))

    short-push : (g : Given) → Left (λ s. s ≡ st) (pushOf A room st g)
    unfolding pushOf view
    short-push g =
        after-checks (λ s. s ≡ st) st refl (entry_checks A st g) _
        (or-still (λ s. s ≡ st) st refl (A.is_empty g) _
        (applied st (pushChecks A room st g) (done (pushed A st g)) (λ e. not-enough (each-passes (pushChecks A room st g) e).1.0)))

    short-redo : Left (λ s. s ≡ st) (redoOf A room st)
    unfolding redoOf view
    short-redo =
        let used : List ℕ = take (st.handle.end - st.handle.offset) (drop st.handle.offset st.journal) in
        let over = stepOver A st (redone_by (lab_by session) st.sheet (read_forth form st.sheet.sheet.w used)) (λ n. leb (st.handle.offset + n) st.handle.end) stepped_forth in
        after-checks (λ s. s ≡ st) st refl (redoChecks A st) _
        (or-still (λ s. s ≡ st) st refl (eqb st.handle.position st.handle.count) _
        (applied st (shortScratch A room st ∷ []) over (λ e. not-enough (each-passes (shortScratch A room st ∷ []) e).0)))

  -- ---- a state that lives: its calls are all refused, or it is on the way
  pub data Lives (room : ℕ) (st : State Document) : Type 0 where
    refuses : max_journal < length st.journal → WellFormedIn A st.sheet → Lives room st
    goes : (n : ℕ) → n ≤ max_journal → Along form session room n st → Lives room st

  -- ---- a layer of w by h
  pub record Stays (w h : ℕ) (st : State Document) : Type 0 where
    pub width : st.sheet.sheet.w ≡ w
    pub height : st.sheet.sheet.h ≡ h
    pub lives : Lives (w * h) st

  lives-fits : {room : ℕ} {st : State Document} → Lives room st → WellFormedIn A st.sheet
  lives-fits (refuses long f) = f
  lives-fits (goes n permitted a) = along-fits form session a

  pub stays-fits : {w h : ℕ} {st : State Document} → Stays w h st → WellFormed st.sheet.sheet
  stays-fits {w} {h} {st} a = (marked st.sheet.sheet st.sheet.locks (lives-fits a.lives).passes).formed

  pub opens : {w h : ℕ} (d : Document) (journal : List ℕ) → WellFormedIn A d → d.sheet.w ≡ w → d.sheet.h ≡ h → Stays w h (opened A d journal)
  unfolding view
  opens {w} {h} d journal f p q = record { width = p; height = q; lives = go (ltb max_journal (length journal)) refl }
    where
      places : d.sheet.w * d.sheet.h ≤ w * h
      places = rw (p, q) (omega arith)

      go : (b : Bool) → ltb max_journal (length journal) ≡ b → Lives (w * h) (opened A d journal)
      go true e = refuses (ltb-true _ _ e) f
      go false e = goes (length journal) (ltb-false _ _ e) (along-start form session d journal f places)

  module _ (fits : CurveFits session) {w h : ℕ} {st : State Document} (a : Stays w h st) (room : ℕ) where
    enough : room < w * h → (c : Call Given) → Lives (w * h) (step A (w * h) st c).leaves → Lives (w * h) (step A room st c).leaves
    enough short (push g) k = subst (Lives (w * h)) (sym (short-push room st (rw (a.width, a.height) short) g).is) a.lives
    enough short undo k = k
    enough short redo k = subst (Lives (w * h)) (sym (short-redo room st (rw (a.width, a.height) short)).is) a.lives
    enough short mark k = k

    same : w * h ≤ room → (c : Call Given) → step A room st c ≡ step A (w * h) st c
    unfolding view
    same b c = any-room A room (w * h) st c (rw (a.width, a.height) b) (rw (a.width, a.height) (omega arith))

    pub stays : (c : Call Given) → TypedCall A c → Stays w h (step A room st c).leaves
    stays c t =
        let size = (sized st room c).is in
        record { width = size.w ∙ a.width; height = size.h ∙ a.height; lives = by-journal a.lives }
      where
        by-scratch : (b : Bool) → ltb room (w * h) ≡ b → Lives (w * h) (step A (w * h) st c).leaves
            → Lives (w * h) (step A room st c).leaves
        by-scratch true e k = enough (ltb-true _ _ e) c k
        by-scratch false e k = subst (λ o. Lives (w * h) o.leaves) (sym (same (ltb-false _ _ e) c)) k

        by-journal : Lives (w * h) st → Lives (w * h) (step A room st c).leaves
        by-journal (refuses long f) = subst (Lives (w * h)) (sym (overlong room st c long)) a.lives
        by-journal (goes n permitted k) = by-scratch (ltb room (w * h)) refl (goes n permitted (along-step form session fits permitted k c t))
