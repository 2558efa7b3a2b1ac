-- Push under this crate's limits. Assumes nothing.
use mathlib.Core.Path.{◌≡◌, refl, sym, ap, subst, ◌∙◌}
use mathlib.Core.Bool.{Bool, true, false, cond}
use mathlib.Core.List.{List, [], ◌∷◌}
use Prim.Native.Nat.{ℕ, zero, suc, ◌/◌, ◌%◌, ◌≤◌, ◌<◌}
use borrow.Author.Tests.{eq-eqb, ne_eqb, lt-ltb, le-ltb}
use native.Mathlib.Omega.{arith}
use lib.Dec.{ltb, eqb}
use lib.ListN.{length}
use Rattle.base.specs.Numbers.{flat_misfit}
use Rattle.base.specs.Limits.{max_journal}
use Rattle.base.specs.Checks.{Check, ◌when◌, first_of, refused_or, or_else}
use Rattle.base.specs.Answer.Told.{alone}
use Rattle.base.specs.Answer.{number, number_of}
use Rattle.base.specs.declared.Answer as base
use Rattle.base.specs.declared.Answer.TheVariants.{Refused}
use Rattle.base.specs.declared.Edit.TheVariants.{Pixels}
use Rattle.base.specs.Lists.{All}
use Rattle.base.proofs.Back.{never}
use Rattle.sheet.specs.Sheet.{view}
use Rattle.sheet.specs.Checks.{permitted_checks, sheet_checks, limit_checks, mark_checks, index_checks, lab_checks}
use Rattle.edit.specs.Checks.{permitted_of}
use Rattle.history_ledger.specs.Algebra.{Algebra}
use Rattle.history_ledger.specs.Calls.{Outcome, refused, still, done}
use Rattle.history_ledger.specs.Journal.{State, entry_checks, pushChecks, pushOf, pushed}
use Rattle.history_model.specs.Editing.{Given, editing}
use Rattle.edit.specs.List.{empty_pixels}
use Rattle.journal_record.specs.Bytes.{unle}
use Rattle.c_form.specs.Fields.{read_from}
use Rattle.c_form.specs.Flat.{width_in, height_in, numbers_in, list_misfits}
use Rattle.c_model.specs.Asked.{Asked, given_by, misfit_of, is_longer, sides_over, flat_editing}
use Rattle.c_model.specs.Step.{Flat, sheet_in, state_in, flat_left, flattened, flat_room}
use Rattle.c_model.proofs.Limits.{longer-than-long}
use Rattle.base.specs.declared.Edit.{Edit}
use Rattle.history_ledger.specs.Calls.Call.{push}
use Rattle.history_model.specs.Document.{Document, document_checks}
use Rattle.history_model.specs.Editing.{given_of}
use Rattle.c_model.specs.Step.{misfits, moved, flat_step, FlatLeaves}
use Rattle.c_model.proofs.Limits.{bounded}
use Rattle.c_panel.specs.Lent.{flat_moved, push_fit, list_fit, long_number, Listed}

pub large-push : (s : Flat) (g : Given) → sides_over (width_in s.sheet) (height_in s.sheet) ≡ true
    → flat_moved (Refused 1) s.sheet s.journal s.handle ≡ flattened s (push_fit s g)
unfolding push_fit flattened flat_left
large-push s g e = rw e

pub small-push : (s : Flat) (g : Given) → sides_over (width_in s.sheet) (height_in s.sheet) ≡ false
    → pushOf editing flat_room (state_in s) g ≡ push_fit s g
unfolding push_fit
small-push s g e = rw e

-- no colour list
free : (a : Asked) → (given_by a).permitted ≡ permitted_of false []
unfolding given_by
free (Asked.pixels tool bytes) = refl
free (Asked.set i c) = refl
free (Asked.add c) = refl
free (Asked.remove i bytes) = refl
free (Asked.lock i m) = refl

large-entry : (s : Flat) (a : Asked) → misfit_of a ≡ 0 → sides_over (width_in s.sheet) (height_in s.sheet) ≡ true
    → first_of (entry_checks flat_editing (state_in s) a) ≡ 1
unfolding first_of view sheet_in permitted_checks
large-entry s a m e = rw (m, e, free a) (go (ltb max_journal (length s.journal)))
  where
    go : (b : Bool) → or_else (cond b 1 0) 1 ≡ 1
    go true = refl
    go false = refl

pub asked-push : (s : Flat) (a : Asked) → misfit_of a ≡ 0 → is_longer a ≡ false → push_fit s (given_by a) ≡ pushOf flat_editing flat_room (state_in s) a
unfolding push_fit pushOf pushed refused_or view sheet_in
asked-push s a m l = go (sides_over (width_in s.sheet) (height_in s.sheet)) refl
  where
    go : (b : Bool) → sides_over (width_in s.sheet) (height_in s.sheet) ≡ b → push_fit s (given_by a) ≡ pushOf flat_editing flat_room (state_in s) a
    go true e = rw (large-entry s a m e, e)
    go false e = rw (e, m, l, longer-than-long a l)

-- a push that is not done leaves everything
pub push_kept : (A : Algebra) (room : ℕ) (st : State A.Sheet) (e : A.Edit) (n : ℕ) → (pushOf A room st e).answer ≡ alone n → (pushOf A room st e).leaves ≡ st
unfolding pushOf refused_or
push_kept A room st e n p = go (first_of (entry_checks A st e)) (A.is_empty e) (first_of (pushChecks A room st e)) p
  where
    go : (x : ℕ) (b : Bool) (y : ℕ)
        → (refused_or x (refused st) (cond b (still st) (refused_or y (refused st) (done (pushed A st e))))).answer ≡ alone n
        → (refused_or x (refused st) (cond b (still st) (refused_or y (refused st) (done (pushed A st e))))).leaves ≡ st
    go zero true y q = refl
    go zero false zero q = absurd (let z : ◌≡◌ {A = ℕ} 0 1 = cc in omega arith)
    go zero false (suc y) q = refl
    go (suc x) b y q = refl

-- an edit without a list, as this crate's push has it
pub entered : (r : ℕ) (sheet' journal' handle' : List ℕ) (s : Flat) (a : Asked) (e : Edit) → given_of false [] e [] ≡ given_by a → misfit_of a ≡ 0 → is_longer a ≡ false
    → FlatLeaves r sheet' journal' handle' (list_fit s e []) → FlatLeaves r sheet' journal' handle' (flat_step s (push a))
unfolding list_fit flat_step
entered r sheet' journal' handle' s a e g m l p =
    subst (λ (o : Outcome Flat). FlatLeaves r sheet' journal' handle' o) (ap (moved s) (ap (push_fit s) g ∙ asked-push s a m l)) p

-- ---- 28 of the arguments
first-misfit : (s : Flat) (a : Asked) → misfit_of a ≡ 28 → first_of (entry_checks flat_editing (state_in s) a) ≡ 28
unfolding first_of
first-misfit s a m = rw m

pub misfit-asked : (s : Flat) (a : Asked) → misfit_of a ≡ 28 → FlatLeaves 28 s.sheet s.journal s.handle (flat_step s (push a))
unfolding flat_step moved flattened flat_left pushOf first_of refused_or
misfit-asked s a m = go (misfits s)
  where
    go : (b : Bool) → FlatLeaves 28 s.sheet s.journal s.handle
        (refused_or (first_of (flat_misfit when b ∷ [])) (refused s) (flattened s (pushOf flat_editing flat_room (state_in s) a)))
    go true = (refl, refl)
    go false = rw m (refl, refl)

-- ---- the numbers of 1 to 4 and 25 are small
either-small : (b m : ℕ) → m ≤ b → (t : Bool) (n : ℕ) → n ≤ b → or_else (cond t n 0) m ≤ b
either-small b m h true zero k = h
either-small b m h true (suc n) k = k
either-small b m h false n k = h

first_small : (b : ℕ) (cs : List Check) → All (λ (c : Check). c.number ≤ b) cs → first_of cs ≤ b
unfolding first_of All
first_small b [] h = omega arith
first_small b (c ∷ cs) h = either-small b (first_of cs) (first_small b cs h.1) c.applies c.number h.0

permits : (g : Given) → editing.given_check g ≤ 25
unfolding All permitted_checks
permits g = first_small 25 (permitted_checks g.permitted.limited g.permitted.colours) (omega arith, tt)

formed : (d : Document) → editing.sheet_check d ≤ 25
unfolding All sheet_checks limit_checks mark_checks index_checks lab_checks
formed d =
    first_small 25 (document_checks d)
    (omega arith, (omega arith, (omega arith, (omega arith, (omega arith, (omega arith, (omega arith, (omega arith, (omega arith, tt)))))))))

curves : editing.curve_check ≤ 25
unfolding first_of
curves = omega arith

entry-small : (st : State Document) (g : Given) → first_of (entry_checks editing st g) ≤ 25
unfolding All
entry-small st g =
    first_small 25 (entry_checks editing st g) (omega arith, (omega arith, (permits g, (formed st.sheet, (omega arith, (curves, tt))))))

-- ---- 21: a push of no pixels tells 1 to 4
abbrev no-pixels : Given
no-pixels = given_of false [] (Pixels 0) []

same-entry : (s : Flat) (a : Asked) → misfit_of a ≡ 0 → sides_over (width_in s.sheet) (height_in s.sheet) ≡ false
    → first_of (entry_checks flat_editing (state_in s) a) ≡ first_of (entry_checks editing (state_in s) no-pixels)
unfolding first_of view sheet_in
same-entry s a m e = rw (m, e, free a)

never-empty : (a : Asked) → is_longer a ≡ true → (b : Bool) → editing.is_empty (given_by a) ≡ b → b ≡ false
never-empty a l true e = never (sym (bounded.empty-not-longer a e) ∙ l)
never-empty a l false e = refl

record Long (s : Flat) (o o' : Outcome (State Document)) : Type 0 where
  pub numbers : long_number (number o.answer) ≡ number (flattened s o').answer
  pub leaves : (flattened s o).leaves ≡ (flattened s o').leaves

long-push : (s : Flat) (a : Asked) → misfit_of a ≡ 0 → is_longer a ≡ true → Long s (push_fit s no-pixels) (pushOf flat_editing flat_room (state_in s) a)
unfolding push_fit pushOf first_of refused_or flattened flat_left long_number empty_pixels
long-push s a m l = go (sides_over (width_in s.sheet) (height_in s.sheet)) refl
  where
    not-empty : editing.is_empty (given_by a) ≡ false
    not-empty = never-empty a l (editing.is_empty (given_by a)) refl

    small : (n : ℕ) → suc n ≤ 25 → ◌≡◌ {A = ℕ} (cond (eqb (suc n) 255) 21 (suc n)) (suc n)
    small n k = rw (ne_eqb (suc n) 255 (λ e. omega (arith, e, k)))

    told : (n : ℕ) → n ≤ 25 → Long s (refused_or n (refused (state_in s)) (still (state_in s))) (refused_or n (refused (state_in s)) (refused (state_in s) 21))
    told zero k = record { numbers = refl; leaves = refl }
    told (suc n) k = record { numbers = small n k; leaves = refl }

    go : (b : Bool) → sides_over (width_in s.sheet) (height_in s.sheet) ≡ b → Long s (push_fit s no-pixels) (pushOf flat_editing flat_room (state_in s) a)
    go true e = rw (large-entry s a m e, e) (record { numbers = refl; leaves = refl })
    go false e = rw (same-entry s a m e, e, l, not-empty) (told (first_of (entry_checks editing (state_in s) no-pixels)) (entry-small (state_in s) no-pixels))

pub long-leaves : (s : Flat) (a : Asked) (x : base.Answer) (r : ℕ) (sheet' journal' handle' : List ℕ) → misfits s ≡ false → misfit_of a ≡ 0 → is_longer a ≡ true
    → flat_moved x sheet' journal' handle' ≡ flattened s (push_fit s no-pixels) → r ≡ long_number (number_of x) → FlatLeaves r sheet' journal' handle' (flat_step s (push a))
unfolding flat_step moved first_of refused_or flattened
long-leaves s a x r sheet' journal' handle' e m l p q =
    let t = long-push s a m l in
    rw e
    (q ∙ ap (λ (o : Outcome Flat). long_number (number o.answer)) p ∙ t.numbers, ap (λ (o : Outcome Flat). o.leaves) p ∙ t.leaves)

-- ---- a list that is not too long
pub listed-leaves : (s : Flat) (a : Asked) (x : base.Answer) (r : ℕ) (sheet' journal' handle' : List ℕ) (e : Edit) (bytes : List ℕ) → misfits s ≡ false
    → Listed a e bytes → list_misfits bytes ≡ false → ltb 4096 (length bytes / 8) ≡ false
    → flat_moved x sheet' journal' handle' ≡ flattened s (push_fit s (given_of false [] e (numbers_in bytes))) → r ≡ number_of x
    → FlatLeaves r sheet' journal' handle' (flat_step s (push a))
unfolding flat_step moved first_of refused_or
listed-leaves s a x r sheet' journal' handle' e bytes f t m l p q =
    let m' : misfit_of a ≡ 0 = t.misfit-is ∙ ap (λ (b : Bool). cond b flat_misfit 0) m in
    let p' = p ∙ ap (flattened s) (ap (push_fit s) t.given_is ∙ asked-push s a m' (t.longer-is ∙ l)) in
    rw f (q ∙ ap (λ (o : Outcome Flat). number o.answer) p', ap (λ (o : Outcome Flat). o.leaves) p')

-- ---- the list's bytes
pub list-fits : (bytes : List ℕ) → length bytes % 8 ≡ 0 → list_misfits bytes ≡ false
list-fits bytes e = rw (eq-eqb (length bytes % 8) 0 e)

pub list-misfit : (s : Flat) (a : Asked) (e : Edit) (bytes : List ℕ) → Listed a e bytes → (length bytes % 8 ≡ 0 → ⊥)
    → FlatLeaves 28 s.sheet s.journal s.handle (flat_step s (push a))
list-misfit s a e bytes t d = misfit-asked s a (t.misfit-is ∙ rw (ne_eqb (length bytes % 8) 0 d))

pub fit-list : (a : Asked) (e : Edit) (bytes : List ℕ) → Listed a e bytes → length bytes % 8 ≡ 0 → misfit_of a ≡ 0
fit-list a e bytes t d = t.misfit-is ∙ rw (eq-eqb (length bytes % 8) 0 d)

pub changes-are : (s : Flat) (e : Edit) (l bytes : List ℕ) (n : ℕ) → l ≡ read_from 8 unle 0 n bytes → n ≡ length bytes / 8
    → flattened s (push_fit s (given_of false [] e l)) ≡ flattened s (push_fit s (given_of false [] e (numbers_in bytes)))
unfolding numbers_in
changes-are s e l bytes n p q =
    ap (λ (x : List ℕ). flattened s (push_fit s (given_of false [] e x))) (p ∙ ap (λ (m : ℕ). read_from 8 unle 0 m bytes) q)

-- ---- a mark pushed
pub lock-misfit : (i m : ℕ) → 1 < m → misfit_of (Asked.lock i m) ≡ 28
unfolding misfit_of
lock-misfit i m h = rw (lt-ltb 1 m h)

pub lock-fits : (i m : ℕ) → m ≤ 1 → misfit_of (Asked.lock i m) ≡ 0
unfolding misfit_of
lock-fits i m h = rw (le-ltb 1 m h)
