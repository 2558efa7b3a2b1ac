-- Two histories of one document, each in a form of its own, that stand between the same records: a call that neither answers with 14 gets the same answer of
-- both, and leaves them so. Checks look at the document and the arguments alone, an undo or a redo finds the same edit and changes, and a push writes the same
-- record. Assumes nothing.
use Prim.Native.Nat.{ℕ, zero, suc, ◌+◌}
use mathlib.Core.Path.{◌≡◌, refl, sym, ap, ap₂, ◌∙◌, subst}
use mathlib.Core.Bool.{Bool, true, false, cond}
use mathlib.Core.List.{List, [], ◌∷◌, ◌++◌}
use mathlib.Core.Logic.{◌⊎◌, inl, inr}
use native.Mathlib.Omega.{arith}
use borrow.Author.Tests.{le-ltb, ltb-false, eqb-false}
use lib.Dec.{ltb, leb, eqb}
use lib.ListN.{length}
use Rattle.base.specs.Limits.{max_journal}
use Rattle.base.specs.Numbers.{journal_damaged, journal_full, list_too_long}
use Rattle.base.specs.Checks.{Check, ◌when◌, or_else, first_of, refused_or}
use Rattle.base.specs.Answer.{Done, Still}
use Rattle.base.specs.Answer.Told.{alone}
use Rattle.base.specs.declared.Form.{Form}
use Rattle.base.specs.declared.Handle.{Handle}
use Rattle.base.proofs.First.{first-append}
use Rattle.color_curve.specs.Curve.{Curve, lab_by}
use Rattle.edit.proofs.Redone.{redone-size}
use Rattle.journal_read.specs.Sound.{undoable, redoable}
use Rattle.journal_raw.specs.Raw.{Raw, raw_length, raw_bytes}
use Rattle.journal_raw.proofs.Readings.{Whole}
use Rattle.history_ledger.specs.Algebra.{Algebra}
use Rattle.history_ledger.specs.Handle.{nowhere, sound, after_push, stepped_back, stepped_forth, marked}
use Rattle.history_ledger.specs.Calls.{Answer, Call, Outcome, done, still, refused, guarded, group}
use Rattle.history_ledger.specs.Calls.Call.{push, undo, redo, mark}
use Rattle.history_ledger.specs.Journal.{State, written, move_checks, redoChecks, entry_checks, shortScratch, pushed, pushOf, undoOf, redoOf, mark_of, step}
use Rattle.history_ledger.proofs.Refusals.{when-passes, each-passes}
use Rattle.history_model.specs.Document.{Document, document_done, document_back}
use Rattle.history_model.specs.Editing.{Given, TypedGiven, editing_by}
use Rattle.history_model.specs.Handed.{HandedPush, given_by, call_by}
use Rattle.history_model.specs.Calls.{state_of}
use Rattle.history_model.proofs.Demand3.{call-typed}
use Rattle.history_model.proofs.Keeps as keeps
use Rattle.edit.proofs.Reverted.{reverted-size}
use Rattle.history_convert.proofs.Standing.{Stands, stands-sound, Last, by_last, back_whole, stands-back, forth-whole, stands-forth, stands-marked}
use Rattle.history_convert.proofs.Doubles.{Doubles, whole-old, done-doubles, back-doubles}
use Rattle.history_convert.proofs.Stepping.{undoStep, redoStep, stepped, undo-is, redo-is}
use Rattle.history_convert.proofs.Pushed.{rawPush, push-length, push-whole, push-is, stands-pushed}

module _ (f g : Form) (w : ℕ) where
  -- ---- one document, with two journals and their handles
  pub record Parallel (d : Document) (j : List ℕ) (h : Handle) (j' : List ℕ) (h' : Handle) : Type 0 where
    pub past : List Raw
    pub future : List Raw
    pub one : Stands f w j h past future
    pub two : Stands g w j' h' past future
    pub saved : h.saved ≡ h'.saved
    pub width : d.sheet.w ≡ w
    pub doubles : Doubles d.sheet

  -- the same answer, after which they are so again
  pub record Agree (o o' : Outcome (State Document)) : Type 0 where
    pub answer : Answer
    pub d : Document
    pub j : List ℕ
    pub h : Handle
    pub j' : List ℕ
    pub h' : Handle
    pub one-is : o ≡ record { answer = answer; leaves = state_of d j h }
    pub two_is : o' ≡ record { answer = answer; leaves = state_of d j' h' }
    pub after : Parallel d j h j' h'

  -- where neither is 14
  abbrev pub Agrees : Outcome (State Document) → Outcome (State Document) → Type 0
  Agrees o o' = ¬ (o.answer ≡ alone journal_full) → ¬ (o'.answer ≡ alone journal_full) → Agree o o'

  module _ (d : Document) (j : List ℕ) (h : Handle) (j' : List ℕ) (h' : Handle) (b : Parallel d j h j' h') where
    abbrev st : State Document
    st = state_of d j h

    abbrev st' : State Document
    st' = state_of d j' h'

    -- ---- what leaves all as it was
    stays : (a : Answer) → Agree (record { answer = a; leaves = st }) (record { answer = a; leaves = st' })
    stays a = record { answer = a; d = d; j = j; h = h; j' = j'; h' = h'; one-is = refl; two_is = refl; after = b }

    guard : (cs cs' : List Check) (o o' : Outcome (State Document)) → first_of cs ≡ first_of cs' → (first_of cs ≡ 0 → Agrees o o') → Agrees (guarded st cs o) (guarded st' cs' o')
    unfolding refused_or
    guard cs cs' o o' e k = rw (← e) (go (first_of cs) refl)
      where
        go : (n : ℕ) → first_of cs ≡ n → Agrees (refused_or n (refused st) o) (refused_or n (refused st') o')
        go zero q = k q
        go (suc n) q = λ x y. stays (alone (suc n))

    -- 14 comes last
    guard-full : (cs : List Check) (full full' : Bool) (o o' : Outcome (State Document)) → (first_of cs ≡ 0 → full ≡ false → full' ≡ false → Agrees o o')
        → Agrees (guarded st (cs ++ (journal_full when full ∷ [])) o) (guarded st' (cs ++ (journal_full when full' ∷ [])) o')
    unfolding refused_or first_of
    guard-full cs full full' o o' k = rw (first-append cs (journal_full when full ∷ []), first-append cs (journal_full when full' ∷ [])) (go (first_of cs) refl full refl full' refl)
      where
        go : (n : ℕ) → first_of cs ≡ n → (x : Bool) → full ≡ x → (y : Bool) → full' ≡ y
            → Agrees (refused_or (or_else n (or_else (cond x journal_full 0) 0)) (refused st) o) (refused_or (or_else n (or_else (cond y journal_full 0) 0)) (refused st') o')
        go zero q true p y p' = λ u v. absurd (u refl)
        go zero q false p true p' = λ u v. absurd (v refl)
        go zero q false p false p' = k q p p'
        go (suc n) q x p y p' = λ u v. stays (alone (suc n))

    or-still : (t t' : Bool) (o o' : Outcome (State Document)) → t ≡ t' → (t ≡ false → Agrees o o') → Agrees (cond t (still st) o) (cond t' (still st') o')
    or-still t t' o o' e k = rw (← e) (go t refl)
      where
        go : (x : Bool) → t ≡ x → Agrees (cond x (still st) o) (cond x (still st') o')
        go true q = λ u v. stays Still
        go false q = k q

    -- ---- the checks that look at no record
    permits : ltb max_journal (length j) ≡ false
    permits = le-ltb max_journal (length j) b.one.permitted

    permits' : ltb max_journal (length j') ≡ false
    permits' = le-ltb max_journal (length j') b.two.permitted

    sounds : sound (length j) h ≡ true
    sounds = stands-sound f w j h b.past b.future b.one

    sounds' : sound (length j') h' ≡ true
    sounds' = stands-sound g w j' h' b.past b.future b.two

    pub positions : h.position ≡ h'.position
    positions = b.one.position-is ∙ sym b.two.position-is

    pub counts : h.count ≡ h'.count
    counts = b.one.count-is ∙ sym b.two.count-is

    module _ (c : Curve) where
      abbrev A : Algebra
      A = editing_by f c

      abbrev B : Algebra
      B = editing_by g c

      same-moves : first_of (move_checks A st) ≡ first_of (move_checks B st')
      unfolding first_of
      same-moves = rw (permits, permits', sounds, sounds')

      same-redo : first_of (redoChecks A st) ≡ first_of (redoChecks B st')
      unfolding first_of
      same-redo = rw (permits, permits', sounds, sounds')

      same-entry : (e : Given) → first_of (entry_checks A st e) ≡ first_of (entry_checks B st' e)
      unfolding first_of
      same-entry e = rw (permits, permits', sounds, sounds')

      -- ---- undo and redo, over the same record
      steps : (ok : Bool) (d₁ : Document) (h₁ h₁' : Handle) → Parallel d₁ j h₁ j' h₁' → Agree (stepped d j h ok d₁ h₁) (stepped d j' h' ok d₁ h₁')
      steps true d₁ h₁ h₁' next = record { answer = Done; d = d₁; j = j; h = h₁; j' = j'; h' = h₁'; one-is = refl; two_is = refl; after = next }
      steps false d₁ h₁ h₁' next = stays (alone journal_damaged)

      over_last : (past : List Raw) (r : Raw) (future : List Raw) → Stands f w j h (past ++ (r ∷ [])) future → Stands g w j' h' (past ++ (r ∷ [])) future → Agree (undoStep f c d j h) (undoStep g c d j' h')
      over_last past r future s s' =
          let t : Whole w r = back_whole f w j h past r future s in
          rw (undo-is f c d j h w b.width past r future t s, undo-is g c d j' h' w b.width past r future t s')
          (steps (undoable d.sheet d.locks t.edit r.changes) (document_back d t.edit r.changes) (stepped_back (raw_length f r) h) (stepped_back (raw_length g r) h')
          (record {
            past = past;
            future = r ∷ future;
            one = stands-back f w j h past r future s;
            two = stands-back g w j' h' past r future s';
            saved = b.saved;
            width = (reverted-size d.sheet t.edit r.changes).w ∙ b.width;
            doubles = back-doubles d.sheet t.edit r.changes (whole-old w r t) b.doubles;
          }))

      over_first : (past : List Raw) (r : Raw) (future : List Raw) → Stands f w j h past (r ∷ future) → Stands g w j' h' past (r ∷ future) → Agree (redoStep f c d j h) (redoStep g c d j' h')
      over_first past r future s s' =
          let t : Whole w r = forth-whole f w j h past r future s in
          rw (redo-is f c d j h w b.width past r future t s, redo-is g c d j' h' w b.width past r future t s')
          (steps (redoable d.sheet d.locks t.edit r.changes) (document_done (lab_by c) d t.edit r.changes) (stepped_forth (raw_length f r) h) (stepped_forth (raw_length g r) h')
          (record {
            past = past ++ (r ∷ []);
            future = future;
            one = stands-forth f w j h past r future s;
            two = stands-forth g w j' h' past r future s';
            saved = b.saved;
            width = (redone-size (lab_by c) d.sheet t.edit r.changes).w ∙ b.width;
            doubles = done-doubles c d.sheet t.edit r.changes b.doubles;
          }))

      undoes : Agrees (undoOf A st) (undoOf B st')
      unfolding undoOf
      undoes =
          guard (move_checks A st) (move_checks B st') _ _ same-moves
          (λ z. or-still (eqb h.position 0) (eqb h'.position 0) _ _ (ap (λ (n : ℕ). eqb n 0) positions)
          (λ t x y. by t (by_last b.past)))
        where
          by : eqb h.position 0 ≡ false → (b.past ≡ []) ⊎ Last b.past → Agree (undoStep f c d j h) (undoStep g c d j' h')
          by t (inl e) = absurd (eqb-false h.position 0 t (b.one.position-is ∙ ap length e))
          by t (inr l) =
              over_last l.front l.last b.future
              (subst (λ (p : List Raw). Stands f w j h p b.future) l.is b.one) (subst (λ (p : List Raw). Stands g w j' h' p b.future) l.is b.two)

      redoes : (room : ℕ) → Agrees (redoOf A room st) (redoOf B room st')
      unfolding redoOf
      redoes room =
          guard (redoChecks A st) (redoChecks B st') _ _ same-redo
          (λ z. or-still (eqb h.position h.count) (eqb h'.position h'.count) _ _ (ap₂ eqb positions counts)
          (λ t. guard (shortScratch A room st ∷ []) (shortScratch B room st' ∷ []) _ _ refl
          (λ q x y. by t b.future refl)))
        where
          by : eqb h.position h.count ≡ false → (l : List Raw) → b.future ≡ l → Agree (redoStep f c d j h) (redoStep g c d j' h')
          by t [] e = absurd (eqb-false h.position h.count t (omega (arith, b.one.position-is, b.one.count-is, ap length e)))
          by t (r ∷ l) e =
              over_first b.past r l
              (subst (λ (p : List Raw). Stands f w j h b.past p) e b.one) (subst (λ (p : List Raw). Stands g w j' h' b.past p) e b.two)

      -- ---- mark
      marks : Agree (step A 0 st mark) (step B 0 st' mark)
      unfolding mark_of first_of refused_or
      marks =
          record {
            answer = Done;
            d = d;
            j = j;
            h = marked h;
            j' = j';
            h' = marked h';
            one-is = rw (permits, sounds);
            two_is = rw (permits', sounds');
            after =
                record {
                  past = b.past;
                  future = b.future;
                  one = stands-marked f w j h b.past b.future b.one;
                  two = stands-marked g w j' h' b.past b.future b.two;
                  saved = positions;
                  width = b.width;
                  doubles = b.doubles;
                };
          }

      -- ---- push
      pushes : (room : ℕ) (e : Given) → TypedGiven e → Agrees (pushOf A room st e) (pushOf B room st' e)
      unfolding pushOf
      pushes room e typed =
          guard (entry_checks A st e) (entry_checks B st' e) _ _ (same-entry e)
          (λ z. or-still (A.is_empty e) (B.is_empty e) _ _ refl
          (λ t. guard-full late (ltb (length j) (h.offset + A.size e)) (ltb (length j') (h'.offset + B.size e)) _ _
          (λ q p p' x y. made z t q p p')))
        where
          late : List Check
          late = list_too_long when A.is_long e ∷ shortScratch A room st ∷ group (A.own_check (A.view d) e) ∷ []

          made : first_of (entry_checks A st e) ≡ 0 → A.is_empty e ≡ false → first_of late ≡ 0 → ltb (length j) (h.offset + A.size e) ≡ false → ltb (length j') (h'.offset + B.size e) ≡ false
              → Agree (done (pushed A st e)) (done (pushed B st' e))
          made z t q p p' =
              let formed = (keeps.marked d.sheet d.locks (each-passes (entry_checks A st e) z).1.1.1.0).formed in
              let short = when-passes _ (A.is_long e) (each-passes late q).0 in
              let own = (each-passes late q).1.1.0 in
              let r : Raw = rawPush c d b.doubles formed e typed t short own in
              let whole : Whole w r = push-whole c d b.doubles formed e typed t short own w b.width in
              let room-one = ltb-false (length j) (h.offset + A.size e) p in
              let room-two = ltb-false (length j') (h'.offset + B.size e) p' in
              let long = push-length c d b.doubles formed e typed t short own in
              let is = push-is c d b.doubles formed e typed t short own w b.width in
              record {
                answer = Done;
                d = document_done (lab_by c) d e.edit e.changes;
                j = written j h.offset (raw_bytes f w r);
                h = after_push (raw_length f r) h;
                j' = written j' h'.offset (raw_bytes g w r);
                h' = after_push (raw_length g r) h';
                one-is = ap done (is f j h);
                two_is = ap done (is g j' h');
                after =
                    record {
                      past = b.past ++ (r ∷ []);
                      future = [];
                      one = stands-pushed f w j h b.past b.future b.one r whole (omega (arith, long f, room-one));
                      two = stands-pushed g w j' h' b.past b.future b.two r whole (omega (arith, long g, room-two));
                      saved = ap₂ (λ (s n : ℕ). cond (leb s n) s nowhere) b.saved positions;
                      width = (redone-size (lab_by c) d.sheet e.edit e.changes).w ∙ b.width;
                      doubles = done-doubles c d.sheet e.edit e.changes b.doubles;
                    };
              }

      -- ---- every call
      pub calls : (room : ℕ) (call : Call HandedPush) → Agrees (step A room st (call_by call)) (step B room st' (call_by call))
      calls room (push p) = pushes room (given_by p) (call-typed (push p))
      calls room undo = undoes
      calls room redo = redoes room
      calls room mark = λ x y. marks
