-- What the checks of `journal_need` come to at each test, and what it answers past them. Assumes nothing.
use mathlib.Core.Path.{◌≡◌, refl, sym, ap, ◌∙◌}
use mathlib.Core.Bool.{Bool, true, false}
use mathlib.Core.List.{List, [], ◌∷◌, ◌++◌}
use Prim.Native.Nat.{ℕ, ◌*◌, ◌<◌, ◌≤◌}
use native.Mathlib.Omega.{arith}
use borrow.Author.Tests.{lt-ltb, le-ltb}
use lib.Dec.{ltb}
use Rattle.base.specs.Limits.{max_journal}
use Rattle.base.specs.Numbers.{no_space, journal_full, unread_frame}
use Rattle.base.specs.Checks.{Check, ◌when◌, first_of, refused_or, checked}
use Rattle.base.specs.Answer.{Told}
use Rattle.base.specs.Answer.Told.{result, alone}
use Rattle.base.specs.Lists.{some}
use Rattle.base.specs.declared.Form.{Form}
use Rattle.base.proofs.First.{no_zero, skip, first_past, first-here, refused-first}
use Rattle.sheet.specs.Checks.{MarkedJudged}
use Rattle.sheet_lent.specs.Lent.{Lent, lent_checks, LentJudged}
use Rattle.history_ledger.specs.Journal.{long_journal}
use Rattle.history_model.specs.Document.{Document, document_checks}
use Rattle.panel_lines.specs.Lines.{lines_of}
use Rattle.need_model.specs.Asked.{unread}
use Rattle.need_model.specs.Need.{need_in, ends_as, Needed, needed, need_checks, need_call}
use Rattle.need_model.specs.Judged.{NeedJudged}

module _ (d : Document) (text : List ℕ) (x : Lent) (journal list scratch : ℕ) where
  abbrev places : ℕ
  places = d.sheet.w * d.sheet.h

  abbrev lent : List Check
  lent = lent_checks d.sheet.w d.sheet.h x

  abbrev last : List Check
  last = unread_frame when some unread (lines_of text) ∷ no_space when ltb list places ∷ no_space when ltb scratch places ∷ []

  pub judged-long : max_journal < journal → NeedJudged d text x journal list scratch 1
  unfolding need_checks first_of
  judged-long h = record { value = rw (lt-ltb max_journal journal h); fits = λ e. absurd (no_zero (omega arith) e) }

  module _ (short : journal ≤ max_journal) where
    past-long : first_of (need_checks d text x journal list scratch) ≡ first_of (document_checks d ++ (lent ++ last))
    unfolding need_checks
    past-long = skip (long_journal journal) _ (le-ltb max_journal journal short)

    pub judged-sheet : (n : ℕ) → MarkedJudged d.sheet d.locks n → (n ≡ 0 → ⊥) → NeedJudged d text x journal list scratch n
    judged-sheet n j h = record { value = first-here (document_checks d) (lent ++ last) n j.value h ∙ sym past-long; fits = λ e. absurd (h e) }

    module _ (j : MarkedJudged d.sheet d.locks 0) where
      past-sheet : first_of (need_checks d text x journal list scratch) ≡ first_of (lent ++ last)
      past-sheet = past-long ∙ first_past (document_checks d) (lent ++ last) (sym j.value)

      pub judged-lent : (n : ℕ) → LentJudged d.sheet.w d.sheet.h x n → (n ≡ 0 → ⊥) → NeedJudged d text x journal list scratch n
      judged-lent n l h = record { value = first-here lent last n l.value h ∙ sym past-sheet; fits = λ e. absurd (h e) }

      module _ (l : LentJudged d.sheet.w d.sheet.h x 0) where
        past-lent : first_of (need_checks d text x journal list scratch) ≡ first_of last
        past-lent = past-sheet ∙ first_past lent last (sym l.value)

        pub judged-unread : some unread (lines_of text) ≡ true → NeedJudged d text x journal list scratch 22
        unfolding first_of
        judged-unread u = record { value = sym (past-lent ∙ rw u); fits = λ e. absurd (no_zero (omega arith) e) }

        module _ (read : some unread (lines_of text) ≡ false) where
          pub judged-list : list < places → NeedJudged d text x journal list scratch 16
          unfolding first_of
          judged-list h = record { value = sym (past-lent ∙ rw (read, lt-ltb list places h)); fits = λ e. absurd (no_zero (omega arith) e) }

          module _ (listed : places ≤ list) where
            pub judged-scratch : scratch < places → NeedJudged d text x journal list scratch 16
            unfolding first_of
            judged-scratch h = record { value = sym (past-lent ∙ rw (read, le-ltb list places listed, lt-ltb scratch places h)); fits = λ e. absurd (no_zero (omega arith) e) }

            pub judged-fine : places ≤ scratch → NeedJudged d text x journal list scratch 0
            unfolding first_of
            judged-fine h =
                record {
                  value = sym (past-lent ∙ rw (read, le-ltb list places listed, le-ltb scratch places h));
                  fits = λ e. record { sheet = j.fine refl; fine = sym j.value; working = l.fine refl; permitted = short; listed = listed; roomy = h };
                }

  -- ---- the call
  module _ (f : Form) where
    pub need-refused : (n : ℕ) → NeedJudged d text x journal list scratch n → (n ≡ 0 → ⊥) → alone n ≡ need_call f d text x journal list scratch
    unfolding need_call
    need-refused n j h = refused-first (need_checks d text x journal list scratch) alone _ n j.value h

    module _ (j : NeedJudged d text x journal list scratch 0) where
      -- past the checks: 14 where the journal is shorter, else the need
      abbrev answers : Bool → Told Needed
      answers short = checked (journal_full when short ∷ []) alone (result (needed (need_in f d text) (ends_as f d text)))

      played : need_call f d text x journal list scratch ≡ answers (ltb journal (need_in f d text))
      unfolding need_call refused_or
      played = ap (λ (n : ℕ). refused_or n alone (answers (ltb journal (need_in f d text)))) (sym j.value)

      pub need-short : journal < need_in f d text → alone 14 ≡ need_call f d text x journal list scratch
      unfolding first_of refused_or
      need-short h = sym (played ∙ ap answers (lt-ltb journal (need_in f d text) h))

      pub need-met : need_in f d text ≤ journal → result (needed (need_in f d text) (ends_as f d text)) ≡ need_call f d text x journal list scratch
      unfolding first_of refused_or
      need-met h = sym (played ∙ ap answers (le-ltb journal (need_in f d text) h))
