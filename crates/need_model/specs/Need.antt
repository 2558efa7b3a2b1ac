-- `journal_need`: document 02, E11. Its checks in order, and its answer. Definitions only. Assumes nothing.
use Rattle.std.specs.Prelude.{ℕ, ◌*◌, List, [], ◌∷◌, ◌++◌, ltb}
use Rattle.base.specs.Numbers.{no_space, journal_full, unread_frame}
use Rattle.base.specs.Checks.{Check, ◌when◌, checked}
use Rattle.base.specs.Answer.{Told}
use Rattle.base.specs.Answer.Told.{result, alone}
use Rattle.base.specs.Lists.{some}
use Rattle.base.specs.declared.Form.{Form}
use Rattle.color_curve.specs.Curve.{srgb}
use Rattle.sheet_lent.specs.Lent.{Lent, lent_checks}
use Rattle.history_ledger.specs.Journal.{long_journal}
use Rattle.history_ledger.specs.Ledger.{standing}
use Rattle.history_ledger.specs.Script.{need_of, entered}
use Rattle.history_model.specs.Document.{Document, Shown, shown, document_checks}
use Rattle.history_model.specs.Editing.{editing_by}
use Rattle.panel_lines.specs.Lines.{lines_of}
use Rattle.need_model.specs.Asked.{script_of, unread}

-- "the journal length it needs", of a sheet and a text of lines: in the form of the journal, "under the sRGB curve and no colour list"
abbrev pub need_in : Form → Document → List ℕ → ℕ
need_in f d text = need_of (editing_by f srgb) (shown d) (script_of (lines_of text))

-- "The working sheet ends as the ledger's standing picture"
abbrev pub ends_as : Form → Document → List ℕ → Shown
ends_as f d text = standing (editing_by f srgb) (entered (editing_by f srgb) (shown d) (script_of (lines_of text))).ends

-- "After 1 to 3 of the opening sheet, and 1 when the working sheet has another size, all frames are read: .. 22. Then short scratch gets 16"; a journal over
-- the limit is 1 with the sheet's. Scratch is two buffers, `list` and `scratch` places long
unfoldable pub need_checks : Document → List ℕ → Lent → ℕ → ℕ → ℕ → List Check
need_checks d text x journal list scratch =
    long_journal journal
    ∷ (document_checks d
    ++ (lent_checks d.sheet.w d.sheet.h x
    ++ (unread_frame when some unread (lines_of text)
    ∷ no_space when ltb list (d.sheet.w * d.sheet.h)
    ∷ no_space when ltb scratch (d.sheet.w * d.sheet.h)
    ∷ [])))

-- what is answered, and what the working sheet shows then
pub record Needed : Type 0 where
  pub bytes : ℕ
  pub picture : Shown

abbrev pub needed : ℕ → Shown → Needed
needed bytes picture = record { bytes = bytes; picture = picture }

-- "then play begins. A lent journal shorter than the need is 14". Of a refusal nothing is said but its number: "The journal counts as scratch, the working sheet
-- past its k entries and, on a refusal, wholly"
unfoldable pub need_call : Form → Document → List ℕ → Lent → ℕ → ℕ → ℕ → Told Needed
need_call f d text x journal list scratch =
    checked (need_checks d text x journal list scratch) alone
    (checked (journal_full when ltb journal (need_in f d text) ∷ []) alone
    (result (needed (need_in f d text) (ends_as f d text))))
