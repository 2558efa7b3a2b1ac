-- DOCUMENT 02, E11: "At that length no push is answered "journal full", and at each smaller length at least one is. The working sheet ends as the ledger's
-- standing picture." Proved: `least-need` in proofs/Least.antt. Definitions only. Assumes nothing.
use Rattle.std.specs.Prelude.{◌≡◌, true, List, ℕ, ◌*◌, ◌≤◌, ◌<◌, length}
use Rattle.base.specs.Limits.{max_journal}
use Rattle.base.specs.Checks.{first_of}
use Rattle.base.specs.declared.Form.{Form}
use Rattle.color_curve.specs.Curve.{srgb}
use Rattle.history_ledger.specs.Journal.{opened}
use Rattle.history_ledger.specs.Script.{any_full, actedOn, entered, Enough, highest}
use Rattle.history_model.specs.Document.{shown, document_checks}
use Rattle.history_model.specs.Editing.{editing_by}
use Rattle.history_model.specs.Handed.{HandedSheet, sheet_by}
use Rattle.panel_lines.specs.Lines.{lines_of}
use Rattle.need_model.specs.Asked.{script_of}
use Rattle.need_model.specs.Need.{need_in}

-- For every sheet that none of 1 to 3 refuses, every text of lines, either form, every journal of any contents, and scratch for every pixel: from a fresh
-- history the session is played call by call, each line asking by the picture that it meets. `Enough` (history_ledger/specs/Script.antt): no answer is "journal
-- full", the answers are the ledger's, and the state matches the ledger's end.
pub record LeastNeed : Type 0 where
  pub enough : (f : Form) (lent : HandedSheet)
      → let d = sheet_by lent in
      first_of (document_checks d) ≡ 0
      → (text journal : List ℕ) → length journal ≤ max_journal → (scratch : ℕ → ℕ) → ((i : ℕ) → d.sheet.w * d.sheet.h ≤ scratch i)
      → need_in f d text ≤ length journal
      → Enough (editing_by f srgb) (actedOn (editing_by f srgb) scratch d journal (script_of (lines_of text))) (entered (editing_by f srgb) (shown d) (script_of (lines_of text)))
  pub too_short : (f : Form) (lent : HandedSheet)
      → let d = sheet_by lent in
      first_of (document_checks d) ≡ 0
      → (text journal : List ℕ) → length journal ≤ max_journal → (scratch : ℕ → ℕ) → ((i : ℕ) → d.sheet.w * d.sheet.h ≤ scratch i)
      → length journal < need_in f d text
      → any_full (actedOn (editing_by f srgb) scratch d journal (script_of (lines_of text))).answers ≡ true
  -- as code counts it: the farthest that the end offset gets
  pub counted : (f : Form) (lent : HandedSheet)
      → let d = sheet_by lent in
      first_of (document_checks d) ≡ 0
      → (text journal : List ℕ) → length journal ≤ max_journal → (scratch : ℕ → ℕ) → ((i : ℕ) → d.sheet.w * d.sheet.h ≤ scratch i)
      → need_in f d text ≤ length journal
      → highest (editing_by f srgb) scratch 0 (opened (editing_by f srgb) d journal) (script_of (lines_of text)) ≡ need_in f d text
