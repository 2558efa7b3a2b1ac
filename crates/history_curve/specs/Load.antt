-- `load_curve`: document 02, E6. Definitions only. Assumes nothing.
use Rattle.std.specs.Prelude.{◌≡◌, true, not, List, [], ◌∷◌, ◌++◌, ℕ, ◌*◌, ◌<◌, eqb, Float, take, drop}
use Rattle.base.specs.Numbers.{journal_in_use}
use Rattle.base.specs.Checks.{Check, ◌when◌, first_of}
use Rattle.base.specs.Lists.{over}
use Rattle.base.specs.Triples.{rgb_at, lab_at}
use Rattle.base.specs.Answer.{answer_told}
use Rattle.base.specs.declared.Answer.{Answer}
use Rattle.base.specs.declared.Handle.{Handle}
use Rattle.color_curve.specs.Curve.{curve_of, lab_on, curve_checks}
use Rattle.sheet.specs.Sheet.{Sheet, sheet_of}
use Rattle.sheet.specs.Checks.{sheet_checks, WellFormed}
use Rattle.sheet.specs.Document.{labs_by}
use Rattle.history_ledger.specs.Calls.{Outcome, done, guarded}
use Rattle.history_ledger.specs.Journal.{long_journal, unsound}

-- 4, 26 "journal in use", "when the record count is not 0", 25: a handle in a journal of n bytes, and the values of a curve
unfoldable pub history_checks : ℕ → Handle → List Float → List Check
history_checks n h values = unsound n h ∷ journal_in_use when not (eqb h.count 0) ∷ curve_checks (curve_of true values)

-- "in loading before it 26 ..; both after 1 to 4": 1, 2, 3, 4, 26, 25
unfoldable pub load_checks : Sheet → ℕ → Handle → List Float → List Check
load_checks s n h values = long_journal n ∷ (sheet_checks [] s ++ history_checks n h values)

-- "Loading works out the LAB of the k entries anew from that curve"; the rest of the LAB storage keeps
unfoldable pub loaded_lab : Sheet → List Float → List Float
loaded_lab s values = over (labs_by (lab_on values) (take (3 * s.k) s.palette)) s.lab

-- what a loading answers, and the LAB storage that it leaves; whatever else it is lent it does not write
unfoldable pub load_of : Sheet → ℕ → Handle → List Float → Outcome (List Float)
load_of s n h values = guarded s.lab (load_checks s n h values) (done (loaded_lab s values))

abbrev pub load_made : Answer → List Float → Outcome (List Float)
load_made a lab = record { answer = answer_told a; leaves = lab }

-- ---- after a loading that is done, of a palette of bytes, as every one that is lent is. Proved: `loaded` in
-- proofs/Loaded.antt
pub record Loaded (s : Sheet) (h : Handle) (values lab : List Float) : Type 0 where
  -- "It may be loaded only while the history has no records"
  pub unused : h.count ≡ 0
  -- no later call refuses the curve
  pub fits : first_of (curve_checks (curve_of true values)) ≡ 0
  -- none of 1 to 3 applies
  pub formed : WellFormed (sheet_of s.w s.h s.k s.palette lab s.indices)
  -- each of the k entries has the LAB of its bytes, and what is past them keeps
  pub anew : (i : ℕ) → i < s.k → lab_at lab i ≡ lab_on values (rgb_at s.palette i)
  pub kept : drop (3 * s.k) lab ≡ drop (3 * s.k) s.lab
