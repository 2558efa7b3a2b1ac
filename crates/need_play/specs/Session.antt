-- A session played to its end, or to the first call that is answered "journal full". Definitions only. Assumes nothing.
use Rattle.std.specs.Prelude.{◌≡◌, Bool, true, false, List, ℕ, ◌*◌, ◌≤◌, ◌<◌, length}
use Rattle.base.specs.Limits.{max_journal}
use Rattle.base.specs.Checks.{first_of}
use Rattle.base.specs.declared.Form.{Form}
use Rattle.history_model.specs.Document.{Document, Shown, document_checks}
use Rattle.need_model.specs.Need.{need_in, ends_as}

-- a sheet that none of 1 to 3 refuses, a journal up to the limit, and a list and scratch for every pixel
pub record Playable (d : Document) (journal list scratch : ℕ) : Type 0 where
  pub fine : first_of (document_checks d) ≡ 0
  pub permitted : journal ≤ max_journal
  pub listed : length d.sheet.indices ≤ list
  pub roomy : d.sheet.w * d.sheet.h ≤ scratch

-- whether a push was answered so, the need that was counted, and what the working sheet shows at the end; of a session that stopped only that it had to
pub record Counted (f : Form) (d : Document) (text : List ℕ) (journal : ℕ) (full : Bool) (need : ℕ) (picture : Shown) : Type 0 where
  pub stopped : full ≡ true → journal < need_in f d text
  pub enough : full ≡ false → need_in f d text ≤ journal
  pub counts : full ≡ false → need ≡ need_in f d text
  pub shows : full ≡ false → picture ≡ ends_as f d text
