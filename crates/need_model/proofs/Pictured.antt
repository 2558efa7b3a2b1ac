-- A merge asks by the picture what it asks by the sheet, where none of 1 to 3 refuses the sheet. Assumes nothing.
use mathlib.Core.Path.{◌≡◌, refl, sym, ap, ◌∙◌}
use mathlib.Core.Bool.{Bool, true, false, cond, ◌||◌}
use mathlib.Core.List.{[], ◌∷◌}
use Prim.Native.Nat.{ℕ, ◌+◌, ◌*◌, ◌<◌}
use native.Mathlib.Omega.{arith}
use borrow.Author.Tests.{leb-false}
use lib.Dec.{leb, eqb}
use lib.ListN.{get_or, take}
use lib.Seq.{get_or-take}
use Rattle.base.specs.Numbers.{bad_merge, entry_locked}
use Rattle.base.specs.Checks.{◌when◌, first_of, or_else}
use Rattle.base.specs.Triples.{rgb_at}
use Rattle.base.proofs.First.{first_past, past}
use Rattle.base.proofs.Scan.{or_left}
use Rattle.sheet.specs.Sheet.{view}
use Rattle.edit.specs.Locks.{lock_at}
use Rattle.palette_model.specs.Removal.{merge_checks}
use Rattle.history_model.specs.Document.{Document, shown, document_checks}
use Rattle.need_model.specs.Asked.{merge_own}

-- where 18 applies, the mark is not looked at
marks-alike : (t u v : Bool) → (t ≡ false → u ≡ v) → first_of (bad_merge when t ∷ entry_locked when u ∷ []) ≡ first_of (bad_merge when t ∷ entry_locked when v ∷ [])
unfolding first_of
marks-alike true u v h = refl
marks-alike false u v h = ap (λ (b : Bool). or_else (cond b 24 0) 0) (h refl)

module _ (d : Document) (fine : first_of (document_checks d) ≡ 0) (from into : ℕ) where
  abbrev bad : Bool
  bad = leb d.sheet.k from || (leb d.sheet.k into || eqb from into)

  -- a mark of an entry is the picture's
  mark-same : bad ≡ false → lock_at d.locks from ≡ lock_at (take d.sheet.k d.locks) from
  mark-same e = sym (get_or-take d.sheet.k d.locks from false (leb-false d.sheet.k from (or_left _ _ e)))

  pub merge-checks : first_of (merge_checks d.sheet d.locks from into) ≡ first_of (merge_own (shown d) from into)
  unfolding merge_checks merge_own view
  merge-checks = first_past (document_checks d) _ fine ∙ marks-alike bad (lock_at d.locks from) (lock_at (take d.sheet.k d.locks) from) mark-same

  -- past 18 the colour of the entry is the picture's
  pub merge-colour : first_of (merge_own (shown d) from into) ≡ 0 → rgb_at d.sheet.palette from ≡ rgb_at (take (3 * d.sheet.k) d.sheet.palette) from
  unfolding merge_own view rgb_at
  merge-colour e =
      let k = d.sheet.k in
      let h : from < k = leb-false k from (or_left _ _ (past (bad_merge when bad) _ (omega arith) e).off) in
      let at : (i : ℕ) → i < 3 → get_or d.sheet.palette (3 * from + i) 0 ≡ get_or (take (3 * k) d.sheet.palette) (3 * from + i) 0 =
      λ i b. sym (get_or-take (3 * k) d.sheet.palette (3 * from + i) 0 (omega arith)) in
      let zero-at : get_or d.sheet.palette (3 * from) 0 ≡ get_or (take (3 * k) d.sheet.palette) (3 * from) 0 = sym (get_or-take (3 * k) d.sheet.palette (3 * from) 0 (omega arith)) in
      rw (zero-at, at 1 (omega arith), at 2 (omega arith))
