-- `join`: document 02, E8. Two sheets, each with its marks, written to lent sheets of their own on one palette.
-- Definitions only. Assumes nothing.
use Rattle.std.specs.Prelude.{Bool, List, [], ◌∷◌, ◌++◌, map, ltb, ℤ, length}
use Rattle.base.specs.Limits.{max_entries}
use Rattle.base.specs.Numbers.{joined_too_long}
use Rattle.base.specs.Checks.{Check, ◌when◌, checked}
use Rattle.base.specs.Answer.{Told, Joint, joint}
use Rattle.base.specs.Answer.Told.{result, alone}
use Rattle.base.specs.Lists.{over}
use Rattle.sheet.specs.Sheet.{Sheet}
use Rattle.sheet.specs.Checks.{mark_checks, sheet_checks}
use Rattle.sheet_lent.specs.Lent.{Buffers, buffers_of, Lent, lent_checks}
use Rattle.history_ledger.specs.Handle.{fresh}
use Rattle.join_model.specs.Joined.{Entry, entries_of, colours_of, labs_of, marks_of, joined, moved_to}

-- ---- the outcome
-- "Join two sheets": the joined entries
abbrev pub joined_of : Sheet → List Bool → Sheet → List Bool → List Entry
joined_of a locks b locks2 =
    joined (entries_of a.k a.palette a.lab locks) (entries_of b.k b.palette b.lab locks2)

-- a lent sheet with these entries and indices: past them palette, LAB and marks keep
unfoldable pub outcome : List Entry → List ℤ → Buffers → Buffers
outcome all indices x =
    buffers_of (over (colours_of all) x.palette) (over (labs_of all) x.lab) indices (over (marks_of all) x.locks)

-- the answer, and what both lent sheets hold then
pub record Left : Type 0 where
  pub answer : Told Joint
  pub first : Buffers
  pub second : Buffers

abbrev pub left_as : Told Joint → Buffers → Buffers → Left
left_as answer first second = record { answer = answer; first = first; second = second }

-- "27 .., over 255 entries, after 1 to 3 of both sheets and 1 for a lent one of another size": sheet by sheet
unfoldable pub join_checks : Sheet → List Bool → Sheet → List Bool → Lent → Lent → List Check
join_checks a locks b locks2 x y =
    sheet_checks (mark_checks locks) a
    ++ (sheet_checks (mark_checks locks2) b
    ++ (lent_checks a.w a.h x
    ++ (lent_checks b.w b.h y
    ++ (joined_too_long when ltb max_entries (length (joined_of a locks b locks2)) ∷ []))))

-- "First indices are unchanged; a second index goes to the first joined entry of its colour"
unfoldable pub join_of : Sheet → List Bool → Sheet → List Bool → Lent → Lent → Left
join_of a locks b locks2 x y =
    let all = joined_of a locks b locks2 in
    checked (join_checks a locks b locks2 x y)
    (λ n. left_as (alone n) x.holds y.holds)
    (left_as (result (joint (length all) fresh fresh)) (outcome all a.indices x.holds)
    (outcome all (map (moved_to all b.palette) b.indices) y.holds))
