-- When redo takes a record: 21, then the edit's checks before its list, of the list, and after it. Assumes nothing.
use mathlib.Core.Path.{◌≡◌, sym, ap₂, ◌∙◌}
use mathlib.Core.Bool.{Bool, false}
use mathlib.Core.List.{List, flat_map}
use Prim.Native.Nat.{ℕ, ◌+◌, ◌<◌, ◌≤◌}
use borrow.Author.Tests.{le-leb, lt-leb, ne_eqb}
use lib.Dec.{eqb}
use lib.ListN.{length}
use Rattle.base.specs.Limits.{max_changes}
use Rattle.base.specs.Checks.{first_of}
use Rattle.sheet.specs.Sheet.{Sheet}
use Rattle.base.specs.declared.Form.{Form}
use Rattle.base.specs.declared.Edit.{Edit}
use Rattle.edit.specs.declared.ListKind.{ListKind}
use Rattle.edit.specs.Change.{Change}
use Rattle.edit.specs.List.{list_of}
use Rattle.edit.specs.Checks.{head_checks, change_checks, left_checks, own_checks}
use Rattle.edit_pixels.specs.Inside.{bare}
use Rattle.edit_list.proofs.Deciding.{first-kept, head-decides, list-decides, bare-changes, bare-left}
use Rattle.journal_record.specs.Record.{changes_in}
use Rattle.journal_read.specs.Lies.{edit_at, changes_at, list_offset, Lies}
use Rattle.journal_read.specs.Sound.{any_colour, redoable}
use Rattle.journal_read.proofs.Rooms.{length_at, read-list, read-changes}

module _ {f : Form} {journal : List ℕ} {kind start count : ℕ} (l : Lies f journal kind start count) (s : Sheet) (locks : List Bool) where
  abbrev e : Edit
  e = edit_at journal kind start

  abbrev cs : List Change
  cs = changes_at f s.w journal kind start count

  counts : length cs ≡ count
  counts = length_at f journal start count s.w kind l

  pub too_many : max_changes < count → false ≡ redoable s locks e cs
  unfolding redoable
  too_many h = rw (counts, lt-leb count max_changes h)

  module _ (few : count ≤ max_changes) where
    taken : {n : ℕ} → n ≡ first_of (own_checks false s locks any_colour e cs) → eqb n 0 ≡ redoable s locks e cs
    unfolding redoable
    taken q = rw (counts, le-leb count max_changes few, q)

    not_taken : {n : ℕ} → n ≡ first_of (own_checks false s locks any_colour e cs) → (n ≡ 0 → ⊥) → false ≡ redoable s locks e cs
    not_taken {n} q h = sym (ne_eqb n 0 h) ∙ taken q

    module _ {edit : Edit} (edit-is : edit ≡ e) {head : ℕ} (head-is : head ≡ first_of (head_checks false s locks any_colour edit)) where
      pub head-refused : (head ≡ 0 → ⊥) → false ≡ redoable s locks e cs
      head-refused h = not_taken (head-decides false s locks any_colour e cs head (rw edit-is at head-is) h) h

      module _ (passes : head ≡ 0) {list : ListKind} (list-is : list ≡ list_of edit) {offset : ℕ} (offset-is : offset ≡ list_offset list) {no : ℕ}
          (no-is : no ≡ first_of (flat_map (change_checks false (bare s.w s.h s.k s.indices) list) (changes_in f s.w journal (start + offset) count))) where
        each : no ≡ first_of (flat_map (change_checks false s (list_of e)) cs)
        each =
            no-is
            ∙ bare-changes false s list (changes_in f s.w journal (start + offset) count)
            ∙ ap₂ (λ (x : ListKind) (y : List Change). first_of (flat_map (change_checks false s x) y)) (read-list l edit-is list-is offset-is) (read-changes l edit-is list-is offset-is s.w)

        none_before : first_of (head_checks false s locks any_colour e) ≡ 0
        none_before = sym (rw edit-is at head-is) ∙ passes

        pub list-refused : (no ≡ 0 → ⊥) → false ≡ redoable s locks e cs
        list-refused h = not_taken (sym (list-decides false s locks any_colour e cs none_before ∙ rw (← each) (first-kept no _ h))) h

        pub left-decides : no ≡ 0 → {left : ℕ} → left ≡ first_of (left_checks (bare s.w s.h 0 s.indices) list (changes_in f s.w journal (start + offset) count)) → eqb left 0 ≡ redoable s locks e cs
        left-decides z q =
            taken
            (q
            ∙ bare-left s list (changes_in f s.w journal (start + offset) count)
            ∙ ap₂ (λ (x : ListKind) (y : List Change). first_of (left_checks s x y)) (read-list l edit-is list-is offset-is) (read-changes l edit-is list-is offset-is s.w)
            ∙ sym (list-decides false s locks any_colour e cs none_before ∙ rw (sym each ∙ z)))
