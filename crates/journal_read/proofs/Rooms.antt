-- Where a record's parts lie, by its kind. Assumes nothing.
use mathlib.Core.Path.{◌≡◌, refl, ap, ◌∙◌}
use mathlib.Core.List.{List, []}
use Prim.Native.Nat.{ℕ, zero, suc, ◌+◌, ◌*◌, ◌≤◌}
use native.Mathlib.Omega.{arith}
use lib.ListN.{length, get_or}
use Rattle.base.specs.declared.Form.{Form}
use Rattle.base.specs.declared.Form.TheVariants.{Coordinates}
use Rattle.base.specs.declared.Edit.{Edit}
use Rattle.base.specs.declared.Edit.TheVariants.{Pixels, PaletteSet, PaletteAdd, PaletteRemove, PaletteLock}
use Rattle.edit.specs.declared.ListKind.{ListKind}
use Rattle.edit.specs.List.{list_of}
use Rattle.edit_checks.specs.Marks.{Markable}
use Rattle.journal_record.specs.Record.{stride, by_kind, record_length, changes_in}
use Rattle.journal_record.proofs.Finding.{length-in}
use Rattle.journal_read.specs.Lies.{edit_at, changes_at, count_at, list_offset, Lies}

module _ {f : Form} {journal : List ℕ} {kind start count : ℕ} (l : Lies f journal kind start count) where
  pub pixels-room : kind ≡ 1 → start + (10 + stride f * count) ≤ length journal
  unfolding edit_at by_kind record_length
  pixels-room e = rw e at l.inside

  pub set_room : kind ≡ 2 → start + 36 ≤ length journal
  unfolding edit_at by_kind record_length
  set_room e = rw e at l.inside

  pub remove-room : kind ≡ 4 → start + (37 + stride f * count) ≤ length journal
  unfolding edit_at by_kind record_length
  remove-room e = rw e at l.inside

  pub lock-room : kind ≡ 5 → start + 8 ≤ length journal
  unfolding edit_at by_kind record_length
  lock-room e = rw e at l.inside

  pub last-kind : (kind ≡ 1 → ⊥) → (kind ≡ 2 → ⊥) → (kind ≡ 3 → ⊥) → (kind ≡ 5 → ⊥) → kind ≡ 4
  last-kind a b c d = omega (arith, l.least, l.most)

-- ---- where a record lies, it lies without its changes, which is the same in either form
shorter : (f : Form) (e : Edit) (n : ℕ) → record_length Coordinates e 0 ≤ record_length f e n
unfolding record_length
shorter f (Pixels tool) n = omega arith
shorter f (PaletteSet i old new lab) n = omega arith
shorter f (PaletteAdd c) n = omega arith
shorter f (PaletteRemove i c lab) n = omega arith
shorter f (PaletteLock i old new) n = omega arith

no-changes : (kind : ℕ) → kind ≤ 5 → count_at kind 0 ≡ 0
unfolding count_at by_kind
no-changes zero h = refl
no-changes (suc zero) h = refl
no-changes (suc (suc zero)) h = refl
no-changes (suc (suc (suc zero))) h = refl
no-changes (suc (suc (suc (suc zero)))) h = refl
no-changes (suc (suc (suc (suc (suc zero))))) h = refl
no-changes (suc (suc (suc (suc (suc (suc kind)))))) h = absurd (omega arith)

module _ (f : Form) (journal : List ℕ) (start : ℕ) where
  pub lies-bare : {kind count : ℕ} → Lies f journal kind start count → Lies Coordinates journal kind start 0
  lies-bare {kind} {count} l =
      record { least = l.least; most = l.most; counts = no-changes kind l.most; inside = omega (arith, l.inside, shorter f (edit_at journal kind start) count) }

  -- ---- where its changes stand
  module _ (count : ℕ) where
    abbrev at : ℕ → ℕ
    at kind = start + list_offset (list_of (edit_at journal kind start))

    -- none are there
    no_room : (m n : ℕ) → 0 ≡ count → start + m ≤ n → start + 0 + stride f * count ≤ n
    no_room m n e h = rw (← e) (omega arith)

    pub list-room : (kind : ℕ) → Lies f journal kind start count → at kind + stride f * count ≤ length journal
    unfolding count_at edit_at by_kind record_length
    list-room zero l = absurd (omega (arith, l.least))
    list-room (suc zero) l = omega (arith, l.inside)
    list-room (suc (suc zero)) l = no_room 36 (length journal) l.counts l.inside
    list-room (suc (suc (suc zero))) l = no_room 8 (length journal) l.counts l.inside
    list-room (suc (suc (suc (suc zero)))) l = omega (arith, l.inside)
    list-room (suc (suc (suc (suc (suc zero))))) l = no_room 8 (length journal) l.counts l.inside
    list-room (suc (suc (suc (suc (suc (suc kind)))))) l = absurd (omega (arith, l.most))

    none-there : (w at : ℕ) → 0 ≡ count → [] ≡ changes_in f w journal at count
    unfolding changes_in
    none-there w at e = rw (← e)

    pub list-there : (w kind : ℕ) → Lies f journal kind start count → changes_at f w journal kind start count ≡ changes_in f w journal (at kind) count
    unfolding changes_at count_at edit_at by_kind
    list-there w zero l = absurd (omega (arith, l.least))
    list-there w (suc zero) l = refl
    list-there w (suc (suc zero)) l = none-there w (start + 0) l.counts
    list-there w (suc (suc (suc zero))) l = none-there w (start + 0) l.counts
    list-there w (suc (suc (suc (suc zero)))) l = refl
    list-there w (suc (suc (suc (suc (suc zero))))) l = none-there w (start + 0) l.counts
    list-there w (suc (suc (suc (suc (suc (suc kind)))))) l = absurd (omega (arith, l.most))

    pub length_at : (w kind : ℕ) → Lies f journal kind start count → length (changes_at f w journal kind start count) ≡ count
    length_at w kind l = ap length (list-there w kind l) ∙ length-in f w journal (at kind) count

    -- its entry is a byte
    pub list-markable : (kind : ℕ) → Lies f journal kind start count → get_or journal (start + 1) 0 ≤ 255 → (n m : ℕ) → n ≤ m → Markable (list_of (edit_at journal kind start)) n m
    unfolding edit_at by_kind Markable
    list-markable zero l b n m h = absurd (omega (arith, l.least))
    list-markable (suc zero) l b n m h = tt
    list-markable (suc (suc zero)) l b n m h = tt
    list-markable (suc (suc (suc zero))) l b n m h = tt
    list-markable (suc (suc (suc (suc zero)))) l b n m h = (b, h)
    list-markable (suc (suc (suc (suc (suc zero))))) l b n m h = tt
    list-markable (suc (suc (suc (suc (suc (suc kind)))))) l b n m h = absurd (omega (arith, l.most))

-- ---- as it is read: the edit, then its list, then where the list stands
module _ {f : Form} {journal : List ℕ} {kind start count : ℕ} (l : Lies f journal kind start count) {e : Edit} (edit-is : e ≡ edit_at journal kind start)
    {list : ListKind} (list-is : list ≡ list_of e) {offset : ℕ} (offset-is : offset ≡ list_offset list) where
  pub read-list : list ≡ list_of (edit_at journal kind start)
  read-list = list-is ∙ ap list_of edit-is

  stands : start + offset ≡ start + list_offset (list_of (edit_at journal kind start))
  stands = ap (λ (o : ℕ). start + o) (offset-is ∙ ap list_offset read-list)

  pub read-room : start + offset + stride f * count ≤ length journal
  read-room = rw stands (list-room f journal start count kind l)

  pub read-changes : (w : ℕ) → changes_in f w journal (start + offset) count ≡ changes_at f w journal kind start count
  read-changes w = rw (stands, list-there f journal start count w kind l)
