-- What a search finds, step by step, is what the definitions read. Assumes nothing.
use Prim.Native.Nat.{ℕ, zero, suc, ◌+◌, ◌-◌, ◌*◌, ◌≤◌, ◌<◌}
use mathlib.Core.Path.{◌≡◌, refl, sym, ap, ◌∙◌}
use mathlib.Core.Bool.{Bool, true, false, cond, ◌&&◌}
use mathlib.Core.List.{List, []}
use mathlib.Core.Option.{Option, none, some}
use native.Mathlib.Omega.{arith}
use borrow.Author.Tests.{ne_eqb, eqb-true, lt-leb, le-leb}
use lib.Dec.{leb, eqb}
use lib.ListN.{length, get_or, take, drop, length-drop}
use lib.Seq.{length-take-le}
use Rattle.base.specs.declared.Form.{Form}
use Rattle.base.specs.declared.Edit.{Edit}
use Rattle.base.specs.declared.Edit.TheVariants.{Pixels, PaletteSet, PaletteAdd, PaletteRemove, PaletteLock}
use Rattle.edit.specs.Change.{Change}
use Rattle.journal_record.specs.declared.Found.TheVariants.{Record, Unsound}
use Rattle.journal_record.specs.Bytes.{le_at}
use Rattle.journal_record.specs.Record.{stride, pixels_kind, remove_kind, record_length, rgb_in, lab_in, is_mark, lock_in, changes_in, Reading, by_kind, contents, closed, agreed, read_forth, of_length, read_back}
use Rattle.journal_record.specs.Found.{kind_of, found_at, found_before, closed_at, counted_at, locked_at, whole_only}
use Rattle.journal_record.proofs.LittleEndian.{le_at-take, drop-take}
use Rattle.journal_record.proofs.ByKind.{kind-pixels, kind-set, kind-add, kind-remove, kind-lock}

pub length-in : (f : Form) (w : ℕ) (bytes : List ℕ) (at n : ℕ) → length (changes_in f w bytes at n) ≡ n
unfolding changes_in
length-in f w bytes at zero = refl
length-in f w bytes at (suc n) = ap suc (length-in f w bytes (at + stride f) n)

-- no record is shorter than 8 bytes
pub size-least : (f : Form) (e : Edit) (n : ℕ) → 8 ≤ record_length f e n
unfolding record_length
size-least f (Pixels tool) n = omega arith
size-least f (PaletteSet i old new lab) n = omega arith
size-least f (PaletteAdd c) n = omega arith
size-least f (PaletteRemove i c lab) n = omega arith
size-least f (PaletteLock i old new) n = omega arith

same-both : {A : Type 0} (b : Bool) (x : A) → cond b x x ≡ x
same-both true x = refl
same-both false x = refl

-- ---- the record that starts the bytes
module _ (bytes : List ℕ) where
  -- a record that these bytes do not hold
  too_long : (n : ℕ) → length bytes < n → closed bytes n ≡ false
  unfolding closed
  too_long n h = rw (lt-leb n (length bytes) h)

  pub closed-short : (start kind n count : ℕ) → length bytes < n → Unsound ≡ closed_at bytes start kind n count
  unfolding closed_at
  closed-short start kind n count h = rw (too_long n h)

  pub counted-short : (f : Form) (start kind fixed least : ℕ) → length bytes < fixed → Unsound ≡ counted_at f bytes start kind fixed least
  unfolding counted_at closed_at
  counted-short f start kind fixed least h =
      let count : ℕ = le_at 4 bytes (fixed - 8) in
      rw (too_long (fixed + stride f * count) (omega arith)) (sym (same-both (leb least count) Unsound))

module _ (f : Form) (w : ℕ) (bytes : List ℕ) where
  module _ (start : ℕ) where
    -- what kind and count say, found
    found-by : (b : Bool) (n : ℕ) (e : Edit) (cs : List Change) → found_at start (cond b (some (n, e, cs)) none) ≡ cond b (Record (kind_of e) start n (length cs)) Unsound
    unfolding found_at
    found-by true n e cs = refl
    found-by false n e cs = refl

    found-told : (e : Edit) (cs : List Change) → found_at start (agreed f bytes (some (e, cs))) ≡ closed_at bytes start (kind_of e) (record_length f e (length cs)) (length cs)
    unfolding agreed closed_at
    found-told e cs = found-by (closed bytes (record_length f e (length cs))) (record_length f e (length cs)) e cs

    found-where : (b : Bool) (e : Edit) (cs : List Change) → found_at start (agreed f bytes (cond b (some (e, cs)) none)) ≡ cond b (found_at start (agreed f bytes (some (e, cs)))) Unsound
    unfolding agreed found_at
    found-where true e cs = refl
    found-where false e cs = refl

    pub found-pixels : get_or bytes 0 0 ≡ pixels_kind f → counted_at f bytes start 1 10 1 ≡ found_at start (read_forth f w bytes)
    unfolding read_forth contents counted_at kind_of record_length
    found-pixels e =
        let n : ℕ = le_at 4 bytes 2 in
        let held : found_at start (agreed f bytes (some (Pixels (get_or bytes 1 0), changes_in f w bytes 6 n))) ≡ closed_at bytes start 1 (10 + stride f * n) n =
        found-told (Pixels (get_or bytes 1 0)) (changes_in f w bytes 6 n) ∙ rw (length-in f w bytes 6 n) in
        rw (e, kind-pixels, found-where (leb 1 n) (Pixels (get_or bytes 1 0)) (changes_in f w bytes 6 n), held)

    pub found-set : get_or bytes 0 0 ≡ 2 → closed_at bytes start 2 36 0 ≡ found_at start (read_forth f w bytes)
    unfolding read_forth contents kind_of record_length
    found-set e = rw (e, kind-set) (sym (found-told _ []))

    pub found_add : get_or bytes 0 0 ≡ 3 → closed_at bytes start 3 8 0 ≡ found_at start (read_forth f w bytes)
    unfolding read_forth contents kind_of record_length
    found_add e = rw (e, kind-add) (sym (found-told _ []))

    pub found-remove : get_or bytes 0 0 ≡ remove_kind f → counted_at f bytes start 4 37 0 ≡ found_at start (read_forth f w bytes)
    unfolding read_forth contents counted_at kind_of record_length
    found-remove e =
        let n : ℕ = le_at 4 bytes 29 in
        let held : Edit = PaletteRemove (get_or bytes 1 0) (rgb_in bytes 2) (lab_in bytes 5) in
        rw (e, kind-remove, le-leb 0 n (omega arith)) (rw (length-in f w bytes 33 n) at (sym (found-told held (changes_in f w bytes 33 n))))

    pub found-lock : get_or bytes 0 0 ≡ 5 → locked_at bytes start ≡ found_at start (read_forth f w bytes)
    unfolding read_forth contents locked_at kind_of record_length
    found-lock e = rw (e, kind-lock, found-where (is_mark (get_or bytes 2 0) && is_mark (get_or bytes 3 0)) (lock_in bytes 1) [], found-told (lock_in bytes 1) [])

    pub found-other : (get_or bytes 0 0 ≡ pixels_kind f → ⊥) → (get_or bytes 0 0 ≡ 2 → ⊥) → (get_or bytes 0 0 ≡ 3 → ⊥) → (get_or bytes 0 0 ≡ remove_kind f → ⊥) → (get_or bytes 0 0 ≡ 5 → ⊥)
        → Unsound ≡ found_at start (read_forth f w bytes)
    unfolding read_forth contents by_kind agreed found_at
    found-other a b c d e = let k : ℕ = get_or bytes 0 0 in rw (ne_eqb k (pixels_kind f) a, ne_eqb k 2 b, ne_eqb k 3 c, ne_eqb k (remove_kind f) d, ne_eqb k 5 e)

  none-agreed : length bytes < 8 → (held : Option (Edit × List Change)) → agreed f bytes held ≡ none
  unfolding agreed
  none-agreed h none = refl
  none-agreed h (some held) = rw (too_long bytes (record_length f held.0 (length held.1)) (omega (arith, size-least f held.0 (length held.1))))

  pub none-forth : length bytes < 8 → read_forth f w bytes ≡ none
  unfolding read_forth
  none-forth h = none-agreed h (contents f w bytes)

  pub found_none : (start : ℕ) → length bytes < 8 → Unsound ≡ found_at start (read_forth f w bytes)
  unfolding found_at
  found_none start h = rw (none-forth h)

-- ---- the record that ends the bytes before an offset
module _ (f : Form) (w : ℕ) (journal : List ℕ) (offset : ℕ) (inside : offset ≤ length journal) where
  abbrev before : List ℕ
  before = take offset journal

  long : length before ≡ offset
  long = length-take-le offset journal inside

  pub back_none : offset < 8 → Unsound ≡ found_before offset (read_back f w before)
  unfolding read_back of_length found_before
  back_none h =
      let n : ℕ = le_at 4 before (length before - 4) in
      let short : length (drop (length before - n) before) < 8 = rw (length-drop, long) (omega arith) in
      rw (none-forth f w (drop (length before - n) before) short, same-both {A = Reading} (leb n (length before)) none)

  module _ (room : 8 ≤ offset) (n : ℕ) (last : n ≡ le_at 4 journal (offset - 4)) where
    last-is : le_at 4 before (length before - 4) ≡ n
    last-is = rw (long, le_at-take 4 journal offset (offset - 4) (omega arith)) (sym last)

    pub back-short : offset < n → Unsound ≡ found_before offset (read_back f w before)
    unfolding read_back found_before
    back-short h = rw (last-is, long, lt-leb n offset h)

    -- a record of n bytes ends at the offset where it starts n bytes before
    whole_is : (r : Reading) → whole_only n (found_at (offset - n) r) ≡ found_before offset (of_length n r)
    unfolding whole_only found_at found_before of_length
    whole_is none = refl
    whole_is (some r) = by (eqb r.0 n) refl
      where
        by : (b : Bool) → eqb r.0 n ≡ b → cond b (Record (kind_of r.1) (offset - n) r.0 (length r.2)) Unsound ≡ found_before offset (cond b (some r) none)
        by true e = rw (eqb-true r.0 n e)
        by false e = refl

    pub back_is : n ≤ offset → whole_only n (found_at (offset - n) (read_forth f w (take (offset - (offset - n)) (drop (offset - n) journal)))) ≡ found_before offset (read_back f w before)
    unfolding read_back
    back_is h = rw (last-is, long, le-leb n offset h, drop-take (offset - n) offset journal) (whole_is (read_forth f w _))
