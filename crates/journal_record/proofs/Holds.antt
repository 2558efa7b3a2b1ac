-- What a search's answer tells its caller: the edit and the changes that were read, and where in the bytes each of their numbers stands.
-- Assumes nothing.
use Prim.Native.Nat.{ℕ, ◌-◌, ◌≤◌}
use mathlib.Core.Path.{◌≡◌, refl, sym, ap, subst}
use mathlib.Core.Bool.{Bool, true, false, cond, ◌&&◌}
use mathlib.Core.List.{List, []}
use mathlib.Core.Option.{Option, none, some, some-injective}
use native.Mathlib.Omega.{arith}
use borrow.Author.Tests.{leb-true}
use lib.Dec.{leb, eqb}
use lib.ListN.{length, get_or}
use Rattle.base.proofs.Bools.{and_left}
use Rattle.base.specs.declared.Form.{Form}
use Rattle.base.specs.declared.Edit.{Edit}
use Rattle.base.specs.declared.Edit.TheVariants.{Pixels, PaletteSet, PaletteAdd, PaletteRemove, PaletteLock}
use Rattle.edit.specs.Change.{Change}
use Rattle.journal_record.specs.declared.Found.TheVariants.{Record}
use Rattle.journal_record.specs.Bytes.{le_at}
use Rattle.journal_record.specs.Record.{pixels_kind, remove_kind, record_length, rgb_in, lab_in, is_mark, mark_in, lock_in, changes_in, Reading, by_kind, contents, closed, agreed, read_forth}
use Rattle.journal_record.specs.Found.{kind_of, found_at, found_before}
use Rattle.journal_record.proofs.Finding.{length-in}

-- ---- a record that was found was read
pub record Tells (r : Reading) (kind n count : ℕ) : Type 0 where
  pub edit : Edit
  pub changes : List Change
  pub reading : r ≡ some (n, edit, changes)
  pub kind-is : kind_of edit ≡ kind
  pub count-is : length changes ≡ count

module _ (kind start n count : ℕ) where
  pub tells_at : (from : ℕ) (r : Reading) → found_at from r ≡ Record kind start n count → (start ≡ from) × Tells r kind n count
  unfolding found_at
  tells_at from none e = absurd (let z : ◌≡◌ {A = ℕ} 0 1 = cc in omega arith)
  tells_at from (some t) e =
      let long : t.0 ≡ n = cc in
      ((cc), record { edit = t.1; changes = t.2; reading = ap (λ (m : ℕ). some (m, t.1, t.2)) long; kind-is = (cc); count-is = (cc) })

  pub tells-before : (offset : ℕ) (r : Reading) → found_before offset r ≡ Record kind start n count → (start ≡ offset - n) × Tells r kind n count
  unfolding found_before
  tells-before offset none e = absurd (let z : ◌≡◌ {A = ℕ} 0 1 = cc in omega arith)
  tells-before offset (some t) e =
      let long : t.0 ≡ n = cc in
      let from : start ≡ offset - t.0 = cc in
      (rw long at from, record { edit = t.1; changes = t.2; reading = ap (λ (m : ℕ). some (m, t.1, t.2)) long; kind-is = (cc); count-is = (cc) })

-- ---- what was read stands in the bytes
abbrev Pair : Type 0
Pair = Edit × List Change

abbrev pair : Edit → List Change → Option Pair
pair e cs = some (e, cs)

unfoldable pub Holds : Form → ℕ → List ℕ → Edit → List Change → Type 0
Holds f w bytes (Pixels tool) cs = (tool ≡ get_or bytes 1 0) × (cs ≡ changes_in f w bytes 6 (length cs)) × (1 ≤ length cs)
Holds f w bytes (PaletteSet i old new lab) cs = (i ≡ get_or bytes 1 0) × (old ≡ rgb_in bytes 2) × (new ≡ rgb_in bytes 5) × (lab ≡ lab_in bytes 8) × (cs ≡ [])
Holds f w bytes (PaletteAdd c) cs = (c ≡ rgb_in bytes 1) × (cs ≡ [])
Holds f w bytes (PaletteRemove i c lab) cs = (i ≡ get_or bytes 1 0) × (c ≡ rgb_in bytes 2) × (lab ≡ lab_in bytes 5) × (cs ≡ changes_in f w bytes 33 (length cs))
Holds f w bytes (PaletteLock i old new) cs = (i ≡ get_or bytes 1 0) × (old ≡ mark_in bytes 2) × (new ≡ mark_in bytes 3) × (cs ≡ [])

module _ (f : Form) (w : ℕ) (bytes : List ℕ) (e : Edit) (cs : List Change) where
  same-pair : (e' : Edit) (cs' : List Change) → Holds f w bytes e' cs' → pair e' cs' ≡ pair e cs → Holds f w bytes e cs
  same-pair e' cs' h p = subst (λ (x : Pair). Holds f w bytes x.0 x.1) (some-injective (e', cs') (e, cs) p) h

  never-none : {X : Type 0} → none ≡ pair e cs → X
  never-none p = absurd (let z : ◌≡◌ {A = ℕ} 0 1 = cc in omega arith)

  holds-pixels : (b : Bool) → leb 1 (le_at 4 bytes 2) ≡ b → cond b (pair (Pixels (get_or bytes 1 0)) (changes_in f w bytes 6 (le_at 4 bytes 2))) none ≡ pair e cs → Holds f w bytes e cs
  unfolding Holds
  holds-pixels true q p =
      let n : ℕ = le_at 4 bytes 2 in
      same-pair (Pixels (get_or bytes 1 0)) (changes_in f w bytes 6 n)
      (refl, ap (changes_in f w bytes 6) (sym (length-in f w bytes 6 n)), rw (length-in f w bytes 6 n) (leb-true 1 n q)) p
  holds-pixels false q p = never-none p

  holds-lock : (b : Bool) → cond b (pair (lock_in bytes 1) []) none ≡ pair e cs → Holds f w bytes e cs
  unfolding Holds
  holds-lock true p = same-pair (lock_in bytes 1) [] (refl, refl, refl, refl) p
  holds-lock false p = never-none p

  holds_by : (t₁ t₂ t₃ t₄ t₅ : Bool)
      → cond t₁ (cond (leb 1 (le_at 4 bytes 2)) (pair (Pixels (get_or bytes 1 0)) (changes_in f w bytes 6 (le_at 4 bytes 2))) none)
      (cond t₂ (pair (PaletteSet (get_or bytes 1 0) (rgb_in bytes 2) (rgb_in bytes 5) (lab_in bytes 8)) [])
      (cond t₃ (pair (PaletteAdd (rgb_in bytes 1)) [])
      (cond t₄ (pair (PaletteRemove (get_or bytes 1 0) (rgb_in bytes 2) (lab_in bytes 5)) (changes_in f w bytes 33 (le_at 4 bytes 29)))
      (cond t₅ (cond (is_mark (get_or bytes 2 0) && is_mark (get_or bytes 3 0)) (pair (lock_in bytes 1) []) none)
      none))))
      ≡ pair e cs
      → Holds f w bytes e cs
  unfolding Holds
  holds_by true t₂ t₃ t₄ t₅ p = holds-pixels (leb 1 (le_at 4 bytes 2)) refl p
  holds_by false true t₃ t₄ t₅ p = same-pair _ _ (refl, refl, refl, refl, refl) p
  holds_by false false true t₄ t₅ p = same-pair _ _ (refl, refl) p
  holds_by false false false true t₅ p = same-pair _ _ (refl, refl, refl, ap (changes_in f w bytes 33) (sym (length-in f w bytes 33 (le_at 4 bytes 29)))) p
  holds_by false false false false true p = holds-lock (is_mark (get_or bytes 2 0) && is_mark (get_or bytes 3 0)) p
  holds_by false false false false false p = never-none p

  told-holds : contents f w bytes ≡ pair e cs → Holds f w bytes e cs
  unfolding contents by_kind
  told-holds p = let k : ℕ = get_or bytes 0 0 in holds_by (eqb k (pixels_kind f)) (eqb k 2) (eqb k 3) (eqb k (remove_kind f)) (eqb k 5) p

-- ---- the same of a reading: its length is the record's, and lies in the bytes
pub record Held (f : Form) (w : ℕ) (bytes : List ℕ) (n : ℕ) (e : Edit) (cs : List Change) : Type 0 where
  pub holds : Holds f w bytes e cs
  pub length-is : n ≡ record_length f e (length cs)
  pub within : n ≤ length bytes

abbrev triple : ℕ → Edit → List Change → Reading
triple n e cs = some (n, e, cs)

module _ (f : Form) (w : ℕ) (bytes : List ℕ) (n : ℕ) (e : Edit) (cs : List Change) where
  held-where : (e' : Edit) (cs' : List Change) (b : Bool) → closed bytes (record_length f e' (length cs')) ≡ b → Holds f w bytes e' cs'
      → cond b (triple (record_length f e' (length cs')) e' cs') none ≡ triple n e cs → Held f w bytes n e cs
  unfolding closed
  held-where e' cs' true q h p =
      let m : ℕ = record_length f e' (length cs') in
      let same = some-injective (m, e', cs') (n, e, cs) p in
      subst (λ (x : ℕ × Edit × List Change). Held f w bytes x.0 x.1 x.2) same
      (record { holds = h; length-is = refl; within = leb-true m (length bytes) (and_left (leb m (length bytes)) _ q) })
  held-where e' cs' false q h p = absurd (let z : ◌≡◌ {A = ℕ} 0 1 = cc in omega arith)

  held_by : (o : Option Pair) → contents f w bytes ≡ o → agreed f bytes o ≡ some (n, e, cs) → Held f w bytes n e cs
  unfolding agreed
  held_by none q p = absurd (let z : ◌≡◌ {A = ℕ} 0 1 = cc in omega arith)
  held_by (some t) q p = held-where t.0 t.1 (closed bytes (record_length f t.0 (length t.1))) refl (told-holds f w bytes t.0 t.1 q) p

  pub read-holds : read_forth f w bytes ≡ some (n, e, cs) → Held f w bytes n e cs
  unfolding read_forth
  read-holds p = held_by (contents f w bytes) refl p
