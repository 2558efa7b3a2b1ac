-- An edit of storage by the number of its entry: what the entries in use are after it, and that its undo gives them back. One set of laws for
-- palette bytes and LAB doubles. Assumes nothing.
use mathlib.Core.Path.{◌≡◌, ◌∙◌}
use mathlib.Core.List.{List, ◌++◌}
use Prim.Native.Nat.{ℕ, suc, ◌+◌, ◌-◌, ◌*◌, ◌≤◌, ◌<◌}
use native.Mathlib.Omega.{arith}
use lib.Ieee.{Float, nan}
use lib.ListN.{length, take, drop}
use lib.Seq.{get_or-take}
use Rattle.base.specs.Limits.{max_entries, storage}
use Rattle.base.specs.Triples.{lab_at, rgb_at}
use Rattle.sheet.specs.Sheet.{Sheet}
use Rattle.sheet.specs.Checks.{WellFormed}
use Rattle.sheet.proofs.Entries.{three}
use Rattle.edit.specs.Storage.{bytes_of, numbers_of, stored, closed, reinserted, cut}
use Rattle.edit.proofs.Storage.{entry_at, stored-length, closed-length, opened-length, stored-shows, stored_more, closed-shows, set-undone, add-undone, remove-undone}
use Rattle.edit.proofs.Storage.{stored_past, closed-past, opened-past}

-- storage l with k entries in use
pub record Store {A : Type 0} (l : List A) (k : ℕ) : Type 0 where
  pub long : length l ≡ storage
  pub few : k ≤ max_entries

pub palette-store : {s : Sheet} → WellFormed s → Store s.palette s.k
palette-store f = record { long = f.limits.palette-length; few = f.limits.k-small }

pub lab-store : {s : Sheet} → WellFormed s → Store s.lab s.k
lab-store f = record { long = f.limits.lab-length; few = f.limits.k-small }

module _ {A : Type 0} where
  -- ---- an edit
  module _ {l : List A} {k : ℕ} (s : Store l k) where
    pub set-length : (i : ℕ) (v : List A) → length v ≡ 3 → i < k → length (stored (3 * i) v l) ≡ storage
    set-length i v e b = stored-length 3 (3 * i) v l e (omega arith) ∙ s.long

    pub set-shows : (i : ℕ) (v : List A) → length v ≡ 3 → i < k → take (3 * k) (stored (3 * i) v l) ≡ stored (3 * i) v (take (3 * k) l)
    set-shows i v e b = stored-shows 3 (3 * i) (3 * k) v l e (omega arith) (omega arith)

    pub add-length : (v : List A) → length v ≡ 3 → k < max_entries → length (stored (3 * k) v l) ≡ storage
    add-length v e b = stored-length 3 (3 * k) v l e (omega arith) ∙ s.long

    pub add-shows : (v : List A) → length v ≡ 3 → k < max_entries → take (3 * suc k) (stored (3 * k) v l) ≡ take (3 * k) l ++ v
    add-shows v e b =
        let next : 3 * suc k ≡ 3 * k + 3 = omega arith in
        rw next (stored_more 3 (3 * k) v l e (omega arith))

    pub remove-length : (i : ℕ) → i < k → length (closed (3 * i) (3 * k) l) ≡ storage
    remove-length i b = closed-length 3 (3 * i) (3 * k) l (omega arith) (omega arith) ∙ s.long

    pub remove-shows : (i : ℕ) → i < k → take (3 * (k - 1)) (closed (3 * i) (3 * k) l) ≡ cut (3 * i) (take (3 * k) l)
    remove-shows i b =
        let fewer : 3 * (k - 1) ≡ 3 * k - 3 = omega arith in
        rw fewer (closed-shows 3 (3 * i) (3 * k) l (omega arith) (omega arith))

    pub reinsert-length : (i : ℕ) (v : List A) → length v ≡ 3 → i ≤ k → k < max_entries → length (reinserted (3 * i) (3 * k) v l) ≡ storage
    reinsert-length i v e b c = opened-length 3 (3 * i) (3 * k) v l e (omega arith) (omega arith) ∙ s.long

    -- past the entries in use after the edit, or after its undo
    pub set_past : (i : ℕ) (v : List A) → length v ≡ 3 → i < k → drop (3 * k) (stored (3 * i) v l) ≡ drop (3 * k) l
    set_past i v e b = stored_past 3 (3 * i) (3 * k) v l e (omega arith) (omega arith)

    pub add-past : (v : List A) → length v ≡ 3 → k < max_entries → drop (3 * suc k) (stored (3 * k) v l) ≡ drop (3 * suc k) l
    add-past v e b = stored_past 3 (3 * k) (3 * suc k) v l e (omega arith) (omega arith)

    pub remove-past : (i : ℕ) → i < k → drop (3 * (k - 1)) (closed (3 * i) (3 * k) l) ≡ drop (3 * (k - 1)) l
    remove-past i b =
        let fewer : 3 * (k - 1) ≡ 3 * k - 3 = omega arith in
        rw fewer (closed-past 3 (3 * i) (3 * k) l (omega arith) (omega arith))

    pub reinsert-past : (i : ℕ) (v : List A) → length v ≡ 3 → i ≤ k → k < max_entries
        → drop (3 * suc k) (reinserted (3 * i) (3 * k) v l) ≡ drop (3 * suc k) l
    reinsert-past i v e b c =
        let next : 3 * suc k ≡ 3 * k + 3 = omega arith in
        rw next (opened-past 3 (3 * i) (3 * k) v l e (omega arith) (omega arith))

  -- ---- an edit undone: `now`, with m entries in use, shows what the edit made of the k of `before`
  module _ {now before : List A} {m k : ℕ} (t : Store now m) (s : Store before k) where
    pub set_back : (i : ℕ) (v : List A) {old : List A} → length v ≡ 3 → i < k → entry_at (3 * i) before ≡ old → m ≡ k
        → take (3 * m) now ≡ stored (3 * i) v (take (3 * k) before) → take (3 * m) (stored (3 * i) old now) ≡ take (3 * k) before
    set_back i v e b o q h = rw (← o, q) (set-undone 3 now before (3 * i) (3 * k) (omega arith) (omega arith) v e (omega arith) (rw q at h))

    pub add_back : (v : List A) → m ≡ suc k → take (3 * m) now ≡ take (3 * k) before ++ v → take (3 * (m - 1)) now ≡ take (3 * k) before
    add_back v q h =
        let last : 3 * (m - 1) ≡ 3 * k = omega arith in
        let next : 3 * m ≡ 3 * k + 3 = omega arith in
        rw last (add-undone 3 now before v (3 * k) (omega arith) (rw next at h))

    pub remove-back : (i : ℕ) {old : List A} → i < k → entry_at (3 * i) before ≡ old → m ≡ k - 1
        → take (3 * m) now ≡ cut (3 * i) (take (3 * k) before) → take (3 * suc m) (reinserted (3 * i) (3 * m) old now) ≡ take (3 * k) before
    remove-back i b o q h =
        let next : 3 * suc m ≡ 3 * m + 3 = omega arith in
        rw (← o, next) (remove-undone 3 now before (3 * i) (3 * k) (omega arith) (omega arith) (3 * m) (omega arith) (omega arith) h)

-- ---- an entry's numbers, one by one
pub colour-entry : {l : List ℕ} {k : ℕ} → Store l k → (i : ℕ) → i < k → entry_at (3 * i) l ≡ bytes_of (rgb_at l i)
unfolding rgb_at
colour-entry {l} s i b = three l (3 * i) 0 (omega arith)

pub lab-entry : {l : List Float} {k : ℕ} → Store l k → (i : ℕ) → i < k → entry_at (3 * i) l ≡ numbers_of (lab_at l i)
unfolding lab_at
lab-entry {l} s i b = three l (3 * i) nan (omega arith)

-- the colour of an entry in use is the picture's
pub colour-shown : (l : List ℕ) (k i : ℕ) → i < k → rgb_at (take (3 * k) l) i ≡ rgb_at l i
unfolding rgb_at
colour-shown l k i b =
    rw (get_or-take (3 * k) l (3 * i) 0 (omega arith), get_or-take (3 * k) l (3 * i + 1) 0 (omega arith), get_or-take (3 * k) l (3 * i + 2) 0 (omega arith))
