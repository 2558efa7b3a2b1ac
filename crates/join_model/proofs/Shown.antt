-- What an index shows through a palette that begins with entries. Assumes nothing.
use mathlib.Core.Path.{◌≡◌, refl, sym, ap, ◌∙◌}
use mathlib.Core.Bool.{Bool, false}
use mathlib.Core.List.{List, [], ◌∷◌, ◌++◌, map, flat_map}
use Prim.Native.Nat.{ℕ, zero, suc, ◌+◌, ◌*◌, ◌<◌, ◌≤◌}
use native.Mathlib.Omega.{arith}
use native.Mathlib.Nat.{le_of_suc-le-suc, not-suc-le-zero}
use borrow.Author.Tests.{leb-false, lt-leb}
use lib.IntN.{ℤ, pos, negsuc}
use lib.Ieee.{Float}
use lib.ListN.{length, take, drop, get_or, length-take}
use lib.Seq.{drop-drop, get_or-take}
use Rattle.base.specs.Lists.{some, over, range}
use Rattle.base.specs.Triples.{rgb_at}
use Rattle.base.proofs.Nowhere.{first-not, rest-not, some-map, nowhere-weaker}
use Rattle.sheet.specs.Sheet.{stray}
use Rattle.sheet.proofs.Entries.{entry}
use Rattle.sheet_diff.specs.Mask.{shown}
use Rattle.edit.specs.Storage.{bytes_of}
use Rattle.join_model.specs.Joined.{Entry, entry_at, entries_of, colours_of, joined, place_of, moved_to, Joins}
use Rattle.join_model.proofs.Joined.{joins}
use Rattle.join_model.proofs.Bytes.{entries-length}

-- ---- an entry of the front
bytes-at : (es : List Entry) (rest : List ℕ) (j : ℕ) (d : Entry) → j < length es
    → take 3 (drop (3 * j) (colours_of es ++ rest)) ≡ bytes_of (get_or es j d).rgb
unfolding colours_of flat_map
bytes-at [] rest j d h = absurd (not-suc-le-zero h)
bytes-at (e ∷ es) rest zero d h = refl
bytes-at (e ∷ es) rest (suc j) d h =
    let q : 3 * suc j ≡ 3 + 3 * j = omega arith in
    ap (λ (n : ℕ). take 3 (drop n (colours_of (e ∷ es) ++ rest))) q ∙ sym (ap (take 3) (drop-drop (3 * j) 3 (colours_of (e ∷ es) ++ rest))) ∙ bytes-at es rest j d (le_of_suc-le-suc h)

pub shown-entry : (es : List Entry) (out : List ℕ) (j : ℕ) (d : Entry) → j < length es
    → shown (over (colours_of es) out) (pos j) ≡ bytes_of (get_or es j d).rgb
unfolding shown over
shown-entry es out j d h = bytes-at es (drop (length (colours_of es)) out) j d h

-- ---- an entry of a sheet's own
get_d-map-range : {A : Type 0} (g : ℕ → A) (start count n : ℕ) (d : A) → n < count
    → get_or (map g (range start count)) n d ≡ g (start + n)
unfolding range
get_d-map-range g start zero n d h = absurd (not-suc-le-zero h)
get_d-map-range g start (suc count) zero d h = ap g (omega arith)
get_d-map-range g start (suc count) (suc n) d h =
    get_d-map-range g (suc start) count n d (le_of_suc-le-suc h)
    ∙ ap g (omega arith)

pub entry_of : (k : ℕ) (p : List ℕ) (l : List Float) (m : List Bool) (n : ℕ) (d : Entry) → n < k
    → get_or (entries_of k p l m) n d ≡ entry_at p l m n
unfolding entries_of
entry_of k p l m n d h = get_d-map-range (entry_at p l m) 0 k n d h ∙ ap (entry_at p l m) (omega arith)

-- ---- the same list, where no element is of a kind
pub map-but : {A B : Type 0} (t : A → Bool) (f g : A → B) → ((x : A) → t x ≡ false → f x ≡ g x) → (l : List A)
    → some t l ≡ false → map f l ≡ map g l
map-but t f g h [] e = refl
map-but t f g h (x ∷ l) e = rw (h x (first-not t x l e), map-but t f g h l (rest-not t x l e))

pub none-moved : {A B : Type 0} (t : A → Bool) (u : B → Bool) (f : A → B) → ((x : A) → t x ≡ false → u (f x) ≡ false)
    → (l : List A) → some t l ≡ false → some u (map f l) ≡ false
none-moved t u f h l e = some-map f u l ∙ nowhere-weaker t (λ x. u (f x)) h l e

-- ---- "Every pixel shows the colour it had": through the joined palette, over whatever stood in the lent storage
module _ (k : ℕ) (p : List ℕ) (l : List Float) (m : List Bool) (k2 : ℕ) (p2 : List ℕ) (l2 : List Float) (m2 : List Bool)
    (long : 3 * k ≤ length p) (long2 : 3 * k2 ≤ length p2) (out : List ℕ) where
  abbrev all : List Entry
  all = joined (entries_of k p l m) (entries_of k2 p2 l2 m2)

  abbrev both : Joins (entries_of k p l m) (entries_of k2 p2 l2 m2)
  both = joins (entries_of k p l m) (entries_of k2 p2 l2 m2)

  none : Entry
  none = entry_at [] [] [] 0

  -- an entry of the first
  pub longer : k ≤ length all
  longer = omega (arith, ap length both.begins, length-take (length (entries_of k p l m)) all, entries-length k p l m)

  first_entry : (n : ℕ) → n < k → (get_or all n none).rgb ≡ rgb_at p n
  first_entry n h =
      let E : List Entry = entries_of k p l m in
      let b : n < length E = omega (arith, entries-length k p l m) in
      ap (λ (e : Entry). e.rgb) (sym (get_or-take (length E) all n none b) ∙ ap (λ (t : List Entry). get_or t n none) both.begins ∙ entry_of k p l m n none h)

  pub first-shown : (z : ℤ) → stray k z ≡ false → shown (over (colours_of all) out) z ≡ shown p z
  unfolding stray shown
  first-shown (pos n) e =
      let h : n < k = leb-false k n e in
      shown-entry all out n none (omega (arith, longer)) ∙ ap bytes_of (first_entry n h) ∙ sym (entry p n (omega arith))
  first-shown (negsuc n) e = refl

  -- and of the second
  pub second-place : (n : ℕ) → n < k2 → place_of all (rgb_at p2 n) < length all
  second-place n h =
      rw (entry_of k2 p2 l2 m2 n none h) at (both.shows n none (omega (arith, entries-length k2 p2 l2 m2))).0

  second-entry : (n : ℕ) → n < k2 → (get_or all (place_of all (rgb_at p2 n)) none).rgb ≡ rgb_at p2 n
  second-entry n h =
      rw (entry_of k2 p2 l2 m2 n none h) at (both.shows n none (omega (arith, entries-length k2 p2 l2 m2))).1

  pub second-shown : (z : ℤ) → stray k2 z ≡ false → shown (over (colours_of all) out) (moved_to all p2 z) ≡ shown p2 z
  unfolding stray shown moved_to
  second-shown (pos n) e =
      let h : n < k2 = leb-false k2 n e in
      shown-entry all out (place_of all (rgb_at p2 n)) none (second-place n h)
      ∙ ap bytes_of (second-entry n h)
      ∙ sym (entry p2 n (omega arith))
  second-shown (negsuc n) e = refl

  pub second-inside : (z : ℤ) → stray k2 z ≡ false → stray (length all) (moved_to all p2 z) ≡ false
  unfolding stray moved_to
  second-inside (pos n) e = lt-leb (length all) _ (second-place n (leb-false k2 n e))
  second-inside (negsuc zero) e = refl
  second-inside (negsuc (suc n)) e = e
