-- The records of a part of a journal: they are its bytes, and written in either form they are read again. Assumes nothing.
use Prim.Native.Nat.{ℕ, zero, suc, ◌≤◌}
use mathlib.Core.Path.{◌≡◌, refl, sym, ap, ap₂, ◌∙◌, subst}
use mathlib.Core.Bool.{false}
use mathlib.Core.List.{List, [], ◌∷◌, ◌++◌, flat_map}
use mathlib.Core.Option.{Option, none, some, some-injective}
use native.Mathlib.Omega.{arith}
use lib.ListN.{length, drop, length-drop, take-append-drop}
use lib.Seq.{drop_at}
use Rattle.base.specs.Lists as lists
use Rattle.base.specs.declared.Form.{Form}
use Rattle.journal_raw.specs.Raw.{Raw, raw_length, raw_bytes, raws_bytes, raw_in, before, followed, raws_in, stray, any_stray, AllBytes}
use Rattle.base.proofs.Each.{all_drop}
use Rattle.base.proofs.Scan.{or_left, or_right}
use Rattle.journal_raw.proofs.Readings.{Whole, Taken, taken, raw-again, length-raw}

-- what is known of the n records of a part
pub record All (f : Form) (w n : ℕ) (bytes : List ℕ) (rs : List Raw) : Type 0 where
  pub bytes-are : bytes ≡ raws_bytes f w rs
  pub many : length rs ≡ n
  pub whole : lists.All (Whole w) rs

module _ (f : Form) (w h : ℕ) (narrow : w ≤ 1024) (low : h ≤ 1024) where
  -- a record, and those after it
  all_cons : (n : ℕ) (bytes : List ℕ) (m : ℕ) (r : Raw) (rs : List Raw) → Taken f w bytes m r → All f w n (drop m bytes) rs → All f w (suc n) bytes (r ∷ rs)
  unfolding lists.All flat_map
  all_cons n bytes m r rs t a =
      record {
        bytes-are = sym (take-append-drop m bytes) ∙ ap₂ ◌++◌ t.bytes-are a.bytes-are;
        many = ap suc a.many;
        whole = (t.whole, a.whole);
      }

  pub all_read : (n : ℕ) (bytes : List ℕ) (rs : List Raw) → AllBytes bytes → length bytes ≤ 2147483647 → raws_in f w n bytes ≡ some rs → any_stray w h rs ≡ false → All f w n bytes rs
  unfolding raws_in followed before lists.some flat_map lists.All
  all_read zero [] rs all size p on =
      subst (All f w zero []) (some-injective [] rs p) (record { bytes-are = refl; many = refl; whole = tt })
  all_read zero (b ∷ bytes) rs all size p on = absurd (let z : ◌≡◌ {A = ℕ} 0 1 = cc in omega arith)
  all_read (suc n) bytes rs all size p on = by (all_read n) (raw_in f w bytes) refl p
    where
      Rest : Type 0
      Rest = (bytes : List ℕ) (rs : List Raw) → AllBytes bytes → length bytes ≤ 2147483647 → raws_in f w n bytes ≡ some rs → any_stray w h rs ≡ false → All f w n bytes rs

      by : Rest → (o : Option (ℕ × Raw)) → raw_in f w bytes ≡ o → followed bytes o (raws_in f w n) ≡ some rs → All f w (suc n) bytes rs
      by next none q p = absurd (let z : ◌≡◌ {A = ℕ} 0 1 = cc in omega arith)
      by next (some t) q p = then (raws_in f w n (drop t.0 bytes)) refl p
        where
          then : (o : Option (List Raw)) → raws_in f w n (drop t.0 bytes) ≡ o → before t.1 o ≡ some rs → All f w (suc n) bytes rs
          then none q' p = absurd (let z : ◌≡◌ {A = ℕ} 0 1 = cc in omega arith)
          then (some rs') q' p =
              let same : t.1 ∷ rs' ≡ rs = some-injective (t.1 ∷ rs') rs p in
              let on' : any_stray w h (t.1 ∷ rs') ≡ false = subst (λ (x : List Raw). any_stray w h x ≡ false) (sym same) on in
              let one : Taken f w bytes t.0 t.1 = taken f w h narrow low bytes all size t.0 t.1 q (or_left (stray w h t.1) _ on') in
              let short : length (drop t.0 bytes) ≤ 2147483647 = rw length-drop (omega arith) in
              let rest : All f w n (drop t.0 bytes) rs' =
              next (drop t.0 bytes) rs' (all_drop _ t.0 bytes all) short q' (or_right (stray w h t.1) _ on') in
              subst (All f w (suc n) bytes) same (all_cons n bytes t.0 t.1 rs' one rest)

-- ---- read again
pub raws-again : (g : Form) (w : ℕ) (rs : List Raw) → lists.All (Whole w) rs → raws_in g w (length rs) (raws_bytes g w rs) ≡ some rs
unfolding raws_in followed before flat_map lists.All
raws-again g w [] whole = refl
raws-again g w (r ∷ rs) whole =
    rw (raw-again g w r whole.0 (raws_bytes g w rs), drop_at (raw_bytes g w r) (raws_bytes g w rs) (raw_length g r) (length-raw g w r), raws-again g w rs whole.1)
