-- A record written piece by piece in the other form: each piece stands behind the last, and a change's pieces are its bytes. Assumes nothing.
use Prim.Native.Nat.{ℕ, zero, suc, ◌+◌, ◌-◌, ◌*◌, ◌/◌, ◌%◌, ◌≤◌, ◌<◌}
use mathlib.Core.Path.{◌≡◌, refl, sym, ap, ap₂, ◌∙◌}
use mathlib.Core.List.{List, [], ◌∷◌, ◌++◌, flat_map, append_assoc}
use native.Mathlib.Nat.{add_assoc, add-zero, mul-zero, mod-lt}
use native.Mathlib.Numerals.{add-one}
use native.Mathlib.Omega.{arith}
use lib.ListN.{length, take, drop, get_or, set, length-append, length-drop}
use lib.Seq.{take-suc, get_or-drop, length-take-le}
use Rattle.base.specs.declared.Form.{Form}
use Rattle.base.specs.declared.Form.TheVariants.{Coordinates, Places}
use Rattle.base.proofs.Collect.{flat_map-append, flat_map-one}
use Rattle.edit.specs.Change.{Change}
use Rattle.journal_record.specs.Bytes.{le, le_at, splice}
use Rattle.journal_record.specs.Record.{change_bytes, stride, change_in, changes_in}
use Rattle.journal_record.proofs.LittleEndian.{length-le, le-add, le-mod}
use Rattle.journal_record.proofs.Splice.{splice-none, splice-then, splice-sets, length-splice}
use Rattle.journal_record.proofs.Strides.{change-fits}
use Rattle.journal_record.proofs.Finding.{length-in}
use Rattle.journal_write.proofs.Changes.{signed, length-change, length-changes}
use Rattle.journal_raw.specs.Raw.{Raw, head_length, kind_byte, raw_length, raw_bytes}
use Rattle.journal_raw.specs.At.{raw_at}
use Rattle.journal_raw.proofs.Changes.{one_more}

-- ---- v written over l from `to` on
pub record Put (l : List ℕ) (to : ℕ) (v : List ℕ) (s : List ℕ) : Type 0 where
  pub is : s ≡ splice l to v
  pub same_length : length s ≡ length l

pub put-none : (l : List ℕ) (to : ℕ) → Put l to [] l
put-none l to = record { is = splice-none l to; same_length = refl }

-- a piece behind it
pub put_next : (l : List ℕ) (to : ℕ) (v u : List ℕ) (s t : List ℕ) (n : ℕ) → to + length v ≡ n → n + length u ≤ length l → Put l to v s → t ≡ splice s n u → Put l to (v ++ u) t
put_next l to v u s t n e room p q =
    record {
      is = splice-then l s t v u to n (omega arith) e p.is q;
      same_length = ap length q ∙ length-splice s u n (omega (arith, p.same_length)) ∙ p.same_length;
    }

pub set-put : (s : List ℕ) (n b : ℕ) → n < length s → set s n b ≡ splice s n (b ∷ [])
set-put s n b h = splice-sets (b ∷ []) s n (omega arith)

-- ---- bytes copied
pub one-copied : (bytes : List ℕ) (at i : ℕ) → at + i < length bytes → take (i + 1) (drop at bytes) ≡ take i (drop at bytes) ++ (get_or bytes (at + i) 0 ∷ [])
one-copied bytes at i h =
    let inside : i < length (drop at bytes) = rw length-drop (omega arith) in
    rw (add-one i, take-suc (drop at bytes) i 0 inside, get_or-drop at bytes i 0)

-- ---- changes read one by one
last-read : (f : Form) (w : ℕ) (bytes : List ℕ) (at i : ℕ) → changes_in f w bytes at (suc i) ≡ changes_in f w bytes at i ++ (change_in f w bytes (at + stride f * i) ∷ [])
unfolding changes_in
last-read f w bytes at zero = rw (mul-zero (stride f), add-zero at)
last-read f w bytes at (suc i) =
    ap (λ (cs : List Change). change_in f w bytes at ∷ cs) (last-read f w bytes (at + stride f) i)
    ∙ rw (one_more f i, add_assoc at (stride f) (stride f * i))

pub one-read : (f : Form) (w : ℕ) (bytes : List ℕ) (at i : ℕ) → changes_in f w bytes at (i + 1) ≡ changes_in f w bytes at i ++ (change_in f w bytes (at + stride f * i) ∷ [])
one-read f w bytes at i = rw (add-one i) (last-read f w bytes at i)

pub one_written : (f g : Form) (w : ℕ) (bytes : List ℕ) (at i : ℕ)
    → flat_map (change_bytes g w) (changes_in f w bytes at (i + 1)) ≡ flat_map (change_bytes g w) (changes_in f w bytes at i) ++ change_bytes g w (change_in f w bytes (at + stride f * i))
one_written f g w bytes at i =
    ap (flat_map (change_bytes g w)) (one-read f w bytes at i)
    ∙ flat_map-append (change_bytes g w) (changes_in f w bytes at i) (change_in f w bytes (at + stride f * i) ∷ [])
    ∙ rw flat_map-one

pub written-long : (f g : Form) (w : ℕ) (bytes : List ℕ) (at i : ℕ) → length (flat_map (change_bytes g w) (changes_in f w bytes at i)) ≡ stride g * i
written-long f g w bytes at i = length-changes g w (changes_in f w bytes at i) ∙ ap (λ (n : ℕ). stride g * n) (length-in f w bytes at i)

-- ---- a change's numbers, in the other form
two-halves : (a b : ℕ) → a < 65536 → le 4 (a + 65536 * b) ≡ le 2 a ++ le 2 b
two-halves a b h =
    let v : ℕ = a + 65536 * b in
    let low : v % 65536 ≡ a = omega arith in
    let high : v / 65536 ≡ b = omega arith in
    le-add 2 2 v ∙ ap₂ ◌++◌ (sym (le-mod 2 v) ∙ ap (le 2) low) (ap (le 2) high)

module _ (w : ℕ) (bytes : List ℕ) (at : ℕ) where
  pub to-spot : (p old new : ℕ) → 0 < w → w ≤ 1024 → old < 65536 → new < 65536 → p ≡ le_at 3 bytes at → old ≡ le_at 2 bytes (at + 3) → new ≡ le_at 2 bytes (at + 5)
      → change_bytes Coordinates w (change_in Places w bytes at) ≡ le 4 (p % w + 65536 * (p / w % 65536)) ++ le 4 (old + 65536 * new)
  unfolding change_bytes change_in
  to-spot p old new wide narrow o n p-is o_is n-is =
      let column : p % w < w = mod-lt p wide in
      rw (
        ← p-is,
        ← o_is,
        ← n-is,
        signed old o,
        signed new n,
        two-halves (p % w) (p / w % 65536) (omega arith),
        le-mod 2 (p / w),
        two-halves old new o,
      )
      (sym (append_assoc (le 2 (p % w)) (le 2 (p / w)) (le 2 old ++ le 2 new)))

-- ---- the loops and the calls in a row
pub copy-next : (l : List ℕ) (to : ℕ) (bytes : List ℕ) (at i n : ℕ) (out : List ℕ) → at + n ≤ length bytes → to + n ≤ length l → i < n → Put l to (take i (drop at bytes)) out
    → Put l to (take (i + 1) (drop at bytes)) (set out (to + i) (get_or bytes (at + i) 0))
copy-next l to bytes at i n out from room more p =
    let b : ℕ = get_or bytes (at + i) 0 in
    let long : length (take i (drop at bytes)) ≡ i = length-take-le i (drop at bytes) (rw length-drop (omega arith)) in
    rw (one-copied bytes at i (omega arith))
    (put_next l to (take i (drop at bytes)) (b ∷ []) out (set out (to + i) b) (to + i) (omega arith) (omega arith) p
    (set-put out (to + i) b (omega (arith, p.same_length))))

pub change-next : (f g : Form) (w : ℕ) (l : List ℕ) (to : ℕ) (bytes : List ℕ) (at i n : ℕ) (out out' : List ℕ) → to + stride g * n ≤ length l → i < n
    → Put l to (flat_map (change_bytes g w) (changes_in f w bytes at i)) out
    → out' ≡ splice out (to + stride g * i) (change_bytes g w (change_in f w bytes (at + stride f * i)))
    → Put l to (flat_map (change_bytes g w) (changes_in f w bytes at (i + 1))) out'
change-next f g w l to bytes at i n out out' room more p q =
    let v : List ℕ = flat_map (change_bytes g w) (changes_in f w bytes at i) in
    let u : List ℕ = change_bytes g w (change_in f w bytes (at + stride f * i)) in
    let fits : to + stride g * i + stride g ≤ length l = change-fits g to n i (length l) more room in
    rw (one_written f g w bytes at i)
    (put_next l to v u out out' (to + stride g * i) (omega (arith, written-long f g w bytes at i)) (omega (arith, length-change g w (change_in f w bytes (at + stride f * i)))) p q)

module _ (w : ℕ) (bytes : List ℕ) (at : ℕ) (l s t : List ℕ) (to : ℕ) (room : to ≤ length l) where
  pub put-as-spot : (p old new : ℕ) → 0 < w → w ≤ 1024 → old < 65536 → new < 65536 → p ≡ le_at 3 bytes at → old ≡ le_at 2 bytes (at + 3) → new ≡ le_at 2 bytes (at + 5)
      → s ≡ splice l to (le 4 (p % w + 65536 * (p / w % 65536))) → t ≡ splice s (to + 4) (le 4 (old + 65536 * new))
      → t ≡ splice l to (change_bytes Coordinates w (change_in Places w bytes at))
  put-as-spot p old new wide narrow o n p-is o_is n-is a b =
      let x : ℕ = p % w + 65536 * (p / w % 65536) in
      splice-then l s t (le 4 x) (le 4 (old + 65536 * new)) to (to + 4) room (ap (λ (n : ℕ). to + n) (length-le 4 x)) a b
      ∙ ap (splice l to) (sym (to-spot w bytes at p old new wide narrow o n p-is o_is n-is))

-- a record: kind, head, changes and length
pub put_whole : (g : Form) (w : ℕ) (r : Raw) (l s₁ s₂ s₃ s₄ : List ℕ) (to h size : ℕ) → to + raw_length g r ≤ length l → h ≡ length r.head → size ≡ raw_length g r
    → s₁ ≡ splice l to (kind_byte g r.kind ∷ []) → s₂ ≡ splice s₁ (to + 1) r.head → s₃ ≡ splice s₂ (to + 1 + h) (flat_map (change_bytes g w) r.changes) → s₄ ≡ splice s₃ (to + size - 4) (le 4 size)
    → Put l to (raw_bytes g w r) s₄
unfolding raw_bytes
put_whole g w r l s₁ s₂ s₃ s₄ to h size room long whole a b c d =
    let kb : List ℕ = kind_byte g r.kind ∷ [] in
    let C : List ℕ = flat_map (change_bytes g w) r.changes in
    let C-long : length C ≡ stride g * length r.changes = length-changes g w r.changes in
    let p₁ : Put l to kb s₁ = put_next l to [] kb l s₁ to (omega arith) (omega arith) (put-none l to) a in
    let p₂ : Put l to (kb ++ r.head) s₂ = put_next l to kb r.head s₁ s₂ (to + 1) refl (omega arith) p₁ b in
    let p₃ : Put l to ((kb ++ r.head) ++ C) s₃ = put_next l to (kb ++ r.head) C s₂ s₃ (to + 1 + h) (omega (arith, length-append kb r.head)) (omega arith) p₂ c in
    let p₄ : Put l to (((kb ++ r.head) ++ C) ++ le 4 size) s₄ =
    put_next l to ((kb ++ r.head) ++ C) (le 4 size) s₃ s₄ (to + size - 4) (omega (arith, length-append kb r.head, length-append (kb ++ r.head) C)) (omega (arith, length-le 4 size)) p₃ d in
    let same : ((kb ++ r.head) ++ C) ++ le 4 size ≡ kb ++ (r.head ++ (C ++ le 4 (raw_length g r))) = simp append_assoc (rw whole) in
    rw same at p₄

-- ---- the record that lies at a place
module _ (f : Form) (w : ℕ) (bytes : List ℕ) (at kind count : ℕ) (there : at + 1 + head_length kind ≤ length bytes) where
  abbrev here : Raw
  here = raw_at f w bytes at kind count

  pub head_at : length here.head ≡ head_length kind
  head_at = length-take-le (head_length kind) (drop (at + 1) bytes) (rw length-drop (omega arith))

  pub length_at : (g : Form) → raw_length g here ≡ 1 + head_length kind + stride g * count + 4
  length_at g = rw (head_at, length-in f w bytes (at + 1 + head_length kind) count)

  pub put-at : (g into : Form) (l s₁ s₂ s₃ s₄ : List ℕ) (to head size kb : ℕ) → into ≡ g → head ≡ head_length kind → kb ≡ kind_byte into kind → size ≡ 1 + head_length kind + stride into * count + 4
      → to + 1 + head_length kind + stride g * count + 4 ≤ length l
      → s₁ ≡ splice l to (kb ∷ []) → s₂ ≡ splice s₁ (to + 1) (take head (drop (at + 1) bytes))
      → s₃ ≡ splice s₂ (to + 1 + head) (flat_map (change_bytes g w) (changes_in f w bytes (at + 1 + head) count)) → s₄ ≡ splice s₃ (to + size - 4) (le 4 size)
      → (size ≡ raw_length g here) × (s₄ ≡ splice l to (raw_bytes g w here))
  put-at g into l s₁ s₂ s₃ s₄ to head size kb i h k s room a b c d =
      let size_is : size ≡ raw_length g here = rw i at s ∙ sym (length_at g) in
      let a' = rw (k, i) at a in
      let b' = rw h at b in
      let c' = rw h at c in
      (size_is, (put_whole g w here l s₁ s₂ s₃ s₄ to (head_length kind) size (omega (arith, length_at g)) (sym head_at) size_is a' b' c' d).is)
