-- What a turn of a loop over slices stores, and what a scan of the structs says of the numbers. Assumes nothing.
use mathlib.Core.Path.{◌≡◌, sym, ap, ◌∙◌}
use mathlib.Core.List.{List, ◌++◌, map, map-append}
use Prim.Native.Nat.{ℕ, ◌+◌, ◌<◌, ◌≤◌, ◌^◌}
use native.Mathlib.Numerals.{add-one}
use native.Mathlib.Omega.{arith}
use lib.IntN.{pos}
use lib.ListN.{length, take, drop, get_or, set, length-map, get_or-map}
use lib.Seq.{take-suc, length-take-le, get_or-take}
use Rattle.std.proofs.lemmas.List.{drop-map}
use Rattle.base.specs.Lists.{over, some}
use Rattle.base.proofs.Over.{over-set, over-is}
use Rattle.base.proofs.Mapped.{map-set, map-take}
use Rattle.base.proofs.Nowhere.{some-map}
use Rattle.edit.specs.Change.{outside, unpacked}
use Rattle.change_normal.proofs.Packing.{packed-unpacked}
use Rattle.base.specs.declared.Change.{Change}
use Rattle.struct_change.specs.Struct.{packed_of, struct_of}

-- what stands for an element past the end
abbrev pub none : Change
none = record { x = 0; y = 0; old = pos 0; new = pos 0 }

-- a number stored behind a front that was copied
next : (s o₀ o : List ℕ) (i v d : ℕ) → i < length s → i < length o₀ → v ≡ get_or s i d → o ≡ over (take i s) o₀ → set o i v ≡ over (take (i + 1) s) o₀
next s o₀ o i v d hs ho e is =
    rw (add-one, take-suc s i d hs, e) (ap (λ (l : List ℕ). set l i (get_or s i d)) is ∙ over-set (take i s) o₀ i (get_or s i d) (length-take-le i s (omega arith)) ho)

-- the i-th of the first n structs, packed
pub pack-next : (cs : List Change) (zs : List ℕ) {o : List ℕ} {n i r : ℕ} → n ≤ length cs → n ≤ length zs → i < n → r ≡ packed_of (get_or (take n cs) i none)
    → o ≡ over (take i (map packed_of cs)) zs → set o i r ≡ over (take (i + 1) (map packed_of cs)) zs
pack-next cs zs {o} {n} {i} {r} h k b e is =
    next (map packed_of cs) zs o i r (packed_of none) (omega (arith, length-map cs packed_of)) (omega arith)
    (e ∙ ap packed_of (get_or-take n cs i none b) ∙ sym (get_or-map packed_of cs i none)) is

-- the i-th of the first n numbers, as a struct
pub unpack-next : (vs : List ℕ) (cs out : List Change) {n i : ℕ} {r : Change} → n ≤ length vs → n ≤ length cs → i < n → get_or vs i 0 < 2 ^ 64
    → r ≡ struct_of (get_or (take n vs) i 0) → map packed_of out ≡ over (take i vs) (map packed_of cs) → map packed_of (set out i r) ≡ over (take (i + 1) vs) (map packed_of cs)
unpack-next vs cs out {n} {i} {r} h k b g e is =
    let at : r ≡ struct_of (get_or vs i 0) = e ∙ ap struct_of (get_or-take n vs i 0 b) in
    map-set packed_of out i r
    ∙ next vs (map packed_of cs) (map packed_of out) i (packed_of r) 0 (omega arith) (omega (arith, length-map cs packed_of)) (ap packed_of at ∙ packed-unpacked (get_or vs i 0) g) is

-- the first n structs copied over the front
pub copied-over : (vs cs : List Change) (n : ℕ) → n ≤ length vs → map packed_of (take n vs ++ drop n cs) ≡ over (take n (map packed_of vs)) (map packed_of cs)
copied-over vs cs n h =
    let f : List ℕ = take n (map packed_of vs) in
    map-append packed_of (take n vs) (drop n cs)
    ∙ rw (map-take packed_of n vs, ← drop-map packed_of n cs) (over-is f (map packed_of cs) n (length-take-le n (map packed_of vs) (omega (arith, length-map vs packed_of))))

-- of the first n structs some is off the sheet, if some of their numbers is
pub off-all : (w h : ℕ) (cs : List Change) (n : ℕ) → some (λ c. outside w h (unpacked (packed_of c))) (take n cs) ≡ some (outside w h) (map unpacked (take n (map packed_of cs)))
off-all w h cs n = rw (← map-take packed_of n cs) (sym (some-map unpacked (outside w h) (map packed_of (take n cs)) ∙ some-map packed_of (λ c. outside w h (unpacked c)) (take n cs)))
