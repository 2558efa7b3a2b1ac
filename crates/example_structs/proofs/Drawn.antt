-- What a drawing tool left in a buffer of structs: how many changes, and which. Assumes nothing.
use mathlib.Core.Path.{◌≡◌, sym, ap, subst, ◌∙◌}
use mathlib.Core.List.{List, map}
use Prim.Native.Nat.{ℕ, zero, suc, ◌≤◌, zero-le}
use lib.ListN.{length, take, length-map}
use lib.IntN.{ℤ}
use native.Mathlib.Decide.{dec_lt}
use native.Mathlib.Omega.{arith}
use borrow.Author.Tests.{lt-ltb, le-ltb}
use Rattle.base.specs.Checks.{Check, first_of, refused_or}
use Rattle.base.specs.Answer.{Told, Filled, leaving, filled, count_told}
use Rattle.base.specs.declared.Change.{Change}
use Rattle.base.specs.declared.Counted.{Counted}
use Rattle.base.proofs.Mapped.{map-take}
use Rattle.selection.specs.declared.Area.{Area}
use Rattle.sheet.specs.Sheet.{Sheet}
use Rattle.edit.specs.Change as flat
use Rattle.change_list.specs.Listed.{handed, listed, count_of}
use Rattle.tool_draw.specs.Calls.{pencil_call}
use Rattle.struct_change.specs.Struct.{packed_of}
use Rattle.example_structs.specs.Lent.{changes_of}

handed-fits : (l out : List ℕ) → count_told (handed l out).answer ≤ length out
unfolding handed first_of refused_or
handed-fits l out = elim (dec_lt (length out) (length l)) [ yes h ↦ rw (lt-ltb (length out) (length l) h) zero-le | no h ↦ rw (le-ltb (length out) (length l) (omega arith)) (omega arith) ]

-- whatever the checks, a list that is counted fits the buffer
refused-fits : (n : ℕ) (out : List ℕ) (f : Filled ℕ) → count_told f.answer ≤ length out → count_told (refused_or n (λ m. leaving (Told.alone m) out) f).answer ≤ length out
unfolding refused_or
refused-fits zero out f h = h
refused-fits (suc n) out f h = zero-le

listed-fits : (checks : List Check) (cs : List flat.Change) (out : List ℕ) → count_told (listed checks cs out).answer ≤ length out
unfolding listed
listed-fits checks cs out = refused-fits (first_of checks) out (handed (map flat.packed cs) out) (handed-fits (map flat.packed cs) out)

pencil-fits : (s : Sheet) (area : Area) (points : List ℤ) (size : ℕ) (index : ℤ) (room : ℕ) (out : List ℕ) → count_told (pencil_call s area points size index room out).answer ≤ length out
unfolding pencil_call
pencil-fits s area points size index room out = listed-fits _ _ out

-- the pencil counts no more changes than the buffer has places
pub drawn-fits : (s : Sheet) (area : Area) (points : List ℤ) (size : ℕ) (index : ℤ) (room : ℕ) (r : Counted) (out' : List ℕ) (out : List Change) (n : ℕ)
    → filled r out' ≡ pencil_call s area points size index room (map packed_of out) → n ≡ count_of r → n ≤ length out
drawn-fits s area points size index room r out' out n e c =
    subst (λ (m : ℕ). n ≤ m) (length-map out packed_of)
    (subst (λ (m : ℕ). m ≤ length (map packed_of out)) (sym (c ∙ ap (λ (f : Filled ℕ). count_told f.answer) e)) (pencil-fits s area points size index room (map packed_of out)))

-- the structs at the front of the buffer are the changes that the pencil returned
pub drawn-is : (call : List ℕ → Filled ℕ) (r : Counted) (l b b' : List Change) (n : ℕ)
    → filled r (map packed_of l) ≡ call (map packed_of b) → n ≡ count_of r → b ≡ b' → map packed_of (take n l) ≡ changes_of (call (map packed_of b'))
drawn-is call r l b b' n e c same =
    map-take packed_of n l ∙ ap (λ (i : ℕ). take i (map packed_of l)) c ∙ ap changes_of e ∙ ap (λ (x : List Change). changes_of (call (map packed_of x))) same
