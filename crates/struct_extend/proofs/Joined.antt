-- A stroke and a list packed into buffers of numbers, and what `extend` answers of them. Assumes nothing.
use Prim.Native.Nat.{ℕ, ◌+◌, ◌≤◌, ◌<◌, ◌^◌, min}
use mathlib.Core.Path.{◌≡◌, refl, ap, ◌∙◌}
use mathlib.Core.List.{List, ◌++◌, map, map-append}
use native.Mathlib.Omega.{arith}
use lib.ListN.{length, take, drop}
use lib.Seq.{take_all, length-take-le, take-append-le}
use Rattle.std.proofs.lemmas.Grind.{common_steps}
use Rattle.base.specs.Checks.{first_of}
use Rattle.base.specs.Answer.{filled, Told, leaving}
use Rattle.base.specs.declared.Counted.TheVariants.{Refused}
use Rattle.base.specs.Lists.{over}
use Rattle.edit.specs.Change.{unpacked}
use Rattle.change_list.specs.Fronts.{Front}
use Rattle.change_list.specs.Listed.{handed, InScratch}
use Rattle.change_list.proofs.Handing.{listed-refused, listed-done}
use Rattle.change_list.proofs.InScratch.{scratch-none, scratch-then}
use Rattle.change_normal.specs.Normal.{normal_packed}
use Rattle.change_stroke.specs.Stroke.{extended, extend_checks, extend_call}
use Rattle.change_stroke.proofs.Extending.{extend-fine}
use Rattle.struct_extend.specs.Places.{room_for, extend_over}
use Rattle.struct_change.proofs.Packing.{packed-front}

module _ (flat more room count n : ℕ) where
  -- what has room for both lists has their places
  pub record Enough : Type 0 where
    pub first : count ≤ flat
    pub second : n ≤ more
    pub both : count + n ≤ room

  pub enough : count + n ≤ room_for flat more room count n → Enough
  unfolding room_for
  enough e = record { first = grind (arith, common_steps); second = grind (arith, common_steps); both = grind (arith, common_steps) }

-- what it means that no check applies
pub record Ready (flat more room count n places : ℕ) : Type 0 where
  pub first : count ≤ flat
  pub second : n ≤ more
  pub both : count + n ≤ room
  pub held : count ≤ places
  pub small : count + n < 2 ^ 32

pub ready : (flat more room count n places rm : ℕ) → rm ≡ room_for flat more room count n → first_of (extend_checks count places n rm) ≡ 0 → Ready flat more room count n places
ready flat more room count n places rm j z =
    let f = extend-fine count places n rm z in
    let r = f.roomy in
    let g = enough flat more room count n (rw j at r) in
    record { first = g.first; second = g.second; both = g.both; held = f.held; small = let a = f.short in let b = f.list-short in omega arith }

-- both parts as lent
pub parts-fit : (flat more : List ℕ) {room count n places : ℕ} → Ready (length flat) (length more) room count n places
    → (length (take count flat) + length (take n more) ≤ room) × (length (take count flat) + length (take n more) < 2 ^ 32)
parts-fit flat more {count = count} {n = n} r = rw (length-take-le count flat r.first, length-take-le n more r.second) (r.both, r.small)

module _ (room count : ℕ) (list stroke : List ℕ) {places n rm : ℕ} {s : List ℕ} (j : rm ≡ room) (e : length stroke ≡ places) (l : length list ≡ n) where
  pub over-refused : (m : ℕ) → m ≡ first_of (extend_checks count places n rm) → (m ≡ 0 → ⊥) → InScratch 0 places s (filled (Refused m)) (extend_over room count list stroke)
  unfolding extend_over
  over-refused m q h = scratch-none (λ out k. listed-refused (extend_checks count (length stroke) (length list) room) (extended (map unpacked (take count stroke)) (map unpacked list)) out m (rw (e, l, ← j) q) h)

  pub over_done : {a : Told ℕ} {k c : ℕ} (first second : List ℕ) → first_of (extend_checks count places n rm) ≡ 0 → first ≡ take count stroke → second ≡ list
      → Front (normal_packed (first ++ second)) s k → InScratch c places s (leaving a) (handed (take k s)) → InScratch c places s (leaving a) (extend_over room count list stroke)
  unfolding extend_over extended normal_packed
  over_done first second z p q f d =
      scratch-then d (λ out after h v.
      listed-done (extend_checks count (length stroke) (length list) room) (extended (map unpacked (take count stroke)) (map unpacked list)) out
      (rw (e, l, ← j) z) (rw (p, q, map-append unpacked (take count stroke) list) at f) v)

-- over the stroke it is the call
pub over-own : (room count : ℕ) (list stroke : List ℕ) → extend_over room count list stroke stroke ≡ extend_call room count list stroke
unfolding extend_over extend_call
over-own room count list stroke = refl

-- ---- the lists in the buffers
pub stroke-front : (stroke flat zs : List ℕ) (count m : ℕ) → m ≡ min (min count (length stroke)) (length flat) → length zs ≡ length flat → zs ≡ over (take m stroke) flat
    → count ≤ length stroke → count ≤ length zs → take count zs ≡ take count stroke
unfolding over
stroke-front stroke flat zs count m q l d h k =
    let i : m ≡ count = omega arith in
    let t : length (take count stroke) ≡ count = length-take-le count stroke h in
    let is : zs ≡ take count stroke ++ drop (length (take count stroke)) flat = rw i at d in
    ap (take count) is ∙ take-append-le count (take count stroke) _ (omega arith) ∙ take_all count (take count stroke) (omega arith)

pub list-front : (list more zs : List ℕ) (n m : ℕ) → length list ≡ n → m ≡ min n (length more) → length zs ≡ length more → zs ≡ over (take m list) more → n ≤ length zs → take n zs ≡ list
list-front list more zs n m e q l d h = packed-front list more zs n m e q l d ∙ take_all (length zs) list (omega arith)
