-- What `extend` answers, by what its tests find. Assumes nothing.
use Prim.Native.Nat.{ℕ, ◌+◌, ◌≤◌, ◌<◌, ◌^◌}
use mathlib.Core.Path.{◌≡◌}
use mathlib.Core.List.{List, ◌++◌, map, map-append}
use native.Mathlib.Omega.{arith}
use borrow.Author.Tests.{ltb-false}
use lib.Dec.{ltb}
use lib.ListN.{length, take}
use lib.Seq.{length-take-le}
use Rattle.base.specs.Limits.{max_changes}
use Rattle.base.specs.Numbers.{no_space, list_too_long}
use Rattle.base.specs.Checks.{◌when◌, first_of}
use Rattle.base.specs.Answer.{filled, Told, leaving}
use Rattle.base.specs.declared.Counted.TheVariants.{Refused}
use Rattle.base.proofs.First.{past}
use Rattle.edit.specs.Change.{Change, unpacked}
use Rattle.change_list.specs.Fronts.{Front}
use Rattle.change_list.specs.Listed.{handed}
use Rattle.change_list.proofs.Handing.{listed-refused, listed-done}
use Rattle.change_normal.specs.Normal.{normalize_of, normal_packed}
use Rattle.change_normal.proofs.ByPlace.{normal-again}
use Rattle.change_stroke.specs.Stroke.{extended, extend_checks, extend_call}

module _ (count places n room : ℕ) where
  -- what it means that none applies
  pub record Roomy : Type 0 where
    pub short : count ≤ max_changes
    pub list-short : n ≤ max_changes
    pub held : count ≤ places
    pub roomy : count + n ≤ room

  pub extend-fine : first_of (extend_checks count places n room) ≡ 0 → Roomy
  unfolding extend_checks
  extend-fine e =
      let a = past (list_too_long when ltb max_changes count) _ (omega arith) e in
      let b = past (list_too_long when ltb max_changes n) _ (omega arith) a.rest in
      let c = past (no_space when ltb places count) _ (omega arith) b.rest in
      let d = past (no_space when ltb room (count + n)) _ (omega arith) c.rest in
      record { short = ltb-false max_changes count a.off; list-short = ltb-false max_changes n b.off; held = ltb-false places count c.off; roomy = ltb-false room (count + n) d.off }

module _ (room count : ℕ) (list stroke : List ℕ) where
  pub extend-refused : (m : ℕ) → m ≡ first_of (extend_checks count (length stroke) (length list) room) → (m ≡ 0 → ⊥) → filled (Refused m) stroke ≡ extend_call room count list stroke
  unfolding extend_call
  extend-refused m e h = listed-refused (extend_checks count (length stroke) (length list) room) (extended (map unpacked (take count stroke)) (map unpacked list)) stroke m e h

  pub extend-done : {a : Told ℕ} {s m : List ℕ} {n : ℕ} → first_of (extend_checks count (length stroke) (length list) room) ≡ 0
      → Front (normal_packed (take count stroke ++ list)) s n → leaving a m ≡ handed (take n s) stroke → leaving a m ≡ extend_call room count list stroke
  unfolding extend_call extended normal_packed
  extend-done e f d =
      listed-done (extend_checks count (length stroke) (length list) room) (extended (map unpacked (take count stroke)) (map unpacked list)) stroke
      e (rw (map-append unpacked (take count stroke) list) at f) d

  -- the joined list fits the scratch, and its positions their half of a sort number
  pub joined-fits : first_of (extend_checks count (length stroke) (length list) room) ≡ 0
      → (length (take count stroke) + length list ≤ room) × (length (take count stroke) + length list < 2 ^ 32)
  joined-fits e =
      let f = extend-fine count (length stroke) (length list) room e in
      let l : length (take count stroke) ≡ count = length-take-le count stroke f.held in
      rw l (f.roomy, (let a = f.short in let b = f.list-short in omega arith))

-- `into_op` normalises once more, which changes nothing
pub stroke-normal : (stroke cs : List Change) → normalize_of (extended stroke cs) ≡ extended stroke cs
unfolding extended
stroke-normal stroke cs = normal-again (stroke ++ cs)
