-- The nearest entry of a palette, as `nearest_index` of color.rs finds it. Definitions only. Assumes nothing.
use Rattle.std.specs.Prelude.{ℕ, zero, suc, ◌*◌, ◌<◌, cond, T, List, take, Float, false, ◌≡◌}
use Rattle.std.specs.Float.{inf}
use Rattle.std.specs.Float.Ieee.{lt, le}
use Rattle.base.specs.declared.Lab.{Lab}
use Rattle.base.specs.Lists.{some}
use Rattle.base.specs.Triples.{lab_at}
use Rattle.color_nearest.specs.declared.Near.{Near}
use Rattle.color_nearest.specs.declared.Search.{Search}
use Rattle.color_doubles.specs.Arithmetic.{◌⊕◌, ◌⊖◌, ◌⊗◌}
use Rattle.color_doubles.specs.Finite.{unfit}

-- `dist2`
unfoldable pub dist2_of : Lab → Lab → Float
dist2_of p q =
    let d0 = p.l ⊖ q.l in
    let d1 = p.a ⊖ q.a in
    let d2 = p.b ⊖ q.b in
    d0 ⊗ d0 ⊕ d1 ⊗ d1 ⊕ d2 ⊗ d2

-- how far entry i is
abbrev pub distance : Lab → List Float → ℕ → Float
distance p lab i = dist2_of p (lab_at lab i)

-- entry i, where it is strictly nearer than the one found before it
unfoldable pub closer : Lab → List Float → ℕ → Near → Near
closer p lab i s = cond (lt (distance p lab i) s.distance) (record { entry = i; distance = distance p lab i }) s

-- the first with the smallest distance among k entries; entry 0, at an infinite distance, where none is less far than that
unfoldable pub nearest_of : Lab → List Float → ℕ → Near
nearest_of p lab zero = record { entry = 0; distance = inf false }
nearest_of p lab (suc k) = closer p lab k (nearest_of p lab k)

-- What that is, where the target and the k entries are finite: no entry is nearer, and each one before it is strictly farther.
pub record FirstNearest (p : Lab) (lab : List Float) (k i : ℕ) : Type 0 where
  pub inside : i < k
  pub least : (j : ℕ) → j < k → T (le (distance p lab i) (distance p lab j))
  pub first : (j : ℕ) → j < i → T (lt (distance p lab i) (distance p lab j))

-- ---- the search, and the sum of the distances that it meets
-- entry i, looked at after others
unfoldable pub searched : Lab → List Float → ℕ → Search → Search
searched p lab i s = record { near = closer p lab i s.near; total = s.total ⊕ distance p lab i }

-- two searches, the first of them among earlier entries
unfoldable pub joined : Search → Search → Search
joined s u = record { near = cond (lt u.near.distance s.near.distance) u.near s.near; total = s.total ⊕ u.total }

-- What a search of k entries tells: the nearest and, where the sum is finite, that each of their numbers is.
pub record Searched (p : Lab) (lab : List Float) (k : ℕ) (r : Search) : Type 0 where
  pub near : r.near ≡ nearest_of p lab k
  pub finite : unfit r.total ≡ false → some unfit (take (3 * k) lab) ≡ false
