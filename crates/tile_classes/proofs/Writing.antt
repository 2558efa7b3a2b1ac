-- The numbers after the places written, one at a time. Assumes nothing.
use mathlib.Core.Path.{refl, ◌∙◌}
use mathlib.Core.List.{List}
use Prim.Native.Nat.{ℕ, ◌+◌, ◌<◌}
use native.Mathlib.Decide.{ℕ_discrete}
use native.Mathlib.Nat.{not-suc-le-zero}
use native.Mathlib.Omega.{arith}
use lib.ListN.{length, set, length-set}
use lib.Seq.{get_or-set_same, get_or-set_other}
use Rattle.tile_classes.specs.Ranks.{Written}

module _ (n : ℕ) (P : ℕ → ℕ → Type 0) where
  pub written_none : (s : List ℕ) → Written n P s s 0
  written_none s = record { long = refl; places = λ c h. refl; numbers = λ c h. absurd (not-suc-le-zero h) }

  pub written_next : {s₀ s : List ℕ} {i : ℕ} → Written n P s₀ s i → n + i < length s₀ → (v : ℕ) → P i v → Written n P s₀ (set s (n + i) v) (i + 1)
  written_next {s₀} {s} {i} w h v p =
      record {
        long = length-set s (n + i) v ∙ w.long;
        places = λ c b. get_or-set_other s (n + i) c v 0 (λ e. omega arith) ∙ w.places c b;
        numbers = λ c b. elim (ℕ_discrete c i) [
          | yes e ↦ rw (e, get_or-set_same s (n + i) v 0 (omega (arith, w.long))) p
          | no e ↦ rw (get_or-set_other s (n + i) (n + c) v 0 (λ q. e (omega arith))) (w.numbers c (omega arith))
        ];
      }
