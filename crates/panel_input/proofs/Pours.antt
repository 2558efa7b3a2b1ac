-- The loop over the bytes of a chunk. Assumes nothing.
use Prim.Native.Nat.{ℕ, suc, ◌+◌, ◌*◌, ◌≤◌, ◌<◌}
use mathlib.Core.Path.{◌≡◌, ◌∙◌}
use mathlib.Core.List.{List}
use native.Mathlib.Numerals.{add-one}
use native.Mathlib.Omega.{arith}
use lib.ListN.{length, take, drop, get_or}
use lib.Seq.{drop-cons}
use Rattle.panel_lines.specs.Lines.{fed, saying, byteFed, chunkFed}
use Rattle.panel_calls.specs.Panel.{Panel, step_of}
use Rattle.panel_lines.proofs.Feeding.{saying-nil, turned}

-- the first i of the bytes that are left of a chunk are taken: p₀ and l₀ are state and held line before them, p and l after them, and n bytes of text are in `out`
pub record Pouring (p₀ : Panel) (l₀ left : List ℕ) (p : Panel) (l out : List ℕ) (n i : ℕ) : Type 0 where
  pub short : n ≤ 65536
  pub some : n ≤ 65536 * i
  pub rest : saying (take n out) (chunkFed step_of p l (drop i left)) ≡ chunkFed step_of p₀ l₀ left

module _ (p₀ : Panel) (l₀ left : List ℕ) where
  pub pouring-none : (out : List ℕ) → Pouring p₀ l₀ left p₀ l₀ out 0 0
  pouring-none out = record { short = omega arith; some = omega arith; rest = saying-nil (chunkFed step_of p₀ l₀ left) }

  module _ (p : Panel) (l out : List ℕ) (n i : ℕ) (q : Pouring p₀ l₀ left p l out n i) where
    pub pouring-next : (p' : Panel) (l' out' : List ℕ) (n' : ℕ) → i < length left → n ≤ 57333
        → fed p' l' (take n' out') ≡ saying (take n out) (byteFed step_of p l (get_or left i 0)) → n' ≤ n + 8203
        → Pouring p₀ l₀ left p' l' out' n' (i + 1)
    pouring-next p' l' out' n' h small e far =
        let more : saying (take n' out') (chunkFed step_of p' l' (drop (suc i) left)) ≡ saying (take n out) (chunkFed step_of p l (drop i left)) =
        rw (drop-cons left i 0 h) (turned step_of p p' l l' (take n out) (take n' out') (get_or left i 0) (drop (suc i) left) e) in
        record {
          short = omega arith;
          some = omega (arith, q.some);
          rest = rw (add-one i) (more ∙ q.rest);
        }
