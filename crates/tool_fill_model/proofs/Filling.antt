-- The flood of a picture: the invariants of `reach` at its own neighbours and places. Assumes nothing.
use Prim.Native.Nat.{ℕ, ◌+◌, ◌≤◌, ◌<◌}
use mathlib.Core.Path.{◌≡◌, ap, ◌∙◌}
use mathlib.Core.Bool.{Bool, true}
use mathlib.Core.List.{List}
use native.Mathlib.Omega.{arith}
use lib.IntN.{ℤ}
use lib.ListN.{length, replicate, length-replicate, length-set}
use Rattle.selection.specs.declared.Selection.{Selection}
use Rattle.tool_fill_model.specs.Flood.{neighbour, passable, flooded, Reachable}
use Rattle.tool_fill_model.specs.Cells.{Ground, marked, queued, Stepped, Pushed, Fills}
use Rattle.tool_fill_model.proofs.Queue.{is-pushed}
use Rattle.tool_fill_model.proofs.Passable.{passable-in}
use Rattle.tool_fill_model.proofs.Neighbours.{near-back}
use Rattle.tool_fill_model.proofs.Reachable.{reached-reachable, reachable-reached}
use Rattle.tool_fill_model.proofs.Flooding.{Flooding, Siding, siding-step, siding-end, flooding-start, flooding-end, zeros-even}

length-pushed : (s : List ℕ) (tail q : ℕ) → length (queued (marked s q) tail q) ≡ length s
unfolding queued marked
length-pushed s tail q = simp length-set

module _ (w : ℕ) (l : List ℤ) (region : Selection) (start : ℕ) where
  abbrev pub Flow : List ℕ → ℕ → ℕ → ℕ → Type 0
  Flow s head tail d = Flooding (length l) (neighbour w (length l)) (passable w l region start) start s head tail d

  abbrev pub Side : ℕ → List ℕ → ℕ → ℕ → ℕ → Type 0
  Side p s head tail d = Siding (length l) (neighbour w (length l)) (passable w l region start) start p s head tail d

module _ (w : ℕ) (l : List ℤ) (region : Selection) (start : ℕ) (wide : 0 < w) (begins : start < length l) where
  abbrev bounded : (p : ℕ) → passable w l region start p ≡ true → p < length l
  bounded p e = passable-in w l region start p e

  abbrev near : ℕ → ℕ → ℕ
  near = neighbour w (length l)

  abbrev passes : ℕ → Bool
  passes = passable w l region start

  pub fill-begin : (s₁ s₂ : List ℕ) → s₁ ≡ replicate (length l) 0 → s₂ ≡ queued (marked s₁ start) 0 start → Flow w l region start s₂ 0 1 0
  fill-begin s₁ s₂ e f =
      let long : length {A = ℕ} (replicate (length l) 0) ≡ length l = length-replicate {A = ℕ} (length l) 0 in
      let f' : s₂ ≡ queued (marked (replicate (length l) 0) start) 0 start = f ∙ ap (λ (s : List ℕ). queued (marked s start) 0 start) e in
      let u : Pushed (replicate (length l) 0) 0 start s₂ = rw f' (is-pushed (replicate (length l) 0) 0 start (omega arith) (omega arith) (zeros-even (length l) start)) in
      flooding-start (length l) near passes start begins bounded (near-back w (length l) wide) s₂ u (ap length f' ∙ length-pushed (replicate (length l) 0) 0 start ∙ long)

  pub fill_step : {p q : ℕ} {s s' : List ℕ} {head tail d r : ℕ} → Side w l region start p s head tail d → d < 4 → q ≡ neighbour w (length l) p d → length s' ≡ length s
      → Stepped (passable w l region start q) s tail q s' r → Side w l region start p s' head r (d + 1)
  fill_step {p} {q} {s} {s'} {head} {tail} {d} {r} g k e m u = siding-step (length l) near passes start begins bounded (near-back w (length l) wide) p q s s' head tail d r g k e m u

  pub fill-next : {p : ℕ} {s : List ℕ} {head tail d : ℕ} → Side w l region start p s head tail d → 4 ≤ d → Flow w l region start s (head + 1) tail 0
  fill-next {p} {s} {head} {tail} {d} g k = siding-end (length l) near passes start begins bounded (near-back w (length l) wide) p s head tail d g k

  pub fill_end : {s : List ℕ} {head tail : ℕ} → Flow w l region start s head tail 0 → tail ≤ head → Fills w l region start s
  unfolding Fills flooded
  fill_end {s} {head} {tail} f k = flooding-end (length l) near passes start begins bounded (near-back w (length l) wide) s head tail f k

  -- "all 4-neighbours reachable": what a flood changes is what is reachable
  pub flooded-reachable : (p : ℕ) → flooded w l region start p ≡ true → Reachable (neighbour w (length l)) (passable w l region start) start p
  unfolding flooded
  flooded-reachable p e = reached-reachable (length l) near passes start begins bounded (near-back w (length l) wide) p e

  pub reachable-flooded : (p : ℕ) → Reachable (neighbour w (length l)) (passable w l region start) start p → flooded w l region start p ≡ true
  unfolding flooded
  reachable-flooded p r = reachable-reached (length l) near passes start begins bounded (near-back w (length l) wide) p r

-- what the ground says of sizes
module _ {w : ℕ} {l : List ℤ} {start : ℕ} {s : List ℕ} (g : Ground w l start s) where
  pub few : length l ≤ 1048576
  few = let n = g.narrow in let r = g.rows in omega arith

  pub few-cells : length s ≤ 1048576
  few-cells = omega (arith, few, g.cells)
