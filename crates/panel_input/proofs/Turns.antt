-- A byte that ends the line. Assumes nothing.
use Prim.Native.Nat.{ℕ, ◌+◌, ◌≤◌}
use mathlib.Core.Path.{◌≡◌, refl, ap, ◌∙◌}
use mathlib.Core.List.{List, ◌++◌, append_assoc}
use native.Mathlib.Omega.{arith}
use lib.ListN.{length, take, drop, length-append}
use Rattle.base.specs.Lists.{over}
use lib.Seq.{length-take-le, take_at}
use Rattle.journal_record.specs.Bytes.{splice}
use Rattle.panel_open.specs.declared.Stepped.{Stepped}
use Rattle.panel_lines.specs.Lines.{fed, saying, byteFed}
use Rattle.panel_lines.proofs.Feeding.{fed-eq}
use Rattle.panel_calls.specs.Panel.{Panel, step_of}
use Rattle.panel_open.specs.Memory.{Steps}

-- the front of a list with a text written behind it
take-splice : (l : List ℕ) (at : ℕ) (t : List ℕ) → at + length t ≤ length l → take (at + length t) (splice l at t) ≡ take at l ++ t
unfolding splice over
take-splice l at t h =
    let n : length (take at l ++ t) ≡ at + length t = length-append (take at l) t ∙ ap (λ m. m + length t) (length-take-le at l (omega arith)) in
    rw (← append_assoc (take at l) t (drop (length t) (drop at l))) (take_at (take at l ++ t) (drop (length t) (drop at l)) (at + length t) n)

-- a newline
pub byte-ends : (r : Stepped) (s p : Panel) (l out₀ out : List ℕ) (at b : ℕ) (line : List ℕ) → Steps r p out₀ out at (step_of s l) → at + 8203 ≤ length out₀ → b ≡ 10
    → fed p (take 0 line) (take r.at out) ≡ saying (take at out₀) (byteFed step_of s l b)
unfolding saying byteFed
byte-ends r s p l out₀ out at b line q h e =
    let t : List ℕ = (step_of s l).text in
    let k : length t ≤ 8203 = q.short in
    rw e (fed-eq q.state-is refl (rw (q.end_is, q.out-is) (take-splice out₀ at t (omega arith))))
