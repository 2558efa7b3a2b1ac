-- The line that is held at the end of the input. Assumes nothing.
use Prim.Native.Nat.{ℕ, ◌≤◌, ◌<◌}
use mathlib.Core.Path.{◌≡◌, refl}
use mathlib.Core.List.{List, [], ◌∷◌}
use native.Mathlib.Omega.{arith}
use lib.ListN.{length, take, drop}
use lib.Seq.{take_at, length-take-le}
use Rattle.base.specs.Lists.{over}
use Rattle.journal_record.specs.Bytes.{splice}
use Rattle.panel_lines.specs.Lines.{lastFed}
use Rattle.panel_calls.specs.Panel.{Panel, step_of}
use Rattle.panel_open.specs.Memory.{Steps}
use Rattle.panel_open.specs.declared.Stepped.{Stepped}
use Rattle.panel_ends.specs.Ends.{Ends}

-- a text written at the front of a list
front : (l t : List ℕ) → take (length t) (splice l 0 t) ≡ t
unfolding splice over
front l t = take_at t (drop (length t) l) (length t) refl

-- a line is held, and was answered
held-answered : (r : Stepped) (s p : Panel) (l out₀ out : List ℕ) → Steps r p out₀ out 0 (step_of s l) → 0 < length l → Ends r.at out (lastFed step_of s l)
unfolding lastFed
held-answered r s p [] out₀ out q h = absurd (omega arith)
held-answered r s p (a ∷ l) out₀ out q h =
    let t : List ℕ = (step_of s (a ∷ l)).text in
    let n : r.at ≡ length t = omega (arith, q.end_is) in
    record { text-is = rw (n, q.out-is) (front out₀ t); fits = omega (arith, q.end_is, q.short) }

pub some-held : (r : Stepped) (s p : Panel) (line out₀ out : List ℕ) (len : ℕ) → Steps r p out₀ out 0 (step_of s (take len line)) → 0 < len → len ≤ length line
    → Ends r.at out (lastFed step_of s (take len line))
some-held r s p line out₀ out len q h k = held-answered r s p (take len line) out₀ out q (omega (arith, length-take-le len line k))

-- no line is held
pub none-held : (s : Panel) (line out : List ℕ) (len : ℕ) → len ≤ 0 → Ends 0 out (lastFed step_of s (take len line))
unfolding lastFed
none-held s line out len h = let e : len ≡ 0 = omega arith in record { text-is = rw e; fits = omega arith }
