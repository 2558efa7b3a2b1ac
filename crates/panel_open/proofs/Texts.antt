-- From the text of a line to what the line does. Assumes nothing.
use Prim.Native.Nat.{ℕ, ◌*◌, ◌≤◌}
use mathlib.Core.Path.{◌≡◌, sym, ap, ◌∙◌}
use mathlib.Core.Bool.{Bool, false}
use mathlib.Core.List.{List}
use mathlib.Core.Option.{none}
use native.Mathlib.Omega.{arith}
use lib.IntN.{ℤ}
use lib.Ieee.{Float}
use lib.ListN.{length, take}
use lib.Seq.{length-take-le}
use Rattle.panel_frames.specs.Writing.{line_of, number_line}
use Rattle.panel_frames.proofs.Lines.{length-line}
use Rattle.panel_lines.specs.Lines.{Said, said}
use Rattle.panel_calls.specs.Panel.{Panel}
use Rattle.panel_open.specs.declared.Core.{Core}
use Rattle.panel_open.specs.declared.Stepped.{Stepped}
use Rattle.panel_open.specs.Memory.{panel_in, Tells, Steps}

-- the text of a line fits
pub line-short : (answer position : ℕ) (d : Bool) (k n : ℕ) (indices : List ℤ) → n ≤ 4096 → n ≤ length indices → length (line_of answer position d k (take n indices)) ≤ 8203
line-short answer position d k n indices small room = omega (arith, length-line answer position d k (take n indices), length-take-le n indices room)

-- a text that was told, and the state that stands
pub told-steps : (r : Stepped) (core : Core) (palette : List ℕ) (lab : List Float) (indices : List ℤ) (locks : List Bool) (journal out₀ out : List ℕ) (at : ℕ) (text : List ℕ) (o : Said Panel)
    → Tells r core out₀ out at text → text ≡ o.text → panel_in core palette lab indices locks journal ≡ o.state → core.w * core.h ≤ 4096
    → Steps r (panel_in r.core palette lab indices locks journal) out₀ out at o
told-steps r core palette lab indices locks journal out₀ out at text o t e s small =
    record {
      state-is = rw t.core_is s;
      out-is = rw e at t.out-is;
      end_is = rw e at t.end_is;
      short = rw e at t.short;
      small = rw t.core_is small;
    }

-- before the opening
pub shut : (core : Core) (palette : List ℕ) (lab : List Float) (indices : List ℤ) (locks : List Bool) (journal : List ℕ) → core.opened ≡ false → panel_in core palette lab indices locks journal ≡ none
unfolding panel_in
shut core palette lab indices locks journal e = rw e

-- a line that is answered by its number only, before the opening
pub told-failed : (r : Stepped) (core : Core) (palette : List ℕ) (lab : List Float) (indices : List ℤ) (locks : List Bool) (journal out₀ out : List ℕ) (at n : ℕ) (o : Said Panel)
    → Tells r core out₀ out at (number_line n) → core.opened ≡ false → o ≡ said none (number_line n) → core.w * core.h ≤ 4096
    → Steps r (panel_in r.core palette lab indices locks journal) out₀ out at o
told-failed r core palette lab indices locks journal out₀ out at n o t e q small =
    told-steps r core palette lab indices locks journal out₀ out at (number_line n) o t
    (sym (ap (λ (x : Said Panel). x.text) q))
    (shut core palette lab indices locks journal e ∙ sym (ap (λ (x : Said Panel). x.state) q))
    small
