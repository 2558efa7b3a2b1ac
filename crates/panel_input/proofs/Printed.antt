-- What the program prints, in whatever chunks its input comes: document 01's lines. Assumes nothing.
use Prim.Native.Nat.{ℕ}
use mathlib.Core.Path.{◌≡◌, ap}
use mathlib.Core.List.{List, []}
use mathlib.Core.Option.{none}
use lib.ListN.{take}
use Rattle.panel_frames.specs.Reading.{Told}
use Rattle.panel_lines.specs.Lines.{lines_of, joined, printed, chunkFed, finished, held}
use Rattle.panel_calls.specs.Panel.{Panel, act_of, step_of, panel_of}
use Rattle.panel_frames.proofs.Sizes.{frame-clip}
use Rattle.panel_lines.proofs.Feeding.{fed-printed}

step-clip : (p : Panel) (l : List ℕ) → step_of p (take held l) ≡ step_of p l
unfolding step_of
step-clip p l = ap (λ (t : Told). act_of p t.frame t.bytes) (frame-clip l)

-- so of a line that is too long only its first 16,385 bytes matter, and the input may come in chunks of any size (`chunk-append`, Feeding)
pub all-printed : (input : List ℕ) → finished step_of (chunkFed step_of none [] input) ≡ joined (panel_of (lines_of input))
unfolding panel_of printed
all-printed input = fed-printed step_of step-clip none input
