-- `unhex`: the pairs so far are read. Assumes nothing.
use Rattle.panel_hex.proofs.Hexes.{Spelling}
use mathlib.Core.Path.{◌≡◌}
use Rattle.std.specs.Iterator.Adapters.{enumerate_source, enumerate_count}
use Rattle.std.specs.Slice.Iter.{chunks_exact_rest, chunks_exact_size}
use Rattle.panel_hex.proofs.unhex.Given as goal

abbrev pub invariant-loop-n : goal.invariant-loop-n
invariant-loop-n l =
    let it = l.n-iterator in
    (chunks_exact_size (enumerate_source it) ≡ 2)
    × Spelling l.line l.initial.out l.out (chunks_exact_rest (enumerate_source it)) (enumerate_count it)
