-- `sizes_differ`: what is said of all layers is said of those that are left. Assumes nothing.
use mathlib.Core.Path.{◌≡◌}
use Rattle.std.specs.Slice.Iter.{chunks_exact_rest, chunks_exact_size}
use Rattle.layer_checks.specs.Judged.{sizes_differ}
use Rattle.layer_checks.proofs.sizes_differ.Given as goal

abbrev pub invariant-loop-size : goal.invariant-loop-size
invariant-loop-size l =
    (chunks_exact_size l.size-iterator ≡ 3) × (sizes_differ l.w l.h l.sizes ≡ sizes_differ l.w l.h (chunks_exact_rest l.size-iterator))
