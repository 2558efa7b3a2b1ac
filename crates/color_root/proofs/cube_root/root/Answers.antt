-- `root`: the pattern that `root_bits` finds, as a double. Assumes nothing.
use mathlib.Core.Path.{sym, ap, subst}
use Prim.Native.Nat.{◌^◌}
use native.Mathlib.Omega.{arith}
use lib.Ieee.{binary64, of_bits}
use Rattle.color_doubles.specs.NearestDouble.{nearest_double, NoneNearer, units_of}
use Rattle.color_root.specs.CubeRoot.{root_of, root_pattern}
use Rattle.color_doubles.proofs.Floats.{no-nan-bits, bits_back}
use Rattle.color_doubles.proofs.Magnitude.{pattern-small}
use Rattle.color_root.proofs.RootRange.{range-bits, range-no-nan}
use Rattle.color_root.proofs.cube_root.root.Goals as goal

pub float_to_bits-t : goal.float_to_bits-t
float_to_bits-t c = range-no-nan _ c.requires

pub root_bits-requires : goal.root_bits-requires
root_bits-requires c = range-bits _ c.requires

pub float_from_bits-result : goal.float_from_bits-result
float_from_bits-result c = no-nan-bits _ (omega arith)

pub returns : goal.returns
unfolding root_of root_pattern nearest_double
returns c =
    let found = c.root_bits.ensures in
    record {
      value = ap (of_bits binary64) found.value;
      nearest = subst (NoneNearer 3 (units_of _) (2 ^ 1074)) (sym (bits_back _ (omega arith))) found.nearest;
      small = pattern-small _ found.small;
    }
