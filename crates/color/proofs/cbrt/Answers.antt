-- `cbrt`: the two tests are the range, and within it `root` answers. Assumes nothing.
use mathlib.Core.Path.{◌≡◌, sym, ap, subst}
use mathlib.Core.Bool.{true, false}
use Prim.Native.Nat.{◌^◌}
use lib.Dec.{T}
use lib.Ieee.{Float, binary64, le, of_bits, to_bits, round}
use Rattle.base.specs.Checks.{first_of, refused_or}
use Rattle.color_doubles.specs.Arithmetic.{decimal}
use Rattle.color_doubles.specs.NearestDouble.{units_of, NoneNearer}
use Rattle.color_root.specs.CubeRoot.{in_root_range}
use Rattle.base.specs.declared.Root.TheVariants.{Refused}
use Rattle.base.specs.Answer.Told.{result}
use Rattle.color.specs.Calls.{root_checks, cbrt_of, CubeRoot}
use Rattle.color.proofs.cbrt.Goals as goal

in-range : (t : Float) → le (of_bits binary64 0x3f80_0000_0000_0000) t ≡ true → le t (of_bits binary64 0x4000_0000_0000_0000) ≡ true → in_root_range t ≡ true
unfolding in_root_range decimal round of_bits
in-range t h k = rw (h, k)

below : (t : Float) → le (of_bits binary64 0x3f80_0000_0000_0000) t ≡ false → in_root_range t ≡ false
unfolding in_root_range decimal round of_bits
below t h = rw h

above : (t : Float) → le (of_bits binary64 0x3f80_0000_0000_0000) t ≡ true → le t (of_bits binary64 0x4000_0000_0000_0000) ≡ false → in_root_range t ≡ false
unfolding in_root_range decimal round of_bits
above t h k = rw (h, k)

refused : (t : Float) → in_root_range t ≡ false → CubeRoot t (Refused 20)
unfolding cbrt_of root_checks first_of refused_or
refused t h = record { value = rw h; nearest = λ r. absurd (subst T h r) }

pub root-requires : goal.root-requires
root-requires c = subst T (sym (in-range _ c.if-t.true c.if-t-2.true)) tt

pub returns-then-t-2 : goal.returns-then-t-2
unfolding cbrt_of root_checks first_of refused_or
returns-then-t-2 c =
    let found = c.root.ensures in
    let t = c.args.t in
    record {
      value = rw (in-range t c.if-t.true c.if-t-2.true) (ap result found.value);
      nearest = λ _. subst (λ (r : Float). NoneNearer 3 (units_of (to_bits binary64 t)) (2 ^ 1074) (to_bits binary64 r)) found.value found.nearest;
    }

pub returns-else-t-2 : goal.returns-else-t-2
returns-else-t-2 c = refused _ (above _ c.if-t.true c.if-t-2.false)

pub returns-else-t : goal.returns-else-t
returns-else-t c = refused _ (below _ c.if-t.false)
