-- Products with the bytes of a change, form by form: in either they are products with a literal. Assumes nothing.
use Prim.Native.Nat.{ℕ, suc, ◌+◌, ◌*◌, ◌≤◌, ◌<◌}
use mathlib.Core.Path.{◌≡◌}
use native.Mathlib.Omega.{arith}
use Rattle.base.specs.declared.Form.{Form}
use Rattle.base.specs.declared.Form.TheVariants.{Coordinates, Places}
use Rattle.journal_record.specs.Record.{stride}

-- at most 8 bytes a change, and at least as many bytes as changes
pub stride_most : (f : Form) (n : ℕ) → stride f * n ≤ 8 * n
stride_most Coordinates n = omega arith
stride_most Places n = omega arith

pub stride-least : (f : Form) (n : ℕ) → n ≤ stride f * n
stride-least Coordinates n = omega arith
stride-least Places n = omega arith

-- n + 1 changes are one, and n behind it
pub first_fits : (f : Form) (at n size : ℕ) → at + stride f * suc n ≤ size → at + stride f ≤ size
first_fits Coordinates at n size h = omega arith
first_fits Places at n size h = omega arith

pub rest-fits : (f : Form) (at n size : ℕ) → at + stride f * suc n ≤ size → at + stride f + stride f * n ≤ size
rest-fits Coordinates at n size h = omega arith
rest-fits Places at n size h = omega arith

-- change i of n lies where n changes lie
pub change-fits : (f : Form) (at n i size : ℕ) → i < n → at + stride f * n ≤ size → at + stride f * i + stride f ≤ size
change-fits Coordinates at n i size k h = omega arith
change-fits Places at n i size k h = omega arith

-- where change i + 1 lies
pub next-change : (f : Form) (at i : ℕ) → at + stride f + stride f * i ≡ at + stride f * suc i
next-change Coordinates at i = omega arith
next-change Places at i = omega arith
