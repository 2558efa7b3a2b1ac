-- The order of `set_color`'s own checks: 7, 24, 10. Assumes nothing.
use mathlib.Core.Path.{◌≡◌}
use mathlib.Core.Bool.{Bool, true, false}
use mathlib.Core.List.{List}
use Prim.Native.Nat.{ℕ}
use lib.Dec.{leb}
use Rattle.base.specs.declared.Rgb.{Rgb}
use Rattle.base.specs.Checks.{first_of}
use Rattle.sheet.specs.Sheet.{Sheet}
use Rattle.edit.specs.Locks.{lock_at}
use Rattle.edit.specs.Checks.{Permitted, barred}
use Rattle.palette_model.specs.Colours.{set_checks}

module _ (s : Sheet) (locks : List Bool) (p : Permitted) (i : ℕ) (c : Rgb) where
  -- an entry that is not there is 7, whatever else applies
  pub missing-first : leb s.k i ≡ true → first_of (set_checks s locks p i c) ≡ 7
  unfolding set_checks first_of
  missing-first e = rw e

  -- "directly after 7"
  pub locked-next : leb s.k i ≡ false → lock_at locks i ≡ true → first_of (set_checks s locks p i c) ≡ 24
  unfolding set_checks first_of
  locked-next e f = rw (e, f)

  pub barred-last : leb s.k i ≡ false → lock_at locks i ≡ false → barred p c ≡ true → first_of (set_checks s locks p i c) ≡ 10
  unfolding set_checks first_of
  barred-last e f g = rw (e, f, g)
