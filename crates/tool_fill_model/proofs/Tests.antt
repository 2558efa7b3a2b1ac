-- The checks of a fill before its result is known, and what they leave. Assumes nothing.
use mathlib.Core.Path.{◌≡◌}
use mathlib.Core.Bool.{true, false}
use mathlib.Core.List.{[]}
use Prim.Native.Nat.{ℕ, ◌*◌, ◌≤◌, ◌<◌}
use native.Mathlib.Omega.{arith}
use borrow.Author.Tests.{lt-ltb, le-ltb}
use lib.IntN.{ℤ}
use Rattle.base.specs.Checks.{first_of}
use Rattle.base.proofs.First.{first-here}
use Rattle.base.specs.Ints.{far}
use Rattle.selection.specs.declared.Area.{Area}
use Rattle.sheet.specs.Sheet.{Sheet}
use Rattle.sheet.specs.Checks.{sheet_checks, WellFormed, Judged}
use Rattle.sheet.proofs.Judging.{past-sheet}
use Rattle.selection.specs.Region.{off_sheet, region_in}
use Rattle.tool_fill_model.specs.Fill.{fill_checks, Fine, Fillable, Ready}
use Rattle.tool_fill_model.proofs.Regions.{region-on}

module _ (s : Sheet) (given : Area) (x y : ℤ) (room : ℕ) where
  pub fill-judged : (n : ℕ) → Judged s n → (n ≡ 0 → ⊥) → Fillable s given x y room n
  unfolding fill_checks
  fill-judged n j h = record { value = first-here (sheet_checks [] s) _ n j.value h; fine = λ z. absurd (h z) }

  module _ (f : WellFormed s) where
    pub far-across : far x ≡ true → Fillable s given x y room 15
    unfolding fill_checks first_of
    far-across e = record { value = rw (past-sheet s f, e); fine = λ z. absurd (omega arith) }

    module _ (p : far x ≡ false) where
      pub far-down : far y ≡ true → Fillable s given x y room 15
      unfolding fill_checks first_of
      far-down e = record { value = rw (past-sheet s f, p, e); fine = λ z. absurd (omega arith) }

      module _ (q : far y ≡ false) where
        pub off-it : off_sheet given s.w s.h ≡ true → Fillable s given x y room 5
        unfolding fill_checks first_of
        off-it e = record { value = rw (past-sheet s f, p, q, e); fine = λ z. absurd (omega arith) }

        module _ (o : off_sheet given s.w s.h ≡ false) where
          pub no_room : room < s.w * s.h → Fillable s given x y room 16
          unfolding fill_checks first_of
          no_room h = record { value = rw (past-sheet s f, p, q, o, lt-ltb room (s.w * s.h) h); fine = λ z. absurd (omega arith) }

          pub fillable : s.w * s.h ≤ room → Fillable s given x y room 0
          unfolding fill_checks first_of
          fillable h = record {
            value = rw (past-sheet s f, p, q, o, le-ltb room (s.w * s.h) h);
            fine = λ z. record { well = f; across = p; down = q; on = o; space = h };
          }

-- what they leave is what the fill asks
pub ready : (s : Sheet) (given : Area) (x y : ℤ) (room : ℕ) → Fine s given x y room → Ready s.w s.h s.indices (region_in given s.w s.h) x y room
ready s given x y room f =
    let l = f.well.limits in
    record {
      narrow = l.w-small;
      low = l.h-small;
      size = l.indices-length;
      on = region-on given s.w s.h f.on;
      across = f.across;
      down = f.down;
      space = f.space;
    }
