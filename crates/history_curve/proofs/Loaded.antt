-- After a loading that is done the sheet is well-formed, and its k entries have the LAB of their bytes by the curve. Assumes nothing.
use mathlib.Core.Path.{◌≡◌, refl, ap, ◌∙◌}
use mathlib.Core.Bool.{false, true}
use mathlib.Core.List.{List}
use Prim.Native.Nat.{ℕ, zero, suc, ◌*◌, ◌<◌}
use native.Mathlib.Omega.{arith}
use lib.Dec.{leb}
use lib.Ieee.{Float}
use lib.ListN.{length, take, drop}
use lib.Seq.{length-take-le, take_at, drop_at}
use Rattle.base.specs.Checks.{first_of, refused_or}
use Rattle.base.specs.Answer.{Done}
use Rattle.base.specs.Lists.{some, over}
use Rattle.base.specs.Triples.{rgb_at, lab_at}
use Rattle.base.proofs.Nowhere.{nowhere-take}
use Rattle.base.proofs.Over.{length_over}
use Rattle.base.proofs.Told.{alone-other}
use Rattle.base.specs.declared.Handle.{Handle}
use Rattle.color_curve.specs.Curve.{curve_of, lab_on, curve_checks}
use Rattle.color_curve.proofs.Sessions.{by-finite}
use Rattle.sheet.specs.Sheet.{Sheet, sheet_of}
use Rattle.sheet.specs.Checks.{WellFormed}
use Rattle.sheet.specs.Document.{labs_by}
use Rattle.sheet.proofs.LabStorage.{length-labs, labs-at}
use Rattle.sheet.proofs.FiniteLabs.{labs-fit}
use Rattle.edit.proofs.Entries.{colour-shown}
use Rattle.history_ledger.specs.Calls.{refused, done}
use Rattle.history_curve.specs.Load.{load_checks, loaded_lab, load_of, Loaded}
use Rattle.history_curve.proofs.Answers.{passes}

module _ (s : Sheet) (values : List Float) (f : WellFormed s) where
  abbrev front : List ℕ
  front = take (3 * s.k) s.palette

  abbrev labs : List Float
  labs = labs_by (lab_on values) front

  front_long : length front ≡ 3 * s.k
  front_long = let l = f.limits in length-take-le (3 * s.k) s.palette (omega arith)

  long : length labs ≡ 3 * s.k
  long = length-labs (lab_on values) s.k front front_long

  same-labs : take (3 * s.k) (loaded_lab s values) ≡ labs
  unfolding loaded_lab over
  same-labs = take_at labs _ (3 * s.k) long

  formed : first_of (curve_checks (curve_of true values)) ≡ 0 → some (leb 256) s.palette ≡ false → WellFormed (sheet_of s.w s.h s.k s.palette (loaded_lab s values) s.indices)
  unfolding loaded_lab
  formed e b =
      let l = f.limits in
      record {
        limits =
            record {
              w-small = l.w-small;
              h-small = l.h-small;
              k-small = l.k-small;
              cells = l.cells;
              palette-length = l.palette-length;
              lab-length = length_over labs s.lab (omega (arith, long)) ∙ l.lab-length;
              indices-length = l.indices-length;
            };
        in-range = f.in-range;
        fit = rw same-labs (labs-fit (lab_on values) (by-finite (curve_of true values) e) front (nowhere-take (leb 256) (3 * s.k) s.palette b));
      }

  kept : drop (3 * s.k) (loaded_lab s values) ≡ drop (3 * s.k) s.lab
  unfolding loaded_lab over
  kept = drop_at labs _ (3 * s.k) long ∙ rw long

  anew : (i : ℕ) → i < s.k → lab_at (loaded_lab s values) i ≡ lab_on values (rgb_at s.palette i)
  unfolding loaded_lab over
  anew i h = labs-at (lab_on values) front _ i (omega (arith, front_long)) ∙ ap (lab_on values) (colour-shown s.palette s.k i h)

pub loaded : (s : Sheet) (n : ℕ) (h : Handle) (values : List Float) → some (leb 256) s.palette ≡ false → (load_of s n h values).answer ≡ Done
    → Loaded s h values (load_of s n h values).leaves
unfolding load_of refused_or
loaded s n h values b e = go (first_of (load_checks s n h values)) refl e
  where
    go : (m : ℕ) → first_of (load_checks s n h values) ≡ m → (refused_or m (refused s.lab) (done (loaded_lab s values))).answer ≡ Done
        → Loaded s h values (refused_or m (refused s.lab) (done (loaded_lab s values))).leaves
    go zero q e =
        let p = passes s n h values q in
        record {
          unused = p.unused;
          fits = p.fits;
          formed = formed s values p.formed p.fits b;
          anew = anew s values p.formed;
          kept = kept s values p.formed;
        }
    go (suc m) q e = absurd (alone-other e)
