-- An algebra under tighter limits keeps the laws of the algebra without them. Assumes nothing.
use mathlib.Core.Path.{◌≡◌, ap, ◌∙◌}
use mathlib.Core.Bool.{false, cond}
use mathlib.Core.Option.{Option}
use Prim.Native.Nat.{ℕ, zero, suc}
use Rattle.base.specs.Numbers.{bad_sheet, journal_full}
use Rattle.base.specs.Checks.{or_else}
use Rattle.base.proofs.First.{first_passes}
use Rattle.history_ledger.specs.Algebra.{Algebra, Taken, WellFormedIn}
use Rattle.history_ledger.specs.Laws.{Accepts, Reads, Laws}
use Rattle.history_ledger.specs.Within.{Bounds, within, Bounded}
use Rattle.history_ledger.proofs.Refusals.{one, when-other, when-passes}

either-not-full : (a b : ℕ) → ¬ (a ≡ journal_full) → ¬ (b ≡ journal_full) → ¬ (or_else a b ≡ journal_full)
either-not-full zero b f g = g
either-not-full (suc a) b f g = f

module _ (A : Algebra) (L : Laws A) (B : Bounds A) (T : Bounded A B) where
  open B use {Args, given, large}

  abbrev W : Algebra
  W = within A B

  -- a sheet that is well-formed under the limits is so without them, and not too large; and back
  record Fits (s : A.Sheet) : Type 0 where
    pub inside : WellFormedIn A s
    pub small : large (A.view s) ≡ false

  inside : {s : A.Sheet} → WellFormedIn W s → Fits s
  inside {s} f =
      let both = first_passes (cond (large (A.view s)) bad_sheet 0) (A.sheet_check s) f.passes in
      record { inside = record { typed = f.typed; passes = both.1 }; small = when-passes _ (large (A.view s)) both.0 }

  outside : {s : A.Sheet} → WellFormedIn A s → large (A.view s) ≡ false → WellFormedIn W s
  outside {s} f q = record { typed = f.typed; passes = rw (q, f.passes) }

  accepts : {s : A.Sheet} {x : Args} → Accepts W s x → Accepts A s (given x)
  accepts {s} {x} a =
      record {
        fits = (inside a.fits).inside;
        typed = a.typed;
        first_passes = (first_passes (B.misfit x) (A.first_check (given x)) a.first_passes).1;
        given-passes = a.given-passes;
        not-empty = a.not-empty;
        not-long = T.longer-than-long x a.not-long;
        own-passes = a.own-passes;
      }

  reads : {r : Option (Taken A.Sheet)} {n : ℕ} {p : A.Picture} → Reads A r n p → large p ≡ false → Reads W r n p
  reads d q = record { sheet = d.sheet; reads = d.reads; fits = outside d.fits (ap large d.shows ∙ q); shows = d.shows }

  painted-small : {s : A.Sheet} {x : Args} → Accepts W s x → large (A.paint (A.view s) (given x)) ≡ false
  painted-small {s} {x} a = T.paint-size (A.view s) x ∙ (inside a.fits).small

  pub keeps-within : Laws W
  keeps-within =
      record {
        view-passes = λ s f. let g = inside f in rw (g.small, L.view-passes s g.inside);
        empty-short = λ x e. T.empty-not-longer x e;
        empty-own = λ p x e. L.empty-own p (given x) e;
        curve-passes = L.curve-passes;
        first-not-full = λ x. either-not-full _ _ (T.misfit-not-full x) (L.first-not-full (given x));
        sheet-not-full = λ s. either-not-full _ _ (when-other bad_sheet (large (A.view s)) one) (L.sheet-not-full s);
        picture-not-full = λ p. either-not-full _ _ (when-other bad_sheet (large p) one) (L.picture-not-full p);
        given-not-full = λ x. L.given-not-full (given x);
        own-not-full = λ p x. L.own-not-full p (given x);
        make-fits = λ s x a. outside (L.make-fits s (given x) (accepts a)) (ap large (L.make-shows s (given x) (accepts a)) ∙ painted-small a);
        make-shows = λ s x a. L.make-shows s (given x) (accepts a);
        paint-places = λ p x. L.paint-places p (given x);
        encode-length = λ s x a. L.encode-length s (given x) (accepts a);
        size-least = λ x. L.size-least (given x);
        back-reads = λ before s x t a f v. reads (L.back-reads before s (given x) t (accepts a) (inside f).inside v) (inside a.fits).small;
        forth-reads = λ after s x t a f v. reads (L.forth-reads after s (given x) t (accepts a) (inside f).inside v) (painted-small a);
      }
