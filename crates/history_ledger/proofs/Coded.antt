-- An algebra whose sheets lie in a faithful form keeps the laws of the algebra. Assumes nothing.
use mathlib.Core.Path.{◌≡◌, sym, ap, subst, ◌∙◌}
use mathlib.Core.Option.{Option, some}
use Prim.Native.Nat.{ℕ}
use Rattle.history_ledger.specs.Algebra.{Algebra, Taken, WellFormedIn}
use Rattle.history_ledger.specs.Laws.{Accepts, Reads, Laws}
use Rattle.history_ledger.specs.Coded.{Coding, recoded, coded, Faithful}

module _ (A : Algebra) (L : Laws A) (C : Coding A) (F : Faithful A C) where
  open C use {Code, Fit, read, write}

  abbrev K : Algebra
  K = coded A C

  inside : {c : Code} → WellFormedIn K c → WellFormedIn A (read c)
  inside f = record { typed = f.typed.1; passes = f.passes }

  outside : (s : A.Sheet) (c : Code) → WellFormedIn K c → WellFormedIn A s → F.Alike (A.view (read c)) (A.view s) → WellFormedIn K (write s c)
  outside s c f g a =
      let h = F.write-formed s c f.typed.0 g a in
      record { typed = (F.write-fit s c f.typed.0 g a, h.typed); passes = h.passes }

  accepts : {c : Code} {e : A.Edit} → Accepts K c e → Accepts A (read c) e
  accepts a =
      record {
        fits = inside a.fits;
        typed = a.typed;
        first_passes = a.first_passes;
        given-passes = a.given-passes;
        not-empty = a.not-empty;
        not-long = a.not-long;
        own-passes = a.own-passes;
      }

  made_alike : (c : Code) (e : A.Edit) → Accepts K c e → F.Alike (A.view (read c)) (A.view (A.make (read c) e))
  made_alike c e a = subst (λ p. F.Alike (A.view (read c)) p) (sym (L.make-shows (read c) e (accepts a))) (F.alike-painted (A.view (read c)) e)

  -- a reading of the algebra, in the form
  reads : (t : Code) {r : Option (Taken A.Sheet)} {n : ℕ} {p : A.Picture} → WellFormedIn K t → Reads A r n p → F.Alike (A.view (read t)) p
      → Reads K (recoded A C t r) n p
  reads t f d a =
      let alike = subst (λ q. F.Alike (A.view (read t)) q) (sym d.shows) a in
      record {
        sheet = write d.sheet t;
        reads = ap (recoded A C t) d.reads;
        fits = outside d.sheet t f d.fits alike;
        shows = F.write-shows d.sheet t f.typed.0 d.fits alike ∙ d.shows;
      }

  pub keeps-coded : Laws K
  keeps-coded =
      record {
        view-passes = λ c f. L.view-passes (read c) (inside f);
        empty-short = L.empty-short;
        empty-own = L.empty-own;
        curve-passes = L.curve-passes;
        first-not-full = L.first-not-full;
        sheet-not-full = λ c. L.sheet-not-full (read c);
        picture-not-full = L.picture-not-full;
        given-not-full = L.given-not-full;
        own-not-full = L.own-not-full;
        make-fits = λ c e a. outside _ c a.fits (L.make-fits (read c) e (accepts a)) (made_alike c e a);
        make-shows = λ c e a.
            F.write-shows _ c a.fits.typed.0 (L.make-fits (read c) e (accepts a)) (made_alike c e a) ∙ L.make-shows (read c) e (accepts a);
        paint-places = L.paint-places;
        encode-length = λ c e a. L.encode-length (read c) e (accepts a);
        size-least = L.size-least;
        back-reads = λ before c e t a f v.
            reads t f (L.back-reads before (read c) e (read t) (accepts a) (inside f) v)
            (subst (λ p. F.Alike p (A.view (read c))) (sym v) (F.alike-back _ _ (F.alike-painted (A.view (read c)) e)));
        forth-reads = λ after c e t a f v.
            reads t f (L.forth-reads after (read c) e (read t) (accepts a) (inside f) v)
            (subst (λ p. F.Alike p (A.paint (A.view (read c)) e)) (sym v) (F.alike-painted (A.view (read c)) e));
      }
