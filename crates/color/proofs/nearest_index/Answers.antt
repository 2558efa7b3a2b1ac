-- `nearest_index`: each test is the check in its place, and past them the search finds the first of the nearest, with its distance. Assumes nothing.
use mathlib.Core.Path.{◌≡◌, sym, ap, subst, ◌∙◌}
use mathlib.Core.Bool.{true, false}
use mathlib.Core.List.{List}
use Prim.Native.Nat.{ℕ, ◌*◌}
use native.Mathlib.Omega.{arith}
use borrow.Author.Rules.{rules}
use borrow.Author.Tests.{lt-ltb, le-ltb, eq-eqb, ne_eqb}
use lib.Dec.{ltb, eqb}
use lib.ListN.{length, take}
use lib.Seq.{length-take-le}
use lib.Ieee.{Float}
use Rattle.base.specs.Checks.{first_of, refused_or}
use Rattle.base.specs.declared.Lab.{Lab}
use Rattle.base.specs.Lists.{some}
use Rattle.color_doubles.specs.Finite.{unfit, unfit_triple}
use Rattle.color_nearest.specs.Nearest.{distance, nearest_of, FirstNearest}
use Rattle.color_nearest.specs.declared.Near.{Near}
use Rattle.color_nearest.proofs.FirstNearest.{Found, found}
use Rattle.base.specs.Answer.{EntryAt, entry_at}
use Rattle.base.specs.declared.Found.TheVariants.{Entry, Refused}
use Rattle.base.specs.Answer.Told.{result, alone}
use Rattle.base.proofs.Told.{alone-other, same-result}
use Rattle.color.specs.Calls.{nearest_checks, nearest_index_of, NearestEntry}
use Rattle.color.proofs.nearest_index.Goals as goal
use Rattle.color.proofs.nearest_index.Goals.{Else-any_unfit_in, Else-unfit_triple}

refused : (target : Lab) (lab : List Float) (k n : ℕ) → alone n ≡ nearest_index_of target lab k → NearestEntry target lab k (Refused n)
refused target lab k n e = record { value = e; first = λ i h. absurd (alone-other h) }

entry : (target : Lab) (lab : List Float) (k : ℕ) (s : Near) → s ≡ nearest_of target lab k → Found target lab k (nearest_of target lab k)
    → result (entry_at (nearest_of target lab k).entry (distance target lab (nearest_of target lab k).entry)) ≡ nearest_index_of target lab k
    → NearestEntry target lab k (Entry s.entry s.distance)
entry target lab k s q f e =
    record {
      value = rw q (ap (λ (x : Float). result (entry_at (nearest_of target lab k).entry x)) f.own ∙ e);
      first = λ m h. subst (λ (j : ℕ). FirstNearest target lab k j) (ap (λ (x : EntryAt). x.index) (rw q at (same-result h))) f.nearest;
    }

-- past the third check: k and the length are within their limits, and the k entries are finite
record Past (lab : List Float) (k : ℕ) : Type 0 where
  few : ltb 255 k ≡ false
  sized : eqb (length lab) 765 ≡ true
  fit : some unfit (take (3 * k) lab) ≡ false

past-storage : (c : Else-any_unfit_in) → Past c.args.lab.now c.args.k
past-storage c =
    record {
      few = le-ltb _ _ c.if-k-gt-MAX_ENTRIES.false;
      sized = eq-eqb _ _ c.if-lab-ne-STORAGE.false;
      fit = sym c.any_unfit_in.ensures ∙ c.if-any_unfit_in.false;
    }

-- past the fourth check the triple is finite too
past-triple : (c : Else-unfit_triple) → unfit_triple c.args.target ≡ false
past-triple c = sym c.unfit_triple.ensures ∙ c.if-unfit_triple.false

pub returns-then-k-gt-MAX_ENTRIES : goal.returns-then-k-gt-MAX_ENTRIES
unfolding nearest_index_of nearest_checks first_of refused_or
returns-then-k-gt-MAX_ENTRIES c = refused _ _ _ _ (rw (lt-ltb _ _ c.if-k-gt-MAX_ENTRIES.true))

pub returns-then-lab-ne-STORAGE : goal.returns-then-lab-ne-STORAGE
unfolding nearest_index_of nearest_checks first_of refused_or
returns-then-lab-ne-STORAGE c = refused _ _ _ _ (rw (le-ltb _ _ c.if-k-gt-MAX_ENTRIES.false, ne_eqb _ _ c.if-lab-ne-STORAGE.true))

pub slice_bounds-any_unfit_in-end : goal.slice_bounds-any_unfit_in-end
slice_bounds-any_unfit_in-end c = sym (length-take-le _ _ (omega arith))

pub returns-then-any_unfit_in : goal.returns-then-any_unfit_in
unfolding nearest_index_of nearest_checks first_of refused_or
returns-then-any_unfit_in c = refused _ _ _ _ (rw (le-ltb _ _ c.if-k-gt-MAX_ENTRIES.false, eq-eqb _ _ c.if-lab-ne-STORAGE.false, ← c.any_unfit_in.ensures, c.if-any_unfit_in.true))

pub returns-then-unfit_triple : goal.returns-then-unfit_triple
unfolding nearest_index_of nearest_checks first_of refused_or
returns-then-unfit_triple c = let h = past-storage (goal.at.returns-then-unfit_triple c).Else-any_unfit_in in refused _ _ _ _ (rw (h.few, h.sized, h.fit, ← c.unfit_triple.ensures, c.if-unfit_triple.true))

pub returns-then-k-eq0 : goal.returns-then-k-eq0
unfolding nearest_index_of nearest_checks first_of refused_or
returns-then-k-eq0 c = let h = past-storage (goal.at.returns-then-k-eq0 c).Else-any_unfit_in in refused _ _ _ _ (rw (h.few, h.sized, h.fit, past-triple (goal.at.returns-then-k-eq0 c).Else-unfit_triple, eq-eqb _ _ c.if-k-eq0.true))

pub returns : goal.returns
unfolding nearest_index_of nearest_checks first_of refused_or
returns c =
    let h = past-storage (goal.at.returns c).Else-any_unfit_in in
    entry _ _ _ _
    c.search_in-s.ensures.near
    (found _ _ _ (past-triple (goal.at.returns c).Else-unfit_triple) h.fit (omega arith) (omega arith))
    (rw (h.few, h.sized, h.fit, past-triple (goal.at.returns c).Else-unfit_triple, ne_eqb _ _ c.if-k-eq0.false))
