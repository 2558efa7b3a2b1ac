-- `sound`: each early answer contradicts the fact of its clause, and past them all facts hold. Assumes nothing.
use mathlib.Core.Path.{sym, ◌∙◌}
use mathlib.Core.Bool.{true≢false}
use mathlib.Core.Logic.{inl, inr, ⊎_elim}
use native.Mathlib.Omega.{arith}
use borrow.Author.Tests.{ltb-true, not-true, not-false}
use Rattle.history_ledger.proofs.Soundness.{sound-yes, sound-no}
use Rattle.history_handle.proofs.sound.Goals as goal

pub returns-then-end-offset : goal.returns-then-end-offset
returns-then-end-offset c = sym (sound-no _ _ (λ s. omega (arith, s.ends)))

pub returns-then-size-end : goal.returns-then-size-end
returns-then-size-end c = sym (sound-no _ _ (λ s. omega (arith, s.fits)))

pub returns-then-count-position : goal.returns-then-count-position
returns-then-count-position c = sym (sound-no _ _ (λ s. omega (arith, s.stands)))

pub returns-then-count-saved : goal.returns-then-count-saved
returns-then-count-saved c = sym (sound-no _ _ (λ s. ⊎_elim c.if-saved.true (λ h. omega (arith, ltb-true)) s.saves))

pub returns-then-offset-position : goal.returns-then-offset-position
returns-then-offset-position c = sym (sound-no _ _ (λ s. omega (arith, s.before)))

pub returns-then-end-offset-2 : goal.returns-then-end-offset-2
returns-then-end-offset-2 c = sym (sound-no _ _ (λ s. omega (arith, s.after)))

pub returns-then-offset-position-2 : goal.returns-then-offset-position-2
returns-then-offset-position-2 c = sym (sound-no _ _ (λ s. true≢false (sym s.first ∙ not-true _ c.if-offset-position-2.true)))

pub returns-then-offset-end : goal.returns-then-offset-end
returns-then-offset-end c = sym (sound-no _ _ (λ s. true≢false (sym s.last ∙ not-true _ c.if-offset-end.true)))

pub returns : goal.returns
returns c =
    sym
    (sound-yes _ _
    (record {
      ends = omega arith;
      fits = omega arith;
      stands = omega arith;
      saves = ⊎_elim (λ w. inr w.1) (λ w. inl w) c.else-saved.either;
      before = omega arith;
      after = omega arith;
      first = not-false _ c.if-offset-position-2.false;
      last = not-false _ c.if-offset-end.false;
    }))
