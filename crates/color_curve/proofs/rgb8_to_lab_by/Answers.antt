-- `rgb8_to_lab_by`: 25, or the LAB of the colour. Assumes nothing.
use mathlib.Core.Path.{sym, ap, subst, ◌∙◌}
use borrow.Author.Rules.{rules}
use Rattle.color_curve.specs.Curve.{lab_by_of}
use Rattle.base.specs.Answer.Told.{result}
use Rattle.base.proofs.Told.{alone-other, same-result}
use Rattle.color_lab.specs.Convert.{FiniteLab}
use Rattle.base.proofs.First.{refused-first, result-first}
use Rattle.color_curve.proofs.rgb8_to_lab_by.Goals as goal

pub returns-then-no-ne0 : goal.returns-then-no-ne0
unfolding lab_by_of
returns-then-no-ne0 c = record { value = refused-first _ _ _ _ c.curve_no-no.ensures c.if-no-ne0.true; finite = λ x e. absurd (alone-other e) }

pub returns : goal.returns
unfolding lab_by_of
returns c =
    let made = c.lab_by.ensures in
    record {
      value = ap result made.value ∙ result-first _ _ _ (sym c.curve_no-no.ensures ∙ c.if-no-ne0.false);
      finite = λ x e. subst FiniteLab (same-result e) made.finite;
    }
