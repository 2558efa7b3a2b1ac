-- `lab_of_linear`: each ratio is at most 2, and the results are the definition's. Assumes nothing.
use mathlib.Core.Path.{◌≡◌, ap, ◌∙◌}
use lib.Ieee.{Float, binary64, of_bits, round, div}
use Rattle.color_doubles.specs.Arithmetic.{decimal}
use Rattle.color_lab.specs.Convert.{lab_f, x_of, y_of, z_of, lab_from, lab_of_linear}
use Rattle.color_lab.proofs.Range.{x-small, y-small, z-small, lab-finite}
use Rattle.color_lab.proofs.convert.lab_of_linear.Goals as goal

same-lab : {x y z x' y' z' : Float} → x ≡ x' → y ≡ y' → z ≡ z' → lab_from x y z ≡ lab_from x' y' z'
same-lab p q r = cc

pub lab_f-fx-requires : goal.lab_f-fx-requires
unfolding x_of decimal round of_bits
lab_f-fx-requires c = rw c.row-x.ensures (x-small _ c.requires)

pub lab_f-fy-requires : goal.lab_f-fy-requires
unfolding y_of decimal round of_bits
lab_f-fy-requires c = rw c.row-y.ensures (y-small _ c.requires)

pub lab_f-fz-requires : goal.lab_f-fz-requires
unfolding z_of decimal round of_bits
lab_f-fz-requires c = rw c.row-z.ensures (z-small _ c.requires)

pub returns : goal.returns
unfolding lab_of_linear lab_from x_of y_of z_of decimal round of_bits
returns c =
    let fx = c.lab_f-fx.ensures in
    let fy = c.lab_f-fy.ensures in
    let fz = c.lab_f-fz.ensures in
    record {
      value =
          same-lab
          (fx.value ∙ ap (λ (w : Float). lab_f (div binary64 w (decimal 95047 5))) c.row-x.ensures)
          (fy.value ∙ ap (λ (w : Float). lab_f (div binary64 w (decimal 1 0))) c.row-y.ensures)
          (fz.value ∙ ap (λ (w : Float). lab_f (div binary64 w (decimal 108883 5))) c.row-z.ensures);
      finite = lab-finite _ _ _ fx.small fy.small fz.small;
    }
