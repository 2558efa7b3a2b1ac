-- `lab_in`: the curve, then the steps after it. Assumes nothing.
use mathlib.Core.Path.{ap, ◌∙◌}
use Rattle.color_lab.specs.Convert.{lab_of_linear, lab_of}
use Rattle.color_lab.proofs.convert.lab_in.Goals as goal

pub linear_rgb_in-requires : goal.linear_rgb_in-requires
linear_rgb_in-requires c = c.requires

pub lab_of_linear-requires : goal.lab_of_linear-requires
lab_of_linear-requires c = c.linear_rgb_in.ensures.1

pub returns : goal.returns
unfolding lab_of
returns c =
    let made = c.lab_of_linear.ensures in
    record { value = made.value ∙ ap lab_of_linear c.linear_rgb_in.ensures.0; finite = made.finite }
