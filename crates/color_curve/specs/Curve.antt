-- A maker's own curve: document 02, E6. Definitions only. Assumes nothing.
use Rattle.std.specs.Prelude.{◌≡◌, Bool, true, false, not, ◌&&◌, cond, List, [], ◌∷◌, ℕ, eqb, Float, length, get_or}
use Rattle.std.specs.Float.{nan}
use Rattle.std.specs.Float.Ieee.{lt, eq}
use Rattle.base.specs.Numbers.{unfit_curve}
use Rattle.base.specs.Checks.{Check, ◌when◌, first_of, checked}
use Rattle.base.specs.Answer.{Told, triple_told}
use Rattle.base.specs.Answer.Told.{result, alone}
use Rattle.base.specs.declared.Rgb.{Rgb}
use Rattle.base.specs.declared.Lab.{Lab}
use Rattle.base.specs.declared.Triple.{Triple}
use Rattle.color_doubles.specs.Arithmetic.{decimal}
use Rattle.color_lab.specs.Convert.{lab_of, lab_of_linear, FiniteLab}

-- the curve of a session: one that was loaded, or sRGB's; not loaded, the values are not looked at
pub record Curve : Type 0 where
  pub loaded : Bool
  pub values : List Float

abbrev pub curve_of : Bool → List Float → Curve
curve_of loaded values = record { loaded = loaded; values = values }

abbrev pub srgb : Curve
srgb = curve_of false []

-- "each greater than the one before"
unfoldable pub rising : List Float → Bool
rising [] = true
rising (x ∷ []) = true
rising (x ∷ y ∷ rest) = lt x y && rising (y ∷ rest)

-- the value of a byte; none is no number
abbrev pub value_at : List Float → ℕ → Float
value_at values b = get_or values b nan

-- "256 doubles: the first 0, the last 1, each greater than the one before"; by value, so that the first may be -0.0
unfoldable pub fit_curve : List Float → Bool
fit_curve values =
    eqb (length values) 256 && (eq (value_at values 0) (decimal 0 0) && (eq (value_at values 255) (decimal 1 0) && rising values))

-- the LAB of a colour from a curve's values, "in the same steps"
unfoldable pub lab_on : List Float → Rgb → Lab
lab_on values c = lab_of_linear (record { r = value_at values c.r; g = value_at values c.g; b = value_at values c.b })

-- the LAB of a colour in a session
abbrev pub lab_by : Curve → Rgb → Lab
lab_by c = cond c.loaded (lab_on c.values) lab_of

-- 25: "when there are not 256 or one of the three rules fails"
abbrev pub curve_checks : Curve → List Check
curve_checks c = unfit_curve when (c.loaded && not (fit_curve c.values)) ∷ []

-- a curve that a session may have
abbrev pub CurveFits : Curve → Type 0
CurveFits c = first_of (curve_checks c) ≡ 0

-- ---- the LAB of one colour: 25, or a triple, whose numbers are finite
unfoldable pub lab_by_of : Curve → Rgb → Told Lab
lab_by_of c rgb = checked (curve_checks c) alone (result (lab_by c rgb))

pub record LabBy (c : Curve) (rgb : Rgb) (r : Triple) : Type 0 where
  pub value : triple_told r ≡ lab_by_of c rgb
  pub finite : (x : Lab) → triple_told r ≡ result x → FiniteLab x
