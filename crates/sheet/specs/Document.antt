-- `with_lab`, `new` and `get_at` of document.rs: their checks and their answers. Definitions only. Assumes nothing.
use Rattle.std.specs.Prelude.{ℕ, ◌+◌, ◌*◌, Bool, true, false, ◌&&◌, cond, List, [], ◌∷◌, ◌++◌, ltb, ℤ, pos, negsuc, Float, get_or, take, replicate}
use Rattle.std.proofs.Math.Option.{Option, none, some}
use Rattle.base.specs.Numbers.{too_far}
use Rattle.base.specs.Checks.{◌when◌, checked}
use Rattle.base.specs.declared.Rgb.{Rgb}
use Rattle.base.specs.declared.Lab.{Lab}
use Rattle.base.specs.declared.Answer.{Answer}
use Rattle.base.specs.Answer.{Told, Done, answer_told}
use Rattle.base.specs.Answer.Told.{result, alone}
use Rattle.base.specs.Lists.{over}
use Rattle.base.specs.Ints.{far}
use Rattle.color_lab.specs.Convert.{lab_of}
use Rattle.sheet.specs.Sheet.{Sheet}
use Rattle.sheet.specs.Checks.{limit_checks, mark_checks, index_checks, sheet_checks}

-- ---- an opening: "Each entry has a lock mark, false at opening" (document 02, E5); the marks past the k entries keep
unfoldable pub cleared_marks : ℕ → List Bool → List Bool
cleared_marks k locks = over (replicate k false) locks

-- ---- `with_lab`: the checks, then the marks
pub record Opened : Type 0 where
  pub answer : Told (Unit {0})
  pub locks : List Bool

abbrev pub opening : Told (Unit {0}) → List Bool → Opened
opening told locks = record { answer = told; locks = locks }

abbrev pub opened : Answer → List Bool → Opened
opened a locks = opening (answer_told a) locks

unfoldable pub with_lab_of : Sheet → List Bool → Opened
with_lab_of s locks = checked (sheet_checks (mark_checks locks) s) (λ n. opening (alone n) locks) (opening Done (cleared_marks s.k locks))

-- ---- `new`: LAB is not read; that of the k entries is worked out from their bytes, and the rest keeps; then the marks
-- the LAB of colours that stand one after the other, three bytes each, by a curve; and by sRGB
unfoldable pub labs_by : (Rgb → Lab) → List ℕ → List Float
labs_by curve (r ∷ g ∷ b ∷ rest) = let x = curve (record { r = r; g = g; b = b }) in x.l ∷ x.a ∷ x.b ∷ labs_by curve rest
labs_by curve (r ∷ g ∷ []) = []
labs_by curve (r ∷ []) = []
labs_by curve [] = []

abbrev pub labs_of : List ℕ → List Float
labs_of = labs_by lab_of

unfoldable pub new_lab : Sheet → List Float
new_lab s = over (labs_of (take (3 * s.k) s.palette)) s.lab

pub record New : Type 0 where
  pub answer : Told (Unit {0})
  pub lab : List Float
  pub locks : List Bool

abbrev pub new_leaving : Told (Unit {0}) → List Float → List Bool → New
new_leaving told lab locks = record { answer = told; lab = lab; locks = locks }

abbrev pub new_made : Answer → List Float → List Bool → New
new_made a lab locks = new_leaving (answer_told a) lab locks

unfoldable pub new_of : Sheet → List Bool → New
new_of s locks =
    checked (limit_checks s ++ (mark_checks locks ++ index_checks s))
    (λ n. new_leaving (alone n) s.lab locks)
    (new_leaving Done (new_lab s) (cleared_marks s.k locks))

-- ---- `get_at`: "The index at a pointer position, or `None` outside the image"
unfoldable pub index_at : ℕ → ℕ → List ℤ → ℤ → ℤ → Option ℤ
index_at w h indices (pos x) (pos y) = cond (ltb x w && ltb y h) (some (get_or indices (y * w + x) (pos 0))) none
index_at w h indices (pos x) (negsuc y) = none
index_at w h indices (negsuc x) y = none

unfoldable pub get_at_of : Sheet → ℤ → ℤ → Told (Option ℤ)
get_at_of s x y = checked (sheet_checks [] s ++ (too_far when far x ∷ too_far when far y ∷ [])) alone (result (index_at s.w s.h s.indices x y))

-- ---- a mark: 1 or 0
abbrev pub mark : Bool → ℕ
mark true = 1
mark false = 0
