-- A form's kinds are told apart by their numbers. Assumes nothing.
use mathlib.Core.Path.{◌≡◌, refl}
use Rattle.base.specs.declared.Form.{Form}
use Rattle.base.specs.declared.Form.TheVariants.{Coordinates, Places}
use Rattle.journal_record.specs.Record.{pixels_kind, remove_kind, by_kind}

module _ {R : Type 0} (pixels set add remove lock other : R) where
  pub kind-pixels : (f : Form) → by_kind f (pixels_kind f) pixels set add remove lock other ≡ pixels
  unfolding by_kind
  kind-pixels Coordinates = refl
  kind-pixels Places = refl

  pub kind-set : (f : Form) → by_kind f 2 pixels set add remove lock other ≡ set
  unfolding by_kind
  kind-set Coordinates = refl
  kind-set Places = refl

  pub kind-add : (f : Form) → by_kind f 3 pixels set add remove lock other ≡ add
  unfolding by_kind
  kind-add Coordinates = refl
  kind-add Places = refl

  pub kind-remove : (f : Form) → by_kind f (remove_kind f) pixels set add remove lock other ≡ remove
  unfolding by_kind
  kind-remove Coordinates = refl
  kind-remove Places = refl

  pub kind-lock : (f : Form) → by_kind f 5 pixels set add remove lock other ≡ lock
  unfolding by_kind
  kind-lock Coordinates = refl
  kind-lock Places = refl
