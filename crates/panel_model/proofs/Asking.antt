-- What each frame asks for, as the definitions have it. Assumes nothing.
use Prim.Native.Nat.{ℕ, ◌≤◌}
use mathlib.Core.Path.{◌≡◌, refl, ap}
use mathlib.Core.List.{List, map}
use native.Mathlib.Omega.{arith}
use lib.ListN.{length, take}
use Rattle.base.specs.declared.Edit.TheVariants as edit
use Rattle.base.specs.declared.Removal.{Removal}
use Rattle.base.specs.declared.Removal.TheVariants as removal
use Rattle.base.specs.declared.Rgb.{Rgb}
use Rattle.base.proofs.Mapped.{map-take}
use Rattle.color_curve.specs.Curve.{srgb}
use Rattle.edit.specs.Change.{Change, unpacked}
use Rattle.edit_entries.specs.Unfilled.{no_lab}
use Rattle.palette_model.specs.Removal.{remapped, merge_entries_of}
use Rattle.history_ledger.specs.Calls.Call.{push}
use Rattle.history_ledger.specs.Journal.{step}
use Rattle.history_model.specs.Calls.{state_of}
use Rattle.history_model.specs.Document.{Document}
use Rattle.history_model.specs.Editing.{editing_by}
use Rattle.panel_frames.specs.declared.Frame.TheVariants.{Open, Pixels, Set, Add, Merge, Undo, Redo, Mark, Malformed}
use Rattle.panel_model.specs.declared.Asked.TheVariants as asked
use Rattle.panel_model.specs.Acts.{given, actBy}
use Rattle.panel_model.specs.Asks.{answered, Listed, Asks, asked_by}
use Rattle.panel_model.proofs.Merging.{merge-room, merge-made, merge-refused}

module _ (d : Document) (list : List ℕ) where
  pub asks-opening : (w h k : ℕ) → Asks d (Open w h k) list (asked.Refused 22) list
  unfolding answered actBy Listed
  asks-opening w h k = record { listed = tt; answers = λ f room journal handle. refl }

  pub asks-pixels : (tool n : ℕ) → n ≤ length list → Asks d (Pixels tool n) list (asked.Push (edit.Pixels tool) n) list
  unfolding answered actBy Listed
  asks-pixels tool n fits =
      record {
        listed = fits;
        answers =
            λ f room journal handle.
            ap (λ (cs : List Change). step (editing_by f srgb) room (state_of d journal handle) (push (given (edit.Pixels tool) cs)))
            (map-take unpacked n list);
      }

  pub asks_set : (i : ℕ) (c : Rgb) → Asks d (Set i c) list (asked.Push (edit.PaletteSet i c c no_lab) 0) list
  unfolding answered actBy Listed
  asks_set i c = record { listed = omega arith; answers = λ f room journal handle. refl }

  pub asks-add : (c : Rgb) → Asks d (Add c) list (asked.Push (edit.PaletteAdd c) 0) list
  unfolding answered actBy Listed
  asks-add c = record { listed = omega arith; answers = λ f room journal handle. refl }

  pub asks-undo : Asks d Undo list asked.Undo list
  unfolding answered actBy Listed
  asks-undo = record { listed = tt; answers = λ f room journal handle. refl }

  pub asks-redo : Asks d Redo list asked.Redo list
  unfolding answered actBy Listed
  asks-redo = record { listed = tt; answers = λ f room journal handle. refl }

  pub asks-mark : Asks d Mark list asked.Mark list
  unfolding answered actBy Listed
  asks-mark = record { listed = tt; answers = λ f room journal handle. refl }

  pub asks-malformed : Asks d Malformed list (asked.Refused 22) list
  unfolding answered actBy Listed
  asks-malformed = record { listed = tt; answers = λ f room journal handle. refl }

  -- with what `merge_entries` answers, and the list that it leaves
  pub asks-merge : (from into : ℕ) → length d.sheet.indices ≤ length list → (r : Removal) (after : List ℕ)
      → remapped r after ≡ merge_entries_of d.sheet d.locks from into list → length after ≡ length list
      → Asks d (Merge from into) list (asked_by r) after
  unfolding answered actBy Listed asked_by
  asks-merge from into fits (removal.Made e n) after q s =
      record { listed = merge-room d from into list fits e n after q s; answers = merge-made d from into list fits e n after q }
  asks-merge from into fits (removal.Refused n) after q s =
      record { listed = tt; answers = merge-refused d from into list fits n after q }
