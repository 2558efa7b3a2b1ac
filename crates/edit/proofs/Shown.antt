-- An edit's checks ask only what the picture shows: an entry past the palette's count is refused before its colour is looked at. Assumes nothing.
use mathlib.Core.Path.{◌≡◌, refl, sym, ap₂, ◌∙◌}
use mathlib.Core.Bool.{Bool, true, false}
use mathlib.Core.List.{List}
use Prim.Native.Nat.{ℕ, ◌<◌}
use borrow.Author.Tests.{leb-false}
use lib.ListN.{take}
use lib.Seq.{get_or-take}
use lib.Dec.{leb}
use Rattle.base.specs.Checks.{first_of}
use Rattle.base.specs.declared.Rgb.{Rgb}
use Rattle.base.specs.declared.Lab.{Lab}
use Rattle.sheet.specs.Sheet.{Sheet, view}
use Rattle.sheet.specs.Checks.{WellFormed}
use Rattle.base.specs.declared.Edit.{Edit}
use Rattle.base.specs.declared.Edit.TheVariants.{Pixels, PaletteSet, PaletteAdd, PaletteRemove, PaletteLock}
use Rattle.edit.specs.Change.{Change}
use Rattle.edit.specs.List.{list_of}
use Rattle.edit.specs.Locks.{lock_at}
use Rattle.edit.proofs.Together.{own-apart, SamePixels, same-changes, same_left}
use Rattle.edit.specs.Checks.{head_checks, Permitted, own_checks, as_sheet}
use Rattle.edit.specs.Accepted.{Accepted}
use Rattle.edit.proofs.Entries.{colour-shown}

module _ (replay : Bool) (p : Permitted) (s : Sheet) (locks : List Bool) where
  abbrev SameHead : Edit → Type 0
  SameHead e = first_of (head_checks replay s locks p e) ≡ first_of (head_checks replay (as_sheet (view s)) (take s.k locks) p e)

  lock-shown : (i : ℕ) → i < s.k → lock_at (take s.k locks) i ≡ lock_at locks i
  lock-shown i h = get_or-take s.k locks i false h

  set-shown : (i : ℕ) (old new : Rgb) (lab : Lab) (b : Bool) → leb s.k i ≡ b → SameHead (PaletteSet i old new lab)
  unfolding first_of head_checks view
  set-shown i old new lab true q = rw q
  set-shown i old new lab false q = let h = leb-false s.k i q in rw (q, lock-shown i h, colour-shown s.palette s.k i h)

  remove-shown : (i : ℕ) (c : Rgb) (lab : Lab) (b : Bool) → leb s.k i ≡ b → SameHead (PaletteRemove i c lab)
  unfolding first_of head_checks view
  remove-shown i c lab true q = rw q
  remove-shown i c lab false q = let h = leb-false s.k i q in rw (q, lock-shown i h, colour-shown s.palette s.k i h)

  locked-shown : (i : ℕ) (old new : Bool) (b : Bool) → leb s.k i ≡ b → SameHead (PaletteLock i old new)
  unfolding first_of head_checks view
  locked-shown i old new true q = rw q
  locked-shown i old new false q = rw (q, lock-shown i (leb-false s.k i q))

  head-shown : (e : Edit) → SameHead e
  unfolding head_checks view
  head-shown (Pixels tool) = refl
  head-shown (PaletteSet i old new lab) = set-shown i old new lab (leb s.k i) refl
  head-shown (PaletteAdd c) = refl
  head-shown (PaletteRemove i c lab) = remove-shown i c lab (leb s.k i) refl
  head-shown (PaletteLock i old new) = locked-shown i old new (leb s.k i) refl

  pub checks-shown : (e : Edit) (cs : List Change) → first_of (own_checks replay s locks p e cs) ≡ first_of (own_checks replay (as_sheet (view s)) (take s.k locks) p e cs)
  unfolding view
  checks-shown e cs =
      let same : SamePixels (as_sheet (view s)) s = record { w = refl; h = refl; k = refl; indices = refl } in
      own-apart replay s locks p e cs ∙ rw (head-shown e, same-changes same replay (list_of e), same_left same (list_of e) cs) (sym (own-apart replay (as_sheet (view s)) (take s.k locks) p e cs))

-- two sheets that show one picture, with the same marks of its entries
pub same-checks : (replay : Bool) (p : Permitted) (e : Edit) (cs : List Change) (s t : Sheet) (locks marks : List Bool) → view t ≡ view s → take t.k marks ≡ take s.k locks
    → first_of (own_checks replay t marks p e cs) ≡ first_of (own_checks replay s locks p e cs)
same-checks replay p e cs s t locks marks v l =
    checks-shown replay p t marks e cs ∙ ap₂ (λ q m. first_of (own_checks replay (as_sheet q) m p e cs)) v l ∙ sym (checks-shown replay p s locks e cs)

pub accepted-shown : {s t : Sheet} {locks marks : List Bool} {p : Permitted} {e : Edit} {cs : List Change} → Accepted s locks p e cs → WellFormed t → view t ≡ view s
    → take t.k marks ≡ take s.k locks → Accepted t marks p e cs
accepted-shown {s} {t} {locks} {marks} {p} {e} {cs} a g v l =
    record { fits = g; unrefused = same-checks false p e cs s t locks marks v l ∙ a.unrefused; new-bytes = a.new-bytes }
