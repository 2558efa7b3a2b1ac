-- Two palettes joined to one: document 02, E8, on lists of entries. Definitions only. Assumes nothing.
use Rattle.std.specs.Prelude.{◌≡◌, Bool, true, cond, ℕ, suc, ◌≤◌, ◌<◌, ℤ, pos, negsuc, Float, length, take, get_or}
use mathlib.Core.List.{List, [], ◌∷◌, ◌++◌, map, flat_map}
use Rattle.base.specs.declared.Rgb.{Rgb}
use Rattle.base.specs.declared.Lab.{Lab}
use Rattle.base.specs.Lists.{some, All, range}
use Rattle.base.specs.Triples.{rgb_at, lab_at}
use Rattle.edit.specs.Checks.{same_rgb}
use Rattle.edit.specs.Locks.{lock_at}
use Rattle.edit.specs.Storage.{bytes_of, numbers_of}

-- an entry: its colour, and what travels with it, "LAB bits and lock mark"
pub record Entry : Type 0 where
  pub rgb : Rgb
  pub lab : Lab
  pub lock : Bool

-- the entry at i of palette storage, LAB storage and marks; and the k entries
abbrev pub entry_at : List ℕ → List Float → List Bool → ℕ → Entry
entry_at palette lab locks i = record { rgb = rgb_at palette i; lab = lab_at lab i; lock = lock_at locks i }

unfoldable pub entries_of : ℕ → List ℕ → List Float → List Bool → List Entry
entries_of k palette lab locks = map (entry_at palette lab locks) (range 0 k)

-- entries as storage has them: colours, LAB, marks
unfoldable pub colours_of : List Entry → List ℕ
colours_of es = flat_map (λ e. bytes_of e.rgb) es

unfoldable pub labs_of : List Entry → List Float
labs_of es = flat_map (λ e. numbers_of e.lab) es

unfoldable pub marks_of : List Entry → List Bool
marks_of es = map (λ e. e.lock) es

-- a colour is there
unfoldable pub has : List Entry → Rgb → Bool
has es c = some (λ e. same_rgb e.rgb c) es

-- "the first's entries in order, then each colour of the second that is not yet there, in its order"; an entry comes
-- with all that is its own, "from the sheet that brought it"
unfoldable pub joined : List Entry → List Entry → List Entry
joined there [] = there
joined there (e ∷ es) = joined (cond (has there e.rgb) there (there ++ (e ∷ []))) es

-- "the first joined entry of its colour"
unfoldable pub place_of : List Entry → Rgb → ℕ
place_of [] c = 0
place_of (e ∷ es) c = cond (same_rgb e.rgb c) 0 (suc (place_of es c))

-- "a second index goes to the first joined entry of its colour": an index into `palette`; the transparent one stays
unfoldable pub moved_to : List Entry → List ℕ → ℤ → ℤ
moved_to all palette (pos n) = pos (place_of all (rgb_at palette n))
moved_to all palette (negsuc n) = negsuc n

abbrev pub rgb_of : Entry → Rgb
rgb_of e = e.rgb

-- ---- what is shown of it. Proved: `joins` in proofs/Joined.antt
pub record Joins (first second : List Entry) : Type 0 where
  -- "the first's entries in order"
  pub begins : take (length first) (joined first second) ≡ first
  -- an entry of the second stands, with its colour, where its index goes
  pub shows : (n : ℕ) (d : Entry) → n < length second
      → let c = (get_or second n d).rgb in
      (place_of (joined first second) c < length (joined first second))
      × ((get_or (joined first second) (place_of (joined first second) c) d).rgb ≡ c)
  -- "No palette that begins with the first's entries and holds every colour of the second has fewer entries"
  pub least : (palette : List Entry) → map rgb_of (take (length first) palette) ≡ map rgb_of first
      → All (λ e. has palette e.rgb ≡ true) second → length (joined first second) ≤ length palette
