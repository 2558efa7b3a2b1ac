-- What `extract` answers, by what its tests find. Assumes nothing.
use mathlib.Core.Path.{◌≡◌}
use mathlib.Core.List.{List}
use Prim.Native.Nat.{ℕ, ◌*◌, ◌%◌, ◌<◌, ◌≤◌}
use native.Mathlib.Omega.{arith}
use borrow.Author.Tests.{lt-ltb, le-ltb, eq-eqb, ne_eqb}
use lib.IntN.{ℤ}
use lib.ListN.{length}
use Rattle.base.specs.Checks.{first_of, refused_or}
use Rattle.base.specs.Lists.{over}
use Rattle.sheet.specs.Sheet.{Sheet}
use Rattle.sheet.specs.Checks.{WellFormed, Judged}
use Rattle.sheet.proofs.Judging.{past-sheet, refused-sheet}
use Rattle.tile_cells.specs.Cells.{Tiled, cell_count}
use Rattle.tile_cells.specs.Extract.{extract_of, tiles_of, map_of}
use Rattle.tile_cells.specs.Ids.{firsts_below}
use Rattle.base.specs.declared.Extraction.TheVariants.{Made, Refused}
use Rattle.tile_extract.specs.Extracts.{Left, left, side_checks, extracted_in, extract_call}
use Rattle.tile_layout.proofs.Laid.{unique-count, entries-count, tiles-long, map-long}

-- ---- the two buffers of `extract`
module _ (w h t : ℕ) (l tiles : List ℤ) (map : List ℕ) where
  abbrev m : ℕ
  m = length (firsts_below w t l (cell_count w h t))

  pub tiles-short : length tiles < m * (t * t) → left (Refused 16) tiles map ≡ extracted_in w h t l tiles map
  unfolding extracted_in first_of refused_or
  tiles-short a = rw (tiles-long w h t l, lt-ltb _ _ a)

  module _ (a : m * (t * t) ≤ length tiles) where
    pub map-short : length map < cell_count w h t * 3 → left (Refused 16) tiles map ≡ extracted_in w h t l tiles map
    unfolding extracted_in first_of refused_or
    map-short b = rw (tiles-long w h t l, le-ltb _ _ a, map-long w h t l, lt-ltb _ _ b)

    pub both-done : cell_count w h t * 3 ≤ length map → (tiles' : List ℤ) (map' : List ℕ) → tiles' ≡ over (tiles_of (extract_of w h t l)) tiles → map' ≡ over (map_of (extract_of w h t l)) map
        → left (Made m (cell_count w h t)) tiles' map' ≡ extracted_in w h t l tiles map
    unfolding extracted_in first_of refused_or
    both-done b tiles' map' p q = rw (tiles-long w h t l, le-ltb _ _ a, map-long w h t l, le-ltb _ _ b, unique-count w h t l, entries-count w h t l, p, q)

-- ---- `extract`
module _ (s : Sheet) (t places : ℕ) (tiles : List ℤ) (map : List ℕ) where
  pub extract-sheet : (n : ℕ) → Judged s n → (n ≡ 0 → ⊥) → left (Refused n) tiles map ≡ extract_call s t places tiles map
  unfolding extract_call
  extract-sheet n j z = refused-sheet s _ (λ m. left (Refused m) tiles map) _ n j z

  module _ (f : WellFormed s) where
    pub extract-none : t ≡ 0 → left (Refused 17) tiles map ≡ extract_call s t places tiles map
    unfolding extract_call side_checks first_of refused_or
    extract-none a = rw (past-sheet s f _, eq-eqb _ _ a)

    module _ (a : t ≡ 0 → ⊥) where
      pub extract-wide : (s.w % t ≡ 0 → ⊥) → left (Refused 17) tiles map ≡ extract_call s t places tiles map
      unfolding extract_call side_checks first_of refused_or
      extract-wide b = rw (past-sheet s f _, ne_eqb _ _ a, ne_eqb _ _ b)

      module _ (b : s.w % t ≡ 0) where
        pub extract-high : (s.h % t ≡ 0 → ⊥) → left (Refused 17) tiles map ≡ extract_call s t places tiles map
        unfolding extract_call side_checks first_of refused_or
        extract-high c = rw (past-sheet s f _, ne_eqb _ _ a, eq-eqb _ _ b, ne_eqb _ _ c)

        module _ (c : s.h % t ≡ 0) where
          pub extract-scratch : places < s.w * s.h → left (Refused 16) tiles map ≡ extract_call s t places tiles map
          unfolding extract_call side_checks first_of refused_or
          extract-scratch d = rw (past-sheet s f _, ne_eqb _ _ a, eq-eqb _ _ b, eq-eqb _ _ c, lt-ltb _ _ d)

          pub extract-done : s.w * s.h ≤ places → {r : Left} → r ≡ extracted_in s.w s.h t s.indices tiles map → r ≡ extract_call s t places tiles map
          unfolding extract_call side_checks first_of refused_or
          extract-done d e = rw (past-sheet s f _, ne_eqb _ _ a, eq-eqb _ _ b, eq-eqb _ _ c, le-ltb _ _ d) e

      -- the core's demands
      pub tiled : s.w % t ≡ 0 → s.h % t ≡ 0 → Tiled s.w s.h t s.indices
      tiled b c =
          let l = f.limits in
          record { side = omega arith; across = b; down = c; w-small = l.w-small; h-small = l.h-small; long = l.indices-length }
