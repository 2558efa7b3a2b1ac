-- The lengths in a trace: of its records and of its journal. So its handle is sound, and undo and redo read its records. Assumes nothing.
use mathlib.Core.Path.{◌≡◌, refl}
use mathlib.Core.Bool.{true}
use mathlib.Core.List.{List, [], ◌∷◌, ◌++◌}
use Prim.Native.Nat.{◌+◌, ◌-◌, ◌*◌, ◌≤◌, ◌<◌}
use native.Mathlib.Omega.{arith}
use lib.ListN.{length, take, drop, length-append}
use lib.Seq.{take_at, drop_at}
use Rattle.history_ledger.specs.Handle.{nowhere, saved_position, sound}
use Rattle.history_ledger.specs.Algebra.{Algebra}
use Rattle.history_ledger.specs.Laws.{Laws}
use Rattle.history_ledger.proofs.Soundness.{exactly, sound-yes}
use Rattle.history_ledger.proofs.Saved.{SavedWithin, saved-sound, saved_read}
use Rattle.history_ledger.specs.Tally.{total}
use Rattle.history_ledger.proofs.Trace.{Trace, Pushed, bytes, sizes, pastBytes, futureBytes, journalOf, handle_of}

module _ (A : Algebra) (L : Laws A) where
  pub past-length : (xs : List (Pushed A)) → length (pastBytes A xs) ≡ total (sizes A xs)
  past-length [] = refl
  past-length (x ∷ xs) = omega (arith, length-append (pastBytes A xs) (bytes A x), past-length xs, L.encode-length x.from x.by x.ok)

  pub future-length : (xs : List (Pushed A)) → length (futureBytes A xs) ≡ total (sizes A xs)
  future-length [] = refl
  future-length (x ∷ xs) = omega (arith, length-append (bytes A x) (futureBytes A xs), future-length xs, L.encode-length x.from x.by x.ok)

  -- a record has 8 bytes at least
  sizes-least : (xs : List (Pushed A)) → 8 * length xs ≤ total (sizes A xs)
  sizes-least [] = omega arith
  sizes-least (x ∷ xs) = omega (arith, sizes-least xs, L.size-least x.by)

  sizes-none : (xs : List (Pushed A)) → length xs ≡ 0 → total (sizes A xs) ≡ 0
  sizes-none [] e = refl
  sizes-none (x ∷ xs) e = omega arith

  used-length : (k : Trace A) → length (journalOf A k) ≡ total (sizes A k.past) + total (sizes A k.future) + length k.rest
  used-length k =
      omega (
        arith,
        length-append (pastBytes A k.past) (futureBytes A k.future ++ k.rest),
        length-append (futureBytes A k.future) k.rest,
        past-length k.past,
        future-length k.future,
      )

  -- the handle is sound where the saved position lies within the count
  pub sound-handle : (k : Trace A) → SavedWithin (length k.past + length k.future) k.saved → sound (length (journalOf A k)) (handle_of A k) ≡ true
  sound-handle k s =
      let p = k.past in
      let f = k.future in
      sound-yes _ _
      (record {
        ends = omega arith;
        fits = omega (arith, used-length k);
        stands = omega arith;
        saves = saved-sound (length p + length f) k.saved s;
        before = sizes-least p;
        after = omega (arith, sizes-least f);
        first = exactly (total (sizes A p)) 0 (length p) 0 (λ e. omega (arith, sizes-least p)) (sizes-none p);
        last =
            exactly (total (sizes A p)) (total (sizes A p) + total (sizes A f)) (length p) (length p + length f)
            (λ e. omega (arith, sizes-least f))
            (λ e. omega (arith, sizes-none f (omega arith)));
      })

  -- the saved position can be told from none
  pub saved-told : (k : Trace A) → length (journalOf A k) < nowhere → SavedWithin (length k.past + length k.future) k.saved
      → saved_position (handle_of A k) ≡ k.saved
  unfolding saved_position
  saved-told k b s =
      saved_read (length k.past + length k.future) k.saved
      (omega (arith, used-length k, sizes-least k.past, sizes-least k.future))
      s

  -- undo reads the past's records, and redo the future's
  pub take_past : (k : Trace A) → take (total (sizes A k.past)) (journalOf A k) ≡ pastBytes A k.past
  take_past k = take_at (pastBytes A k.past) (futureBytes A k.future ++ k.rest) (total (sizes A k.past)) (past-length k.past)

  pub take-future : (k : Trace A)
      → take ((total (sizes A k.past) + total (sizes A k.future)) - total (sizes A k.past)) (drop (total (sizes A k.past)) (journalOf A k))
      ≡ futureBytes A k.future
  take-future k =
      let p = k.past in
      let f = k.future in
      rw (drop_at (pastBytes A p) (futureBytes A f ++ k.rest) (total (sizes A p)) (past-length p))
      (take_at (futureBytes A f) k.rest ((total (sizes A p) + total (sizes A f)) - total (sizes A p)) (omega (arith, future-length f)))
