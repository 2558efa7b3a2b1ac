-- The trace of a history: the accepted pushes before and after the standing position, each with the sheet that it met. Journal, handle and ledger are computed from
-- it, so that what holds of every state on the way is a few facts on pictures and none on bytes. Assumes nothing.
use mathlib.Core.Path.{◌≡◌, refl, sym, ◌∙◌}
use mathlib.Core.List.{List, [], ◌∷◌, ◌++◌, append_assoc}
use mathlib.Core.Option.{Option, some}
use Prim.Native.Nat.{ℕ, ◌+◌, ◌≤◌}
use native.Mathlib.Omega.{arith}
use lib.ListN.{length, get_or, length-append}
use lib.Seq.{get_or_at}
use Rattle.base.specs.declared.Handle.{Handle}
use Rattle.history_ledger.specs.Algebra.{Algebra, WellFormedIn}
use Rattle.history_ledger.specs.Laws.{Accepts}
use Rattle.history_ledger.specs.Journal.{State}
use Rattle.history_ledger.specs.Ledger.{Ledger, standing}
use Rattle.history_ledger.specs.Tally.{total}
use Rattle.history_ledger.proofs.Saved.{saved_number, SavedWithin}

module _ (A : Algebra) where
  open A use {Sheet, Picture, Edit, view, places, encode, size, paint}

  -- an accepted push, with the sheet that it met
  pub record Pushed : Type 0 where
    pub from : Sheet
    pub by : Edit
    pub ok : Accepts A from by

  abbrev pub before : Pushed → Picture
  before x = view x.from

  abbrev pub after : Pushed → Picture
  after x = paint (view x.from) x.by

  abbrev pub bytes : Pushed → List ℕ
  bytes x = encode x.from x.by

  abbrev pub sizes : List Pushed → List ℕ
  sizes [] = []
  sizes (x ∷ xs) = size x.by ∷ sizes xs

  -- the pushes before the standing position, the last first: their records and pictures
  abbrev pub pastBytes : List Pushed → List ℕ
  pastBytes [] = []
  pastBytes (x ∷ xs) = pastBytes xs ++ bytes x

  abbrev pub pastPictures : List Pushed → List Picture
  pastPictures [] = []
  pastPictures (x ∷ xs) = pastPictures xs ++ (after x ∷ [])

  -- those after it, the next first
  abbrev pub futureBytes : List Pushed → List ℕ
  futureBytes [] = []
  futureBytes (x ∷ xs) = bytes x ++ futureBytes xs

  abbrev pub futurePictures : List Pushed → List Picture
  futurePictures [] = []
  futurePictures (x ∷ xs) = after x ∷ futurePictures xs

  -- the past leads from the opening picture o to p, and the future goes on from p, picture by picture
  abbrev pub Leads : Picture → List Pushed → Picture → Type 0
  Leads o [] p = p ≡ o
  Leads o (x ∷ xs) p = (p ≡ after x) × Leads o xs (before x)

  abbrev pub Follows : Picture → List Pushed → Type 0
  Follows p [] = Unit {0}
  Follows p (x ∷ xs) = (p ≡ before x) × Follows (after x) xs

  -- `rest` is what the journal holds past its end
  pub record Trace : Type 0 where
    pub opening : Picture
    pub sheet : Sheet
    pub past : List Pushed
    pub future : List Pushed
    pub rest : List ℕ
    pub saved : Option ℕ

  abbrev pub journalOf : Trace → List ℕ
  journalOf k = pastBytes k.past ++ (futureBytes k.future ++ k.rest)

  abbrev pub handle_of : Trace → Handle
  handle_of k =
      record {
        offset = total (sizes k.past);
        end = total (sizes k.past) + total (sizes k.future);
        position = length k.past;
        count = length k.past + length k.future;
        saved = saved_number k.saved;
      }

  abbrev pub state_of : Trace → State Sheet
  state_of k = record { sheet = k.sheet; journal = journalOf k; handle = handle_of k }

  abbrev pub ledgerOf : Trace → Ledger A
  ledgerOf k =
      record {
        opening = k.opening;
        later = pastPictures k.past ++ futurePictures k.future;
        position = length k.past;
        saved = k.saved;
      }

  -- what holds of every trace on the way, in a journal of n bytes and with `room` places of scratch
  pub record Holds (room n : ℕ) (k : Trace) : Type 0 where
    pub fits : WellFormedIn A k.sheet
    pub scratch : places (view k.sheet) ≤ room
    pub sized : length (journalOf k) ≡ n
    pub leads : Leads k.opening k.past (view k.sheet)
    pub follows : Follows (view k.sheet) k.future
    pub saves : SavedWithin (length k.past + length k.future) k.saved

  -- at the start
  abbrev pub begin : Sheet → List ℕ → Trace
  begin s journal = record { opening = view s; sheet = s; past = []; future = []; rest = journal; saved = some 0 }

  pub begins : (s : Sheet) (journal : List ℕ) (room : ℕ) → WellFormedIn A s → places (view s) ≤ room → Holds room (length journal) (begin s journal)
  begins s journal room w b = record { fits = w; scratch = b; sized = refl; leads = refl; follows = tt; saves = omega arith }

  pub pictures-length : (xs : List Pushed) → length (pastPictures xs) ≡ length xs
  pictures-length [] = refl
  pictures-length (x ∷ xs) = omega (arith, length-append (pastPictures xs) (after x ∷ []), pictures-length xs)

  -- the ledger's standing picture is the sheet's
  pub stands : (k : Trace) → Leads k.opening k.past (view k.sheet) → view k.sheet ≡ standing A (ledgerOf k)
  unfolding standing
  stands k h = go k.past h
    where
      go : (xs : List Pushed) → Leads k.opening xs (view k.sheet)
          → view k.sheet ≡ get_or (k.opening ∷ (pastPictures xs ++ futurePictures k.future)) (length xs) k.opening
      go [] h = h
      go (x ∷ xs) h =
          h.0 ∙ rw append_assoc (sym (get_or_at (pastPictures xs) (after x) (futurePictures k.future) k.opening (length xs) (pictures-length xs)))
