-- A frame that brings changes, and one that brings none. Assumes nothing.
use mathlib.Core.Path.{◌≡◌, refl, ap, ◌∙◌}
use mathlib.Core.Logic.{⊎_elim}
use mathlib.Core.List.{List, [], ◌∷◌, map}
use Prim.Native.Nat.{ℕ, zero, suc, ◌+◌, ◌*◌, ◌≤◌}
use native.Mathlib.Omega.{arith}
use lib.ListN.{take}
use lib.Seq.{take_at, take_all, get_or-take}
use types.Run.{OneOf}
use denote.Enum.Declared.{tag_of}
use Rattle.base.specs.Lists.{over}
use Rattle.base.specs.declared.Form.{Form}
use Rattle.edit.specs.Change.{Change, unpacked}
use Rattle.history_ledger.specs.Journal.{State}
use Rattle.history_model.specs.Document.{Document}
use Rattle.panel_frames.specs.Reading.{size_of, change_at, changes_from}
use Rattle.panel_frames.proofs.Changes.{length-changes}
use Rattle.panel_frames.specs.declared.Frame.{Frame}
use Rattle.panel_frames.specs.declared.Frame.TheVariants.{Open, Pixels, Set, Add, Merge, Undo, Redo, Mark, Malformed}
use Rattle.panel_frames.specs.contracts.Frame.{the_type}
use Rattle.panel_model.specs.Acts.{Roomy, changes_in, actBy, Brought}

abbrev Others : List ℕ
Others = 0 ∷ 2 ∷ 3 ∷ 4 ∷ 5 ∷ 6 ∷ 7 ∷ 8 ∷ []

-- no pixel frame
no_one : OneOf Others 1 → ⊥
no_one h =
    ⊎_elim (λ e. omega arith) (λ h.
    ⊎_elim (λ e. omega arith) (λ h.
    ⊎_elim (λ e. omega arith) (λ h.
    ⊎_elim (λ e. omega arith) (λ h.
    ⊎_elim (λ e. omega arith) (λ h.
    ⊎_elim (λ e. omega arith) (λ h.
    ⊎_elim (λ e. omega arith) (λ e. omega arith) h) h) h) h) h) h) h

pub roomy-other : (g : Frame) (m list : ℕ) → OneOf Others (tag_of the_type g) → m ≤ list → Roomy g m list
unfolding Roomy
roomy-other (Open w h k) m list o l = tt
roomy-other (Pixels tool n) m list o l = absurd (no_one o)
roomy-other (Set i c) m list o l = tt
roomy-other (Add c) m list o l = tt
roomy-other (Merge from into) m list o l = l
roomy-other Undo m list o l = tt
roomy-other Redo m list o l = tt
roomy-other Mark m list o l = tt
roomy-other Malformed m list o l = tt

pub roomy-pixels : (tool n m list : ℕ) → n ≤ list → Roomy (Pixels tool n) m list
unfolding Roomy
roomy-pixels tool n m list l = l

pub pixels-fit : (g : Frame) (tool n bytes : ℕ) → g ≡ Pixels tool n → size_of g ≤ bytes → 2 + 6 * n ≤ bytes
unfolding size_of
pixels-fit g tool n bytes e l = rw e at l

module _ (f : Form) (room : ℕ) (st : State Document) where
  pub act-other : (g : Frame) (cs : List Change) (bs : List ℕ) → OneOf Others (tag_of the_type g) → actBy f room st g cs ≡ actBy f room st g (changes_in g bs)
  unfolding actBy
  act-other (Open w h k) cs bs o = refl
  act-other (Pixels tool n) cs bs o = absurd (no_one o)
  act-other (Set i c) cs bs o = refl
  act-other (Add c) cs bs o = refl
  act-other (Merge from into) cs bs o = refl
  act-other Undo cs bs o = refl
  act-other Redo cs bs o = refl
  act-other Mark cs bs o = refl
  act-other Malformed cs bs o = refl

  pub act-brought : (g : Frame) (tool n : ℕ) (bs : List ℕ) (cs rest : List Change) → g ≡ Pixels tool n → cs ≡ over (changes_from bs 2 n) rest
      → actBy f room st (Pixels tool n) cs ≡ actBy f room st g (changes_in g bs)
  unfolding actBy changes_in over
  act-brought g tool n bs cs rest e q =
      let front : take n cs ≡ changes_from bs 2 n = ap (take n) q ∙ take_at (changes_from bs 2 n) _ n (length-changes bs 2 n) in
      let all : take n (changes_from bs 2 n) ≡ changes_from bs 2 n = take_all n (changes_from bs 2 n) (omega (arith, length-changes bs 2 n)) in
      rw (e, front, all)

pub brought-other : (g : Frame) (bs list : List ℕ) → OneOf Others (tag_of the_type g) → Brought g bs list
brought-other g bs list o = record { same = λ f room st. act-other f room st g (map unpacked list) bs o }

pub brought-pixels : (g : Frame) (tool n : ℕ) (bs list : List ℕ) (rest : List Change)
    → g ≡ Pixels tool n → map unpacked list ≡ over (changes_from bs 2 n) rest → Brought g bs list
brought-pixels g tool n bs list rest e q =
    record {
      same =
          λ f room st.
          ap (λ (x : Frame). actBy f room st x (map unpacked list)) e ∙ act-brought f room st g tool n bs (map unpacked list) rest e q;
    }

-- ---- the bytes of a frame stand at the front of a list
change-take : (l : List ℕ) (m i : ℕ) → i + 6 ≤ m → change_at (take m l) i ≡ change_at l i
unfolding change_at
change-take l m i h =
    rw (get_or-take m l i 0 (omega arith), get_or-take m l (i + 1) 0 (omega arith), get_or-take m l (i + 2) 0 (omega arith), get_or-take m l (i + 2 + 1) 0 (omega arith), get_or-take m l (i + 4) 0 (omega arith), get_or-take m l (i + 4 + 1) 0 (omega arith))

changes-take : (l : List ℕ) (m n i : ℕ) → i + 6 * n ≤ m → changes_from (take m l) i n ≡ changes_from l i n
unfolding changes_from
changes-take l m zero i h = refl
changes-take l m (suc n) i h = rw (change-take l m i (omega arith), changes-take l m n (i + 6) (omega arith))

pub brought-take : (g : Frame) (l : List ℕ) → changes_in g (take (size_of g) l) ≡ changes_in g l
unfolding changes_in size_of
brought-take (Open w h k) l = refl
brought-take (Pixels tool n) l = changes-take l (2 + 6 * n) n 2 (omega arith)
brought-take (Set i c) l = refl
brought-take (Add c) l = refl
brought-take (Merge from into) l = refl
brought-take Undo l = refl
brought-take Redo l = refl
brought-take Mark l = refl
brought-take Malformed l = refl
