-- What is laid over a buffer: where the call is refused, where the list is handed back, and where its copies stand in the scratch. Assumes nothing.
use Prim.Native.Nat.{ℕ, ◌≤◌, ◌<◌}
use mathlib.Core.Path.{◌≡◌, refl, sym, ap, ◌∙◌}
use mathlib.Core.Bool.{Bool, true, false, cond}
use mathlib.Core.List.{List, [], ◌∷◌, map}
use native.Mathlib.Omega.{arith}
use borrow.Author.Tests.{lt-ltb, le-ltb}
use lib.Dec.{ltb}
use lib.IntN.{ℤ}
use lib.ListN.{length, take}
use lib.Seq.{take_all}
use Rattle.base.specs.Numbers.{no_space}
use Rattle.base.specs.Checks.{◌when◌, first_of, refused_or}
use Rattle.base.specs.Answer.{Told, Filled, leaving, filled, count_told}
use Rattle.base.specs.declared.Counted.TheVariants.{Count, Refused}
use Rattle.base.specs.Answer.Told.{alone}
use Rattle.base.specs.Lists.{over}
use Rattle.base.proofs.Back.{never}
use Rattle.selection.specs.declared.Selection.{Selection}
use Rattle.edit.specs.Change.{packed, unpacked}
use Rattle.change_list.specs.Fronts.{Front}
use Rattle.change_list.specs.Listed.{handed, InScratch}
use Rattle.change_list.proofs.InScratch.{scratch-then}
use Rattle.struct_change.specs.Scratch.{no_room, needing}
use Rattle.tile_copies.specs.Mirror.{mirrored}
use Rattle.tile_mirror_checks.specs.Calls.{mirror_list}
use Rattle.struct_mirror_list.specs.Laid.{read_of, Laid}

-- ---- the further buffer: 16, unless the call is refused before; and none of it is needed
module _ (room needed : ℕ) (call : List ℕ → Filled ℕ) where
  pub needs-none : (out : List ℕ) → needed ≡ 0 → call out ≡ needing room needed call out
  unfolding needing
  needs-none out e = rw (le-ltb room needed (omega arith))

  pub needs-met : (out : List ℕ) → needed ≤ room → call out ≡ needing room needed call out
  unfolding needing
  needs-met out h = rw (le-ltb room needed h)

  pub needs-same : (other : List ℕ → Filled ℕ) (out : List ℕ) → call out ≡ other out → needing room needed call out ≡ needing room needed other out
  unfolding needing
  needs-same other out e = rw e

  pub needs-refused : (n : ℕ) (out : List ℕ) → filled (Refused n) out ≡ call out → filled (Refused n) out ≡ needing room needed call out
  unfolding needing no_room
  needs-refused n out e = rw (← e) (either (ltb room needed))
    where
      either : (b : Bool) → filled (Refused n) out ≡ cond b (filled (Refused n) out) (filled (Refused n) out)
      either true = refl
      either false = refl

  pub needs-handed : (l out : List ℕ) → room < needed → call out ≡ handed l out → filled (Refused 16) out ≡ needing room needed call out
  unfolding needing no_room handed first_of refused_or
  needs-handed l out h e = rw (lt-ltb room needed h, e) (either (ltb (length out) (length l)))
    where
      either : (b : Bool) → filled (Refused 16) out ≡ leaving (no_room (refused_or (first_of (no_space when b ∷ [])) (λ n. filled (Refused n) out) (filled (Count (length l)) (over l out))).answer) out
      either true = refl
      either false = refl

-- ---- what is laid over a buffer
abbrev pub made_by : Bool → Told ℕ → ℕ
made_by touched told = cond touched (count_told told) 0

abbrev pub kept_by : Bool → Told ℕ → ℕ
kept_by touched told = cond touched 0 (count_told told)

module _ {room : ℕ} {scratch list : List ℕ} {call : List ℕ → Filled ℕ} where
  pub laid-refused : (touched : Bool) (n : ℕ) → ((out : List ℕ) → length out ≡ room → leaving (alone n) out ≡ call out)
      → Laid (made_by touched (alone n)) (kept_by touched (alone n)) room scratch list (leaving (alone n)) call
  unfolding over
  laid-refused true n f = record { made-fits = omega arith; made_held = omega arith; kept-fits = omega arith; kept-held = omega arith; value = f }
  laid-refused false n f = record { made-fits = omega arith; made_held = omega arith; kept-fits = omega arith; kept-held = omega arith; value = f }

  pub laid_kept : (touched : Bool) {r : Told ℕ} → touched ≡ false → InScratch (count_told r) room list (leaving r) call → Laid (made_by touched r) (kept_by touched r) room scratch list (leaving r) call
  unfolding over
  laid_kept true e c = never (sym e)
  laid_kept false e c = record { made-fits = omega arith; made_held = omega arith; kept-fits = c.fits; kept-held = c.held; value = c.value }

  pub laid-made : (touched : Bool) {r : Told ℕ} → touched ≡ true → InScratch (count_told r) room scratch (leaving r) call → Laid (made_by touched r) (kept_by touched r) room scratch list (leaving r) call
  unfolding over
  laid-made true e c = record { made-fits = c.fits; made_held = c.held; kept-fits = omega arith; kept-held = omega arith; value = c.value }
  laid-made false e c = never e

  pub laid_then : {made kept : ℕ} {leaves : List ℕ → Filled ℕ} {other : List ℕ → Filled ℕ} → Laid made kept room scratch list leaves call → ((out : List ℕ) → call out ≡ other out) → Laid made kept room scratch list leaves other
  laid_then d f = record { made-fits = d.made-fits; made_held = d.made_held; kept-fits = d.kept-fits; kept-held = d.kept-held; value = λ out k. d.value out k ∙ f out }

-- ---- the list with its copies, or as it is
module _ (w h t : ℕ) (l : List ℤ) (region : Selection) (touched : Bool) (flat list : List ℕ) (n : ℕ) (e : length list ≡ n) (room : ℕ) (scratch : List ℕ) where
  abbrev result : List ℕ
  result = mirror_list touched w h t l region list

  abbrev Left : Told ℕ → Type 0
  Left r = Laid (made_by touched r) (kept_by touched r) room scratch list (leaving r) (needing (length flat) (read_of touched n) (handed result))

  pub finish-kept : {r : Told ℕ} → touched ≡ false → (n ≤ length list → InScratch (count_told r) room list (leaving r) (handed (take n list))) → Left r
  unfolding mirror_list
  finish-kept y c =
      laid_kept touched y
      (scratch-then (c (omega arith)) (λ out after k d. d ∙ ap (λ (m : List ℕ). handed m out) (take_all n list (omega arith) ∙ rw y) ∙ needs-none (length flat) (read_of touched n) (handed result) out (rw y)))

  pub finish-short : touched ≡ true → length flat < n → Left (alone 16)
  finish-short y h = laid-refused touched 16 (λ out k. needs-handed (length flat) (read_of touched n) (handed result) result out (rw y h) refl)

  pub finish-made : {r : Told ℕ} {c : ℕ} → touched ≡ true → n ≤ length flat → take n flat ≡ list → Front (map packed (mirrored w h t l region (map unpacked (take n flat)))) scratch c
      → InScratch (count_told r) room scratch (leaving r) (handed (take c scratch)) → Left r
  unfolding mirror_list
  finish-made y h q f d =
      laid-made touched y
      (scratch-then d (λ out after k v. v ∙ ap (λ (m : List ℕ). handed m out) (f.front ∙ rw (q, y)) ∙ needs-met (length flat) (read_of touched n) (handed result) out (rw y h)))
