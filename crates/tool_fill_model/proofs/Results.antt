-- What a fill answers. Assumes nothing.
use mathlib.Core.Path.{◌≡◌, refl, sym, ◌∙◌}
use mathlib.Core.Bool.{true, false}
use mathlib.Core.List.{List, [], ◌∷◌, ◌++◌, map}
use Prim.Native.Nat.{ℕ, ◌≤◌, ◌<◌}
use native.Mathlib.Omega.{arith}
use native.Mathlib.Decide.{dec_lt}
use borrow.Author.Tests.{lt-ltb, le-ltb}
use lib.Dec.{ltb}
use lib.IntN.{ℤ, pos}
use lib.ListN.{length, get_or, take, length-map}
use Rattle.base.specs.Numbers.{no_space}
use Rattle.base.specs.Checks.{Check, ◌when◌, first_of, refused_or}
use Rattle.base.specs.Answer.{filled, Told, leaving}
use Rattle.base.specs.declared.Counted.TheVariants as counted
use Rattle.base.proofs.First.{first_past, first-here, refused-first}
use Rattle.base.specs.Lists.{over}
use Rattle.base.specs.Ints.{eq_z}
use Rattle.selection.specs.declared.Selection.{Selection}
use Rattle.selection.specs.declared.Area.{Area}
use Rattle.selection.specs.Selection.{contains_i}
use Rattle.sheet.specs.Sheet.{Sheet}
use Rattle.edit.specs.Change.{Change, packed}
use Rattle.change_list.specs.Fronts.{Front}
use Rattle.change_list.specs.Listed.{handed}
use Rattle.change_list.proofs.Fronts.{front-within}
use Rattle.change_list.proofs.Handing.{handed-full, handed-done}
use Rattle.tool_fill_model.specs.Flood.{flood_of}
use Rattle.selection.specs.Region.{region_in}
use Rattle.tool_fill_model.specs.Fill.{start_of, fill_of, fill_checks, flood_fill_of}

-- ---- what is filled
pub none-front : (s : List ℕ) (cs : List Change) → cs ≡ [] → Front (map packed cs) s 0
none-front s cs e = rw e (record { front = refl; count = refl })

module _ (w : ℕ) (l : List ℤ) (region : Selection) (x y index : ℤ) where
  pub not-held : contains_i region x y ≡ false → fill_of w l region x y index ≡ []
  unfolding fill_of
  not-held e = rw e

  pub filled-already : contains_i region x y ≡ true → eq_z (get_or l (start_of w x y) (pos 0)) index ≡ true → fill_of w l region x y index ≡ []
  unfolding fill_of
  filled-already e f = rw (e, f)

  pub is-filled : contains_i region x y ≡ true → eq_z (get_or l (start_of w x y) (pos 0)) index ≡ false → fill_of w l region x y index ≡ flood_of w l region (start_of w x y) index
  unfolding fill_of
  is-filled e f = rw (e, f)

-- ---- what the call answers
module _ (s : Sheet) (given : Area) (x y index : ℤ) (room : ℕ) (out : List ℕ) where
  abbrev result : List Change
  result = fill_of s.w s.indices (region_in given s.w s.h) x y index

  abbrev last-check : List Check
  last-check = no_space when ltb (length out) (length result) ∷ []

  pub answer-refused : (n : ℕ) → n ≡ first_of (fill_checks s given x y room) → (n ≡ 0 → ⊥) → filled (counted.Refused n) out ≡ flood_fill_of s given x y index room out
  unfolding flood_fill_of
  answer-refused n e h =
      refused-first (fill_checks s given x y room ++ last-check) (λ m. filled (counted.Refused m) out) (filled (counted.Count (length result)) (over (map packed result) out)) n
      (first-here (fill_checks s given x y room) last-check n e h) h

  module _ (e : 0 ≡ first_of (fill_checks s given x y room)) (scratch : List ℕ) (n : ℕ) (f : Front (map packed result) scratch n) where
    length-result : length result ≡ n
    length-result = sym (length-map result packed) ∙ f.count

    answer-short : length out < n → filled (counted.Refused 16) out ≡ flood_fill_of s given x y index room out
    unfolding flood_fill_of first_of refused_or
    answer-short h = rw (first_past (fill_checks s given x y room) last-check (sym e), lt-ltb (length out) (length result) (omega (arith, length-result)))

    answer-filled : n ≤ length out → (after : List ℕ) → after ≡ over (take n scratch) out → filled (counted.Count n) after ≡ flood_fill_of s given x y index room out
    unfolding flood_fill_of first_of refused_or
    answer-filled h after q =
        rw (first_past (fill_checks s given x y room) last-check (sym e), le-ltb (length out) (length result) (omega (arith, length-result)), length-result, q, f.front)

    -- by what was counted
    pub answer-counted : {a : Told ℕ} {after : List ℕ} → leaving a after ≡ handed (take n scratch) out → leaving a after ≡ flood_fill_of s given x y index room out
    answer-counted d = d ∙ elim (dec_lt (length out) n) [
      | yes h ↦ sym (handed-full scratch out n (front-within f) h) ∙ answer-short h
      | no h ↦ sym (handed-done scratch out n (front-within f) (omega arith) refl) ∙ answer-filled (omega arith) _ refl
    ]
