-- The checks of the call in their order, and what they leave. Assumes nothing.
use mathlib.Core.Path.{◌≡◌, refl, sym, ap, ◌∙◌}
use mathlib.Core.Bool.{Bool, true, false}
use mathlib.Core.List.{List, [], ◌∷◌, ◌++◌}
use Prim.Native.Nat.{ℕ, zero, suc, ◌*◌, ◌≤◌, ◌<◌}
use native.Mathlib.Omega.{arith}
use borrow.Author.Tests.{lt-ltb, le-ltb, ltb-false}
use lib.Dec.{ltb}
use lib.ListN.{length}
use Rattle.base.specs.Limits.{max_changes}
use Rattle.base.specs.Numbers.{off_the_sheet, no_space, list_too_long}
use Rattle.base.specs.Checks.{Check, ◌when◌, first_of, refused_or}
use Rattle.base.specs.Answer.{Filled, filled, Told, leaving}
use Rattle.base.specs.declared.Counted.TheVariants as counted
use Rattle.base.proofs.First.{first_past, first-here, refused-first, result-first, past, past-both, skip}
use Rattle.selection.specs.declared.Selection.{Selection}
use Rattle.selection.specs.declared.Area.{Area}
use Rattle.selection.specs.Region.{region_checks, region_in}
use Rattle.sheet.specs.Sheet.{Sheet}
use Rattle.sheet.specs.Checks.{sheet_checks, WellFormed, Judged}
use Rattle.sheet.proofs.Judging.{none-applied, past-sheet, refused-sheet}
use Rattle.change_list.specs.Listed.{handed}
use Rattle.tile_mirror_checks.specs.declared.Stage.TheVariants.{Canvas, Refused}
use Rattle.tile_mirror_checks.specs.Calls.{touching, straying, mirror_checks, stage_of, mirror_list, mirror_call}

module _ (s : Sheet) (a : Area) (count : ℕ) (off : Bool) (room : ℕ) where
  abbrev ends : List Check
  ends = off_the_sheet when off ∷ no_space when ltb room (s.w * s.h) ∷ []

  abbrev region-checks : List Check
  region-checks = region_checks a s.w s.h

  abbrev rest : List Check
  rest = list_too_long when ltb max_changes (count) ∷ (region-checks ++ ends)

  pub stage-sheet : (n : ℕ) → Judged s n → (n ≡ 0 → ⊥) → Refused n ≡ stage_of s a count off room
  unfolding stage_of mirror_checks
  stage-sheet n j h = refused-sheet s rest Refused (Canvas (region_in a s.w s.h)) n j h

  module _ (f : WellFormed s) where
    by_number : (n : ℕ) → n ≡ first_of rest → (n ≡ 0 → ⊥) → Refused n ≡ stage_of s a count off room
    unfolding stage_of mirror_checks
    by_number n e h = refused-first (sheet_checks [] s ++ rest) Refused (Canvas (region_in a s.w s.h)) n (e ∙ sym (past-sheet s f rest)) h

    pub stage-long : max_changes < count → Refused 21 ≡ stage_of s a count off room
    unfolding first_of
    stage-long h = by_number 21 (rw (lt-ltb max_changes (count) h)) (λ z. omega arith)

    module _ (few : count ≤ max_changes) where
      past-list : first_of rest ≡ first_of (region-checks ++ ends)
      past-list = skip (list_too_long when ltb max_changes (count)) (region-checks ++ ends) (le-ltb max_changes (count) few)

      pub stage-off : 5 ≡ first_of region-checks → Refused 5 ≡ stage_of s a count off room
      stage-off e = by_number 5 (first-here region-checks ends 5 e (λ z. omega arith) ∙ sym past-list) (λ z. omega arith)

      module _ (on : first_of region-checks ≡ 0) where
        past-region : first_of rest ≡ first_of ends
        past-region = past-list ∙ first_past region-checks ends on

        pub stage-stray : off ≡ true → Refused 5 ≡ stage_of s a count off room
        unfolding first_of
        stage-stray e = by_number 5 (sym (past-region ∙ rw e)) (λ z. omega arith)

        module _ (held : off ≡ false) where
          pub stage-short : room < s.w * s.h → Refused 16 ≡ stage_of s a count off room
          unfolding first_of
          stage-short h = by_number 16 (sym (past-region ∙ rw (held, lt-ltb room (s.w * s.h) h))) (λ z. omega arith)

          pub stage-done : s.w * s.h ≤ room → Canvas (region_in a s.w s.h) ≡ stage_of s a count off room
          unfolding stage_of mirror_checks first_of
          stage-done h = result-first (sheet_checks [] s ++ rest) Refused (Canvas (region_in a s.w s.h)) (past-sheet s f rest ∙ past-region ∙ rw (held, le-ltb room (s.w * s.h) h))

  -- ---- what the answer tells
  pub record Tells (n : ℕ) : Type 0 where
    pub value : n ≡ first_of (mirror_checks s a count off room)
    pub some : n ≡ 0 → ⊥

  told : (n : ℕ) → Refused n ≡ stage_of s a count off room → Tells n
  unfolding stage_of refused_or
  told n e = go (first_of (mirror_checks s a count off room)) refl e
    where
      go : (m : ℕ) → first_of (mirror_checks s a count off room) ≡ m → Refused n ≡ refused_or m Refused (Canvas (region_in a s.w s.h)) → Tells n
      go zero q e = absurd (let z : ◌≡◌ {A = ℕ} 0 1 = cc in omega arith)
      go (suc m) q e = let i : n ≡ suc m = cc in record { value = i ∙ sym q; some = λ z. omega arith }

  refused : (out : List ℕ) (result : Filled ℕ) (n : ℕ) → Refused n ≡ stage_of s a count off room
      → filled (counted.Refused n) out ≡ refused_or (first_of (mirror_checks s a count off room)) (λ m. filled (counted.Refused m) out) result
  refused out result n e = let t = told n e in refused-first (mirror_checks s a count off room) (λ m. filled (counted.Refused m) out) result n t.value t.some

  pub record Passed (region : Selection) : Type 0 where
    pub none : first_of (mirror_checks s a count off room) ≡ 0
    pub is : region ≡ region_in a s.w s.h
    pub well : WellFormed s
    pub few : count ≤ max_changes
    pub held : off ≡ false
    pub space : s.w * s.h ≤ room

  left : first_of (mirror_checks s a count off room) ≡ 0 → Passed (region_in a s.w s.h)
  unfolding mirror_checks
  left e =
      let x = past-both (sheet_checks [] s) rest e in
      let y = past (list_too_long when ltb max_changes (count)) (region-checks ++ ends) (omega arith) x.right in
      let z = past-both region-checks ends y.rest in
      let u = past (off_the_sheet when off) (no_space when ltb room (s.w * s.h) ∷ []) (omega arith) z.right in
      record {
        none = e;
        is = refl;
        well = none-applied s x.left;
        few = ltb-false max_changes (count) y.off;
        held = u.off;
        space = ltb-false room (s.w * s.h) (past (no_space when ltb room (s.w * s.h)) [] (omega arith) u.rest).off;
      }

  pub passed : (region : Selection) → Canvas region ≡ stage_of s a count off room → Passed region
  unfolding stage_of refused_or
  passed region e = go (first_of (mirror_checks s a count off room)) refl e
    where
      go : (m : ℕ) → first_of (mirror_checks s a count off room) ≡ m → Canvas region ≡ refused_or m Refused (Canvas (region_in a s.w s.h)) → Passed region
      go zero q e = let i : region ≡ region_in a s.w s.h = cc in rw i (left q)
      go (suc m) q e = absurd (let z : ◌≡◌ {A = ℕ} 0 1 = cc in omega arith)

-- ---- the answer of the call
module _ (s : Sheet) (a : Area) (touched : Bool) (list : List ℕ) (off : Bool) (room : ℕ) (on : Bool) (t : ℕ) (out : List ℕ) (is : touched ≡ touching on (length list) t s.w s.h) (j : off ≡ straying touched s.w s.h list) where
  pub call-refused : (n : ℕ) → Refused n ≡ stage_of s a (length list) off room → filled (counted.Refused n) out ≡ mirror_call s a on t list room out
  unfolding mirror_call
  call-refused n e = rw (← is, ← j) (refused s a (length list) off room out (handed (mirror_list touched s.w s.h t s.indices (region_in a s.w s.h) list) out) n e)

  pub call-done : (region : Selection) {r : Told ℕ} {m : List ℕ} → Passed s a (length list) off room region → leaving r m ≡ handed (mirror_list touched s.w s.h t s.indices region list) out
      → leaving r m ≡ mirror_call s a on t list room out
  unfolding mirror_call
  call-done region p d =
      rw (← is, ← j)
      (d ∙ ap (λ (g : Selection). handed (mirror_list touched s.w s.h t s.indices g list) out) p.is
      ∙ result-first (mirror_checks s a (length list) off room) (λ n. filled (counted.Refused n) out) (handed (mirror_list touched s.w s.h t s.indices (region_in a s.w s.h) list) out) p.none)
