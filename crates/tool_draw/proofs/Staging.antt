-- The checks of a call in their order, and what they leave. Assumes nothing.
use mathlib.Core.Path.{◌≡◌, refl, sym, ap, ◌∙◌}
use mathlib.Core.Bool.{Bool, true, false, not, cond, ◌&&◌}
use mathlib.Core.List.{List, [], ◌∷◌, ◌++◌, map}
use Prim.Native.Nat.{ℕ, zero, suc, ◌+◌, ◌*◌, ◌≤◌, ◌<◌, ◌^◌}
use native.Mathlib.Omega.{arith}
use borrow.Author.Tests.{lt-ltb, le-ltb, ltb-false, leb-true}
use lib.Dec.{leb, ltb}
use lib.IntN.{ℤ}
use lib.ListN.{length}
use mir.Syntax.{w16}
use mir.Val.{SFits, of_z}
use Rattle.base.specs.Numbers.{no_space}
use Rattle.base.specs.Checks.{Check, ◌when◌, or_else, first_of, refused_or}
use Rattle.base.specs.Answer.{Told, leaving, filled}
use Rattle.base.specs.declared.Counted.TheVariants as counted
use Rattle.base.proofs.First.{first_past, first-here, refused-first, result-first, past, past-both, skip}
use Rattle.selection.specs.declared.Selection.{Selection}
use Rattle.selection.specs.declared.Area.{Area}
use Rattle.selection.specs.declared.Area.TheVariants as area
use Rattle.selection.specs.Selection.{all, inside}
use Rattle.selection.specs.Region.{off_sheet, region_checks, region_in, Fits}
use Rattle.selection.proofs.Regions.{Within, fits-region}
use Rattle.sheet.specs.Sheet.{Sheet}
use Rattle.sheet.specs.Checks.{sheet_checks, WellFormed, Judged}
use Rattle.sheet.proofs.Judging.{none-applied, past-sheet, refused-sheet}
use Rattle.tool_line.specs.Line.{Point}
use Rattle.edit.specs.Change.{Change, packed, painted, new_of}
use Rattle.change_list.specs.Between.{between, laid_out, rows_of, between_rows, HasRows}
use Rattle.change_list.proofs.Parts.{has-rows, painted-rows}
use Rattle.change_list.specs.Listed.{handed, listed}
use Rattle.tool_draw.specs.declared.Stage.TheVariants.{Canvas, Refused}
use Rattle.tool_stamp.specs.declared.Run.{Run}
use Rattle.tool_stamp.specs.Points.{changes_at, drawn}
use Rattle.tool_stamp.specs.Places.{set_all, places_of}
use Rattle.tool_reach.specs.Reached.{Holds}
use Rattle.tool_draw.specs.Calls.{draw_checks, stage_of}
use Rattle.tool_stamp.proofs.Painted.{laid-all, painted-places}
use Rattle.tool_draw.proofs.Drawn.{all_in, drawn-between}

-- a region that is not refused is inside
within : (a : Area) (w h : ℕ) → first_of (region_checks a w h) ≡ 0 → Within (region_in a w h) w h
unfolding region_checks off_sheet region_in all inside first_of
within area.Whole w h e = record { right = omega arith; below = omega arith }
within (area.Part s) w h e = go (leb (s.x + s.w) w) (leb (s.y + s.h) h) refl refl e
  where
    go : (a b : Bool) → leb (s.x + s.w) w ≡ a → leb (s.y + s.h) h ≡ b → first_of (5 when not (a && b) ∷ []) ≡ 0 → Within s w h
    go true true p q e = record { right = leb-true _ _ p; below = leb-true _ _ q }
    go true false p q e = absurd (omega arith)
    go false b p q e = absurd (omega arith)

module _ (s : Sheet) (given : List Check) (a : Area) (room : ℕ) where
  abbrev after : List Check
  after = region_checks a s.w s.h ++ (no_space when ltb room (s.w * s.h) ∷ [])

  pub stage-sheet : (n : ℕ) → Judged s n → (n ≡ 0 → ⊥) → Refused n ≡ stage_of s given a room
  unfolding stage_of draw_checks
  stage-sheet n j h = refused-sheet s (given ++ after) Refused (Canvas (region_in a s.w s.h)) n j h

  module _ (f : WellFormed s) where
    by_number : (n : ℕ) → n ≡ first_of (given ++ after) → (n ≡ 0 → ⊥) → Refused n ≡ stage_of s given a room
    unfolding stage_of draw_checks
    by_number n e h = refused-first (sheet_checks [] s ++ (given ++ after)) Refused (Canvas (region_in a s.w s.h)) n (e ∙ sym (past-sheet s f (given ++ after))) h

    pub stage-given : (n : ℕ) → n ≡ first_of given → (n ≡ 0 → ⊥) → Refused n ≡ stage_of s given a room
    stage-given n e h = by_number n (first-here given after n e h) h

    module _ (none : 0 ≡ first_of given) where
      pub stage-off : 5 ≡ first_of (region_checks a s.w s.h) → Refused 5 ≡ stage_of s given a room
      stage-off e = by_number 5 (first-here (region_checks a s.w s.h) _ 5 e (λ z. omega arith) ∙ sym (first_past given after (sym none))) (λ z. omega arith)

      module _ (on : first_of (region_checks a s.w s.h) ≡ 0) where
        pub stage-short : room < s.w * s.h → Refused 16 ≡ stage_of s given a room
        unfolding first_of
        stage-short h = by_number 16 (sym (first_past given after (sym none) ∙ first_past (region_checks a s.w s.h) _ on ∙ rw (lt-ltb room (s.w * s.h) h))) (λ z. omega arith)

        pub stage-done : s.w * s.h ≤ room → Canvas (region_in a s.w s.h) ≡ stage_of s given a room
        unfolding stage_of draw_checks first_of
        stage-done h =
            result-first (sheet_checks [] s ++ (given ++ after)) Refused (Canvas (region_in a s.w s.h))
            (past-sheet s f (given ++ after) ∙ first_past given after (sym none) ∙ first_past (region_checks a s.w s.h) _ on ∙ rw (le-ltb room (s.w * s.h) h))

  -- ---- what the answer tells
  pub record Tells (n : ℕ) : Type 0 where
    pub value : n ≡ first_of (draw_checks s given a room)
    pub some : n ≡ 0 → ⊥

  pub told : (n : ℕ) → Refused n ≡ stage_of s given a room → Tells n
  unfolding stage_of refused_or
  told n e = go (first_of (draw_checks s given a room)) refl e
    where
      go : (m : ℕ) → first_of (draw_checks s given a room) ≡ m → Refused n ≡ refused_or m Refused (Canvas (region_in a s.w s.h)) → Tells n
      go zero q e = absurd (let z : ◌≡◌ {A = ℕ} 0 1 = cc in omega arith)
      go (suc m) q e = let i : n ≡ suc m = cc in record { value = i ∙ sym q; some = λ z. omega arith }

  pub record Ready (region : Selection) : Type 0 where
    pub none : first_of (draw_checks s given a room) ≡ 0
    pub given-none : first_of given ≡ 0
    pub is : region ≡ region_in a s.w s.h
    pub well : WellFormed s
    pub on : Within region s.w s.h
    pub space : s.w * s.h ≤ room

  left : first_of (draw_checks s given a room) ≡ 0 → Ready (region_in a s.w s.h)
  unfolding draw_checks
  left e =
      let x = past-both (sheet_checks [] s) (given ++ after) e in
      let y = past-both given after x.right in
      let z = past-both (region_checks a s.w s.h) (no_space when ltb room (s.w * s.h) ∷ []) y.right in
      record {
        none = e;
        given-none = y.left;
        is = refl;
        well = none-applied s x.left;
        on = within a s.w s.h z.left;
        space = ltb-false room (s.w * s.h) (past (no_space when ltb room (s.w * s.h)) [] (omega arith) z.right).off;
      }

  pub ready : (region : Selection) → Canvas region ≡ stage_of s given a room → Ready region
  unfolding stage_of refused_or
  ready region e = go (first_of (draw_checks s given a room)) refl e
    where
      go : (m : ℕ) → first_of (draw_checks s given a room) ≡ m → Canvas region ≡ refused_or m Refused (Canvas (region_in a s.w s.h)) → Ready region
      go zero q e = let i : region ≡ region_in a s.w s.h = cc in rw i (left q)
      go (suc m) q e = absurd (let z : ◌≡◌ {A = ℕ} 0 1 = cc in omega arith)

  -- ---- the answer
  pub refused : (cs : List Change) (out : List ℕ) (n : ℕ) → Refused n ≡ stage_of s given a room → filled (counted.Refused n) out ≡ listed (draw_checks s given a room) cs out
  unfolding listed
  refused cs out n e = let t = told n e in refused-first (draw_checks s given a room) (λ m. filled (counted.Refused m) out) (handed (map packed cs) out) n t.value t.some

  module _ (region : Selection) (r : Ready region) where
    pub ready-fits : (pixels : ℕ) → s.w * s.h ≤ pixels → Fits s.w pixels region
    ready-fits pixels h = let f = fits-region region s.w s.h r.well.limits.w-small r.well.limits.h-small (s.w * s.h) refl r.on in
        let b = f.below in
        record { width = f.width; right = f.right; bottom = f.bottom; below = omega arith }

    -- rows that hold a tool's points, of which each is on the sheet
    module _ {ps : List Point} {rows : Run} (held : Holds region ps rows) where
      pub ready-rows : (pixels : ℕ) → room ≤ pixels → HasRows s.w rows.start rows.count (length s.indices) pixels
      ready-rows pixels h =
          let l = r.well.limits in
          let size = l.indices-length in
          let e = held.ends in
          let o = r.on.below in
          let i = r.space in
          has-rows l.w-small l.h-small (omega arith) size (omega arith)

      -- the rows were laid out, painted and compared
      pub answered : (z : ℤ) (s₁ s₂ : List ℕ) (c : Told ℕ) (out after : List ℕ) → SFits w16 z
          → rows_of s.w rows.start rows.count (laid_out (length s.indices) s₁) ≡ rows_of s.w rows.start rows.count s.indices
          → s₂ ≡ set_all (places_of region s.w ps) (of_z w16 z) s₁
          → leaving c after ≡ handed (map packed (between_rows s.w rows.start rows.count s.indices (laid_out (length s.indices) s₂))) out
          → leaving c after ≡ listed (draw_checks s given a room) (drawn s.w s.indices (region_in a s.w s.h) z ps) out
      unfolding listed
      answered z s₁ s₂ c out after f e q d =
          let n = length s.indices in
          let l = r.well.limits in
          let small : s.w ≤ 2 ^ 16 = (let k = l.w-small in omega arith) in
          let cs : List Change = changes_at s.w s.indices region z ps in
          let picture : laid_out n s₂ ≡ painted new_of s.w cs (laid_out n s₁) =
          ap (laid_out n) q ∙ laid-all n (places_of region s.w ps) z s₁ f ∙ sym (painted-places s.w s.indices region z ps (laid_out n s₁)) in
          let list : between_rows s.w rows.start rows.count s.indices (laid_out n s₂) ≡ drawn s.w s.indices (region_in a s.w s.h) z ps =
          ap (between_rows s.w rows.start rows.count s.indices) picture
          ∙ painted-rows s.w rows.start rows.count cs (all_in s.w s.h s.indices region r.on z ps rows held) (laid_out n s₁) s.indices e
          ∙ ap (between s.w s.indices) (painted-places s.w s.indices region z ps s.indices)
          ∙ sym (drawn-between s.w s.h s.indices region r.on z small l.indices-length ps)
          ∙ ap (λ (t : Selection). drawn s.w s.indices t z ps) r.is in
          d ∙ ap (λ (cs : List Change). handed (map packed cs) out) list
          ∙ result-first (draw_checks s given a room) (λ m. filled (counted.Refused m) out)
          (handed (map packed (drawn s.w s.indices (region_in a s.w s.h) z ps)) out) r.none

-- ---- one check before all others
pub listed-first : (c : Check) (checks : List Check) (cs : List Change) (out : List ℕ) → 0 < c.number → c.applies ≡ true → filled (counted.Refused c.number) out ≡ listed (c ∷ checks) cs out
unfolding listed first_of
listed-first c checks cs out h e = refused-first (c ∷ checks) (λ m. filled (counted.Refused m) out) (handed (map packed cs) out) c.number (by c.number h) (λ z. omega arith)
  where
    by : (n : ℕ) → 0 < n → n ≡ or_else (cond c.applies n 0) (first_of checks)
    by zero h = absurd (omega arith)
    by (suc n) h = rw e

pub listed-skip : (c : Check) (checks : List Check) (cs : List Change) (out : List ℕ) → c.applies ≡ false → listed checks cs out ≡ listed (c ∷ checks) cs out
unfolding listed
listed-skip c checks cs out e = ap (λ n. refused_or n (λ m. filled (counted.Refused m) out) (handed (map packed cs) out)) (sym (skip c checks e))
