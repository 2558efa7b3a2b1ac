-- The points of a rectangle that a region contains are the places that the code paints, in the same order. Assumes nothing.
use mathlib.Core.Path.{◌≡◌, refl, sym, ap, ◌∙◌}
use mathlib.Core.Bool.{Bool, true, false, cond, ◌||◌}
use mathlib.Core.List.{List, [], ◌∷◌, ◌++◌, map, flat_map, map-append, append-nil}
use Prim.Native.Nat.{ℕ, zero, suc, ◌+◌, ◌-◌, ◌*◌, ◌<◌, min, max}
use native.Mathlib.Nat.{add-suc}
use native.Mathlib.Numerals.{add-one}
use native.Mathlib.Omega.{arith}
use borrow.Author.Tests.{eq-eqb, ne_eqb, eqb-true, eqb-false, ltb-false, le-ltb}
use lib.Dec.{eqb}
use lib.IntN.{ℤ, pos, negsuc, nat_abs, suc_ℤ, ◌+ℤ◌, ◌-ℤ◌, +ℤ-suc_ℤ, +ℤ_idr, +ℤ_one, +ℤ_comm, +ℤ_invr, +ℤ-neg_ℤ_cancel, -ℤ-+ℤ_cancel}
use lib.Signed.{lt_z, pos-nat_abs}
use Rattle.base.specs.Lists.{range, kept}
use Rattle.base.proofs.Each.{all_of}
use Rattle.base.proofs.Kept.{kept_map, kept_same, kept-all}
use Rattle.base.specs.Ints.{eq_z, from_zero, min_z, max_z}
use Rattle.base.proofs.Back.{eq_z-same, same_index, never}
use Rattle.base.proofs.Sums.{suc-up-to}
use Rattle.tool_line.specs.Line.{Point}
use Rattle.tool_line.proofs.Toward.{from_less}
use Rattle.selection.specs.declared.Selection.{Selection}
use Rattle.tool_stamp.specs.declared.Run.{Run}
use Rattle.tool_stamp.specs.Points.{through, row_of, rectangle_points}
use Rattle.tool_stamp.specs.Places.{places_of, clipped, columns_of, row_places, part_places, frame_places}
use Rattle.tool_stamp.proofs.Clipping.{run, as-run, held, held-append, held-run, in_row, rows-held}

-- ---- a..=b, from a on
module _ (a b : ℤ) (e : lt_z b a ≡ false) where
  apart : ℕ
  apart = nat_abs (b -ℤ a)

  reach : a +ℤ pos apart ≡ b
  unfolding apart
  reach = ap (λ z. a +ℤ z) (pos-nat_abs (b -ℤ a) (from_less b a e)) ∙ +ℤ_comm a (b -ℤ a) ∙ -ℤ-+ℤ_cancel b a

  many-through : from_zero (b -ℤ a +ℤ pos 1) ≡ suc apart
  unfolding apart from_zero
  many-through = ap (λ z. from_zero (z +ℤ pos 1)) (sym (pos-nat_abs (b -ℤ a) (from_less b a e))) ∙ add-one (nat_abs (b -ℤ a))

  through-map : through a b ≡ map (λ (i : ℕ). a +ℤ pos i) (range 0 (suc apart))
  unfolding through
  through-map = ap (λ n. map (λ (i : ℕ). a +ℤ pos i) (range 0 n)) many-through

  past_end : a +ℤ pos (suc apart) ≡ suc_ℤ b
  past_end = +ℤ-suc_ℤ a (pos apart) ∙ ap suc_ℤ reach

-- the places of a clipped run, as the code has them
abbrev pub places : Run → List ℕ
places r = range r.start r.count

module _ (from size : ℕ) where
  -- n numbers from a to b
  pub run-held : (a b : ℤ) (n : ℕ) → a +ℤ pos n ≡ suc_ℤ b → held from size (run a n) ≡ places (clipped a b from (from + size))
  unfolding clipped
  run-held a b n e = held-run from size a n ∙ ap (λ k. range (min (max (from_zero a) from) (from + size)) (min k (from + size) - min (max (from_zero a) from) (from + size))) (ap from_zero e ∙ suc-up-to b)

  through-held : (a b : ℤ) → lt_z b a ≡ false → held from size (through a b) ≡ places (clipped a b from (from + size))
  through-held a b e = ap (held from size) (through-map a b e ∙ as-run a (suc (apart a b e))) ∙ run-held a b (suc (apart a b e)) (past_end a b e)

  one-held : (a : ℤ) → held from size (a ∷ []) ≡ places (clipped a a from (from + size))
  unfolding run
  one-held a = run-held a a 1 (+ℤ_one a)

-- ---- the two ends of a row
last-only : (m j k : ℕ) → 0 < j → j + k ≡ m → kept (λ i. eqb i 0 || eqb i m) (range j (suc k)) ≡ m ∷ []
unfolding kept range
last-only m j zero h e = rw (ne_eqb j 0 (λ q. omega arith), eq-eqb j m (omega arith)) (ap (λ (i : ℕ). i ∷ []) (omega arith))
last-only m j (suc k) h e = rw (ne_eqb j 0 (λ q. omega arith), ne_eqb j m (λ q. omega arith)) (last-only m (suc j) k (omega arith) (omega arith))

ends : (k : ℕ) → kept (λ i. eqb i 0 || eqb i (suc k)) (range 0 (suc (suc k))) ≡ 0 ∷ suc k ∷ []
unfolding kept range
ends k = ap (λ l. 0 ∷ l) (last-only (suc k) 1 k (omega arith) (omega arith))

same_step : (a : ℤ) (i j : ℕ) → eq_z (a +ℤ pos i) (a +ℤ pos j) ≡ eqb i j
same_step a i j = go (eqb i j) refl (eq_z (a +ℤ pos i) (a +ℤ pos j)) refl
  where
    less : (k : ℕ) → (a +ℤ pos k) -ℤ a ≡ pos k
    less k = ap (λ z. z -ℤ a) (+ℤ_comm a (pos k)) ∙ +ℤ-neg_ℤ_cancel (pos k) a

    go : (t : Bool) → eqb i j ≡ t → (u : Bool) → eq_z (a +ℤ pos i) (a +ℤ pos j) ≡ u → u ≡ t
    go true e true q = refl
    go true e false q = sym q ∙ ap (λ (k : ℕ). eq_z (a +ℤ pos i) (a +ℤ pos k)) (sym (eqb-true i j e)) ∙ eq_z-same (a +ℤ pos i)
    go false e true q =
        let z : pos i ≡ pos j = sym (less i) ∙ ap (λ z. z -ℤ a) (same_index (a +ℤ pos i) (a +ℤ pos j) q) ∙ less j in
        absurd (eqb-false i j e (ap nat_abs z))
    go false e false q = refl

row-whole : (a b : ℤ) → row_of true a b ≡ through a b
unfolding row_of
row-whole a b = kept-all _ (through a b) (all_of (λ x. refl) (through a b))

-- a row that is no more than one place, and one that is
one_end : (a : ℤ) → lt_z a a ≡ false → row_of false a a ≡ a ∷ []
unfolding row_of kept range apart
one_end a e =
    let n : apart a a e ≡ 0 = nothing in
    ap (kept (λ (x : ℤ). false || (eq_z x a || eq_z x a))) (through-map a a e ∙ ap (λ k. map (λ (i : ℕ). a +ℤ pos i) (range 0 (suc k))) n ∙ ap (λ (z : ℤ). z ∷ []) (+ℤ_idr a)) ∙ rw (eq_z-same a)
  where
    nothing : apart a a e ≡ 0
    nothing = ap nat_abs (+ℤ_invr a)

irreflexive : (z : ℤ) → lt_z z z ≡ false
irreflexive (pos n) = le-ltb n n (omega arith)
irreflexive (negsuc n) = le-ltb n n (omega arith)

two_ends : (a b : ℤ) (e : lt_z b a ≡ false) → lt_z a b ≡ true → row_of false a b ≡ a ∷ b ∷ []
unfolding row_of
two_ends a b e l = go (apart a b e) refl
  where
    go : (m : ℕ) → apart a b e ≡ m → kept (λ (x : ℤ). false || (eq_z x a || eq_z x b)) (through a b) ≡ a ∷ b ∷ []
    go zero q = never (sym (irreflexive a) ∙ ap (lt_z a) (sym (+ℤ_idr a) ∙ ap (λ k. a +ℤ pos k) (sym q) ∙ reach a b e) ∙ l)
    go (suc k) q =
        let end : a +ℤ pos (suc k) ≡ b = ap (λ n. a +ℤ pos n) (sym q) ∙ reach a b e in
        let first : a +ℤ pos 0 ≡ a = +ℤ_idr a in
        ap (kept (λ (x : ℤ). false || (eq_z x a || eq_z x b))) (through-map a b e ∙ ap (λ n. map (λ (i : ℕ). a +ℤ pos i) (range 0 (suc n))) q)
        ∙ kept_map (λ (x : ℤ). false || (eq_z x a || eq_z x b)) (λ (i : ℕ). a +ℤ pos i) (range 0 (suc (suc k)))
        ∙ ap (map (λ (i : ℕ). a +ℤ pos i))
        (kept_same (λ i. eq_z (a +ℤ pos i) a || eq_z (a +ℤ pos i) b) (λ i. eqb i 0 || eqb i (suc k)) (range 0 (suc (suc k)))
        (all_of (λ i. ap (λ z. eq_z (a +ℤ pos i) z || eq_z (a +ℤ pos i) b) (sym first) ∙ ap (λ z. eq_z (a +ℤ pos i) (a +ℤ pos 0) || eq_z (a +ℤ pos i) z) (sym end) ∙ rw (same_step a i 0, same_step a i (suc k))) (range 0 (suc (suc k)))) ∙ ends k)
        ∙ ap (λ z. z ∷ (a +ℤ pos (suc k)) ∷ []) first ∙ ap (λ z. a ∷ z ∷ []) end

-- ---- a row's places
shift-range : (k s c : ℕ) → map (λ x. k + x) (range s c) ≡ range (k + s) c
unfolding range
shift-range k s zero = refl
shift-range k s (suc c) = ap (λ l. (k + s) ∷ l) (shift-range k (suc s) c ∙ ap (λ n. range n c) (add-suc k s))

not-less : (a b : ℤ) → lt_z b a ≡ false → lt_z a b ≡ false → a ≡ b
not-less (pos a) (pos b) e f = ap pos (omega (arith, ltb-false b a e, ltb-false a b f))
not-less (pos a) (negsuc b) e f = never (sym e)
not-less (negsuc a) (pos b) e f = never (sym f)
not-less (negsuc a) (negsuc b) e f = ap negsuc (omega (arith, ltb-false a b e, ltb-false b a f))

module _ (region : Selection) (w : ℕ) where
  abbrev left : ℕ
  left = region.x

  abbrev right : ℕ
  right = region.x + region.w

  pub row-run : (xs : List ℤ) (r : Run) (y : ℕ) → held left region.w xs ≡ places r → in_row region w xs y ≡ row_places w r y
  unfolding in_row row_places
  row-run xs r y e = ap (map (λ x. y * w + x)) e ∙ shift-range (y * w) r.start r.count

  both : (z u : ℤ) (y : ℕ) → in_row region w (z ∷ u ∷ []) y ≡ in_row region w (z ∷ []) y ++ in_row region w (u ∷ []) y
  unfolding in_row
  both z u y =
      ap (map (λ x. y * w + x)) (held-append left region.w (z ∷ []) (u ∷ []))
      ∙ map-append (λ x. y * w + x) (held left region.w (z ∷ [])) (held left region.w (u ∷ []))

  none : (l : List ℕ) (y : ℕ) → l ++ row_places w (record { start = right; count = 0 }) y ≡ l
  unfolding row_places range
  none l y = append-nil l

  pub row-places : (a b : ℤ) → lt_z b a ≡ false → (whole : Bool) (y : ℕ) → in_row region w (row_of whole a b) y ≡ part_places w whole (columns_of a b left right) y
  unfolding part_places columns_of
  row-places a b e true y = ap (λ xs. in_row region w xs y) (row-whole a b) ∙ row-run (through a b) (clipped a b left right) y (through-held left region.w a b e)
  row-places a b e false y = go (lt_z a b) refl
    where
      lone : (z : ℤ) → in_row region w (z ∷ []) y ≡ row_places w (clipped z z left right) y
      lone z = row-run (z ∷ []) (clipped z z left right) y (one-held left region.w z)

      go : (t : Bool) → lt_z a b ≡ t → in_row region w (row_of false a b) y
          ≡ row_places w (clipped a a left right) y ++ row_places w (cond t (clipped b b left right) (record { start = right; count = 0 })) y
      go true q = ap (λ xs. in_row region w xs y) (two_ends a b e q) ∙ both a b y ∙ ap (λ l. l ++ in_row region w (b ∷ []) y) (lone a) ∙ ap (λ l. row_places w (clipped a a left right) y ++ l) (lone b)
      go false q =
          let s : a ≡ b = not-less a b e q in
          ap (λ z. in_row region w (row_of false a z) y) (sym s) ∙ ap (λ xs. in_row region w xs y) (one_end a (ap (lt_z a) s ∙ q)) ∙ lone a ∙ sym (none (row_places w (clipped a a left right) y) y)

-- ---- the rectangle
pub flat_map-same : {A B : Type 0} (f g : A → List B) → ((x : A) → f x ≡ g x) → (l : List A) → flat_map f l ≡ flat_map g l
unfolding flat_map
flat_map-same f g e [] = refl
flat_map-same f g e (x ∷ l) = rw (e x, flat_map-same f g e l)

ordered : (a b : ℤ) → lt_z (max_z a b) (min_z a b) ≡ false
unfolding min_z max_z
ordered a b = go (lt_z a b) refl (lt_z b a) refl
  where
    go : (t : Bool) → lt_z a b ≡ t → (u : Bool) → lt_z b a ≡ u → lt_z (cond t b a) (cond u b a) ≡ false
    go true p true q = irreflexive b
    go true p false q = q
    go false p true q = p
    go false p false q = irreflexive a

pub rectangle-places : (region : Selection) (w : ℕ) (a b : Point) (filled : Bool)
    → places_of region w (rectangle_points a b filled)
    ≡ flat_map (frame_places w filled (min_z a.y b.y) (max_z a.y b.y) (columns_of (min_z a.x b.x) (max_z a.x b.x) region.x (region.x + region.w)))
    (places (clipped (min_z a.y b.y) (max_z a.y b.y) region.y (region.y + region.h)))
unfolding rectangle_points frame_places
rectangle-places region w a b filled =
    let x0 = min_z a.x b.x in
    let x1 = max_z a.x b.x in
    let y0 = min_z a.y b.y in
    let y1 = max_z a.y b.y in
    let whole : ℤ → Bool = λ y. filled || (eq_z y y0 || eq_z y y1) in
    rows-held region w (λ y. row_of (whole y) x0 x1) (through y0 y1)
    ∙ ap (flat_map (λ y. in_row region w (row_of (whole (pos y)) x0 x1) y)) (through-held region.y region.h y0 y1 (ordered a.y b.y))
    ∙ flat_map-same _ _ (λ y. row-places region w x0 x1 (ordered a.x b.x) (whole (pos y)) y) (places (clipped y0 y1 region.y (region.y + region.h)))
