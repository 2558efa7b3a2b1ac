-- What the passes leave pending at one place is the first old and the last new of its copies and then of the caller's changes. Assumes nothing.
use Prim.Native.Nat.{ℕ, zero, suc, ◌+◌, ◌-◌, ◌*◌, ◌/◌, ◌%◌, ◌≤◌, ◌<◌, ◌^◌}
use mathlib.Core.Path.{◌≡◌, refl, sym, ap, ◌∙◌}
use mathlib.Core.Bool.{Bool, true, false, not, cond, ◌&&◌, ◌||◌, or-true, or-false}
use mathlib.Core.List.{List, [], ◌∷◌, ◌++◌, append-nil, append_assoc}
use mathlib.Core.Logic.{◌⊎◌, ⊎_elim, inl, inr}
use native.Mathlib.Omega.{arith}
use native.Mathlib.Nat.{mod-mod}
use native.Mathlib.Decide.{ℕ_discrete}
use lib.Dec.{eqb}
use lib.IntN.{ℤ, pos}
use lib.ListN.{get_or}
use mir.Syntax.{w16}
use mir.Val.{to_z}
use borrow.Author.Tests.{eq-eqb, ne_eqb, le-leb}
use Rattle.selection.specs.declared.Selection.{Selection}
use Rattle.selection.specs.Selection.{contains}
use Rattle.edit.specs.Change.{Change, unpacked}
use Rattle.change_normal.specs.Normal.{joined}
use Rattle.change_normal.specs.Laws.{folded, first_last}
use Rattle.tile_marks.specs.Marks.{run, place_at, new_bits, last_in, elsewhere, mark_by, land_by}
use Rattle.tile_copies.specs.Pending.{old_bits, pending_by}
use Rattle.tile_marks.proofs.Runs.{run-hit, run-miss, run_none}

-- ---- one change more
unfoldable onto : List Change → Change → List Change
onto [] c = c ∷ []
onto (e ∷ r) c = joined e c ∷ []

folded-next : (c : Change) (ds : List Change) (d : Change) → folded c (ds ++ (d ∷ [])) ≡ joined (folded c ds) d
unfolding folded
folded-next c [] d = refl
folded-next c (e ∷ ds) d = folded-next (joined c e) ds d

first-last-next : (xs : List Change) (c : Change) → first_last (xs ++ (c ∷ [])) ≡ onto (first_last xs) c
unfolding first_last onto folded
first-last-next [] c = refl
first-last-next (x ∷ xs) c = ap (λ (e : Change). e ∷ []) (folded-next x xs c)

-- ---- a mark's change
module _ (w : ℕ) (list : List ℕ) where
  last-mark : (i m : ℕ) → last_in (mark_by w list i m) ≡ i
  unfolding mark_by
  last-mark i m = pick (elsewhere w list m (place_at w list i))
    where
      pick : (b : Bool) → (2 * (i + 1) + cond b 1 0) / 2 - 1 ≡ i
      pick true = omega arith
      pick false = omega arith

  mark-elsewhere : (i m q : ℕ) → elsewhere w list (mark_by w list i m) q ≡ elsewhere w list m (place_at w list i) || not (eqb (place_at w list i) q)
  unfolding mark_by elsewhere
  mark-elsewhere i m q = pick (elsewhere w list m (place_at w list i)) refl
    where
      pick : (b : Bool) → elsewhere w list m (place_at w list i) ≡ b → elsewhere w list (mark_by w list i m) q ≡ b || not (eqb (place_at w list i) q)
      pick true e =
          let a : (2 * (i + 1) + 1) % 2 ≡ 1 = omega arith in
          rw (e, le-leb 2 (2 * (i + 1) + 1) (omega arith), eq-eqb ((2 * (i + 1) + 1) % 2) 1 a)
      pick false e =
          let a : (2 * (i + 1) + 0) % 2 ≡ 0 = omega arith in
          let b : (2 * (i + 1) + 0) / 2 - 1 ≡ i = omega arith in
          rw (e, le-leb 2 (2 * (i + 1) + 0) (omega arith), a, b)

-- ---- what a number has pending at place p
module _ (w : ℕ) (l : List ℤ) (p : ℕ) where
  abbrev oldAt : ℕ → ℤ
  oldAt v = cond (eqb (v / 2 ^ 43 % 2) 1) (to_z w16 (v % 2 ^ 16)) (get_or l p (pos 0))

  abbrev pair_at : ℕ → Change
  pair_at v = record { x = p % w; y = p / w; old = oldAt v; new = to_z w16 (new_bits v) }

  unfoldable pub waitingAt : ℕ → List Change
  waitingAt v = cond (eqb (v / 2 ^ 42 % 2) 1) (pair_at v ∷ []) []

  -- a copy
  abbrev pub copyTo : ℤ → Change
  copyTo new = record { x = p % w; y = p / w; old = get_or l p (pos 0); new = new }

-- ---- at place p, whose class is r
module _ (w : ℕ) (l : List ℤ) (list : List ℕ) (key : ℕ → ℕ) (r p : ℕ) (in-region : Bool) where
  abbrev C : ℕ → Change
  C j = unpacked (get_or list j 0)

  abbrev at : ℕ → ℕ
  at j = place_at w list j

  -- change j is copied to p
  abbrev pub copied : ℕ → Bool
  copied j = eqb (key j) r && not (eqb (at j) p)

  abbrev copy : ℤ → Change
  copy new = copyTo w l p new

  unfoldable pub copies : ℕ → List Change
  copies zero = []
  copies (suc i) = copies i ++ cond (in-region && copied i) (copy (C i).new ∷ []) []

  unfoldable pub own : ℕ → List Change
  own zero = []
  own (suc i) = own i ++ cond (eqb (at i) p) (C i ∷ []) []

  abbrev mark : ℕ → ℕ
  mark i = run key (mark_by w list) r 0 i

  seen : ℕ → Bool
  seen zero = false
  seen (suc i) = seen i || copied i

  newest : ℕ → ℤ
  newest zero = pos 0
  newest (suc i) = cond (copied i) (C i).new (newest i)

  -- whether one was copied to p is what the mark of p's class tells
  seen_at : ℕ → ℕ → Bool
  seen_at q zero = false
  seen_at q (suc i) = seen_at q i || (eqb (key i) r && not (eqb (at i) q))

  seen-is : (i : ℕ) → seen_at p i ≡ seen i
  unfolding seen_at seen
  seen-is zero = refl
  seen-is (suc i) = ap (λ (b : Bool). b || copied i) (seen-is i)

  mark-seen : (i q : ℕ) → elsewhere w list (mark i) q ≡ seen_at q i
  unfolding seen_at elsewhere
  mark-seen zero q = rw (run_none key (mark_by w list) r 0)
  mark-seen (suc i) q = elim (ℕ_discrete (key i) r) [
    | yes e ↦ rw (run-hit key (mark_by w list) r 0 i e, eq-eqb (key i) r e) (mark-elsewhere w list i (mark i) q ∙ hit (mark-seen i q))
    | no e ↦ rw (run-miss key (mark_by w list) r 0 i e, ne_eqb (key i) r e) (mark-seen i q ∙ sym (or-false (seen_at q i)))
  ]
    where
      hit : elsewhere w list (mark i) q ≡ seen_at q i → elsewhere w list (mark i) (at i) || not (eqb (at i) q) ≡ seen_at q i || not (eqb (at i) q)
      hit k = elim (ℕ_discrete (at i) q) [
        | yes z ↦ rw z (ap (λ (b : Bool). b || not (eqb q q)) k)
        | no z ↦ rw (ne_eqb (at i) q z) (or-true (elsewhere w list (mark i) (at i)) ∙ sym (or-true (seen_at q i)))
      ]

  -- the copies at p, joined
  copies-joined : (i : ℕ) → first_last (copies i) ≡ cond (in-region && seen i) (copy (newest i) ∷ []) []
  unfolding copies seen newest first_last onto joined
  copies-joined zero = pick in-region
    where
      pick : (b : Bool) → [] ≡ cond (b && false) (copy (pos 0) ∷ []) []
      pick true = refl
      pick false = refl
  copies-joined (suc i) = pick in-region (copied i) (seen i) (copies-joined i)
    where
      pick : (b c s : Bool) → first_last (copies i) ≡ cond (b && s) (copy (newest i) ∷ []) []
          → first_last (copies i ++ cond (b && c) (copy (C i).new ∷ []) []) ≡ cond (b && (s || c)) (copy (cond c (C i).new (newest i)) ∷ []) []
      pick true true true h = first-last-next (copies i) (copy (C i).new) ∙ rw h
      pick true true false h = first-last-next (copies i) (copy (C i).new) ∙ rw h
      pick true false true h = rw (append-nil (copies i)) h
      pick true false false h = rw (append-nil (copies i)) h
      pick false c s h = rw (append-nil (copies i)) h

  -- where the caller names another place only, the newest is the mark's
  newest-is : (i : ℕ) → ((j : ℕ) → j < i → at j ≡ p → ⊥) → seen i ≡ true → newest i ≡ (C (last_in (mark i))).new
  unfolding seen newest
  newest-is zero n e = absurd (let z : ◌≡◌ {A = ℕ} 0 1 = cc in omega arith)
  newest-is (suc i) n e = elim (ℕ_discrete (key i) r) [
    | yes k ↦ (let m : mark (suc i) ≡ mark_by w list i (mark i) = run-hit key (mark_by w list) r 0 i k in
        rw (eq-eqb (key i) r k, ne_eqb (at i) p (n i (omega arith)), m, last-mark w list i (mark i)))
    | no k ↦ (let m : mark (suc i) ≡ mark i = run-miss key (mark_by w list) r 0 i k in
        rw (ne_eqb (key i) r k, m) (newest-is i (λ j h. n j (omega arith)) (sym (or-false (seen i)) ∙ (rw (ne_eqb (key i) r k) at e))))
  ]

  -- ---- what its number has pending
  abbrev waiting : ℕ → List Change
  waiting v = waitingAt w l p v

  waiting-next : (j v : ℕ) → (C j).x ≡ p % w → (C j).y ≡ p / w → waiting (pending_by (get_or list j 0) v) ≡ onto (waiting v) (C j)
  unfolding waitingAt pending_by onto joined unpacked
  waiting-next j v ex ey = elim (ℕ_discrete (v / 2 ^ 42 % 2) 1) [
    | yes e ↦ (let c = get_or list j 0 in
        let u : ℕ = v % 2 ^ 48 + new_bits c * 2 ^ 48 in
        let a : u / 2 ^ 42 % 2 ≡ 1 = omega arith in
        let b : u / 2 ^ 43 % 2 ≡ v / 2 ^ 43 % 2 = omega arith in
        let d : u % 2 ^ 16 ≡ v % 2 ^ 16 = omega arith in
        let q : u / 2 ^ 48 ≡ new_bits c = omega arith in
        let n : new_bits u ≡ new_bits c = ap (λ (x : ℕ). x % 2 ^ 16) q ∙ mod-mod (c / 2 ^ 48) (2 ^ 16) in
        rw (eq-eqb (v / 2 ^ 42 % 2) 1 e, eq-eqb (u / 2 ^ 42 % 2) 1 a, b, d, n) same)
    | no e ↦ (let c = get_or list j 0 in
        let u : ℕ = old_bits c + 3 * 2 ^ 42 + new_bits c * 2 ^ 48 in
        let a : u / 2 ^ 42 % 2 ≡ 1 = omega arith in
        let b : u / 2 ^ 43 % 2 ≡ 1 = omega arith in
        let d : u % 2 ^ 16 ≡ old_bits c = omega arith in
        let q : u / 2 ^ 48 ≡ new_bits c = omega arith in
        let n : new_bits u ≡ new_bits c = ap (λ (x : ℕ). x % 2 ^ 16) q ∙ mod-mod (c / 2 ^ 48) (2 ^ 16) in
        rw (ne_eqb (v / 2 ^ 42 % 2) 1 e, eq-eqb (u / 2 ^ 42 % 2) 1 a, eq-eqb (u / 2 ^ 43 % 2) 1 b, d, n) fresh)
  ]
    where
      same : record { x = p % w; y = p / w; old = oldAt w l p v; new = to_z w16 (new_bits (get_or list j 0)) } ∷ [] ≡ joined (pair_at w l p v) (C j) ∷ []
      same = refl

      fresh : record { x = p % w; y = p / w; old = to_z w16 (old_bits (get_or list j 0)); new = to_z w16 (new_bits (get_or list j 0)) } ∷ [] ≡ C j ∷ []
      fresh = rw (← ex, ← ey)

  -- ---- the caller's changes
  own-hit : (i : ℕ) → at i ≡ p → own (suc i) ≡ own i ++ (C i ∷ [])
  unfolding own
  own-hit i e = rw (eq-eqb (at i) p e)

  own-miss : (i : ℕ) → (at i ≡ p → ⊥) → own (suc i) ≡ own i
  unfolding own
  own-miss i e = rw (ne_eqb (at i) p e) (append-nil (own i))

  own-none : own 0 ≡ []
  unfolding own
  own-none = refl

  module _ (n : ℕ) (on : (j : ℕ) → j < n → at j ≡ p → ((C j).x ≡ p % w) × ((C j).y ≡ p / w)) (v : ℕ) where
    abbrev pub after : ℕ → ℕ
    after i = run (place_at w list) (λ j. pending_by (get_or list j 0)) p v i

    record Untouched (i : ℕ) : Type 0 where
      none : (j : ℕ) → j < i → at j ≡ p → ⊥
      empty : own i ≡ []
      same : after i ≡ v

    follow : ((c : Change) → onto (waiting v) c ≡ onto (first_last (copies n)) c) → (i : ℕ) → i ≤ n → Untouched i ⊎ (waiting (after i) ≡ first_last (copies n ++ own i))
    follow g zero h = inl record { none = λ j k. absurd (omega arith); empty = own-none; same = run_none (place_at w list) (λ j. pending_by (get_or list j 0)) p v }
    follow g (suc i) h = elim (ℕ_discrete (at i) p) [
      | yes e ↦ (let k = on i (omega arith) e in
          inr (ap waiting (run-hit (place_at w list) (λ j. pending_by (get_or list j 0)) p v i e) ∙ waiting-next i (after i) k.0 k.1
          ∙ ⊎_elim (λ (u : Untouched i). ap (λ (x : ℕ). onto (waiting x) (C i)) u.same ∙ g (C i) ∙ sym (first-last-next (copies n) (C i)) ∙ ap (λ (x : List Change). first_last (copies n ++ x)) (ap (λ (x : List Change). x ++ (C i ∷ [])) (sym u.empty) ∙ sym (own-hit i e)))
          (λ q. ap (λ (x : List Change). onto x (C i)) q ∙ sym (first-last-next (copies n ++ own i) (C i)) ∙ ap first_last (append_assoc (copies n) (own i) (C i ∷ []) ∙ ap (copies n ++◌) (sym (own-hit i e))))
          (follow g i (omega arith))))
      | no e ↦ (let z = run-miss (place_at w list) (λ j. pending_by (get_or list j 0)) p v i e in
          ⊎_elim (λ (u : Untouched i). inl (record { none = λ j k. elim (ℕ_discrete j i) [ yes q ↦ rw q e | no q ↦ u.none j (omega arith) ]; empty = own-miss i e ∙ u.empty; same = z ∙ u.same }))
          (λ q. inr (ap waiting z ∙ q ∙ ap (λ (x : List Change). first_last (copies n ++ x)) (sym (own-miss i e))))
          (follow g i (omega arith)))
    ]

    -- ---- over the copies that landed
    abbrev landing : Bool → List Change
    landing b = cond (in-region && b) (copy (C (last_in (mark n))).new ∷ []) []

    joined-alike : waiting v ≡ landing (seen n) → (c : Change) → onto (waiting v) c ≡ onto (first_last (copies n)) c
    unfolding onto joined
    joined-alike e c = rw (e, copies-joined n) (pick (in-region && seen n))
      where
        pick : (b : Bool) → onto (cond b (copy (C (last_in (mark n))).new ∷ []) []) c ≡ onto (cond b (copy (newest n) ∷ []) []) c
        pick true = refl
        pick false = refl

    alone : Untouched n → landing (seen n) ≡ cond (in-region && seen n) (copy (newest n) ∷ []) []
    alone u = pick in-region (seen n) refl
      where
        pick : (b s : Bool) → seen n ≡ s → cond (b && s) (copy (C (last_in (mark n))).new ∷ []) [] ≡ cond (b && s) (copy (newest n) ∷ []) []
        pick true true e = ap (λ (z : ℤ). copy z ∷ []) (sym (newest-is n u.none e))
        pick true false e = refl
        pick false s e = refl

    pub all-waiting : waiting v ≡ landing (elsewhere w list (mark n) p) → waiting (after n) ≡ first_last (copies n ++ own n)
    all-waiting e =
        let f : waiting v ≡ landing (seen n) = e ∙ ap landing (mark-seen n p ∙ seen-is n) in
        ⊎_elim (λ (u : Untouched n). ap waiting u.same ∙ f ∙ alone u ∙ sym (copies-joined n) ∙ ap first_last (sym (append-nil (copies n)) ∙ ap (copies n ++◌) (sym u.empty)))
        (λ q. q)
        (follow (joined-alike f) n (omega arith))

  -- what landed, above a class and a mark
  pub waiting-landed : (region : Selection) (base m : ℕ) → base < 2 ^ 42 → in-region ≡ contains region (p % w) (p / w)
      → waiting (base + land_by w region list p m * 2 ^ 42) ≡ cond (in-region && elsewhere w list m p) (copy (C (last_in m)).new ∷ []) []
  unfolding land_by waitingAt unpacked
  waiting-landed region base m h e = rw (← e) (pick (in-region && elsewhere w list m p))
    where
      pick : (b : Bool) → waiting (base + cond b (1 + new_bits (get_or list (last_in m) 0) * 64) 0 * 2 ^ 42) ≡ cond b (copy (C (last_in m)).new ∷ []) []
      pick true =
          let c = get_or list (last_in m) 0 in
          let u : ℕ = base + (1 + new_bits c * 64) * 2 ^ 42 in
          let a : u / 2 ^ 42 % 2 ≡ 1 = omega arith in
          let b : u / 2 ^ 43 % 2 ≡ 0 = omega arith in
          let q : u / 2 ^ 48 ≡ new_bits c = omega arith in
          let n : new_bits u ≡ new_bits c = ap (λ (x : ℕ). x % 2 ^ 16) q ∙ mod-mod (c / 2 ^ 48) (2 ^ 16) in
          rw (eq-eqb (u / 2 ^ 42 % 2) 1 a, b, n)
      pick false = let a : (base + 0 * 2 ^ 42) / 2 ^ 42 % 2 ≡ 0 = omega arith in rw a
