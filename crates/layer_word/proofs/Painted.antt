-- A buffer as a loop paints it, a pixel of four bytes a turn: what is painted, then what stood there. Assumes nothing.
use mathlib.Core.Path.{◌≡◌, refl, sym, ap, subst, ◌∙◌}
use mathlib.Core.List.{List, [], ◌∷◌, ◌++◌, flat_map}
use Prim.Native.Nat.{ℕ, zero, suc, ◌+◌, ◌*◌, ◌-◌, ◌<◌, ◌≤◌}
use native.Mathlib.Omega.{arith}
use native.Mathlib.Nat.{add-zero, add-suc}
use native.Mathlib.Numerals.{add-one}
use lib.ListN.{length, take, drop, length-append, length-drop, take-append-drop}
use lib.Seq.{drop-append_seam, length-take-le}
use Rattle.base.specs.Lists.{range, over}
use Rattle.base.proofs.Over.{over_none, length_over}
use Rattle.base.proofs.Collect.{range-next, flat_map-append, flat_map-one}
use Rattle.journal_record.specs.Bytes.{splice}
use Rattle.journal_record.proofs.Splice.{over-then}
use Rattle.layer_shown.specs.Layers.{pixel_in}

-- n pixels of four bytes each
pub flat-length : (f : ℕ → List ℕ) (a n : ℕ) → ((p : ℕ) → a ≤ p → p < a + n → length (f p) ≡ 4) → length (flat_map f (range a n)) ≡ 4 * n
unfolding range flat_map
flat-length f a zero four = refl
flat-length f a (suc n) four =
    length-append (f a) (flat_map f (range (suc a) n))
    ∙ rw (four a (omega arith) (omega arith), flat-length f (suc a) n (λ p x y. four p (omega arith) (omega arith))) (omega arith)

-- what stands somewhere, written there again
pub splice-same : (l : List ℕ) (at m : ℕ) → at + m ≤ length l → l ≡ splice l at (take m (drop at l))
unfolding splice over
splice-same l at m h =
    let e : length (take m (drop at l)) ≡ m = length-take-le m (drop at l) (simp length-drop (omega arith)) in
    rw (e, take-append-drop m (drop at l)) (sym (take-append-drop at l))

-- the first i of n pixels, f of each place, then what stood there
pub record Painted (f : ℕ → List ℕ) (out₀ out : List ℕ) (i : ℕ) : Type 0 where
  pub long : length out ≡ length out₀
  pub is : out ≡ over (flat_map f (range 0 i)) out₀

pub painted-none : (f : ℕ → List ℕ) (out : List ℕ) → Painted f out out 0
unfolding range flat_map
painted-none f out = record { long = refl; is = over_none out }

module _ (f : ℕ → List ℕ) (n : ℕ) (out₀ : List ℕ) (four : (p : ℕ) → p < n → length (f p) ≡ 4) (room : 4 * n ≤ length out₀) where
  front_length : (i : ℕ) → i ≤ n → length (flat_map f (range 0 i)) ≡ 4 * i
  front_length i h = flat-length f 0 i (λ p x y. four p (omega arith))

  -- what is not yet painted is what stood there
  pub still : {out : List ℕ} {i : ℕ} → Painted f out₀ out i → i ≤ n → drop (4 * i) out ≡ drop (4 * i) out₀
  unfolding over
  still {out} {i} c h =
      let e : length (flat_map f (range 0 i)) ≡ 4 * i = front_length i h in
      ap (λ (l : List ℕ). drop (4 * i) l) c.is
      ∙ rw (← e) (drop-append_seam (flat_map f (range 0 i)) (drop (length (flat_map f (range 0 i))) out₀))

  more : (i : ℕ) → flat_map f (range 0 (i + 1)) ≡ flat_map f (range 0 i) ++ f i
  more i = rw (range-next 0 i, flat_map-append f (range 0 i) ((0 + i) ∷ []), flat_map-one f (0 + i)) (ap (λ (k : ℕ). flat_map f (range 0 i) ++ f k) (omega arith))

  by_over : (i : ℕ) (out : List ℕ) → i ≤ n → out ≡ over (flat_map f (range 0 i)) out₀ → Painted f out₀ out i
  by_over i out h e =
      record {
        long = ap (λ (l : List ℕ). length l) e ∙ length_over (flat_map f (range 0 i)) out₀ (omega (arith, front_length i h));
        is = e;
      }

  -- a pixel written
  pub painted-next : {out : List ℕ} {i : ℕ} → Painted f out₀ out i → i < n → (next bytes : List ℕ) → next ≡ splice out (4 * i) bytes → bytes ≡ f i
      → Painted f out₀ next (i + 1)
  painted-next {out} {i} c h next bytes e b =
      by_over (i + 1) next (omega arith)
      (over-then (flat_map f (range 0 i)) bytes out₀ out next (4 * i) (front_length i (omega arith)) c.is e
      ∙ ap (λ (l : List ℕ). over l out₀) (rw b (sym (more i))))

  -- a pixel that keeps what stood there
  pub painted-kept : {out : List ℕ} {i : ℕ} → Painted f out₀ out i → i < n → f i ≡ pixel_in out₀ i → Painted f out₀ out (i + 1)
  painted-kept {out} {i} c h e =
      let stays : pixel_in out i ≡ pixel_in out₀ i = ap (λ (l : List ℕ). take 4 l) (still c (omega arith)) in
      painted-next c h out (pixel_in out i) (splice-same out (4 * i) 4 (omega (arith, c.long))) (stays ∙ sym e)

  -- more of them
  painted_past : {out : List ℕ} {i : ℕ} → Painted f out₀ out i → (k : ℕ) → i + k ≤ n → ((p : ℕ) → i ≤ p → p < i + k → f p ≡ pixel_in out₀ p)
      → Painted f out₀ out (i + k)
  painted_past {out} {i} c zero h e = rw (add-zero i) c
  painted_past {out} {i} c (suc k) h e =
      let more = painted-kept (painted_past c k (omega arith) (λ p a b. e p (omega arith) (omega arith))) (omega arith) (e (i + k) (omega arith) (omega arith)) in
      rw (add-suc i k, ← add-one (i + k)) more

  pub painted-to : {out : List ℕ} {i : ℕ} → Painted f out₀ out i → (k : ℕ) → i ≤ k → k ≤ n → ((p : ℕ) → i ≤ p → p < k → f p ≡ pixel_in out₀ p) → Painted f out₀ out k
  painted-to {out} {i} c k a b e =
      subst (λ (m : ℕ). Painted f out₀ out m) (omega arith) (painted_past c (k - i) (omega arith) (λ p x y. e p x (omega arith)))

  pub painted-all : {out : List ℕ} {i : ℕ} → Painted f out₀ out i → i ≤ n → n ≤ i → out ≡ over (flat_map f (range 0 n)) out₀
  painted-all {out} {i} c h k = let e : i ≡ n = omega arith in rw (← e) c.is
