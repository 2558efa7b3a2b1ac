-- A clip's bytes: four a pixel. Assumes nothing.
use mathlib.Core.Path.{◌≡◌, refl, sym, ap, ◌∙◌}
use mathlib.Core.Bool.{Bool, true, false, cond}
use mathlib.Core.List.{List, [], ◌∷◌, ◌++◌, flat_map}
use Prim.Native.Nat.{ℕ, ◌+◌, ◌*◌, ◌-◌, ◌<◌, ◌≤◌}
use native.Mathlib.Omega.{arith}
use borrow.Author.Tests.{ltb-true}
use borrow.Rule.Slice.PartMut.{put_mid}
use lib.Dec.{ltb}
use lib.IntN.{ℤ, pos, negsuc}
use lib.ListN.{length, get_or, set, take, drop}
use lib.Seq.{length-take-le, take_all}
use Rattle.base.specs.Lists.{over}
use Rattle.base.proofs.Over.{over_none, over-lent, length_over}
use Rattle.base.proofs.Collect.{flat_map-append, flat_map-one, length-flat_map}
use Rattle.base.specs.Ints.{on_axis}
use Rattle.base.specs.Triples.{rgb_at}
use Rattle.sheet.proofs.Front.{take_next}
use Rattle.tool_clip.specs.Clips.{opaque, clear, rgba_of}

-- four stores
pub four : (l : List ℕ) (r g b a : ℕ) → 4 ≤ length l → set (set (set (set l 0 r) 1 g) 2 b) 3 a ≡ over (r ∷ g ∷ b ∷ a ∷ []) l
unfolding over
four [] r g b a h = absurd (omega arith)
four (p ∷ []) r g b a h = absurd (omega arith)
four (p ∷ q ∷ []) r g b a h = absurd (omega arith)
four (p ∷ q ∷ s ∷ []) r g b a h = absurd (omega arith)
four (p ∷ q ∷ s ∷ t ∷ l) r g b a h = refl

module _ (k : ℕ) (palette : List ℕ) where
  rgba-length : (z : ℤ) → length (rgba_of k palette z) ≡ 4
  unfolding rgba_of
  rgba-length (pos n) = go (ltb n k)
    where
      go : (b : Bool) → length (cond b (opaque (rgb_at palette n)) clear) ≡ 4
      go true = refl
      go false = refl
  rgba-length (negsuc n) = refl

  -- by where the index falls among the entries
  pub rgba-entry : (z : ℤ) (i : ℕ) → i ≡ on_axis z k → i < k → opaque (rgb_at palette i) ≡ rgba_of k palette z
  unfolding rgba_of on_axis
  rgba-entry (pos n) i e h = go (ltb n k) refl e
    where
      go : (b : Bool) → ltb n k ≡ b → i ≡ cond b n k → opaque (rgb_at palette i) ≡ cond b (opaque (rgb_at palette n)) clear
      go true q e = rw e
      go false q e = absurd (omega arith)
  rgba-entry (negsuc n) i e h = absurd (omega arith)

  pub rgba-none : (z : ℤ) (i : ℕ) → i ≡ on_axis z k → k ≤ i → clear ≡ rgba_of k palette z
  unfolding rgba_of on_axis
  rgba-none (pos n) i e h = go (ltb n k) refl e
    where
      go : (b : Bool) → ltb n k ≡ b → i ≡ cond b n k → clear ≡ cond b (opaque (rgb_at palette n)) clear
      go true q e = absurd (omega (arith, ltb-true n k q))
      go false q e = refl
  rgba-none (negsuc n) i e h = refl

  -- ---- the bytes of the first i pixels
  module _ (clip : List ℤ) where
    bytes : ℕ → List ℕ
    bytes i = flat_map (rgba_of k palette) (take i clip)

    bytes-length : (i : ℕ) → i ≤ length clip → length (bytes i) ≡ 4 * i
    unfolding bytes
    bytes-length i h = length-flat_map (rgba_of k palette) 4 rgba-length (take i clip) ∙ omega (arith, length-take-le i clip h)

    bytes-more : (i : ℕ) → i < length clip → bytes (i + 1) ≡ bytes i ++ rgba_of k palette (get_or clip i (pos 0))
    unfolding bytes
    bytes-more i h = rw (take_next clip i (pos 0) h, flat_map-append, flat_map-one)

    pub record Put (out₀ out : List ℕ) (i : ℕ) : Type 0 where
      pub long : length out ≡ length out₀
      pub inside : i ≤ length clip
      written : out ≡ over (bytes i) out₀

    pub put-none : (out : List ℕ) → Put out out 0
    unfolding bytes flat_map
    put-none out = record { long = refl; inside = omega arith; written = over_none out }

    pub put_next : {out₀ out : List ℕ} {i : ℕ} → Put out₀ out i → 4 * length clip ≤ length out₀ → i < length clip → (part : List ℕ)
        → part ≡ over (rgba_of k palette (get_or clip i (pos 0))) (take (length out - 4 * i) (drop (4 * i) out))
        → Put out₀ (put_mid (4 * i) (length out - 4 * i) out part) (i + 1)
    put_next {out₀} {out} {i} p room h part q =
        let written = over-lent (bytes i) (rgba_of k palette (get_or clip i (pos 0))) out₀ out part (4 * i) (bytes-length i p.inside) p.written q
        ∙ ap (λ (l : List ℕ). over l out₀) (sym (bytes-more i h)) in
        record {
          long = ap (λ (l : List ℕ). length l) written ∙ length_over (bytes (i + 1)) out₀ (omega (arith, bytes-length (i + 1) (omega arith)));
          inside = omega arith;
          written = written;
        }

    pub put_all : {out₀ out : List ℕ} {i : ℕ} → Put out₀ out i → length clip ≤ i → out ≡ over (flat_map (rgba_of k palette) clip) out₀
    unfolding bytes
    put_all {out₀} {out} {i} p h = rw (take_all i clip h) at p.written
