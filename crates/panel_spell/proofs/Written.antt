-- The line in four runs: head, colours, indices and newline. Assumes nothing.
use mathlib.Core.Path.{◌≡◌, sym, ap, ◌∙◌}
use mathlib.Core.List.{List, [], ◌∷◌, ◌++◌, map, append_assoc}
use Prim.Native.Nat.{ℕ, ◌+◌, ◌*◌}
use native.Mathlib.Omega.{arith}
use lib.IntN.{ℤ}
use lib.ListN.{length, length-append, length-map}
use Rattle.base.specs.Lists.{over}
use Rattle.journal_record.specs.Bytes.{le, splice}
use Rattle.journal_record.proofs.Splice.{over-then}
use Rattle.panel_hex.specs.Hex.{hex_of, byte_of}
use Rattle.panel_hex.proofs.Digits.{length-hex, hex-append}
use Rattle.panel_frames.specs.Opening.{open_bytes}
use Rattle.panel_spell.specs.Spelling.{open_line}

-- "00 w(2) h(2) k"
abbrev head_of : ℕ → ℕ → ℕ → List ℕ
head_of w h k = 0 ∷ le 2 w ++ (le 2 h ++ (k ∷ []))

length-head : (w h k : ℕ) → length (hex_of (head_of w h k)) ≡ 12
unfolding le
length-head w h k = length-hex (head_of w h k)

module _ (w h k : ℕ) (colours : List ℕ) (is : List ℤ) where
  in-runs : open_line w h k colours is ≡ ((hex_of (head_of w h k) ++ hex_of colours) ++ hex_of (map byte_of is)) ++ (10 ∷ [])
  unfolding open_line open_bytes le
  in-runs =
      ap (λ (l : List ℕ). l ++ (10 ∷ []))
      (hex-append (head_of w h k) (colours ++ map byte_of is)
      ∙ ap (λ (l : List ℕ). hex_of (head_of w h k) ++ l) (hex-append colours (map byte_of is))
      ∙ sym (append_assoc (hex_of (head_of w h k)) (hex_of colours) (hex_of (map byte_of is))))

  module _ (long : length colours ≡ 3 * k) where
    two : length (hex_of (head_of w h k) ++ hex_of colours) ≡ 12 + 6 * k
    two = omega (arith, length-append (hex_of (head_of w h k)) (hex_of colours), length-head w h k, length-hex colours)

    three : length ((hex_of (head_of w h k) ++ hex_of colours) ++ hex_of (map byte_of is)) ≡ 12 + 6 * k + 2 * length is
    three = omega (arith, length-append (hex_of (head_of w h k) ++ hex_of colours) (hex_of (map byte_of is)), two, length-hex (map byte_of is), length-map is byte_of)

    pub length-line : length (open_line w h k colours is) ≡ 13 + 6 * k + 2 * length is
    length-line = rw in-runs (omega (arith, length-append ((hex_of (head_of w h k) ++ hex_of colours) ++ hex_of (map byte_of is)) (10 ∷ []), three))

    pub line-written : (l d₁ d₂ d₃ d₄ : List ℕ) (at end : ℕ) → at ≡ 12 + 6 * k → end ≡ 12 + 6 * k + 2 * length is
        → d₁ ≡ over (hex_of (head_of w h k)) l → d₂ ≡ splice d₁ 12 (hex_of colours) → d₃ ≡ splice d₂ at (hex_of (map byte_of is)) → d₄ ≡ splice d₃ end (10 ∷ [])
        → d₄ ≡ over (open_line w h k colours is) l
    line-written l d₁ d₂ d₃ d₄ at end at-is end_is e₁ e₂ e₃ e₄ =
        rw in-runs
        (over-then ((hex_of (head_of w h k) ++ hex_of colours) ++ hex_of (map byte_of is)) (10 ∷ []) l d₃ d₄ end (three ∙ sym end_is)
        (over-then (hex_of (head_of w h k) ++ hex_of colours) (hex_of (map byte_of is)) l d₂ d₃ at (two ∙ sym at-is)
        (over-then (hex_of (head_of w h k)) (hex_of colours) l d₁ d₂ 12 (length-head w h k) e₁ e₂) e₃) e₄)
