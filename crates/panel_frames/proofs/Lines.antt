-- A line written in three parts: head, indices and newline. Assumes nothing.
use Prim.Native.Nat.{ℕ, ◌+◌, ◌*◌, ◌≤◌}
use mathlib.Core.Path.{◌≡◌, refl, ap, ◌∙◌}
use mathlib.Core.Bool.{Bool}
use mathlib.Core.List.{List, [], ◌∷◌, ◌++◌, map}
use native.Mathlib.Omega.{arith}
use lib.IntN.{ℤ}
use lib.ListN.{length, length-append, length-map}
use Rattle.journal_record.specs.Bytes.{le, splice}
use Rattle.journal_record.proofs.Splice.{splice-then}
use Rattle.panel_hex.specs.Hex.{byte_of, hex_byte, hex_of}
use Rattle.panel_hex.proofs.Digits.{length-hex, hex-append}
use Rattle.panel_frames.specs.Writing.{head_of, line_of, number_line}

module _ (answer position : ℕ) (dirty : Bool) (k : ℕ) (is : List ℤ) where
  pub length-line : length (line_of answer position dirty k is) ≡ 11 + 2 * length is
  unfolding line_of head_of le
  length-line =
      let h : List ℕ = head_of answer position dirty k ++ map byte_of is in
      let e : length h ≡ 5 + length is = length-append (head_of answer position dirty k) (map byte_of is) ∙ ap (λ n. 5 + n) (length-map is byte_of) in
      rw (length-append (hex_of h), length-hex h, e) (omega arith)

  pub line-written : (l d₁ d₂ d₃ : List ℕ) (at end : ℕ) → at + 11 + 2 * length is ≤ length l → end ≡ at + 10 + 2 * length is
      → d₁ ≡ splice l at (hex_of (head_of answer position dirty k)) → d₂ ≡ splice d₁ (at + 10) (hex_of (map byte_of is)) → d₃ ≡ splice d₂ end (10 ∷ [])
      → d₃ ≡ splice l at (line_of answer position dirty k is)
  unfolding line_of head_of le
  line-written l d₁ d₂ d₃ at end room e e₁ e₂ e₃ =
      let a : List ℕ = hex_of (head_of answer position dirty k) in
      let b : List ℕ = hex_of (map byte_of is) in
      let la : length a ≡ 10 = length-hex (head_of answer position dirty k) in
      let lb : length b ≡ 2 * length is = length-hex (map byte_of is) ∙ ap (λ n. 2 * n) (length-map is byte_of) in
      let lab : length (a ++ b) ≡ 10 + 2 * length is = rw (length-append a b, la, lb) in
      let s : d₂ ≡ splice l at (a ++ b) = splice-then l d₁ d₂ a b at (at + 10) (omega arith) (omega arith) e₁ e₂ in
      splice-then l d₂ d₃ (a ++ b) (10 ∷ []) at end (omega arith) (omega arith) s e₃
      ∙ rw (hex-append (head_of answer position dirty k) (map byte_of is))

pub length-number : (n : ℕ) → length (number_line n) ≡ 3
unfolding number_line hex_of hex_byte
length-number n = refl

pub number-written : (n : ℕ) (l d₁ d₂ : List ℕ) (at : ℕ) → at + 3 ≤ length l → d₁ ≡ splice l at (hex_byte n) → d₂ ≡ splice d₁ (at + 2) (10 ∷ []) → d₂ ≡ splice l at (number_line n)
unfolding number_line hex_of hex_byte
number-written n l d₁ d₂ at room e₁ e₂ = splice-then l d₁ d₂ (hex_byte n) (10 ∷ []) at (at + 2) (omega arith) refl e₁ e₂
