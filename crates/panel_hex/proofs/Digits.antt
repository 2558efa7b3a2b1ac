-- Bytes written as digits one by one. Assumes nothing.
use Prim.Native.Nat.{ℕ, ◌+◌, ◌*◌, ◌≤◌, ◌<◌}
use mathlib.Core.Path.{◌≡◌, refl, ap, ◌∙◌}
use mathlib.Core.List.{List, [], ◌∷◌, ◌++◌, append_assoc, append-nil}
use native.Mathlib.Omega.{arith}
use lib.ListN.{length, take, get_or, length-append}
use lib.Seq.{take_all, length-take-le}
use Rattle.sheet.proofs.Front.{take_next}
use Rattle.journal_record.specs.Bytes.{splice}
use Rattle.journal_record.proofs.Splice.{length-splice, splice-none, splice-then}
use Rattle.panel_hex.specs.Hex.{hex_byte, hex_of}

pub length-byte : (b : ℕ) → length (hex_byte b) ≡ 2
unfolding hex_byte
length-byte b = refl

pub length-hex : (bs : List ℕ) → length (hex_of bs) ≡ 2 * length bs
unfolding hex_of
length-hex [] = refl
length-hex (b ∷ bs) = rw (length-append (hex_byte b) (hex_of bs), length-byte b, length-hex bs) (omega arith)

pub hex-append : (a b : List ℕ) → hex_of (a ++ b) ≡ hex_of a ++ hex_of b
unfolding hex_of
hex-append [] b = refl
hex-append (x ∷ a) b = rw (hex-append a b, append_assoc (hex_byte x) (hex_of a) (hex_of b))

pub hex-one : (b : ℕ) → hex_of (b ∷ []) ≡ hex_byte b
unfolding hex_of
hex-one b = append-nil (hex_byte b)

-- the digits of the first i bytes stand from `at` on
pub record Hexing (vs l₀ : List ℕ) (at : ℕ) (l : List ℕ) (i : ℕ) : Type 0 where
  pub low : i ≤ length vs
  pub long : length l ≡ length l₀
  pub is : l ≡ splice l₀ at (hex_of (take i vs))

module _ (vs l₀ : List ℕ) (at : ℕ) where
  pub hexing-none : Hexing vs l₀ at l₀ 0
  unfolding hex_of
  hexing-none = record { low = omega arith; long = refl; is = splice-none l₀ at }

  module _ (room : at + 2 * length vs ≤ length l₀) (l : List ℕ) (i : ℕ) (p : Hexing vs l₀ at l i) where
    pub hexing-next : (l' : List ℕ) (v : ℕ) → i < length vs → v ≡ get_or vs i 0 → l' ≡ splice l (at + 2 * i) (hex_byte v) → Hexing vs l₀ at l' (i + 1)
    hexing-next l' v h e s =
        let first : List ℕ = hex_of (take i vs) in
        let n : length first ≡ 2 * i = length-hex (take i vs) ∙ ap (λ m. 2 * m) (length-take-le i vs (omega arith)) in
        let more : hex_of (take (i + 1) vs) ≡ first ++ hex_byte v = rw (take_next vs i 0 h, ← e, hex-append, hex-one) in
        record {
          low = omega arith;
          long = ap length s ∙ length-splice l (hex_byte v) (at + 2 * i) (omega (arith, length-byte v, p.long)) ∙ p.long;
          is = rw more (splice-then l₀ l l' first (hex_byte v) at (at + 2 * i) (omega arith) (omega arith) p.is s);
        }

    pub hexing-all : length vs ≤ i → l ≡ splice l₀ at (hex_of vs)
    hexing-all h = rw (take_all i vs h) at p.is
