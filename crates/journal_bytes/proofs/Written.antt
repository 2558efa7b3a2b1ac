-- A number's bytes as std writes them are those of `le`, and a run written over a part of a slice is spliced in. Assumes nothing.
use Rattle.std.proofs.Common.{◌≡◌, ℕ, zero, suc, ◌/◌, ◌%◌, ◌^◌, List, length, refl, sym, ◌∙◌}
use Rattle.std.specs.Int.{byte_at, bytes_low_first}
use native.Mathlib.Nat.{pow-suc, pow-zero, div-one, div-div-eq-div-mul}
use borrow.Rule.Slice.PartMut.{put_mid}
use Rattle.base.specs.Lists.{over}
use Rattle.journal_record.specs.Bytes.{le, splice}
use Rattle.journal_record.proofs.LittleEndian.{length-le}

byte_at-div : (i n : ℕ) → byte_at i n ≡ n / 256 ^ i % 256
byte_at-div zero n = rw (pow-zero 256, div-one n)
byte_at-div (suc i) n = refl

-- k bytes from byte i upward
bytes_low_first-le : (i k n : ℕ) → bytes_low_first i k n ≡ le k (n / 256 ^ i)
unfolding le
bytes_low_first-le i zero n = refl
bytes_low_first-le i (suc k) n =
    rw (byte_at-div i n, bytes_low_first-le (suc i) k n, pow-suc 256 i, div-div-eq-div-mul n (256 ^ i) 256)

-- v, written over the m elements from `at` on
pub splice-mid : (l part v : List ℕ) (at m : ℕ) → part ≡ v → m ≡ length v → put_mid at m l part ≡ splice l at v
unfolding splice over
splice-mid l part v at m p e = rw (p, e)

-- the k lowest bytes of n
pub splice-low_first : (l part : List ℕ) (at k m n : ℕ) → part ≡ bytes_low_first 0 k n → m ≡ k → put_mid at m l part ≡ splice l at (le k n)
splice-low_first l part at k m n p e =
    let q : part ≡ le k n = p ∙ bytes_low_first-le 0 k n ∙ rw (pow-zero 256, div-one n) in
    splice-mid l part (le k n) at m q (e ∙ sym (length-le k n))
