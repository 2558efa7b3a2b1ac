-- Bytes that are an opening, taken apart and put together. Assumes nothing.
use mathlib.Core.Path.{◌≡◌, refl, sym, ap, ◌∙◌}
use mathlib.Core.Bool.{Bool, true, false, cond}
use mathlib.Core.List.{List, [], ◌∷◌, ◌++◌, map}
use Prim.Native.Nat.{ℕ, ◌+◌, ◌*◌, ◌-◌, ◌/◌, ◌%◌, ◌≤◌, ◌<◌}
use native.Mathlib.Omega.{arith}
use borrow.Author.Tests.{ltb-false, leb-false, eqb-true}
use lib.Dec.{ltb, leb, eqb}
use lib.IntN.{pos, negsuc}
use lib.ListN.{length, take, drop, get_or, length-drop, take-append-drop}
use lib.Seq.{take_all, drop-drop}
use Rattle.base.specs.Lists.{some}
use Rattle.base.proofs.Nowhere.{first-not, rest-not, nowhere-drop}
use Rattle.journal_record.specs.Bytes.{le}
use Rattle.journal_record.specs.Record.{rgb_in}
use Rattle.panel_hex.specs.Hex.{byte_of}
use Rattle.panel_frames.specs.declared.Frame.{Frame}
use Rattle.panel_frames.specs.declared.Frame.TheVariants.{Open, Pixels, Set, Add, Merge, Undo, Redo, Mark, Malformed}
use Rattle.panel_frames.specs.Opening.{open_bytes}
use Rattle.panel_frames.specs.Reading.{two, exact, class_of, opening_of, pixels_of, index_of, palette_in, indices_in}

pub open-w : {w h k v i l : ℕ} → Open w h k ≡ Open v i l → w ≡ v
open-w e = cc

pub open-h : {w h k v i l : ℕ} → Open w h k ≡ Open v i l → h ≡ i
open-h e = cc

pub open-k : {w h k v i l : ℕ} → Open w h k ≡ Open v i l → k ≡ l
open-k e = cc

-- ---- bytes that are an opening
abbrev pub is_open : Frame → Bool
is_open (Open w h k) = true
is_open (Pixels tool n) = false
is_open (Set i c) = false
is_open (Add c) = false
is_open (Merge from into) = false
is_open Undo = false
is_open Redo = false
is_open Mark = false
is_open Malformed = false

either : (b : Bool) (x y : Frame) → is_open x ≡ false → is_open y ≡ false → is_open (cond b x y) ≡ false
either true x y p q = p
either false x y p q = q

never : {X : Type 0} → false ≡ true → X
never e = let z : ◌≡◌ {A = ℕ} 0 1 = cc in absurd (omega arith)

pub no-open : {X : Type 0} (f : Frame) {w h k : ℕ} → is_open f ≡ false → f ≡ Open w h k → X
no-open f n e = never (sym n ∙ ap (λ (g : Frame). is_open g) e)

pub record Opens (bs : List ℕ) (w h k : ℕ) : Type 0 where
  pub code : get_or bs 0 0 ≡ 0
  pub least : 6 ≤ length bs
  pub long : length bs ≡ 6 + 3 * k + w * h
  pub is-w : get_or bs 1 0 + 256 * get_or bs 2 0 ≡ w
  pub is-h : get_or bs 3 0 + 256 * get_or bs 4 0 ≡ h
  pub is-k : get_or bs 5 0 ≡ k

pixels-other : (bs : List ℕ) → is_open (pixels_of bs) ≡ false
unfolding pixels_of
pixels-other bs = either (ltb (length bs) 2) Malformed _ refl (either (eqb ((length bs - 2) % 6) 0) _ Malformed refl refl)

opens-opening : (bs : List ℕ) (w h k : ℕ) → get_or bs 0 0 ≡ 0 → opening_of bs ≡ Open w h k → Opens bs w h k
unfolding opening_of
opens-opening bs w h k c e = go (ltb (length bs) 6) refl (eqb (length bs) (6 + 3 * get_or bs 5 0 + two bs 1 * two bs 3)) refl e
  where
    go : (s : Bool) → ltb (length bs) 6 ≡ s → (t : Bool) → eqb (length bs) (6 + 3 * get_or bs 5 0 + two bs 1 * two bs 3) ≡ t
        → cond s Malformed (cond t (Open (two bs 1) (two bs 3) (get_or bs 5 0)) Malformed) ≡ Open w h k → Opens bs w h k
    go true p t q e = no-open Malformed refl e
    go false p true q e =
        record {
          code = c;
          least = ltb-false (length bs) 6 p;
          long = rw (open-w e, open-h e, open-k e) at (eqb-true (length bs) _ q);
          is-w = open-w e;
          is-h = open-h e;
          is-k = open-k e;
        }
    go false p false q e = no-open Malformed refl e

module _ (bs : List ℕ) where
  abbrev from7 : Frame
  from7 = cond (eqb (get_or bs 0 0) 7) (exact bs 1 Mark) Malformed

  abbrev from6 : Frame
  from6 = cond (eqb (get_or bs 0 0) 6) (exact bs 1 Redo) from7

  abbrev from5 : Frame
  from5 = cond (eqb (get_or bs 0 0) 5) (exact bs 1 Undo) from6

  abbrev from4 : Frame
  from4 = cond (eqb (get_or bs 0 0) 4) (exact bs 3 (Merge (get_or bs 1 0) (get_or bs 2 0))) from5

  abbrev from3 : Frame
  from3 = cond (eqb (get_or bs 0 0) 3) (exact bs 4 (Add (rgb_in bs 1))) from4

  abbrev from2 : Frame
  from2 = cond (eqb (get_or bs 0 0) 2) (exact bs 5 (Set (get_or bs 1 0) (rgb_in bs 2))) from3

  abbrev from1 : Frame
  from1 = cond (eqb (get_or bs 0 0) 1) (pixels_of bs) from2

  next : (code n : ℕ) (f g : Frame) → is_open f ≡ false → is_open g ≡ false → is_open (cond (eqb (get_or bs 0 0) code) (exact bs n f) g) ≡ false
  next code n f g p q = either (eqb (get_or bs 0 0) code) (exact bs n f) g (either (eqb (length bs) n) f Malformed p refl) q

  other : is_open from1 ≡ false
  other =
      either (eqb (get_or bs 0 0) 1) (pixels_of bs) from2 (pixels-other bs)
      (next 2 5 (Set (get_or bs 1 0) (rgb_in bs 2)) from3 refl
      (next 3 4 (Add (rgb_in bs 1)) from4 refl
      (next 4 3 (Merge (get_or bs 1 0) (get_or bs 2 0)) from5 refl
      (next 5 1 Undo from6 refl
      (next 6 1 Redo from7 refl
      (next 7 1 Mark Malformed refl refl))))))

pub opens : (bs : List ℕ) (w h k : ℕ) → class_of bs ≡ Open w h k → Opens bs w h k
unfolding class_of
opens bs w h k e = go (eqb (length bs) 0) (eqb (get_or bs 0 0) 0) refl e
  where
    go : (s t : Bool) → eqb (get_or bs 0 0) 0 ≡ t → cond s Malformed (cond t (opening_of bs) (from1 bs)) ≡ Open w h k → Opens bs w h k
    go true t q e = no-open Malformed refl e
    go false true q e = opens-opening bs w h k (eqb-true (get_or bs 0 0) 0 q) e
    go false false q e = no-open (from1 bs) (other bs) e

-- ---- its bytes, taken apart and put together
byte-again : (b : ℕ) → leb 256 b ≡ false → byte_of (index_of b) ≡ b
unfolding byte_of index_of
byte-again b h = go (eqb b 255) refl
  where
    go : (t : Bool) → eqb b 255 ≡ t → byte_of (cond t (negsuc 0) (pos b)) ≡ b
    go true e = sym (eqb-true b 255 e)
    go false e = let l = leb-false 256 b h in omega arith

bytes-again : (l : List ℕ) → some (leb 256) l ≡ false → map byte_of (map index_of l) ≡ l
bytes-again [] e = refl
bytes-again (b ∷ l) e = rw (byte-again b (first-not (leb 256) b l e), bytes-again l (rest-not (leb 256) b l e))

low_byte : (w a b : ℕ) → a < 256 → a + 256 * b ≡ w → w % 256 ≡ a
low_byte w a b p e = omega arith

high_byte : (w a b : ℕ) → a < 256 → b < 256 → a + 256 * b ≡ w → w / 256 % 256 ≡ b
high_byte w a b p q e = let d : w / 256 ≡ b = omega arith in rw d (omega arith)

pub together : (bs : List ℕ) (w h k : ℕ) → some (leb 256) bs ≡ false → Opens bs w h k → open_bytes w h k (palette_in k bs) (indices_in w h k bs) ≡ bs
unfolding open_bytes le some
together [] w h k b o = absurd (omega (arith, o.least))
together (b0 ∷ []) w h k b o = absurd (omega (arith, o.least))
together (b0 ∷ b1 ∷ []) w h k b o = absurd (omega (arith, o.least))
together (b0 ∷ b1 ∷ b2 ∷ []) w h k b o = absurd (omega (arith, o.least))
together (b0 ∷ b1 ∷ b2 ∷ b3 ∷ []) w h k b o = absurd (omega (arith, o.least))
together (b0 ∷ b1 ∷ b2 ∷ b3 ∷ b4 ∷ []) w h k b o = absurd (omega (arith, o.least))
together (b0 ∷ b1 ∷ b2 ∷ b3 ∷ b4 ∷ b5 ∷ rest) w h k b o =
    let c1 = rest-not (leb 256) b0 (b1 ∷ b2 ∷ b3 ∷ b4 ∷ b5 ∷ rest) b in
    let c2 = rest-not (leb 256) b1 (b2 ∷ b3 ∷ b4 ∷ b5 ∷ rest) c1 in
    let c3 = rest-not (leb 256) b2 (b3 ∷ b4 ∷ b5 ∷ rest) c2 in
    let c4 = rest-not (leb 256) b3 (b4 ∷ b5 ∷ rest) c3 in
    let c5 = rest-not (leb 256) b4 (b5 ∷ rest) c4 in
    let c6 = rest-not (leb 256) b5 rest c5 in
    let s1 = leb-false 256 b1 (first-not (leb 256) b1 (b2 ∷ b3 ∷ b4 ∷ b5 ∷ rest) c1) in
    let s2 = leb-false 256 b2 (first-not (leb 256) b2 (b3 ∷ b4 ∷ b5 ∷ rest) c2) in
    let s3 = leb-false 256 b3 (first-not (leb 256) b3 (b4 ∷ b5 ∷ rest) c3) in
    let s4 = leb-false 256 b4 (first-not (leb 256) b4 (b5 ∷ rest) c4) in
    let ew = o.is-w in
    let eh = o.is-h in
    let w1 : w % 256 ≡ b1 = low_byte w b1 b2 s1 ew in
    let w2 : w / 256 % 256 ≡ b2 = high_byte w b1 b2 s1 s2 ew in
    let h1 : h % 256 ≡ b3 = low_byte h b3 b4 s3 eh in
    let h2 : h / 256 % 256 ≡ b4 = high_byte h b3 b4 s3 s4 eh in
    let past : length rest ≡ 3 * k + w * h = omega (arith, o.long) in
    let left : length (drop (3 * k) rest) ≡ w * h = omega (arith, length-drop (3 * k) rest) in
    let all : take (w * h) (drop (3 * k) rest) ≡ drop (3 * k) rest = take_all (w * h) (drop (3 * k) rest) (omega arith) in
    let again : map byte_of (map index_of (take (w * h) (drop (3 * k) rest))) ≡ drop (3 * k) rest = rw all (bytes-again (drop (3 * k) rest) (nowhere-drop (leb 256) (3 * k) rest c6)) in
    let whole : take (3 * k) rest ++ map byte_of (map index_of (take (w * h) (drop (3 * k) rest))) ≡ rest = rw again (take-append-drop (3 * k) rest) in
    let z : b0 ≡ 0 = o.code in
    let kk : b5 ≡ k = o.is-k in
    let bs : List ℕ = b0 ∷ b1 ∷ b2 ∷ b3 ∷ b4 ∷ b5 ∷ rest in
    let tail : take (3 * k) (drop 6 bs) ++ map byte_of (map index_of (take (w * h) (drop (6 + 3 * k) bs))) ≡ rest =
    ap (λ (l : List ℕ). take (3 * k) rest ++ map byte_of (map index_of (take (w * h) l))) (sym (drop-drop (3 * k) 6 bs)) ∙ whole in
    let head : (0 ∷ b1 ∷ b2 ∷ b3 ∷ b4 ∷ k ∷ rest) ≡ bs = ap (λ (n : ℕ). n ∷ b1 ∷ b2 ∷ b3 ∷ b4 ∷ k ∷ rest) (sym z) ∙ ap (λ (n : ℕ). b0 ∷ b1 ∷ b2 ∷ b3 ∷ b4 ∷ n ∷ rest) (sym kk) in
    rw (w1, w2, h1, h2) (ap (λ (l : List ℕ). 0 ∷ b1 ∷ b2 ∷ b3 ∷ b4 ∷ k ∷ l) tail ∙ head)
