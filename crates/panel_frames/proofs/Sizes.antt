-- A frame that is read has no more bytes than were read, and is known by the front of its line. Assumes nothing.
use Prim.Native.Nat.{ℕ, ◌+◌, ◌*◌, ◌-◌, ◌%◌, ◌≤◌, ◌<◌, zero-le}
use mathlib.Core.Path.{◌≡◌, refl}
use mathlib.Core.List.{List}
use mathlib.Core.Bool.{Bool, true, false, cond}
use native.Mathlib.Omega.{arith}
use borrow.Author.Tests.{ltb-true, ltb-false, eqb-true}
use lib.Dec.{ltb, eqb}
use lib.ListN.{length, take, get_or}
use lib.Seq.{take_all, take-take, length-take-le}
use Rattle.panel_frames.specs.Reading.{two, exact, opening_of, pixels_of, class_of, size_of, told, frame_of}
use Rattle.panel_frames.specs.declared.Frame.{Frame}
use Rattle.panel_frames.specs.declared.Frame.TheVariants.{Malformed}

pub cond-size : (t : Bool) (a b : Frame) (n : ℕ) → (t ≡ true → size_of a ≤ n) → (t ≡ false → size_of b ≤ n) → size_of (cond t a b) ≤ n
cond-size true a b n p q = p refl
cond-size false a b n p q = q refl

none-fits : (n : ℕ) → size_of Malformed ≤ n
unfolding size_of
none-fits n = zero-le

exact-size : (bs : List ℕ) (n : ℕ) (f : Frame) → size_of f ≡ n → size_of (exact bs n f) ≤ length bs
exact-size bs n f e = cond-size (eqb (length bs) n) f Malformed (length bs) (λ t. omega (arith, e, eqb-true (length bs) n t)) (λ _. none-fits (length bs))

opening-size : (bs : List ℕ) → size_of (opening_of bs) ≤ length bs
unfolding opening_of size_of
opening-size bs =
    let n : ℕ = length bs in
    cond-size (ltb n 6) _ _ n (λ _. none-fits n) (λ _.
    cond-size (eqb n (6 + 3 * get_or bs 5 0 + two bs 1 * two bs 3)) _ _ n (λ t. let e : n ≡ 6 + 3 * get_or bs 5 0 + two bs 1 * two bs 3 = eqb-true n (6 + 3 * get_or bs 5 0 + two bs 1 * two bs 3) t in omega arith) (λ _. none-fits n))

pixels-size : (bs : List ℕ) → size_of (pixels_of bs) ≤ length bs
unfolding pixels_of size_of
pixels-size bs =
    let n : ℕ = length bs in
    cond-size (ltb n 2) _ _ n (λ _. none-fits n) (λ s.
    cond-size (eqb ((n - 2) % 6) 0) _ _ n (λ t. omega (arith, ltb-false n 2 s)) (λ _. none-fits n))

pub class-size : (bs : List ℕ) → size_of (class_of bs) ≤ length bs
unfolding class_of size_of
class-size bs =
    let n : ℕ = length bs in
    let c : ℕ = get_or bs 0 0 in
    cond-size (eqb n 0) _ _ n (λ _. none-fits n) (λ _.
    cond-size (eqb c 0) _ _ n (λ _. opening-size bs) (λ _.
    cond-size (eqb c 1) _ _ n (λ _. pixels-size bs) (λ _.
    cond-size (eqb c 2) _ _ n (λ _. exact-size bs 5 _ refl) (λ _.
    cond-size (eqb c 3) _ _ n (λ _. exact-size bs 4 _ refl) (λ _.
    cond-size (eqb c 4) _ _ n (λ _. exact-size bs 3 _ refl) (λ _.
    cond-size (eqb c 5) _ _ n (λ _. exact-size bs 1 _ refl) (λ _.
    cond-size (eqb c 6) _ _ n (λ _. exact-size bs 1 _ refl) (λ _.
    cond-size (eqb c 7) _ _ n (λ _. exact-size bs 1 _ refl) (λ _. none-fits n)))))))))

-- the bytes of a frame read from the front of a list
pub told-front : (l : List ℕ) (n : ℕ) → n ≤ length l → told (class_of (take n l)) l ≡ told (class_of (take n l)) (take n l)
told-front l n h =
    let s : size_of (class_of (take n l)) ≤ n = omega (arith, class-size (take n l), length-take-le n l h) in
    rw (take-take (size_of (class_of (take n l))) n l s)

pub front-size : (l : List ℕ) (n : ℕ) → n ≤ length l → size_of (class_of (take n l)) ≤ length l
front-size l n h = omega (arith, class-size (take n l), length-take-le n l h)

-- a frame is known by the first 16,385 bytes of its line
pub frame-clip : (l : List ℕ) → frame_of (take 16385 l) ≡ frame_of l
unfolding frame_of
frame-clip l = by (ltb 16384 (length l)) refl
  where
    by : (t : Bool) → ltb 16384 (length l) ≡ t → frame_of (take 16385 l) ≡ frame_of l
    by true e =
        let h : 16384 < length l = ltb-true 16384 (length l) e in
        let n : length (take 16385 l) ≡ 16385 = length-take-le 16385 l (omega arith) in
        rw (n, e)
    by false e =
        let h : length l ≤ 16384 = ltb-false 16384 (length l) e in
        rw (take_all 16385 l (omega arith))
