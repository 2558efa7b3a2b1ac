-- What `normalize` and `pixels` answer, by what their tests find. Assumes nothing.
use Prim.Native.Nat.{ℕ, ◌≤◌, ◌<◌}
use mathlib.Core.Path.{◌≡◌, refl, ap}
use mathlib.Core.List.{List, map}
use native.Mathlib.Omega.{arith}
use borrow.Author.Tests.{lt-ltb, le-ltb}
use lib.ListN.{length, take}
use Rattle.base.specs.Limits.{max_changes}
use Rattle.base.specs.Checks.{first_of}
use Rattle.base.specs.Answer.{Told, filled, leaving, count_told, Op, op_count}
use Rattle.base.specs.Answer.Told.{result, alone}
use Rattle.base.specs.declared.Counted.TheVariants.{Refused}
use Rattle.edit.specs.Change.{unpacked}
use Rattle.change_list.specs.Fronts.{Front}
use Rattle.change_list.specs.Listed.{handed, InScratch}
use Rattle.change_list.proofs.Handing.{listed-refused, listed-done}
use Rattle.change_list.proofs.InScratch.{scratch-then}
use Rattle.change_normal.specs.Normal.{normalize_of, normal_packed}
use Rattle.change_op.specs.Op.{normalize_checks, normalize_call, making, pixels_of, pixels_call}

module _ (room : ℕ) (list out : List ℕ) where
  pub normalize-long : max_changes < length list → filled (Refused 21) out ≡ normalize_call room list out
  unfolding normalize_call normalize_checks first_of
  normalize-long h =
      listed-refused (normalize_checks (length list) room) (normalize_of (map unpacked list)) out 21 (rw (lt-ltb max_changes (length list) h)) (λ e. omega arith)

  module _ (h : length list ≤ max_changes) where
    pub normalize-short : room < length list → filled (Refused 16) out ≡ normalize_call room list out
    unfolding normalize_call normalize_checks first_of
    normalize-short k =
        listed-refused (normalize_checks (length list) room) (normalize_of (map unpacked list)) out 16
        (rw (le-ltb max_changes (length list) h, lt-ltb room (length list) k)) (λ e. omega arith)

    pub normalize-done : {a : Told ℕ} {s m : List ℕ} {n : ℕ} → length list ≤ room → Front (normal_packed list) s n → leaving a m ≡ handed (take n s) out
        → leaving a m ≡ normalize_call room list out
    unfolding normalize_call normalize_checks first_of normal_packed
    normalize-done k f d =
        listed-done (normalize_checks (length list) room) (normalize_of (map unpacked list)) out
        (rw (le-ltb max_changes (length list) h, le-ltb room (length list) k)) f d

-- ---- the same list, for an edit of pixels
count_kept : (tool : ℕ) (a : Told ℕ) → op_count (pixels_of tool a) ≡ count_told a
unfolding pixels_of
count_kept tool (result n) = refl
count_kept tool (alone n) = refl

module _ (tool room : ℕ) (list : List ℕ) (places : ℕ) where
  pub pixels-in : {a : Told ℕ} {o : Told Op} {s : List ℕ} → InScratch (count_told a) places s (leaving a) (normalize_call room list) → o ≡ pixels_of tool a
      → InScratch (op_count o) places s (making o) (pixels_call tool room list)
  unfolding pixels_call
  pixels-in {a} c e = rw (e, count_kept tool a) (scratch-then c (λ out after h d. ap (λ f. making (pixels_of tool f.answer) f.buffer) d))
