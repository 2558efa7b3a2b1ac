-- `push` after its number: what that decides. Assumes nothing.
use mathlib.Core.Path.{◌≡◌, refl}
use mathlib.Core.Bool.{Bool, true, false, cond}
use Prim.Native.Nat.{ℕ, zero, suc}
use Rattle.base.specs.Checks.{or_else, first_of, refused_or}
use Rattle.base.specs.declared.Form.{Form}
use Rattle.color_curve.specs.Curve.{Curve}
use Rattle.history_ledger.specs.Calls.{refused, still, done}
use Rattle.history_ledger.specs.Journal.{State, entry_checks, pushChecks, pushOf, pushed}
use Rattle.history_model.specs.Document.{Document}
use Rattle.history_model.specs.Editing.{Given, editing_by}
use Rattle.history_push_checks.specs.Steps.{is_still, push_number, pushed_or}

-- ---- `push`: what the number decides
pub push-is : (f : Form) (c : Curve) (room : ℕ) (st : State Document) (g : Given) (n : ℕ) → n ≡ push_number f c room st g → pushed_or n (is_still g) st (pushed (editing_by f c) st g) ≡ pushOf (editing_by f c) room st g
unfolding pushed_or push_number pushOf refused_or
push-is f c room st g n q = rw q (by (first_of (entry_checks (editing_by f c) st g)) (is_still g))
  where
    by : (a : ℕ) (t : Bool)
        → refused_or (or_else a (cond t 0 (first_of (pushChecks (editing_by f c) room st g)))) (refused st) (cond t (still st) (done (pushed (editing_by f c) st g)))
        ≡ refused_or a (refused st) (cond t (still st) (refused_or (first_of (pushChecks (editing_by f c) room st g)) (refused st) (done (pushed (editing_by f c) st g))))
    by zero true = refl
    by zero false = refl
    by (suc a) t = refl

-- ---- a push after its number
module _ (n : ℕ) (empty : Bool) (st after : State Document) where
  pub refused-push : (n ≡ 0 → ⊥) → refused st n ≡ pushed_or n empty st after
  unfolding pushed_or refused_or
  refused-push h = by n h
    where
      by : (m : ℕ) → (m ≡ 0 → ⊥) → refused st m ≡ refused_or m (refused st) (cond empty (still st) (done after))
      by zero h = absurd (h refl)
      by (suc m) h = refl

  pub still-push : n ≡ 0 → empty ≡ true → still st ≡ pushed_or n empty st after
  unfolding pushed_or refused_or
  still-push z t = rw (z, t)

  pub done-push : (x : State Document) → n ≡ 0 → empty ≡ false → x ≡ after → done x ≡ pushed_or n empty st after
  unfolding pushed_or refused_or
  done-push x z t q = rw (z, t, q)
