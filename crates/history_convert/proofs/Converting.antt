-- A conversion is done exactly where its checks pass and the used part is read: then its outcome is the records in the other form. Assumes nothing.
use Prim.Native.Nat.{ℕ, zero, suc, ◌+◌, ◌-◌, ◌≤◌}
use mathlib.Core.Path.{◌≡◌, refl, ◌∙◌, subst}
use mathlib.Core.Bool.{true, false}
use mathlib.Core.List.{List}
use mathlib.Core.Option.{Option, none, some, some-injective}
use native.Mathlib.Omega.{arith}
use borrow.Author.Tests.{ltb-false, le-ltb, not-false}
use lib.Dec.{ltb}
use lib.ListN.{length, take, drop}
use Rattle.base.specs.Checks.{Check, first_of, refused_or}
use Rattle.base.specs.Numbers.{journal_damaged}
use Rattle.base.specs.Answer.{Done}
use Rattle.base.specs.Answer.Told.{alone}
use Rattle.base.specs.Lists.{over}
use Rattle.base.specs.declared.Form.{Form}
use Rattle.base.specs.declared.Handle.{Handle}
use Rattle.base.proofs.First.{past}
use Rattle.history_ledger.specs.Calls.{Outcome, done, refused, guarded}
use Rattle.history_ledger.specs.Handle.{sound}
use Rattle.journal_raw.specs.Raw.{Raw, other, raws_bytes, raws_in, any_stray}
use Rattle.base.proofs.Scan.{or_left, or_right}
use Rattle.history_convert.specs.Convert.{lent, Used, both_read, used_in, used_bytes, used_handle, record_checks, rewritten, entry_checks, convert_of}

-- ---- checks that pass, and an answer that is done
not_done : {X : Type 0} (n : ℕ) → alone n ≡ Done → X
not_done n e = absurd (let z : ◌≡◌ {A = ℕ} 0 1 = cc in omega arith)

never : {A X : Type 0} (a : A) → none ≡ some a → X
never a e = absurd (let z : ◌≡◌ {A = ℕ} 0 1 = cc in omega arith)

passed : {S : Type 0} (s : S) (cs : List Check) (o : Outcome S) → (guarded s cs o).answer ≡ Done → (first_of cs ≡ 0) × (o.answer ≡ Done)
unfolding refused_or
passed s cs o e = by (first_of cs) refl e
  where
    by : (n : ℕ) → first_of cs ≡ n → (refused_or n (refused s) o).answer ≡ Done → (first_of cs ≡ 0) × (o.answer ≡ Done)
    by zero q e = (q, e)
    by (suc n) q e = not_done (suc n) e

passes : {S : Type 0} (s : S) (cs : List Check) (o : Outcome S) → first_of cs ≡ 0 → guarded s cs o ≡ o
unfolding refused_or
passes s cs o e = rw e

-- ---- the checks before the records
pub record Entered (w h size room : ℕ) (handle : Handle) : Type 0 where
  pub narrow : w ≤ 1024
  pub low : h ≤ 1024
  pub journal-fits : size ≤ 2147483647
  pub out-fits : room ≤ 2147483647
  pub is-sound : sound size handle ≡ true

module _ (w h size room : ℕ) (handle : Handle) where
  pub entered : first_of (entry_checks w h size room handle) ≡ 0 → Entered w h size room handle
  entered e =
      let one = past _ _ (omega arith) e in
      let two = past _ _ (omega arith) one.rest in
      let three = past _ _ (omega arith) two.rest in
      let four = past _ _ (omega arith) three.rest in
      record {
        narrow = ltb-false 1024 w (or_left (ltb 1024 w) _ one.off);
        low = ltb-false 1024 h (or_right (ltb 1024 w) _ one.off);
        journal-fits = ltb-false _ _ two.off;
        out-fits = ltb-false _ _ three.off;
        is-sound = not-false _ four.off;
      }

  pub enter : Entered w h size room handle → first_of (entry_checks w h size room handle) ≡ 0
  unfolding first_of
  enter t = rw (le-ltb 1024 w t.narrow, le-ltb 1024 h t.low, le-ltb 2147483647 size t.journal-fits, le-ltb 2147483647 room t.out-fits, t.is-sound)

-- ---- the checks of the records
pub record Fitting (g : Form) (w h room : ℕ) (u : Used) : Type 0 where
  pub past-on : any_stray w h u.past ≡ false
  pub future-on : any_stray w h u.future ≡ false
  pub roomy : length (raws_bytes g w u.past) + length (raws_bytes g w u.future) ≤ room

module _ (g : Form) (w h : ℕ) (out : List ℕ) (u : Used) where
  pub fitting : first_of (record_checks g w h out u) ≡ 0 → Fitting g w h (length out) u
  fitting e =
      let one = past _ _ (omega arith) e in
      let two = past _ _ (omega arith) one.rest in
      record {
        past-on = or_left (any_stray w h u.past) _ one.off;
        future-on = or_right (any_stray w h u.past) _ one.off;
        roomy = ltb-false _ _ two.off;
      }

  pub fit : Fitting g w h (length out) u → first_of (record_checks g w h out u) ≡ 0
  unfolding first_of
  fit t = rw (t.past-on, t.future-on, le-ltb (length out) _ t.roomy)

-- ---- the conversion
pub record Converts (f : Form) (w h : ℕ) (journal : List ℕ) (handle : Handle) (out : List ℕ) : Type 0 where
  pub entry : Entered w h (length journal) (length out) handle
  pub used : Used
  pub reads : used_in f w journal handle ≡ some used
  pub fits : Fitting (other f) w h (length out) used

module _ (f : Form) (w h : ℕ) (journal : List ℕ) (handle : Handle) (out : List ℕ) where
  pub converts-is : (c : Converts f w h journal handle out)
      → convert_of f w h journal handle out ≡ done (lent (used_handle (other f) w c.used handle) (over (used_bytes (other f) w c.used) out))
  unfolding convert_of rewritten
  converts-is c =
      passes _ (entry_checks w h (length journal) (length out) handle) _ (enter w h (length journal) (length out) handle c.entry)
      ∙ rw c.reads (passes _ (record_checks (other f) w h out c.used) _ (fit (other f) w h out c.used c.fits))

  pub converts : (convert_of f w h journal handle out).answer ≡ Done → Converts f w h journal handle out
  unfolding convert_of rewritten
  converts e = by (used_in f w journal handle) refl p.1
    where
      p : (first_of (entry_checks w h (length journal) (length out) handle) ≡ 0) × ((rewritten (other f) w h handle out (used_in f w journal handle)).answer ≡ Done)
      p = passed _ (entry_checks w h (length journal) (length out) handle) _ e

      by : (o : Option Used) → used_in f w journal handle ≡ o → (rewritten (other f) w h handle out o).answer ≡ Done → Converts f w h journal handle out
      by none q e = not_done journal_damaged e
      by (some u) q e =
          record {
            entry = entered w h (length journal) (length out) handle p.0;
            used = u;
            reads = q;
            fits = fitting (other f) w h out u (passed _ (record_checks (other f) w h out u) _ e).0;
          }

-- ---- the two parts that are read
pub record Parts (f : Form) (w : ℕ) (journal : List ℕ) (h : Handle) (u : Used) : Type 0 where
  pub past-reads : raws_in f w h.position (take h.offset journal) ≡ some u.past
  pub future-reads : raws_in f w (h.count - h.position) (take (h.end - h.offset) (drop h.offset journal)) ≡ some u.future

module _ (f : Form) (w : ℕ) (journal : List ℕ) (h : Handle) (u : Used) where
  pub parts : used_in f w journal h ≡ some u → Parts f w journal h u
  unfolding used_in both_read
  parts e = by (raws_in f w h.position (take h.offset journal)) refl (raws_in f w (h.count - h.position) (take (h.end - h.offset) (drop h.offset journal))) refl e
    where
      by : (a : Option (List Raw)) → raws_in f w h.position (take h.offset journal) ≡ a
          → (b : Option (List Raw)) → raws_in f w (h.count - h.position) (take (h.end - h.offset) (drop h.offset journal)) ≡ b
          → both_read a b ≡ some u → Parts f w journal h u
      by none p b q e = never u e
      by (some a) p none q e = never u e
      by (some a) p (some b) q e =
          subst (Parts f w journal h) (some-injective (record { past = a; future = b }) u e) (record { past-reads = p; future-reads = q })

  pub parts_are : Parts f w journal h u → used_in f w journal h ≡ some u
  unfolding used_in both_read
  parts_are p = rw (p.past-reads, p.future-reads)
