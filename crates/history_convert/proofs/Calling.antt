-- The call's answers: what the sizes of both parts say of the conversion. Assumes nothing.
use Prim.Native.Nat.{ℕ, ◌+◌, ◌-◌, ◌*◌, ◌≤◌, ◌<◌}
use mathlib.Core.Path.{◌≡◌, refl, sym, ap, ap₂, ◌∙◌}
use mathlib.Core.Bool.{Bool, true, false, cond, ◌||◌}
use mathlib.Core.List.{List, [], ◌∷◌}
use mathlib.Core.Option.{Option, none, some, some-injective}
use native.Mathlib.Nat.{sub-zero}
use native.Mathlib.Omega.{arith}
use borrow.Author.Tests.{lt-ltb}
use lib.ListN.{length, take, drop, length-drop}
use lib.Seq.{length-take-le}
use Rattle.base.specs.Numbers.{journal_damaged, journal_full}
use Rattle.base.specs.Answer.{answer_told}
use Rattle.base.specs.Checks.{first_of}
use Rattle.base.specs.Lists as lists
use Rattle.base.specs.declared.Form.{Form}
use Rattle.base.specs.declared.Handle.{Handle}
use Rattle.base.proofs.First.{refused-first, result-first}
use Rattle.edit.specs.Change.{Change, outside}
use Rattle.history_ledger.specs.Calls.{Answer, done, refused}
use Rattle.history_ledger.specs.Handle.{sound}
use Rattle.history_ledger.proofs.Soundness.{sound-facts}
use Rattle.journal_record.specs.Bytes.{splice}
use Rattle.journal_record.proofs.Splice.{over-then}
use Rattle.journal_raw.specs.Raw.{Raw, other, raws_bytes, raws_in, stray, any_stray}
use Rattle.base.proofs.Scan.{or_left, or_right}
use Rattle.journal_write.proofs.Placed.{column-on}
use Rattle.base.specs.declared.Converted.{Converted}
use Rattle.std.specs.Prelude.{Some, None}
use Rattle.history_convert.specs.declared.Sizes.{Sizes}
use Rattle.history_convert.specs.Convert.{lent, Used, used_in, used_bytes, moved_to, record_checks, rewritten, entry_checks, convert_of}
use Rattle.history_convert.specs.Sizes.{sizes_of, Ready, Rewritable, leaves}
use Rattle.history_convert.proofs.Converting.{entered, converts-is, parts}
use Rattle.history_convert.proofs.Writing.{raws-most}

-- ---- both parts have sizes
abbrev both-long : Form → ℕ → Used → Sizes
both-long f w u = record { past = length (raws_bytes (other f) w u.past); future = length (raws_bytes (other f) w u.future) }

pub record Sized (f : Form) (w h : ℕ) (journal : List ℕ) (handle : Handle) (past future : ℕ) : Type 0 where
  pub used : Used
  pub reads : used_in f w journal handle ≡ some used
  pub past-on : any_stray w h used.past ≡ false
  pub future-on : any_stray w h used.future ≡ false
  pub past_is : length (raws_bytes (other f) w used.past) ≡ past
  pub future-is : length (raws_bytes (other f) w used.future) ≡ future

module _ (f : Form) (w h : ℕ) (journal : List ℕ) (handle : Handle) (sizes : Sizes) where
  sized-where : (u : Used) → used_in f w journal handle ≡ some u → (b : Bool) → any_stray w h u.past || any_stray w h u.future ≡ b
      → cond b None (Some (both-long f w u)) ≡ Some sizes → Sized f w h journal handle sizes.past sizes.future
  sized-where u q true s e = absurd (let z : ◌≡◌ {A = ℕ} 0 1 = cc in omega arith)
  sized-where u q false s e =
      let same : ◌≡◌ {A = Sizes} (both-long f w u) sizes = cc in
      record {
        used = u;
        reads = q;
        past-on = or_left (any_stray w h u.past) _ s;
        future-on = or_right (any_stray w h u.past) _ s;
        past_is = ap (λ (x : Sizes). x.past) same;
        future-is = ap (λ (x : Sizes). x.future) same;
      }

  sized-by : (o : Option Used) → used_in f w journal handle ≡ o → sizes_of (other f) w h o ≡ Some sizes → Sized f w h journal handle sizes.past sizes.future
  unfolding sizes_of
  sized-by none q e = absurd (let z : ◌≡◌ {A = ℕ} 0 1 = cc in omega arith)
  sized-by (some u) q e = sized-where u q (any_stray w h u.past || any_stray w h u.future) refl e

  pub sized : sizes_of (other f) w h (used_in f w journal handle) ≡ Some sizes → Sized f w h journal handle sizes.past sizes.future
  sized e = sized-by (used_in f w journal handle) refl e

-- ---- only a sheet that has a width has changes
first_on : (w h : ℕ) (cs : List Change) → lists.some (outside w h) cs ≡ false → 0 < length cs → 0 < w
unfolding lists.some
first_on w h [] e m = absurd (omega arith)
first_on w h (c ∷ cs) e m = omega (arith, column-on w h c (or_left (outside w h c) _ e))

wide-raw : (w h : ℕ) (r : Raw) → stray w h r ≡ false → 0 < length r.changes → 0 < w
unfolding stray
wide-raw w h r e more = first_on w h r.changes e more

wide-raws : (w h : ℕ) (rs : List Raw) → any_stray w h rs ≡ false → lists.All (λ (r : Raw). 0 < length r.changes → 0 < w) rs
unfolding lists.All lists.some
wide-raws w h [] e = tt
wide-raws w h (r ∷ rs) e = (wide-raw w h r (or_left (stray w h r) _ e), wide-raws w h rs (or_right (stray w h r) _ e))

pub rewritable : (f : Form) (w h : ℕ) (journal : List ℕ) (handle : Handle) (past future room : ℕ) → Sized f w h journal handle past future → past + future ≤ room → Rewritable f w journal handle past room
rewritable f w h journal handle past future room s fits =
    let t = parts f w journal handle s.used s.reads in
    record {
      used = s.used;
      reads = s.reads;
      past-reads = t.past-reads;
      future-reads = t.future-reads;
      past-wide = wide-raws w h s.used.past s.past-on;
      future-wide = wide-raws w h s.used.future s.future-on;
      past_is = s.past_is;
      roomy = omega (arith, s.past_is, s.future-is);
    }

-- ---- both parts written
pub both-written : (f : Form) (w : ℕ) (journal : List ℕ) (handle : Handle) (past : ℕ) (out s t : List ℕ) (r : Rewritable f w journal handle past (length out))
    → s ≡ splice out 0 (raws_bytes (other f) w r.used.past) → t ≡ splice s past (raws_bytes (other f) w r.used.future) → t ≡ lists.over (used_bytes (other f) w r.used) out
unfolding splice
both-written f w journal handle past out s t r p q = over-then (raws_bytes (other f) w r.used.past) (raws_bytes (other f) w r.used.future) out s t past r.past_is p q

pub all-written : (f : Form) (w : ℕ) (journal : List ℕ) (handle : Handle) (past : ℕ) (out s t : List ℕ) (r : Rewritable f w journal handle past (length out))
    → ((rs : List Raw) → raws_in f w handle.position (take (handle.offset - 0) journal) ≡ some rs → s ≡ splice out 0 (raws_bytes (other f) w rs))
    → ((rs : List Raw) → raws_in f w (handle.count - handle.position) (take (handle.end - handle.offset) (drop handle.offset journal)) ≡ some rs → t ≡ splice s past (raws_bytes (other f) w rs))
    → (u : Used) → used_in f w journal handle ≡ some u → t ≡ lists.over (used_bytes (other f) w u) out
all-written f w journal handle past out s t r p q u e =
    let first = p r.used.past (rw (sub-zero handle.offset) r.past-reads) in
    let second = q r.used.future r.future-reads in
    both-written f w journal handle past out s t r first second
    ∙ ap (λ (x : Used). lists.over (used_bytes (other f) w x) out) (some-injective r.used u (sym r.reads ∙ e))

-- what each part asks
pub past-ready : (f : Form) (w : ℕ) (journal : List ℕ) (handle : Handle) (past room : ℕ) → Rewritable f w journal handle past room → Ready f w handle.position (take (handle.offset - 0) journal) 0 room
past-ready f w journal handle past room r =
    record { raws = r.used.past; reads = rw (sub-zero handle.offset) r.past-reads; wide = r.past-wide; roomy = omega (arith, r.past_is, r.roomy) }

pub future-ready : (f : Form) (w : ℕ) (journal : List ℕ) (handle : Handle) (past room : ℕ) → Rewritable f w journal handle past room
    → Ready f w (handle.count - handle.position) (take (handle.end - handle.offset) (drop handle.offset journal)) past room
future-ready f w journal handle past room r = record { raws = r.used.future; reads = r.future-reads; wide = r.future-wide; roomy = r.roomy }

-- the sizes fit
pub sizes-fit : (f : Form) (w h : ℕ) (journal : List ℕ) (handle : Handle) (past future : ℕ) → Sized f w h journal handle past future → sound (length journal) handle ≡ true → past + future ≤ 2 * length journal
sizes-fit f w h journal handle past future s ok =
    let t = parts f w journal handle s.used s.reads in
    let fine = sound-facts (length journal) handle ok in
    let a = raws-most f (other f) w handle.position (take handle.offset journal) s.used.past t.past-reads in
    let b = raws-most f (other f) w (handle.count - handle.position) (take (handle.end - handle.offset) (drop handle.offset journal)) s.used.future t.future-reads in
    let a-long : length (take handle.offset journal) ≡ handle.offset = length-take-le handle.offset journal (omega (arith, fine.ends, fine.fits)) in
    let b-long : length (take (handle.end - handle.offset) (drop handle.offset journal)) ≡ handle.end - handle.offset =
    length-take-le (handle.end - handle.offset) (drop handle.offset journal) (rw length-drop (omega (arith, fine.ends, fine.fits))) in
    omega (arith, s.past_is, s.future-is, fine.ends, fine.fits)

-- the answer in its two parts
pub leaves-is : (r : Converted) (out : List ℕ) (a : Answer) (handle : Handle) → answer_told r.answer ≡ a → r.handle ≡ handle → leaves r out ≡ record { answer = a; leaves = lent handle out }
leaves-is r out a handle p q = ap₂ (λ (x : Answer) (y : Handle). record { answer = x; leaves = lent y out }) p q

-- ---- the checks of the records, one by one
stray-is : (f : Form) (w h : ℕ) (out : List ℕ) (u : Used) → any_stray w h u.past || any_stray w h u.future ≡ true → journal_damaged ≡ first_of (record_checks (other f) w h out u)
unfolding first_of
stray-is f w h out u s = rw s

full_is : (f : Form) (w h : ℕ) (out : List ℕ) (u : Used) → any_stray w h u.past ≡ false → any_stray w h u.future ≡ false
    → length out < length (raws_bytes (other f) w u.past) + length (raws_bytes (other f) w u.future) → journal_full ≡ first_of (record_checks (other f) w h out u)
unfolding first_of
full_is f w h out u a b short = rw (a, b, lt-ltb _ _ short)

-- ---- the four answers
module _ (f : Form) (w h : ℕ) (journal : List ℕ) (handle : Handle) (out : List ℕ) where
  pub answer-entry : (n : ℕ) → n ≡ first_of (entry_checks w h (length journal) (length out) handle) → (n ≡ 0 → ⊥) → refused (lent handle out) n ≡ convert_of f w h journal handle out
  unfolding convert_of
  answer-entry n e z = refused-first _ _ _ n e z

  module _ (n : ℕ) (n-is : n ≡ first_of (entry_checks w h (length journal) (length out) handle)) (zero_is : n ≡ 0) where
    past-entry : rewritten (other f) w h handle out (used_in f w journal handle) ≡ convert_of f w h journal handle out
    unfolding convert_of
    past-entry = result-first _ _ _ (sym n-is ∙ zero_is)

    damaged-by : (o : Option Used) → sizes_of (other f) w h o ≡ None → refused (lent handle out) journal_damaged ≡ rewritten (other f) w h handle out o
    unfolding sizes_of rewritten
    damaged-by none e = refl
    damaged-by (some u) e = by (any_stray w h u.past || any_stray w h u.future) refl e
      where
        by : (b : Bool) → any_stray w h u.past || any_stray w h u.future ≡ b
            → cond b None (Some (both-long f w u)) ≡ None
            → refused (lent handle out) journal_damaged ≡ rewritten (other f) w h handle out (some u)
        by true s e = refused-first _ _ _ journal_damaged (stray-is f w h out u s) (λ z. omega arith)
        by false s e = absurd (let z : ◌≡◌ {A = ℕ} 0 1 = cc in omega arith)

    pub answer-damaged : sizes_of (other f) w h (used_in f w journal handle) ≡ None → refused (lent handle out) journal_damaged ≡ convert_of f w h journal handle out
    answer-damaged e = damaged-by (used_in f w journal handle) e ∙ past-entry

    module _ (past future : ℕ) (s : Sized f w h journal handle past future) where
      pub answer-full : length out < past + future → refused (lent handle out) journal_full ≡ convert_of f w h journal handle out
      unfolding rewritten
      answer-full short =
          refused-first _ _ _ journal_full (full_is f w h out s.used s.past-on s.future-on (omega (arith, s.past_is, s.future-is))) (λ z. omega arith)
          ∙ sym (ap (rewritten (other f) w h handle out) s.reads) ∙ past-entry

      pub answer-done : past + future ≤ length out → (out' : List ℕ) → out' ≡ lists.over (used_bytes (other f) w s.used) out
          → done (lent (moved_to past (past + future) handle) out') ≡ convert_of f w h journal handle out
      answer-done fits out' e =
          rw (e, ← s.past_is, ← s.future-is)
          (sym (converts-is f w h journal handle out
          (record {
            entry = entered w h (length journal) (length out) handle (sym n-is ∙ zero_is);
            used = s.used;
            reads = s.reads;
            fits = record { past-on = s.past-on; future-on = s.future-on; roomy = omega (arith, s.past_is, s.future-is) };
          })))
