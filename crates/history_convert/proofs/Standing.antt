-- A handle that stands among the records of a permitted journal: it is sound, and undo, redo and mark keep it among them. Assumes nothing.
use Prim.Native.Nat.{ℕ, ◌+◌, ◌-◌, ◌*◌, ◌≤◌}
use mathlib.Core.Path.{◌≡◌, refl, sym, ap, ◌∙◌}
use mathlib.Core.Bool.{true}
use mathlib.Core.List.{List, [], ◌∷◌, ◌++◌, flat_map, append_assoc}
use mathlib.Core.Logic.{◌⊎◌, inl, inr}
use mathlib.Core.Option.{some}
use native.Mathlib.Omega.{arith}
use lib.ListN.{length, take, drop, length-append}
use lib.Seq.{take_at, drop_at}
use Rattle.base.specs.Limits.{max_journal}
use Rattle.base.specs.Lists as lists
use Rattle.base.specs.declared.Edit.{Edit}
use Rattle.base.specs.declared.Edit.TheVariants.{Pixels, PaletteSet, PaletteAdd, PaletteRemove, PaletteLock}
use Rattle.base.specs.declared.Form.{Form}
use Rattle.base.specs.declared.Handle.{Handle}
use Rattle.base.proofs.Each.{all_append, all_left, all_right}
use Rattle.base.proofs.Collect.{flat_map-append, flat_map-one}
use Rattle.history_ledger.specs.Handle.{nowhere, sound, stepped_back, stepped_forth, marked}
use Rattle.history_ledger.proofs.Soundness.{exactly, sound-yes}
use Rattle.journal_record.specs.Record.{by_kind, read_forth, read_back}
use Rattle.journal_record.specs.Found.{kind_of}
use Rattle.journal_raw.specs.Raw.{Raw, head_length, raw_length, raw_bytes, raws_bytes}
use Rattle.journal_raw.proofs.Readings.{Whole, length-raw}

-- ---- a record has 8 bytes at least
head-least : (e : Edit) → 3 ≤ head_length (kind_of e)
unfolding head_length kind_of by_kind
head-least (Pixels tool) = omega arith
head-least (PaletteSet i old new lab) = omega arith
head-least (PaletteAdd c) = omega arith
head-least (PaletteRemove i c lab) = omega arith
head-least (PaletteLock i old new) = omega arith

raw-least : (f : Form) (w : ℕ) (r : Raw) → Whole w r → 8 ≤ length (raw_bytes f w r)
raw-least f w r t =
    let head : 3 ≤ length r.head = rw (t.head-is, ← t.kind-is) (head-least t.edit) in
    rw (length-raw f w r) (omega arith)

pub raws-least : (f : Form) (w : ℕ) (rs : List Raw) → lists.All (Whole w) rs → 8 * length rs ≤ length (raws_bytes f w rs)
unfolding flat_map lists.All
raws-least f w [] t = omega arith
raws-least f w (r ∷ rs) t = rw (length-append (raw_bytes f w r) (raws_bytes f w rs)) (omega (arith, raw-least f w r t.0, raws-least f w rs t.1))

raws-none : (f : Form) (w : ℕ) (rs : List Raw) → length rs ≡ 0 → length (raws_bytes f w rs) ≡ 0
unfolding flat_map
raws-none f w [] e = refl
raws-none f w (r ∷ rs) e = absurd (omega arith)

-- ---- a handle between two lists of records
pub record Stands (f : Form) (w : ℕ) (journal : List ℕ) (h : Handle) (past future : List Raw) : Type 0 where
  pub past-whole : lists.All (Whole w) past
  pub future-whole : lists.All (Whole w) future
  pub offset-is : h.offset ≡ length (raws_bytes f w past)
  pub end_is : h.end ≡ length (raws_bytes f w past) + length (raws_bytes f w future)
  pub position-is : h.position ≡ length past
  pub count-is : h.count ≡ length past + length future
  pub saves : (h.saved ≡ nowhere) ⊎ (h.saved ≤ h.count)
  pub after : List ℕ
  pub journal-is : journal ≡ raws_bytes f w past ++ (raws_bytes f w future ++ after)
  pub permitted : length journal ≤ max_journal

module _ (f : Form) (w : ℕ) (journal : List ℕ) (h : Handle) (past future : List Raw) (s : Stands f w journal h past future) where
  long : length journal ≡ length (raws_bytes f w past) + (length (raws_bytes f w future) + length s.after)
  long = ap length s.journal-is ∙ length-append (raws_bytes f w past) (raws_bytes f w future ++ s.after)
      ∙ ap (λ (n : ℕ). length (raws_bytes f w past) + n) (length-append (raws_bytes f w future) s.after)

  pub stands-sound : sound (length journal) h ≡ true
  stands-sound =
      let p = raws-least f w past s.past-whole in
      let q = raws-least f w future s.future-whole in
      let o = s.offset-is in
      let e = s.end_is in
      let n = s.position-is in
      let c = s.count-is in
      sound-yes (length journal) h
      (record {
        ends = omega arith;
        fits = omega (arith, long);
        stands = omega arith;
        saves = s.saves;
        before = omega arith;
        after = omega arith;
        first = exactly h.offset 0 h.position 0 (λ z. omega arith) (λ z. omega (arith, raws-none f w past (omega arith)));
        last = exactly h.offset h.end h.position h.count (λ z. omega arith) (λ z. omega (arith, raws-none f w future (omega arith)));
      })

  -- the bytes before it, and those after it
  pub before-is : take h.offset journal ≡ raws_bytes f w past
  before-is = rw s.journal-is (take_at (raws_bytes f w past) _ h.offset (sym s.offset-is))

  pub after_is : take (h.end - h.offset) (drop h.offset journal) ≡ raws_bytes f w future
  after_is =
      rw (s.journal-is, drop_at (raws_bytes f w past) (raws_bytes f w future ++ s.after) h.offset (sym s.offset-is))
      (take_at (raws_bytes f w future) s.after (h.end - h.offset) (omega (arith, s.offset-is, s.end_is)))

-- ---- lists by their last
pub record Last (l : List Raw) : Type 0 where
  pub front : List Raw
  pub last : Raw
  pub is : l ≡ front ++ (last ∷ [])

pub by_last : (l : List Raw) → (l ≡ []) ⊎ Last l
by_last [] = inl refl
by_last (x ∷ l) = inr (go (by_last l))
  where
    go : (l ≡ []) ⊎ Last l → Last (x ∷ l)
    go (inl e) = record { front = []; last = x; is = ap (λ (r : List Raw). x ∷ r) e }
    go (inr t) = record { front = x ∷ t.front; last = t.last; is = ap (λ (r : List Raw). x ∷ r) t.is }

pub one_more : (f : Form) (w : ℕ) (l : List Raw) (r : Raw) → raws_bytes f w (l ++ (r ∷ [])) ≡ raws_bytes f w l ++ raw_bytes f w r
one_more f w l r = flat_map-append (raw_bytes f w) l (r ∷ []) ∙ rw flat_map-one

pub one-longer : (f : Form) (w : ℕ) (l : List Raw) (r : Raw) → length (raws_bytes f w (l ++ (r ∷ []))) ≡ length (raws_bytes f w l) + raw_length f r
one-longer f w l r = ap length (one_more f w l r) ∙ rw (length-append, length-raw)

pub first-longer : (f : Form) (w : ℕ) (r : Raw) (l : List Raw) → length (raws_bytes f w (r ∷ l)) ≡ raw_length f r + length (raws_bytes f w l)
unfolding flat_map
first-longer f w r l = rw (length-append, length-raw)

-- ---- a step back over the last record before it
module _ (f : Form) (w : ℕ) (journal : List ℕ) (h : Handle) (past : List Raw) (r : Raw) (future : List Raw) (s : Stands f w journal h (past ++ (r ∷ [])) future) where
  pub back_whole : Whole w r
  unfolding lists.All
  back_whole = (all_right (Whole w) past (r ∷ []) s.past-whole).0

  pub reads-back : read_back f w (take h.offset journal) ≡ some (raw_length f r, back_whole.edit, r.changes)
  reads-back = ap (read_back f w) (before-is f w journal h (past ++ (r ∷ [])) future s ∙ one_more f w past r) ∙ back_whole.back f (raws_bytes f w past)

  pub stands-back : Stands f w journal (stepped_back (raw_length f r) h) past (r ∷ future)
  unfolding lists.All flat_map
  stands-back =
      let o = s.offset-is in
      let e = s.end_is in
      let n = s.position-is in
      let c = s.count-is in
      let many : length (past ++ (r ∷ [])) ≡ length past + 1 = length-append past (r ∷ []) in
      record {
        past-whole = all_left (Whole w) past (r ∷ []) s.past-whole;
        future-whole = (back_whole, s.future-whole);
        offset-is = omega (arith, one-longer f w past r);
        end_is = omega (arith, one-longer f w past r, first-longer f w r future);
        position-is = omega arith;
        count-is = omega arith;
        saves = s.saves;
        after = s.after;
        journal-is = s.journal-is ∙ rw (one_more f w past r) (simp append_assoc);
        permitted = s.permitted;
      }

-- ---- a step forth over the first record after it
module _ (f : Form) (w : ℕ) (journal : List ℕ) (h : Handle) (past : List Raw) (r : Raw) (future : List Raw) (s : Stands f w journal h past (r ∷ future)) where
  pub forth-whole : Whole w r
  unfolding lists.All
  forth-whole = s.future-whole.0

  pub reads-forth : read_forth f w (take (h.end - h.offset) (drop h.offset journal)) ≡ some (raw_length f r, forth-whole.edit, r.changes)
  unfolding flat_map
  reads-forth = ap (read_forth f w) (after_is f w journal h past (r ∷ future) s) ∙ forth-whole.forth f (raws_bytes f w future)

  pub stands-forth : Stands f w journal (stepped_forth (raw_length f r) h) (past ++ (r ∷ [])) future
  unfolding lists.All flat_map
  stands-forth =
      let o = s.offset-is in
      let e = s.end_is in
      let n = s.position-is in
      let c = s.count-is in
      let many : length (past ++ (r ∷ [])) ≡ length past + 1 = length-append past (r ∷ []) in
      record {
        past-whole = all_append (Whole w) past (r ∷ []) s.past-whole (forth-whole, tt);
        future-whole = s.future-whole.1;
        offset-is = omega (arith, one-longer f w past r);
        end_is = omega (arith, one-longer f w past r, first-longer f w r future);
        position-is = omega arith;
        count-is = omega arith;
        saves = s.saves;
        after = s.after;
        journal-is = s.journal-is ∙ sym (rw (one_more f w past r) (simp append_assoc));
        permitted = s.permitted;
      }

pub stands-marked : (f : Form) (w : ℕ) (journal : List ℕ) (h : Handle) (past future : List Raw) → Stands f w journal h past future → Stands f w journal (marked h) past future
stands-marked f w journal h past future s =
    record {
      past-whole = s.past-whole;
      future-whole = s.future-whole;
      offset-is = s.offset-is;
      end_is = s.end_is;
      position-is = s.position-is;
      count-is = s.count-is;
      saves = inr (omega (arith, s.position-is, s.count-is));
      after = s.after;
      journal-is = s.journal-is;
      permitted = s.permitted;
    }
