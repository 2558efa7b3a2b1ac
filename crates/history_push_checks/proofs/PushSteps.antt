-- The steps of `push` put together: its number, of a list in any form. What goes through the list is told by what it answers, `each`. Assumes nothing.
use mathlib.Core.Path.{◌≡◌, refl, sym, ap, ◌∙◌}
use mathlib.Core.Bool.{Bool, true, false}
use mathlib.Core.List.{List, [], ◌∷◌, map, flat_map}
use Prim.Native.Nat.{ℕ, zero, suc, ◌+◌, ◌*◌, ◌^◌, ◌<◌, ◌≤◌}
use native.Mathlib.Omega.{arith}
use borrow.Author.Tests.{eqb-true, ltb-true, ltb-false, lt-ltb, le-ltb}
use lib.Dec.{ltb}
use lib.IntN.{ℤ}
use lib.Ieee.{Float}
use lib.ListN.{length, length-map}
use Rattle.base.specs.Limits.{max_changes, max_journal}
use Rattle.base.specs.Checks.{or_else, first_of}
use Rattle.base.proofs.First.{or-else-assoc, or-else-zero, first_passes, past-both}
use Rattle.base.proofs.Back.{never}
use Rattle.color_curve.specs.Curve.{Curve, curve_checks, CurveFits}
use Rattle.sheet.specs.Sheet.{Sheet, sheet_of}
use Rattle.base.specs.declared.Edit.{Edit}
use Rattle.base.specs.declared.Form.{Form}
use Rattle.base.specs.declared.Edit.TheVariants.{Pixels, PaletteSet, PaletteAdd, PaletteRemove, PaletteLock}
use Rattle.edit.specs.declared.ListKind.{ListKind}
use Rattle.edit.specs.declared.ListKind.TheVariants.{NoList, PixelList, RemapList}
use Rattle.edit.specs.Change.{Change, unpacked}
use Rattle.edit.specs.List.{list_of, empty_pixels}
use Rattle.edit.specs.Checks.{permitted_of, change_checks, left_checks, own_checks}
use Rattle.edit_pixels.specs.Inside.{bare}
use Rattle.edit_checks.specs.Marks.{Markable, ClearFor, MarksFor, Checkable}
use Rattle.edit_list.proofs.Deciding.{first-kept, head-markable, list-decides, bare-changes, bare-left}
use Rattle.journal_record.specs.Record.{record_length}
use Rattle.journal_record.proofs.Strides.{stride_most}
use Rattle.base.specs.declared.Handle.{Handle}
use Rattle.history_ledger.specs.Calls.{group}
use Rattle.history_ledger.specs.Journal.{State, long_journal, unsound, entry_checks, pushChecks}
use Rattle.history_ledger.proofs.Soundness.{sound-facts}
use Rattle.history_model.specs.Document.{Document, document_of}
use Rattle.history_model.specs.Editing.{Given, given_of, editing_by, editing}
use Rattle.history_model.specs.Calls.{state_of, Standing}
use Rattle.history_push_checks.proofs.PushChecks.{pushes-own, pushes_full, pushes-fine}
use Rattle.history_push_checks.specs.Steps.{is_still, push_number, Readied, Begun, PushNumbered, full_number}

-- ---- "an empty pixel list": it has no change, and nothing applies to it
pub none-there : (l : ListKind) (n : ℕ) → empty_pixels l n ≡ true → n ≡ 0
unfolding empty_pixels
none-there NoList n q = never q
none-there PixelList n q = eqb-true n 0 q
none-there (RemapList i) n q = never q

still-each : (replay : Bool) (s : Sheet) (l : ListKind) (cs : List Change) → length cs ≡ 0 → first_of (flat_map (change_checks replay s l) cs) ≡ 0
unfolding flat_map first_of
still-each replay s l [] q = refl
still-each replay s l (c ∷ cs) q = absurd (omega (arith, q))

still-left : (s : Sheet) (l : ListKind) (cs : List Change) (n : ℕ) → empty_pixels l n ≡ true → first_of (left_checks s l cs) ≡ 0
unfolding empty_pixels left_checks first_of
still-left s NoList cs n q = refl
still-left s PixelList cs n q = refl
still-left s (RemapList i) cs n q = never q

-- ---- the number, by the checks that decide
module _ (form : Form) (curve : Curve) (room : ℕ) (st : State Document) (g : Given) where
  pub number-entry : (n : ℕ) → n ≡ first_of (entry_checks (editing_by form curve) st g) → (n ≡ 0 → ⊥) → n ≡ push_number form curve room st g
  unfolding push_number
  number-entry n q h = sym (rw (← q) (first-kept n _ h))

  number-still : first_of (entry_checks (editing_by form curve) st g) ≡ 0 → is_still g ≡ true → 0 ≡ push_number form curve room st g
  unfolding push_number
  number-still z t = rw (z, t)

  pub number_push : (n : ℕ) → first_of (entry_checks (editing_by form curve) st g) ≡ 0 → is_still g ≡ false → n ≡ first_of (pushChecks (editing_by form curve) room st g) → n ≡ push_number form curve room st g
  unfolding push_number
  number_push n z t q = rw (z, t) q

  -- a push that no check refuses has a curve that fits
  pub number_fits : (n : ℕ) → n ≡ push_number form curve room st g → n ≡ 0 → CurveFits curve
  unfolding push_number
  number_fits n q z =
      let journal = st.journal in
      let before = group 0 ∷ long_journal (length journal) ∷ group (editing.given_check g) ∷ group (editing.sheet_check st.sheet) ∷ unsound (length journal) st.handle ∷ [] in
      let entered = (first_passes (first_of (entry_checks (editing_by form curve) st g)) _ (sym q ∙ z)).0 in
      sym (or-else-zero (first_of (curve_checks curve))) ∙ last (past-both before (group (first_of (curve_checks curve)) ∷ []) entered).right
    where
      last : first_of (group (first_of (curve_checks curve)) ∷ []) ≡ 0 → or_else (first_of (curve_checks curve)) 0 ≡ 0
      last e = unfold first_of in e

  -- ---- what `begin` answers
  module _ {marks : List ℕ} where
    pub begun-refused : (n : ℕ) → (n ≡ 0 → ⊥) → n ≡ push_number form curve room st g → Begun form curve room st g n marks
    begun-refused n h q = record { refuses = λ _. q; entered = λ z. absurd (h z); stands = λ z. absurd (h z); readied = λ z f. absurd (h z) }

    module _ (z : first_of (entry_checks (editing_by form curve) st g) ≡ 0) (s : Standing st) where
      pub begun-still : is_still g ≡ true → Begun form curve room st g 0 marks
      begun-still t = record { refuses = λ h. absurd (h refl); entered = λ _. z; stands = λ _. s; readied = λ y f. never (sym f ∙ t) }

      pub begun-ready : Readied room st g marks → Begun form curve room st g 0 marks
      begun-ready r = record { refuses = λ h. absurd (h refl); entered = λ _. z; stands = λ _. s; readied = λ y f. r }

  -- a push that a check before its list refuses
  pub refused-number : {marks : List ℕ} (n : ℕ) → Begun form curve room st g n marks → (n ≡ 0 → ⊥) → PushNumbered form curve room st g n
  refused-number n b h = record { value = b.refuses h; stands = λ z. absurd (h z); fine = λ z _. absurd (h z) }

-- ---- the list, packed one number a change, and what follows it
module _ (form : Form) (curve : Curve) (room w h k : ℕ) (palette : List ℕ) (lab : List Float) (indices : List ℤ) (locks : List Bool) (journal : List ℕ) (handle : Handle) (limited : Bool) (permitted : List ℕ) (e : Edit) (list : List ℕ) (count : ℕ) (long : length list ≡ count) where
  abbrev s : Sheet
  s = sheet_of w h k palette lab indices

  abbrev state : State Document
  state = state_of (document_of w h k palette lab indices locks) journal handle

  abbrev given : Given
  given = given_of limited permitted e list

  abbrev kind : ListKind
  kind = list_of e

  abbrev cs : List Change
  cs = map unpacked list

  counted : length cs ≡ count
  counted = length-map list unpacked ∙ long

  -- what the checks of the changes answer
  abbrev each : ℕ
  each = first_of (flat_map (change_checks false (bare w h k indices) kind) cs)

  module _ (n : ℕ) (marks : List ℕ) (b : Begun form curve room state given n marks) where
    began : (c : ℕ) → c ≡ or_else n each → c ≡ 0 → n ≡ 0
    began c d z = (first_passes n each (sym d ∙ z)).0

    -- what the list's checks ask
    room_for : (m : ℕ) → m ≡ room → n ≡ 0 → Markable kind (w * h) m
    unfolding Markable empty_pixels
    room_for m q z = by-list kind refl
      where
        by-list : (l : ListKind) → kind ≡ l → Markable kind (w * h) m
        by-list NoList t = rw t tt
        by-list PixelList t = rw t tt
        by-list (RemapList i) t =
            let r = b.readied z (rw t) in
            let l = (b.stands z).fits.limits in
            head-markable false s locks (permitted_of limited permitted) e m l (omega (arith, r.enough, l.indices-length, q)) r.head

    pub begun-checkable : (m : ℕ) → m ≡ room → n ≡ 0 → Checkable kind w h (length indices) m
    begun-checkable m q z = record { pixels = (b.stands z).fits.limits.indices-length; markable = room_for m q z }

    -- what `settle` asks
    module _ (c : ℕ) (d : c ≡ or_else n each) where
      pub settle-checkable : (m : ℕ) → m ≡ room → c ≡ 0 → Checkable kind w h (length indices) m
      settle-checkable m q z = begun-checkable m q (began c d z)

      pub settle-short : c ≡ 0 → (count ≤ max_changes) × (handle.offset ≤ max_journal)
      settle-short z =
          let stands = b.stands (began c d z) in
          let sound = sound-facts (length journal) handle stands.is-sound in
          (few (is_still given) refl, omega (arith, sound.ends, sound.fits, stands.permitted))
        where
          few : (t : Bool) → is_still given ≡ t → count ≤ max_changes
          few true q = omega (arith, none-there kind (length cs) q, counted)
          few false q = omega (arith, (b.readied (began c d z) q).short, counted)

      -- the marks that the list leaves, where they were clear before it
      pub settle-marks : (after : List ℕ) → c ≡ 0 → (ClearFor kind (w * h) marks → MarksFor kind w (w * h) cs after) → MarksFor kind w (w * h) cs after
      unfolding MarksFor empty_pixels
      settle-marks after z leaves = by-list kind refl
        where
          by-list : (l : ListKind) → kind ≡ l → MarksFor kind w (w * h) cs after
          by-list NoList t = rw t tt
          by-list PixelList t = rw t tt
          by-list (RemapList i) t = leaves (b.readied (began c d z) (rw t)).clear

      -- the whole number
      module _ (l : ℕ) (q : l ≡ or_else (or_else c (first_of (left_checks (bare w h 0 indices) kind cs))) (full_number form handle.offset e count (length journal))) where
        abbrev all : ℕ
        all = first_of (flat_map (change_checks false s kind) cs)

        abbrev rest : ℕ
        rest = first_of (left_checks s kind cs)

        abbrev full : ℕ
        full = full_number form handle.offset e count (length journal)

        whole : l ≡ or_else (or_else n (or_else all rest)) full
        whole =
            let changes : c ≡ or_else n all = d ∙ ap (or_else n) (bare-changes false s kind cs) in
            q ∙ ap (λ (m : ℕ). or_else m full) (ap (λ (m : ℕ). or_else m (first_of (left_checks (bare w h 0 indices) kind cs))) changes ∙ ap (or_else (or_else n all)) (bare-left s kind cs) ∙ sym (or-else-assoc n all rest))

        module _ (z : n ≡ 0) where
          after : l ≡ or_else (or_else all rest) full
          after = rw z at whole

          not-still : (f : is_still given ≡ false) → Readied room state given marks → (m : ℕ) → or_else all rest ≡ m → PushNumbered form curve room state given l
          not-still f r zero p = by-journal (ltb (length journal) (handle.offset + record_length form e count)) refl
            where
              own : 0 ≡ first_of (own_checks false s locks (permitted_of limited permitted) e cs)
              own = sym (list-decides false s locks (permitted_of limited permitted) e cs r.head ∙ p)

              last : l ≡ full
              last = rw p at after

              by-journal : (t : Bool) → ltb (length journal) (handle.offset + record_length form e count) ≡ t → PushNumbered form curve room state given l
              by-journal true t =
                  let is : l ≡ 14 = last ∙ rw (rw counted at f, t) in
                  let p = pushes_full form room state given r.short (b.stands z) r.enough 0 own refl (rw counted (ltb-true _ _ t)) in
                  record {
                    value = is ∙ number_push form curve room state given 14 (b.entered z) f p.value;
                    stands = λ _. b.stands z;
                    fine = λ y _. absurd (omega (arith, is, y));
                  }
              by-journal false t =
                  let is : l ≡ 0 = last ∙ rw (rw counted at f, t) in
                  let p = pushes-fine form room state given r.short (b.stands z) r.enough 0 own refl (rw counted (ltb-false _ _ t)) in
                  record { value = is ∙ number_push form curve room state given 0 (b.entered z) f p.value; stands = λ _. b.stands z; fine = λ y _. p.fine refl }
          not-still f r (suc m) p =
              let is : l ≡ suc m = rw p at after in
              let own : suc m ≡ first_of (own_checks false s locks (permitted_of limited permitted) e cs) = sym (list-decides false s locks (permitted_of limited permitted) e cs r.head ∙ p) in
              let o = pushes-own form room state given r.short (b.stands z) r.enough (suc m) own (λ y. omega (arith, y)) in
              record {
                value = is ∙ number_push form curve room state given (suc m) (b.entered z) f o.value;
                stands = λ _. b.stands z;
                fine = λ y _. absurd (omega (arith, is, y));
              }

          by-still : (t : Bool) → is_still given ≡ t → PushNumbered form curve room state given l
          by-still true t =
              let is : l ≡ 0 = after ∙ rw (still-each false s kind cs (none-there kind (length cs) t), still-left s kind cs (length cs) t, rw counted at t) in
              record { value = is ∙ number-still form curve room state given (b.entered z) t; stands = λ _. b.stands z; fine = λ y f. never (sym f ∙ t) }
          by-still false f = not-still f (b.readied z f) (or_else all rest) refl

        pub push-number : PushNumbered form curve room state given l
        push-number = by_number n refl
          where
            by_number : (m : ℕ) → n ≡ m → PushNumbered form curve room state given l
            by_number zero z = by-still z (is_still given) refl
            by_number (suc m) z =
                let kept : n ≡ 0 → ⊥ = λ y. omega (arith, z, y) in
                let first : or_else n (or_else all rest) ≡ n = first-kept n (or_else all rest) kept in
                let is : l ≡ n = whole ∙ rw first (first-kept n full kept) in
                record {
                  value = is ∙ b.refuses kept;
                  stands = λ y. absurd (kept (sym is ∙ y));
                  fine = λ y _. absurd (kept (sym is ∙ y));
                }

-- ---- the end of a record that is not too long
pub end-small : (form : Form) (e : Edit) (offset n r : ℕ) → offset ≤ max_journal → n ≤ max_changes → r ≡ record_length form e n → offset + r < 2 ^ 64
unfolding record_length
end-small form (Pixels tool) offset n r a b q = omega (arith, a, b, q, stride_most form n)
end-small form (PaletteSet i old new lab) offset n r a b q = omega (arith, a, b, q)
end-small form (PaletteAdd c) offset n r a b q = omega (arith, a, b, q)
end-small form (PaletteRemove i c lab) offset n r a b q = omega (arith, a, b, q, stride_most form n)
end-small form (PaletteLock i old new) offset n r a b q = omega (arith, a, b, q)

-- ---- 14, by the journal's bytes
module _ (form : Form) (e : Edit) (offset n size r : ℕ) (f : empty_pixels (list_of e) n ≡ false) (q : r ≡ record_length form e n) where
  pub full-here : size < offset + r → 14 ≡ full_number form offset e n size
  full-here h = rw (f, lt-ltb size (offset + record_length form e n) (omega (arith, h, q)))

  pub full-not : offset + r ≤ size → 0 ≡ full_number form offset e n size
  full-not h = rw (f, le-ltb size (offset + record_length form e n) (omega (arith, h, q)))
