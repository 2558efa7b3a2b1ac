-- Document 01's sheet, edits and records keep the laws that demand 3 asks of an algebra, for every curve that fits. Assumes nothing.
use mathlib.Core.Path.{◌≡◌, refl, sym, ap, ◌∙◌}
use mathlib.Core.Bool.{Bool, true, false, not}
use mathlib.Core.List.{List, [], ◌∷◌, ◌++◌, flat_map}
use mathlib.Core.Option.{some}
use Prim.Native.Nat.{ℕ, suc, ◌+◌, ◌*◌, ◌≤◌}
use native.Mathlib.Omega.{arith}
use borrow.Author.Tests.{le-ltb, lt-leb, eq-eqb, eqb-true, ltb-false, le-leb, eqb-false}
use lib.Dec.{T, ltb, leb, eqb}
use lib.Ieee.{Float, binary64, fits}
use lib.ListN.{length, length-map, take}
use lib.Seq.{length-take-le}
use Rattle.base.specs.Limits.{max_changes}
use Rattle.base.specs.Numbers.{journal_full}
use Rattle.base.specs.Checks.{Check, first_of}
use Rattle.base.specs.declared.Form.{Form}
use Rattle.base.specs.declared.Rgb.{Rgb}
use Rattle.base.specs.declared.Lab.{Lab}
use Rattle.base.specs.Lists as lists
use Rattle.color_curve.specs.Curve.{Curve, lab_by, CurveFits}
use Rattle.color_curve.proofs.Sessions.{by-finite, by_fits}
use Rattle.sheet.specs.Sheet.{Sheet, Picture, view}
use Rattle.sheet.specs.Checks.{limit_checks, mark_checks, index_checks, lab_checks, permitted_checks, sheet_checks, WellFormed, Marked}
use Rattle.sheet.proofs.Judging.{none-applied, judged-fine}
use Rattle.sheet.proofs.Marks.{marked-short, marked-sheet}
use Rattle.base.specs.declared.Edit.{Edit}
use Rattle.base.specs.declared.Edit.TheVariants.{Pixels, PaletteSet, PaletteAdd, PaletteRemove, PaletteLock}
use Rattle.edit.specs.Change.{Change}
use Rattle.edit.specs.Checks.{Permitted, own_checks, as_sheet, head_checks, change_checks, left_checks}
use Rattle.edit.specs.Storage.{bytes_of, numbers_of}
use Rattle.edit.specs.Accepted.{Bytes, NewBytes, Accepted, FiniteCurve}
use Rattle.edit.specs.declared.ListKind.{ListKind}
use Rattle.edit.specs.declared.ListKind.TheVariants.{NoList, PixelList, RemapList}
use Rattle.edit.specs.List.{list_of, empty_pixels, filled_list}
use Rattle.edit.specs.Locks.{locks_done, next_locks, bears}
use Rattle.edit.proofs.Together.{own-apart, own-passed}
use Rattle.edit.proofs.Passed.{Passed, passed, unlocked}
use Rattle.edit.proofs.Locks.{Marks, locks-long, locks-shown, locks-undone, locks-kept, bears-new, next-filled}
use Rattle.edit_list.proofs.NoChecks.{no-checks}
use Rattle.edit.specs.Apply.{filled_edit, filled_changes, redone, nextPicture, reverted, can_revert}
use Rattle.edit.proofs.FirstCheck.{first-nowhere}
use Rattle.edit.proofs.Numbers.{own-number}
use Rattle.edit.proofs.Redone.{redone-view, redone-fits}
use Rattle.edit.proofs.Reverted.{reverted-view}
use Rattle.edit.proofs.Again.{filled-bytes, redo-again}
use Rattle.edit.proofs.Shown.{checks-shown}
use Rattle.edit.proofs.Typed as typed
use Rattle.journal_write.specs.Fit.{Fit}
use Rattle.journal_record.specs.Record.{record_length, record_of, read_forth, read_back}
use Rattle.journal_record.proofs.Finding.{size-least}
use Rattle.journal_write.proofs.Lengths.{length-record}
use Rattle.journal_write.proofs.ReadAgain.{read-forth, read-back}
use Rattle.journal_read.specs.Sound.{undoable, any_colour, redoable}
use Rattle.history_ledger.specs.Algebra as algebra
use Rattle.history_ledger.specs.Laws.{Accepts, Reads, Laws}
use Rattle.history_model.specs.Document.{Document, Shown, shown, document_checks, document_done, document_back, next_shown}
use Rattle.history_model.specs.Editing.{Given, TypedSheet, picture_checks, shown_checks, too_long, undone_by, redone_by, editing_by}
use Rattle.history_model.proofs.Recordable.{own_list, own-length, recordable, own-record}

-- ---- a sheet and marks that none of 1 to 3 refuses
pub marked : (s : Sheet) (locks : List Bool) → first_of (sheet_checks (mark_checks locks) s) ≡ 0 → Marked s locks
marked s locks z = by_length (eqb (length locks) 255) refl
  where
    by_length : (b : Bool) → eqb (length locks) 255 ≡ b → Marked s locks
    by_length true e =
        let j = marked-sheet s locks (eqb-true _ _ e) (first_of (sheet_checks [] s)) (record { value = refl; fine = none-applied s }) in
        j.fine (j.value ∙ z)
    by_length false e = absurd (omega (arith, (marked-short s locks (eqb-false _ _ e)).value, z))

-- ---- a picture of a well-formed sheet
pub view-passes : (d : Document) → WellFormed d.sheet → length d.locks ≡ 255 → first_of (shown_checks (shown d)) ≡ 0
unfolding first_of shown_checks picture_checks view
view-passes d f m =
    let s = d.sheet in
    let g = f.limits in
    rw (
      eq-eqb _ _ (length-take-le s.k d.locks (omega (arith, g.k-small, m))),
      le-ltb 1024 s.w g.w-small,
      le-ltb 1024 s.h g.h-small,
      le-ltb 255 s.k g.k-small,
      eq-eqb _ _ (length-take-le (3 * s.k) s.palette (omega arith)),
      eq-eqb _ _ (length-take-le (3 * s.k) s.lab (omega arith)),
      eq-eqb _ _ g.indices-length,
      f.in-range,
      f.fit,
    )

count-shown : (s : Sheet) (p : Picture) → view s ≡ p → s.k ≡ p.k
unfolding view
count-shown s p e = ap (λ (q : Picture). q.k) e

-- its places are of the same width before and after an edit
same_width : (s t : Sheet) → view s ≡ view t → s.w ≡ t.w
unfolding view
same_width s t e = ap (λ (q : Picture). q.w) e

-- ---- an empty list of pixels
pub empty-short : (l : ListKind) (cs : List Change) → empty_pixels l (length cs) ≡ true → too_long cs ≡ false
unfolding empty_pixels too_long
empty-short NoList cs h = absurd (let z : ◌≡◌ {A = ℕ} 0 1 = cc in omega arith)
empty-short PixelList cs h = le-ltb max_changes (length cs) (omega (arith, eqb-true (length cs) 0 h))
empty-short (RemapList i) cs h = absurd (let z : ◌≡◌ {A = ℕ} 0 1 = cc in omega arith)

pub empty-own : (s : Sheet) (locks : List Bool) (p : Permitted) (e : Edit) (cs : List Change) → empty_pixels (list_of e) (length cs) ≡ true → first_of (own_checks false s locks p e cs) ≡ 0
unfolding empty_pixels own_checks head_checks change_checks left_checks first_of flat_map
empty-own s locks p (Pixels tool) [] h = refl
empty-own s locks p (Pixels tool) (c ∷ cs) h = absurd (let z : ℕ = suc (length cs) in omega (arith, eqb-true (suc (length cs)) 0 h))
empty-own s locks p (PaletteSet i old new lab) cs h = absurd (let z : ◌≡◌ {A = ℕ} 0 1 = cc in omega arith)
empty-own s locks p (PaletteAdd c) cs h = absurd (let z : ◌≡◌ {A = ℕ} 0 1 = cc in omega arith)
empty-own s locks p (PaletteRemove i c lab) cs h = absurd (let z : ◌≡◌ {A = ℕ} 0 1 = cc in omega arith)
empty-own s locks p (PaletteLock i old new) cs h = absurd (let z : ◌≡◌ {A = ℕ} 0 1 = cc in omega arith)

-- ---- none of the numbers is 14
few : (cs : List Check) → lists.some (λ (c : Check). ltb 13 c.number) cs ≡ false → ¬ (first_of cs ≡ journal_full)
few cs h e = omega (arith, ltb-false 13 (first_of cs) (first-nowhere (λ (n : ℕ). ltb 13 n) refl cs h))

sheet-not-full : (d : Document) → ¬ (first_of (document_checks d) ≡ journal_full)
unfolding lists.some sheet_checks mark_checks limit_checks index_checks lab_checks
sheet-not-full d = few (document_checks d) refl

picture-not-full : (p : Shown) → ¬ (first_of (shown_checks p) ≡ journal_full)
unfolding lists.some shown_checks picture_checks
picture-not-full p = few (shown_checks p) refl

given-not-full : (limited : Bool) (colours : List ℕ) → ¬ (first_of (permitted_checks limited colours) ≡ journal_full)
unfolding lists.some permitted_checks
given-not-full limited colours = few (permitted_checks limited colours) refl

own-not-full : (s : Sheet) (locks : List Bool) (p : Permitted) (e : Edit) (cs : List Change) → ¬ (first_of (own_checks false s locks p e cs) ≡ journal_full)
own-not-full s locks p e cs = own-number false s locks p e cs

-- ---- an edit without a list, with another list beside it
module _ (s : Sheet) where
  own-changes : (l : ListKind) (cs : List Change) → first_of (flat_map (change_checks false s l) (own_list l cs)) ≡ first_of (flat_map (change_checks false s l) cs)
  unfolding change_checks flat_map first_of
  own-changes NoList cs = sym (no-checks cs)
  own-changes PixelList cs = refl
  own-changes (RemapList i) cs = refl

  own-left : (l : ListKind) (cs : List Change) → left_checks s l (own_list l cs) ≡ left_checks s l cs
  unfolding left_checks
  own-left NoList cs = refl
  own-left PixelList cs = refl
  own-left (RemapList i) cs = refl

  own-checks : (locks : List Bool) (p : Permitted) (e : Edit) (cs : List Change) → first_of (own_checks false s locks p e (own_list (list_of e) cs)) ≡ first_of (own_checks false s locks p e cs)
  own-checks locks p e cs =
      own-apart false s locks p e (own_list (list_of e) cs) ∙ rw (own-changes (list_of e) cs, own-left (list_of e) cs) (sym (own-apart false s locks p e cs))

own-picture : (curve : Rgb → Lab) (p : Picture) (e : Edit) (cs : List Change) → nextPicture curve p e (own_list (list_of e) cs) ≡ nextPicture curve p e cs
unfolding nextPicture
own-picture curve p (Pixels tool) cs = refl
own-picture curve p (PaletteSet i old new lab) cs = refl
own-picture curve p (PaletteAdd c) cs = refl
own-picture curve p (PaletteRemove i c lab) cs = refl
own-picture curve p (PaletteLock i old new) cs = refl

next-places : (curve : Rgb → Lab) (p : Picture) (e : Edit) (cs : List Change) → ((nextPicture curve p e cs).w * (nextPicture curve p e cs).h) ≡ p.w * p.h
unfolding nextPicture
next-places curve p (Pixels tool) cs = refl
next-places curve p (PaletteSet i old new lab) cs = refl
next-places curve p (PaletteAdd c) cs = refl
next-places curve p (PaletteRemove i c lab) cs = refl
next-places curve p (PaletteLock i old new) cs = refl

next-width : (curve : Rgb → Lab) (s t : Sheet) (e : Edit) (cs : List Change) → view t ≡ nextPicture curve (view s) e cs → t.w ≡ s.w
unfolding nextPicture view
next-width curve s t (Pixels tool) cs v = ap (λ (q : Picture). q.w) v
next-width curve s t (PaletteSet i old new lab) cs v = ap (λ (q : Picture). q.w) v
next-width curve s t (PaletteAdd c) cs v = ap (λ (q : Picture). q.w) v
next-width curve s t (PaletteRemove i c lab) cs v = ap (λ (q : Picture). q.w) v
next-width curve s t (PaletteLock i old new) cs v = ap (λ (q : Picture). q.w) v

-- ---- a curve that fits gives finite doubles of 64 bits
finite-curve : (c : Curve) → CurveFits c → FiniteCurve (lab_by c)
finite-curve c f rgb h = by-finite c f rgb (omega (arith, h.r-byte)) (omega (arith, h.g-byte)) (omega (arith, h.b-byte))

pub double : (b : Bool) → T b → not b ≡ false
double true h = refl
double false h = absurd h

pub doubles : (c : Curve) (rgb : Rgb) → lists.some (λ (v : Float). not (fits binary64 v)) (numbers_of (lab_by c rgb)) ≡ false
unfolding lists.some
doubles c rgb =
    let f = by_fits c rgb in
    let x = lab_by c rgb in
    rw (double (fits binary64 x.l) f.l, double (fits binary64 x.a) f.a, double (fits binary64 x.b) f.b)

-- ---- in a session with such a curve
module _ (form : Form) (session : Curve) (curve-fits : CurveFits session) where
  abbrev curve : Rgb → Lab
  curve = lab_by session

  abbrev A : algebra.Algebra
  A = editing_by form session

  well-formed : {d : Document} → algebra.WellFormedIn A d → Marked d.sheet d.locks
  well-formed {d} f = marked d.sheet d.locks f.passes

  passes : (d : Document) → WellFormed d.sheet → length d.locks ≡ 255 → first_of (document_checks d) ≡ 0
  passes d f m = sym (marked-sheet d.sheet d.locks m 0 (judged-fine d.sheet f)).value

  -- ---- an accepted push, as `edit` has it
  module _ {d : Document} {g : Given} (a : Accepts A d g) where
    accepted : Accepted d.sheet d.locks g.permitted g.edit g.changes
    accepted =
        record {
          fits = (well-formed a.fits).formed;
          unrefused = checks-shown false g.permitted d.sheet d.locks g.edit g.changes ∙ a.own-passes;
          new-bytes = a.typed.new-bytes;
        }

    own-accepted : Accepted d.sheet d.locks g.permitted g.edit (own_list (list_of g.edit) g.changes)
    own-accepted =
        record {
          fits = accepted.fits;
          unrefused = own-checks d.sheet d.locks g.permitted g.edit g.changes ∙ accepted.unrefused;
          new-bytes = accepted.new-bytes;
        }

    passed-edit : Passed d.sheet g.edit g.changes
    passed-edit = passed false d.sheet d.locks g.permitted g.edit g.changes accepted.unrefused

    fit : Fit form d.sheet.w (filled_edit d.sheet d.locks g.edit) (filled_changes d.sheet g.edit (own_list (list_of g.edit) g.changes))
    fit = recordable d.sheet d.locks accepted.fits a.fits.typed.lab form g.edit g.changes passed-edit a.not-empty a.not-long a.typed.changes-fit

    -- its marks: 255, of so many entries
    marks : Marks d.locks d.sheet.k
    marks = record { long = (well-formed a.fits).marks; few = accepted.fits.limits.k-small }

  -- ---- bytes stay bytes, and doubles doubles
  abbrev Typed : Sheet → Type 0
  Typed s = typed.Typed (leb 256) (λ (v : Float). not (fits binary64 v)) s

  as-typed : {s : Sheet} → TypedSheet s → Typed s
  as-typed t = record { palette = t.palette; lab = t.lab }

  of-typed : {s : Sheet} → Typed s → TypedSheet s
  of-typed t = record { palette = t.palette; lab = t.lab }

  colour-bytes : (c : Rgb) → Bytes c → lists.some (leb 256) (bytes_of c) ≡ false
  unfolding lists.some
  colour-bytes c h = rw (lt-leb 256 c.r h.r-byte, lt-leb 256 c.g h.g-byte, lt-leb 256 c.b h.b-byte)

  new-typed : (e : Edit) → NewBytes e → typed.NewTame (leb 256) (λ (v : Float). not (fits binary64 v)) curve e
  new-typed (Pixels tool) h = tt
  new-typed (PaletteSet i old new lab) h = record { bytes = colour-bytes new h; numbers = doubles session new }
  new-typed (PaletteAdd c) h = record { bytes = colour-bytes c h; numbers = doubles session c }
  new-typed (PaletteRemove i c lab) h = tt
  new-typed (PaletteLock i old new) h = tt

  -- ---- an accepted push
  make-fits : (d : Document) (g : Given) → Accepts A d g → algebra.WellFormedIn A (document_done curve d g.edit g.changes)
  make-fits d g a =
      record {
        typed = of-typed (typed.redone-typed (leb 256) (λ (v : Float). not (fits binary64 v)) curve d.sheet g.edit g.changes (as-typed a.fits.typed) (new-typed g.edit a.typed.new-bytes));
        passes = passes (document_done curve d g.edit g.changes) (redone-fits curve (finite-curve session curve-fits) (accepted a)) (locks-long curve d.sheet d.locks (marks a) g.edit g.changes (passed-edit a));
      }

  make-shows : (d : Document) (g : Given) → Accepts A d g → shown (document_done curve d g.edit g.changes) ≡ next_shown curve (shown d) g.edit g.changes
  make-shows d g a =
      let p = redone-view curve (accepted a) in
      let l = locks-shown curve d.sheet d.locks (marks a) g.edit g.changes (passed-edit a) in
      λ i. record { picture = p i; locks = l i }

  encode-length : (d : Document) (g : Given) → Accepts A d g
      → length (record_of form d.sheet.w (filled_edit d.sheet d.locks g.edit) (filled_changes d.sheet g.edit g.changes)) ≡ record_length form g.edit (length g.changes)
  encode-length d g a =
      ap length (own-record form d.sheet.w d.sheet d.locks g.edit g.changes)
      ∙ length-record form d.sheet.w (filled_edit d.sheet d.locks g.edit) (filled_changes d.sheet g.edit (own_list (list_of g.edit) g.changes))
      ∙ own-length d.sheet d.locks (accepted a).fits a.fits.typed.lab form g.edit g.changes

  -- ---- its record, read from either end
  taken_back : (t : Document) (e : Edit) (cs : List Change) → can_revert t.sheet e cs ≡ true → bears t.locks e ≡ true → WellFormed (reverted t.sheet e cs)
      → undoable t.sheet t.locks e cs ≡ true
  unfolding undoable
  taken_back t e cs c b f = rw (c, b, ← (judged-fine (reverted t.sheet e cs) f).value)

  own-count : (s : Sheet) (e : Edit) (cs : List Change) → length cs ≤ max_changes → length (filled_changes s e (own_list (list_of e) cs)) ≤ max_changes
  unfolding filled_changes filled_list
  own-count s (Pixels tool) cs h = rw length-map h
  own-count s (PaletteSet i old new lab) cs h = omega arith
  own-count s (PaletteAdd c) cs h = omega arith
  own-count s (PaletteRemove i c lab) cs h = h
  own-count s (PaletteLock i old new) cs h = omega arith

  taken-forth : (d t : Document) (g : Given) → too_long g.changes ≡ false
      → let e = filled_edit d.sheet d.locks g.edit in
      let cs = filled_changes d.sheet g.edit (own_list (list_of g.edit) g.changes) in
      first_of (own_checks false t.sheet t.locks any_colour e cs) ≡ 0 → redoable t.sheet t.locks e cs ≡ true
  unfolding redoable too_long
  taken-forth d t g h c =
      rw (le-leb _ max_changes (own-count d.sheet g.edit g.changes (ltb-false max_changes (length g.changes) h)), c)

  back-reads : (before : List ℕ) (d : Document) (g : Given) (t : Document) → Accepts A d g → algebra.WellFormedIn A t → shown t ≡ next_shown curve (shown d) g.edit g.changes
      → Reads A (undone_by t (read_back form t.sheet.w (before ++ record_of form d.sheet.w (filled_edit d.sheet d.locks g.edit) (filled_changes d.sheet g.edit g.changes)))) (record_length form g.edit (length g.changes)) (shown d)
  unfolding undone_by
  back-reads before d g t a f v =
      let s = d.sheet in
      let e = filled_edit s d.locks g.edit in
      let cs = filled_changes s g.edit (own_list (list_of g.edit) g.changes) in
      let w = well-formed f in
      let m : Marks t.locks t.sheet.k = record { long = w.marks; few = w.formed.limits.k-small } in
      let pictures : view t.sheet ≡ nextPicture curve (view s) g.edit g.changes = ap (λ (p : Shown). p.picture) v in
      let own : view t.sheet ≡ nextPicture curve (view s) g.edit (own_list (list_of g.edit) g.changes) = pictures ∙ sym (own-picture curve (view s) g.edit g.changes) in
      let u = reverted-view curve (own-accepted a) w.formed (own ∙ sym (redone-view curve (own-accepted a))) in
      let ok = passed false s d.locks g.permitted g.edit (own_list (list_of g.edit) g.changes) (own-accepted a).unrefused in
      let free = unlocked false s d.locks g.permitted g.edit (own-passed false s d.locks g.permitted g.edit g.changes (accepted a).unrefused).head in
      let k = count-shown t.sheet _ own in
      let locks : take t.sheet.k t.locks ≡ next_locks (take s.k d.locks) g.edit = ap (λ (p : Shown). p.locks) v in
      let back = locks-undone curve s d.locks (marks a) t.sheet t.locks m g.edit (own_list (list_of g.edit) g.changes) ok free k locks in
      let own-list = own_list (list_of g.edit) g.changes in
      let has = bears-new curve s d.locks (marks a) t.sheet t.locks m g.edit own-list ok k locks in
      record {
        sheet = document_back t e cs;
        reads =
            rw (
              own-record form s.w s d.locks g.edit g.changes,
              ap (λ (n : ℕ). read_back form n (before ++ record_of form s.w e cs)) (next-width curve s t.sheet g.edit g.changes pictures) ∙ read-back form s.w e cs before (fit a),
              taken_back t e cs u.can has u.fits,
              own-length s d.locks (accepted a).fits a.fits.typed.lab form g.edit g.changes,
            );
        fits =
            record {
              typed = of-typed (typed.reverted-typed (leb 256) (λ (v : Float). not (fits binary64 v)) (own-accepted a) (as-typed a.fits.typed) (as-typed f.typed));
              passes = passes (document_back t e cs) u.fits (locks-kept curve s d.locks (marks a) t.sheet t.locks m g.edit own-list ok k);
            };
        shows = λ i. record { picture = u.shows i; locks = back i };
      }

  forth-reads : (after : List ℕ) (d : Document) (g : Given) (t : Document) → Accepts A d g → algebra.WellFormedIn A t → shown t ≡ shown d
      → Reads A (redone_by curve t (read_forth form t.sheet.w (record_of form d.sheet.w (filled_edit d.sheet d.locks g.edit) (filled_changes d.sheet g.edit g.changes) ++ after))) (record_length form g.edit (length g.changes)) (next_shown curve (shown d) g.edit g.changes)
  unfolding redone_by
  forth-reads after d g t a f v =
      let s = d.sheet in
      let e = filled_edit s d.locks g.edit in
      let cs = filled_changes s g.edit (own_list (list_of g.edit) g.changes) in
      let w = well-formed f in
      let locks : take t.sheet.k t.locks ≡ take s.k d.locks = ap (λ (p : Shown). p.locks) v in
      let u = redo-again curve (finite-curve session curve-fits) any_colour refl (own-accepted a) w.formed (ap (λ (p : Shown). p.picture) v) locks in
      let m : Marks t.locks t.sheet.k = record { long = w.marks; few = w.formed.limits.k-small } in
      let ok : Passed t.sheet e cs = passed false t.sheet t.locks any_colour e cs u.unrefused in
      let made : take (redone curve t.sheet e cs).k (locks_done t.sheet.k t.locks e) ≡ next_locks (take s.k d.locks) g.edit =
      locks-shown curve t.sheet t.locks m e cs ok ∙ ap (λ (l : List Bool). next_locks l e) locks ∙ next-filled s d.locks (take s.k d.locks) g.edit in
      record {
        sheet = document_done curve t e cs;
        reads =
            rw (
              own-record form s.w s d.locks g.edit g.changes,
              ap (λ (n : ℕ). read_forth form n (record_of form s.w e cs ++ after)) (same_width t.sheet s (ap (λ (p : Shown). p.picture) v)) ∙ read-forth form s.w e cs after (fit a),
              taken-forth d t g a.not-long u.unrefused,
              own-length s d.locks (accepted a).fits a.fits.typed.lab form g.edit g.changes,
            );
        fits =
            record {
              typed = of-typed (typed.redone-typed (leb 256) (λ (v : Float). not (fits binary64 v)) curve t.sheet e cs (as-typed f.typed) (new-typed e (filled-bytes s t.sheet d.locks t.locks g.edit a.typed.new-bytes)));
              passes = passes (document_done curve t e cs) u.fits (locks-long curve t.sheet t.locks m e cs ok);
            };
        shows = λ i. record { picture = (u.shows ∙ redone-view curve (own-accepted a) ∙ own-picture curve (view s) g.edit g.changes) i; locks = made i };
      }

  pub keeps : Laws A
  keeps =
      record {
        view-passes = λ d f. view-passes d (well-formed f).formed (well-formed f).marks;
        empty-short = λ g. empty-short (list_of g.edit) g.changes;
        empty-own = λ p g. empty-own (as_sheet p.picture) p.locks g.permitted g.edit g.changes;
        curve-passes = curve-fits;
        first-not-full = λ g e. omega arith;
        sheet-not-full = sheet-not-full;
        picture-not-full = picture-not-full;
        given-not-full = λ g. given-not-full g.permitted.limited g.permitted.colours;
        own-not-full = λ p g. own-not-full (as_sheet p.picture) p.locks g.permitted g.edit g.changes;
        make-fits = make-fits;
        make-shows = make-shows;
        paint-places = λ p g. next-places curve p.picture g.edit g.changes;
        encode-length = encode-length;
        size-least = λ g. size-least form g.edit (length g.changes);
        back-reads = back-reads;
        forth-reads = forth-reads;
      }
