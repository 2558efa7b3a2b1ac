-- Converted there and back a journal and its handle are as they were; and both histories find the same pictures. By the records that were read: written in
-- either form they are read again. Assumes nothing.
use Prim.Native.Nat.{ℕ, ◌+◌, ◌-◌, ◌≤◌}
use mathlib.Core.Path.{◌≡◌, refl, sym, ap, ap₂, ◌∙◌}
use mathlib.Core.List.{List, ◌++◌, append_assoc}
use native.Mathlib.Omega.{arith}
use lib.ListN.{length, take, drop, length-append, length-drop, take-append-drop}
use lib.Seq.{take_at, take-add, length-take-le}
use Rattle.base.specs.Lists as lists
use Rattle.base.specs.declared.Form.{Form}
use Rattle.base.specs.declared.Form.TheVariants.{Coordinates, Places}
use Rattle.base.specs.declared.Handle.{Handle}
use Rattle.base.proofs.Over.{length_over}
use Rattle.history_ledger.specs.Calls.{done}
use Rattle.history_ledger.proofs.Soundness.{Sound, sound-facts, same-handle}
use Rattle.history_model.specs.Handed.{sheet_by}
use Rattle.history_model.proofs.Demand3.{handed-typed}
use Rattle.journal_raw.specs.Raw.{other, raws_bytes, AllBytes}
use Rattle.base.proofs.Each.{all_take, all_drop}
use Rattle.journal_raw.proofs.Lists.{All, all_read, raws-again}
use Rattle.history_convert.specs.Convert.{lent, used_bytes, used_handle, convert_of}
use Rattle.history_convert.specs.Conversion.{ThereAndBack, SamePictures}
use Rattle.history_convert.proofs.Converting.{Converts, converts, converts-is, Parts, parts, parts_are}
use Rattle.history_convert.proofs.Standing.{Stands, stands-sound, before-is, after_is}
use Rattle.history_convert.proofs.Playing.{plays}

twice : (f : Form) → other (other f) ≡ f
twice Coordinates = refl
twice Places = refl

-- ---- what was read, in either form
module _ (f : Form) (w h : ℕ) (journal : List ℕ) (handle : Handle) (out : List ℕ) (all : AllBytes journal) (c : Converts f w h journal handle out) where
  abbrev g : Form
  g = other f

  fine : Sound (length journal) handle
  fine = sound-facts (length journal) handle c.entry.is-sound

  read : Parts f w journal handle c.used
  read = parts f w journal handle c.used c.reads

  first-long : length (take handle.offset journal) ≡ handle.offset
  first-long = length-take-le handle.offset journal (omega (arith, fine.ends, fine.fits))

  rest-long : length (take (handle.end - handle.offset) (drop handle.offset journal)) ≡ handle.end - handle.offset
  rest-long = length-take-le (handle.end - handle.offset) (drop handle.offset journal) (rw length-drop (omega (arith, fine.ends, fine.fits)))

  past_all : All f w handle.position (take handle.offset journal) c.used.past
  past_all =
      all_read f w h c.entry.narrow c.entry.low handle.position (take handle.offset journal) c.used.past
      (all_take _ handle.offset journal all) (omega (arith, first-long, fine.ends, fine.fits, c.entry.journal-fits)) read.past-reads c.fits.past-on

  future-all : All f w (handle.count - handle.position) (take (handle.end - handle.offset) (drop handle.offset journal)) c.used.future
  future-all =
      all_read f w h c.entry.narrow c.entry.low (handle.count - handle.position) (take (handle.end - handle.offset) (drop handle.offset journal)) c.used.future
      (all_take _ (handle.end - handle.offset) (drop handle.offset journal) (all_drop _ handle.offset journal all))
      (omega (arith, rest-long, fine.fits, c.entry.journal-fits)) read.future-reads c.fits.future-on

  offset-is : handle.offset ≡ length (raws_bytes f w c.used.past)
  offset-is = sym first-long ∙ ap length past_all.bytes-are

  end_is : handle.end ≡ length (raws_bytes f w c.used.past) + length (raws_bytes f w c.used.future)
  end_is = omega (arith, offset-is, fine.ends, sym rest-long ∙ ap length future-all.bytes-are)

  used-is : take handle.end journal ≡ used_bytes f w c.used
  used-is =
      let e : handle.end ≡ handle.offset + (handle.end - handle.offset) = omega (arith, fine.ends) in
      ap (λ (n : ℕ). take n journal) e ∙ take-add handle.offset (handle.end - handle.offset) journal ∙ ap₂ ◌++◌ past_all.bytes-are future-all.bytes-are

  pub stands : Stands f w journal handle c.used.past c.used.future
  stands =
      record {
        past-whole = past_all.whole;
        future-whole = future-all.whole;
        offset-is = offset-is;
        end_is = end_is;
        position-is = sym past_all.many;
        count-is = omega (arith, past_all.many, future-all.many, fine.stands);
        saves = fine.saves;
        after = drop handle.end journal;
        journal-is = sym (take-append-drop handle.end journal) ∙ ap (λ (l : List ℕ). l ++ drop handle.end journal) used-is ∙ append_assoc (raws_bytes f w c.used.past) _ _;
        permitted = c.entry.journal-fits;
      }

  -- ---- the outcome
  abbrev O : List ℕ
  O = lists.over (used_bytes g w c.used) out

  abbrev H : Handle
  H = used_handle g w c.used handle

  room : length (used_bytes g w c.used) ≤ length out
  room = rw length-append c.fits.roomy

  O-long : length O ≡ length out
  O-long = length_over (used_bytes g w c.used) out room

  pub stands-there : Stands g w O H c.used.past c.used.future
  unfolding lists.over
  stands-there =
      record {
        past-whole = past_all.whole;
        future-whole = future-all.whole;
        offset-is = refl;
        end_is = refl;
        position-is = sym past_all.many;
        count-is = omega (arith, past_all.many, future-all.many, fine.stands);
        saves = fine.saves;
        after = drop (length (used_bytes g w c.used)) out;
        journal-is = append_assoc (raws_bytes g w c.used.past) (raws_bytes g w c.used.future) _;
        permitted = omega (arith, O-long, c.entry.out-fits);
      }

  pub there-is : convert_of f w h journal handle out ≡ done (lent H O)
  there-is = converts-is f w h journal handle out c

  module _ (back : List ℕ) (enough : handle.end ≤ length back) (permitted : length back ≤ 2147483647) where
    abbrev converts-back : Converts g w h O H back
    converts-back =
        record {
          entry =
              record {
                narrow = c.entry.narrow;
                low = c.entry.low;
                journal-fits = omega (arith, O-long, c.entry.out-fits);
                out-fits = permitted;
                is-sound = stands-sound g w O H c.used.past c.used.future stands-there;
              };
          used = c.used;
          reads =
              parts_are g w O H c.used
              (record {
                past-reads =
                    rw (before-is g w O H c.used.past c.used.future stands-there, ← past_all.many) (raws-again g w c.used.past past_all.whole);
                future-reads =
                    rw (after_is g w O H c.used.past c.used.future stands-there, ← future-all.many) (raws-again g w c.used.future future-all.whole);
              });
          fits = record { past-on = c.fits.past-on; future-on = c.fits.future-on; roomy = rw (twice f) (omega (arith, end_is)) };
        }

    back_is : convert_of g w h O H back ≡ done (lent (used_handle f w c.used H) (lists.over (used_bytes f w c.used) back))
    back_is = converts-is g w h O H back converts-back ∙ rw (twice f)

    handle-back : used_handle f w c.used H ≡ handle
    handle-back = same-handle (sym offset-is) (sym end_is) refl refl refl

    bytes_back : take handle.end (lists.over (used_bytes f w c.used) back) ≡ take handle.end journal
    unfolding lists.over
    bytes_back =
        take_at (used_bytes f w c.used) _ handle.end (rw length-append (sym end_is)) ∙ sym used-is

pub there_and_back : ThereAndBack
there_and_back f w h journal handle out back all e enough permitted =
    let c = converts f w h journal handle out e in
    let there = there-is f w h journal handle out all c in
    let again = back_is f w h journal handle out all c back enough permitted in
    rw (there, again)
    (refl, handle-back f w h journal handle out all c back enough permitted, bytes_back f w h journal handle out all c back enough permitted)

-- ---- a history goes on alike in either form
pub same-pictures : SamePictures
same-pictures f c lent journal handle out all e scratch handed =
    let d = sheet_by lent in
    let t = converts f d.sheet.w d.sheet.h journal handle out e in
    let there = there-is f d.sheet.w d.sheet.h journal handle out all t in
    rw there
    (plays f (other f) d.sheet.w c handed scratch d journal handle _ _
    (record {
      past = t.used.past;
      future = t.used.future;
      one = stands f d.sheet.w d.sheet.h journal handle out all t;
      two = stands-there f d.sheet.w d.sheet.h journal handle out all t;
      saved = refl;
      width = refl;
      doubles = (handed-typed lent).lab;
    }))
