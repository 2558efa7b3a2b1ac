-- A sound handle's numbers have 64 bits, and so come back from their bytes. Assumes nothing.
use mathlib.Core.Path.{◌≡◌, sym, ap, ◌∙◌}
use mathlib.Core.List.{List, [], ◌∷◌}
use mathlib.Core.Logic.{◌⊎◌, inl, inr}
use Prim.Native.Nat.{ℕ, ◌≤◌, ◌<◌}
use native.Mathlib.Nat.{mod-eq_of_lt}
use native.Mathlib.Omega.{arith}
use lib.ListN.{length, get_or}
use lib.Seq.{take_all}
use Rattle.base.specs.Limits.{max_journal}
use Rattle.base.specs.Lists.{All}
use Rattle.base.specs.declared.Handle.{Handle}
use Rattle.journal_record.specs.Bytes.{unle, le_at}
use Rattle.journal_record.proofs.LittleEndian.{length-le, unle-le}
use Rattle.history_ledger.specs.Handle.{nowhere}
use Rattle.history_ledger.proofs.Soundness.{Sound, same-handle}
use Rattle.c_form.specs.Fields.{read_from}
use Rattle.c_form.specs.Flat.{word_over, handle_in, handle_over}
use Rattle.c_form.proofs.Fields.{length-write, length-read}
use Rattle.c_form.proofs.Spans.{read-written}

abbrev Word : ℕ → Type 0
Word v = v < 18446744073709551616

abbrev numbers : Handle → List ℕ
numbers h = h.offset ∷ h.end ∷ h.position ∷ h.count ∷ h.saved ∷ []

pub record Words (h : Handle) : Type 0 where
  pub offset : Word h.offset
  pub end : Word h.end
  pub position : Word h.position
  pub count : Word h.count
  pub saved : Word h.saved

pub sound-words : (n : ℕ) (h : Handle) → n ≤ max_journal → Sound n h → Words h
sound-words n h b s =
    record {
      offset = omega (arith, s.ends, s.fits);
      end = omega (arith, s.fits);
      position = omega (arith, s.before, s.ends, s.fits);
      count = small;
      saved = either s.saves;
    }
  where
    small : Word h.count
    small = omega (arith, s.stands, s.after, s.before, s.ends, s.fits)

    either : (h.saved ≡ nowhere) ⊎ (h.saved ≤ h.count) → Word h.saved
    either (inl e) = omega (arith, e)
    either (inr k) = omega (arith, k, small)

module _ (h : Handle) (w : Words h) (b : List ℕ) (forty : length b ≡ 40) where
  pub handle-long : length (handle_over h b) ≡ 40
  unfolding handle_over
  handle-long = length-write 8 word_over (λ x old k. length-le 8 x) (numbers h) 0 b (omega (arith, forty)) ∙ forty

  all : read_from 8 unle 0 5 (handle_over h b) ≡ numbers h
  unfolding handle_over All
  all =
      sym (take_all 5 _ (omega (arith, length-read 8 unle (handle_over h b) 0 5)))
      ∙ read-written 8 unle word_over (λ (x : ℕ). x) Word (λ x old k. length-le 8 x) (λ x old k. unle-le 8 x ∙ mod-eq_of_lt k) 5 (numbers h) 0 b (omega (arith, forty))
      (w.offset, (w.end, (w.position, (w.count, (w.saved, tt)))))

  pub handle-back : handle_in (handle_over h b) ≡ h
  unfolding handle_in le_at read_from
  handle-back =
      same-handle (ap (λ l. get_or l 0 0) all) (ap (λ l. get_or l 1 0) all) (ap (λ l. get_or l 2 0) all) (ap (λ l. get_or l 3 0) all) (ap (λ l. get_or l 4 0) all)
