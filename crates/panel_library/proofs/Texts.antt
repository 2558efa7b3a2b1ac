-- The text of a line: what was read into buffers is written from them; and the text of a byte. Assumes nothing.
use Rattle.std.proofs.Common.{◌≡◌, ℕ, suc, ◌+◌, ◌*◌, ◌<◌, ◌≤◌, List, [], ◌∷◌, length, get_or, take, drop, ℤ, sym, refl, ap, ◌∙◌, mul-le-mul, add-one, arith, length-take-le, drop-cons, take_at, eq-eqb}
use lib.Ieee.{Float}
use Rattle.base.specs.Answer.{opened_told}
use Rattle.base.specs.Lists.{over}
use Rattle.base.specs.declared.Opened.{Opened}
use Rattle.base.specs.declared.Opened.TheVariants as opened
use Rattle.journal_record.specs.Bytes.{splice}
use Rattle.panel_frames.specs.Writing.{number_line}
use Rattle.panel_frames.proofs.Lines.{length-number}
use Rattle.panel_lines.specs.Lines.{fed, saying, byteFed, chunkFed, lastFed}
use Rattle.panel_lines.proofs.Feeding.{saying-nil, turned}
use Rattle.panel_spell.specs.Spelling.{open_line}
use Rattle.panel_spell.proofs.Written.{length-line}
use Rattle.panel_read.specs.ReadSheet.{Read, read_made, line_read}
use Rattle.panel_spelling.specs.Library.{respelt}
use Rattle.panel_spelling.proofs.Respelling.{Accepted, respelt-sheet, respelt-number}
use Rattle.panel_library.specs.Texts.{step_of, Front}

-- a text over a list stands at its front
pub front : (t l : List ℕ) → take (length t) (over t l) ≡ t
unfolding over
front t l = take_at t (drop (length t) l) (length t) refl

module _
    (line palette : List ℕ) (lab : List Float) (indices : List ℤ) (p : length palette ≡ 765) (l : length lab ≡ 765) (enough : 4096 ≤ length indices)
    (a : Opened) (palette' : List ℕ) (lab' : List Float) (indices' : List ℤ) (e : read_made a palette' lab' indices' ≡ line_read line palette lab indices) where
  answer-is : (line_read line palette lab indices).answer ≡ opened_told a
  answer-is = sym (ap (λ (r : Read). r.answer) e)

  -- refused
  pub front-number : (num : ℕ) → a ≡ opened.Refused num → (text text' : List ℕ) (n : ℕ) → text' ≡ splice text 0 (number_line num) → n ≡ 0 + length (number_line num) → Front n text' (respelt line)
  unfolding splice
  front-number num q text text' n t r =
      let same : respelt line ≡ number_line num = respelt-number line palette lab indices p l enough num (answer-is ∙ ap opened_told q) in
      let m : n ≡ length (number_line num) = omega arith in
      record { is = rw (m, t, same) (front (number_line num) text); fits = omega (arith, length-number num) }

  -- accepted
  module _ (w h k : ℕ) (q : a ≡ opened.Sheet w h k) where
    accepted : Accepted line palette lab indices p l enough w h k
    accepted = respelt-sheet line palette lab indices p l enough w h k (answer-is ∙ ap opened_told q)

    pub few : k ≤ 255
    few = accepted.few

    pub cells : w * h ≤ 4096
    cells = mul-le-mul accepted.narrow accepted.low

    text-is : open_line w h k (take (3 * k) palette') (take (w * h) indices') ≡ respelt line
    text-is =
        let ep : palette' ≡ (line_read line palette lab indices).palette = ap (λ (r : Read). r.palette) e in
        let ei : indices' ≡ (line_read line palette lab indices).indices = ap (λ (r : Read). r.indices) e in
        rw (ep, ei) accepted.text

    pub front-sheet : length palette' ≡ 765 → 4096 ≤ length indices' → (text text' : List ℕ) (n : ℕ)
        → text' ≡ over (open_line w h k (take (3 * k) palette') (take (w * h) indices')) text → n ≡ length (open_line w h k (take (3 * k) palette') (take (w * h) indices'))
        → Front n text' (respelt line)
    front-sheet p' i' text text' n t r =
        let f = few in
        let c = cells in
        let lp : length (take (3 * k) palette') ≡ 3 * k = length-take-le (3 * k) palette' (omega arith) in
        let li : length (take (w * h) indices') ≡ w * h = length-take-le (w * h) indices' (omega arith) in
        let long = length-line w h k (take (3 * k) palette') (take (w * h) indices') lp in
        record {
          is = rw (r, t) (front (open_line w h k (take (3 * k) palette') (take (w * h) indices')) text) ∙ text-is;
          fits = omega (arith, long, li, r);
        }

-- a newline
pub byte-ends : (l line text : List ℕ) (n b : ℕ) → Front n text (respelt l) → b ≡ 10 → fed tt (take 0 line) (take n text) ≡ byteFed step_of tt l b
unfolding byteFed
byte-ends l line text n b f e = rw (eq-eqb b 10 e, f.is)

-- a byte of a chunk
pub byte_more : (l l' text chunk : List ℕ) (n i : ℕ) → i < length chunk → fed tt l' (take n text) ≡ byteFed step_of tt l (get_or chunk i 0)
    → saying (take n text) (chunkFed step_of tt l' (drop (i + 1) chunk)) ≡ chunkFed step_of tt l (drop i chunk)
byte_more l l' text chunk n i h e =
    rw (add-one i, drop-cons chunk i 0 h) (turned step_of tt tt l l' [] (take n text) (get_or chunk i 0) (drop (suc i) chunk) (e ∙ sym (saying-nil _)) ∙ saying-nil _)

-- the line that no newline ended
held-answered : (l text : List ℕ) (n : ℕ) → 0 < length l → Front n text (respelt l) → Front n text (lastFed step_of tt l)
unfolding lastFed
held-answered [] text n h f = absurd (omega arith)
held-answered (a ∷ l) text n h f = f

pub some-held : (line text : List ℕ) (n len : ℕ) → 0 < len → len ≤ length line → Front n text (respelt (take len line)) → Front n text (lastFed step_of tt (take len line))
some-held line text n len h k f = held-answered (take len line) text n (omega (arith, length-take-le len line k)) f

pub none-held : (line text : List ℕ) (len : ℕ) → len ≤ 0 → Front 0 text (lastFed step_of tt (take len line))
unfolding lastFed
none-held line text len h = let e : len ≡ 0 = omega arith in record { is = rw e; fits = omega arith }
