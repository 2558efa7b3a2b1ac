-- What a search found is the record that lies there: so it is measured, and written. Assumes nothing.
use Prim.Native.Nat.{ℕ, ◌+◌, ◌-◌, ◌*◌, ◌≤◌, ◌<◌}
use mathlib.Core.Path.{◌≡◌, refl, sym, ap, ap₂, ◌∙◌, subst}
use mathlib.Core.Bool.{Bool, true, false}
use mathlib.Core.List.{List}
use mathlib.Core.Option.{Option, none, some, some-injective}
use native.Mathlib.Nat.{add_assoc}
use native.Mathlib.Omega.{arith}
use Rattle.std.specs.Prelude.{Some, None}
use lib.ListN.{length, take, drop, length-drop}
use lib.Seq.{take_all, drop-drop}
use Rattle.base.specs.Lists as lists
use Rattle.base.specs.declared.Form.{Form}
use Rattle.base.specs.declared.Edit.{Edit}
use Rattle.edit.specs.Change.{Change, outside}
use Rattle.journal_record.specs.Bytes.{splice}
use Rattle.journal_record.specs.Record.{stride, changes_in, Reading, read_forth}
use Rattle.journal_record.specs.Found.{kind_of, found_at}
use Rattle.journal_record.specs.declared.Found.TheVariants.{Record, Unsound}
use Rattle.journal_record.proofs.Holds.{tells_at}
use Rattle.journal_record.proofs.Strides.{stride-least}
use Rattle.journal_record.proofs.Finding.{length-in}
use Rattle.journal_record.proofs.Parts.{changes-part}
use Rattle.journal_raw.specs.declared.Written.{Written}
use Rattle.journal_raw.specs.Raw.{Raw, head_length, raw_length, raw_bytes, raw_of, raw_in, stray}
use Rattle.journal_raw.specs.At.{raw_at, measured_raw, Room}
use Rattle.journal_raw.proofs.Readings.{within, n-is, cs-there, twice}
use Rattle.journal_raw.proofs.Rewriting.{length_at}

-- what `put_record` asks
pub record Ready (f g : Form) (w at kind count to size room : ℕ) : Type 0 where
  pub wide : 0 < count → 0 < w
  pub few : count < 4294967296
  pub from : at + 1 + head_length kind + stride f * count ≤ size
  pub roomy : to + 1 + head_length kind + stride g * count + 4 ≤ room
  pub fits : 1 + head_length kind + stride g * count + 4 < 4294967296

-- ---- the record that lies at a place of the bytes
pub record Lies (f : Form) (w : ℕ) (bytes : List ℕ) (at kind n count : ℕ) : Type 0 where
  pub raw-is : raw_in f w (drop at bytes) ≡ some (n, raw_at f w bytes at kind count)
  pub length-is : n ≡ 1 + head_length kind + stride f * count + 4
  pub within : at + n ≤ length bytes

module _ (f : Form) (w : ℕ) (bytes : List ℕ) (at : ℕ) (inside : at ≤ length bytes) where
  abbrev rest : List ℕ
  rest = take (length bytes - at) (drop at bytes)

  all-of-it : rest ≡ drop at bytes
  all-of-it = take_all (length bytes - at) (drop at bytes) (rw length-drop (omega arith))

  rest-long : length rest ≡ length bytes - at
  rest-long = ap length all-of-it ∙ length-drop at bytes

  pub unfound : found_at at (read_forth f w rest) ≡ Unsound → raw_in f w (drop at bytes) ≡ none
  unfolding raw_in raw_of found_at
  unfound e = rw all-of-it at (by (read_forth f w rest) refl e)
    where
      by : (o : Reading) → read_forth f w rest ≡ o → found_at at o ≡ Unsound → raw_of rest o ≡ none
      by none q e = refl
      by (some t) q e = absurd (let z : ◌≡◌ {A = ℕ} 0 1 = cc in omega arith)

  lies-by : (n : ℕ) (e : Edit) (cs : List Change) → read_forth f w rest ≡ some (n, e, cs) → Lies f w bytes at (kind_of e) n (length cs)
  unfolding raw_in raw_of
  lies-by n e cs q =
      let k : ℕ = kind_of e in
      let long : n ≡ 1 + head_length k + stride f * length cs + 4 = n-is f w rest n e cs q in
      let fits : n ≤ length rest = within f w rest n e cs q in
      let there : cs ≡ changes_in f w bytes (at + 1 + head_length k) (length cs) =
      cs-there f w rest n e cs q
      ∙ changes-part bytes at (length bytes - at) f w (length cs) (1 + head_length k) (omega (arith, rest-long))
      ∙ rw (add_assoc at 1 (head_length k)) in
      let head : drop 1 rest ≡ drop (at + 1) bytes = ap (drop 1) all-of-it ∙ drop-drop 1 at bytes in
      let raw-in : raw_in f w rest ≡ some (n, raw_at f w bytes at k (length cs)) =
      rw q (ap₂ (λ (h : List ℕ) (l : List Change). some (n, record { kind = k; head = h; changes = l })) (ap (take (head_length k)) head) there) in
      record { raw-is = rw all-of-it at raw-in; length-is = long; within = omega (arith, rest-long) }

  pub lies : (kind start n count : ℕ) → found_at at (read_forth f w rest) ≡ Record kind start n count → Lies f w bytes at kind n count
  lies kind start n count e =
      let t = (tells_at kind start n count at (read_forth f w rest) e).1 in
      rw (t.kind-is, t.count-is) at (lies-by n t.edit t.changes t.reading)

-- ---- what a measure answers
abbrev written : ℕ → ℕ → Written
written n k = record { length = n; size = k }

pub none-measured : (f g : Form) (w h : ℕ) (bytes : List ℕ) (at : ℕ) → raw_in f w (drop at bytes) ≡ none → None ≡ measured_raw g w h (raw_in f w (drop at bytes))
unfolding measured_raw
none-measured f g w h bytes at e = rw e

module _ (f g : Form) (w h : ℕ) (bytes : List ℕ) (at kind n count : ℕ) (l : Lies f w bytes at kind n count) (head : ℕ) (off : Bool) (h-is : head ≡ head_length kind)
    (t : off ≡ lists.some (outside w h) (changes_in f w bytes (at + 1 + head) count)) where
  pub off-measured : off ≡ true → None ≡ measured_raw g w h (raw_in f w (drop at bytes))
  unfolding measured_raw stray
  off-measured e = rw (l.raw-is, ← rw h-is at t, e)

  pub on-measured : off ≡ false → (into : Form) (size : ℕ) → into ≡ g → size ≡ 1 + head_length kind + stride into * count + 4
      → Some (written n size) ≡ measured_raw g w h (raw_in f w (drop at bytes))
  unfolding measured_raw stray
  on-measured e into size i s =
      rw (l.raw-is, ← rw h-is at t, e)
      (ap (λ (k : ℕ). Some (written n k)) (rw i at s ∙ sym (length_at f w bytes at kind count (omega (arith, l.length-is, l.within)) g)))

-- ---- what writing it asks and leaves
module _ (f g : Form) (w : ℕ) (bytes : List ℕ) (at kind n count : ℕ) (l : Lies f w bytes at kind n count) where
  there : at + 1 + head_length kind ≤ length bytes
  there = omega (arith, l.length-is, l.within)

  pub ready : (to room : ℕ) → length bytes ≤ 2147483647 → ((m : ℕ) (r : Raw) → raw_in f w (drop at bytes) ≡ some (m, r) → Room g w r to room) → Ready f g w at kind count to (length bytes) room
  ready to room size asks =
      let r = asks n (raw_at f w bytes at kind count) l.raw-is in
      let long = length_at f w bytes at kind count there g in
      let many : length (changes_in f w bytes (at + 1 + head_length kind) count) ≡ count = length-in f w bytes (at + 1 + head_length kind) count in
      record {
        wide = λ z. r.wide (rw many z);
        few = omega (arith, stride-least f count, l.length-is, l.within);
        from = omega (arith, l.length-is, l.within);
        roomy = omega (arith, r.roomy);
        fits = omega (arith, twice f g count, l.length-is, l.within);
      }

  pub wrote : (size : ℕ) (out out' : List ℕ) (to : ℕ) → (size ≡ raw_length g (raw_at f w bytes at kind count)) × (out' ≡ splice out to (raw_bytes g w (raw_at f w bytes at kind count)))
      → (m : ℕ) (r : Raw) → raw_in f w (drop at bytes) ≡ some (m, r) → (n ≡ m) × (size ≡ raw_length g r) × (out' ≡ splice out to (raw_bytes g w r))
  wrote size out out' to p m r e =
      let same = some-injective (n, raw_at f w bytes at kind count) (m, r) (sym l.raw-is ∙ e) in
      subst (λ (x : ℕ × Raw). (n ≡ x.0) × (size ≡ raw_length g x.1) × (out' ≡ splice out to (raw_bytes g w x.1))) same (refl, p.0, p.1)

pub not-both : {X : Type 0} (o : Option (ℕ × Raw)) (t : ℕ × Raw) → o ≡ none → o ≡ some t → X
not-both o t e q = absurd (let z : ◌≡◌ {A = ℕ} 0 1 = cc in omega arith)
