-- A record that was read is its bytes, written in the form that it was read in; and written in either form it is read again, from both ends, as the same edit
-- with the same changes. Assumes nothing.
use Prim.Native.Nat.{ℕ, ◌+◌, ◌-◌, ◌*◌, ◌^◌, ◌≤◌, ◌<◌}
use mathlib.Core.Path.{◌≡◌, refl, sym, ap, ◌∙◌, subst}
use mathlib.Core.Bool.{Bool, true, false, cond}
use mathlib.Core.List.{List, [], ◌∷◌, ◌++◌, flat_map, append_assoc, append-nil}
use mathlib.Core.Option.{none, some, some-injective}
use native.Mathlib.Omega.{arith}
use borrow.Author.Tests.{leb-true, le-leb, eq-eqb, eqb-true}
use lib.Dec.{leb}
use lib.ListN.{length, take, drop, length-take, length-drop, length-append}
use lib.Seq.{take-add, take_at, drop_at, drop-cons}
use Rattle.base.proofs.Bools.{and_left, and_right}
use Rattle.base.specs.Lists as lists
use Rattle.base.specs.declared.Form.{Form}
use Rattle.base.specs.declared.Form.TheVariants.{Coordinates, Places}
use Rattle.base.specs.declared.Edit.{Edit}
use Rattle.edit.specs.Change.{Change, outside}
use Rattle.journal_record.specs.Bytes.{le, le_at}
use Rattle.journal_record.specs.Record.{change_bytes, stride, record_length, changes_in, Reading, contents, closed, agreed, read_forth, of_length, read_back}
use Rattle.journal_record.specs.Found.{kind_of}
use Rattle.journal_record.proofs.LittleEndian.{length-le, le_at-of}
use Rattle.journal_record.proofs.Finding.{length-in}
use Rattle.journal_write.specs.Fit.{FitChanges, FitPlaces}
use Rattle.journal_write.proofs.Changes.{length-changes, changes-in}
use Rattle.journal_write.proofs.Placed.{fit-places}
use Rattle.journal_raw.specs.Raw.{Raw, head_length, kind_byte, raw_length, raw_bytes, raw_of, raw_in, stray, AllBytes}
use Rattle.journal_raw.proofs.AsBytes.{le-again}
use Rattle.journal_raw.proofs.Changes.{changes-again, fit-changes}
use Rattle.journal_raw.proofs.Heads.{Pair, pair, count_in, held, by-kind, Told, told}

abbrev triple : ℕ → Edit → List Change → Reading
triple n e cs = some (n, e, cs)

pub length-raw : (g : Form) (w : ℕ) (r : Raw) → length (raw_bytes g w r) ≡ raw_length g r
unfolding raw_bytes
length-raw g w r = simp (length-append, length-le) (omega (arith, length-changes g w r.changes))

-- ---- what a reading is made of
record Read (f : Form) (w : ℕ) (bytes : List ℕ) (n : ℕ) (e : Edit) (cs : List Change) : Type 0 where
  says : contents f w bytes ≡ pair e cs
  length-is : n ≡ record_length f e (length cs)
  ends : closed bytes n ≡ true

module _ (f : Form) (w : ℕ) (bytes : List ℕ) (n : ℕ) (e : Edit) (cs : List Change) where
  read_by : (o : Pair) → contents f w bytes ≡ o → agreed f bytes o ≡ triple n e cs → Read f w bytes n e cs
  unfolding agreed
  read_by none q p = absurd (let z : ◌≡◌ {A = ℕ} 0 1 = cc in omega arith)
  read_by (some t) q p = go (closed bytes (record_length f t.0 (length t.1))) refl p
    where
      m : ℕ
      m = record_length f t.0 (length t.1)

      go : (b : Bool) → closed bytes m ≡ b → cond b (triple m t.0 t.1) none ≡ triple n e cs → Read f w bytes n e cs
      go true c p =
          subst (λ (x : ℕ × Edit × List Change). Read f w bytes x.0 x.1 x.2) (some-injective (m, t.0, t.1) (n, e, cs) p)
          (record { says = q; length-is = refl; ends = c })
      go false c p = absurd (let z : ◌≡◌ {A = ℕ} 0 1 = cc in omega arith)

  read-facts : read_forth f w bytes ≡ triple n e cs → Read f w bytes n e cs
  unfolding read_forth
  read-facts p = read_by (contents f w bytes) refl p

-- a form takes at most twice the other's bytes
pub twice : (f g : Form) (m : ℕ) → stride g * m ≤ 2 * (stride f * m)
twice Coordinates Coordinates m = omega arith
twice Coordinates Places m = omega arith
twice Places Coordinates m = omega arith
twice Places Places m = omega arith

module _ (f : Form) (w : ℕ) (bytes : List ℕ) (n : ℕ) (e : Edit) (cs : List Change) (reads : read_forth f w bytes ≡ triple n e cs) where
  facts : Read f w bytes n e cs
  facts = read-facts f w bytes n e cs reads

  tells : Told f w bytes (kind_of e) e cs
  tells = told f w bytes e cs facts.says

  abbrev pub raw : Raw
  raw = record { kind = kind_of e; head = take (head_length (kind_of e)) (drop 1 bytes); changes = cs }

  pub within : n ≤ length bytes
  unfolding closed
  within = leb-true n (length bytes) (and_left (leb n (length bytes)) _ facts.ends)

  last-is : le_at 4 bytes (n - 4) ≡ n
  unfolding closed
  last-is = eqb-true _ n (and_right (leb n (length bytes)) _ facts.ends)

  pub n-is : n ≡ 1 + head_length (kind_of e) + stride f * length cs + 4
  n-is = facts.length-is ∙ tells.length-is f

  pub head-long : length raw.head ≡ head_length (kind_of e)
  head-long = simp (length-take, length-drop) (omega (arith, n-is, within))

  raw-long : n ≡ raw_length f raw
  raw-long = rw head-long n-is

  cs-are : cs ≡ changes_in f w bytes (1 + head_length (kind_of e)) (count_in (kind_of e) raw.head)
  cs-are = tells.changes-are

  cs-many : length cs ≡ count_in (kind_of e) raw.head
  cs-many = ap length cs-are ∙ length-in f w bytes (1 + head_length (kind_of e)) (count_in (kind_of e) raw.head)

  held-is : held (kind_of e) raw.head cs ≡ pair e cs
  held-is = rw (← cs-are) at (sym (by-kind f w bytes (kind_of e) tells.least tells.most tells.byte-is) ∙ facts.says)

  -- as it lies there
  pub cs-there : cs ≡ changes_in f w bytes (1 + head_length (kind_of e)) (length cs)
  cs-there = cs-are ∙ ap (changes_in f w bytes (1 + head_length (kind_of e))) (sym cs-many)

  -- ---- its bytes
  module _ (h : ℕ) (narrow : w ≤ 1024) (low : h ≤ 1024) (all : AllBytes bytes) (on : stray w h raw ≡ false) where
    on-there : lists.some (outside w h) (changes_in f w bytes (1 + head_length (kind_of e)) (length cs)) ≡ false
    unfolding stray
    on-there = rw cs-there at on

    list-bytes : flat_map (change_bytes f w) cs ≡ take (stride f * length cs) (drop (1 + head_length (kind_of e)) bytes)
    list-bytes =
        ap (flat_map (change_bytes f w)) cs-there
        ∙ changes-again w bytes all f (length cs) (1 + head_length (kind_of e)) (omega (arith, n-is, within))

    last-bytes : le 4 n ≡ take 4 (drop (n - 4) bytes)
    last-bytes = rw last-is at (le-again 4 bytes (n - 4) all (omega (arith, n-is, within)))

    first-is : take 1 bytes ≡ kind_byte f (kind_of e) ∷ []
    first-is = rw (← tells.byte-is) (ap (take 1) (drop-cons bytes 0 0 (omega (arith, n-is, within))))

    split : (l : List ℕ) (a b : ℕ) → take (1 + a + b + 4) l ≡ take 1 l ++ (take a (drop 1 l) ++ (take b (drop (1 + a) l) ++ take 4 (drop (1 + a + b) l)))
    split l a b = rw (take-add (1 + a + b) 4 l, take-add (1 + a) b l, take-add 1 a l) (simp append_assoc)

    pub written-again : take n bytes ≡ raw_bytes f w raw
    unfolding raw_bytes
    written-again =
        let H : ℕ = head_length (kind_of e) in
        let S : ℕ = stride f * length cs in
        let at : 1 + H + S ≡ n - 4 = omega (arith, n-is) in
        ap (λ (m : ℕ). take m bytes) n-is
        ∙ split bytes H S
        ∙ rw (first-is, ← list-bytes, at, ← last-bytes, ← raw-long)

    -- ---- read again
    module _ (size : length bytes ≤ 2147483647) (g : Form) where
      small : raw_length g raw < 2 ^ 32
      small = omega (arith, raw-long, within, twice f g (length cs))

      abbrev kb : ℕ
      kb = kind_byte g (kind_of e)

      abbrev C : List ℕ
      C = flat_map (change_bytes g w) cs

      abbrev L : List ℕ
      L = le 4 (raw_length g raw)

      fit : FitChanges cs
      fit =
          subst FitChanges (sym cs-there)
          (fit-changes w bytes all h narrow low f (length cs) (1 + head_length (kind_of e)) (omega (arith, n-is, within)) on-there)

      placed : FitPlaces g w cs
      unfolding stray
      placed = fit-places g w h narrow low cs on

      says-again : (rest : List ℕ) → contents g w (kb ∷ raw.head ++ (C ++ rest)) ≡ pair e cs
      says-again rest =
          let b : List ℕ = kb ∷ raw.head ++ (C ++ rest) in
          let H : ℕ = head_length (kind_of e) in
          let head-is : take H (drop 1 b) ≡ raw.head = take_at raw.head (C ++ rest) H head-long in
          let list-is : changes_in g w b (1 + H) (length cs) ≡ cs =
          changes-in g w cs fit placed b (kb ∷ raw.head) rest (1 + H) refl (omega (arith, head-long)) in
          by-kind g w b (kind_of e) tells.least tells.most refl
          ∙ rw (head-is, ← cs-many, list-is) held-is

      abbrev body : List ℕ
      body = kb ∷ raw.head ++ C

      body-long : length body + 4 ≡ raw_length g raw
      body-long = simp length-append (omega (arith, length-changes g w cs))

      bytes-are : (rest : List ℕ) → raw_bytes g w raw ++ rest ≡ body ++ (L ++ rest)
      unfolding raw_bytes
      bytes-are rest = simp append_assoc

      ends-again : (rest : List ℕ) → closed (raw_bytes g w raw ++ rest) (raw_length g raw) ≡ true
      unfolding closed
      ends-again rest =
          let m : ℕ = raw_length g raw in
          let all-long : m ≤ length (body ++ (L ++ rest)) =
          omega (arith, body-long, length-append body (L ++ rest), length-append L rest, length-le 4 m) in
          let last : le_at 4 (body ++ (L ++ rest)) (m - 4) ≡ m = le_at-of 4 m (body ++ (L ++ rest)) body rest (m - 4) refl (omega (arith, body-long)) small in
          rw (bytes-are rest, le-leb m _ all-long, last, eq-eqb m m refl)

      pub forth-again : (rest : List ℕ) → read_forth g w (raw_bytes g w raw ++ rest) ≡ triple (raw_length g raw) e cs
      unfolding read_forth agreed
      forth-again rest =
          let says : contents g w (raw_bytes g w raw ++ rest) ≡ pair e cs =
          ap (contents g w) (bytes-are rest ∙ simp append_assoc) ∙ says-again (L ++ rest) in
          let long : record_length g e (length cs) ≡ raw_length g raw = rw head-long (tells.length-is g) in
          rw (says, long, ends-again rest)

      pub back-again : (front : List ℕ) → read_back g w (front ++ raw_bytes g w raw) ≡ triple (raw_length g raw) e cs
      unfolding read_back of_length
      back-again front =
          let m : ℕ = raw_length g raw in
          let b : List ℕ = front ++ raw_bytes g w raw in
          let long : length b ≡ length front + m = rw (length-append, length-raw) in
          let is : b ≡ (front ++ body) ++ (L ++ []) =
          ap (λ (x : List ℕ). front ++ x) (sym (append-nil (raw_bytes g w raw)) ∙ bytes-are []) ∙ sym (append_assoc front body (L ++ [])) in
          let before : length (front ++ body) ≡ length b - 4 = omega (arith, body-long, length-append front body) in
          let last : le_at 4 b (length b - 4) ≡ m = le_at-of 4 m b (front ++ body) [] (length b - 4) is before small in
          let at : drop (length b - m) b ≡ raw_bytes g w raw = drop_at front (raw_bytes g w raw) (length b - m) (omega arith) in
          let forth : read_forth g w (raw_bytes g w raw) ≡ triple m e cs = rw append-nil at (forth-again []) in
          rw (last, le-leb m (length b) (omega arith), at, forth, eq-eqb m m refl)

-- ---- a record as both forms have it
pub record Whole (w : ℕ) (r : Raw) : Type 0 where
  pub edit : Edit
  pub kind-is : kind_of edit ≡ r.kind
  pub head-is : length r.head ≡ head_length r.kind
  pub forth : (g : Form) (rest : List ℕ) → read_forth g w (raw_bytes g w r ++ rest) ≡ some (raw_length g r, edit, r.changes)
  pub back : (g : Form) (front : List ℕ) → read_back g w (front ++ raw_bytes g w r) ≡ some (raw_length g r, edit, r.changes)

-- what is known of a record that was read in a journal
pub record Taken (f : Form) (w : ℕ) (bytes : List ℕ) (n : ℕ) (r : Raw) : Type 0 where
  pub within : n ≤ length bytes
  pub length-is : n ≡ raw_length f r
  pub bytes-are : take n bytes ≡ raw_bytes f w r
  pub whole : Whole w r

module _ (f : Form) (w h : ℕ) (narrow : w ≤ 1024) (low : h ≤ 1024) (bytes : List ℕ) (all : AllBytes bytes) (size : length bytes ≤ 2147483647) where
  taken-by : (n : ℕ) (r : Raw) (o : Reading) → read_forth f w bytes ≡ o → raw_of bytes o ≡ some (n, r) → stray w h r ≡ false → Taken f w bytes n r
  unfolding raw_of
  taken-by n r none q p on = absurd (let z : ◌≡◌ {A = ℕ} 0 1 = cc in omega arith)
  taken-by n r (some t) q p on =
      let r' : Raw = raw f w bytes t.0 t.1 t.2 q in
      let same = some-injective (t.0, r') (n, r) p in
      let on' : stray w h r' ≡ false = subst (λ (x : ℕ × Raw). stray w h x.1 ≡ false) (sym same) on in
      subst (λ (x : ℕ × Raw). Taken f w bytes x.0 x.1) same
      (record {
        within = within f w bytes t.0 t.1 t.2 q;
        length-is = raw-long f w bytes t.0 t.1 t.2 q;
        bytes-are = written-again f w bytes t.0 t.1 t.2 q h narrow low all on';
        whole =
            record {
              edit = t.1;
              kind-is = refl;
              head-is = head-long f w bytes t.0 t.1 t.2 q;
              forth = forth-again f w bytes t.0 t.1 t.2 q h narrow low all on' size;
              back = back-again f w bytes t.0 t.1 t.2 q h narrow low all on' size;
            };
      })

  pub taken : (n : ℕ) (r : Raw) → raw_in f w bytes ≡ some (n, r) → stray w h r ≡ false → Taken f w bytes n r
  unfolding raw_in
  taken n r p on = taken-by n r (read_forth f w bytes) refl p on

-- a record lies in the bytes that it was read from, and in a form takes at most twice the other's bytes
pub record Bounds (g : Form) (bytes : List ℕ) (n : ℕ) (r : Raw) : Type 0 where
  pub inside : n ≤ length bytes
  pub most : raw_length g r ≤ 2 * n

module _ (f g : Form) (w : ℕ) (bytes : List ℕ) where
  bounds-by : (n : ℕ) (r : Raw) (o : Reading) → read_forth f w bytes ≡ o → raw_of bytes o ≡ some (n, r) → Bounds g bytes n r
  unfolding raw_of
  bounds-by n r none q p = absurd (let z : ◌≡◌ {A = ℕ} 0 1 = cc in omega arith)
  bounds-by n r (some t) q p =
      let long = raw-long f w bytes t.0 t.1 t.2 q in
      subst (λ (x : ℕ × Raw). Bounds g bytes x.0 x.1) (some-injective (t.0, raw f w bytes t.0 t.1 t.2 q) (n, r) p)
      (record { inside = within f w bytes t.0 t.1 t.2 q; most = omega (arith, twice f g (length t.2)) })

  pub bounds : (n : ℕ) (r : Raw) → raw_in f w bytes ≡ some (n, r) → Bounds g bytes n r
  unfolding raw_in
  bounds n r p = bounds-by n r (read_forth f w bytes) refl p

-- it is read again in either form
head-again : (g : Form) (w : ℕ) (r : Raw) (rest : List ℕ) (n : ℕ) → length r.head ≡ n → take n (drop 1 (raw_bytes g w r ++ rest)) ≡ r.head
unfolding raw_bytes
head-again g w r rest n e =
    let tail : List ℕ = flat_map (change_bytes g w) r.changes ++ le 4 (raw_length g r) in
    ap (take n) (append_assoc r.head tail rest) ∙ take_at r.head (tail ++ rest) n e

pub raw-again : (g : Form) (w : ℕ) (r : Raw) → Whole w r → (rest : List ℕ) → raw_in g w (raw_bytes g w r ++ rest) ≡ some (raw_length g r, r)
unfolding raw_in raw_of
raw-again g w r whole rest = rw (whole.forth g rest, whole.kind-is, head-again g w r rest (head_length r.kind) whole.head-is)
