-- The loop that writes a part: the records before the i-th stand in the other form from `to` on. Assumes nothing.
use Prim.Native.Nat.{ℕ, zero, suc, ◌+◌, ◌-◌, ◌*◌, ◌≤◌, ◌<◌}
use mathlib.Core.Path.{◌≡◌, refl, sym, ap, ◌∙◌, subst}
use mathlib.Core.List.{List, [], ◌∷◌, ◌++◌, flat_map, append_assoc, append-nil}
use mathlib.Core.Option.{Option, none, some, some-injective}
use native.Mathlib.Nat.{sub-zero}
use native.Mathlib.Omega.{arith}
use lib.ListN.{length, drop, length-append, length-drop}
use lib.Seq.{drop-drop}
use Rattle.base.specs.Lists as lists
use Rattle.base.specs.declared.Form.{Form}
use Rattle.base.proofs.Collect.{flat_map-append, flat_map-one}
use Rattle.journal_record.specs.Bytes.{splice}
use Rattle.journal_raw.specs.Raw.{Raw, other, raw_length, raw_bytes, raws_bytes, raw_in, before, followed, raws_in}
use Rattle.journal_raw.specs.At.{Room}
use Rattle.journal_raw.proofs.Readings.{length-raw, bounds}
use Rattle.journal_raw.proofs.Rewriting.{Put, put-none, put_next}

-- ---- the first of n + 1 records, and the others
pub record First (f : Form) (w k : ℕ) (b : List ℕ) (rs : List Raw) : Type 0 where
  pub n : ℕ
  pub raw : Raw
  pub others : List Raw
  pub reads : raw_in f w b ≡ some (n, raw)
  pub rest : raws_in f w k (drop n b) ≡ some others
  pub is : rs ≡ raw ∷ others

module _ (f : Form) (w k : ℕ) (b : List ℕ) (rs : List Raw) where
  first_by : (o : Option (ℕ × Raw)) → raw_in f w b ≡ o → followed b o (raws_in f w k) ≡ some rs → First f w k b rs
  unfolding followed before
  first_by none q e = absurd (let z : ◌≡◌ {A = ℕ} 0 1 = cc in omega arith)
  first_by (some t) q e = by (raws_in f w k (drop t.0 b)) refl e
    where
      by : (o : Option (List Raw)) → raws_in f w k (drop t.0 b) ≡ o → before t.1 o ≡ some rs → First f w k b rs
      by none p e = absurd (let z : ◌≡◌ {A = ℕ} 0 1 = cc in omega arith)
      by (some l) p e = record { n = t.0; raw = t.1; others = l; reads = q; rest = p; is = sym (some-injective (t.1 ∷ l) rs e) }

  pub first : raws_in f w (suc k) b ≡ some rs → First f w k b rs
  unfolding raws_in
  first e = first_by (raw_in f w b) refl e

no_more : (f : Form) (w : ℕ) (b : List ℕ) (rs : List Raw) → raws_in f w 0 b ≡ some rs → rs ≡ []
unfolding raws_in
no_more f w [] rs e = sym (some-injective [] rs e)
no_more f w (x ∷ b) rs e = absurd (let z : ◌≡◌ {A = ℕ} 0 1 = cc in omega arith)

-- ---- the loop
module _ (f : Form) (w n : ℕ) (bytes : List ℕ) (to : ℕ) (out₀ : List ℕ) (rs : List Raw) where
  pub record Writing (at put i : ℕ) (out : List ℕ) : Type 0 where
    pub gone : List Raw
    pub rest : List Raw
    pub left : i ≤ n
    pub inside : at ≤ length bytes
    pub reads : raws_in f w (n - i) (drop at bytes) ≡ some rest
    pub wide : lists.All (λ (r : Raw). 0 < length r.changes → 0 < w) rest
    pub put_is : put ≡ to + length (raws_bytes (other f) w gone)
    pub written : Put out₀ to (raws_bytes (other f) w gone) out
    pub all : gone ++ rest ≡ rs

  pub writing-none : raws_in f w n bytes ≡ some rs → lists.All (λ (r : Raw). 0 < length r.changes → 0 < w) rs → Writing 0 to 0 out₀
  unfolding flat_map
  writing-none e wide =
      record { gone = []; rest = rs; left = omega arith; inside = omega arith; reads = rw (sub-zero n) e; wide = wide; put_is = omega arith; written = put-none out₀ to; all = refl }

  module _ (at put i : ℕ) (out : List ℕ) (room : to + length (raws_bytes (other f) w rs) ≤ length out₀) (t : Writing at put i out) (more : i < n) where
    one_left : n - i ≡ suc (n - (i + 1))
    one_left = omega arith

    this : First f w (n - (i + 1)) (drop at bytes) t.rest
    this = first f w (n - (i + 1)) (drop at bytes) t.rest (rw one_left at t.reads)

    cut : length (raws_bytes (other f) w rs) ≡ length (raws_bytes (other f) w t.gone) + (raw_length (other f) this.raw + length (raws_bytes (other f) w this.others))
    unfolding flat_map
    cut =
        ap (λ (l : List Raw). length (raws_bytes (other f) w l)) (sym t.all ∙ ap (λ (l : List Raw). t.gone ++ l) this.is)
        ∙ ap length (flat_map-append (raw_bytes (other f) w) t.gone (this.raw ∷ this.others))
        ∙ length-append (raws_bytes (other f) w t.gone) (raw_bytes (other f) w this.raw ++ raws_bytes (other f) w this.others)
        ∙ ap (λ (m : ℕ). length (raws_bytes (other f) w t.gone) + m) (length-append (raw_bytes (other f) w this.raw) (raws_bytes (other f) w this.others) ∙ rw (length-raw (other f) w this.raw))

    widths : lists.All (λ (r : Raw). 0 < length r.changes → 0 < w) (this.raw ∷ this.others)
    widths = subst (lists.All (λ (r : Raw). 0 < length r.changes → 0 < w)) this.is t.wide

    -- it has room, whatever it is read as
    pub writing-room : (m : ℕ) (r : Raw) → raw_in f w (drop at bytes) ≡ some (m, r) → Room (other f) w r put (length out)
    unfolding lists.All
    writing-room m r e =
        let same = some-injective (this.n, this.raw) (m, r) (sym this.reads ∙ e) in
        subst (λ (x : ℕ × Raw). Room (other f) w x.1 put (length out)) same
        (record { wide = widths.0; roomy = omega (arith, cut, t.put_is, t.written.same_length) })

    pub writing-next : (len size : ℕ) (out' : List ℕ)
        → ((m : ℕ) (r : Raw) → raw_in f w (drop at bytes) ≡ some (m, r) → (len ≡ m) × (size ≡ raw_length (other f) r) × (out' ≡ splice out put (raw_bytes (other f) w r)))
        → Writing (at + len) (put + size) (i + 1) out'
    unfolding lists.All
    writing-next len size out' wrote =
        let w' = wrote this.n this.raw this.reads in
        let b = bounds f (other f) w (drop at bytes) this.n this.raw this.reads in
        let near : this.n ≤ length bytes - at = rw length-drop at b.inside in
        let longer : raws_bytes (other f) w (t.gone ++ (this.raw ∷ [])) ≡ raws_bytes (other f) w t.gone ++ raw_bytes (other f) w this.raw =
        flat_map-append (raw_bytes (other f) w) t.gone (this.raw ∷ []) ∙ rw flat_map-one in
        let long : length (raws_bytes (other f) w (t.gone ++ (this.raw ∷ []))) ≡ length (raws_bytes (other f) w t.gone) + raw_length (other f) this.raw =
        ap length longer ∙ rw (length-append, length-raw) in
        record {
          gone = t.gone ++ (this.raw ∷ []);
          rest = this.others;
          left = omega arith;
          inside = omega (arith, t.inside, w'.0);
          reads = rw (w'.0, ← drop-drop this.n at bytes) this.rest;
          wide = widths.1;
          put_is = omega (arith, t.put_is, w'.1, long);
          written =
              rw longer
              (put_next out₀ to (raws_bytes (other f) w t.gone) (raw_bytes (other f) w this.raw) out out' put (sym t.put_is)
              (omega (arith, cut, t.put_is, length-raw (other f) w this.raw)) t.written w'.2);
          all = append_assoc t.gone (this.raw ∷ []) this.others ∙ ap (λ (l : List Raw). t.gone ++ l) (sym this.is) ∙ t.all;
        }

  pub writing-all : (at put i : ℕ) (out : List ℕ) → Writing at put i out → n ≤ i → raws_in f w n bytes ≡ some rs → (rs' : List Raw) → raws_in f w n bytes ≡ some rs' → out ≡ splice out₀ to (raws_bytes (other f) w rs')
  writing-all at put i out t done e rs' e' =
      let none_left : n - i ≡ 0 = omega arith in
      let empty : t.rest ≡ [] = no_more f w (drop at bytes) t.rest (rw none_left at t.reads) in
      let gone-is : t.gone ≡ rs = sym (append-nil t.gone) ∙ ap (λ (l : List Raw). t.gone ++ l) (sym empty) ∙ t.all in
      let same : rs ≡ rs' = some-injective rs rs' (sym e ∙ e') in
      t.written.is ∙ ap (λ (l : List Raw). splice out₀ to (raws_bytes (other f) w l)) (gone-is ∙ same)

  -- it stays in the buffer
  pub writing-most : (at put i : ℕ) (out : List ℕ) → to + length (raws_bytes (other f) w rs) ≤ length out₀ → Writing at put i out → put ≤ length out₀
  writing-most at put i out room t =
      let long : length (raws_bytes (other f) w rs) ≡ length (raws_bytes (other f) w t.gone) + length (raws_bytes (other f) w t.rest) =
      ap (λ (l : List Raw). length (raws_bytes (other f) w l)) (sym t.all)
      ∙ ap length (flat_map-append (raw_bytes (other f) w) t.gone t.rest)
      ∙ length-append (raws_bytes (other f) w t.gone) (raws_bytes (other f) w t.rest) in
      omega (arith, t.put_is)

-- ---- in a form the records of a part take at most twice the other's bytes
pub raws-most : (f g : Form) (w n : ℕ) (bytes : List ℕ) (rs : List Raw) → raws_in f w n bytes ≡ some rs → length (raws_bytes g w rs) ≤ 2 * length bytes
unfolding flat_map
raws-most f g w zero bytes rs e = rw (no_more f w bytes rs e) (omega arith)
raws-most f g w (suc n) bytes rs e =
    let t = first f w n bytes rs e in
    let b = bounds f g w bytes t.n t.raw t.reads in
    let rest : length (raws_bytes g w t.others) ≤ 2 * length (drop t.n bytes) = raws-most f g w n (drop t.n bytes) t.others t.rest in
    rw (t.is, length-append (raw_bytes g w t.raw) (raws_bytes g w t.others), length-raw g w t.raw) (omega (arith, length-drop t.n bytes, b.inside, b.most))
