-- The loop that measures a part: what is left of it says what the whole says, added to what was measured. Assumes nothing.
use Prim.Native.Nat.{ℕ, suc, ◌+◌, ◌-◌, ◌*◌, ◌≤◌, ◌<◌}
use mathlib.Core.Path.{◌≡◌, refl, sym, ap, ◌∙◌}
use mathlib.Core.Bool.{Bool, true, false, cond}
use mathlib.Core.List.{List, [], ◌∷◌, flat_map}
use mathlib.Core.Option.{Option, none, some}
use native.Mathlib.Nat.{add_assoc, zero-add, sub-zero}
use native.Mathlib.Omega.{arith}
use lib.ListN.{length, drop, length-append, length-drop}
use lib.Seq.{drop-drop, drop-length}
use Rattle.base.specs.Lists as lists
use Rattle.base.specs.declared.Form.{Form}
use Rattle.std.specs.Prelude.{Some, None}
use Rattle.std.specs.Prelude as rust
use Rattle.journal_raw.specs.declared.Written.{Written}
use Rattle.journal_raw.specs.Raw.{Raw, raw_length, raw_bytes, raws_bytes, raw_in, before, followed, raws_in, stray, any_stray}
use Rattle.journal_raw.specs.At.{measured_raw}
use Rattle.journal_raw.proofs.Readings.{length-raw, bounds}
use Rattle.history_convert.specs.Sizes.{size_of}

-- so many bytes more
unfoldable pub plus : ℕ → rust.Option ℕ → rust.Option ℕ
plus s (Some t) = Some (s + t)
plus s None = None

plus-zero : (x : rust.Option ℕ) → x ≡ plus 0 x
unfolding plus
plus-zero (Some t) = ap Some (sym (zero-add t))
plus-zero None = refl

plus-plus : (s t : ℕ) (x : rust.Option ℕ) → plus s (plus t x) ≡ plus (s + t) x
unfolding plus
plus-plus s t (Some n) = ap Some (sym (add_assoc s t n))
plus-plus s t None = refl

plus-none : (s : ℕ) → None ≡ plus s None
unfolding plus
plus-none s = refl

plus-some : (s t : ℕ) → plus s (Some t) ≡ Some (s + t)
unfolding plus
plus-some s t = refl

-- a record in front
joined : (g : Form) (w h : ℕ) (r : Raw) (rs : List Raw) (a : Bool) → stray w h r ≡ a → (b : Bool) → any_stray w h rs ≡ b
    → cond (any_stray w h (r ∷ rs)) None (Some (length (raws_bytes g w (r ∷ rs)))) ≡ cond (stray w h r) None (plus (raw_length g r) (cond (any_stray w h rs) None (Some (length (raws_bytes g w rs)))))
unfolding lists.some flat_map
joined g w h r rs true p b q = rw p
joined g w h r rs false p true q = rw (p, q) (plus-none (raw_length g r))
joined g w h r rs false p false q = rw (p, q) (ap Some (length-append (raw_bytes g w r) (raws_bytes g w rs) ∙ rw (length-raw g w r)) ∙ sym (plus-some (raw_length g r) (length (raws_bytes g w rs))))

size-before : (g : Form) (w h : ℕ) (r : Raw) (o : Option (List Raw)) → size_of g w h (before r o) ≡ cond (stray w h r) None (plus (raw_length g r) (size_of g w h o))
unfolding size_of before
size-before g w h r none = by (stray w h r)
  where
    by : (b : Bool) → None ≡ cond b None (plus (raw_length g r) None)
    by true = refl
    by false = plus-none (raw_length g r)
size-before g w h r (some rs) = joined g w h r rs (stray w h r) refl (any_stray w h rs) refl

-- bytes behind the last record
left_over : (f g : Form) (w h : ℕ) (l : List ℕ) → (length l ≡ 0 → ⊥) → size_of g w h (raws_in f w 0 l) ≡ None
unfolding raws_in size_of
left_over f g w h [] e = absurd (e refl)
left_over f g w h (b ∷ l) e = refl

module _ (f g : Form) (w h : ℕ) (bytes : List ℕ) (n : ℕ) where
  pub record Measuring (at size i : ℕ) : Type 0 where
    pub left : i ≤ n
    pub inside : at ≤ length bytes
    pub most : size ≤ 2 * at
    pub says : size_of g w h (raws_in f w n bytes) ≡ plus size (size_of g w h (raws_in f w (n - i) (drop at bytes)))

  pub measuring-none : Measuring 0 0 0
  measuring-none =
      record { left = omega arith; inside = omega arith; most = omega arith; says = plus-zero (size_of g w h (raws_in f w n bytes)) ∙ rw (sub-zero n) }

  module _ (at size i : ℕ) (m : Measuring at size i) (more : i < n) where
    rest : List ℕ
    rest = drop at bytes

    one_left : n - i ≡ suc (n - (i + 1))
    one_left = omega arith

    -- what the record's measure answers
    abbrev measured : ℕ × Raw → Written
    measured t = record { length = t.0; size = raw_length g t.1 }

    left_is : raws_in f w (n - i) (drop at bytes) ≡ followed (drop at bytes) (raw_in f w (drop at bytes)) (raws_in f w (n - (i + 1)))
    unfolding raws_in
    left_is = rw one_left

    -- none is read, or a change of it is off the sheet
    none-by : (o : Option (ℕ × Raw)) → raw_in f w (drop at bytes) ≡ o → measured_raw g w h o ≡ None → size_of g w h (followed (drop at bytes) o (raws_in f w (n - (i + 1)))) ≡ None
    unfolding followed measured_raw size_of
    none-by none q e = refl
    none-by (some t) q e = size-before g w h t.1 _ ∙ by (stray w h t.1) e
      where
        by : (b : Bool) → cond b None (Some (measured t)) ≡ None → cond b None (plus (raw_length g t.1) (size_of g w h (raws_in f w (n - (i + 1)) (drop t.0 (drop at bytes))))) ≡ None
        by true e = refl
        by false e = absurd (let z : ◌≡◌ {A = ℕ} 0 1 = cc in omega arith)

    pub measuring-bad : (one : rust.Option Written) → one ≡ measured_raw g w h (raw_in f w (drop at bytes)) → one ≡ None → None ≡ size_of g w h (raws_in f w n bytes)
    measuring-bad one e u =
        sym (m.says ∙ ap (plus size) (ap (size_of g w h) left_is ∙ none-by (raw_in f w (drop at bytes)) refl (sym e ∙ u)) ∙ sym (plus-none size))

    next-by : (one : Written) (o : Option (ℕ × Raw)) → raw_in f w (drop at bytes) ≡ o → measured_raw g w h o ≡ Some one
        → (one.length ≤ length (drop at bytes)) × (one.size ≤ 2 * one.length)
        × (size_of g w h (followed (drop at bytes) o (raws_in f w (n - (i + 1)))) ≡ plus one.size (size_of g w h (raws_in f w (n - (i + 1)) (drop one.length (drop at bytes)))))
    unfolding followed measured_raw
    next-by one none q e = absurd (let z : ◌≡◌ {A = ℕ} 0 1 = cc in omega arith)
    next-by one (some t) q e = by (stray w h t.1) refl e
      where
        by : (b : Bool) → stray w h t.1 ≡ b → cond b None (Some (measured t)) ≡ Some one
            → (one.length ≤ length (drop at bytes)) × (one.size ≤ 2 * one.length)
            × (size_of g w h (before t.1 (raws_in f w (n - (i + 1)) (drop t.0 (drop at bytes)))) ≡ plus one.size (size_of g w h (raws_in f w (n - (i + 1)) (drop one.length (drop at bytes)))))
        by true s e = absurd (let z : ◌≡◌ {A = ℕ} 0 1 = cc in omega arith)
        by false s e =
            let same : ◌≡◌ {A = Written} (measured t) one = cc in
            let long : t.0 ≡ one.length = ap (λ (x : Written). x.length) same in
            let add_is : raw_length g t.1 ≡ one.size = ap (λ (x : Written). x.size) same in
            let b = bounds f g w (drop at bytes) t.0 t.1 q in
            (omega (arith, b.inside), omega (arith, b.most), rw (← long, ← add_is) (size-before g w h t.1 _ ∙ rw s))

    pub measuring-next : (answer : rust.Option Written) (one : Written) → answer ≡ measured_raw g w h (raw_in f w (drop at bytes)) → answer ≡ Some one → Measuring (at + one.length) (size + one.size) (i + 1)
    measuring-next answer one e r =
        let t = next-by one (raw_in f w (drop at bytes)) refl (sym e ∙ r) in
        let inside : one.length ≤ length bytes - at = rw length-drop at t.0 in
        record {
          left = omega arith;
          inside = omega (arith, m.inside);
          most = omega (arith, m.most, t.1);
          says =
              m.says
              ∙ ap (plus size) (ap (size_of g w h) left_is ∙ t.2)
              ∙ plus-plus size one.size _
              ∙ rw (drop-drop one.length at bytes);
        }

  module _ (at size i : ℕ) (m : Measuring at size i) (all : n ≤ i) where
    none_left : n - i ≡ 0
    none_left = omega arith

    pub measuring-all : at ≡ length bytes → Some size ≡ size_of g w h (raws_in f w n bytes)
    unfolding raws_in size_of lists.some flat_map
    measuring-all e = sym (m.says ∙ rw (none_left, e, drop-length bytes) (plus-some size 0 ∙ ap Some (omega arith)))

    pub measuring-short : (at ≡ length bytes → ⊥) → None ≡ size_of g w h (raws_in f w n bytes)
    measuring-short e = sym (m.says ∙ rw none_left (ap (plus size) (some_left (drop at bytes) (λ z. e (omega (arith, m.inside, sym (length-drop at bytes) ∙ z)))) ∙ sym (plus-none size)))
      where
        some_left : (l : List ℕ) → (length l ≡ 0 → ⊥) → size_of g w h (raws_in f w 0 l) ≡ None
        some_left l e = left_over f g w h l e
