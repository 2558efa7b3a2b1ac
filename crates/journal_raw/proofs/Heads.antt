-- What a record's kind, count and marks say that it holds goes by its kind, its head and the changes behind the head alone: so it is the same in both forms.
-- Assumes nothing.
use Prim.Native.Nat.{ℕ, zero, suc, ◌+◌, ◌*◌, ◌≤◌}
use mathlib.Core.Path.{◌≡◌, refl, sym, ◌∙◌, subst}
use mathlib.Core.Logic.{◌⊎◌, inl, inr}
use mathlib.Core.Bool.{Bool, true, false, cond, ◌&&◌}
use mathlib.Core.List.{List}
use mathlib.Core.Option.{Option, none, some, some-injective}
use native.Mathlib.Nat.{mul-zero}
use native.Mathlib.Omega.{arith}
use borrow.Author.Tests.{eqb-true}
use lib.Dec.{leb, eqb}
use lib.ListN.{length, get_or, take, drop}
use Rattle.base.specs.declared.Form.{Form}
use Rattle.base.specs.declared.Form.TheVariants.{Coordinates}
use Rattle.base.specs.declared.Edit.{Edit}
use Rattle.base.specs.declared.Edit.TheVariants.{Pixels, PaletteSet, PaletteAdd, PaletteRemove}
use Rattle.edit.specs.Change.{Change}
use Rattle.journal_record.specs.Bytes.{le_at}
use Rattle.journal_record.specs.Record.{stride, pixels_kind, remove_kind, record_length, rgb_in, lab_in, is_mark, lock_in, changes_in, by_kind, contents}
use Rattle.journal_record.specs.Found.{kind_of}
use Rattle.journal_record.proofs.Parts.{byte-part, le_at-part, rgb-part, lab-part}
use Rattle.journal_record.proofs.ByKind.{kind-pixels, kind-set, kind-add, kind-remove, kind-lock}
use Rattle.journal_raw.specs.Raw.{head_length, kind_byte}

abbrev pub Pair : Type 0
Pair = Option (Edit × List Change)

-- how many changes there are
unfoldable pub count_in : ℕ → List ℕ → ℕ
count_in kind head = by_kind Coordinates kind (le_at 4 head 1) 0 0 (le_at 4 head 28) 0 0

-- `contents` of a record with this kind and head, and these changes behind it
unfoldable pub held : ℕ → List ℕ → List Change → Pair
held kind head cs =
    by_kind Coordinates kind
    (cond (leb 1 (le_at 4 head 1)) (some (Pixels (get_or head 0 0), cs)) none)
    (some (PaletteSet (get_or head 0 0) (rgb_in head 1) (rgb_in head 4) (lab_in head 7), cs))
    (some (PaletteAdd (rgb_in head 0), cs))
    (some (PaletteRemove (get_or head 0 0) (rgb_in head 1) (lab_in head 4), cs))
    (cond (is_mark (get_or head 1 0) && is_mark (get_or head 2 0)) (some (lock_in head 0, cs)) none)
    none

abbrev pub pair : Edit → List Change → Pair
pair e cs = some (e, cs)

-- ---- a first byte is that of one of the five kinds, or of none
pub record Known (f : Form) (b : ℕ) : Type 0 where
  pub kind : ℕ
  pub least : 1 ≤ kind
  pub most : kind ≤ 5
  pub byte-is : b ≡ kind_byte f kind

abbrev Unknown : Form → ℕ → Type 0
Unknown f b = (pixels set add remove lock other : Pair) → by_kind f b pixels set add remove lock other ≡ other

known : (f : Form) (b : ℕ) → Known f b ⊎ Unknown f b
unfolding kind_byte by_kind
known f b = go (eqb b (pixels_kind f)) refl (eqb b 2) refl (eqb b 3) refl (eqb b (remove_kind f)) refl (eqb b 5) refl
  where
    is : (kind : ℕ) → 1 ≤ kind → kind ≤ 5 → eqb b (kind_byte f kind) ≡ true → Known f b ⊎ Unknown f b
    is kind l m t = inl (record { kind = kind; least = l; most = m; byte-is = eqb-true b (kind_byte f kind) t })

    go : (t₁ : Bool) → eqb b (pixels_kind f) ≡ t₁ → (t₂ : Bool) → eqb b 2 ≡ t₂ → (t₃ : Bool) → eqb b 3 ≡ t₃ → (t₄ : Bool) → eqb b (remove_kind f) ≡ t₄ → (t₅ : Bool) → eqb b 5 ≡ t₅
        → Known f b ⊎ Unknown f b
    go true q₁ t₂ q₂ t₃ q₃ t₄ q₄ t₅ q₅ = is 1 (omega arith) (omega arith) q₁
    go false q₁ true q₂ t₃ q₃ t₄ q₄ t₅ q₅ = is 2 (omega arith) (omega arith) q₂
    go false q₁ false q₂ true q₃ t₄ q₄ t₅ q₅ = is 3 (omega arith) (omega arith) q₃
    go false q₁ false q₂ false q₃ true q₄ t₅ q₅ = is 4 (omega arith) (omega arith) q₄
    go false q₁ false q₂ false q₃ false q₄ true q₅ = is 5 (omega arith) (omega arith) q₅
    go false q₁ false q₂ false q₃ false q₄ false q₅ = inr (λ pixels set add remove lock other. rw (q₁, q₂, q₃, q₄, q₅))

module _ (f : Form) (w : ℕ) (bytes : List ℕ) where
  abbrev pub head_of : ℕ → List ℕ
  head_of kind = take (head_length kind) (drop 1 bytes)

  abbrev pub list_of : ℕ → List Change
  list_of kind = changes_in f w bytes (1 + head_length kind) (count_in kind (head_of kind))

  pub by-kind : (kind : ℕ) → 1 ≤ kind → kind ≤ 5 → get_or bytes 0 0 ≡ kind_byte f kind → contents f w bytes ≡ held kind (head_of kind) (list_of kind)
  unfolding contents by_kind held count_in head_length changes_in kind_byte
  by-kind zero l m e = absurd (omega arith)
  by-kind (suc zero) l m e = rw (e, kind-pixels, le_at-part bytes 1 5 4 1 (omega arith), byte-part bytes 1 5 0 (omega arith))
  by-kind (suc (suc zero)) l m e =
      rw (e, kind-set, byte-part bytes 1 31 0 (omega arith), rgb-part bytes 1 31 1 (omega arith), rgb-part bytes 1 31 4 (omega arith), lab-part bytes 1 31 7 (omega arith))
  by-kind (suc (suc (suc zero))) l m e = rw (e, kind-add, rgb-part bytes 1 3 0 (omega arith))
  by-kind (suc (suc (suc (suc zero)))) l m e =
      rw (e, kind-remove, le_at-part bytes 1 32 4 28 (omega arith), byte-part bytes 1 32 0 (omega arith), rgb-part bytes 1 32 1 (omega arith), lab-part bytes 1 32 4 (omega arith))
  by-kind (suc (suc (suc (suc (suc zero))))) l m e = rw (e, kind-lock, byte-part bytes 1 3 0 (omega arith), byte-part bytes 1 3 1 (omega arith), byte-part bytes 1 3 2 (omega arith))
  by-kind (suc (suc (suc (suc (suc (suc k)))))) l m e = absurd (omega arith)

  -- ---- what was read: its kind is the first byte's, its changes are those behind the head, and these and the head are all but kind and length
  pub record Told (kind : ℕ) (e : Edit) (cs : List Change) : Type 0 where
    pub kind-is : kind_of e ≡ kind
    pub changes-are : cs ≡ list_of kind
    pub length-is : (g : Form) → record_length g e (length cs) ≡ 1 + head_length kind + stride g * length cs + 4
    pub byte-is : get_or bytes 0 0 ≡ kind_byte f kind
    pub least : 1 ≤ kind
    pub most : kind ≤ 5

  module _ (e : Edit) (cs : List Change) where
    never : {X : Type 0} → none ≡ pair e cs → X
    never p = absurd (let z : ◌≡◌ {A = ℕ} 0 1 = cc in omega arith)

    this : (kind : ℕ) (e' : Edit) (cs' : List Change) → pair e' cs' ≡ pair e cs → Told kind e' cs' → Told kind e cs
    this kind e' cs' p t = subst (λ (x : Edit × List Change). Told kind x.0 x.1) (some-injective (e', cs') (e, cs) p) t

    this-where : (kind : ℕ) (b : Bool) (e' : Edit) (cs' : List Change) → cond b (pair e' cs') none ≡ pair e cs → Told kind e' cs' → Told kind e cs
    this-where kind true e' cs' p t = this kind e' cs' p t
    this-where kind false e' cs' p t = never p

    told-by : (kind : ℕ) → 1 ≤ kind → kind ≤ 5 → get_or bytes 0 0 ≡ kind_byte f kind → held kind (head_of kind) (list_of kind) ≡ pair e cs → Told kind e cs
    unfolding held by_kind head_length count_in changes_in record_length kind_of
    told-by zero l m b p = absurd (omega arith)
    told-by (suc zero) l m b p =
        this-where 1 (leb 1 (le_at 4 (head_of 1) 1)) (Pixels (get_or (head_of 1) 0 0)) (list_of 1) p
        (record { kind-is = refl; changes-are = refl; length-is = λ g. omega arith; byte-is = b; least = l; most = m })
    told-by (suc (suc zero)) l m b p =
        this 2 _ _ p (record { kind-is = refl; changes-are = refl; length-is = λ g. omega (arith, mul-zero (stride g)); byte-is = b; least = l; most = m })
    told-by (suc (suc (suc zero))) l m b p =
        this 3 _ _ p (record { kind-is = refl; changes-are = refl; length-is = λ g. omega (arith, mul-zero (stride g)); byte-is = b; least = l; most = m })
    told-by (suc (suc (suc (suc zero)))) l m b p =
        this 4 _ _ p (record { kind-is = refl; changes-are = refl; length-is = λ g. omega arith; byte-is = b; least = l; most = m })
    told-by (suc (suc (suc (suc (suc zero))))) l m b p =
        this-where 5 (is_mark (get_or (head_of 5) 1 0) && is_mark (get_or (head_of 5) 2 0)) (lock_in (head_of 5) 0) (list_of 5) p
        (record { kind-is = refl; changes-are = refl; length-is = λ g. omega (arith, mul-zero (stride g)); byte-is = b; least = l; most = m })
    told-by (suc (suc (suc (suc (suc (suc k)))))) l m b p = absurd (omega arith)

    -- its kind is that of the edit
    at-edit : (kind : ℕ) → Told kind e cs → Told (kind_of e) e cs
    at-edit kind t = subst (λ (k : ℕ). Told k e cs) (sym t.kind-is) t

    pub told : contents f w bytes ≡ pair e cs → Told (kind_of e) e cs
    unfolding contents
    told p = by (known f (get_or bytes 0 0))
      where
        by : Known f (get_or bytes 0 0) ⊎ Unknown f (get_or bytes 0 0) → Told (kind_of e) e cs
        by (inl k) = at-edit k.kind (told-by k.kind k.least k.most k.byte-is (sym (by-kind k.kind k.least k.most k.byte-is) ∙ p))
        by (inr un) = never (sym (un _ _ _ _ _ _) ∙ p)
