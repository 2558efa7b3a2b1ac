-- The indices of a source put where they land, as tools.rs lists the changes; and as a block that is written on a picture. Definitions only. Assumes nothing.
use Rattle.std.specs.Prelude.{ℕ, zero, suc, ◌+◌, ◌-◌, ◌*◌, ◌^◌, ◌<◌, ◌≤◌, min, ◌≡◌, false, ℤ, pos, ◌+ℤ◌, get_or, set}
use mathlib.Core.List.{List, [], ◌∷◌, flat_map}
use Rattle.base.specs.Ints.{far, from_zero}
use Rattle.sheet.specs.Document.{index_at}
use Rattle.std.proofs.Math.Option.{Option, none, some}
use Rattle.selection_spans.specs.declared.Span.{Span}
use Rattle.selection_spans.specs.Positions.{Position}
use Rattle.selection.specs.declared.Selection.{Selection}
use Rattle.edit.specs.Change.{Change}
use Rattle.tool_paste_model.specs.declared.Landing.{Landing}

-- the index of a list in rows of width w
abbrev pub index_in : ℕ → List ℤ → Position → ℤ
index_in w l p = get_or l (p.y * w + p.x) (pos 0)

-- ---- `if let Some(old) = doc.get_at(tx, ty) { out.push(PixelChange { x: tx as usize, y: ty as usize, old, new }) }`
unfoldable pub onto_got : ℤ → ℤ → ℤ → Option ℤ → List Change
onto_got tx ty new (some old) = record { x = from_zero tx; y = from_zero ty; old = old; new = new } ∷ []
onto_got tx ty new none = []

unfoldable pub onto : ℕ → ℕ → List ℤ → ℤ → ℤ → ℤ → List Change
onto w h l tx ty new = onto_got tx ty new (index_at w h l tx ty)

-- the indices that a source of width sw has at some positions, each put where its position lands, moved by (dx, dy), on a picture l of w by h
unfoldable pub landed : ℕ → ℕ → List ℤ → ℕ → List ℤ → ℤ → ℤ → List Position → List Change
landed w h l sw source dx dy ps = flat_map (λ p. onto w h l (pos p.x +ℤ dx) (pos p.y +ℤ dy) (index_in sw source p)) ps

-- ---- the block: n indices written from place `to` on
unfoldable pub written : (ℕ → ℤ) → ℕ → ℕ → List ℤ → List ℤ
written v to zero l = l
written v to (suc n) l = set (written v to n l) (to + n) (v n)

-- m rows of n indices, on a picture of width w, from column x and row y on
unfoldable pub block : (ℕ → ℕ → ℤ) → ℕ → ℕ → ℕ → ℕ → ℕ → List ℤ → List ℤ
block v w x y n zero l = l
block v w x y n (suc m) l = written (v m) ((y + m) * w + x) n (block v w x y n m l)

-- the indices of a source of width sw, from column x and row y on
abbrev pub source_at : List ℤ → ℕ → ℕ → ℕ → ℕ → ℕ → ℤ
source_at source sw x y j i = get_or source ((y + j) * sw + x + i) (pos 0)

-- on an axis of `side` places: those of count from start on that land on it. o is the shift, counted from -65,536 on, the least one
unfoldable pub landing : ℕ → ℕ → ℕ → ℕ → Landing
landing start count o side =
    record {
      from = start + (65536 - (start + o));
      to = start + o - 65536;
      count = min (start + o + count - 65536) side - (start + o - 65536);
    }

-- the rows that something lands on, and `other` as their start where nothing lands
pub record Lying (y : Landing) (other : ℕ) (rows : Span) : Type 0 where
  pub count : rows.count ≡ y.count
  pub start : 0 < y.count → rows.start ≡ y.to
  pub none : y.count ≡ 0 → rows.start ≡ other

-- rows that include what something lands on
pub record Includes (rows : Span) (y : Landing) : Type 0 where
  pub from : 0 < y.count → rows.start ≤ y.to
  pub upto : 0 < y.count → y.to + y.count ≤ rows.start + rows.count

-- what the rows of a block ask: numbers that do not wrap, and places that a list of a length has
pub record Rows (w x y n m places : ℕ) : Type 0 where
  pub wide : w ≤ 2 ^ 16
  pub right : x ≤ 2 ^ 18
  pub below : y + m ≤ 2 ^ 18
  pub inside : (j : ℕ) → j < m → 0 < n → (y + j) * w + x + n ≤ places

-- what a rectangle of a source that lands on a sheet of w by h asks: it is inside the source, whose width is sw, and no limit is passed
pub record Lands (w h sw : ℕ) (s : Selection) (dx dy : ℤ) (source room : ℕ) : Type 0 where
  pub wide : w ≤ 1024
  pub high : h ≤ 1024
  pub source-wide : sw ≤ 1024
  pub right : s.x + s.w ≤ sw
  pub bottom : s.y + s.h ≤ 1024
  pub below : (s.y + s.h) * sw ≤ source
  pub across : far dx ≡ false
  pub down : far dy ≡ false
  pub roomy : w * h ≤ room
