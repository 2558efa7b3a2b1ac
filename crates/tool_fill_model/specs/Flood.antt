-- `flood_fill` of tools.rs: document 01, "Flood: all 4-neighbours reachable through the target index inside the selection". Definitions only. Assumes nothing.
use Rattle.std.specs.Prelude.{ℕ, zero, suc, ◌+◌, ◌-◌, ◌/◌, ◌%◌, ◌<◌, ◌≡◌, Bool, true, cond, ◌&&◌, ◌||◌, List, map, ltb, eqb, ℤ, pos, length, get_or}
use Rattle.base.specs.Lists.{range, kept}
use Rattle.base.specs.Ints.{eq_z}
use Rattle.selection.specs.declared.Selection.{Selection}
use Rattle.selection.specs.Selection.{contains}
use Rattle.edit.specs.Change.{Change}

-- "4-neighbours": those of place p, of n places in rows of w: left, right, above, below; n where there is none
unfoldable pub neighbour : ℕ → ℕ → ℕ → ℕ → ℕ
neighbour w n p d =
    cond (eqb d 0) (cond (eqb (p % w) 0) n (p - 1))
    (cond (eqb d 1) (cond (eqb (p % w + 1) w) n (p + 1))
    (cond (eqb d 2) (cond (ltb p w) n (p - w))
    (cond (ltb (p + w) n) (p + w) n)))

-- "through the target index inside the selection": a place of the picture l that has the index at start
unfoldable pub passable : ℕ → List ℤ → Selection → ℕ → ℕ → Bool
passable w l region start p = ltb p (length l) && (contains region (p % w) (p / w) && eq_z (get_or l p (pos 0)) (get_or l start (pos 0)))

-- "reachable": start, and what passes beside what is reachable
pub data Reachable (near : ℕ → ℕ → ℕ) (passes : ℕ → Bool) (start : ℕ) : ℕ → Type 0 where
  here : Reachable near passes start start
  beside : (p d : ℕ) → Reachable near passes start p → d < 4 → passes (near p d) ≡ true → Reachable near passes start (near p d)

-- the same counted: whether p is reached in at most k steps
unfoldable pub reached : (ℕ → ℕ → ℕ) → (ℕ → Bool) → ℕ → ℕ → ℕ → Bool
reached near passes start zero p = eqb p start
reached near passes start (suc k) p =
    reached near passes start k p
    || (passes p && (reached near passes start k (near p 0) || (reached near passes start k (near p 1)
    || (reached near passes start k (near p 2) || reached near passes start k (near p 3)))))

-- in as many steps as there are places
unfoldable pub flooded : ℕ → List ℤ → Selection → ℕ → ℕ → Bool
flooded w l region start p = reached (neighbour w (length l)) (passable w l region start) start (length l) p

-- place p from one index to another: `PixelChange { x, y, old: target, new: index }`
unfoldable pub change_at : ℕ → ℤ → ℤ → ℕ → Change
change_at w old new p = record { x = p % w; y = p / w; old = old; new = new }

-- the changes of the places reached, row by row, from the target index to the one given
unfoldable pub flood_of : ℕ → List ℤ → Selection → ℕ → ℤ → List Change
flood_of w l region start index = map (change_at w (get_or l start (pos 0)) index) (kept (flooded w l region start) (range 0 (length l)))
