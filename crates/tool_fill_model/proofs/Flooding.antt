-- The loop that marks what is reached. Assumes nothing.
use Prim.Native.Nat.{ℕ, zero, suc, ◌+◌, ◌*◌, ◌/◌, ◌%◌, ◌≤◌, ◌<◌}
use mathlib.Core.Path.{◌≡◌, refl, sym, ap, ◌∙◌}
use mathlib.Core.Bool.{Bool, true, false}
use mathlib.Core.List.{List}
use native.Mathlib.Omega.{arith}
use native.Mathlib.Decide.{ℕ_discrete}
use lib.Dec.{eqb}
use borrow.Author.Tests.{eq-eqb, ne_eqb}
use lib.ListN.{length, get_or, replicate}
use Rattle.tool_fill_model.specs.Flood.{reached}
use Rattle.tool_fill_model.specs.Cells.{odds, Marked, Pushed, Stepped, stay, push}
use Rattle.tool_fill_model.proofs.Queue.{odds-le}
use Rattle.tool_fill_model.proofs.Reachable.{reached-closed, reached-least, start-stays}

zeros-at : (n p : ℕ) → get_or (replicate n 0) p 0 % 2 ≡ 0
zeros-at zero p = refl
zeros-at (suc n) zero = refl
zeros-at (suc n) (suc p) = zeros-at n p

zeros-odds : (n : ℕ) → odds (replicate n 0) ≡ 0
unfolding odds
zeros-odds zero = refl
zeros-odds (suc n) = omega (arith, zeros-odds n)

pub zeros-even : (n p : ℕ) → get_or (replicate n 0) p 0 % 2 ≡ 1 → ⊥
zeros-even n p e = omega (arith, zeros-at n p)

none : (b : Bool) → (b ≡ true → ⊥) → b ≡ false
none true h = absurd (h refl)
none false h = refl

module _ (n : ℕ) (near : ℕ → ℕ → ℕ) (passes : ℕ → Bool) (start : ℕ) where
  -- the neighbours of the queue's places before `head`, and those of the place at `head` on the sides before `d`, are marked
  pub record Flooding (s : List ℕ) (head tail d : ℕ) : Type 0 where
    pub low : head ≤ tail
    pub long : length s ≡ n
    pub total : odds s ≡ tail
    pub begun : Marked s start
    pub within : (i : ℕ) → i < tail → get_or s i 0 / 2 < n
    pub marked : (i : ℕ) → i < tail → Marked s (get_or s i 0 / 2)
    pub queued : (p : ℕ) → p < n → Marked s p → (i : ℕ) × (i < tail) × (get_or s i 0 / 2 ≡ p)
    pub sound : (p : ℕ) → p < n → Marked s p → reached near passes start n p ≡ true
    pub done : (i e : ℕ) → e < 4 → i < tail → i * 4 + e < head * 4 + d → passes (near (get_or s i 0 / 2) e) ≡ true → Marked s (near (get_or s i 0 / 2) e)

  -- the same with the place at `head` in a local
  pub record Siding (p : ℕ) (s : List ℕ) (head tail d : ℕ) : Type 0 where
    pub state : Flooding s head tail d
    pub place : get_or s head 0 / 2 ≡ p
    pub ahead : head < tail
    pub side : d ≤ 4

  pub tail-in : (s : List ℕ) (head tail d : ℕ) → Flooding s head tail d → tail ≤ n
  tail-in s head tail d f = let t = f.total in let l = f.long in omega (arith, odds-le s)

  module _ (first : start < n) (bounded : (p : ℕ) → passes p ≡ true → p < n)
      (back : (p d : ℕ) → p < n → d < 4 → near p d < n → (e : ℕ) × (e < 4) × (near (near p d) e ≡ p)) where
    -- one side of the place at `head`
    pub flooding-step : (s s' : List ℕ) (head tail d r : ℕ) → Flooding s head tail d → head < tail → d < 4 → length s' ≡ length s
        → Stepped (passes (near (get_or s head 0 / 2) d)) s tail (near (get_or s head 0 / 2) d) s' r → Flooding s' head r (d + 1)
    flooding-step s s' head tail d r f h k l (stay er es m) =
        let t = f.total in
        rw (er, es) (record {
          low = f.low;
          long = f.long;
          total = t;
          begun = f.begun;
          within = f.within;
          marked = f.marked;
          queued = f.queued;
          sound = f.sound;
          done = λ i e a b c o. elim (ℕ_discrete (i * 4 + e) (head * 4 + d)) [
            | yes q ↦ (let ei : i ≡ head = omega arith in let ee : e ≡ d = omega arith in rw (ei, ee) (m (rw (ei, ee) at o)))
            | no q ↦ f.done i e a b (omega arith) o
          ];
        })
    flooding-step s s' head tail d r f h k l (push er o u) =
        let t = f.total in
        let lo = f.low in
        let p : ℕ = get_or s head 0 / 2 in
        let q : ℕ = near p d in
        let lp : p < n = f.within head h in
        let lq : q < n = bounded q o in
        let keep : (i : ℕ) → i < tail → get_or s' i 0 / 2 ≡ get_or s i 0 / 2 = λ i a. u.entries i (λ e. omega arith) in
        let grow : (j : ℕ) → Marked s j → Marked s' j = λ j m. elim (ℕ_discrete j q) [ yes e ↦ rw e u.mark | no e ↦ u.marks j e ∙ m ] in
        rw er (record {
          low = omega arith;
          long = l ∙ f.long;
          total = u.total ∙ omega arith;
          begun = grow start f.begun;
          within = λ i a. elim (ℕ_discrete i tail) [ yes e ↦ rw (e, u.entry) lq | no e ↦ rw (keep i (omega arith)) (f.within i (omega arith)) ];
          marked = λ i a. elim (ℕ_discrete i tail) [ yes e ↦ rw (e, u.entry) u.mark | no e ↦ rw (keep i (omega arith)) (grow (get_or s i 0 / 2) (f.marked i (omega arith))) ];
          queued = λ j a m. elim (ℕ_discrete j q) [
            | yes e ↦ (tail, omega arith, u.entry ∙ sym e)
            | no e ↦ (let w = f.queued j a (sym (u.marks j e) ∙ m) in (w.0, omega (arith, w.1), keep w.0 w.1 ∙ w.2))
          ];
          sound = λ j a m. elim (ℕ_discrete j q) [
            | yes e ↦ rw e (reached-closed n near passes start first bounded back p d lp k o (f.sound p lp (f.marked head h)))
            | no e ↦ f.sound j a (sym (u.marks j e) ∙ m)
          ];
          done = λ i e a b c g. elim (ℕ_discrete (i * 4 + e) (head * 4 + d)) [
            | yes z ↦ (let ei : i ≡ head = omega arith in let ee : e ≡ d = omega arith in rw (ei, ee, keep head h) u.mark)
            | no z ↦ (let it : i < tail = omega arith in rw (keep i it) (grow (near (get_or s i 0 / 2) e) (f.done i e a it (omega arith) (rw (keep i it) at g))))
          ];
        })

    -- the next place
    pub flooding-next : (s : List ℕ) (head tail : ℕ) → Flooding s head tail 4 → head < tail → Flooding s (head + 1) tail 0
    flooding-next s head tail f h = record {
      low = omega arith;
      long = f.long;
      total = f.total;
      begun = f.begun;
      within = f.within;
      marked = f.marked;
      queued = f.queued;
      sound = f.sound;
      done = λ i e a b c o. f.done i e a b (omega arith) o;
    }

    -- at the end what is marked is what is reached
    pub flooding-end : (s : List ℕ) (head tail : ℕ) → Flooding s head tail 0 → tail ≤ head → (p : ℕ) → p < n → eqb (get_or s p 0 % 2) 1 ≡ reached near passes start n p
    flooding-end s head tail f h p l = elim (ℕ_discrete (get_or s p 0 % 2) 1) [
      | yes m ↦ eq-eqb (get_or s p 0 % 2) 1 m ∙ sym (f.sound p l m)
      | no m ↦ ne_eqb (get_or s p 0 % 2) 1 m ∙ sym (not-reached m)
    ]
      where
        closed : (p d : ℕ) → p < n → d < 4 → passes (near p d) ≡ true → Marked s p → Marked s (near p d)
        closed p d a b o m = let w = f.queued p a m in let g = f.done w.0 d b w.1 (omega (arith, w.1)) (rw w.2 o) in rw w.2 at g

        not-reached : (get_or s p 0 % 2 ≡ 1 → ⊥) → reached near passes start n p ≡ false
        not-reached m = none (reached near passes start n p) (λ e. m (reached-least n near passes start first bounded back (Marked s) f.begun closed n p e))

    stepped-keeps : (o : Bool) (s s' : List ℕ) (tail q r i : ℕ) → Stepped o s tail q s' r → i < tail → (get_or s' i 0 / 2 ≡ get_or s i 0 / 2) × (i < r)
    stepped-keeps o s s' tail q r i (stay er es m) h = (rw es refl, omega arith)
    stepped-keeps o s s' tail q r i (push er o' u) h = (u.entries i (λ e. omega arith), omega arith)

    pub siding-step : (p q : ℕ) (s s' : List ℕ) (head tail d r : ℕ) → Siding p s head tail d → d < 4 → q ≡ near p d → length s' ≡ length s → Stepped (passes q) s tail q s' r → Siding p s' head r (d + 1)
    siding-step p q s s' head tail d r g k e l u =
        let e' : q ≡ near (get_or s head 0 / 2) d = e ∙ ap (λ (x : ℕ). near x d) (sym g.place) in
        let a = stepped-keeps (passes q) s s' tail q r head u g.ahead in
        record {
          state = flooding-step s s' head tail d r g.state g.ahead k l (rw e' at u);
          place = a.0 ∙ g.place;
          ahead = a.1;
          side = omega arith;
        }

    pub siding-end : (p : ℕ) (s : List ℕ) (head tail d : ℕ) → Siding p s head tail d → 4 ≤ d → Flooding s (head + 1) tail 0
    siding-end p s head tail d g h = let si = g.side in let e : d ≡ 4 = omega arith in flooding-next s head tail (rw e at g.state) g.ahead

    -- the start alone
    pub flooding-start : (s : List ℕ) → Pushed (replicate n 0) 0 start s → length s ≡ n → Flooding s 0 1 0
    flooding-start s u l =
        let only : (p : ℕ) → Marked s p → p ≡ start = λ p m. elim (ℕ_discrete p start) [
          | yes e ↦ e
          | no e ↦ absurd (omega (arith, u.marks p e, zeros-at n p))
        ] in
        let zero : (i : ℕ) → i < 1 → get_or s i 0 / 2 ≡ start = λ i h. let z : i ≡ 0 = omega arith in rw z u.entry in
        record {
          low = omega arith;
          long = l;
          total = u.total ∙ omega (arith, zeros-odds n);
          begun = u.mark;
          within = λ i h. rw (zero i h) first;
          marked = λ i h. rw (zero i h) u.mark;
          queued = λ p h m. (0, omega arith, u.entry ∙ sym (only p m));
          sound = λ p h m. rw (only p m) (start-stays n near passes start first bounded back n);
          done = λ i e a b c o. absurd (omega arith);
        }
