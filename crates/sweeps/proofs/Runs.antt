-- What a cursor reads: the run at x, and where the cursor goes behind it.
use mathlib.Core.Path.{◌≡◌, refl, sym, ◌∙◌, ap, ap₂, subst}
use mathlib.Core.Bool.{Bool, true, false, not}
use mathlib.Core.Option.{some}
use mathlib.Core.List.{List, [], ◌∷◌}
use Prim.Native.Nat.{ℕ, zero, suc, ◌+◌, ◌*◌, ◌-◌, ◌%◌, ◌≤◌, ◌<◌}
use native.Mathlib.Omega.{arith}
use native.Mathlib.Decide.{ℕ_discrete}
use native.Mathlib.Nat.{mul-suc, mul-zero}
use lib.ListN.{length, get_or, take, drop}
use lib.Seq.{drop-drop}
use lib.Dec.{eqb}
use borrow.Author.Tests.{eqb-true, eqb-false, eq-eqb, ne_eqb}
use Rattle.entries.specs.Sets.{past_m, M}
use Rattle.entries.specs.Entries.{Entry, value_at, Link, Sound}
use Rattle.entries.specs.Build.{pick}
use Rattle.entries.proofs.Sides.{val_in, val_past, none_under}
use Rattle.blocks.specs.Blocks.{items_of, entries_of}
use Rattle.blocks.specs.Steps.{item_from}
use Rattle.blocks.proofs.Tests.{item_from_lem}
use Rattle.sweeps.specs.Sweeps.{bit, Input}
use Rattle.sweeps.specs.declared.Cursor.{Cursor}
use Rattle.sweeps.specs.declared.Run.{Run}
use Rattle.sweeps.specs.Cursors.{items, cursor, turn, Ahead, Cur, Sided, Point, TurnAt}

-- items by place and by what is left of the words
pub items_are : (s k p : ℕ) (w : List ℕ) → items s k p w ≡ items_of s k (drop p w)
items_are s zero p w = refl
items_are s (suc k) p w = ap₂ ◌∷◌ (sym (item_from_lem s p w)) (items_are s k (p + s) w ∙ ap (items_of s k) (sym (drop-drop s p w)))

cursor_is : (c : Cursor) (b : Bool) → c.inside ≡ b → cursor c.place b c.end ≡ c
cursor_is c b e = λ i. record { place = c.place; inside = sym e i; end = c.end }

pub point_as : {s : ℕ} {w : List ℕ} {x : ℕ} {c : Cursor} (b : Bool) → c.inside ≡ b → Point s w x c → Point s w x (cursor c.place b c.end)
point_as {s} {w} {x} {c} b e p = subst (λ (d : Cursor). Point s w x d) (sym (cursor_is c b e)) p

pub turn_as : {s : ℕ} {w : List ℕ} {x : ℕ} {c : Cursor} {t : Run} (b : Bool) → c.inside ≡ b → TurnAt s w x (cursor c.place b c.end) t → TurnAt s w x c t
turn_as {s} {w} {x} {c} {t} b e p = subst (λ (d : Cursor). TurnAt s w x d t) (cursor_is c b e) p

ahead_zero : (es : List Entry) → Ahead 0 es
ahead_zero [] = tt
ahead_zero (e ∷ es) = omega arith

ahead_link : (e : Entry) (es : List Entry) → Link e es → Sound es → Ahead (e.high + 1) es
ahead_link e [] l t = tt
ahead_link e (f ∷ es) l t = omega arith

module _ (s : ℕ) (w : List ℕ) (g : Input s w) where
  at_end : (p k : ℕ) → p + s * k ≡ 1 + s * get_or w 0 0 → p ≡ 1 + s * get_or w 0 0 → k ≡ zero
  at_end p zero e q = refl
  at_end p (suc m) e q = absurd (omega (arith, mul-suc s m, g.two))

  not_end : (p k : ℕ) → p + s * k ≡ 1 + s * get_or w 0 0 → (p ≡ 1 + s * get_or w 0 0 → ⊥) → p + s ≤ 1 + s * get_or w 0 0
  not_end p zero e q = absurd (q (omega (arith, mul-zero s)))
  not_end p (suc m) e q = omega (arith, mul-suc s m)

  -- the items stand in the words
  pub held_by : (n : ℕ) → n ≡ get_or w 0 0 → 1 + s * n ≤ length w
  held_by n e = rw e g.held

  cur_zero : Cur s w 0 1
  cur_zero = record {
    left = get_or w 0 0;
    ends = refl;
    sound = rw (items_are s (get_or w 0 0) 1 w) g.sound;
    rest = λ y h. ap (λ (l : List Entry). value_at l y) (sym (items_are s (get_or w 0 0) 1 w));
    ahead = ahead_zero (items s (get_or w 0 0) 1 w);
  }

  -- the cursor at 0
  module _ (n e : ℕ) (en : n ≡ get_or w 0 0) (ee : e ≡ 1 + s * n) where
    end_is : e ≡ 1 + s * get_or w 0 0
    end_is = ee ∙ ap (λ (k : ℕ). 1 + s * k) en

    pub start_none : n ≡ 0 → Point s w 0 (cursor 1 false e)
    start_none z = record {
      base = 1;
      place = refl;
      cur = cur_zero;
      end = end_is;
      side = λ m. absurd (m (let k : get_or w 0 0 ≡ 0 = sym en ∙ z in ap (λ (i : ℕ). 1 + i) (sym (mul-zero s) ∙ ap (λ (i : ℕ). s * i) (sym k))));
    }

    pub start_in_lem : (n ≡ 0 → ⊥) → get_or w 1 0 ≡ 0 → Point s w 0 (cursor 2 true e)
    start_in_lem z h = record {
      base = 1;
      place = refl;
      cur = cur_zero;
      end = end_is;
      side = (λ m. z (at_end 1 n (ap (λ (k : ℕ). 1 + s * k) en) m), omega arith);
    }

    pub start_out : (get_or w 1 0 ≡ 0 → ⊥) → Point s w 0 (cursor 1 false e)
    start_out h = record { base = 1; place = refl; cur = cur_zero; end = end_is; side = λ m. omega arith }

module _ (s : ℕ) (w : List ℕ) (x p : ℕ) (g : Input s w) where
  stay : (c : Cur s w x p) (e : ℕ) → x ≤ e → Ahead (e + 1) (items s c.left p w) → Cur s w (e + 1) p
  stay c e h a = record { left = c.left; ends = c.ends; sound = c.sound; rest = λ y l. c.rest y (omega arith); ahead = a }

  pub here : Cur s w x p → (p ≡ 1 + s * get_or w 0 0 → ⊥) → p + s ≤ length w
  here c q = omega (arith, g.held, not_end s w g p c.left c.ends q)

  -- an item stands at p
  record Front : Type 0 where
    pub more : ℕ
    pub ends : p + s * suc more ≡ 1 + s * get_or w 0 0
    pub sound : Sound (items s (suc more) p w)
    pub rest : (y : ℕ) → x ≤ y → value_at (entries_of s w) y ≡ value_at (items s (suc more) p w) y
    pub ahead : x ≤ get_or w (p + 1) 0

  front : (k : ℕ) → p + s * k ≡ 1 + s * get_or w 0 0 → Sound (items s k p w) → ((y : ℕ) → x ≤ y → value_at (entries_of s w) y ≡ value_at (items s k p w) y)
      → Ahead x (items s k p w) → (p ≡ 1 + s * get_or w 0 0 → ⊥) → Front
  front zero e t r a q = absurd (q (omega (arith, mul-zero s)))
  front (suc m) e t r a q = record { more = m; ends = e; sound = t; rest = r; ahead = a }

  abbrev back : Front → Cur s w x p
  back f = record { left = suc f.more; ends = f.ends; sound = f.sound; rest = f.rest; ahead = f.ahead }

  -- behind the item
  pass : (f : Front) (e : ℕ) → get_or w (p + 1) 0 ≡ e → Cur s w (e + 1) (p + s)
  pass f e q = record {
    left = f.more;
    ends = omega (arith, f.ends, mul-suc s f.more);
    sound = f.sound.2;
    rest = λ y h. f.rest y (omega (arith, f.ahead)) ∙ val_past (item_from s w p) (items s f.more (p + s) w) y (omega arith);
    ahead = rw q at (ahead_link (item_from s w p) (items s f.more (p + s) w) f.sound.1 f.sound.2);
  }

  front_of : Cur s w x p → (p ≡ 1 + s * get_or w 0 0 → ⊥) → Front
  front_of c q = front c.left c.ends c.sound c.rest c.ahead q

module _ (s : ℕ) (w : List ℕ) (x : ℕ) (g : Input s w) where
  -- outside: the cursor's place is the base
  module _ {p end : ℕ} (o : Point s w x (cursor p false end)) where
    base_is : o.base ≡ p
    base_is = omega (arith, o.place)

    out_cur : Cur s w x p
    out_cur = subst (λ (b : ℕ). Cur s w x b) base_is o.cur

    side_of : (p ≡ 1 + s * get_or w 0 0 → ⊥) → x < get_or w p 0
    side_of = subst (λ (b : ℕ). (b ≡ 1 + s * get_or w 0 0 → ⊥) → x < get_or w b 0) base_is o.side

    pub turn_none : p ≡ end → x < past_m → TurnAt s w x (cursor p false end) (turn M (cursor p false end))
    turn_none q f = record {
      from_x = omega arith;
      fits = omega arith;
      same = λ y h l. out_cur.rest y h ∙ ap (λ (k : ℕ). value_at (items s k p w) y) z;
      next = λ e h l. go e h (eqb M e);
      end = refl;
    }
      where
        at : p ≡ 1 + s * get_or w 0 0
        at = q ∙ o.end

        z : out_cur.left ≡ zero
        z = at_end s w g p out_cur.left out_cur.ends at

        still : (e : ℕ) → x ≤ e → Point s w (e + 1) (cursor p false end)
        still e h = record { base = p; place = omega arith; cur = stay s w x p g out_cur e h (rw z tt); side = λ n. absurd (n at); end = o.end }

        go : (e : ℕ) → x ≤ e → (t : Bool) → Point s w (e + 1) (pick t (cursor p false end) (cursor p false end))
        go e h true = still e h
        go e h false = still e h

    module _ (ne : p ≡ end → ⊥) where
      not_at : p ≡ 1 + s * get_or w 0 0 → ⊥
      not_at q = ne (q ∙ sym o.end)

      pub out_side : x < get_or w p 0
      out_side = side_of not_at

      pub turn_out : (l : ℕ) → l ≡ get_or w p 0 → TurnAt s w x (cursor p false end) (turn (l - 1) (cursor (p + 1) true end))
      turn_out l i = rw i (record {
        from_x = omega (arith, out_side);
        fits = omega (arith, g.words p);
        same = λ y h k. f.rest y h ∙ none_under (item_from s w p) (items s f.more (p + s) w) f.sound y (omega (arith, out_side));
        next = λ e h k. go e h k (eqb (get_or w p 0 - 1) e) refl;
        end = refl;
      })
        where
          f : Front s w x p g
          f = front_of s w x p g out_cur not_at

          go : (e : ℕ) → x ≤ e → e ≤ get_or w p 0 - 1 → (t : Bool) → eqb (get_or w p 0 - 1) e ≡ t
              → Point s w (e + 1) (pick t (cursor (p + 1) true end) (cursor p false end))
          go e h k true q = record {
            base = p;
            place = refl;
            end = o.end;
            cur = stay s w x p g (back s w x p g f) e h (omega (arith, out_side, f.sound.0));
            side = (not_at, omega (arith, eqb-true (get_or w p 0 - 1) e q));
          }
          go e h k false q = record {
            base = p;
            place = omega arith;
            end = o.end;
            cur = stay s w x p g (back s w x p g f) e h (omega (arith, out_side, f.sound.0));
            side = λ m. omega (arith, out_side, eqb-false (get_or w p 0 - 1) e q);
          }

  -- inside: the base is the place before
  module _ (b end : ℕ) (c : Cur s w x b) (n : b ≡ 1 + s * get_or w 0 0 → ⊥) (low : get_or w b 0 ≤ x) (ee : end ≡ 1 + s * get_or w 0 0) where
    f : Front s w x b g
    f = front_of s w x b g c n

    -- the next item begins past this one
    later : (b + s ≡ 1 + s * get_or w 0 0 → ⊥) → get_or w (b + 1) 0 < get_or w (b + s) 0
    later m = go f.more f.ends f.sound
      where
        go : (k : ℕ) → b + s * suc k ≡ 1 + s * get_or w 0 0 → Sound (items s (suc k) b w) → get_or w (b + 1) 0 < get_or w (b + s) 0
        go zero e t = absurd (m (omega (arith, mul-suc s zero, mul-zero s)))
        go (suc k) e t = t.1.0

    -- and in a set not right behind it
    later_apart : s ≡ 2 → (b + s ≡ 1 + s * get_or w 0 0 → ⊥) → get_or w (b + s) 0 ≡ suc (get_or w (b + 1) 0) → ⊥
    later_apart z m d = go f.more f.ends f.sound
      where
        go : (k : ℕ) → b + s * suc k ≡ 1 + s * get_or w 0 0 → Sound (items s (suc k) b w) → ⊥
        go zero e t = m (omega (arith, mul-suc s zero, mul-zero s))
        go (suc k) e t = t.1.1 d (rw z)

    later_here : (b + s ≡ 1 + s * get_or w 0 0 → ⊥) → b + s + s ≤ length w
    later_here m = here s w (get_or w (b + 1) 0 + 1) (b + s) g (pass s w x b g f (get_or w (b + 1) 0) refl) m

    turn_in : (q : ℕ) (then : Bool) → q ≡ b + s + bit then → Sided then s w (get_or w (b + 1) 0 + 1) (b + s)
        → TurnAt s w x (cursor (b + 1) true end) (turn (get_or w (b + 1) 0) (cursor q then end))
    turn_in q then k d = record {
      from_x = f.ahead;
      fits = g.words (b + 1);
      same =
          λ y h l. f.rest y h ∙ val_in (item_from s w b) (items s f.more (b + s) w) y (omega arith) l
          ∙ ap (λ (i : ℕ). some (take (s - 2) (drop i w))) two;
      next = λ e h l. go e h l (eqb (get_or w (b + 1) 0) e) refl;
      end = refl;
    }
      where
        two : b + 2 ≡ b + 1 + 1
        two = omega arith

        go : (e : ℕ) → x ≤ e → e ≤ get_or w (b + 1) 0 → (t : Bool) → eqb (get_or w (b + 1) 0) e ≡ t
            → Point s w (e + 1) (pick t (cursor q then end) (cursor (b + 1) true end))
        go e h l true z =
            let y = eqb-true (get_or w (b + 1) 0) e z in
            record { base = b + s; place = k; cur = pass s w x b g f e y; side = subst (λ (m : ℕ). Sided then s w (m + 1) (b + s)) y d; end = ee }
        go e h l false z = record {
          base = b;
          place = refl;
          end = ee;
          cur = stay s w x b g (back s w x b g f) e h (omega (arith, eqb-false (get_or w (b + 1) 0) e z));
          side = (n, omega arith);
        }

  module _ {p end : ℕ} (o : Point s w x (cursor p true end)) where
    -- the item's words
    pub in_here : p + s ≤ 1 + length w
    in_here = omega (arith, o.place, here s w x o.base g o.cur o.side.0)

    pub in_not_end : p ≡ end → ⊥
    in_not_end e = let k = not_end s w g o.base o.cur.left o.cur.ends o.side.0 in omega (arith, o.place, o.end, g.two)

    module _ (h q : ℕ) (eh : h ≡ get_or w p 0) (eq : q ≡ p + (s - 1)) where
      high_is : get_or w (o.base + 1) 0 ≡ h
      high_is = ap (λ (i : ℕ). get_or w i 0) (sym o.place) ∙ sym eh

      next_is : o.base + s ≡ q
      next_is = omega (arith, o.place, g.two)

      turned : (r : ℕ) (then : Bool) → r ≡ q + bit then → Sided then s w (h + 1) q → TurnAt s w x (cursor p true end) (turn h (cursor r then end))
      turned r then k d =
          subst (λ (i : ℕ). TurnAt s w x (cursor i true end) (turn h (cursor r then end))) (sym o.place)
          (subst (λ (i : ℕ). TurnAt s w x (cursor (o.base + 1) true end) (turn i (cursor r then end))) high_is
          (turn_in o.base end o.cur o.side.0 o.side.1 o.end r then (omega (arith, next_is))
          (subst (λ (i : ℕ). Sided then s w (i + 1) (o.base + s)) (sym high_is) (subst (λ (i : ℕ). Sided then s w (h + 1) i) (sym next_is) d))))

      pub leave_last : q ≡ end → TurnAt s w x (cursor p true end) (turn h (cursor q false end))
      leave_last z = turned q false (omega arith) (λ m. absurd (m (z ∙ o.end)))

      module _ (ne : q ≡ end → ⊥) where
        not_last : o.base + s ≡ 1 + s * get_or w 0 0 → ⊥
        not_last m = ne (sym next_is ∙ m ∙ sym o.end)

        pub next_later : h < get_or w q 0
        next_later = omega (arith, later o.base end o.cur o.side.0 o.side.1 o.end not_last, high_is, ap (λ (i : ℕ). get_or w i 0) next_is)

        pub next_here : q + s ≤ length w
        next_here = omega (arith, later_here o.base end o.cur o.side.0 o.side.1 o.end not_last, next_is)

        pub leave_touching : (l : ℕ) → l ≡ get_or w q 0 → l - h ≡ 1 → TurnAt s w x (cursor p true end) (turn h (cursor (q + 1) true end))
        leave_touching l el z = turned (q + 1) true refl (λ m. ne (m ∙ sym o.end), omega (arith, next_later))

        pub leave_apart : (l : ℕ) → l ≡ get_or w q 0 → (l - h ≡ 1 → ⊥) → TurnAt s w x (cursor p true end) (turn h (cursor q false end))
        leave_apart l el z = turned q false (omega arith) (λ m. omega (arith, next_later))

      -- in a set
      pub leave_set : s ≡ 2 → TurnAt s w x (cursor p true end) (turn h (cursor q false end))
      leave_set z = go (ℕ_discrete q end)
        where
          go : Dec (q ≡ end) → TurnAt s w x (cursor p true end) (turn h (cursor q false end))
          go (yes e) = leave_last e
          go (no n) =
              leave_apart n (get_or w q 0) refl
              (λ e. later_apart o.base end o.cur o.side.0 o.side.1 o.end z (not_last n)
              (ap (λ (i : ℕ). get_or w i 0) next_is ∙ omega (arith, next_later n) ∙ ap suc (sym high_is)))

  -- at the end, whatever the cursor says of itself
  pub turn_end : {c : Cursor} → Point s w x c → c.place ≡ c.end → x < past_m → TurnAt s w x c (turn M c)
  turn_end {c} o e f = go c.inside refl
    where
      go : (t : Bool) → c.inside ≡ t → TurnAt s w x c (turn M c)
      go true z = absurd (in_not_end (point_as true z o) e)
      go false z = subst (λ (d : Cursor). TurnAt s w x d (turn M d)) (cursor_is c false z) (turn_none (point_as false z o) e f)

  -- outside, before the end: the run goes up to the next item
  pub turn_low : {c : Cursor} → Point s w x c → c.inside ≡ false → (c.place ≡ c.end → ⊥) → (l : ℕ) → l ≡ get_or w c.place 0
      → TurnAt s w x c (turn (l - 1) (cursor (c.place + 1) true c.end))
  turn_low {c} o e n l i = turn_as false e (turn_out (point_as false e o) n l i)

  -- in a set, before the end: the word found is the run's last number, or the first behind it
  pub turn_set : {c : Cursor} → Point s w x c → s ≡ 2 → (c.place ≡ c.end → ⊥) → (h : ℕ) → h ≡ get_or w c.place 0 → (f : ℕ) → f ≡ bit (not c.inside)
      → TurnAt s w x c (turn (h - f) (cursor (c.place + 1) (not c.inside) c.end))
  turn_set {c} o z n h eh f ef = rw ef (go c.inside refl)
    where
      go : (t : Bool) → c.inside ≡ t → TurnAt s w x c (turn (h - bit (not t)) (cursor (c.place + 1) (not t) c.end))
      go true e =
          let k : h - 0 ≡ h = omega arith in
          turn_as true e (rw k (leave_set (point_as true e o) h (c.place + 1) eh (omega arith) z))
      go false e = turn_low o e n h eh

-- in a set, the place of a cursor says its side
pub by_place : {s : ℕ} {w : List ℕ} {x : ℕ} {c : Cursor} → Point s w x c → s ≡ 2 → eqb (c.place % 2) 0 ≡ c.inside
by_place {s} {w} {x} {c} o z = go c.inside o.place (rw z at o.cur.ends)
  where
    go : (t : Bool) → c.place ≡ o.base + bit t → o.base + 2 * o.cur.left ≡ 1 + 2 * get_or w 0 0 → eqb (c.place % 2) 0 ≡ t
    go true e f = eq-eqb (c.place % 2) 0 (omega arith)
    go false e f = ne_eqb (c.place % 2) 0 (λ (h : c.place % 2 ≡ 0). omega arith)
