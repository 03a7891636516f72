-- Three runs make a segment, and its value.
use mathlib.Core.Path.{◌≡◌, refl, sym, ◌∙◌, ap}
use mathlib.Core.Bool.{Bool, true, false}
use mathlib.Core.Option.{none, some}
use mathlib.Core.List.{List, ◌∷◌}
use Prim.Native.Nat.{ℕ, suc, ◌+◌, ◌-◌, ◌≤◌, ◌<◌, min}
use native.Mathlib.Omega.{arith}
use lib.ListN.{length, get_or, take, drop}
use lib.Seq.{drop-cons}
use lib.Dec.{eqb}
use borrow.Author.Tests.{lt-ltb, eq-eqb, ne_eqb}
use Rattle.entries.specs.Entries.{Value}
use Rattle.entries.specs.Build.{pick, andb, same_words}
use Rattle.entries.specs.Sets.{has, past_m}
use Rattle.sweeps.specs.Sweeps.{accepts, mixed, swept, width_of}
use Rattle.sweeps.specs.declared.Cursor.{Cursor}
use Rattle.sweeps.specs.Cursors.{shown, value_of, value_behind, first_behind, Point, TurnAt, PointsAt, SegmentAt, Swept}
use Rattle.sweeps.specs.declared.Lists.{Lists}
use Rattle.sweeps.specs.declared.Words.{Words}
use Rattle.sweeps.specs.declared.Cursors.{Cursors}
use Rattle.sweeps.specs.declared.Run.{Run}
use Rattle.sweeps.specs.declared.Segment.{Segment}
use Rattle.sweeps.proofs.Runs.{point_as, in_here}

-- words as a value, by the words an item has
module _ (s : ℕ) (v : Words) (w : List ℕ) (p : ℕ) where
  pub words_two : s ≡ 2 → value_of s v ≡ take (s - 2) (drop p w)
  words_two e = rw e

  pub words_three : s ≡ 3 → p < length w → v.first ≡ get_or w p 0 → value_of s v ≡ take (s - 2) (drop p w)
  words_three e h f = rw (e, drop-cons w p 0 h, f)

  pub words_four : s ≡ 4 → p + 1 < length w → v.first ≡ get_or w p 0 → v.second ≡ get_or w (p + 1) 0 → value_of s v ≡ take (s - 2) (drop p w)
  words_four e h f g =
      let k : suc p ≡ p + 1 = omega arith in
      let d : drop p w ≡ get_or w p 0 ∷ get_or w (p + 1) 0 ∷ drop (suc (p + 1)) w =
      drop-cons w p 0 (omega arith) ∙ ap (λ (l : List ℕ). get_or w p 0 ∷ l) (ap (λ (n : ℕ). drop n w) k ∙ drop-cons w (p + 1) 0 h) in
      rw (e, d, f, g)

-- two values compared, by the words an item has
module _ (s : ℕ) (u v : Words) where
  pub same_three : s ≡ 3 → u.first ≡ v.first → true ≡ same_words (value_of s u) (value_of s v)
  same_three e f = rw (e, eq-eqb u.first v.first f)

  pub same_four : s ≡ 4 → u.first ≡ v.first → eqb u.second v.second ≡ same_words (value_of s u) (value_of s v)
  same_four e f = rw (e, eq-eqb u.first v.first f) (last (eqb u.second v.second))
    where
      last : (t : Bool) → t ≡ andb t true
      last true = refl
      last false = refl

  pub same_differ : 2 < s → (u.first ≡ v.first → ⊥) → false ≡ same_words (value_of s u) (value_of s v)
  same_differ h f = let k : s - 2 ≡ suc (s - 3) = omega arith in rw (k, ne_eqb u.first v.first f)

-- Where the table accepts and neither of the first two is inside, the third is, and has the words of the value.
module _ {ls : Lists} {x : ℕ} {kept : Bool} (at : Cursors) (g : Swept ls) (o : PointsAt ls x at)
    (e : kept ≡ accepts ls.plan.table at.a.inside at.b.inside at.c.inside) (y : kept ≡ true) (ia : at.a.inside ≡ false) (ib : at.b.inside ≡ false)
    (ne : ls.plan.out ≡ 2 → ⊥) where
  wide : ls.plan.out ≤ width_of ls.plan.a ls.plan.b ls.plan.c false false at.c.inside
  wide = rw (ia, ib) at (g.fit.wide at.a.inside at.b.inside at.c.inside (sym e ∙ y))

  -- as a table that accepts outside all makes a set
  inner : at.c.inside ≡ true
  inner = go at.c.inside refl
    where
      go : (t : Bool) → at.c.inside ≡ t → t ≡ true
      go true z = refl
      go false z = absurd (ne (let l = rw z at wide in omega (arith, g.fit.two)))

  pub reach_c : at.c.place + ls.plan.out ≤ 1 + length ls.c.now
  reach_c =
      let wide_c = rw inner at wide in
      omega (arith, in_here ls.plan.c ls.c.now x g.inputs.third (point_as true inner o.at_c))

has_shown : (b : Bool) (v : Value) → has (shown b v) ≡ b
has_shown true v = refl
has_shown false v = refl

shown_pick : (b : Bool) (v : Value) → pick b (some v) none ≡ shown b v
shown_pick true v = refl
shown_pick false v = refl

pub cursor_pick : (t : Bool) (c d : Cursor) (p e : ℕ) (b : Bool) → p ≡ pick t d.place c.place → b ≡ pick t d.inside c.inside → d.end ≡ c.end → e ≡ c.end
    → record { place = p; inside = b; end = e } ≡ pick t d c
cursor_pick true c d p e b x y v z = λ i. record { place = x i; inside = y i; end = (z ∙ sym v) i }
cursor_pick false c d p e b x y v z = λ i. record { place = x i; inside = y i; end = z i }

-- a cursor behind the segment
next_point : {s : ℕ} {w : List ℕ} {x : ℕ} {c d : Cursor} {r : Run} → TurnAt s w x c r → (h : ℕ) → x ≤ h → h ≤ r.last
    → d ≡ pick (eqb r.last h) r.then c → Point s w (h + 1) d
next_point t h l m e = rw e (t.next h l m)

module _ (ls : Lists) (x : ℕ) (at : Cursors) (i j k : Run) where
  pub segment_made : (r : Segment) → TurnAt ls.plan.a ls.a.now x at.a i × TurnAt ls.plan.b ls.b.now x at.b j × TurnAt ls.plan.c ls.c.now x at.c k
      → r.last ≡ min (min i.last j.last) k.last
      → r.inside ≡ accepts ls.plan.table at.a.inside at.b.inside at.c.inside
      → shown r.inside (take (ls.plan.out - 2) (first_behind ls at)) ≡ shown r.inside (value_of ls.plan.out r.value)
      → r.then.a ≡ pick (eqb i.last r.last) i.then at.a
      → r.then.b ≡ pick (eqb j.last r.last) j.then at.b
      → r.then.c ≡ pick (eqb k.last r.last) k.then at.c
      → SegmentAt ls x r
  unfolding swept mixed
  segment_made r t em eu ev ea eb ec =
      let h : x ≤ r.last = omega (arith, t.0.from_x, t.1.from_x, t.2.from_x) in
      record {
        from_x = h;
        fits = omega (arith, t.0.fits);
        same = λ y p q.
            rw (
              lt-ltb y past_m (omega (arith, t.0.fits)),
              t.0.same y p (omega arith),
              t.1.same y p (omega arith),
              t.2.same y p (omega arith),
              has_shown at.a.inside (value_behind ls.plan.a ls.a.now at.a.place),
              has_shown at.b.inside (value_behind ls.plan.b ls.b.now at.b.place),
              has_shown at.c.inside (value_behind ls.plan.c ls.c.now at.c.place),
              ← eu,
            )
            (shown_pick r.inside (take (ls.plan.out - 2) (first_behind ls at)) ∙ ev);
        points = record {
          at_a = next_point t.0 r.last h (omega arith) ea;
          at_b = next_point t.1 r.last h (omega arith) eb;
          at_c = next_point t.2 r.last h (omega arith) ec;
        };
      }
