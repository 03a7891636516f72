-- What holds at the head of the sweep's loop: at the start, from one segment to the next, and at the end.
use mathlib.Core.Path.{◌≡◌, refl, sym, ◌∙◌, ap, subst}
use mathlib.Core.Bool.{Bool, true, false}
use mathlib.Core.Option.{Option}
use mathlib.Core.List.{List, []}
use Prim.Native.Nat.{ℕ, suc, ◌+◌, ◌*◌, ◌≤◌, ◌<◌}
use native.Mathlib.Omega.{arith}
use native.Mathlib.Nat.{mul-le-mul_left}
use native.Mathlib.Numerals.{add-one}
use lib.ListN.{length}
use Rattle.entries.specs.Sets.{past_m, M}
use Rattle.entries.specs.Entries.{Value, Entry, ListOf}
use Rattle.entries.specs.Build.{pick, andb}
use Rattle.entries.proofs.Canon.{unique}
use Rattle.entries.proofs.Step.{Upto, upto_start, upto_end}
use Rattle.entries.proofs.Bounds.{prev}
use Rattle.sweeps.specs.Sweeps.{bit}
use Rattle.sweeps.specs.Cursors.{listed, items, shown, value_of, swept_of, PointsAt, SegmentAt, same_as, begins, grow, Addable, Holds, Stopped}
use Rattle.sweeps.specs.declared.Lists.{Lists}
use Rattle.sweeps.specs.declared.Words.{Words}
use Rattle.sweeps.specs.declared.Cursors.{Cursors}
use Rattle.sweeps.specs.declared.Segment.{Segment}
use Rattle.sweeps.proofs.Tables.{swept_above, result_is}
use Rattle.sweeps.proofs.Growing.{grow_and, grow_step, joins_some, length_grow, begins_one, no_longer}

pub result_lists : (ls : Lists) → ListOf (swept_of ls) (listed ls)
result_lists ls = result_is ls.plan.table ls.plan.out _ _ _

-- a value that goes on is there
less_and : (u q : Bool) → bit (andb u q) ≤ bit u
less_and true true = omega arith
less_and true false = omega arith
less_and false q = omega arith

bit_and : (u q : Bool) (n : ℕ) → (q ≡ true → 0 < n) → bit (andb u q) ≤ n
bit_and true true n h = h refl
bit_and true false n h = omega arith
bit_and false q n h = omega arith

room_made : (keep : Bool) (s n l m : ℕ) → 1 + s * pick keep l 0 ≤ m → n ≤ l → 1 + s * pick keep n 0 ≤ m
room_made true s n l m h k = omega (arith, mul-le-mul_left {m = n} {n = l} s k)
room_made false s n l m h k = h

-- the sweep stands at x: the cursors, the value right before x, the list made so far, and that it is stored
pub record Standing (ls : Lists) (keep : Bool) (x : ℕ) (at : Cursors) (was : Bool) (v : Words)
    (n : ℕ) (o : List ℕ) : Type 0 where
  pub fits : x < past_m
  pub points : PointsAt ls x at
  pub before : shown was (value_of ls.plan.out v) ≡ prev (swept_of ls) x
  pub list : List Entry
  pub upto : Upto (swept_of ls) x list
  pub size : n ≡ length list
  pub holds : Holds keep ls.plan.out n o list

pub standing_zero : (ls : Lists) (keep : Bool) (at : Cursors) (v : Words) (o : List ℕ)
    → PointsAt ls 0 at → Standing ls keep 0 at false v 0 o
standing_zero ls keep at v o h = record {
  fits = omega arith;
  points = h;
  before = refl;
  list = [];
  upto = upto_start (swept_of ls);
  size = refl;
  holds = none keep;
}
  where
    none : (t : Bool) → Holds t ls.plan.out 0 o []
    none true = refl
    none false = tt

module _ {ls : Lists} {keep : Bool} {x : ℕ} {at : Cursors} {was : Bool} {v : Words} {n : ℕ}
    {o : List ℕ} (h : Standing ls keep x at was v n o) where
  most : n ≤ length (listed ls)
  most = omega (arith, h.size, no_longer (swept_of ls) x h.list (listed ls) h.upto (result_lists ls))

  -- stopped early
  pub stopped_early : (stop : ℕ) → n ≤ stop → stop ≤ n → Stopped keep ls.plan.out stop (listed ls) n o
  stopped_early stop l m = record { size = omega (arith, most); holds = λ z. absurd (omega (arith, most)) }

  module _ {r : Segment} (g : SegmentAt ls x r) {q : Bool}
      (e : q ≡ andb r.inside (same_as (shown was (value_of ls.plan.out v)) (value_of ls.plan.out r.value))) where
    abbrev next : List Entry → List Entry
    next es = grow r.inside q es x r.last (value_of ls.plan.out r.value)

    next_upto : Upto (swept_of ls) (suc r.last) (next h.list)
    next_upto =
        rw (
          e,
          grow_and r.inside (same_as (shown was (value_of ls.plan.out v)) (value_of ls.plan.out r.value)) h.list x r.last
              (value_of ls.plan.out r.value),
          h.before,
        )
        (grow_step (swept_of ls) x h.list r.last (value_of ls.plan.out r.value) r.inside g.from_x h.upto g.same)

    next_size : length (next h.list) ≡ n + begins r.inside q
    next_size = omega (arith, h.size, length_grow r.inside q h.list x r.last (value_of ls.plan.out r.value))

    pub standing_room : (len : ℕ) → 2 ≤ ls.plan.out → ls.plan.out ≤ 4 → 1 + ls.plan.out * pick keep (length (listed ls)) 0 ≤ len → n < M
        → Addable keep ls.plan.out n r.inside q len
    standing_room len two four f w = record {
      two = two;
      four = four;
      few = w;
      from_one = rw e (bit_and r.inside _ n
          (λ z. omega (
            arith,
            h.size,
            joins_some (swept_of ls) x h.list (value_of ls.plan.out r.value) h.upto
                (ap (λ (p : Option Value). same_as p (value_of ls.plan.out r.value)) (sym h.before) ∙ z),
          )));
      goes_on = rw e (less_and r.inside _);
      room = room_made keep ls.plan.out (n + begins r.inside q) (length (listed ls)) len f
          (omega (arith, next_size, no_longer (swept_of ls) (suc r.last) (next h.list) (listed ls) next_upto (result_lists ls)));
    }

    module _ {n' : ℕ} (o' : List ℕ) (m : (n' ≡ n + begins r.inside q) × Holds keep ls.plan.out n' o' (next (items ls.plan.out n 1 o))) where
      next_holds : Holds keep ls.plan.out n' o' (next h.list)
      next_holds = go keep m.1 h.holds
        where
          go : (t : Bool) → Holds t ls.plan.out n' o' (next (items ls.plan.out n 1 o)) → Holds t ls.plan.out n o h.list
              → Holds t ls.plan.out n' o' (next h.list)
          go true y z = y ∙ ap next z
          go false y z = tt

      pub standing_next : (r.last ≡ M → ⊥) → Standing ls keep (r.last + 1) r.then r.inside r.value n' o'
      standing_next ne = record {
        fits = omega (arith, g.fits);
        points = g.points;
        before = rw add-one (sym (g.same r.last g.from_x (omega arith)));
        list = next h.list;
        upto = rw add-one next_upto;
        size = m.0 ∙ sym next_size;
        holds = next_holds;
      }

      pub stopped_end : (stop : ℕ) → n < stop → r.last ≡ M → Stopped keep ls.plan.out stop (listed ls) n' o'
      stopped_end stop l d = record {
        size = omega (arith, m.0, next_size, ap length whole, begins_one r.inside q);
        holds = λ z. subst (λ (es : List Entry). Holds keep ls.plan.out n' o' es) whole next_holds;
      }
        where
          whole : next h.list ≡ listed ls
          whole =
              unique (swept_of ls) _ _
              (upto_end (swept_of ls) (suc r.last) (next h.list) next_upto (λ y l. swept_above ls.plan.table ls.plan.out _ _ _ y (omega arith)))
              (result_lists ls)
