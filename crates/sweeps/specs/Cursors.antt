-- What the steps of a sweep promise each other: cursors, runs, segments, and the list made so far. No public promise names these.
use Rattle.std.specs.Prelude.{◌≡◌, Bool, true, false, List, [], ◌∷◌, ◌++◌, ℕ, zero, suc, ◌+◌, ◌*◌, ◌-◌, ◌≤◌, ◌<◌, min, eqb, length, get_or, take, drop}
use Rattle.std.proofs.Math.Option.{Option, none, some}
use Rattle.entries.specs.Sets.{past_m, M}
use Rattle.entries.specs.Entries.{Value, Entry, entry, value_at, Sound}
use Rattle.entries.specs.Build.{pick, same_words}
use Rattle.blocks.specs.Blocks.{entries_of}
use Rattle.blocks.specs.Steps.{item_from}
use Rattle.sweeps.specs.Sweeps.{bit, first_of, swept, result_of, Inputs, Fit}
use Rattle.sweeps.specs.declared.Plan.{Plan}
use Rattle.sweeps.specs.declared.Lists.{Lists}
use Rattle.sweeps.specs.declared.Words.{Words}
use Rattle.sweeps.specs.declared.Cursor.{Cursor}
use Rattle.sweeps.specs.declared.Cursors.{Cursors}
use Rattle.sweeps.specs.declared.Run.{Run}
use Rattle.sweeps.specs.declared.Segment.{Segment}

-- k items of s words from place p on
abbrev pub items : ℕ → ℕ → ℕ → List ℕ → List Entry
items s zero p w = []
items s (suc k) p w = item_from s w p ∷ items s k (p + s) w

abbrev pub shown : Bool → Value → Option Value
shown true v = some v
shown false v = none

-- the value that two words carry where an item has s words
abbrev pub value_of : ℕ → Words → Value
value_of s v = take (s - 2) (v.first ∷ v.second ∷ [])

-- the value whose words stand behind place p
abbrev pub value_behind : ℕ → List ℕ → ℕ → Value
value_behind s w p = take (s - 2) (drop (p + 1) w)

-- sets from sets
abbrev pub set_plan : ℕ → Plan
set_plan t = record { table = t; a = 2; b = 2; c = 2; out = 2 }

-- judged inputs, and an output that fits them
pub record Swept (l : Lists) : Type 0 where
  pub inputs : Inputs l.plan.a l.plan.b l.plan.c l.a.now l.b.now l.c.now
  pub fit : Fit l.plan.table l.plan.out l.plan.a l.plan.b l.plan.c

abbrev pub swept_of : Lists → ℕ → Option Value
swept_of l = swept l.plan.table l.plan.out (entries_of l.plan.a l.a.now) (entries_of l.plan.b l.b.now) (entries_of l.plan.c l.c.now)

-- the items of the result
abbrev pub listed : Lists → List Entry
listed l = result_of l.plan l.a.now l.b.now l.c.now

abbrev pub cursor : ℕ → Bool → ℕ → Cursor
cursor p b e = record { place = p; inside = b; end = e }

abbrev pub turn : ℕ → Cursor → Run
turn h c = record { last = h; then = c }

abbrev pub Ahead : ℕ → List Entry → Type 0
Ahead x [] = Unit {0}
Ahead x (e ∷ es) = x ≤ e.high

-- the items from place p on are all that counts from x on
pub record Cur (s : ℕ) (w : List ℕ) (x p : ℕ) : Type 0 where
  pub left : ℕ
  pub ends : p + s * left ≡ 1 + s * get_or w 0 0
  pub sound : Sound (items s left p w)
  pub rest : (y : ℕ) → x ≤ y → value_at (entries_of s w) y ≡ value_at (items s left p w) y
  pub ahead : Ahead x (items s left p w)

-- inside: x is in the item at p; outside: it is below that item, if there is one
abbrev pub Sided : Bool → ℕ → List ℕ → ℕ → ℕ → Type 0
Sided true s w x p = (p ≡ 1 + s * get_or w 0 0 → ⊥) × (get_or w p 0 ≤ x)
Sided false s w x p = (p ≡ 1 + s * get_or w 0 0 → ⊥) → x < get_or w p 0

-- The cursor stands at x: outside at the low word of the next item or at the end of the items, inside at the item's high word.
pub record Point (s : ℕ) (w : List ℕ) (x : ℕ) (c : Cursor) : Type 0 where
  pub base : ℕ
  pub place : c.place ≡ base + bit c.inside
  pub cur : Cur s w x base
  pub side : Sided c.inside s w x base
  pub end : c.end ≡ 1 + s * get_or w 0 0

-- from x to the last number of the run the value is the cursor's, or none; behind it the cursor has turned
pub record TurnAt (s : ℕ) (w : List ℕ) (x : ℕ) (c : Cursor) (t : Run) : Type 0 where
  pub from_x : x ≤ t.last
  pub fits : t.last < past_m
  pub same : (y : ℕ) → x ≤ y → y ≤ t.last → value_at (entries_of s w) y ≡ shown c.inside (value_behind s w c.place)
  pub next : (e : ℕ) → x ≤ e → e ≤ t.last → Point s w (e + 1) (pick (eqb t.last e) t.then c)
  pub end : t.then.end ≡ c.end

-- the three cursors at x
pub record PointsAt (l : Lists) (x : ℕ) (at : Cursors) : Type 0 where
  pub at_a : Point l.plan.a l.a.now x at.a
  pub at_b : Point l.plan.b l.b.now x at.b
  pub at_c : Point l.plan.c l.c.now x at.c

-- the value of the first input that is inside
abbrev pub first_behind : Lists → Cursors → Value
first_behind l at = first_of (shown at.a.inside (value_behind l.plan.a l.a.now at.a.place))
    (shown at.b.inside (value_behind l.plan.b l.b.now at.b.place)) (shown at.c.inside (value_behind l.plan.c l.c.now at.c.place))

-- from x to the last number of the segment the sweep gives one value, or none; the cursors behind it
pub record SegmentAt (l : Lists) (x : ℕ) (s : Segment) : Type 0 where
  pub from_x : x ≤ s.last
  pub fits : s.last < past_m
  pub same : (y : ℕ) → x ≤ y → y ≤ s.last → swept_of l y ≡ shown s.inside (value_of l.plan.out s.value)
  pub points : PointsAt l (s.last + 1) s.then

-- whether a value goes on
abbrev pub same_as : Option Value → Value → Bool
same_as none v = false
same_as (some u) v = same_words u v

-- a segment with a value that does not go on begins an entry
abbrev pub begins : Bool → Bool → ℕ
begins inside join = bit inside - bit join

-- the last entry made to end at h; its value is v already
abbrev pub raise : List Entry → ℕ → Value → List Entry
raise [] h v = []
raise (l ∷ []) h v = entry l.low h v ∷ []
raise (e ∷ f ∷ es) h v = e ∷ raise (f ∷ es) h v

-- the segment x..h put behind a list
abbrev pub grow : Bool → Bool → List Entry → ℕ → ℕ → Value → List Entry
grow false j es x h v = es
grow true true es x h v = raise es h v
grow true false es x h v = es ++ entry x h v ∷ []

-- a segment can be added to n items in l words: it goes on only with a value and from an item, and where items are stored there is room
pub record Addable (keep : Bool) (s n : ℕ) (inside join : Bool) (l : ℕ) : Type 0 where
  pub two : 2 ≤ s
  pub four : s ≤ 4
  pub few : n < M
  pub from_one : bit join ≤ n
  pub goes_on : bit join ≤ bit inside
  pub room : 1 + s * pick keep (n + begins inside join) 0 ≤ l

-- the n items behind word 0 are es, where items are stored
abbrev pub Holds : Bool → ℕ → ℕ → List ℕ → List Entry → Type 0
Holds true s n o es = items s n 1 o ≡ es
Holds false s n o es = Unit {0}

-- the words below q kept, and an item laid at q, if it has room
pub record Laid (s : ℕ) (d : List ℕ) (q x h : ℕ) (v : Value) (o : List ℕ) : Type 0 where
  pub long : length o ≡ length d
  pub kept : (j : ℕ) → j < q → get_or o j 0 ≡ get_or d j 0
  pub item : q + s ≤ length d → item_from s o q ≡ entry x h v

-- item k laid with its own low end, where it goes on, or with x, where items are stored
abbrev pub Stored : Bool → ℕ → List ℕ → ℕ → Bool → ℕ → ℕ → Value → List ℕ → Type 0
Stored true s d k join x h v o = Laid s d (1 + s * k) (pick join (get_or d (1 + s * k) 0) x) h v o
Stored false s d k join x h v o = Unit {0}

-- what a sweep that stops at `stop` items answers and stores
pub record Stopped (keep : Bool) (s stop : ℕ) (es : List Entry) (r : ℕ) (o : List ℕ) : Type 0 where
  pub size : r ≡ min (length es) stop
  pub holds : length es < stop → Holds keep s r o es
