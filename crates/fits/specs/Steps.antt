-- What the steps of the code promise each other. No public promise names these.
use Rattle.std.specs.Prelude.{◌≡◌, Bool, false, List, [], ◌∷◌, ℕ, suc, ◌+◌, ◌-◌, ◌≤◌, ◌<◌, ltb, leb, length}
use Rattle.std.specs.Prelude.{Option as Held, Some, None}
use Rattle.std.proofs.Math.Option.{Option, none, some}
use Rattle.entries.specs.Entries.{Entry, entry}
use Rattle.entries.specs.Build.{pick}
use Rattle.entries.specs.Sets.{M}
use Rattle.answers.specs.Answers.{Outcome, in_turn}
use Rattle.blocks.specs.Blocks.{SoundBlock, set_layout}
use Rattle.blocks.specs.Calls.{room}
use Rattle.fits.specs.Calls.{last_power, reserved_at, reserved_with}
use Rattle.fits.specs.declared.gap.Gap.{Gap}
use Rattle.fits.specs.declared.Choice.{Choice}
use Rattle.fits.specs.declared.Choice.TheVariants.{First, Shortest}
use Rattle.fits.specs.Fits.{aligned, fits, shorter, first_gap, shortest_gap}

-- first fit, or best fit where the shortest gap is wanted
abbrev pub chooser : Choice → List Entry → Option Entry
chooser First = first_gap
chooser Shortest = shortest_gap

-- the length less one of a gap that no later gap can beat
abbrev pub enough_for : Choice → ℕ → ℕ
enough_for First k = M
enough_for Shortest k = k - 1

-- the gap that is held, if one is
abbrev pub gap_of : Held Gap → Option Entry
gap_of (Some g) = some (entry g.low g.high [])
gap_of None = none

abbrev pub held_in : Held Gap → List Entry
held_in (Some g) = entry g.low g.high [] ∷ []
held_in None = []

-- whether one is held that has at most less + 1 numbers
abbrev pub short : ℕ → Held Gap → Bool
short less (Some g) = leb (g.high - g.low) less
short less None = false

-- the gap x..y-1, if there is a number in it
abbrev pub piece : ℕ → ℕ → List Entry
piece x y = pick (ltb x y) (entry x (y - 1) [] ∷ []) []

-- the gap held after gaps gs came: the shorter one, of those that a run of k fits in from a multiple of 2^j on
abbrev pub better : List Entry → Entry → List Entry
better [] c = c ∷ []
better (g ∷ gs) c = shorter g (some c) ∷ []

abbrev pub taken : ℕ → ℕ → List Entry → List Entry → List Entry
taken j k best [] = best
taken j k best (c ∷ cs) = taken j k (pick (fits (aligned j) k c) (better best c) best) cs

-- the gap that is held, if one is, holds a multiple of 2^j
abbrev pub Starts : ℕ → Held Gap → Type 0
Starts j (Some g) = aligned j g.low ≤ g.high
Starts j None = Unit {0}

-- r holds what `best` and the gaps gs leave
pub record Took (j k : ℕ) (best : Held Gap) (gs : List Entry) (r : Held Gap) : Type 0 where
  pub start : Starts j r
  pub is : held_in r ≡ taken j k (held_in best) gs

-- a gap held, and a run of at least one number asked for from a multiple of 2^j on
pub record Trying (j : ℕ) (best : Held Gap) (low high k : ℕ) : Type 0 where
  pub start : Starts j best
  pub order : low ≤ high
  pub run : 0 < k
  pub power : j ≤ last_power

-- a sound set, a window in order, a run of at least one number from a multiple of 2^j on
pub record Asked (w : List ℕ) (a b k j : ℕ) : Type 0 where
  pub block : SoundBlock set_layout w
  pub order : a ≤ b
  pub run : 0 < k
  pub power : j ≤ last_power

-- the gap that is chosen, if there is one, which holds a multiple of 2^j
pub record GapIs (j : ℕ) (o : Option Entry) (r : Held Gap) : Type 0 where
  pub gap : gap_of r ≡ o
  pub start : Starts j r

-- a sound set, and a run of k from s on
pub record Placing (w : List ℕ) (s k : ℕ) : Type 0 where
  pub block : SoundBlock set_layout w
  pub run : 0 < k
  pub fits : s + k ≤ suc M

-- what remains of a reservation at s: room for it
abbrev pub reserving : List ℕ → ℕ → ℕ → Outcome
reserving w s k = in_turn (room 0 set_layout (length w) (reserved_at w s k) ∷ []) (w ∷ []) (reserved_with w s k)
