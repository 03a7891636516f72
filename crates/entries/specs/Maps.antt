-- Maps, as lists of entries with a value, and the operations that make a map or a set from them.
use Rattle.std.proofs.Math.Option.{Option, none, some}
use Rattle.std.specs.Prelude.{List}
use Rattle.entries.specs.Entries.{Value, Entry, or_else, value_at}
use Rattle.entries.specs.Build.{build, cuts_of, combine}
use Rattle.entries.specs.Sets.{has, mark}

-- [M4] the upper's value where it has one, else the lower's
unfoldable pub overlay : List Entry → List Entry → List Entry
overlay = combine or_else

-- the value, where the set has the number
abbrev pub keep_if : Option Value → Option Value → Option Value
keep_if o none = none
keep_if o (some u) = o

-- [M5] the map's values at the set's numbers
unfoldable pub restriction : List Entry → List Entry → List Entry
restriction = combine keep_if

-- [M6] the set of numbers that have a value
unfoldable pub domain : List Entry → List Entry
domain es = build (λ x. mark (has (value_at es x))) (cuts_of es)
