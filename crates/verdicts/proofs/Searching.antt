-- A run of range records as a list to search: its highs do not fall, and the first of them at or above x tells whether x is in the run.
use Prim.Native.Nat.{ℕ, ◌+◌, ◌*◌, ◌<◌, ◌≤◌}
use mathlib.Core.List.{List}
use mathlib.Core.Bool.{false}
use mathlib.Core.Path.{◌≡◌, sym, ap, ◌∙◌}
use native.Mathlib.Omega.{arith}
use native.Mathlib.Decide.{dec_lt}
use lib.Dec.{leb}
use lib.ListN.{length, get_or, drop}
use borrow.Author.Tests.{le-leb, lt-leb}
use Rattle.entries.specs.Entries.{Entry}
use Rattle.entries.specs.Sets.{has, member}
use Rattle.entries.proofs.Windows.{Passed}
use Rattle.entries.proofs.Finding.{found_in, found_under, found_end}
use Rattle.blocks.specs.Steps.{zero_item}
use Rattle.numbers.specs.Numbers.{num8}
use Rattle.searches.specs.Steps.{Rises, Rising, First}
use Rattle.searches.proofs.Finding.{highs_rise, also_rises, passed_among}
use Rattle.searches.proofs.Walking.{view_at}
use Rattle.runs.specs.Runs.{entries_in}
use Rattle.runs.proofs.Running.{length_entries}
use Rattle.verdicts.specs.Steps.{OneRun, high_in}
use Rattle.verdicts.proofs.Walking.{in_bytes}

module _ {kind p n : ℕ} {b : List ℕ} (o : OneRun kind p n b) where
  abbrev es : List Entry
  es = entries_in kind 2 n (drop p b)

  count : length es ≡ n
  count = length_entries kind 2 n (drop p b)

  low_at : (k : ℕ) → k < n → (get_or es k zero_item).low ≡ num8 b (p + 21 * k + 3)
  low_at k h = ap (λ (e : Entry). e.low) (view_at (in_bytes kind b) zero_item n p k h) ∙ o.plain _

  high_at : (k : ℕ) → k < n → (get_or es k zero_item).high ≡ high_in p b k
  high_at k h = ap (λ (e : Entry). e.high) (view_at (in_bytes kind b) zero_item n p k h) ∙ o.plain _

  pub ends_rise : Rises (high_in p b) n
  ends_rise = also_rises zero_item es n count (high_in p b) (λ e. e.high) high_at (highs_rise zero_item es o.sound)

  pub rising : Rising (high_in p b) n
  rising = record { rises = ends_rise }

  module _ {x i : ℕ} (f : First (high_in p b) n x i) where
    here : Passed zero_item es x i
    here = passed_among zero_item es n count (high_in p b) high_at x i f

    -- all end below x
    pub none_holds : n ≤ i → false ≡ member es x
    none_holds h = sym (ap has (found_end zero_item es x i o.sound here (omega (arith, count))))

    -- the next does not, and holds x or none does
    pub next_holds : i < n → (low : ℕ) → low ≡ num8 b (p + 21 * i + 3) → leb low x ≡ member es x
    next_holds h low e = go (dec_lt x low)
      where
        go : Dec (x < low) → leb low x ≡ member es x
        go (yes l) = lt-leb low x l ∙ sym (ap has (found_under zero_item es x i o.sound here (omega (arith, count)) (omega (arith, low_at i h))))
        go (no l) = le-leb low x (omega arith) ∙ sym (ap has (found_in zero_item es x i o.sound here (omega (arith, count)) (omega (arith, low_at i h))))
