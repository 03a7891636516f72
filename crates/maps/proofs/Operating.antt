-- The tables of the map operations: how many items each can make, and that it makes the operation's own list.
use mathlib.Core.Path.{◌≡◌, ap}
use mathlib.Core.List.{List, []}
use Prim.Native.Nat.{ℕ}
use Rattle.entries.specs.Entries.{Entry}
use Rattle.entries.specs.Maps.{overlay, restriction, domain}
use Rattle.blocks.specs.Blocks.{set_layout, map_layout, entries_of, Lent}
use Rattle.sweeps.specs.Sweeps.{sweep_result, in_either, in_both, in_first}
use Rattle.sweeps.proofs.Tables.{overlay_table, restriction_table, domain_table, fit_set, fit_overlay, fit_restriction, bounded}
use Rattle.operations.specs.Calls.{from_two, from_one}
use Rattle.operations.proofs.Making.{set_small, map_small, two_as, one_as, entries_shaped}
use Rattle.maps.specs.Calls.{map_entries, overlay_call, restriction_call, domain_call}
use native.Mathlib.Omega.{arith}
use lib.ListN.{length}
use Rattle.entries.proofs.Limits.{overlay_bound, restriction_bound, domain_bound}
use Rattle.operations.specs.declared.Layouts.{Layouts}
use Rattle.operations.specs.Steps.{TwoFit, OneFit}
use Rattle.maps.proofs.Looking.{width}

-- two maps into a map, and a map and a set into a map
abbrev map_layouts : Layouts
map_layouts = record { first = map_layout; second = map_layout; out = map_layout }

abbrev map_and_set : Layouts
map_and_set = record { first = map_layout; second = set_layout; out = map_layout }

pub overlay_fit : TwoFit in_either map_layouts 2
overlay_fit = record {
  fit = fit_overlay width 2 (omega arith) (omega arith);
  first = map_small;
  second = map_small;
  few = omega arith;
  small = omega arith;
  bound = λ es fs s t p q h k. omega (arith, ap length (overlay_table width es fs p q h k), overlay_bound es fs s t);
}

pub restriction_fit : TwoFit in_both map_and_set 1
restriction_fit = record {
  fit = fit_restriction width 2 2 (omega arith) (omega arith);
  first = map_small;
  second = set_small;
  few = omega arith;
  small = omega arith;
  bound = λ es fs s t p q h k. omega (arith, ap length (restriction_table width es fs p q h), restriction_bound es fs s t);
}

pub domain_fit : OneFit in_first map_layout set_layout
domain_fit = record {
  fit = fit_set in_first width 2 2 (omega arith) (omega arith) (omega arith);
  from = map_small;
  few = omega arith;
  bound = λ es s p. omega (arith, ap length (domain_table es p), domain_bound es s);
}

-- what each of them keeps of any words lent is the operation's outcome
pub overlay_as : (w v o : List ℕ) → Lent w → Lent v
    → from_two map_layout map_layout map_layout (λ es fs. sweep_result in_either map_layout.width es fs []) w v o ≡ overlay_call w v o
unfolding overlay_call
overlay_as w v o a b =
    two_as map_layout map_layout map_layout (λ (es fs : List Entry). sweep_result in_either width es fs []) overlay w v o
    (λ p q. overlay_table width (map_entries w) (map_entries v) (bounded width w a) (bounded width v b)
    (entries_shaped map_layout w (omega arith) p) (entries_shaped map_layout v (omega arith) q))

pub restriction_as : (w v o : List ℕ) → Lent w → Lent v
    → from_two map_layout set_layout map_layout (λ es fs. sweep_result in_both map_layout.width es fs []) w v o ≡ restriction_call w v o
unfolding restriction_call
restriction_as w v o a b =
    two_as map_layout set_layout map_layout (λ (es fs : List Entry). sweep_result in_both width es fs []) restriction w v o
    (λ p q. restriction_table width (map_entries w) (entries_of 2 v) (bounded width w a) (bounded 2 v b) (entries_shaped map_layout w (omega arith) p))

pub domain_as : (w o : List ℕ) → Lent w → from_one map_layout set_layout (λ es. sweep_result in_first set_layout.width es [] []) w o ≡ domain_call w o
unfolding domain_call
domain_as w o a =
    one_as map_layout set_layout (λ (es : List Entry). sweep_result in_first 2 es [] []) domain w o (domain_table (map_entries w) (bounded width w a))
