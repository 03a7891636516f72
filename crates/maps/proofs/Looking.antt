-- What the code's tests make of the definition of looking up.
use mathlib.Core.Path.{◌≡◌, sym, ◌∙◌, ap}
use mathlib.Core.List.{List, [], ◌∷◌}
use Prim.Native.Nat.{ℕ, ◌+◌, ◌≤◌}
use native.Mathlib.Omega.{arith}
use lib.ListN.{length, get_or, take}
use lib.Seq.{drop-cons}
use Rattle.entries.specs.Entries.{value_at}
use Rattle.answers.specs.Answers.{given}
use Rattle.blocks.specs.Blocks.{map_layout}
use Rattle.answers.specs.declared.Part.{Part}
use Rattle.searches.specs.Steps.{EntryOf}
use Rattle.maps.specs.Calls.{map_entries, worth}

-- the words of an entry
abbrev pub width : ℕ
width = map_layout.width

-- the value in the entry that the code found
module _ {w : List ℕ} {x : ℕ} {r : Part} (g : EntryOf map_layout w x r) where
  pub value_none : r.length ≡ 0 → given [] ≡ worth (value_at (map_entries w) x)
  value_none z = sym (ap worth (g.none z))

  module _ (n : r.length ≡ 0 → ⊥) where
    pub value_held : r.place + width ≤ length w
    value_held = omega (arith, g.held, (g.value n).1)

    pub value_is : (v : ℕ) → v ≡ get_or w (r.place + 2) 0 → given (v ∷ []) ≡ worth (value_at (map_entries w) x)
    value_is v q =
        ap (λ (y : ℕ). given (y ∷ [])) q
        ∙ ap (λ (l : List ℕ). given (take 1 l)) (sym (drop-cons w (r.place + 2) 0 (omega (arith, value_held))))
        ∙ sym (ap worth (g.value n).0)
