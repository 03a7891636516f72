-- Site over factory: the deciding entry from the code's two searches, the part that it is, and the answer that it gives.
use mathlib.Core.Path.{◌≡◌, refl, sym, ◌∙◌, ap, subst}
use mathlib.Core.Bool.{Bool, true, false}
use mathlib.Core.List.{List, [], ◌∷◌}
use Prim.Native.Nat.{ℕ, zero, suc}
use lib.Dec.{eqb}
use lib.ListN.{take, drop}
use borrow.Author.Tests.{eq-eqb, ne_eqb, eqb-true}
use denote.Ref.{Bor}
use Rattle.std.specs.Prelude.{Ok}
use Rattle.entries.specs.Entries.{value_at}
use Rattle.entries.specs.Build.{pick}
use Rattle.entries.specs.Sets.{has}
use Rattle.answers.specs.Answers.{given, refused, Outcome, outcome, judged, in_turn, handed}
use Rattle.answers.specs.Steps.{FirstOf}
use Rattle.answers.proofs.Turns.{bare, turn_bare}
use Rattle.blocks.specs.Blocks.{map_layout, verdict, SoundBlock}
use Rattle.blocks.proofs.Judging.{verdict_sound}
use Rattle.answers.specs.declared.Part.{Part}
use Rattle.searches.specs.Parts.{part, no_part, IsPart}
use Rattle.searches.specs.Calls.{window_part}
use Rattle.searches.specs.Steps.{EntryOf}
use Rattle.answers.specs.declared.Deciding.{Deciding}
use Rattle.maps.specs.Calls.{map_entries, part_in, at_position, deciding, deciding_says, site_refusals, site_refusal_call, site_over_factory_call, words_of_two}
use Rattle.maps.specs.Calls.{site_over_factory_at_call}
use Rattle.maps.specs.Steps.{DecidingOf}

-- both maps are sound where the question is not refused
pub both_sound : {site factory : List ℕ} {u : Unit {0}} → FirstOf (site_refusals site factory) (Ok u)
    → SoundBlock map_layout site × SoundBlock map_layout factory
both_sound {site} {factory} f = (verdict_sound map_layout site f.clear.0, verdict_sound map_layout factory f.clear.1.0)

-- by whether the site map has a value
by_site : (site factory : List ℕ) (x : ℕ) (t : Bool) → has (value_at (map_entries site) x) ≡ t
    → pick t (part_in 0 (window_part map_layout.width site x x)) (part_in 1 (window_part map_layout.width factory x x)) ≡ deciding site factory x
by_site site factory x t h =
    ap (λ (u : Bool). pick u (part_in 0 (window_part map_layout.width site x x)) (part_in 1 (window_part map_layout.width factory x x))) (sym h)

module _ {site factory : List ℕ} {x : ℕ} {own : Part} (g : EntryOf map_layout site x own) where
  pub site_decides : (own.length ≡ 0 → ⊥) → DecidingOf site factory x (part_in 0 own)
  site_decides n = record { is = ap (part_in 0) g.is ∙ by_site site factory x true (ap has (g.value n).0); held = g.held }

  pub factory_decides : own.length ≡ 0 → {other : Part} → EntryOf map_layout factory x other → DecidingOf site factory x (part_in 1 other)
  factory_decides z f = record { is = ap (part_in 1) f.is ∙ by_site site factory x false (ap has (g.none z)); held = f.held }

-- the part of the map at its position
module _ (site factory : Bor (List ℕ)) {r : Bor (List ℕ)} {d due : Deciding} (same : d ≡ due) where
  pub placed : IsPart (at_position d.position site factory) r (part d.place d.length)
      → IsPart (at_position due.position site factory) r (part due.place due.length)
  placed g = subst (λ (c : Deciding). IsPart (at_position c.position site factory) r (part c.place c.length)) same g

-- the answer, by the code's test
module _ {site factory : List ℕ} {x : ℕ} {d : Deciding} (g : DecidingOf site factory x d) where
  said_as : (t : Bool) → eqb d.length 0 ≡ t
      → outcome (pick t (given []) (given (d.place ∷ d.length ∷ d.position ∷ []))) [] ≡ outcome (deciding_says (deciding site factory x)) []
  said_as t e =
      ap (λ (u : Bool). outcome (pick u (given []) (given (d.place ∷ d.length ∷ d.position ∷ []))) []) (sym e)
      ∙ ap (λ (c : Deciding). outcome (deciding_says c) []) g.is

  pub decided_nothing : d.length ≡ 0 → outcome (given []) [] ≡ outcome (deciding_says (deciding site factory x)) []
  decided_nothing z = said_as true (eq-eqb d.length 0 z)

  pub decided_entry : (d.length ≡ 0 → ⊥)
      → outcome (given (d.place ∷ d.length ∷ d.position ∷ [])) [] ≡ outcome (deciding_says (deciding site factory x)) []
  decided_entry n = said_as false (ne_eqb d.length 0 n)

-- the deciding entry that an answer with an offset, a length and a position names, and where there are none, none
abbrev pub deciding_in : Outcome → Deciding
deciding_in (outcome (given []) lent) = part_in 0 no_part
deciding_in (outcome (given (place ∷ [])) lent) = part_in 0 no_part
deciding_in (outcome (given (place ∷ words ∷ [])) lent) = part_in 0 no_part
deciding_in (outcome (given (place ∷ words ∷ position ∷ xs)) lent) = part_in position (part place words)
deciding_in (outcome (refused n p) lent) = part_in 0 no_part

-- [M8] the offset, the length and the position name the words that are handed back
pub part_of_deciding : (site factory : List ℕ) (x : ℕ)
    → words_of_two site factory (deciding_in (site_over_factory_at_call site factory x)) ≡ words_of_two site factory (site_over_factory_call site factory x)
unfolding site_over_factory_at_call site_over_factory_call
part_of_deciding site factory x = go (verdict map_layout site) (verdict map_layout factory)
  where
    d : Deciding
    d = deciding site factory x

    named : (t : Bool) → eqb d.length 0 ≡ t
        → words_of_two site factory (deciding_in (outcome (pick t (given []) (given (d.place ∷ d.length ∷ d.position ∷ []))) [])) ≡ words_of_two site factory d
    named true e = ap (λ (n : ℕ). take n (drop d.place (at_position d.position site factory))) (sym (eqb-true d.length 0 e))
    named false e = refl

    go : (v u : ℕ) → words_of_two site factory (deciding_in (judged v 0 [] (judged u 1 [] (outcome (deciding_says d) []))))
        ≡ words_of_two site factory (handed (judged v 0 [] (judged u 1 [] (outcome (given []) []))) d (part_in 0 no_part))
    go zero zero = named (eqb d.length 0) refl
    go zero (suc u) = refl
    go (suc v) u = refl

-- [R20] the companion question answers the same refusals: C needs no call for it
pub deciding_companion : (site factory : List ℕ) (x : ℕ) → bare (site_over_factory_at_call site factory x) ≡ site_refusal_call site factory x
unfolding site_over_factory_at_call site_refusal_call
deciding_companion site factory x =
    turn_bare (site_refusals site factory) [] (outcome (deciding_says d) []) ∙ ap (in_turn (site_refusals site factory) []) (go (eqb d.length 0))
  where
    d : Deciding
    d = deciding site factory x

    go : (t : Bool) → bare (outcome (pick t (given []) (given (d.place ∷ d.length ∷ d.position ∷ []))) []) ≡ outcome (given []) []
    go true = refl
    go false = refl
