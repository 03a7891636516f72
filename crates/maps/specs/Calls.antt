-- What each call on maps answers and leaves, from the words lent to it alone.
use Rattle.std.proofs.Math.Option.{Option, none, some}
use Rattle.std.specs.Prelude.{List, [], ◌∷◌, ℕ, zero, suc, eqb}
use Rattle.entries.specs.Entries.{Value, Entry, value_at}
use Rattle.entries.specs.Build.{pick}
use Rattle.entries.specs.Sets.{has}
use Rattle.entries.specs.Maps.{overlay, restriction, domain}
use Rattle.answers.specs.Answers.{Finding}
use Rattle.answers.specs.Answers.{Answer, given, Outcome, outcome, in_turn, handed}
use Rattle.blocks.specs.Blocks.{entries_of, set_layout, map_layout}
use Rattle.blocks.specs.Calls.{input}
use Rattle.edits.specs.Calls.{edit_call}
use Rattle.answers.specs.declared.Part.{Part}
use Rattle.searches.specs.Parts.{no_part, part, words_at}
use Rattle.searches.specs.Calls.{window_part, window_call, window_at_call, window_refusal_call}
use Rattle.operations.specs.Calls.{from_two, from_one}
use Rattle.answers.specs.declared.Deciding.{Deciding}

-- the entries that a map's block says
abbrev pub map_entries : List ℕ → List Entry
map_entries = entries_of map_layout.width

-- a value's words, or none
abbrev pub worth : Option Value → Answer
worth (some v) = given v
worth none = given []

-- [M1] look up x: its value, or none
unfoldable pub look_up_call : List ℕ → ℕ → Outcome
look_up_call w x = in_turn (input 0 map_layout w ∷ []) [] (outcome (worth (value_at (map_entries w) x)) [])

-- [M2] assign v to a..b, replacing what was there
abbrev pub assign_call : List ℕ → ℕ → ℕ → ℕ → Outcome
assign_call w a b v = edit_call map_layout w a b (some (v ∷ []))

-- [M3] erase a..b
abbrev pub erase_call : List ℕ → ℕ → ℕ → Outcome
erase_call w a b = edit_call map_layout w a b none

-- [M4] overlay; blocks: upper, lower, output
unfoldable pub overlay_call : List ℕ → List ℕ → List ℕ → Outcome
overlay_call upper lower o = from_two map_layout map_layout map_layout overlay upper lower o

-- [M5] restriction of a map to a set; blocks: map, set, output
unfoldable pub restriction_call : List ℕ → List ℕ → List ℕ → Outcome
restriction_call map set o = from_two map_layout set_layout map_layout restriction map set o

-- [M6] the set of numbers that have a value
unfoldable pub domain_call : List ℕ → List ℕ → Outcome
domain_call map o = from_one map_layout set_layout domain map o

-- [M7] a window is answered as for sets, three words an entry
abbrev pub map_window_call : List ℕ → ℕ → ℕ → Part
map_window_call w a b = window_call map_layout w a b

-- [M7] the same part as its place and its length
abbrev pub map_window_at_call : List ℕ → ℕ → ℕ → Outcome
map_window_at_call w a b = window_at_call map_layout w a b

-- [R20] its companion: the refusal, or that there is none
abbrev pub map_window_refusal_call : List ℕ → ℕ → ℕ → Outcome
map_window_refusal_call w a b = window_refusal_call map_layout w a b

-- [R16, R17] 1, 2, 3 of the site map at 0, then of the factory map at 1
abbrev pub site_refusals : List ℕ → List ℕ → List Finding
site_refusals site factory = input 0 map_layout site ∷ input 1 map_layout factory ∷ []

-- [R20] the companion of site over factory, on the same inputs: the refusal, which no x changes, or that there is none
unfoldable pub site_refusal_call : List ℕ → List ℕ → ℕ → Outcome
site_refusal_call site factory x = in_turn (site_refusals site factory) [] (outcome (given []) [])

-- a part of one of two maps, by the map's position
abbrev pub part_in : ℕ → Part → Deciding
part_in position p = record { position = position; place = p.place; length = p.length }

-- the one of two that stands at a position
abbrev pub at_position : {A : Type 0} → ℕ → A → A → A
at_position zero site factory = site
at_position (suc p) site factory = factory

-- [M8] the window x..x of the site map if x has a value there, else that of the factory map: the deciding entry, or an empty part
abbrev pub deciding : List ℕ → List ℕ → ℕ → Deciding
deciding site factory x =
    pick (has (value_at (map_entries site) x)) (part_in 0 (window_part map_layout.width site x x)) (part_in 1 (window_part map_layout.width factory x x))

-- [M8, R20] the three words of the deciding entry, as a part of whichever map holds it; refused, the empty part at the site map's front
unfoldable pub site_over_factory_call : List ℕ → List ℕ → ℕ → Deciding
site_over_factory_call site factory x =
    handed (in_turn (site_refusals site factory) [] (outcome (given []) [])) (deciding site factory x) (part_in 0 no_part)

-- the deciding entry as an answer: the part's place and its length, and the position of its map; no values where there is none
abbrev pub deciding_says : Deciding → Answer
deciding_says d = pick (eqb d.length 0) (given []) (given (d.place ∷ d.length ∷ d.position ∷ []))

-- [M8] the same, for a host that is handed no slice (`part_of_deciding` in proofs/Sites)
unfoldable pub site_over_factory_at_call : List ℕ → List ℕ → ℕ → Outcome
site_over_factory_at_call site factory x = in_turn (site_refusals site factory) [] (outcome (deciding_says (deciding site factory x)) [])

-- the words of a part of one of two maps
abbrev pub words_of_two : List ℕ → List ℕ → Deciding → List ℕ
words_of_two site factory d = words_at (at_position d.position site factory) (part d.place d.length)
