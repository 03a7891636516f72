-- STORED FORMS: later words of an input are not read, an output's old words are not judged, and one set or map has one stored form.
use Rattle.std.specs.Prelude.{◌≡◌, List, [], ◌∷◌, ℕ, ◌≤◌, length}
use Rattle.std.proofs.Math.Option.{Option}
use Rattle.entries.specs.Entries.{Value, Entry}
use Rattle.entries.specs.Sets.{M}
use Rattle.answers.specs.Answers.{Answer, given, Outcome, outcome, refuse}
use Rattle.blocks.specs.declared.Layout.{Layout}
use Rattle.blocks.specs.Blocks.{set_layout, map_layout, entries_of, Lent}
use Rattle.edits.specs.Calls.{edit_call}
use Rattle.searches.specs.Calls.{window_call, window_refusal_call, window_at_call}
use Rattle.operations.specs.Calls.{from_two, from_one}
use Rattle.sets.specs.Calls.{asked, asked_two, make_empty_call}
use Rattle.fits.specs.Calls.{fit_call, reserve_call}
use Rattle.maps.specs.Calls.{look_up_call, site_refusal_call, site_over_factory_call, site_over_factory_at_call}
use Rattle.bulletins.specs.Calls.{apply_call, fold_call}
use Rattle.runs.specs.Runs.{lengths}
use Rattle.verdicts.specs.declared.Form.{Form}
use Rattle.forms.specs.Calls.{read_call, write_call}
use Rattle.demands.specs.Plain.{SoundSet, SoundMap, In, ValueOf, SameForm}

-- as many blocks in one list as in the other, each with the stored form of the one across from it (`SameForm`)
abbrev pub SameForms : Layout → List (List ℕ) → List (List ℕ) → Type 0
SameForms l [] [] = Unit {0}
SameForms l [] (v ∷ vs) = ⊥
SameForms l (w ∷ ws) [] = ⊥
SameForms l (w ∷ ws) (v ∷ vs) = SameForm l w v × SameForms l ws vs

-- one outcome, whatever the words lent to be written were: accepted, the same answer and the same words left; refused, the same number and
-- place, and each call has kept what was lent to it
pub data SameOutcome (lent lent' : List (List ℕ)) : Outcome → Outcome → Type 0 where
  both_accept : (xs : List ℕ) (after : List (List ℕ)) → SameOutcome lent lent' (outcome (given xs) after) (outcome (given xs) after)
  both_refuse : (n p : ℕ) → SameOutcome lent lent' (refuse n p lent) (refuse n p lent')

-- [B7] LATER WORDS of an input are not read: blocks of one length with one stored form give one outcome. Of every question about a set,
abbrev pub LaterAsked : Type 0
LaterAsked = (w v : List ℕ) → SameForm set_layout w v → (answer : List Entry → Answer) → asked w answer ≡ asked v answer

-- [B7] of every question about two,
abbrev pub LaterAskedTwo : Type 0
LaterAskedTwo = (w v w' v' : List ℕ) → SameForm set_layout w w' → SameForm set_layout v v' → (answer : List Entry → List Entry → Answer)
    → asked_two w v answer ≡ asked_two w' v' answer

-- [B7] of windows, as a part, as its place and its length, and their refusals,
abbrev pub LaterWindow : Type 0
LaterWindow = (l : Layout) (w v : List ℕ) → 2 ≤ l.width → SameForm l w v → (a b : ℕ)
    → (window_call l w a b ≡ window_call l v a b) × (window_at_call l w a b ≡ window_at_call l v a b) × (window_refusal_call l w a b ≡ window_refusal_call l v a b)

-- [B7] of fits,
abbrev pub LaterFit : Type 0
LaterFit = (w v : List ℕ) → SameForm set_layout w v → (fit : ℕ → ℕ → ℕ → List Entry → Option ℕ) (a b k : ℕ) → fit_call fit w a b k ≡ fit_call fit v a b k

-- [B7] of looking up,
abbrev pub LaterLookUp : Type 0
LaterLookUp = (w v : List ℕ) → SameForm map_layout w v → (x : ℕ) → look_up_call w x ≡ look_up_call v x

-- [B7] of site over factory, as a part of one of the maps, as its place, its length and that map, and its refusals,
abbrev pub LaterSite : Type 0
LaterSite = (site factory site' factory' : List ℕ) → SameForm map_layout site site' → SameForm map_layout factory factory' → (x : ℕ)
    → (site_over_factory_call site factory x ≡ site_over_factory_call site' factory' x)
    × (site_over_factory_at_call site factory x ≡ site_over_factory_at_call site' factory' x)
    × (site_refusal_call site factory x ≡ site_refusal_call site' factory' x)

-- [B7, R0] of a change in place, accepted or refused: where it is refused, each block has its own later words still,
abbrev pub LaterEdit : Type 0
LaterEdit = (l : Layout) (w v : List ℕ) → 2 ≤ l.width → SameForm l w v → (a b : ℕ) (o : Option Value)
    → SameOutcome (w ∷ []) (v ∷ []) (edit_call l w a b o) (edit_call l v a b o)

-- [B7, R0] of a reservation, whatever the fit,
abbrev pub LaterReserve : Type 0
LaterReserve = (w v : List ℕ) → SameForm set_layout w v → (fit : ℕ → ℕ → ℕ → List Entry → Option ℕ) (a b k : ℕ)
    → SameOutcome (w ∷ []) (v ∷ []) (reserve_call fit w a b k) (reserve_call fit v a b k)

-- [B7] of every result from two blocks into an output,
abbrev pub LaterTwo : Type 0
LaterTwo = (first second out : Layout) → 2 ≤ first.width → 2 ≤ second.width → (make : List Entry → List Entry → List Entry)
    (w v w' v' o : List ℕ) → SameForm first w w' → SameForm second v v' → from_two first second out make w v o ≡ from_two first second out make w' v' o

-- [B7] of every result from one block,
abbrev pub LaterOne : Type 0
LaterOne = (first out : Layout) → 2 ≤ first.width → (make : List Entry → List Entry) (w w' o : List ℕ) → SameForm first w w'
    → from_one first out make w o ≡ from_one first out make w' o

-- [B7] of a bulletin applied to a list,
abbrev pub LaterApply : Type 0
LaterApply = (list released withdrawn list' released' withdrawn' out : List ℕ)
    → SameForm set_layout list list' → SameForm set_layout released released' → SameForm set_layout withdrawn withdrawn'
    → apply_call list released withdrawn out ≡ apply_call list' released' withdrawn' out

-- [B7] of two bulletins folded,
abbrev pub LaterFold : Type 0
LaterFold = (r₁ w₁ r₂ w₂ r₁' w₁' r₂' w₂' out_r out_w : List ℕ)
    → SameForm set_layout r₁ r₁' → SameForm set_layout w₁ w₁' → SameForm set_layout r₂ r₂' → SameForm set_layout w₂ w₂'
    → fold_call r₁ w₁ r₂ w₂ out_r out_w ≡ fold_call r₁' w₁' r₂' w₂' out_r out_w

-- [B7] and of a byte form written from blocks
abbrev pub LaterWrite : Type 0
LaterWrite = (f : Form) → 2 ≤ f.layout.width → (ws vs : List (List ℕ)) → SameForms f.layout ws vs → (bytes : List ℕ) (p : ℕ)
    → write_call f ws bytes p ≡ write_call f vs bytes p

-- [R18, R0] AN OUTPUT'S OLD WORDS are not judged: outputs of one length give one outcome. From two blocks, from one, of a bulletin applied,
-- of two folded into two outputs, of bytes read into any number of them, and of a block made empty
abbrev pub OldWords : Type 0
OldWords = ((first second out : Layout) (make : List Entry → List Entry → List Entry) (w v o p : List ℕ) → length o ≡ length p
    → SameOutcome (o ∷ []) (p ∷ []) (from_two first second out make w v o) (from_two first second out make w v p))
    × ((first out : Layout) (make : List Entry → List Entry) (w o p : List ℕ) → length o ≡ length p
    → SameOutcome (o ∷ []) (p ∷ []) (from_one first out make w o) (from_one first out make w p))
    × ((list released withdrawn o p : List ℕ) → length o ≡ length p
    → SameOutcome (o ∷ []) (p ∷ []) (apply_call list released withdrawn o) (apply_call list released withdrawn p))
    × ((r₁ w₁ r₂ w₂ out_r out_w outR' outW' : List ℕ) → length out_r ≡ length outR' → length out_w ≡ length outW'
    → SameOutcome (out_r ∷ out_w ∷ []) (outR' ∷ outW' ∷ []) (fold_call r₁ w₁ r₂ w₂ out_r out_w) (fold_call r₁ w₁ r₂ w₂ outR' outW'))
    × ((f : Form) (b : List ℕ) (outs outs' : List (List ℕ)) → lengths outs ≡ lengths outs' → SameOutcome outs outs' (read_call f b outs) (read_call f b outs'))
    × ((w v : List ℕ) → length w ≡ length v → SameOutcome (w ∷ []) (v ∷ []) (make_empty_call w) (make_empty_call v))

-- [D3] ONE STORED FORM: sound set blocks, of any lengths and with any later words, that name the same numbers of 0 to M say the same entries
abbrev pub OneSet : Type 0
OneSet = (w v : List ℕ) → SoundSet w → SoundSet v → Lent w → Lent v → ((x : ℕ) → x ≤ M → In w x ≡ In v x)
    → entries_of set_layout.width w ≡ entries_of set_layout.width v

-- [D3] and so do map blocks that give the same values to the numbers of 0 to M
abbrev pub OneMap : Type 0
OneMap = (w v : List ℕ) → SoundMap w → SoundMap v → Lent w → Lent v → ((x : ℕ) → x ≤ M → ValueOf w x ≡ ValueOf v x)
    → entries_of map_layout.width w ≡ entries_of map_layout.width v
