-- Outputs: 1 for a block without words, and then 5 for one without room, which a call that writes blocks tries last.
use mathlib.Core.Path.{◌≡◌, refl, sym, ◌∙◌, ap}
use mathlib.Core.Logic.{◌⊎◌, inl, inr}
use mathlib.Core.List.{List, [], ◌∷◌, ◌++◌}
use Prim.Native.Nat.{ℕ, zero, suc, ◌+◌, ◌<◌}
use native.Mathlib.Omega.{arith}
use native.Mathlib.Decide.{dec_lt}
use lib.Dec.{ltb, eqb}
use lib.ListN.{length, get_or}
use borrow.Author.Tests.{lt-ltb}
use Rattle.entries.specs.Entries.{Each, Entry}
use Rattle.entries.specs.Bulletins.{shareb}
use Rattle.answers.specs.Answers.{Finding}
use Rattle.answers.specs.Answers.{outcome, given, refuse, applies, in_turn, Clear}
use Rattle.answers.specs.Steps.{number_at, place_at, Named}
use Rattle.answers.proofs.Turns.{refused_named}
use Rattle.blocks.specs.declared.Layout.{Layout}
use Rattle.blocks.specs.Blocks.{capacity, verdict}
use Rattle.blocks.specs.Calls.{no_block, backwards, no_room, room}
use Rattle.blocks.proofs.Judging.{verdict_most}
use Rattle.blocks.proofs.Refusing.{some_words}
use Rattle.runs.specs.Runs.{lengths}
use Rattle.searches.specs.Calls.{overlapping}
use Rattle.verdicts.specs.Forms.{no_blocks, no_rooms}
use Rattle.forms.proofs.Forms.{has_words, has_room, room_held}
use Rattle.demands.specs.Plain.{Iff, Lacks}
use Rattle.demands.proofs.Findings.{Where, Numbered, applied, named_number, named_split, named_join, named_refused}

-- which numbers they have
pub words_numbers : (q : ℕ) (ls : List ℕ) → Numbered (λ n. n ≡ 1) (no_blocks q ls)
words_numbers q [] = tt
words_numbers q (l ∷ ls) = (applied (λ n. n ≡ 1) (eqb l 0) 1 refl, words_numbers (suc q) ls)

pub rooms_numbers : (l : Layout) (q : ℕ) (ls counts : List ℕ) → Numbered (λ n. n ≡ 5) (no_rooms l q ls counts)
rooms_numbers l q [] counts = tt
rooms_numbers l q (k ∷ ls) [] = tt
rooms_numbers l q (k ∷ ls) (n ∷ counts) = (applied (λ n. n ≡ 5) (ltb (capacity l k) n) 5 refl, rooms_numbers l (suc q) ls counts)

-- Which numbers the refusals have, said as the numbers that they do not have: an input has 1 to 3; an output without words 1; a range 4; room 5; two
-- sets with a common number 14.
abbrev pub Other : ℕ → ℕ → Type 0
Other n m = m ≡ n → ⊥

module _ (n : ℕ) where
  pub input_other : 3 < n → (l : Layout) (w : List ℕ) → Where (Other n) (verdict l w)
  input_other h l w z e = omega (arith, verdict_most l w)

  pub output_other : Other n 1 → (words : ℕ) → Where (Other n) (no_block words)
  output_other h words = applied (Other n) (eqb words 0) 1 h

  pub range_other : Other n 4 → (a b : ℕ) → Where (Other n) (backwards a b).number
  range_other h a b = applied (Other n) (ltb b a) 4 h

  pub room_other : Other n 5 → (l : Layout) (words : ℕ) (es : List Entry) → Where (Other n) (no_room l words es)
  room_other h l words es = applied (Other n) (ltb (capacity l words) (length es)) 5 h

  pub overlap_other : Other n 14 → (r w : List Entry) → Where (Other n) (overlapping r w)
  overlap_other h r w = applied (Other n) (shareb r w) 14 h

-- what is tried before room has other numbers than 5
abbrev pub Not5 : ℕ → Type 0
Not5 = Other 5

pub input_not : (l : Layout) (w : List ℕ) → Where Not5 (verdict l w)
input_not = input_other 5 (omega arith)

pub range_not : (a b : ℕ) → Where Not5 (backwards a b).number
range_not = range_other 5 (λ e. omega arith)

pub output_not : (words : ℕ) → Where Not5 (no_block words)
output_not = output_other 5 (λ e. omega arith)

pub overlap_not : (r w : List Entry) → Where Not5 (overlapping r w)
overlap_not = overlap_other 5 (λ e. omega arith)

-- none has 1 exactly where every output has words
pub clear_words : (q : ℕ) (outs : List (List ℕ)) → Clear (no_blocks q (lengths outs)) → Each (λ (out : List ℕ). 0 < length out) outs
clear_words q [] c = tt
clear_words q (out ∷ outs) c = (some_words (length out) c.0, clear_words (suc q) outs c.1)

pub words_clear : (q : ℕ) (outs : List (List ℕ)) → Each (λ (out : List ℕ). 0 < length out) outs → Clear (no_blocks q (lengths outs))
words_clear q [] h = tt
words_clear q (out ∷ outs) h = (has_words (length out) h.0, words_clear (suc q) outs h.1)

-- what 5 says of the capacity and of the number of items, where it applies
room_missed : (c n : ℕ) → (applies (ltb c n) 5 ≡ 0 → ⊥) → c < n
room_missed c n h = go (dec_lt c n)
  where
    go : Dec (c < n) → c < n
    go (yes p) = p
    go (no p) = absurd (h (has_room c n (omega arith)))

module _ (l : Layout) where
  -- the number of each, and the place of one that applies: its output's
  room_number : (q : ℕ) (ls counts : List ℕ) → length ls ≡ length counts → (k : ℕ)
      → number_at (no_rooms l q ls counts) k ≡ applies (ltb (capacity l (get_or ls k 0)) (get_or counts k 0)) 5
  room_number q [] [] e k = sym (has_room (capacity l 0) 0 (omega arith))
  room_number q [] (n ∷ counts) e k = absurd (omega arith)
  room_number q (L ∷ ls) [] e k = absurd (omega arith)
  room_number q (L ∷ ls) (n ∷ counts) e zero = refl
  room_number q (L ∷ ls) (n ∷ counts) e (suc k) = room_number (suc q) ls counts (omega arith) k

  room_place : (q : ℕ) (ls counts : List ℕ) (k : ℕ) → (number_at (no_rooms l q ls counts) k ≡ 0 → ⊥) → place_at (no_rooms l q ls counts) k ≡ q + k
  room_place q [] counts k h = absurd (h refl)
  room_place q (L ∷ ls) [] k h = absurd (h refl)
  room_place q (L ∷ ls) (n ∷ counts) zero h = omega arith
  room_place q (L ∷ ls) (n ∷ counts) (suc k) h = omega (arith, room_place (suc q) ls counts k h)

  module _ (q : ℕ) (ls counts : List ℕ) (same : length ls ≡ length counts) (i p : ℕ) (place : p ≡ q + i) where
    abbrev rooms : List Finding
    rooms = no_rooms l q ls counts

    named_lacks : Named rooms 5 p → Lacks l ls counts i
    named_lacks m =
        let a = room_place q ls counts m.index m.first.here in
        let j : m.index ≡ i = omega (arith, a, m.place, place) in
        record {
          before = λ k h. room_held _ _ (sym (room_number q ls counts same k) ∙ m.first.before k (omega arith));
          here = room_missed _ _ (λ z. m.first.here (ap (number_at rooms) j ∙ room_number q ls counts same i ∙ z));
        }

    lacks_named : Lacks l ls counts i → Named rooms 5 p
    lacks_named m =
        let five : number_at rooms i ≡ 5 = room_number q ls counts same i ∙ rw (lt-ltb (capacity l (get_or ls i 0)) (get_or counts i 0) m.here) in
        let here : number_at rooms i ≡ 0 → ⊥ = λ z. omega (arith, five, z) in
        record {
          index = i;
          first = record { before = λ k h. room_number q ls counts same k ∙ has_room _ _ (m.before k h); here = here };
          number = five;
          place = room_place q ls counts i here ∙ sym place;
        }

    -- a call that tries room last, and gives no 5 before: it is refused with 5 at output i's place p exactly where nothing earlier applies,
    -- and output i is the first that lacks room
    pub refused_room : (fs : List Finding) → Numbered Not5 fs → (lent : List (List ℕ)) (xs : List ℕ) (after : List (List ℕ))
        → Iff (in_turn (fs ++ rooms) lent (outcome (given xs) after) ≡ refuse 5 p lent) (Clear fs × Lacks l ls counts i)
    refused_room fs other lent xs after = record {
      to = λ e. go (named_split fs rooms (refused_named (fs ++ rooms) lent xs after 5 p lent e));
      from = λ h. named_refused (fs ++ rooms) lent (outcome (given xs) after) (named_join fs rooms h.0 (lacks_named h.1));
    }
      where
        go : Named fs 5 p ⊎ (Clear fs × Named rooms 5 p) → Clear fs × Lacks l ls counts i
        go (inl m) = absurd (named_number Not5 fs other m refl)
        go (inr m) = (m.0, named_lacks m.1)

  -- the same of a call that writes one block, w at the place p, which is to say es
  pub refused_alone : (p : ℕ) (w : List ℕ) (es : List Entry) (fs : List Finding) → Numbered Not5 fs → (xs : List ℕ) (after : List (List ℕ))
      → Iff (in_turn (fs ++ (room p l (length w) es ∷ [])) (w ∷ []) (outcome (given xs) after) ≡ refuse 5 p (w ∷ []))
      (Clear fs × (capacity l (length w) < length es))
  refused_alone p w es fs other xs after = record {
    to = λ e. let h = exactly.to e in (h.0, h.1.here);
    from = λ h. exactly.from (h.0, record { before = λ k q. absurd (omega arith); here = h.1 });
  }
    where
      exactly : Iff (in_turn (fs ++ (room p l (length w) es ∷ [])) (w ∷ []) (outcome (given xs) after) ≡ refuse 5 p (w ∷ []))
          (Clear fs × Lacks l (length w ∷ []) (length es ∷ []) 0)
      exactly = refused_room p (length w ∷ []) (length es ∷ []) refl 0 p (omega arith) fs other (w ∷ []) xs after
