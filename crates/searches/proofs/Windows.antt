-- The window of a block, from the two searches; and the words that it holds.
use mathlib.Core.Path.{◌≡◌, refl, sym, ◌∙◌, ap, ap₂, subst}
use mathlib.Core.Bool.{Bool, true, false}
use mathlib.Core.List.{List, [], ◌∷◌}
use Prim.Native.Nat.{ℕ, zero, suc, ◌+◌, ◌*◌, ◌-◌, ◌≤◌, ◌<◌}
use native.Mathlib.Omega.{arith}
use native.Mathlib.Nat.{mul-add, mul-le-mul_left}
use lib.Dec.{ltb, eqb}
use lib.ListN.{length, get_or, take, drop, length-drop}
use lib.Seq.{length-take-le, drop-drop}
use borrow.Author.Tests.{le-ltb, lt-ltb, eqb-true, eq-eqb, ne_eqb}
use denote.Ref.{Bor}
use Rattle.entries.specs.Entries.{Entry, value_at}
use Rattle.entries.specs.Sets.{has}
use Rattle.entries.specs.Build.{pick}
use Rattle.entries.specs.Questions.{meeting, wholly_below}
use Rattle.entries.proofs.Windows.{Passed, Begun, meeting_part, in_order as ends-in-order}
use Rattle.answers.specs.Answers.{Outcome, outcome, given, refused, judged, applies, handed, in_turn, Clear}
use Rattle.answers.specs.Steps.{FirstOf}
use Rattle.std.specs.Prelude.{Ok, Err}
use Rattle.answers.specs.declared.Reason.TheVariants.{Backwards}
use Rattle.answers.specs.declared.Refusal.{Refusal}
use Rattle.answers.specs.Says.{at_place}
use Rattle.answers.proofs.Turns.{stops, ends, stop_first, pass_first, bare, turn_bare}
use Rattle.blocks.specs.declared.Layout.{Layout}
use Rattle.blocks.specs.Blocks.{entries_of, items_of, words_of, verdict}
use Rattle.blocks.specs.Steps.{zero_item}
use Rattle.blocks.specs.Calls.{input, backwards}
use Rattle.blocks.proofs.Refusing.{in_order}
use Rattle.blocks.proofs.Items.{entries_count, held}
use Rattle.blocks.proofs.Judging.{verdict_sound}
use Rattle.blocks.proofs.Words.{items_drop, items_take, write_back}
use Rattle.searches.specs.Calls.{window_part, window_refusals, window_call, window_at_call, window_refusal_call}
use Rattle.answers.specs.declared.Part.{Part}
use Rattle.searches.specs.Parts.{part, no_part, words_at, IsPart, part_says}
use Rattle.searches.specs.declared.Spot.{Spot}
use Rattle.searches.specs.Steps.{FirstFrom, SpotOf, Windowed, PartOf}
use Rattle.searches.proofs.Finding.{passed, begun}
use Rattle.searches.proofs.Spots.{below_is, spot_first}
use Rattle.searches.proofs.Ends.{begun_by}

-- the two ends of the part, in words
pub record Spanned (s i j : ℕ) (w : List ℕ) : Type 0 where
  pub order : s * i ≤ s * j
  pub held : s * j + 1 ≤ length w

module _ {l : Layout} {w : List ℕ} {a b : ℕ} (g : Windowed l w a b) {n i j : ℕ} (e : n ≡ get_or w 0 0)
    (p : FirstFrom w l.width 2 n a i) (q : FirstFrom w l.width 1 n (b + 1) j) where
  abbrev s : ℕ
  s = l.width

  abbrev es : List Entry
  es = entries_of l.width w

  before : Passed zero_item es a i
  before = passed s g.two w n e a i p

  upto : Begun zero_item es b j
  upto = begun s g.two w n e b j q

  ordered : i ≤ j
  ordered = ends-in-order zero_item a b g.order es i j g.block.sound before upto

  count : length es ≡ n
  count = entries_count s g.two w n e

  inside : s * j + 1 ≤ length w
  inside = omega (arith, (held l g.two w n e g.block).held, mul-le-mul_left {m = j} {n = n} s q.within)

  pub spanned : Spanned l.width i j w
  spanned = record { order = mul-le-mul_left {m = i} {n = j} s ordered; held = inside }

  below_count : length (wholly_below a es) ≡ i
  below_count = below_is g.two g.block e p

  meeting_is : meeting a b es ≡ take (j - i) (drop i es)
  meeting_is = meeting_part zero_item a b g.order es i j g.block.sound before upto

  meeting_count : length (meeting a b es) ≡ j - i
  meeting_count = ap length meeting_is ∙ length-take-le (j - i) (drop i es) (omega (arith, count, length-drop i es, q.within))

  span : s * (j - i) ≡ s * j + 1 - (s * i + 1)
  span = let k : (j - i) + i ≡ j = omega (arith, ordered) in omega (arith, mul-add s (j - i) i, ap (λ (x : ℕ). s * x) k)

  -- where it stands
  pub part_is : PartOf l.width w a b (record { place = l.width * i + 1; length = l.width * j + 1 - (l.width * i + 1) })
  part_is =
      record {
        place = let k : s * i + 1 ≡ 1 + s * i = omega arith in k ∙ sym (ap (λ (x : ℕ). 1 + s * x) below_count);
        words = sym (ap (λ (x : ℕ). s * x) meeting_count ∙ span);
        held = omega (arith, inside, mul-le-mul_left {m = i} {n = j} s ordered);
      }

  -- these are the words of the ranges that meet the window
  words_are : words_at w (window_part l.width w a b) ≡ words_of (meeting a b (entries_of l.width w))
  words_are =
      ap₂ (λ (x y : ℕ). take (s * x) (drop (1 + s * y) w)) meeting_count below_count
      ∙ sym (ap words_of (meeting_is ∙ ap (take (j - i)) dropped ∙ items_take s g.two (n - i) (j - i) behind (omega (arith, q.within)))
      ∙ write_back s g.two (j - i) behind
      (omega (arith, inside, span, length-drop (s * i) (drop 1 w), length-drop 1 w, mul-le-mul_left {m = i} {n = j} s ordered))
      ∙ ap (take (s * (j - i))) (drop-drop (s * i) 1 w))
    where
      behind : List ℕ
      behind = drop (s * i) (drop 1 w)

      dropped : drop i es ≡ items_of s (n - i) behind
      dropped = ap (λ (k : ℕ). drop i (items_of s k (drop 1 w))) (sym e) ∙ items_drop s g.two n i (drop 1 w) p.within

-- the two items that were found stand in order, and in the block
pub found : {l : Layout} {w : List ℕ} {a b : ℕ} → Windowed l w a b → {f g : Spot} {e : ℕ} → SpotOf l w a f → SpotOf l w b g
    → e ≡ pick g.inside (g.below + 1) g.below → Spanned l.width f.below e w
found p sf sg q = spanned p refl (spot_first p.two p.block sf) (begun_by p.two p.block sg q)

-- [S6, M7] the window holds exactly the words of the items that share a number with a..b, in order
pub window_words : {l : Layout} {w : List ℕ} {a b : ℕ} → Windowed l w a b
    → words_at w (window_part l.width w a b) ≡ words_of (meeting a b (entries_of l.width w))
window_words {l} {w} {a} {b} g = words_are g refl (spot_first g.two g.block (sits a)) (begun_by g.two g.block (sits b) refl)
  where
    sits : (x : ℕ) → SpotOf l w x (record { below = length (wholly_below x (entries_of l.width w)); inside = has (value_at (entries_of l.width w) x) })
    sits x = record { below = refl; inside = refl }

-- the refusals of a window, by the tests of the code
module _ (l : Layout) (w : List ℕ) (a b : ℕ) where
  pub window_refused : (e : Refusal) → FirstOf (input 0 l w ∷ []) (Err e) → FirstOf (window_refusals l w a b) (Err e)
  window_refused e f = stop_first (input 0 l w) (backwards a b ∷ []) e f

  module _ (u : Unit {0}) (f : FirstOf (input 0 l w ∷ []) (Ok u)) where
    pub window_backwards : (e : Refusal) → e ≡ at_place Backwards 0 → b < a → FirstOf (window_refusals l w a b) (Err e)
    window_backwards e q h =
        pass_first (input 0 l w) (backwards a b ∷ []) u (Err e) f (stops Backwards e (applies (ltb b a) 4) 0 [] q (rw (lt-ltb b a h) refl))

    pub window_right : a ≤ b → FirstOf (window_refusals l w a b) (Ok tt)
    window_right h = pass_first (input 0 l w) (backwards a b ∷ []) u (Ok tt) f (ends (applies (ltb b a) 4) 0 (rw (le-ltb b a h) refl))

pub clear_window : (l : Layout) (w : List ℕ) (a b : ℕ) → 2 ≤ l.width → Clear (window_refusals l w a b) → Windowed l w a b
clear_window l w a b two c = record { two = two; block = verdict_sound l w c.0; order = in_order a b c.1.0 }

-- the part that an answer with an offset and a length names, and where there are none, none
abbrev pub part_in : Outcome → Part
part_in (outcome (given []) lent) = no_part
part_in (outcome (given (place ∷ [])) lent) = no_part
part_in (outcome (given (place ∷ words ∷ xs)) lent) = part place words
part_in (outcome (refused v p) lent) = no_part

said : (p : Part) → (t : Bool) → eqb p.length 0 ≡ t → part_in (outcome (pick t (given []) (given (p.place ∷ p.length ∷ []))) []) ≡ pick t no_part p
said p true e = refl
said p false e = refl

-- [S6, M7] the offset and the length name the words that are handed back
pub part_of_window : (l : Layout) (w : List ℕ) (a b : ℕ) → words_at w (part_in (window_at_call l w a b)) ≡ words_at w (window_call l w a b)
unfolding window_at_call window_call
part_of_window l w a b = go (verdict l w) (applies (ltb b a) 4)
  where
    p : Part
    p = window_part l.width w a b

    empty : (t : Bool) → eqb p.length 0 ≡ t → words_at w (pick t no_part p) ≡ words_at w p
    empty true e = ap (λ (n : ℕ). take n (drop p.place w)) (sym (eqb-true p.length 0 e))
    empty false e = refl

    go : (v u : ℕ) → words_at w (part_in (judged v 0 [] (judged u 0 [] (outcome (part_says p) []))))
        ≡ words_at w (handed (judged v 0 [] (judged u 0 [] (outcome (given []) []))) p no_part)
    go zero zero = ap (words_at w) (said p (eqb p.length 0) refl) ∙ empty (eqb p.length 0) refl
    go zero (suc u) = refl
    go (suc v) u = refl

-- a part that is one place by the code's account is that place by the definition's
pub is_part : {w r : Bor (List ℕ)} {p q : Part} → IsPart w r p → p ≡ q → IsPart w r q
is_part {w} {r} g e = subst (IsPart w r) e g

-- [D8] no second part satisfies a contract: it lies at one place, and has its words
pub part_only : {w r q : Bor (List ℕ)} {p : Part} → IsPart w r p → IsPart w q p → (r.ref_ptr.0 ≡ q.ref_ptr.0) × (r.ref_ptr.1 ≡ q.ref_ptr.1) × (r.now ≡ q.now)
part_only g h = (g.block ∙ sym h.block, g.offset ∙ sym h.offset, g.words ∙ sym h.words)

-- a window as an answer, by the code's test
module _ (l : Layout) (w : List ℕ) (a b : ℕ) {p : Part} (g : PartOf l.width w a b p) where
  same : p ≡ window_part l.width w a b
  same = ap₂ part g.place g.words

  said_as : (t : Bool) → eqb p.length 0 ≡ t → outcome (pick t (given []) (given (p.place ∷ p.length ∷ []))) []
      ≡ outcome (part_says (window_part l.width w a b)) []
  said_as t e = ap (λ (u : Bool). outcome (pick u (given []) (given (p.place ∷ p.length ∷ []))) []) (sym e) ∙ ap (λ (q : Part). outcome (part_says q) []) same

  pub part_empty : p.length ≡ 0 → outcome (given []) [] ≡ outcome (part_says (window_part l.width w a b)) []
  part_empty z = said_as true (eq-eqb p.length 0 z)

  pub part_some : (p.length ≡ 0 → ⊥) → outcome (given (p.place ∷ p.length ∷ [])) [] ≡ outcome (part_says (window_part l.width w a b)) []
  part_some n = said_as false (ne_eqb p.length 0 n)

-- [R20] the companion question answers the same refusals: C needs no call for it
pub window_companion : (l : Layout) (w : List ℕ) (a b : ℕ) → bare (window_at_call l w a b) ≡ window_refusal_call l w a b
unfolding window_at_call window_refusal_call
window_companion l w a b =
    turn_bare (window_refusals l w a b) [] (outcome (part_says p) []) ∙ ap (in_turn (window_refusals l w a b) []) (go (eqb p.length 0))
  where
    p : Part
    p = window_part l.width w a b

    go : (t : Bool) → bare (outcome (pick t (given []) (given (p.place ∷ p.length ∷ []))) []) ≡ outcome (given []) []
    go true = refl
    go false = refl
