-- What is asked of a set, by its meaning: the statements of specs/Questions.
use mathlib.Core.Path.{◌≡◌, refl, sym, ◌∙◌, ap, subst}
use mathlib.Core.Option.{Option, none, some}
use mathlib.Core.Bool.{Bool, true, false, not}
use mathlib.Core.List.{List, [], ◌∷◌}
use Prim.Native.Nat.{ℕ, suc, ◌+◌, ◌*◌, ◌-◌, ◌≤◌, ◌<◌}
use native.Mathlib.Omega.{arith}
use lib.Dec.{leb, eqb}
use lib.ListN.{length, get_or}
use borrow.Author.Tests.{le-ltb, leb-true, eqb-true, eqb-false, ne_eqb}
use Rattle.entries.specs.Entries.{Value, Entry, Sound, value_at}
use Rattle.entries.specs.Build.{pick, andb}
use Rattle.entries.specs.Sets.{M, past_m, has, member, lessb, symmetric_difference, difference, intersection, complement}
use Rattle.entries.specs.Questions.{range_at, size_of, least_member, is_empty, meeting, wholly_below, count}
use Rattle.entries.proofs.Values.{true≢false}
use Rattle.entries.proofs.Sets.{complement_is}
use Rattle.entries.proofs.Questions.{size_counts, LeastOf, least_member_lem, outside, non_member_lem, non_member_none, range_in, range_out, none_empty}
use Rattle.answers.specs.Answers.{Answer, given, Outcome, outcome, truth, seated, optional, less_one, handed}
use Rattle.answers.proofs.Turns.{clear_turn}
use Rattle.blocks.specs.Blocks.{set_layout, entries_of, words_of, verdict, Lent}
use Rattle.blocks.specs.Steps.{zero_item}
use Rattle.blocks.specs.Calls.{input}
use Rattle.blocks.proofs.Items.{entries_count, entry_is}
use Rattle.blocks.proofs.Judging.{verdict_sound}
use Rattle.blocks.specs.declared.Layout.{Layout}
use Rattle.searches.specs.Parts.{words_at, no_part}
use Rattle.searches.specs.Calls.{window_part, window_refusals, window_call}
use Rattle.searches.proofs.Windows.{window_words}
use Rattle.sets.specs.Calls.{asked, ends, non_member, member_call, range_at_call, size_call, least_member_call, least_non_member_call, asked_two, equal_call, within_call}
use Rattle.sets.specs.Calls.{disjoint_call, seat_of}
use Rattle.sweeps.proofs.Tables.{bounded}
use Rattle.sets.proofs.Sizes.{entries_under}
use Rattle.demands.specs.Plain.{SoundSet, InRange, In, answers, yes, no, truth_of}
use Rattle.demands.specs.Questions.{Answers, InSet, Member, RangeAt, Size, LeastMember, LeastNonMember, SetWindow, Equal, Within, Disjoint}
use Rattle.demands.proofs.Sets.{equal_means, means_equal, within_means, means_within, disjoint_means, means_disjoint}
use Rattle.demands.proofs.Words.{split, InItem, in_item, item_in}

-- a number has a value or none
has_some : (o : Option Value) → has o ≡ true → (P : Type 0) → ((v : Value) → o ≡ some v → P) → P
has_some none e P k = absurd (true≢false (sym e))
has_some (some v) e P k = k v refl

in_range : (w : List ℕ) (x : ℕ) → SoundSet w → In w x ≡ true → InRange w x
in_range w x s e = has_some (value_at (entries_of 2 w) x) e (InRange w x) (λ v q. go v (in_item set_layout w (omega arith) s x v q))
  where
    go : (v : Value) → InItem set_layout w (omega arith) s x v → InRange w x
    go v g =
        let p : 1 + 2 * g.index ≡ 2 * g.index + 1 = omega arith in
        let q : 2 + 2 * g.index ≡ 2 * g.index + 2 = omega arith in
        record { index = g.index; below = g.below; low = rw p g.low; high = rw q g.high }

range_in_set : (w : List ℕ) (x : ℕ) → SoundSet w → InRange w x → In w x ≡ true
range_in_set w x s g =
    let p : 1 + 2 * g.index ≡ 2 * g.index + 1 = omega arith in
    let q : 2 + 2 * g.index ≡ 2 * g.index + 2 = omega arith in
    ap has (item_in set_layout w (omega arith) s x _ (record {
      index = g.index;
      below = g.below;
      low = rw p at g.low;
      high = rw q at g.high;
      value = refl;
    }))

pub in_set : InSet
in_set w x s = record { to = in_range w x s; from = range_in_set w x s }

-- a question of a sound block is answered
pub asked_sound : (w : List ℕ) (answer : List Entry → Answer) → SoundSet w → asked w answer ≡ outcome (answer (entries_of 2 w)) []
asked_sound w answer s = clear_turn (input 0 set_layout w ∷ []) [] _ (s, tt)

-- a question that is true or not, where being true is P
decided : (call : Outcome) (b : Bool) (P : Type 0) → call ≡ outcome (truth b) [] → (b ≡ true → P) → (P → b ≡ true) → Answers call P
decided call b P e f g = (
  record { to = λ q. f (told_yes b (sym e ∙ q)); from = λ p. e ∙ ap (λ (t : Bool). outcome (truth t) []) (g p) },
  record { to = λ q p. true≢false (sym (g p) ∙ told_no b (sym e ∙ q)); from = λ n. e ∙ ap (λ (t : Bool). outcome (truth t) []) (not_true b (λ t. n (f t))) },
)
  where
    told_yes : (t : Bool) → outcome (truth t) [] ≡ yes → t ≡ true
    told_yes true q = refl
    told_yes false q = let z : ◌≡◌ {A = ℕ} 0 1 = cc in absurd (omega arith)

    told_no : (t : Bool) → outcome (truth t) [] ≡ no → t ≡ false
    told_no true q = let z : ◌≡◌ {A = ℕ} 1 0 = cc in absurd (omega arith)
    told_no false q = refl

    not_true : (t : Bool) → (t ≡ true → ⊥) → t ≡ false
    not_true true n = absurd (n refl)
    not_true false n = refl

-- [S1, W1] membership of a sound block: yes or no, with the count;
pub seated_sound : (w : List ℕ) (x : ℕ) → SoundSet w → member_call w x ≡ outcome (seated (In w x) (length (wholly_below x (entries_of 2 w)))) []
unfolding member_call
seated_sound w x s = asked_sound w (seat_of x) s

-- without it, yes or no
pub truth_sound : (w : List ℕ) (x : ℕ) → SoundSet w → truth_of (member_call w x) ≡ outcome (truth (In w x)) []
truth_sound w x s = ap truth_of (seated_sound w x s) ∙ go (In w x)
  where
    go : (t : Bool) → truth_of (outcome (seated t (length (wholly_below x (entries_of 2 w)))) []) ≡ outcome (truth t) []
    go true = refl
    go false = refl

pub member_means : Member
member_means w x s = decided (truth_of (member_call w x)) (In w x) (InRange w x) (truth_sound w x s) (in_range w x s) (range_in_set w x s)

-- the range at an index
pub range_at_means : RangeAt
unfolding range_at_call
range_at_means w i s = (inside, outside)
  where
    asked_here : range_at_call w i ≡ outcome (ends (range_at (entries_of 2 w) i)) []
    asked_here = asked_sound w (λ es. ends (range_at es i)) s

    n : length (entries_of 2 w) ≡ get_or w 0 0
    n = entries_count 2 (omega arith) w (get_or w 0 0) refl

    inside : i < get_or w 0 0 → range_at_call w i ≡ answers (get_or w (1 + 2 * i) 0 ∷ get_or w (2 + 2 * i) 0 ∷ [])
    inside h =
        let p : 1 + 2 * i ≡ 2 * i + 1 = omega arith in
        let q : 2 + 2 * i ≡ 2 * i + 2 = omega arith in
        asked_here
        ∙ ap (λ (o : Option Entry). outcome (ends o) []) (range_in (entries_of 2 w) i zero_item (omega (arith, n))
        ∙ ap some (entry_is 2 (omega arith) w (get_or w 0 0) refl i h))
        ∙ rw (p, q)

    outside : get_or w 0 0 ≤ i → range_at_call w i ≡ answers []
    outside h = asked_here ∙ ap (λ (o : Option Entry). outcome (ends o) []) (range_out (entries_of 2 w) i (omega (arith, n)))

-- a number, or none
optional_some : (o : Option ℕ) (y : ℕ) → outcome (optional o) [] ≡ answers (y ∷ []) → o ≡ some y
optional_some none y e = let z : ◌≡◌ {A = ℕ} 0 1 = cc in absurd (omega arith)
optional_some (some x) y e = let z : x ≡ y = cc in ap some z

optional_none : (o : Option ℕ) → outcome (optional o) [] ≡ answers [] → o ≡ none
optional_none none e = refl
optional_none (some x) e = let z : ◌≡◌ {A = ℕ} 0 1 = cc in absurd (omega arith)

not_back : (t : Bool) (u : Bool) → not t ≡ u → t ≡ not u
not_back true u e = ap not e
not_back false u e = ap not e

pub least_member_means : LeastMember
unfolding least_member_call
least_member_means w x s = (found, record { to = nothing; from = alone })
  where
    es : List Entry
    es = entries_of 2 w

    asked_here : least_member_call w x ≡ outcome (optional (least_member es x)) []
    asked_here = asked_sound w (λ es. optional (least_member es x)) s

    least : (o : Option ℕ) → least_member es x ≡ o → LeastOf (member es) x o
    least o e = subst (LeastOf (member es) x) e (least_member_lem es x (verdict_sound set_layout w s).sound)

    found : (y : ℕ) → least_member_call w x ≡ answers (y ∷ []) → (x ≤ y) × (In w y ≡ true) × ((z : ℕ) → x ≤ z → z < y → In w z ≡ false)
    found y e = let l = least (some y) (optional_some (least_member es x) y (sym asked_here ∙ e)) in (l.from, l.is, l.least)

    nothing : least_member_call w x ≡ answers [] → (z : ℕ) → x ≤ z → In w z ≡ false
    nothing e = least none (optional_none (least_member es x) (sym asked_here ∙ e))

    alone : ((z : ℕ) → x ≤ z → In w z ≡ false) → least_member_call w x ≡ answers []
    alone h = asked_here ∙ ap (λ (o : Option ℕ). outcome (optional o) []) (go (least_member es x) refl)
      where
        go : (o : Option ℕ) → least_member es x ≡ o → o ≡ none
        go none e = refl
        go (some y) e = let l = least (some y) e in absurd (true≢false (sym l.is ∙ h y l.from))

pub least_non_member_means : LeastNonMember
unfolding least_non_member_call
least_non_member_means w x s = (found, record { to = nothing; from = alone })
  where
    es : List Entry
    es = entries_of 2 w

    asked_here : least_non_member_call w x ≡ outcome (optional (non_member es x)) []
    asked_here = asked_sound w (λ es. optional (non_member es x)) s

    least : (o : Option ℕ) → non_member es x ≡ o → LeastOf (member (complement es)) x o
    least o e = subst (LeastOf (member (complement es)) x) e (outside es x)

    below : (y : ℕ) → member (complement es) y ≡ true → y ≤ M
    below y e = go (leb y M) refl (sym ((complement_is es).members y) ∙ e)
      where
        go : (t : Bool) → leb y M ≡ t → lessb t (member es y) ≡ true → y ≤ M
        go true q d = leb-true y M q
        go false q d = absurd (true≢false (sym d))

    found : (y : ℕ) → least_non_member_call w x ≡ answers (y ∷ []) → (x ≤ y) × (y ≤ M) × (In w y ≡ false) × ((z : ℕ) → x ≤ z → z < y → In w z ≡ true)
    found y e =
        let l = least (some y) (optional_some (non_member es x) y (sym asked_here ∙ e)) in
        let m = below y l.is in (
          l.from,
          m,
          not_back (member es y) true (sym (non_member_lem es x y m) ∙ l.is),
          λ z h k. not_back (member es z) false (sym (non_member_lem es x z (omega arith)) ∙ l.least z h k),
        )

    nothing : least_non_member_call w x ≡ answers [] → (z : ℕ) → x ≤ z → z ≤ M → In w z ≡ true
    nothing e z h m = not_back (member es z) false (sym (non_member_lem es x z m) ∙ least none (optional_none (non_member es x) (sym asked_here ∙ e)) z h)

    alone : ((z : ℕ) → x ≤ z → z ≤ M → In w z ≡ true) → least_non_member_call w x ≡ answers []
    alone h = asked_here ∙ ap (λ (o : Option ℕ). outcome (optional o) []) (non_member_none es x h)

-- a sound list with no number is empty
no_size : (es : List Entry) → Sound es → size_of es ≡ 0 → es ≡ []
no_size [] s e = refl
no_size (e ∷ es) s q = absurd (omega (arith, s.0, q))

less_one_lem : (k : ℕ) → outcome (less_one (suc k)) [] ≡ answers (k ∷ [])
less_one_lem k = let z : suc k - 1 ≡ k = omega arith in let n : suc k ≡ 0 → ⊥ = λ y. omega arith in rw (ne_eqb (suc k) 0 n, z)

pub size_means : Size
unfolding size_call
size_means w s lent = (record { to = empty; from = none_in }, λ k. record { to = some_in k; from = counted k })
  where
    es : List Entry
    es = entries_of 2 w

    sound : Sound es
    sound = (verdict_sound set_layout w s).sound

    size : size_of es ≡ count (In w) past_m
    size = size_counts es past_m sound (entries_under w lent)

    asked_here : size_call w ≡ outcome (less_one (size_of es)) []
    asked_here = asked_sound w (λ es. less_one (size_of es)) s

    zero_is : (n : ℕ) (t : Bool) → eqb n 0 ≡ t → outcome (pick t (given []) (given ((n - 1) ∷ []))) [] ≡ answers [] → n ≡ 0
    zero_is n true e q = eqb-true n 0 e
    zero_is n false e q = let z : ◌≡◌ {A = ℕ} 0 1 = cc in absurd (omega arith)

    suc_is : (n k : ℕ) (t : Bool) → eqb n 0 ≡ t → outcome (pick t (given []) (given ((n - 1) ∷ []))) [] ≡ answers (k ∷ []) → suc k ≡ n
    suc_is n k true e q = let z : ◌≡◌ {A = ℕ} 0 1 = cc in absurd (omega arith)
    suc_is n k false e q = let z : n - 1 ≡ k = cc in let m : n ≡ 0 → ⊥ = eqb-false n 0 e in omega arith

    empty : size_call w ≡ answers [] → (x : ℕ) → In w x ≡ false
    empty e x = ap (λ (fs : List Entry). member fs x) (no_size es sound (zero_is (size_of es) (eqb (size_of es) 0) refl (sym asked_here ∙ e)))

    none_in : ((x : ℕ) → In w x ≡ false) → size_call w ≡ answers []
    none_in h = asked_here ∙ go es (none_empty es sound h)
      where
        go : (fs : List Entry) → is_empty fs ≡ true → outcome (less_one (size_of fs)) [] ≡ answers []
        go [] e = refl
        go (f ∷ fs) e = absurd (true≢false (sym e))

    some_in : (k : ℕ) → size_call w ≡ answers (k ∷ []) → suc k ≡ count (In w) past_m
    some_in k e = suc_is (size_of es) k (eqb (size_of es) 0) refl (sym asked_here ∙ e) ∙ size

    counted : (k : ℕ) → suc k ≡ count (In w) past_m → size_call w ≡ answers (k ∷ [])
    counted k e = asked_here ∙ ap (λ (n : ℕ). outcome (less_one n) []) (size ∙ sym e) ∙ less_one_lem k

-- A WINDOW of a sound block: the words of what it meets, in order
pub window_means : (l : Layout) → 2 ≤ l.width → (w : List ℕ) (a b : ℕ) → verdict l w ≡ 0 → a ≤ b
    → words_at w (window_call l w a b) ≡ words_of (meeting a b (entries_of l.width w))
unfolding window_call
window_means l two w a b s order =
    ap (λ (o : Outcome). words_at w (handed o (window_part l.width w a b) no_part))
    (clear_turn (window_refusals l w a b) [] (outcome (given []) []) (s, (rw (le-ltb b a order), tt)))
    ∙ window_words (record { two = two; block = verdict_sound l w s; order = order })

pub set_window_means : SetWindow
set_window_means w a b s order = window_means set_layout (omega arith) w a b s order

-- OF TWO SETS, looked at in 0 to M alone: past M no lent block has a member
pub past_m_lem : (w : List ℕ) → Lent w → (x : ℕ) → past_m ≤ x → In w x ≡ false
past_m_lem w lent x h = ap has (bounded 2 w lent x h)

pub upto_m : (w v : List ℕ) → Lent w → Lent v → ((x : ℕ) → x ≤ M → In w x ≡ In v x) → (x : ℕ) → In w x ≡ In v x
upto_m w v p q h x = split x (λ l. h x l) (λ l. past_m_lem w p x l ∙ sym (past_m_lem v q x l))

asked_two_lem : (w v : List ℕ) → SoundSet w → SoundSet v → (answer : List Entry → List Entry → Answer)
    → asked_two w v answer ≡ outcome (answer (entries_of 2 w) (entries_of 2 v)) []
asked_two_lem w v p q answer = clear_turn (input 0 set_layout w ∷ input 1 set_layout v ∷ []) [] _ (p, (q, tt))

pub equal_answers : Equal
unfolding equal_call
equal_answers w v p q lw lv =
    decided (equal_call w v) (is_empty (symmetric_difference (entries_of 2 w) (entries_of 2 v))) ((x : ℕ) → x ≤ M → In w x ≡ In v x)
    (asked_two_lem w v p q (λ es fs. truth (is_empty (symmetric_difference es fs))))
    (λ e x l. equal_means (entries_of 2 w) (entries_of 2 v) e x)
    (λ h. means_equal (entries_of 2 w) (entries_of 2 v) (upto_m w v lw lv h))

pub within_answers : Within
unfolding within_call
within_answers w v p q lw =
    decided (within_call w v) (is_empty (difference (entries_of 2 w) (entries_of 2 v))) ((x : ℕ) → x ≤ M → In w x ≡ true → In v x ≡ true)
    (asked_two_lem w v p q (λ es fs. truth (is_empty (difference es fs))))
    (λ e x l m. within_means (entries_of 2 w) (entries_of 2 v) e x m)
    (λ h. means_within (entries_of 2 w) (entries_of 2 v) (λ x m. split x (λ l. h x l m) (λ l. absurd (true≢false (sym m ∙ past_m_lem w lw x l)))))

pub disjoint_answers : Disjoint
unfolding disjoint_call
disjoint_answers w v p q lw =
    decided (disjoint_call w v) (is_empty (intersection (entries_of 2 w) (entries_of 2 v))) ((x : ℕ) → x ≤ M → In w x ≡ true → In v x ≡ true → ⊥)
    (asked_two_lem w v p q (λ es fs. truth (is_empty (intersection es fs))))
    (λ e x l m n. true≢false (sym (both (In w x) (In v x) m n) ∙ disjoint_means (entries_of 2 w) (entries_of 2 v) e x))
    (λ h. means_disjoint (entries_of 2 w) (entries_of 2 v) (λ x. split x (λ l. apart (In w x) (In v x) (h x l))
    (λ l. first_out (In w x) (In v x) (past_m_lem w lw x l))))
  where
    both : (t u : Bool) → t ≡ true → u ≡ true → andb t u ≡ true
    both true u e f = f
    both false u e f = absurd (true≢false (sym e))

    apart : (t u : Bool) → (t ≡ true → u ≡ true → ⊥) → andb t u ≡ false
    apart true true h = absurd (h refl refl)
    apart true false h = refl
    apart false u h = refl

    first_out : (t u : Bool) → t ≡ false → andb t u ≡ false
    first_out true u e = absurd (true≢false e)
    first_out false u e = refl
