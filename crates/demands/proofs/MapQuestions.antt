-- What is asked of a map, by its meaning: the statements of specs/Questions.
use mathlib.Core.Path.{◌≡◌, refl, sym, ◌∙◌, ap, subst}
use mathlib.Core.Option.{Option, none, some}
use mathlib.Core.Bool.{Bool, true, false}
use mathlib.Core.List.{List, [], ◌∷◌, ◌++◌}
use Prim.Native.Nat.{ℕ, ◌+◌, ◌*◌, ◌≤◌, ◌<◌}
use native.Mathlib.Omega.{arith}
use lib.ListN.{length, get_or, take, drop}
use lib.Seq.{drop-cons}
use borrow.Author.Tests.{le-leb, lt-leb, le-ltb}
use Rattle.entries.specs.Entries.{Value, Entry, Sound, or_else, value_at}
use Rattle.entries.specs.Build.{pick}
use Rattle.entries.specs.Sets.{has}
use Rattle.entries.specs.Questions.{meeting}
use Rattle.entries.proofs.Values.{true≢false}
use Rattle.entries.proofs.Canon.{none≢some}
use Rattle.entries.proofs.Sides.{Side, under, inside, past, side, val_in, val_past, none_under, none_upto}
use Rattle.entries.proofs.Windows.{one_meets}
use Rattle.answers.specs.Answers.{given, Outcome, outcome, handed}
use Rattle.answers.proofs.Turns.{clear_turn}
use Rattle.blocks.specs.Blocks.{map_layout, words_of}
use Rattle.blocks.specs.Calls.{input}
use Rattle.blocks.proofs.Judging.{verdict_sound, room_words}
use Rattle.searches.specs.Parts.{no_part, words_at}
use Rattle.searches.specs.Calls.{window_part, window_refusals, window_call}
use Rattle.answers.specs.declared.Deciding.{Deciding}
use Rattle.maps.specs.Calls.{map_entries, worth, look_up_call, map_window_call, part_in, deciding, site_refusals, site_over_factory_call, words_of_two}
use Rattle.demands.specs.Plain.{SoundMap, InEntry, ValueOf, answers}
use Rattle.demands.specs.Questions.{InMap, LookUp, MapWindow, SiteOverFactory, EntryWords, DecidingEntry, WhichMap}
use Rattle.demands.proofs.Words.{in_item, item_in}
use Rattle.demands.proofs.Questions.{window_means}

-- the one word of an entry's value
one_word : (w : List ℕ) (i : ℕ) → SoundMap w → i < get_or w 0 0 → take 1 (drop (3 * i + 3) w) ≡ get_or w (3 + 3 * i) 0 ∷ []
one_word w i s h =
    let d = verdict_sound map_layout w s in
    let r = room_words map_layout (length w) (get_or w 0 0) d.some d.fits in
    let k : 3 * i + 3 < length w = omega arith in
    let p : 3 * i + 3 ≡ 3 + 3 * i = omega arith in
    ap (take 1) (drop-cons w (3 * i + 3) 0 k) ∙ ap (λ (j : ℕ). get_or w j 0 ∷ []) p

value_in : (w : List ℕ) (x v : ℕ) → SoundMap w → ValueOf w x ≡ some (v ∷ []) → InEntry w x v
value_in w x v s e =
    let g = in_item map_layout w (omega arith) s x (v ∷ []) e in
    let p : 1 + 3 * g.index ≡ 3 * g.index + 1 = omega arith in
    let q : 2 + 3 * g.index ≡ 3 * g.index + 2 = omega arith in
    record {
      index = g.index;
      below = g.below;
      low = rw p g.low;
      high = rw q g.high;
      value = head (sym (one_word w g.index s g.below) ∙ g.value);
    }
  where
    head : {a b : ℕ} → a ∷ [] ≡ b ∷ [] → a ≡ b
    head e = cc

in_value : (w : List ℕ) (x v : ℕ) → SoundMap w → InEntry w x v → ValueOf w x ≡ some (v ∷ [])
in_value w x v s g =
    let p : 1 + 3 * g.index ≡ 3 * g.index + 1 = omega arith in
    let q : 2 + 3 * g.index ≡ 3 * g.index + 2 = omega arith in
    item_in map_layout w (omega arith) s x (v ∷ [])
    (record {
      index = g.index;
      below = g.below;
      low = rw p at g.low;
      high = rw q at g.high;
      value = one_word w g.index s g.below ∙ ap (λ (y : ℕ). y ∷ []) g.value;
    })

pub in_map : InMap
in_map w x v s = record { to = value_in w x v s; from = in_value w x v s }

worth_some : (o : Option Value) (v : ℕ) → outcome (worth o) [] ≡ answers (v ∷ []) → o ≡ some (v ∷ [])
worth_some none v e = let z : ◌≡◌ {A = ℕ} 0 1 = cc in absurd (omega arith)
worth_some (some u) v e = let z : u ≡ v ∷ [] = cc in ap some z

pub looked : (w : List ℕ) (x : ℕ) → SoundMap w → look_up_call w x ≡ outcome (worth (ValueOf w x)) []
unfolding look_up_call
looked w x s = clear_turn (input 0 map_layout w ∷ []) [] _ (s, tt)

pub look_up_means : LookUp
unfolding look_up_call
look_up_means w x s = (
  λ v. record { to = λ e. value_in w x v s (worth_some (ValueOf w x) v (sym asked ∙ e)); from = λ g. found v g },
  record { to = nothing; from = alone },
)
  where
    asked : look_up_call w x ≡ outcome (worth (ValueOf w x)) []
    asked = looked w x s

    found : (v : ℕ) → InEntry w x v → look_up_call w x ≡ answers (v ∷ [])
    found v g = asked ∙ ap (λ (o : Option Value). outcome (worth o) []) (in_value w x v s g)

    nothing : look_up_call w x ≡ answers [] → (v : ℕ) → InEntry w x v → ⊥
    nothing e v g = let q = sym (found v g) ∙ e in let z : ◌≡◌ {A = ℕ} 0 1 = cc in omega arith

    alone : ((v : ℕ) → InEntry w x v → ⊥) → look_up_call w x ≡ answers []
    alone h = asked ∙ go (ValueOf w x) refl
      where
        go : (o : Option Value) → ValueOf w x ≡ o → outcome (worth o) [] ≡ answers []
        go none e = refl
        go (some u) e =
            let g = in_item map_layout w (omega arith) s x u e in
            let v = get_or w (3 + 3 * g.index) 0 in
            let k : u ≡ v ∷ [] = sym g.value ∙ one_word w g.index s g.below in
            absurd (h v (value_in w x v s (e ∙ ap some k)))

pub map_window_means : MapWindow
map_window_means w a b s order = window_means map_layout (omega arith) w a b s order

-- THE DECIDING ENTRY: its part is the window's that the call of that name hands back
entry_window : (w : List ℕ) (x : ℕ) → SoundMap w → window_part map_layout.width w x x ≡ map_window_call w x x
unfolding window_call
entry_window w x s =
    sym (ap (λ (o : Outcome). handed o (window_part map_layout.width w x x) no_part)
    (clear_turn (window_refusals map_layout w x x) [] (outcome (given []) []) (s, (rw (le-ltb x x (omega arith)), tt))))

module _ (site factory : List ℕ) (x : ℕ) (p : SoundMap site) (q : SoundMap factory) where
  decided_here : site_over_factory_call site factory x ≡ deciding site factory x
  unfolding site_over_factory_call
  decided_here =
      ap (λ (o : Outcome). handed o (deciding site factory x) (part_in 0 no_part))
      (clear_turn (site_refusals site factory) [] (outcome (given []) []) (p, (q, tt)))

  decided_words : (t : Bool) → has (ValueOf site x) ≡ t
      → words_of_two site factory (pick t (part_in 0 (window_part map_layout.width site x x)) (part_in 1 (window_part map_layout.width factory x x)))
      ≡ pick t (words_at site (map_window_call site x x)) (words_at factory (map_window_call factory x x))
  decided_words true e = ap (words_at site) (entry_window site x p)
  decided_words false e = ap (words_at factory) (entry_window factory x q)

pub site_over_factory_means : SiteOverFactory
site_over_factory_means site factory x p q =
    ap (words_of_two site factory) (decided_here site factory x p q) ∙ decided_words site factory x p q (has (ValueOf site x)) refl

-- the one entry that meets the window x..x
record Meets (x : ℕ) (v : Value) (es : List Entry) : Type 0 where
  one : Entry
  only : meeting x x es ≡ one ∷ []
  from : one.low ≤ x
  upto : x ≤ one.high
  value : one.value ≡ v

none_meets : (es : List Entry) (x : ℕ) → Sound es → value_at es x ≡ none → meeting x x es ≡ []
none_meets es x s e = go (meeting x x es) (one_meets es x s ∙ ap (λ (o : Option Value). pick (has o) 1 0) e)
  where
    go : (ms : List Entry) → length ms ≡ 0 → ms ≡ []
    go [] l = refl
    go (m ∷ ms) l = absurd (omega arith)

some_meets : (es : List Entry) (x : ℕ) (v : Value) → Sound es → value_at es x ≡ some v → Meets x v es
some_meets [] x v s e = absurd (none≢some none v refl e)
some_meets (e ∷ es) x v s k = go (side e x) (λ j. some_meets es x v s.2 j)
  where
    go : Side e x → (value_at es x ≡ some v → Meets x v es) → Meets x v (e ∷ es)
    go (under h) later = absurd (none≢some _ _ (none_under e es s x h) k)
    go (inside h l) later =
        let i : some e.value ≡ some v = sym (val_in e es x h l) ∙ k in
        record {
          one = e;
          only = rw (le-leb e.low x h, le-leb x e.high l) (ap (λ (ms : List Entry). e ∷ ms) (none_meets es x s.2 (none_upto e es s.1 s.2 x l)));
          from = h;
          upto = l;
          value = cc;
        }
    go (past h) later =
        let m = later (sym (val_past e es x h) ∙ k) in
        let l : meeting x x (e ∷ es) ≡ meeting x x es = rw (le-leb e.low x (omega (arith, s.0)), lt-leb x e.high h) refl in
        record { one = m.one; only = l ∙ m.only; from = m.from; upto = m.upto; value = m.value }

-- the window x..x of a map
module _ (w : List ℕ) (x : ℕ) (s : SoundMap w) where
  window_here : words_at w (map_window_call w x x) ≡ words_of (meeting x x (map_entries w))
  window_here = map_window_means w x x s (omega arith)

  window_entry : (v : ℕ) → ValueOf w x ≡ some (v ∷ []) → EntryWords x v (words_at w (map_window_call w x x))
  window_entry v e =
      let m = some_meets (map_entries w) x (v ∷ []) (verdict_sound map_layout w s).sound e in
      record {
        low = m.one.low;
        high = m.one.high;
        three = window_here ∙ ap words_of m.only ∙ ap (λ (u : Value). m.one.low ∷ m.one.high ∷ (u ++ [])) m.value;
        from = m.from;
        upto = m.upto;
      }

  window_none : ValueOf w x ≡ none → words_at w (map_window_call w x x) ≡ []
  window_none e = window_here ∙ ap words_of (none_meets (map_entries w) x (verdict_sound map_layout w s).sound e)

pub deciding_entry : DecidingEntry
deciding_entry site factory x p q = (found, nothing)
  where
    words : (o : Option Value) → ValueOf site x ≡ o
        → words_of_two site factory (site_over_factory_call site factory x) ≡ pick (has o) (words_at site (map_window_call site x x)) (words_at factory (map_window_call
        factory x x))
    words o e = site_over_factory_means site factory x p q ∙ rw e

    found : (v : ℕ) → or_else (ValueOf site x) (ValueOf factory x) ≡ some (v ∷ [])
        → EntryWords x v (words_of_two site factory (site_over_factory_call site factory x))
    found v k = go (ValueOf site x) refl k
      where
        go : (o : Option Value) → ValueOf site x ≡ o → or_else o (ValueOf factory x) ≡ some (v ∷ [])
            → EntryWords x v (words_of_two site factory (site_over_factory_call site factory x))
        go (some u) e k = subst (EntryWords x v) (sym (words (some u) e)) (window_entry site x p v (e ∙ k))
        go none e k = subst (EntryWords x v) (sym (words none e)) (window_entry factory x q v k)

    nothing : or_else (ValueOf site x) (ValueOf factory x) ≡ none → words_of_two site factory (site_over_factory_call site factory x) ≡ []
    nothing k = go (ValueOf site x) refl k
      where
        go : (o : Option Value) → ValueOf site x ≡ o → or_else o (ValueOf factory x) ≡ none → words_of_two site factory (site_over_factory_call site factory x) ≡ []
        go (some u) e k = absurd (none≢some _ _ k refl)
        go none e k = words none e ∙ window_none factory x q k

-- no value, no entry
no_entry : (w : List ℕ) (x : ℕ) → SoundMap w → has (ValueOf w x) ≡ false → (v : ℕ) → InEntry w x v → ⊥
no_entry w x s e v g = true≢false (ap has (sym (in_value w x v s g)) ∙ e)

some_entry : (w : List ℕ) (x : ℕ) → SoundMap w → ((v : ℕ) → InEntry w x v → ⊥) → has (ValueOf w x) ≡ false
some_entry w x s h = go (ValueOf w x) refl
  where
    go : (o : Option Value) → ValueOf w x ≡ o → has o ≡ false
    go none e = refl
    go (some u) e =
        let g = in_item map_layout w (omega arith) s x u e in
        let v = get_or w (3 + 3 * g.index) 0 in
        let k : u ≡ v ∷ [] = sym g.value ∙ one_word w g.index s g.below in
        absurd (h v (value_in w x v s (e ∙ ap some k)))

pub which_map_means : WhichMap
which_map_means site factory x p q = (ap (λ (d : Deciding). d.position) here ∙ position (has (ValueOf site x)), record { to = nothing; from = alone })
  where
    here : site_over_factory_call site factory x ≡ deciding site factory x
    here = decided_here site factory x p q

    position : (t : Bool)
        → (pick t (part_in 0 (window_part map_layout.width site x x)) (part_in 1 (window_part map_layout.width factory x x))).position ≡ pick t 0 1
    position true = refl
    position false = refl

    one : (w : List ℕ) → SoundMap w → (t : Bool) → has (ValueOf w x) ≡ t → (window_part map_layout.width w x x).length ≡ pick t 3 0
    one w s t e = three t (length (meeting x x (map_entries w))) (one_meets (map_entries w) x (verdict_sound map_layout w s).sound ∙ rw e)
      where
        three : (t : Bool) (n : ℕ) → n ≡ pick t 1 0 → 3 * n ≡ pick t 3 0
        three true n k = omega arith
        three false n k = omega arith

    -- the length is that of the deciding entry
    long : (t u : Bool) → has (ValueOf site x) ≡ t → has (ValueOf factory x) ≡ u → (site_over_factory_call site factory x).length ≡ pick t 3 (pick u 3 0)
    long true u e f = ap (λ (d : Deciding). d.length) here ∙ rw e (one site p true e)
    long false u e f = ap (λ (d : Deciding). d.length) here ∙ rw e (one factory q u f)

    none_of : (t u : Bool) → ◌≡◌ {A = ℕ} (pick t 3 (pick u 3 0)) 0 → (t ≡ false) × (u ≡ false)
    none_of true u e = absurd (omega arith)
    none_of false true e = absurd (omega arith)
    none_of false false e = (refl, refl)

    nothing : (site_over_factory_call site factory x).length ≡ 0 → (v : ℕ) → (InEntry site x v → ⊥) × (InEntry factory x v → ⊥)
    nothing e v =
        let k = none_of (has (ValueOf site x)) (has (ValueOf factory x)) (sym (long (has (ValueOf site x)) (has (ValueOf factory x)) refl refl) ∙ e) in
        (no_entry site x p k.0 v, no_entry factory x q k.1 v)

    alone : ((v : ℕ) → (InEntry site x v → ⊥) × (InEntry factory x v → ⊥)) → (site_over_factory_call site factory x).length ≡ 0
    alone h = long false false (some_entry site x p (λ v g. (h v).0 g)) (some_entry factory x q (λ v g. (h v).1 g))
