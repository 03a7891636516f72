-- Where the code looks for the two sides, in entries; and what the edit then is.
use mathlib.Core.Path.{◌≡◌, refl, sym, ◌∙◌, ap}
use mathlib.Core.Bool.{Bool, true, false}
use mathlib.Core.Option.{Option, none, some}
use mathlib.Core.List.{List, [], ◌∷◌, ◌++◌}
use Prim.Native.Nat.{ℕ, zero, suc, ◌+◌, ◌*◌, ◌-◌, ◌≤◌, ◌<◌, min}
use native.Mathlib.Omega.{arith}
use native.Mathlib.Nat.{mul-suc, mul-zero}
use lib.Dec.{ltb}
use borrow.Author.Tests.{ltb-true, ltb-false, lt-ltb, le-ltb, ne_eqb}
use lib.ListN.{length, get_or, take, drop, set, length-append, length-take, length-drop}
use lib.Seq.{get_or-set_other}
use native.Mathlib.Nat.{mul-one}
use Rattle.entries.specs.Entries.{Entry, Sound, entry}
use Rattle.entries.proofs.Canon.{unique}
use Rattle.entries.specs.Build.{with, put, same_words}
use Rattle.entries.proofs.Put.{put_is, put_some, put_none, cap, trim_end, trim_start, Left, Right, JoinsLeft, JoinsRight, cut_here, join_before}
use Rattle.entries.proofs.Put.{cut_there, join_after}
use Rattle.blocks.specs.declared.Layout.{Layout}
use Rattle.blocks.specs.Blocks.{items_of, entries_of, capacity, block_of}
use Rattle.blocks.proofs.Words.{items_length, items_shaped, items_take}
use Rattle.entries.proofs.Values.{words_true, words_false}
use Rattle.blocks.proofs.Judging.{room_words, verdict_sound}
use Rattle.blocks.specs.Steps.{Spliced, item_at, zero_item}
use Rattle.searches.specs.Steps.{FirstFrom}
use Rattle.blocks.proofs.Moves.{entry_at, splice_entries, entries_count}
use Rattle.edits.proofs.Cuts.{trim_length, placed}
use Rattle.edits.specs.Steps.{value_of, cut_end, cut_start, PlaceOk, SideOk, EditOk, PutOk, CutOk}
use Rattle.std.specs.Prelude.{Ok, Err}
use Rattle.answers.specs.declared.Refusal.{Refusal}
use Rattle.answers.specs.Answers.{Outcome, outcome, given, refused}
use Rattle.answers.specs.Says.{refusal_says}
use Rattle.answers.specs.Steps.{FirstOf}
use Rattle.answers.proofs.Turns.{stops_in, refused_by, given_by}
use Rattle.blocks.proofs.Refusing.{in_order}
use Rattle.searches.specs.Calls.{window_refusals}
use Rattle.blocks.specs.Calls.{stored, room, holding}
use Rattle.edits.specs.Calls.{edited, edit_call}
use Rattle.blocks.proofs.Tests.{Span, span, item_in, le_mul}

module _ (s : ℕ) (two : 2 ≤ s) (n : ℕ) (w : List ℕ) where
  abbrev pub es : List Entry
  es = items_of s n (drop 1 w)

  count : length es ≡ n
  count = items_length s n (drop 1 w)

  item : (k : ℕ) → k < n → get_or es k zero_item ≡ item_at s w k
  item k h = entry_at s two n k w zero_item h

  pub find_left : (i a : ℕ) → FirstFrom w s 1 n a i → Left zero_item es i a
  find_left i a f =
      record {
        within = omega (arith, f.within, count);
        lows = λ k h. rw (item k (omega (arith, f.within))) (f.before k h);
        from = λ h. let m : i
            < n = omega (arith, count) in rw (item i m) (f.from m);
      }

  pub find_right : (j b : ℕ) → FirstFrom w s 2 n (b + 1) j → Right zero_item es j b
  find_right j b f =
      record {
        within = omega (arith, f.within, count);
        highs = λ k h. let m = f.before k h in rw (item k (omega (arith, f.within))) (omega arith);
        from = λ h. let m : j < n = omega (arith, count) in let g = f.from m in rw (item j m) (omega arith);
      }

-- what becomes of item k, which lies next to a new entry: it stays where it lies apart or has another value, and else it is joined and gives its far end
pub record Beside (Joins : ℕ → ℕ → Type 0) (w new : List ℕ) (s k near far stays joins end : ℕ) (apart : ℕ → Bool) : Type 0 where
  pub words : (s * k + 3 + (s - 2) ≤ length w) × (2 + (s - 2) ≤ length new)
  pub apart_from : {x : ℕ} {t : Bool} → x ≡ get_or w (s * k + near) 0 → t ≡ apart x → t ≡ true → Joins stays end
  pub differs : false ≡ same_words (take (s - 2) (drop (s * k + 3) w)) (value_of s new) → Joins stays end
  pub joined : {x y : ℕ} {t : Bool} → x ≡ get_or w (s * k + near) 0 → t ≡ apart x → t ≡ false
      → true ≡ same_words (take (s - 2) (drop (s * k + 3) w)) (value_of s new) → y ≡ get_or w (s * k + far) 0 → Joins joins y

-- the two sides of a new entry that begins at a and ends at b, where i items begin before it and the first past it is j
abbrev pub LeftOf : (w new : List ℕ) (s n i a : ℕ) → Type 0
LeftOf w new s n i a =
    Beside (λ k lo. JoinsLeft zero_item (items_of s n (drop 1 w)) k lo (get_or new 0 0) (value_of s new)) w new s (i - 1) 2 1 i (i - 1) a (λ x. ltb (suc x) a)

abbrev pub RightOf : (w new : List ℕ) (s n j b : ℕ) → Type 0
RightOf w new s n j b =
    Beside (λ k hi. JoinsRight zero_item (items_of s n (drop 1 w)) k hi (get_or new 1 0) (value_of s new)) w new s j 1 2 j (j + 1) b (λ x. ltb (suc b) x)

module _ {w new : List ℕ} {s n : ℕ} (ok : SideOk w new s n) where
  abbrev items : List Entry
  items = items_of s n (drop 1 w)

  abbrev value : List ℕ
  value = value_of s new

  here : (k : ℕ) → k < n → get_or items k zero_item ≡ item_at s w k
  here k h = item s ok.two n w k h

  item_words : (k : ℕ) → k < n → (s * k + 3 + (s - 2) ≤ length w) × (2 + (s - 2) ≤ length new)
  item_words k h = (omega (arith, item_in s k n h, ok.held, ok.two), omega (arith, ok.whole, ok.two))

  module _ {a i : ℕ} (e : a ≡ get_or new 0 0) (f : FirstFrom w s 1 n a i) where
    found : Left zero_item items i a
    found = find_left s ok.two n w i a f

    pub left_none : i ≡ 0 → JoinsLeft zero_item items 0 a (get_or new 0 0) value
    left_none z = rw (← e) (cut_here zero_item items ok.sound 0 a value (rw z at found) (λ k p. absurd (omega arith)))

    pub left_beside : (i ≡ 0 → ⊥) → LeftOf w new s n i a
    left_beside ne = record {
      words = item_words k (omega (arith, f.within));
      apart_from = λ {x} {t} ex et y.
          rw (← e) (cut_here zero_item items ok.sound i a value found
          (λ m p q. absurd (let g = ap (λ (x : Entry). x.high) (last m p) in let h = ltb-true (suc x) a (sym et ∙ y) in omega arith)));
      differs = λ h. rw (← e) (cut_here zero_item items ok.sound i a value found
          (λ m p q y. words_false (take (s - 2) (drop (s * k + 3) w)) value (sym h) (sym (ap (λ (x : Entry). x.value) (last m p)) ∙ y)));
      joined = λ {x} {y} {t} ex et u v l.
          let g = ltb-false (suc x) a (sym et ∙ u) in
          let h : a ≤ suc (get_or w (s * k + 2) 0) = omega arith in
          let q : i ≡ suc k = omega arith in
          let m = here k (omega (arith, f.within)) in
          rw (← e, l, ← (ap (λ (x : Entry). x.low) m))
          (join_before zero_item items ok.sound k a value (rw q at found) (rw (ap (λ (x : Entry). x.high) m) h)
          (ap (λ (x : Entry). x.value) m ∙ words_true (take (s - 2) (drop (s * k + 3) w)) value (sym v)));
    }
      where
        k : ℕ
        k = i - 1

        last : (m : ℕ) → suc m ≡ i → get_or items m zero_item ≡ item_at s w k
        last m p = let q : m ≡ k = omega arith in rw q (here k (omega (arith, f.within)))

  module _ {b j : ℕ} (e : b ≡ get_or new 1 0) (f : FirstFrom w s 2 n (b + 1) j) where
    past : Right zero_item items j b
    past = find_right s ok.two n w j b f

    pub right_none : n ≤ j → JoinsRight zero_item items j b (get_or new 1 0) value
    right_none h = rw (← e) (cut_there zero_item items ok.sound j b value past (λ p. absurd (omega (arith, count s ok.two n w))))

    pub right_beside : j < n → RightOf w new s n j b
    right_beside h = record {
      words = item_words j h;
      apart_from = λ {x} {t} ex et y.
          rw (← e) (cut_there zero_item items ok.sound j b value past
          (λ p q. absurd (let m = ap (λ (x : Entry). x.low) (here j h) in let g = ltb-true (suc b) x (sym et ∙ y) in omega arith)));
      differs = λ g. rw (← e) (cut_there zero_item items ok.sound j b value past
          (λ p q y. words_false (take (s - 2) (drop (s * j + 3) w)) value (sym g) (sym (ap (λ (x : Entry). x.value) (here j h)) ∙ y)));
      joined = λ {x} {y} {t} ex et u v l.
          let z = ltb-false (suc b) x (sym et ∙ u) in
          let g : get_or w (s * j + 1) 0 ≤ suc b = omega arith in
          let m = here j h in
          let q : suc j ≡ j + 1 = omega arith in
          rw (← e, l, ← (ap (λ (x : Entry). x.high) m), ← q)
          (join_after zero_item items ok.sound j b value past (omega (arith, count s ok.two n w)) (rw (ap (λ (x : Entry). x.low) m) g)
          (ap (λ (x : Entry). x.value) m ∙ words_true (take (s - 2) (drop (s * j + 3) w)) value (sym v)));
    }

-- the law of `place`
-- the words of its parts: they stand in the block, before and after
module _ {w new : List ℕ} {s n i j c hi : ℕ} (ok : PlaceOk w new s n i j c hi) where
  sizes : Span s n i j c
  sizes = span s n i j c ok.two ok.i_le ok.j_le

  pub parts : (i + c + (n - j) ≤ length w) × (s * j ≤ s * n) × (s * n + 1 ≤ length w) × (s * n + 1 + (s * i + 1) + length new ≤ length w + (s * j + 1))
  parts =
      let k = sizes in
      (omega (arith, ok.room), k.sj, omega (arith, ok.held), omega (arith, ok.room, ok.whole))

cut_length : (s i lo : ℕ) (w : List ℕ) → length (cut_end s i lo w) ≡ length w
cut_length s zero lo w = refl
cut_length s (suc i) lo w =
    let n : suc i ≡ 0 → ⊥ = λ e. omega arith in
    rw (ne_eqb (suc i) 0 n) (lib.ListN.length-set w (s * (suc i - 1) + 2) (min (get_or w (s * (suc i - 1) + 2) 0) (lo - 1)))

cut_keeps : (s i lo p : ℕ) (w : List ℕ) → 2 ≤ s → s * i + 2 ≤ p → get_or (cut_end s i lo w) p 0 ≡ get_or w p 0
cut_keeps s zero lo p w two h = refl
cut_keeps s (suc i) lo p w two h =
    let n : suc i ≡ 0 → ⊥ = λ e. omega arith in
    rw (ne_eqb (suc i) 0 n)
    (get_or-set_other w (s * (suc i - 1) + 2) p (min (get_or w (s * (suc i - 1) + 2) 0) (lo - 1)) 0
    (λ e. let z : suc i - 1 ≡ i = omega arith in omega (arith, mul-suc s i, ap (λ (x : ℕ). s * x) z)))

module _ {w new w1 : List ℕ} {s n i j c hi mm : ℕ} (ok : PlaceOk w new s n i j c hi) (lo m : ℕ) (em : m ≡ i + c + (n - j))
    (sp : (length w1 ≡ length w) × Spliced w new (s * i + 1) (s * j + 1) (s * n + 1) mm w1) where
  pub cut_ok : (w2 : List ℕ) → w2 ≡ cut_end s i lo w1 → CutOk s (i + c) m hi w2
  cut_ok w2 e =
      let g = sizes ok in
      record {
        two = ok.two;
        held = omega (arith, ap length e, cut_length s i lo w1, sp.0, ok.room, g.all, ap (λ (x : ℕ). s * x) em);
        from = λ h.
            let jn : j < n = omega (arith, ok.j_le) in
            let f = ok.from jn in
            let k = item_in s j n jn in
            let b = sp.1.back (s * (i + c) + 1 + 1) (s * j + 2) (omega (arith, g.ic, ok.whole)) (omega arith) (omega (arith, ok.two)) in
            let x = ap (λ (l : List ℕ). get_or l (s * (i + c) + 1 + 1) 0) e ∙ cut_keeps s i lo (s * (i + c) + 1 + 1) w1 ok.two (omega (arith, g.ic)) ∙ b in
            omega arith;
      }

  pub place_law : (w2 w3 : List ℕ) → mm ≡ m → w2 ≡ cut_end s i lo w1 → w3 ≡ cut_start s (i + c) m hi w2
      → w3 ≡ block_of (length w) (trim_end lo (take i (items_of s n (drop 1 w))) ++ (items_of s c new ++ trim_start hi (drop j (items_of s n (drop 1 w)))))
  place_law w2 w3 mme e f =
      f ∙ ap (cut_start s (i + c) m hi) e
      ∙ placed s (length w) i c m lo hi (take i (items_of s n (drop 1 w))) (items_of s c new) (drop j (items_of s n (drop 1 w))) w1
      (rw (items_take s ok.two n i (drop 1 w) ok.i_le)
      (items_shaped s ok.two i (drop 1 w) (omega (arith, length-drop 1 w, (sizes ok).si, ok.held))))
      (items_shaped s ok.two c new (omega (arith, ok.whole)))
      (omega (arith, length-take i (items_of s n (drop 1 w)), items_length s n (drop 1 w), ok.i_le))
      (items_length s c new)
      (em ∙ sym (entries_count s ok.two w new n i j c ok.held ok.i_le ok.j_le ok.whole))
      (splice_entries s ok.two w new n i j c ok.held ok.i_le ok.j_le ok.whole w1 mm (mme ∙ em) ok.room sp.0 sp.1)

pub two_set : (l : List ℕ) (a b : ℕ) → 2 ≤ length l → set (set l 0 a) 1 b ≡ a ∷ b ∷ drop 2 l
two_set [] a b h = absurd (omega arith)
two_set (x ∷ []) a b h = absurd (omega arith)
two_set (x ∷ y ∷ l) a b h = refl

pub ends_length : (lo hi : ℕ) (new new' : List ℕ) → new' ≡ lo ∷ hi ∷ drop 2 new → 2 ≤ length new → length new' ≡ length new
ends_length lo hi new new' e h = omega (arith, ap length e, length-drop 2 new)

-- the law of the edits
module _ {w : List ℕ} {l : Layout} {n : ℕ} (ok : EditOk w l n) where
  abbrev s : ℕ
  s = l.width

  abbrev list : List Entry
  list = items_of s n (drop 1 w)

  same_list : list ≡ entries_of s w
  same_list = ap (λ (k : ℕ). items_of s k (drop 1 w)) ok.count

  pub list_sound : Sound list
  list_sound = rw same_list ok.block.sound

  pub held : 1 + s * n ≤ length w
  held = room_words l (length w) n ok.block.some (rw ok.count ok.block.fits)

  pub list_count : length list ≡ n
  list_count = items_length s n (drop 1 w)

  side_ok : (new : List ℕ) → length new ≡ s → SideOk w new s n
  side_ok new e = record { two = ok.two; held = held; whole = e; sound = list_sound }

  -- what was found among the items of the block was found among n
  pub among_n : (off x i : ℕ) → FirstFrom w s off (get_or w 0 0) x i → FirstFrom w s off n x i
  among_n off x i f = rw ok.count f

  start_length : (hi : ℕ) (l : List Entry) → length (trim_start hi l) ≡ length l
  start_length hi [] = refl
  start_length hi (x ∷ l) = refl

  answer_no : (X Y : List Entry) (cap m : ℕ) → X ≡ Y → m ≡ length Y → cap ≡ capacity l (length w) → cap < m → outcome (refused 5 0) (w ∷ []) ≡ stored 0 l w X
  answer_no X Y cap m e f g h = let k : capacity l (length w) < length X = omega (arith, ap length e) in rw (lt-ltb (capacity l (length w)) (length X) k)

  answer_yes : (X Y : List Entry) (cap m : ℕ) (w' : List ℕ) → X ≡ Y → m ≡ length Y → cap ≡ capacity l (length w) → m ≤ cap
      → w' ≡ block_of (length w) Y → outcome (given []) (w' ∷ []) ≡ stored 0 l w X
  answer_yes X Y cap m w' e f g h b =
      let k : length X ≤ capacity l (length w) = omega (arith, ap length e) in
      rw (le-ltb (capacity l (length w)) (length X) k) (ap (λ (l : List ℕ). outcome (given []) (l ∷ [])) (b ∙ ap (block_of (length w)) (sym e)))

  room_of : (i j c cap : ℕ) → i ≤ n → j ≤ n → cap ≡ capacity l (length w) → i + c + (n - j) ≤ cap → 1 + (s * i + s * c + s * (n - j)) ≤ length w
  room_of i j c cap hi hj e h = omega (arith, room_words l (length w) (i + c + (n - j)) ok.block.some (omega arith), (span s n i j c ok.two hi hj).all)

  high_of : (j hi : ℕ) → Right zero_item list j hi → j < n → hi < get_or w (s * j + 2) 0
  high_of j hi r h = let g = r.from (omega (arith, list_count)) in let m = ap (λ (x : Entry). x.high) (entry_at s ok.two n j w zero_item h) in omega arith

  module _ {v : List ℕ} {a b i j lo hi : ℕ} (ab : a ≤ b) (p : JoinsLeft zero_item list i lo a v) (q : JoinsRight zero_item list j hi b v) where
    abbrev result : List Entry
    result = trim_end lo (take i list) ++ (entry lo hi v ∷ trim_start hi (drop j list))

    -- both sides stand among the items, and those are fewer than the words of the block
    pub among : (i ≤ n) × (j ≤ n) × (2 * n < length w)
    among =
        (omega (arith, p.left.within, list_count), omega (arith, q.right.within, list_count), omega (arith, held, le_mul s n ok.two))

    put_result : put (entries_of s w) a b (some v) ≡ result
    put_result = ap (λ (es : List Entry). put es a b (some v)) (sym same_list)
        ∙ unique (with list a b (some v)) _ _ (put_is list a b (some v)) (put_some zero_item list list_sound i j lo hi p.left q.right a b ab v p q)

    result_count : i + 1 + (n - j) ≡ length result
    result_count =
        omega (
          arith,
          length-append (trim_end lo (take i list)) (entry lo hi v ∷ trim_start hi (drop j list)),
          trim_length lo (take i list),
          length-take i list,
          start_length hi (drop j list),
          length-drop j list,
          list_count,
          p.left.within,
        )

    module _ {cap : ℕ} (g : cap ≡ capacity l (length w)) where
      pub put_no : cap < i + 1 + (n - j) → outcome (refused 5 0) (w ∷ []) ≡ stored 0 l w (edited l w a b (some v))
      put_no h = answer_no _ result cap (i + 1 + (n - j)) put_result result_count g h

      pub put_yes : (w' : List ℕ) → i + 1 + (n - j) ≤ cap → w' ≡ block_of (length w) result
          → outcome (given []) (w' ∷ []) ≡ stored 0 l w (edited l w a b (some v))
      put_yes w' h e = answer_yes _ result cap (i + 1 + (n - j)) w' put_result result_count g h e

      pub put_done : (new : List ℕ) {new' w' : List ℕ} → v ≡ value_of s new → new' ≡ lo ∷ hi ∷ drop 2 new → i + 1 + (n - j) ≤ cap
          → w' ≡ block_of (length w) (trim_end lo (take i list) ++ (items_of s 1 new' ++ trim_start hi (drop j list)))
          → outcome (given []) (w' ∷ []) ≡ stored 0 l w (edited l w a b (some v))
      put_done new {w' = w'} ve e h b =
          put_yes w' h (b ∙ ap (λ (x : List ℕ). block_of (length w) (trim_end lo (take i list) ++ (items_of s 1 x ++ trim_start hi (drop j list)))) e
          ∙ ap (λ (x : List ℕ). block_of (length w) (trim_end lo (take i list) ++ (entry lo hi x ∷ trim_start hi (drop j list)))) (sym ve))

      pub put_ok : (new : List ℕ) → length new ≡ s → i + 1 + (n - j) ≤ cap → PlaceOk w new s n i j 1 hi
      put_ok new e h =
          record {
            two = ok.two;
            held = held;
            i_le = among.0;
            j_le = among.1;
            whole = omega (arith, mul-one s);
            room = room_of i j 1 cap among.0 among.1 g h;
            from =
                high_of j hi q.right;
          }

  module _ (a b i j : ℕ) (ab : a ≤ b) (f : FirstFrom w s 1 n a i) (h : FirstFrom w s 2 n (b + 1) j) where
    abbrev rest : List Entry
    rest = trim_end a (take i list) ++ trim_start b (drop j list)

    out_result : put (entries_of s w) a b none ≡ rest
    out_result = ap (λ (es : List Entry). put es a b none) (sym same_list)
        ∙ unique (with list a b none) _ _ (put_is list a b none)
        (put_none zero_item list list_sound i j a b (find_left s ok.two n w i a f) (find_right s ok.two n w j b h) ab)

    rest_count : i + (n - j) ≡ length rest
    rest_count =
        omega (
          arith,
          length-append (trim_end a (take i list)) (trim_start b (drop j list)),
          trim_length a (take i list),
          length-take i list,
          start_length b (drop j list),
          length-drop j list,
          list_count,
          f.within,
        )

    module _ (cap : ℕ) (g : cap ≡ capacity l (length w)) where
      pub out_no : cap < i + (n - j) → outcome (refused 5 0) (w ∷ []) ≡ stored 0 l w (edited l w a b none)
      out_no m = answer_no _ rest cap (i + (n - j)) out_result rest_count g m

      pub out_yes : (w' : List ℕ) → i + (n - j) ≤ cap → w' ≡ block_of (length w) rest → outcome (given []) (w' ∷ []) ≡ stored 0 l w (edited l w a b none)
      out_yes w' m e = answer_yes _ rest cap (i + (n - j)) w' out_result rest_count g m e

      pub out_ok : (new : List ℕ) → length new ≡ 0 → i + (n - j) ≤ cap → PlaceOk w new s n i j 0 b
      out_ok new e m =
          record {
            two = ok.two;
            held = held;
            i_le = f.within;
            j_le = h.within;
            whole = omega (arith, mul-zero s);
            room = room_of i j 0 cap
                f.within h.within g (omega arith);
            from = high_of j b (find_right s ok.two n w j b h);
          }

-- a new entry for a sound block, and what its sides are found among
pub sides_ok : {w new : List ℕ} {l : Layout} {n : ℕ} → PutOk w new l n → SideOk w new l.width n
sides_ok {w} {new} p = side_ok p.edit new p.whole

-- a block that was judged sound, with its range in order
pub edit_ok : {l : Layout} {w : List ℕ} {a b n : ℕ} {u : Unit {0}} → FirstOf (window_refusals l w a b) (Ok u) → 2 ≤ l.width → n ≡ get_or w 0 0
    → EditOk w l n × (a ≤ b)
edit_ok {l} {w} {a} {b} f two c = (record { two = two; block = verdict_sound l w f.clear.0; count = c }, in_order a b f.clear.1.0)

-- the call, by the refusals of its block and its range
module _ (l : Layout) (w : List ℕ) (a b : ℕ) (o : Option (List ℕ)) where
  pub edit_refused : (e : Refusal) → FirstOf (window_refusals l w a b) (Err e) → outcome (refusal_says e) (w ∷ []) ≡ edit_call l w a b o
  unfolding edit_call
  edit_refused e f =
      refused_by (stops_in (window_refusals l w a b) (room 0 l (length w) (edited l w a b o) ∷ []) e f) (w ∷ []) (holding w (edited l w a b o))

  -- stored, or refused for want of room
  pub edit_kept : (u : Unit {0}) (x : Outcome) → FirstOf (window_refusals l w a b) (Ok u) → x ≡ stored 0 l w (edited l w a b o) → x ≡ edit_call l w a b o
  unfolding edit_call
  edit_kept u x f k = given_by f (w ∷ []) x (stored 0 l w (edited l w a b o)) k
