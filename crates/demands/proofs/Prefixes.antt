-- The blocks of a set in its output's words, that both methods agree, and room: the statements of specs/Prefixes.
use mathlib.Core.Path.{◌≡◌, refl, sym, ◌∙◌, ap}
use mathlib.Core.Bool.{true}
use mathlib.Core.List.{List, [], ◌∷◌, ◌++◌}
use Prim.Native.Nat.{ℕ, zero, suc, ◌+◌, ◌*◌, ◌-◌, ◌^◌, ◌≤◌, ◌<◌}
use native.Mathlib.Omega.{arith}
use lib.Dec.{leb, ltb}
use lib.ListN.{length, get_or, replicate}
use borrow.Author.Tests.{leb-true, ltb-true, le-leb, lt-ltb}
use Rattle.entries.specs.Entries.{Entry}
use Rattle.entries.proofs.Values.{and_true}
use Rattle.answers.specs.Answers.{Outcome, judged, in_turn}
use Rattle.answers.proofs.Turns.{turn_accepted, clear_at}
use Rattle.blocks.specs.Blocks.{set_layout, entries_of, words_of, block_of, verdict}
use Rattle.blocks.specs.Steps.{zero_item, item_at}
use Rattle.blocks.specs.Calls.{output, room, holding}
use Rattle.blocks.proofs.Words.{words_length}
use Rattle.blocks.proofs.Items.{entry_is}
use Rattle.blocks.proofs.Judging.{verdict_sound, room_words}
use Rattle.blocks.proofs.Refusing.{some_words, room_fits}
use Rattle.blocks.proofs.Canonical.{entries_stored, length_stored}
use Rattle.operations.specs.Calls.{one_refusals}
use Rattle.sets.proofs.Asking.{entries_plain}
use Rattle.sets.proofs.Sizes.{entries_under}
use Rattle.tilings.specs.Prefixes.{Prefix, whole, holds, largest, prefixes, audited, pairs_of}
use Rattle.tilings.proofs.Powers.{largest_is}
use Rattle.tilings.proofs.Taking.{taken_one, taken_none}
use Rattle.tilings.proofs.Judging.{out_free, free_out, in_full, full_in}
use Rattle.tilings.proofs.Blocks.{block_ends, agree, names, each_block, in_order, fewest}
use Rattle.prefixes.specs.Calls.{pair_layout, prefix_call, audit_call}
use Rattle.prefixes.proofs.Storing.{length_pairs, shaped_pairs, taken_most}
use Rattle.demands.specs.Plain.{leaves}
use Rattle.demands.specs.Prefixes.{block_at, PrefixBlocks, TakenLargest, TakenInTurn, PrefixTaken, WhollyOut, WhollyIn, Agree}
use Rattle.demands.specs.Prefixes.{PrefixAccepted, PrefixRoom, PrefixMost}
use Rattle.demands.proofs.Outcomes.{iff_by, one_accepted_exactly}
use Rattle.demands.proofs.Exactly.{one_room}

-- a pair's words are its block's parts
pair_start : (ps : List Prefix) (i : ℕ) → (get_or (pairs_of ps) i zero_item).low ≡ (block_at ps i).start
pair_start [] i = refl
pair_start (p ∷ ps) zero = refl
pair_start (p ∷ ps) (suc i) = pair_start ps i

pair_exponent : (ps : List Prefix) (i : ℕ) → (get_or (pairs_of ps) i zero_item).high ≡ (block_at ps i).exponent
pair_exponent [] i = refl
pair_exponent (p ∷ ps) zero = refl
pair_exponent (p ∷ ps) (suc i) = pair_exponent ps i

-- zeros behind words
zero_at : (n k : ℕ) → get_or {A = ℕ} (replicate n 0) k 0 ≡ 0
zero_at zero k = refl
zero_at (suc n) zero = refl
zero_at (suc n) (suc k) = zero_at n k

zero_behind : (ws : List ℕ) (n k : ℕ) → length ws ≤ k → get_or (ws ++ replicate n 0) k 0 ≡ 0
zero_behind [] n k h = zero_at n k
zero_behind (w ∷ ws) n zero h = absurd (omega arith)
zero_behind (w ∷ ws) n (suc k) h = zero_behind ws n k (omega arith)

-- the words of blocks stored in L words: how many they are, each pair, and the zeros behind
module _ (L : ℕ) (ps : List Prefix) where
  stored_count : get_or (block_of L (pairs_of ps)) 0 0 ≡ length ps
  unfolding block_of
  stored_count = length_pairs ps

  stored_pair : (i : ℕ) → i < length ps → item_at 2 (block_of L (pairs_of ps)) i ≡ get_or (pairs_of ps) i zero_item
  stored_pair i h =
      sym (entry_is 2 (omega arith) (block_of L (pairs_of ps)) (length ps) (sym stored_count) i h)
      ∙ ap (λ (es : List Entry). get_or es i zero_item) (entries_stored 2 (omega arith) L (pairs_of ps) (shaped_pairs ps))

  stored_later : (k : ℕ) → 1 + 2 * length ps ≤ k → get_or (block_of L (pairs_of ps)) k 0 ≡ 0
  unfolding block_of
  stored_later zero h = absurd (omega arith)
  stored_later (suc k) h =
      zero_behind (words_of (pairs_of ps)) (L - (1 + length (words_of (pairs_of ps)))) k
      (omega (arith, words_length 2 (pairs_of ps) (shaped_pairs ps), length_pairs ps))

-- an accepted call
record Taken (w o after : List ℕ) : Type 0 where
  sound : verdict set_layout w ≡ 0
  fits : 1 + 2 * length (prefixes (entries_of 2 w)) ≤ length o
  is : after ≡ block_of (length o) (pairs_of (prefixes (entries_of 2 w)))

accepted : (w o after : List ℕ) → prefix_call w o ≡ leaves after → Taken w o after
unfolding prefix_call
accepted w o after e =
    let ps = prefixes (entries_of 2 w) in
    let fs = one_refusals set_layout pair_layout w (length o) (pairs_of ps) in
    let k = turn_accepted fs (o ∷ []) (holding o (pairs_of ps)) [] (after ∷ []) e in
    let c = clear_at fs k.0 in
    let r = room_words pair_layout (length o) (length (pairs_of ps)) (some_words (length o) (c 1)) (room_fits pair_layout (length o) (pairs_of ps) (c 2)) in
    record { sound = c 0; fits = omega (arith, length_pairs ps); is = same (pairs_of ps) k.1 }
  where
    same : (es : List Entry) → holding o es ≡ leaves after → after ≡ block_of (length o) es
    same es d = cc

pub prefix_taken : PrefixTaken
prefix_taken w o after e = (accepted w o after e).is

pub prefix_blocks : PrefixBlocks
prefix_blocks w o after lent e =
    let a = accepted w o after e in
    let es = entries_of 2 w in
    let ps = prefixes es in
    let so = (verdict_sound set_layout w a.sound).sound in
    let pl = entries_plain w in
    let un = entries_under w lent in
    rw a.is (record {
      blocks = ps;
      long = length_stored 2 (omega arith) (length o) (pairs_of ps) (shaped_pairs ps) (omega (arith, a.fits, length_pairs ps));
      count = stored_count (length o) ps;
      start = λ i h.
          let q : 1 + 2 * i ≡ 2 * i + 1 = omega arith in
          rw q (ap (λ (e : Entry). e.low) (stored_pair (length o) ps i h) ∙ pair_start ps i);
      exponent = λ i h.
          let q : 2 + 2 * i ≡ 2 * i + 2 = omega arith in
          rw q (ap (λ (e : Entry). e.high) (stored_pair (length o) ps i h) ∙ pair_exponent ps i);
      later = stored_later (length o) ps;
      each = each_block es so pl un;
      order = in_order es so pl un;
      names = λ x h. names es so pl un x;
      fewest = fewest es so pl un;
    })

pub taken_largest : TakenLargest
taken_largest = (
  λ p n h. (let l = largest_is whole p n h in record {
    exponent = largest whole p n;
    divides = l.divides;
    within = l.within;
    small = l.small;
    greatest = l.most;
    first = taken_one p n h;
  }),
  taken_none,
)

pub taken_in_turn : TakenInTurn
unfolding prefixes
taken_in_turn = (refl, λ e es. refl)

-- THE PLAIN METHOD. A block holds a number exactly if it is one of its 2^e from its start on.
held_in_lem : (p : Prefix) (x : ℕ) → holds p x ≡ true → (p.start ≤ x) × (x < p.start + 2 ^ p.exponent)
held_in_lem p x h =
    let k = and_true (leb p.start x) (ltb x (p.start + 2 ^ p.exponent)) h in
    (leb-true p.start x k.0, ltb-true x (p.start + 2 ^ p.exponent) k.1)

in_held : (p : Prefix) (x : ℕ) → p.start ≤ x → x < p.start + 2 ^ p.exponent → holds p x ≡ true
in_held p x a b = rw (le-leb p.start x a, lt-ltb x (p.start + 2 ^ p.exponent) b)

pub wholly_out_lem : WhollyOut
wholly_out_lem w s p b =
    let so = (verdict_sound set_layout w s).sound in
    record {
      to = λ h x k. let i = held_in_lem p x k in out_free (entries_of 2 w) so p.exponent p.start h x i.0 i.1;
      from = λ h. free_out (entries_of 2 w) so p.exponent p.start (λ x i j. h x (in_held p x i j));
    }

pub wholly_in_lem : WhollyIn
wholly_in_lem w s p b =
    let so = (verdict_sound set_layout w s).sound in
    record {
      to = λ h x k. let i = held_in_lem p x k in in_full (entries_of 2 w) so p.exponent p.start (block_ends p b) h x i.0 i.1;
      from = λ h. full_in (entries_of 2 w) so p.exponent p.start (block_ends p b) (λ x i j. h x (in_held p x i j));
    }

-- BOTH METHODS: the set is judged, and of a sound one both have the same blocks
pub both_agree : Agree
unfolding prefix_call audit_call
both_agree w o lent = go (verdict set_layout w) refl
  where
    -- what comes behind the judge
    rest : List Prefix → Outcome
    rest ps = in_turn (output 1 (length o) ∷ room 1 pair_layout (length o) (pairs_of ps) ∷ []) (o ∷ []) (holding o (pairs_of ps))

    go : (v : ℕ) → verdict set_layout w ≡ v
        → judged v 0 (o ∷ []) (rest (prefixes (entries_of 2 w))) ≡ judged v 0 (o ∷ []) (rest (audited (entries_of 2 w)))
    go zero z = ap rest (agree (entries_of 2 w) (verdict_sound set_layout w z).sound (entries_plain w) (entries_under w lent))
    go (suc v) z = refl

-- ROOM: no output has so many words that M bounds its pairs
pub prefix_accepted : PrefixAccepted
unfolding prefix_call
prefix_accepted w o h =
    let n = length_pairs (prefixes (entries_of 2 w)) in
    iff_by (one_accepted_exactly set_layout pair_layout (λ es. pairs_of (prefixes es)) w o)
    (λ k. (k.0, k.1, omega (arith, k.2)))
    (λ k. (k.0, k.1, omega (arith, k.2)))

pub prefix_room : PrefixRoom
unfolding prefix_call
prefix_room w o h =
    let n = length_pairs (prefixes (entries_of 2 w)) in
    iff_by (one_room set_layout pair_layout (λ es. pairs_of (prefixes es)) w o)
    (λ k. (k.0, k.1, omega (arith, k.2)))
    (λ k. (k.0, k.1, omega (arith, k.2)))

-- HOW MANY: each range has at most 126 blocks
pub prefix_most : PrefixMost
prefix_most = (
  λ w o after lent e. (let a = accepted w o after e in rw (a.is, stored_count) (taken_most (verdict_sound set_layout w a.sound) lent refl)),
  λ w o lent s h l. (prefix_accepted w o h).from (s, omega arith, omega (arith, taken_most (verdict_sound set_layout w s) lent refl)),
)
