-- PREFIX BLOCKS: what the two calls leave, in plain terms; which blocks are taken; what the plain method tests; and that both methods agree.
use Rattle.std.specs.Prelude.{◌≡◌, Bool, true, false, List, [], ◌∷◌, ◌++◌, ℕ, suc, ◌+◌, ◌*◌, ◌-◌, ◌/◌, ◌%◌, ◌^◌, ◌≤◌, ◌<◌, length, get_or}
use Rattle.entries.specs.Entries.{Each, Entry}
use Rattle.entries.specs.Sets.{M}
use Rattle.answers.specs.Answers.{refuse}
use Rattle.blocks.specs.Blocks.{set_layout, entries_of, block_of, Lent}
use Rattle.tilings.specs.Prefixes.{Prefix, prefix, Block, whole, holds, named, InOrder, taken_all, prefixes, wholly_out, wholly_in, most, pairs_of}
use Rattle.prefixes.specs.Calls.{prefix_call, audit_call}
use Rattle.demands.specs.Plain.{Iff, SoundSet, In, leaves}
use Rattle.demands.specs.Outcomes.{Accepts}

-- block i of a list
abbrev pub block_at : List Prefix → ℕ → Prefix
block_at ps i = get_or ps i (prefix 0 0)

-- [P1, P2, P4] What an accepted call leaves in an output of L words, of a set whose members m accepts: blocks in rising order, how many they are
-- in word 0, the start and the exponent of each in a pair behind it, and 0 in every later word. They name exactly the set's numbers, and no list
-- of blocks that does, in whatever order, is shorter.
pub record BlocksLeft (L : ℕ) (m : ℕ → Bool) (after : List ℕ) : Type 0 where
  pub blocks : List Prefix
  pub long : length after ≡ L
  pub count : get_or after 0 0 ≡ length blocks
  pub start : (i : ℕ) → i < length blocks → get_or after (1 + 2 * i) 0 ≡ (block_at blocks i).start
  pub exponent : (i : ℕ) → i < length blocks → get_or after (2 + 2 * i) 0 ≡ (block_at blocks i).exponent
  pub later : (k : ℕ) → 1 + 2 * length blocks ≤ k → get_or after k 0 ≡ 0
  pub each : Each Block blocks
  pub order : InOrder blocks
  pub names : (x : ℕ) → x ≤ M → named blocks x ≡ m x
  pub fewest : (qs : List Prefix) → Each Block qs → ((x : ℕ) → x ≤ M → named qs x ≡ m x) → length blocks ≤ length qs

-- [P2, P4, D2] accepted, the call leaves such blocks of the set that it was lent (and so does the audit: `Agree`)
abbrev pub PrefixBlocks : Type 0
PrefixBlocks = (w o after : List ℕ) → Lent w → prefix_call w o ≡ leaves after → BlocksLeft (length o) (In w) after

-- [P4, P7] at most 126 blocks a range, so that an output of 1 + 252 n words has room for the blocks of any set of n ranges
abbrev pub PrefixMost : Type 0
PrefixMost = ((w o after : List ℕ) → Lent w → prefix_call w o ≡ leaves after → get_or after 0 0 ≤ most * get_or w 0 0)
    × ((w o : List ℕ) → Lent w → SoundSet w → length o ≤ M → 1 + 2 * (most * get_or w 0 0) ≤ length o → Accepts (prefix_call w o))

-- [P3] From the n numbers from p on the largest block that fits is taken: its power of two divides p, as every power divides 0, and is at most n;
-- no exponent up to 64 for which this holds is greater. The others are taken from the numbers behind it.
pub record TakesLargest (p n : ℕ) : Type 0 where
  pub exponent : ℕ
  pub divides : p % 2 ^ exponent ≡ 0
  pub within : 2 ^ exponent ≤ n
  pub small : exponent ≤ whole
  pub greatest : (f : ℕ) → f ≤ whole → p % 2 ^ f ≡ 0 → 2 ^ f ≤ n → f ≤ exponent
  pub first : taken_all p n ≡ prefix p exponent ∷ taken_all (p + 2 ^ exponent) (n - 2 ^ exponent)

-- [P3] So it is wherever numbers are left, and where none are there is no block;
abbrev pub TakenLargest : Type 0
TakenLargest = ((p n : ℕ) → 0 < n → TakesLargest p n) × ((p : ℕ) → taken_all p 0 ≡ [])

-- [P3] the blocks of a set are those of its ranges in turn;
abbrev pub TakenInTurn : Type 0
TakenInTurn = (prefixes [] ≡ []) × ((e : Entry) (es : List Entry) → prefixes (e ∷ es) ≡ taken_all e.low (suc e.high - e.low) ++ prefixes es)

-- [P3] and these are the blocks whose pairs an accepted call leaves
abbrev pub PrefixTaken : Type 0
PrefixTaken = (w o after : List ℕ) → prefix_call w o ≡ leaves after → after ≡ block_of (length o) (pairs_of (prefixes (entries_of set_layout.width w)))

-- [P5] The plain method's tests, of a sound set: a block is wholly out exactly if none of its numbers is a member,
abbrev pub WhollyOut : Type 0
WhollyOut = (w : List ℕ) → SoundSet w → (p : Prefix) → Block p
    → Iff (wholly_out (entries_of set_layout.width w) p.exponent p.start ≡ true) ((x : ℕ) → holds p x ≡ true → In w x ≡ false)

-- [P5] and wholly in exactly if each of them is
abbrev pub WhollyIn : Type 0
WhollyIn = (w : List ℕ) → SoundSet w → (p : Prefix) → Block p
    → Iff (wholly_in (entries_of set_layout.width w) p.exponent p.start ≡ true) ((x : ℕ) → holds p x ≡ true → In w x ≡ true)

-- [P6] BOTH METHODS AGREE: they have one outcome, accepted or refused, whatever is lent
abbrev pub Agree : Type 0
Agree = (w o : List ℕ) → Lent w → prefix_call w o ≡ audit_call w o

-- [P7] the call is accepted exactly if the set is sound, the output has words, and it has room for the blocks: floor((L-1)/2) of them in L words,
-- with no other limit
abbrev pub PrefixAccepted : Type 0
PrefixAccepted = (w o : List ℕ) → length o ≤ M
    → Iff (Accepts (prefix_call w o)) (SoundSet w × (0 < length o) × (length (prefixes (entries_of set_layout.width w)) ≤ (length o - 1) / 2))

-- [P7, R5] and it is refused with 5, at the output, exactly if the set is sound, the output has words, and there are more blocks than that
abbrev pub PrefixRoom : Type 0
PrefixRoom = (w o : List ℕ) → length o ≤ M
    → Iff (prefix_call w o ≡ refuse 5 1 (o ∷ []))
    (SoundSet w × (0 < length o) × ((length o - 1) / 2 < length (prefixes (entries_of set_layout.width w))))
