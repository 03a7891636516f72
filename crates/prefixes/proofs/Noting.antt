-- Noting blocks: what a pass counts and stores, one block after another.
use mathlib.Core.Path.{◌≡◌, refl, sym, ◌∙◌, ap, ap₂}
use mathlib.Core.Bool.{Bool, true, false}
use mathlib.Core.List.{List, [], ◌∷◌, ◌++◌}
use Prim.Native.Nat.{ℕ, suc, ◌+◌, ◌*◌, ◌≤◌, ◌<◌, min}
use native.Mathlib.Decide.{dec_lt}
use native.Mathlib.Omega.{arith}
use lib.Dec.{ltb}
use lib.ListN.{length, set, length-set}
use lib.Seq.{sets}
use borrow.Author.Tests.{lt-ltb, le-ltb}
use Rattle.entries.specs.Build.{pick}
use Rattle.blocks.specs.Blocks.{words_of}
use Rattle.tilings.specs.Prefixes.{Prefix, pairs_of}
use Rattle.prefixes.specs.Steps.{Tally, tally, noted, all_noted, HasRoom}

-- a pair leaves the output as long as it was
pub noted_length : (room : ℕ) (p : Prefix) (t : Tally) → length (noted room p t).words ≡ length t.words
noted_length room p t = go (ltb t.count room)
  where
    go : (s : Bool) → length (pick s (set (set t.words (2 * t.count + 1) p.start) (2 * t.count + 2) p.exponent) t.words) ≡ length t.words
    go true = simp length-set
    go false = refl

pub all_length : (room : ℕ) (ps : List Prefix) (t : Tally) → length (all_noted room ps t).words ≡ length t.words
all_length room [] t = refl
all_length room (p ∷ ps) t = all_length room ps (noted room p t) ∙ noted_length room p t

-- two lists, one after the other
pub all_append : (room : ℕ) (ps qs : List Prefix) (t : Tally) → all_noted room (ps ++ qs) t ≡ all_noted room qs (all_noted room ps t)
all_append room [] qs t = refl
all_append room (p ∷ ps) qs t = all_append room ps qs (noted room p t)

-- a block in room, and one past it: counted up to the number of words
module _ (room n : ℕ) (p : Prefix) (w : List ℕ) where
  pub noted_stored : HasRoom room w → n < room
      → tally (n + 1) (set (set w (2 * n + 1) p.start) (2 * n + 2) p.exponent) ≡ noted room p (tally n w)
  noted_stored r h = rw (lt-ltb n (length w) (omega arith), lt-ltb n room h)

  pub noted_counted : room ≤ n → n < length w → tally (n + 1) w ≡ noted room p (tally n w)
  noted_counted r h = rw (lt-ltb n (length w) h, le-ltb n room r)

  pub noted_past : room ≤ n → length w ≤ n → tally n w ≡ noted room p (tally n w)
  noted_past r h = rw (le-ltb n (length w) h, le-ltb n room r)

-- COUNTING: with no room nothing is stored, and every block is counted up to the number of words
pub all_counted : (ps : List Prefix) (n : ℕ) (w : List ℕ) → n ≤ length w → all_noted 0 ps (tally n w) ≡ tally (min (n + length ps) (length w)) w
all_counted [] n w h = ap (λ (k : ℕ). tally k w) (omega arith)
all_counted (p ∷ ps) n w h = go (dec_lt n (length w)) (all_counted ps (n + 1) w) (all_counted ps n w h)
  where
    go : Dec (n < length w) → (n + 1 ≤ length w → all_noted 0 ps (tally (n + 1) w) ≡ tally (min (n + 1 + length ps) (length w)) w)
        → all_noted 0 ps (tally n w) ≡ tally (min (n + length ps) (length w)) w
        → all_noted 0 ps (noted 0 p (tally n w)) ≡ tally (min (n + suc (length ps)) (length w)) w
    go (yes l) more past = ap (all_noted 0 ps) (sym (noted_counted 0 n p w (omega arith) l)) ∙ more (omega arith) ∙ ap (λ (k : ℕ). tally k w) (omega arith)
    go (no l) more past = ap (all_noted 0 ps) (sym (noted_past 0 n p w (omega arith) (omega arith))) ∙ past ∙ ap (λ (k : ℕ). tally k w) (omega arith)

-- STORING: with room for all, their pairs stand in the words one after another
pub all_stored : (room : ℕ) (ps : List Prefix) (n : ℕ) (w : List ℕ) → HasRoom room w → n + length ps ≤ room
    → all_noted room ps (tally n w) ≡ tally (n + length ps) (sets w (2 * n + 1) (words_of (pairs_of ps)))
all_stored room [] n w r h = ap (λ (k : ℕ). tally k w) (omega arith)
all_stored room (p ∷ ps) n w r h =
    ap (all_noted room ps) (sym (noted_stored room n p w r (omega arith)))
    ∙ all_stored room ps (n + 1) _ (rw (length-set, length-set) r) (omega arith)
    ∙ ap₂ tally (omega arith)
    (ap₂ (λ (i j : ℕ). sets (set (set w (2 * n + 1) p.start) i p.exponent) j (words_of (pairs_of ps))) (omega arith) (omega arith))
