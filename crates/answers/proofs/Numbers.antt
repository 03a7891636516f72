-- Reasons and the table's numbers, either way.
use mathlib.Core.Path.{◌≡◌, refl, sym, ◌∙◌, ap}
use mathlib.Core.Bool.{Bool, true, false}
use mathlib.Core.List.{List, []}
use Prim.Native.Nat.{ℕ, zero, suc, ◌≤◌, ◌<◌}
use native.Mathlib.Omega.{arith}
use native.Mathlib.Decide.{dec_lt}
use lib.Dec.{eqb}
use Rattle.std.proofs.lemmas.Bool.{ne_eqb}
use Rattle.std.specs.Prelude.{Err}
use borrow.Author.Tests.{eqb-true}
use Rattle.entries.specs.Build.{andb}
use Rattle.entries.proofs.Values.{and_true}
use Rattle.answers.specs.declared.Reason.{Reason}
use Rattle.answers.specs.declared.Reason.TheVariants.{NoBlock, Count, Order, Backwards, Room, ZeroRun, NoGap, Short, Mark, Kind, Check}
use Rattle.answers.specs.declared.Reason.TheVariants.{Content, Trailing, Overlap, NoSpace, Align}
use Rattle.answers.specs.Answers.{Answer, given, refused, Outcome, outcome, judged as judged_by, last_number}
use Rattle.answers.specs.Says.{number_of, at_place, refusal_says, judged_says, reason_of, refusal_of, judged_of}

-- a test that holds of each number below n, found by computing it
abbrev below : (ℕ → Bool) → ℕ → Bool
below test zero = true
below test (suc n) = andb (test n) (below test n)

each : (test : ℕ → Bool) (n : ℕ) → below test n ≡ true → (k : ℕ) → k < n → test k ≡ true
each test zero h k p = absurd (omega arith)
each test (suc n) h k p = let a = and_true (test n) (below test n) h in go a.0 (λ q. each test n a.1 k q) (dec_lt k n)
  where
    go : test n ≡ true → (k < n → test k ≡ true) → Dec (k < n) → test k ≡ true
    go e ih (yes q) = ih q
    go e ih (no q) = let i : k ≡ n = omega arith in ap test i ∙ e

-- each number of the table is that of its reason
pub reason_number : (k : ℕ) → 1 ≤ k → k ≤ last_number → number_of (reason_of k) ≡ k
reason_number zero h l = absurd (omega arith)
reason_number (suc k) h l =
    eqb-true (number_of (reason_of (suc k))) (suc k) (each (λ k. eqb (number_of (reason_of (suc k))) (suc k)) last_number refl k (omega arith))

pub number_reason : (r : Reason) → reason_of (number_of r) ≡ r
number_reason NoBlock = refl
number_reason Count = refl
number_reason Order = refl
number_reason Backwards = refl
number_reason Room = refl
number_reason ZeroRun = refl
number_reason NoGap = refl
number_reason Short = refl
number_reason Mark = refl
number_reason Kind = refl
number_reason Check = refl
number_reason Content = refl
number_reason Trailing = refl
number_reason Overlap = refl
number_reason NoSpace = refl
number_reason Align = refl

-- a number that no reason has, as 0 or one past the table, is read as the table's last
other_number : (n : ℕ) → ((r : Reason) → number_of r ≡ n → ⊥) → reason_of n ≡ Align
other_number n h = go n h (dec_lt n 17)
  where
    past : (m : ℕ) → 16 < m → reason_of m ≡ Align
    past m l =
        let e : (k : ℕ) → k ≤ 16 → eqb m k ≡ false = λ k q. ne_eqb m k (λ z. omega arith) in
        rw (
          e 1 (omega arith),
          e 2 (omega arith),
          e 3 (omega arith),
          e 4 (omega arith),
          e 5 (omega arith),
          e 6 (omega arith),
          e 7 (omega arith),
          e 8 (omega arith),
          e 9 (omega arith),
          e 10 (omega arith),
          e 11 (omega arith),
          e 12 (omega arith),
          e 13 (omega arith),
          e 14 (omega arith),
          e 15 (omega arith),
        ) refl

    go : (n : ℕ) → ((r : Reason) → number_of r ≡ n → ⊥) → Dec (n < 17) → reason_of n ≡ Align
    go zero h d = refl
    go (suc k) h (yes l) = absurd (h (reason_of (suc k)) (reason_number (suc k) (omega arith) (omega arith)))
    go (suc k) h (no l) = past (suc k) (omega arith)

-- the refusal of a number that code read as a reason, or that no reason has
pub read_number : (r : Reason) (n p : ℕ) → number_of r ≡ n → at_place r p ≡ refusal_of n p
read_number r n p e = ap (λ (x : Reason). at_place x p) (sym (number_reason r) ∙ ap reason_of e)

pub unread_number : (n p : ℕ) → ((r : Reason) → number_of r ≡ n → ⊥) → at_place Align p ≡ refusal_of n p
unread_number n p h = ap (λ (x : Reason). at_place x p) (sym (other_number n h))

-- the refusal of a number says that number
pub refusal_says_lem : (k place : ℕ) → 1 ≤ k → k ≤ last_number → refusal_says (refusal_of k place) ≡ refused k place
refusal_says_lem k place h l = ap (λ (n : ℕ). refused n place) (reason_number k h l)

-- a number's answer is the outcome that a verdict gives
pub judged_says_lem : (k place : ℕ) (lent : List (List ℕ)) → k ≤ last_number
    → outcome (judged_says (judged_of k place)) lent ≡ judged_by k place lent (outcome (given []) lent)
judged_says_lem zero place lent l = refl
judged_says_lem (suc k) place lent l = ap (λ (a : Answer). outcome a lent) (refusal_says_lem (suc k) place (omega arith) l)

pub judged_refused : (k place : ℕ) → (k ≡ 0 → ⊥) → Err (refusal_of k place) ≡ judged_of k place
judged_refused zero place n = absurd (n refl)
judged_refused (suc k) place n = refl

-- an outcome whose refusal, if it is one, has a number of the table
abbrev pub Small : Outcome → Type 0
Small (outcome (given xs) lent) = Unit {0}
Small (outcome (refused n p) lent) = n ≤ last_number

pub judged_small : (v place : ℕ) (lent : List (List ℕ)) (o : Outcome) → v ≤ last_number → Small o → Small (judged_by v place lent o)
judged_small zero place lent o l s = s
judged_small (suc v) place lent o l s = l

-- every reason has a number of the table, of which none is 0
pub reason_small : (r : Reason) → (1 ≤ number_of r) × (number_of r ≤ last_number)
reason_small NoBlock = (omega arith, omega arith)
reason_small Count = (omega arith, omega arith)
reason_small Order = (omega arith, omega arith)
reason_small Backwards = (omega arith, omega arith)
reason_small Room = (omega arith, omega arith)
reason_small ZeroRun = (omega arith, omega arith)
reason_small NoGap = (omega arith, omega arith)
reason_small Short = (omega arith, omega arith)
reason_small Mark = (omega arith, omega arith)
reason_small Kind = (omega arith, omega arith)
reason_small Check = (omega arith, omega arith)
reason_small Content = (omega arith, omega arith)
reason_small Trailing = (omega arith, omega arith)
reason_small Overlap = (omega arith, omega arith)
reason_small NoSpace = (omega arith, omega arith)
reason_small Align = (omega arith, omega arith)
