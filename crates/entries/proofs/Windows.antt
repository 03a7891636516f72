-- The entries wholly below a number, and those that meet a window, are consecutive parts of a sound list.
use mathlib.Core.Path.{◌≡◌, refl, sym, ◌∙◌, ap}
use mathlib.Core.Bool.{Bool, true, false}
use mathlib.Core.Option.{Option}
use mathlib.Core.List.{List, [], ◌∷◌}
use Prim.Native.Nat.{ℕ, zero, suc, ◌-◌, ◌≤◌, ◌<◌}
use native.Mathlib.Omega.{arith}
use native.Mathlib.Decide.{dec_lt}
use lib.Dec.{leb}
use lib.ListN.{length, get_or, take, drop}
use borrow.Author.Tests.{le-leb, lt-leb, lt-ltb, le-ltb}
use Rattle.entries.specs.Entries.{Value, Entry, Sound, value_at}
use Rattle.entries.specs.Build.{pick, andb}
use Rattle.entries.specs.Sets.{has}
use Rattle.entries.specs.Questions.{meeting, wholly_below}
use Rattle.entries.proofs.Index.{rises, sound_ok}
use Rattle.entries.proofs.Sides.{Side, under, inside, past, side, val_in, val_past, none_under, none_upto}

-- how a window's test answers
meets_in : (a b : ℕ) (e : Entry) → e.low ≤ b → a ≤ e.high → andb (leb e.low b) (leb a e.high) ≡ true
meets_in a b e p q = rw (le-leb e.low b p, le-leb a e.high q)

meets_late : (a b : ℕ) (e : Entry) → b < e.low → andb (leb e.low b) (leb a e.high) ≡ false
meets_late a b e p = rw (lt-leb e.low b p)

meets_early : (a b : ℕ) (e : Entry) → e.high < a → andb (leb e.low b) (leb a e.high) ≡ false
meets_early a b e p = go (leb e.low b)
  where
    go : (t : Bool) → andb t (leb a e.high) ≡ false
    go true = lt-leb a e.high p
    go false = refl

module _ (d : Entry) where
  -- i entries end below a, and the next does not
  pub record Passed (es : List Entry) (a i : ℕ) : Type 0 where
    pub within : i ≤ length es
    pub before : (k : ℕ) → k < i → (get_or es k d).high < a
    pub from : i < length es → a ≤ (get_or es i d).high

  -- j entries begin at or below b, and the next does not
  pub record Begun (es : List Entry) (b j : ℕ) : Type 0 where
    pub within : j ≤ length es
    pub before : (k : ℕ) → k < j → (get_or es k d).low ≤ b
    pub from : j < length es → b < (get_or es j d).low

  -- without the first, which is one of them
  pub passed_rest : {e : Entry} {es : List Entry} {a i : ℕ} → Passed (e ∷ es) a (suc i) → Passed es a i
  passed_rest n = record { within = omega (arith, n.within); before = λ k p. n.before (suc k) (omega arith); from = λ p. n.from (omega arith) }

  next_low : (e : Entry) (es : List Entry) (x : ℕ) → Sound (e ∷ es) → x ≤ e.high → zero < length es → x < (get_or es zero d).low
  next_low e es x s h p = omega (arith, rises d (e ∷ es) s zero (suc zero) (omega arith) (omega arith))

  pub below_none : (es : List Entry) (a : ℕ) → Sound es → (zero < length es → a ≤ (get_or es zero d).high) → wholly_below a es ≡ []
  below_none [] a s h = refl
  below_none (e ∷ es) a s h =
      let g : a ≤ e.high = h (omega arith) in
      rw (le-ltb e.high a g) (below_none es a s.2 (λ p. omega (arith, next_low e es a s g p, sound_ok d es s.2 zero p)))

  pub below_take : (es : List Entry) (a i : ℕ) → Sound es → Passed es a i → wholly_below a es ≡ take i es
  below_take es a zero s n = below_none es a s n.from
  below_take [] a (suc i) s n = refl
  below_take (e ∷ es) a (suc i) s n =
      rw (lt-ltb e.high a (n.before zero (omega arith)))
      (ap (λ (l : List Entry). e ∷ l)
      (below_take es a i s.2 (passed_rest n)))

  passed_next : (e : Entry) (es : List Entry) (a i : ℕ) → e.high < a → Passed es a i → Passed (e ∷ es) a (suc i)
  passed_next e es a i h n = record { within = omega (arith, n.within); before = before; from = λ p. n.from (omega arith) }
    where
      before : (k : ℕ) → k < suc i → (get_or (e ∷ es) k d).high < a
      before zero p = h
      before (suc k) p = n.before k (omega arith)

  -- [W1] as many entries as are wholly below a end below it, and the next does not
  pub below_passed : (es : List Entry) (a : ℕ) → Sound es → Passed es a (length (wholly_below a es))
  below_passed [] a s = record { within = omega arith; before = λ k p. absurd (omega arith); from = λ p. absurd (omega arith) }
  below_passed (e ∷ es) a s = go (dec_lt e.high a) (below_passed es a s.2)
    where
      go : Dec (e.high < a) → Passed es a (length (wholly_below a es)) → Passed (e ∷ es) a (length (wholly_below a (e ∷ es)))
      go (yes h) n = rw (lt-ltb e.high a h) (passed_next e es a (length (wholly_below a es)) h n)
      go (no h) n = rw (below_none (e ∷ es) a s (λ p. omega arith))
          (record { within = omega arith; before = λ k p. absurd (omega arith); from = λ p. omega arith })

  module _ (a b : ℕ) (ab : a ≤ b) where
    late : (es : List Entry) → Sound es → (zero < length es → b < (get_or es zero d).low) → meeting a b es ≡ []
    late [] s h = refl
    late (e ∷ es) s h =
        let g : b < e.low = h (omega arith) in
        rw (meets_late a b e g) (late es s.2 (λ p. next_low e es b s (omega (arith, s.0)) p))

    inner : (es : List Entry) (j : ℕ) → Sound es → (zero < length es → a ≤ (get_or es zero d).high) → Begun es b j → meeting a b es ≡ take j es
    inner es zero s h n = late es s n.from
    inner [] (suc j) s h n = refl
    inner (e ∷ es) (suc j) s h n =
        let g : a ≤ e.high = h (omega arith) in
        rw (meets_in a b e (n.before zero (omega arith)) g)
        (ap (λ (l : List Entry). e ∷ l)
        (inner es j s.2 (λ p. omega (arith, next_low e es a s g p, sound_ok d es s.2 zero p))
        (record { within = omega (arith, n.within); before = λ k p. n.before (suc k) (omega arith); from = λ p. n.from (omega arith) })))

    -- the window is the part between the two
    -- [S6, M7] the entries that meet the window are those from i up to j
    pub meeting_part : (es : List Entry) (i j : ℕ) → Sound es → Passed es a i → Begun es b j → meeting a b es ≡ take (j - i) (drop i es)
    meeting_part es zero j s m n = let k : j - 0 ≡ j = omega arith in rw k (inner es j s m.from n)
    meeting_part [] (suc i) j s m n = absurd (omega (arith, m.within))
    meeting_part (e ∷ es) (suc i) zero s m n = absurd (omega (arith, m.before zero (omega arith), n.from (omega arith), s.0))
    meeting_part (e ∷ es) (suc i) (suc j) s m n =
        let k : suc j - suc i ≡ j - i = omega arith in
        rw (meets_early a b e (m.before zero (omega arith)), k)
        (meeting_part es i j s.2 (passed_rest m)
        (record { within = omega (arith, n.within); before = λ k p. n.before (suc k) (omega arith); from = λ p. n.from (omega arith) }))

    pub in_order : (es : List Entry) (i j : ℕ) → Sound es → Passed es a i → Begun es b j → i ≤ j
    in_order es zero j s m n = omega arith
    in_order [] (suc i) j s m n = absurd (omega (arith, m.within))
    in_order (e ∷ es) (suc i) zero s m n = absurd (omega (arith, m.before zero (omega arith), n.from (omega arith), s.0))
    in_order (e ∷ es) (suc i) (suc j) s m n =
        let g = in_order es i j s.2 (passed_rest m)
        (record { within = omega (arith, n.within); before = λ k p. n.before (suc k) (omega arith); from = λ p. n.from (omega arith) }) in
        omega arith

-- one entry meets the window x..x where x has a value, and else none
meets_one : (e : Entry) (es : List Entry) (x : ℕ) → Sound (e ∷ es) → Side e x → length (meeting x x es) ≡ pick (has (value_at es x)) 1 0
    → length (meeting x x (e ∷ es)) ≡ pick (has (value_at (e ∷ es) x)) 1 0
meets_one e es x s (under h) ih =
    let l : length (meeting x x (e ∷ es)) ≡ length (meeting x x es) = rw (lt-leb e.low x h) refl in
    l ∙ ih ∙ ap (λ (o : Option Value). pick (has o) 1 0) (none_upto e es s.1 s.2 x (omega (arith, s.0)) ∙ sym (none_under e es s x h))
meets_one e es x s (inside h k) ih =
    let l : length (meeting x x (e ∷ es)) ≡ suc (length (meeting x x es)) = rw (le-leb e.low x h, le-leb x e.high k) refl in
    l ∙ ap suc (ih ∙ ap (λ (o : Option Value). pick (has o) 1 0) (none_upto e es s.1 s.2 x k))
    ∙ sym (ap (λ (o : Option Value). pick (has o) 1 0) (val_in e es x h k))
meets_one e es x s (past h) ih =
    let l : length (meeting x x (e ∷ es)) ≡ length (meeting x x es) = rw (le-leb e.low x (omega (arith, s.0)), lt-leb x e.high h) refl in
    l ∙ ih ∙ sym (ap (λ (o : Option Value). pick (has o) 1 0) (val_past e es x h))

pub one_meets : (es : List Entry) (x : ℕ) → Sound es → length (meeting x x es) ≡ pick (has (value_at es x)) 1 0
one_meets [] x s = refl
one_meets (e ∷ es) x s = meets_one e es x s (side e x) (one_meets es x s.2)
