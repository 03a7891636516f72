-- How long a sound list can be: no longer than any list that holds all its starts.
use mathlib.Core.Path.{◌≡◌, refl, sym, ◌∙◌, ap}
use mathlib.Core.Logic.{◌≢◌, ◌⊎◌, inl, inr}
use mathlib.Core.Option.{Option, none, some}
use mathlib.Core.List.{List, [], ◌∷◌}
use Prim.Native.Nat.{ℕ, zero, suc, ◌*◌, ◌≤◌}
use native.Mathlib.Omega.{arith}
use native.Mathlib.Decide.{dec_le, ℕ_discrete}
use lib.ListN.{length}
use Rattle.entries.specs.Sets.{Plain}
use Rattle.entries.specs.Entries.{Value, Entry, value_at, Sound, ListOf}
use Rattle.entries.proofs.Sides.{Side, under, inside, past, side, val_in, val_past, none_upto, none_under}
use Rattle.entries.proofs.Canon.{none≢some, no_join}
use Rattle.entries.proofs.Plain.{gap_of}
use Rattle.entries.specs.Build.{cuts_of}
use Rattle.entries.proofs.Operations.{value_changes}
use Rattle.entries.proofs.Cuts.{NotIn, Below, Rising, notin_below}

-- one number taken out of a list that holds it
pub record Out (x : ℕ) (cs : List ℕ) : Type 0 where
  pub rest : List ℕ
  pub shorter : length cs ≡ suc (length rest)
  pub others : (y : ℕ) → y ≢ x → NotIn y rest → NotIn y cs

out : (x : ℕ) (cs : List ℕ) → NotIn x cs ⊎ Out x cs
out x [] = inl tt
out x (c ∷ cs) = go (ℕ_discrete x c) (out x cs)
  where
    go : Dec (x ≡ c) → NotIn x cs ⊎ Out x cs → NotIn x (c ∷ cs) ⊎ Out x (c ∷ cs)
    go (yes p) o = inr (record { rest = cs; shorter = refl; others = λ y n m. (omega arith, m) })
    go (no p) (inl n) = inl (p, n)
    go (no p) (inr o) = inr (record { rest = c ∷ o.rest; shorter = omega (arith, o.shorter); others = λ y n m. (m.0, o.others y n m.1) })

-- a rising list whose every number is in cs is no longer than cs
pub rising_length : (ls cs : List ℕ) → Rising ls → ((x : ℕ) → NotIn x cs → NotIn x ls) → length ls ≤ length cs
rising_length [] cs r h = omega arith
rising_length (l ∷ ls) cs r h = go (out l cs) (rising_length ls)
  where
    go : NotIn l cs ⊎ Out l cs → ((ds : List ℕ) → Rising ls → ((x : ℕ) → NotIn x ds → NotIn x ls) → length ls ≤ length ds) → suc (length ls) ≤ length cs
    go (inl n) ih = absurd ((h l n).0 refl)
    go (inr o) ih = let k = ih o.rest r.1 (λ x n. on x n (ℕ_discrete x l)) in omega (arith, o.shorter)
      where
        on : (x : ℕ) → NotIn x o.rest → Dec (x ≡ l) → NotIn x ls
        on x n (yes p) = rw p (notin_below l ls r.0 r.1)
        on x n (no p) = (h x (o.others x p n)).1

abbrev pub lows : List Entry → List ℕ
lows [] = []
lows (e ∷ es) = e.low ∷ lows es

-- the numbers right after the entries
abbrev pub ends : List Entry → List ℕ
ends [] = []
ends (e ∷ es) = suc e.high ∷ ends es

pub length_lows : (es : List Entry) → length (lows es) ≡ length es
length_lows [] = refl
length_lows (e ∷ es) = ap suc (length_lows es)

pub length_ends : (es : List Entry) → length (ends es) ≡ length es
length_ends [] = refl
length_ends (e ∷ es) = ap suc (length_ends es)

below_lows : (e : Entry) (es : List Entry) → Sound (e ∷ es) → Below e.low (lows es)
below_lows e [] s = tt
below_lows e (f ∷ es) s = omega arith

pub rising_lows : (es : List Entry) → Sound es → Rising (lows es)
rising_lows [] s = tt
rising_lows (e ∷ es) s = (below_lows e es s, rising_lows es s.2)

-- the value just before x; before 0 there is none
abbrev pub prev : (ℕ → Option Value) → ℕ → Option Value
prev F zero = none
prev F (suc y) = F y

-- from one number to the next: no value starts; no value ends
abbrev pub Down : Option Value → Option Value → Type 0
Down o o' = (v : Value) → o' ≡ some v → o ≡ some v

abbrev pub Up : Option Value → Option Value → Type 0
Up o o' = (v : Value) → o ≡ some v → o' ≡ some v

-- every start of F is in cs; every number at which a value has just ended is
abbrev pub StartsIn : (ℕ → Option Value) → List ℕ → Type 0
StartsIn F cs = (x : ℕ) → NotIn x cs → Down (prev F x) (F x)

abbrev pub EndsIn : (ℕ → Option Value) → List ℕ → Type 0
EndsIn F cs = (x : ℕ) → NotIn x cs → Up (prev F x) (F x)

no_low : (es : List Entry) → Sound es → (x : ℕ) → Down (prev (value_at es) x) (value_at es x) → NotIn x (lows es)
no_low [] s x n = tt
no_low (e ∷ es) s zero n = (
  λ p. none≢some _ _ refl (n e.value (val_in e es zero (omega arith) (omega arith))),
  no_low es s.2 zero (λ v q. absurd (none≢some _ _ (none_upto e es s.1 s.2 zero (omega arith)) q)),
)
no_low (e ∷ es) s (suc y) n = (
  λ p. none≢some _ _ (none_under e es s y (omega arith)) (n e.value (val_in e es (suc y) (omega arith) (omega arith))),
  no_low es s.2 (suc y) (λ v q. later v q (dec_le (suc y) e.high) (dec_le y e.high)),
)
  where
    later : (v : Value) → value_at es (suc y) ≡ some v → Dec (suc y ≤ e.high) → Dec (y ≤ e.high) → value_at es y ≡ some v
    later v q (yes p) d = absurd (none≢some _ _ (none_upto e es s.1 s.2 (suc y) p) q)
    later v q (no p) (no r) = sym (val_past e es y (omega arith)) ∙ n v (val_past e es (suc y) (omega arith) ∙ q)
    later v q (no p) (yes r) =
        let k : y ≡ e.high = omega arith in
        let w : some e.value ≡ some v = sym (val_in e es y (omega arith) r) ∙ n v (val_past e es (suc y) (omega arith) ∙ q) in
        absurd (no_join e es s.1 s.2 (sym (ap (λ (z : ℕ). value_at es (suc z)) k) ∙ q ∙ sym w))

pub start_bound : (F : ℕ → Option Value) (es : List Entry) (cs : List ℕ) → ListOf F es → StartsIn F cs → length es ≤ length cs
start_bound F es cs l h =
    let k = rising_length (lows es) cs (rising_lows es l.sound) (λ x n. no_low es l.sound x (carry x (h x n))) in
    omega (arith, length_lows es)
  where
    carry : (x : ℕ) → Down (prev F x) (F x) → Down (prev (value_at es) x) (value_at es x)
    carry zero n v q = n v (sym (l.names zero) ∙ q)
    carry (suc y) n v q = l.names y ∙ n v (sym (l.names (suc y)) ∙ q)

-- a sound list's starts are its lows, its ends the numbers after its highs
pub starts : (es : List Entry) → Sound es → StartsIn (value_at es) (lows es)
starts [] s zero n v q = q
starts [] s (suc y) n v q = q
starts (e ∷ es) s zero n v q = absurd (none≢some _ _ (none_under e es s zero (omega arith)) q)
starts (e ∷ es) s (suc y) n v q = go (starts es s.2 (suc y) n.1 v) (side e (suc y)) (dec_le y e.high)
  where
    go : (value_at es (suc y) ≡ some v → value_at es y ≡ some v) → Side e (suc y) → Dec (y ≤ e.high) → value_at (e ∷ es) y ≡ some v
    go ih (under h) d = absurd (none≢some _ _ (none_under e es s (suc y) h) q)
    go ih (inside h k) d = val_in e es y (omega arith) (omega arith) ∙ sym (val_in e es (suc y) h k) ∙ q
    go ih (past h) (yes p) = absurd (none≢some _ _ (none_upto e es s.1 s.2 y p) (ih (sym (val_past e es (suc y) h) ∙ q)))
    go ih (past h) (no p) = val_past e es y (omega arith) ∙ ih (sym (val_past e es (suc y) h) ∙ q)

pub stops : (es : List Entry) → Sound es → EndsIn (value_at es) (ends es)
stops es s zero n v q = absurd (none≢some _ _ refl q)
stops [] s (suc y) n v q = q
stops (e ∷ es) s (suc y) n v q = go (stops es s.2 (suc y) n.1 v) (side e y)
  where
    go : (value_at es y ≡ some v → value_at es (suc y) ≡ some v) → Side e y → value_at (e ∷ es) (suc y) ≡ some v
    go ih (under h) = absurd (none≢some _ _ (none_under e es s y h) q)
    go ih (inside h k) = val_in e es (suc y) (omega arith) (omega arith) ∙ sym (val_in e es y h k) ∙ q
    go ih (past h) = val_past e es (suc y) (omega arith) ∙ ih (sym (val_past e es y h) ∙ q)

-- two values that change, and a function of them
module _ (f : Option Value → Option Value → Option Value) (z : f none none ≡ none) (a b : List Entry) where
  abbrev pub both_at : ℕ → Option Value
  both_at x = f (value_at a x) (value_at b x)

  pub bound : (cs : List ℕ) (es : List Entry) → ListOf both_at es
      → ((x : ℕ) → NotIn x cs → Down (f (prev (value_at a) x) (prev (value_at b) x)) (both_at x)) → length es ≤ length cs
  bound cs es l h = start_bound both_at es cs l (λ x n v q. go x (h x n v q))
    where
      go : (x : ℕ) {v : Value} → f (prev (value_at a) x) (prev (value_at b) x) ≡ some v → prev both_at x ≡ some v
      go zero q = sym z ∙ q
      go (suc y) q = q

-- a set changes at both ends of each range: a bound by all changes
pub no_cut : (es : List Entry) → Sound es → (x : ℕ) → prev (value_at es) x ≡ value_at es x → NotIn x (cuts_of es)
no_cut [] s x n = tt
no_cut (e ∷ es) s zero n = (
  λ p. none≢some _ _ refl (n ∙ val_in e es zero (omega arith) (omega arith)),
  (omega arith, no_cut es s.2 zero (sym (none_upto e es s.1 s.2 zero (omega arith)))),
)
no_cut (e ∷ es) s (suc y) n = (not_low, (not_end, no_cut es s.2 (suc y) (rest (dec_le (suc y) e.high))))
  where
    not_low : suc y ≢ e.low
    not_low p = none≢some _ _ (none_under e es s y (omega arith)) (n ∙ val_in e es (suc y) (omega arith) (omega arith))

    not_end : suc y ≢ suc e.high
    not_end p =
        let k : y ≡ e.high = omega arith in
        no_join e es s.1 s.2
        (ap (λ (z : ℕ). value_at es (suc z)) (sym k) ∙ sym (val_past e es (suc y) (omega arith)) ∙ sym n ∙ val_in e es y (omega arith) (omega arith))

    rest : Dec (suc y ≤ e.high) → value_at es y ≡ value_at es (suc y)
    rest (yes p) = none_upto e es s.1 s.2 y (omega arith) ∙ sym (none_upto e es s.1 s.2 (suc y) p)
    rest (no p) = sym (val_past e es y (omega (arith, not_end))) ∙ n ∙ val_past e es (suc y) (omega arith)

rising_cuts : (es : List Entry) → Plain es → Sound es → Rising (cuts_of es)
rising_cuts [] f s = tt
rising_cuts (e ∷ []) f s = (omega arith, (tt, tt))
rising_cuts (e ∷ g ∷ es) f s = let d = gap_of e (g ∷ es) f s.1 in (omega arith, (omega arith, rising_cuts (g ∷ es) f.1 s.2))

pub length_cuts : (es : List Entry) → length (cuts_of es) ≡ 2 * length es
length_cuts [] = refl
length_cuts (e ∷ es) = omega (arith, length_cuts es)

pub change_bound : (F : ℕ → Option Value) (es : List Entry) (cs : List ℕ) → Plain es → ListOf F es → ((x : ℕ) → NotIn x cs → prev F x ≡ F x)
    → 2 * length es ≤ length cs
change_bound F es cs f l h =
    let k = rising_length (cuts_of es) cs (rising_cuts es f l.sound) (λ x n. no_cut es l.sound x (carry x (h x n))) in
    omega (arith, length_cuts es)
  where
    carry : (x : ℕ) → prev F x ≡ F x → prev (value_at es) x ≡ value_at es x
    carry zero n = n ∙ sym (l.names zero)
    carry (suc y) n = l.names y ∙ n ∙ sym (l.names (suc y))

-- no change outside the cuts, before 0 too
pub still : (es : List Entry) → Sound es → (x : ℕ) → NotIn x (cuts_of es) → prev (value_at es) x ≡ value_at es x
still [] s zero n = refl
still (e ∷ es) s zero n = sym (none_under e es s zero (omega arith))
still es s (suc y) n = sym (value_changes es y n)
