-- One function has one sound list.
use mathlib.Core.Path.{◌≡◌, refl, sym, ◌∙◌, ap}
use mathlib.Core.Option.{Option, none, some}
use mathlib.Core.List.{List, [], ◌∷◌}
use Prim.Native.Nat.{ℕ, suc, ◌≤◌}
use native.Mathlib.Omega.{arith}
use native.Mathlib.Decide.{dec_le}
use Rattle.entries.specs.Entries.{Value, Entry, value_at, Link, Sound, ListOf}
use Rattle.entries.proofs.Sides.{Side, under, inside, past, side, val_in, val_past, none_upto, none_under}

pub none≢some : {A : Type 0} (o : Option A) (a : A) → o ≡ none → o ≡ some a → ⊥
none≢some o a p q = let z : ◌≡◌ {A = ℕ} 0 1 = cc in omega arith

-- right after an entry the next list does not go on with its value
pub no_join : (p : Entry) (es : List Entry) → Link p es → Sound es → value_at es (suc p.high) ≡ some p.value → ⊥
no_join p [] l s q = none≢some none p.value refl q
no_join p (e ∷ es) l s q = go (side e (suc p.high))
  where
    go : Side e (suc p.high) → ⊥
    go (under h) = none≢some _ p.value (none_under e es s _ h) q
    go (inside h k) =
        let v : some e.value ≡ some p.value = sym (val_in e es _ h k) ∙ q in
        l.1 (omega arith) (cc)
    go (past h) = omega arith

-- two heads: neither begins first, neither ends first
low_le : (e f : Entry) (es fs : List Entry) → Sound (e ∷ es) → Sound (f ∷ fs)
    → ((x : ℕ) → value_at (e ∷ es) x ≡ value_at (f ∷ fs) x) → f.low ≤ e.low
low_le e f es fs s t h = go (dec_le f.low e.low)
  where
    go : Dec (f.low ≤ e.low) → f.low ≤ e.low
    go (yes p) = p
    go (no p) =
        absurd (none≢some _ e.value (none_under f fs t e.low (omega arith)) (sym (h e.low) ∙ val_in e es e.low (omega arith) s.0))

high_le : (e f : Entry) (es fs : List Entry) → Sound (e ∷ es) → Sound (f ∷ fs) → e.low ≡ f.low → e.value ≡ f.value
    → ((x : ℕ) → value_at (e ∷ es) x ≡ value_at (f ∷ fs) x) → f.high ≤ e.high
high_le e f es fs s t q v h = go (dec_le f.high e.high)
  where
    x : ℕ
    x = suc e.high

    go : Dec (f.high ≤ e.high) → f.high ≤ e.high
    go (yes p) = p
    go (no p) =
        absurd (no_join e es s.1 s.2 (sym (val_past e es x (omega arith)) ∙ h x ∙ val_in f fs x (omega arith) (omega arith) ∙ ap some (sym v)))

tails : (e f : Entry) (es fs : List Entry) → Sound (e ∷ es) → Sound (f ∷ fs) → e.high ≡ f.high
    → ((x : ℕ) → value_at (e ∷ es) x ≡ value_at (f ∷ fs) x) → (x : ℕ) → value_at es x ≡ value_at fs x
tails e f es fs s t q h x = go (dec_le x e.high)
  where
    go : Dec (x ≤ e.high) → value_at es x ≡ value_at fs x
    go (yes p) = none_upto e es s.1 s.2 x p ∙ sym (none_upto f fs t.1 t.2 x (omega arith))
    go (no p) = sym (val_past e es x (omega arith)) ∙ h x ∙ val_past f fs x (omega arith)

entry_path : (e f : Entry) → e.low ≡ f.low → e.high ≡ f.high → e.value ≡ f.value → e ≡ f
entry_path e f p q r = λ i. record { low = p i; high = q i; value = r i }

-- [D3] two sound lists that give every number the same value are one list
pub canonical : (es fs : List Entry) → Sound es → Sound fs → ((x : ℕ) → value_at es x ≡ value_at fs x) → es ≡ fs
canonical [] [] s t h = refl
canonical [] (f ∷ fs) s t h = absurd (none≢some none f.value refl (h f.low ∙ val_in f fs _ (omega arith) t.0))
canonical (e ∷ es) [] s t h = absurd (none≢some none e.value refl (sym (h e.low) ∙ val_in e es _ (omega arith) s.0))
canonical (e ∷ es) (f ∷ fs) s t h =
    let l₁ = low_le e f es fs s t h in
    let l₂ = low_le f e fs es t s (λ x. sym (h x)) in
    let l : e.low ≡ f.low = omega arith in
    let w : some e.value ≡ some f.value =
    sym (val_in e es e.low (omega arith) s.0) ∙ h e.low ∙ val_in f fs e.low (omega arith) (omega arith) in
    let v : e.value ≡ f.value = cc in
    let h₁ = high_le e f es fs s t l v h in
    let h₂ = high_le f e fs es t s (sym l) (sym v) (λ x. sym (h x)) in
    let k : e.high ≡ f.high = omega arith in
    let r = canonical es fs s.2 t.2 (tails e f es fs s t k h) in
    let q = entry_path e f l k v in
    cc

-- the output of every operation is the one sound list of a function
pub unique : (F : ℕ → Option Value) (es fs : List Entry) → ListOf F es → ListOf F fs → es ≡ fs
unique F es fs b c = canonical es fs b.sound c.sound (λ x. b.names x ∙ sym (c.names x))
