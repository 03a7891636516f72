-- What the words of a sound block say of a number, item by item.
use mathlib.Core.Path.{◌≡◌, refl, sym, ◌∙◌, ap, subst}
use mathlib.Core.Option.{none, some}
use mathlib.Core.List.{List, [], ◌∷◌}
use Prim.Native.Nat.{ℕ, zero, suc, ◌+◌, ◌*◌, ◌-◌, ◌≤◌, ◌<◌}
use native.Mathlib.Omega.{arith}
use native.Mathlib.Decide.{dec_lt}
use lib.ListN.{length, get_or, take, drop}
use Rattle.entries.specs.Entries.{Value, Entry, Sound, value_at}
use Rattle.entries.specs.Sets.{M, past_m}
use Rattle.entries.proofs.Sides.{Side, under, inside, past, side, val_in, val_past, val_under}
use Rattle.entries.proofs.Index.{rises}
use Rattle.blocks.specs.declared.Layout.{Layout}
use Rattle.blocks.specs.Blocks.{entries_of, verdict}
use Rattle.blocks.specs.Steps.{zero_item, item_at}
use Rattle.blocks.proofs.Items.{entries_count, entry_is}
use Rattle.blocks.proofs.Judging.{verdict_sound}

-- a number is at most M, or past it
pub split : (x : ℕ) {P : Type 0} → (x ≤ M → P) → (past_m ≤ x → P) → P
split x {P} f g = go (dec_lt x past_m)
  where
    go : Dec (x < past_m) → P
    go (yes h) = f (omega arith)
    go (no h) = g (omega arith)

-- entry i holds x, and has the value v
pub record Held (es : List Entry) (x : ℕ) (v : Value) : Type 0 where
  pub index : ℕ
  pub below : index < length es
  pub low : (get_or es index zero_item).low ≤ x
  pub high : x ≤ (get_or es index zero_item).high
  pub value : (get_or es index zero_item).value ≡ v

some_is : {v u : Value} → some v ≡ some u → v ≡ u
some_is e = cc

none≢some : {v : Value} → none ≡ some v → ⊥
none≢some {v} e = let z : ◌≡◌ {A = ℕ} 0 1 = cc in omega arith

later : {e : Entry} {es : List Entry} {x : ℕ} {v : Value} → Held es x v → Held (e ∷ es) x v
later h = record { index = suc h.index; below = omega (arith, h.below); low = h.low; high = h.high; value = h.value }

-- a number with a value stands in an entry
pub value_held : (es : List Entry) (x : ℕ) (v : Value) → value_at es x ≡ some v → Held es x v
value_held [] x v e = absurd (none≢some e)
value_held (e ∷ es) x v q = go (side e x) (value_held es x v)
  where
    go : Side e x → (value_at es x ≡ some v → Held es x v) → Held (e ∷ es) x v
    go (under h) rest = later (rest (sym (val_under e es x h) ∙ q))
    go (inside h k) rest = record { index = 0; below = omega arith; low = h; high = k; value = some_is (sym (val_in e es x h k) ∙ q) }
    go (past h) rest = later (rest (sym (val_past e es x h) ∙ q))

-- and the entry that it stands in gives its value
pub held_value : (es : List Entry) → Sound es → (x : ℕ) (v : Value) (i : ℕ) → i < length es → (get_or es i zero_item).low ≤ x → x ≤ (get_or es i zero_item).high
    → (get_or es i zero_item).value ≡ v → value_at es x ≡ some v
held_value [] s x v i h l k q = absurd (omega arith)
held_value (e ∷ es) s x v zero h l k q = val_in e es x l k ∙ ap some q
held_value (e ∷ es) s x v (suc i) h l k q =
    val_past e es x (omega (arith, rises zero_item (e ∷ es) s 0 (suc i) (omega arith) h))
    ∙ held_value es s.2 x v i (omega arith) l k q

-- the same of a sound block, by its words
module _ (l : Layout) (w : List ℕ) (two : 2 ≤ l.width) (sound : verdict l w ≡ 0) where
  abbrev es : List Entry
  es = entries_of l.width w

  count : length es ≡ get_or w 0 0
  count = entries_count l.width two w (get_or w 0 0) refl

  item : (i : ℕ) → i < get_or w 0 0 → get_or es i zero_item ≡ item_at l.width w i
  item = entry_is l.width two w (get_or w 0 0) refl

  -- item i holds x
  pub record InItem (x : ℕ) (v : Value) : Type 0 where
    pub index : ℕ
    pub below : index < get_or w 0 0
    pub low : get_or w (l.width * index + 1) 0 ≤ x
    pub high : x ≤ get_or w (l.width * index + 2) 0
    pub value : take (l.width - 2) (drop (l.width * index + 3) w) ≡ v

  pub in_item : (x : ℕ) (v : Value) → value_at es x ≡ some v → InItem x v
  in_item x v e =
      let h = value_held es x v e in
      let k : h.index < get_or w 0 0 = omega (arith, h.below, count) in
      let i = item h.index k in
      record {
        index = h.index;
        below = k;
        low = subst (λ (d : Entry). d.low ≤ x) i h.low;
        high = subst (λ (d : Entry). x ≤ d.high) i h.high;
        value = sym (ap (λ (d : Entry). d.value) i) ∙ h.value;
      }

  pub item_in : (x : ℕ) (v : Value) → InItem x v → value_at es x ≡ some v
  item_in x v g =
      let i = sym (item g.index g.below) in
      held_value es (verdict_sound l w sound).sound x v g.index (omega (arith, g.below, count))
      (subst (λ (d : Entry). d.low ≤ x) i g.low) (subst (λ (d : Entry). x ≤ d.high) i g.high) (sym (ap (λ (d : Entry). d.value) i) ∙ g.value)
