-- DEMAND 2 for maps: «a map acts as the plain assignment, at 0 and 2^64 - 1 too. Each call changes the named numbers and no others.»
-- Each theorem says what an accepted call leaves, by the value of every number.
use mathlib.Core.Path.{◌≡◌, refl, sym, ◌∙◌, ap}
use mathlib.Core.Bool.{Bool, true, false}
use mathlib.Core.Option.{Option, none, some}
use mathlib.Core.List.{List, [], ◌∷◌}
use Prim.Native.Nat.{ℕ, ◌+◌, ◌≤◌}
use native.Mathlib.Omega.{arith}
use lib.ListN.{length}
use Rattle.entries.specs.Entries.{Value, value_at, or_else}
use Rattle.entries.specs.Build.{pick, with, combine}
use Rattle.entries.proofs.Put.{put_is}
use Rattle.entries.proofs.Operations.{combined}
use Rattle.entries.specs.Sets.{has, member}
use Rattle.entries.specs.Maps.{keep_if, overlay, restriction, domain}
use Rattle.entries.proofs.Limits.{domain_lists}
use Rattle.answers.specs.Answers.{given, outcome}
use Rattle.blocks.specs.Blocks.{entries_of, block_of, verdict, set_layout, map_layout, Shaped}
use Rattle.blocks.proofs.Judging.{verdict_sound}
use Rattle.blocks.proofs.Canonical.{Zeros, block_is, listed_shaped, shaped_value}
use Rattle.entries.proofs.Canon.{canonical, none≢some}
use Rattle.edits.specs.Calls.{edited, edit_refusals, edit_call}
use Rattle.blocks.specs.declared.Layout.{Layout}
use Rattle.operations.specs.Calls.{two_refusals, from_two, one_refusals}
use Rattle.maps.specs.Calls.{map_entries, assign_call, erase_call, overlay_call, restriction_call, domain_call}
use Rattle.operations.proofs.Making.{entries_shaped}
use Rattle.answers.proofs.Turns.{turn_accepted, clear_at}
use Rattle.blocks.specs.Calls.{holding}
use Rattle.blocks.proofs.Refusing.{some_words}
use Rattle.maps.proofs.Looking.{width}
use Rattle.demands.specs.Plain.{Left, SetLeft}
use Rattle.demands.proofs.Accepting.{written_left, set_left}
use Rattle.entries.proofs.Sets.{set_of}
use Rattle.entries.proofs.Questions.{within}

-- «One stored form»: two sound map blocks of the same length that give every number the same value and have zeros after have the same words
pub one_map_form : (w v : List ℕ) → verdict map_layout w ≡ 0 → verdict map_layout v ≡ 0 → length w ≡ length v → Zeros width w → Zeros width v
    → ((x : ℕ) → value_at (map_entries w) x ≡ value_at (map_entries v) x) → w ≡ v
one_map_form w v p q l y z h =
    let b = verdict_sound map_layout w p in
    let c = verdict_sound map_layout v q in
    let e = canonical (map_entries w) (map_entries v) b.sound c.sound h in
    block_is map_layout w (omega arith) b y ∙ ap (block_of (length w)) e ∙ ap (λ (n : ℕ). block_of n (map_entries v)) l
    ∙ sym (block_is map_layout v (omega arith) c z)

edit_means : (w : List ℕ) (a b : ℕ) (o : Option Value) (xs after : List ℕ) → ((v : Value) → o ≡ some v → 2 + length v ≡ width)
    → edit_call map_layout w a b o ≡ outcome (given xs) (after ∷ [])
    → Left map_layout (length w) (with (map_entries w) a b o) after
unfolding edit_call
edit_means w a b o xs after f e =
    let es = edited map_layout w a b o in
    let fs = edit_refusals map_layout w a b es in
    let k = turn_accepted fs (w ∷ []) (holding w es) xs (after ∷ []) e in
    let c = clear_at fs k.0 in
    let s = verdict_sound map_layout w (c 0) in
    let is = put_is (map_entries w) a b o in
    let sized = listed_shaped width (with (map_entries w) a b o) es is (λ x v q. go (within a b x) x v (entries_shaped map_layout w (omega arith) s) q) in
    written_left map_layout w es (with (map_entries w) a b o) xs after (omega arith) s.some sized is (c 2) k.1
  where
    go : (t : Bool) (x : ℕ) (v : Value) → Shaped width (map_entries w) → pick t o (value_at (map_entries w) x) ≡ some v → 2 + length v ≡ width
    go true x v h q = f v q
    go false x v h q = shaped_value width (map_entries w) h x v q

-- assign: v on a..b, every other number as it was
pub assign_means : (w : List ℕ) (a b v : ℕ) (xs after : List ℕ) → assign_call w a b v ≡ outcome (given xs) (after ∷ [])
    → Left map_layout (length w) (with (map_entries w) a b (some (v ∷ []))) after
assign_means w a b v xs after e =
    edit_means w a b (some (v ∷ [])) xs after (λ u q. let k : v ∷ [] ≡ u = cc in sym (ap (λ (l : List ℕ). 2 + length l) k) ∙ refl) e

-- erase: no value on a..b, every other number as it was
pub erase_means : (w : List ℕ) (a b : ℕ) (xs after : List ℕ) → erase_call w a b ≡ outcome (given xs) (after ∷ [])
    → Left map_layout (length w) (with (map_entries w) a b none) after
erase_means w a b xs after e = edit_means w a b none xs after (λ u q. absurd (none≢some none u refl q)) e

-- overlay and restriction: the output's value at each number, from the inputs' values
map_means : (second : Layout) (f : Option Value → Option Value → Option Value) → f none none ≡ none → 2 ≤ second.width
    → ((o p : Option Value) → ((v : Value) → o ≡ some v → 2 + length v ≡ width) → ((v : Value) → p ≡ some v → 2 + length v ≡ second.width) →
    (v : Value) → f o p ≡ some v → 2 + length v ≡ width)
    → (w v o xs after : List ℕ) → from_two map_layout second map_layout (combine f) w v o ≡ outcome (given xs) (after ∷ [])
    → Left map_layout (length o) (λ x. f (value_at (map_entries w) x) (value_at (entries_of second.width v) x)) after
map_means second f z two sized w v o xs after e =
    let vs = entries_of second.width v in
    let es = combine f (map_entries w) vs in
    let fs = two_refusals map_layout second map_layout w v (length o) es in
    let k = turn_accepted fs (o ∷ []) (holding o es) xs (after ∷ []) e in
    let c = clear_at fs k.0 in
    let s = entries_shaped map_layout w (omega arith) (verdict_sound map_layout w (c 0)) in
    let t = entries_shaped second v two (verdict_sound second v (c 1)) in
    let is = combined f z (map_entries w) vs in
    written_left map_layout o es _ xs after (omega arith) (some_words (length o) (c 2))
    (listed_shaped width _ es is
    (λ x. sized (value_at (map_entries w) x) (value_at vs x) (shaped_value width (map_entries w) s x) (shaped_value second.width vs t x))) is (c 3) k.1

pub overlay_means : (upper lower o xs after : List ℕ) → overlay_call upper lower o ≡ outcome (given xs) (after ∷ [])
    → Left map_layout (length o) (λ x. or_else (value_at (map_entries upper) x) (value_at (map_entries lower) x)) after
unfolding overlay_call overlay
overlay_means = map_means map_layout or_else refl (omega arith) sized
  where
    sized : (o p : Option Value) → ((v : Value) → o ≡ some v → 2 + length v ≡ width) → ((v : Value) → p ≡ some v → 2 + length v ≡ width)
        → (v : Value) → or_else o p ≡ some v → 2 + length v ≡ width
    sized none p f g v q = g v q
    sized (some u) p f g v q = f v q

pub restriction_means : (map set o xs after : List ℕ) → restriction_call map set o ≡ outcome (given xs) (after ∷ [])
    → Left map_layout (length o) (λ x. keep_if (value_at (map_entries map) x) (value_at (entries_of 2 set) x)) after
unfolding restriction_call restriction
restriction_means = map_means set_layout keep_if refl (omega arith) sized
  where
    sized : (o p : Option Value) → ((v : Value) → o ≡ some v → 2 + length v ≡ width) → ((v : Value) → p ≡ some v → 2 + length v ≡ 2) → (v : Value)
        → keep_if o p ≡ some v → 2 + length v ≡ width
    sized o none f g v q = absurd (none≢some none v refl q)
    sized o (some u) f g v q = f v q

-- domain: a number is a member exactly where it has a value
pub domain_means : (map o xs after : List ℕ) → domain_call map o ≡ outcome (given xs) (after ∷ [])
    → SetLeft (length o) (λ x. has (value_at (map_entries map) x)) after
unfolding domain_call
domain_means map o xs after e =
    let es = domain (map_entries map) in
    let fs = one_refusals map_layout set_layout map (length o) es in
    let k = turn_accepted fs (o ∷ []) (holding o es) xs (after ∷ []) e in
    let c = clear_at fs k.0 in
    set_left o es _ xs after (some_words (length o) (c 1)) (set_of (member (map_entries map)) es (domain_lists (map_entries map))) (c 2) k.1
