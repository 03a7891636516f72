-- DEMAND 3: bulletins. What the calls `apply_call` and `fold_call` leave, and the laws of folding, said of accepted calls and their words.
-- «Applied to a list S it gives S without W, then joined with R.»
use mathlib.Core.Path.{◌≡◌, refl, sym, ◌∙◌, ap, ap₂}
use mathlib.Core.Bool.{Bool, true, false}
use mathlib.Core.List.{List, [], ◌∷◌}
use Prim.Native.Nat.{ℕ, ◌≤◌, ◌<◌}
use native.Mathlib.Omega.{arith}
use native.Mathlib.Decide.{dec_lt}
use lib.Dec.{ltb}
use lib.ListN.{length}
use borrow.Author.Tests.{lt-ltb}
use Rattle.entries.specs.Entries.{Entry}
use Rattle.entries.specs.Sets.{M, past_m, has, member, intersection}
use Rattle.entries.specs.Questions.{is_empty}
use Rattle.entries.specs.Bulletins.{amended, amend, Apart, shareb}
use Rattle.entries.proofs.Values.{true≢false}
use Rattle.entries.proofs.Plain.{set_canonical}
use Rattle.entries.proofs.Bulletins.{apart_sym, amended_is, amended_amended, amended_apart, amended_swap, effect_released, effect_withdrawn}
use Rattle.answers.specs.Answers.{given, Outcome, outcome, applies, Keeps, Clear}
use Rattle.blocks.specs.Blocks.{set_layout, entries_of, block_of, Lent}
use Rattle.blocks.specs.Calls.{no_block, no_room}
use Rattle.blocks.proofs.Judging.{verdict_sound, room_words}
use Rattle.blocks.proofs.Refusing.{some_words, room_fits}
use Rattle.searches.specs.Calls.{overlapping}
use Rattle.blocks.proofs.Canonical.{entries_stored, length_stored, sound_stored, plain_shaped}
use Rattle.sets.proofs.Asking.{entries_plain}
use Rattle.sweeps.proofs.Tables.{bounded}
use Rattle.bulletins.specs.Calls.{apply_refusals, apply_call, fold_refusals, fold_call}
use Rattle.answers.specs.Steps.{number_at}
use Rattle.answers.proofs.Turns.{turn_keeps, turn_accepted, clear_turn, clear_at}
use Rattle.demands.specs.Plain.{SetLeft}
use Rattle.demands.specs.Bulletins.{Bulletin, Effect}
use Rattle.demands.proofs.Sets.{disjoint_means, means_disjoint}

-- accepted, with the words of each output as they then are
abbrev pub accepted : List (List ℕ) → Outcome
accepted after = outcome (given []) after

-- REFUSED: nothing lent is changed
pub apply_keeps : (list released withdrawn out : List ℕ) → Keeps (out ∷ []) (apply_call list released withdrawn out)
unfolding apply_call
apply_keeps list released withdrawn out = turn_keeps (apply_refusals list released withdrawn (length out)) (out ∷ []) _ tt

pub fold_keeps : (r₁ w₁ r₂ w₂ out_r out_w : List ℕ) → Keeps (out_r ∷ out_w ∷ []) (fold_call r₁ w₁ r₂ w₂ out_r out_w)
unfolding fold_call
fold_keeps r₁ w₁ r₂ w₂ out_r out_w = turn_keeps (fold_refusals r₁ w₁ r₂ w₂ (length out_r) (length out_w)) (out_r ∷ out_w ∷ []) _ tt

pub overlap_apart : (r w : List Entry) → overlapping r w ≡ 0 → Apart r w
unfolding shareb
overlap_apart r w e = disjoint_means r w (go (intersection r w) e)
  where
    go : (es : List Entry) → ◌≡◌ {A = ℕ} (applies (ltb 0 (length es)) 14) 0 → is_empty es ≡ true
    go [] e = refl
    go (x ∷ es) e = absurd (let z : 14 ≡ 0 = rw (lt-ltb 0 (length (x ∷ es)) (omega arith)) at e in omega arith)

pub apart_overlap : (r w : List Entry) → Apart r w → overlapping r w ≡ 0
unfolding shareb
apart_overlap r w h = go (intersection r w) (means_disjoint r w h)
  where
    go : (es : List Entry) → is_empty es ≡ true → ◌≡◌ {A = ℕ} (applies (ltb 0 (length es)) 14) 0
    go [] e = refl
    go (x ∷ es) e = absurd (true≢false (sym e))

-- the block of an amended list, in a block of L words that has room for it
module _ (L : ℕ) (s r w : List Entry) where
  pub amended_entries : entries_of 2 (block_of L (amended s r w)) ≡ amended s r w
  amended_entries = entries_stored 2 (omega arith) L (amended s r w) (plain_shaped (amended s r w) (amended_is s r w).plain)

  amended_left : no_block L ≡ 0 → no_room set_layout L (amended s r w) ≡ 0
      → SetLeft L (λ x. amend (member s x) (member r x) (member w x)) (block_of L (amended s r w))
  amended_left b f =
      let p = some_words L b in
      let q = room_fits set_layout L (amended s r w) f in
      let h = plain_shaped (amended s r w) (amended_is s r w).plain in
      record {
        sound = sound_stored set_layout (omega arith) L (amended s r w) h p q (amended_is s r w).sound;
        long = length_stored 2 (omega arith) L (amended s r w) h (room_words set_layout L (length (amended s r w)) p q);
        members = λ x. ap (λ (l : List Entry). member l x) amended_entries ∙ (amended_is s r w).members x;
        stored_form = ap (block_of L) (sym amended_entries);
      }

-- an accepted application
pub record Applied (list released withdrawn out after : List ℕ) : Type 0 where
  pub clear : (i : ℕ) → number_at (apply_refusals list released withdrawn (length out)) i ≡ 0
  pub words : after ≡ block_of (length out) (amended (entries_of 2 list) (entries_of 2 released) (entries_of 2 withdrawn))

pub applied : (list released withdrawn out after : List ℕ) → apply_call list released withdrawn out ≡ accepted (after ∷ [])
    → Applied list released withdrawn out after
unfolding apply_call
applied list released withdrawn out after e =
    let fs = apply_refusals list released withdrawn (length out) in
    let k = turn_accepted fs (out ∷ []) _ [] (after ∷ []) e in
    record { clear = clear_at fs k.0; words = same _ k.1 }
  where
    same : (l : List ℕ) → outcome (given []) (l ∷ []) ≡ accepted (after ∷ []) → after ≡ l
    same l d = cc

-- an accepted fold
record Folded (r₁ w₁ r₂ w₂ out_r out_w R W : List ℕ) : Type 0 where
  clear : (i : ℕ) → number_at (fold_refusals r₁ w₁ r₂ w₂ (length out_r) (length out_w)) i ≡ 0
  released : R ≡ block_of (length out_r) (amended (entries_of 2 r₁) (entries_of 2 r₂) (entries_of 2 w₂))
  withdrawn : W ≡ block_of (length out_w) (amended (entries_of 2 w₁) (entries_of 2 w₂) (entries_of 2 r₂))

folded : (r₁ w₁ r₂ w₂ out_r out_w R W : List ℕ) → fold_call r₁ w₁ r₂ w₂ out_r out_w ≡ accepted (R ∷ W ∷ []) → Folded r₁ w₁ r₂ w₂ out_r out_w R W
unfolding fold_call
folded r₁ w₁ r₂ w₂ out_r out_w R W e =
    let fs = fold_refusals r₁ w₁ r₂ w₂ (length out_r) (length out_w) in
    let k = turn_accepted fs (out_r ∷ out_w ∷ []) _ [] (R ∷ W ∷ []) e in
    record { clear = clear_at fs k.0; released = first _ _ k.1; withdrawn = second _ _ k.1 }
  where
    first : (l m : List ℕ) → outcome (given []) (l ∷ m ∷ []) ≡ accepted (R ∷ W ∷ []) → R ≡ l
    first l m d = cc

    second : (l m : List ℕ) → outcome (given []) (l ∷ m ∷ []) ≡ accepted (R ∷ W ∷ []) → W ≡ m
    second l m d = cc

-- APPLY, in the words of membership alone: a number is listed afterwards if it was listed and is not withdrawn, or if it is released
pub apply_means : (list released withdrawn out after : List ℕ) → apply_call list released withdrawn out ≡ accepted (after ∷ [])
    → SetLeft (length out) (λ x. amend (member (entries_of 2 list) x) (member (entries_of 2 released) x) (member (entries_of 2 withdrawn) x)) after
apply_means list released withdrawn out after e =
    let a = applied list released withdrawn out after e in
    rw a.words (amended_left (length out) (entries_of 2 list) (entries_of 2 released) (entries_of 2 withdrawn) (a.clear 3) (a.clear 5))

-- an accepted fold
module _ (r₁ w₁ r₂ w₂ out_r out_w R W : List ℕ) (e : fold_call r₁ w₁ r₂ w₂ out_r out_w ≡ accepted (R ∷ W ∷ [])) where
  f : Folded r₁ w₁ r₂ w₂ out_r out_w R W
  f = folded r₁ w₁ r₂ w₂ out_r out_w R W e

  -- FOLD, in the words of membership alone
  pub fold_released : SetLeft (length out_r) (λ x. amend (member (entries_of 2 r₁) x) (member (entries_of 2 r₂) x) (member (entries_of 2 w₂) x)) R
  unfolding f
  fold_released = rw f.released (amended_left (length out_r) (entries_of 2 r₁) (entries_of 2 r₂) (entries_of 2 w₂) (f.clear 4) (f.clear 8))

  pub fold_withdrawn : SetLeft (length out_w) (λ x. amend (member (entries_of 2 w₁) x) (member (entries_of 2 w₂) x) (member (entries_of 2 r₂) x)) W
  unfolding f
  fold_withdrawn = rw f.withdrawn (amended_left (length out_w) (entries_of 2 w₁) (entries_of 2 w₂) (entries_of 2 r₂) (f.clear 5) (f.clear 9))

  entries_released : entries_of 2 R ≡ amended (entries_of 2 r₁) (entries_of 2 r₂) (entries_of 2 w₂)
  entries_released = ap (entries_of 2) f.released ∙ amended_entries (length out_r) (entries_of 2 r₁) (entries_of 2 r₂) (entries_of 2 w₂)

  entries_withdrawn : entries_of 2 W ≡ amended (entries_of 2 w₁) (entries_of 2 w₂) (entries_of 2 r₂)
  entries_withdrawn = ap (entries_of 2) f.withdrawn ∙ amended_entries (length out_w) (entries_of 2 w₁) (entries_of 2 w₂) (entries_of 2 r₂)

  folded_apart : Apart (entries_of 2 R) (entries_of 2 W)
  folded_apart =
      rw (entries_released, entries_withdrawn)
      (amended_apart (entries_of 2 r₁) (entries_of 2 w₁) (entries_of 2 r₂) (entries_of 2 w₂)
      (overlap_apart (entries_of 2 r₁) (entries_of 2 w₁) (f.clear 6)) (overlap_apart (entries_of 2 r₂) (entries_of 2 w₂) (f.clear 7)))

  -- THE FOLD OF TWO BULLETINS IS A BULLETIN
  pub fold_bulletin : Bulletin R W
  fold_bulletin = record { released_sound = fold_released.sound; withdrawn_sound = fold_withdrawn.sound; apart = folded_apart }

-- FOLDING, THEN APPLYING: where two bulletins are applied one after the other, their fold does the same at once, to the same words
pub fold_applies : (list r₁ w₁ r₂ w₂ out_r out_w R W out₁ T out₂ U out : List ℕ)
    → fold_call r₁ w₁ r₂ w₂ out_r out_w ≡ accepted (R ∷ W ∷ [])
    → apply_call list r₁ w₁ out₁ ≡ accepted (T ∷ [])
    → apply_call T r₂ w₂ out₂ ≡ accepted (U ∷ [])
    → length out ≡ length out₂
    → apply_call list R W out ≡ accepted (U ∷ [])
unfolding apply_call
fold_applies list r₁ w₁ r₂ w₂ out_r out_w R W out₁ T out₂ U out e p q l =
    clear_turn (apply_refusals list R W (length out)) (out ∷ []) _ clears ∙ ap (λ (x : List ℕ). accepted (x ∷ [])) (ap₂ block_of l same ∙ sym second.words)
  where
    first : Applied list r₁ w₁ out₁ T
    first = applied list r₁ w₁ out₁ T p

    second : Applied T r₂ w₂ out₂ U
    second = applied T r₂ w₂ out₂ U q

    between : entries_of 2 T ≡ amended (entries_of 2 list) (entries_of 2 r₁) (entries_of 2 w₁)
    between = ap (entries_of 2) first.words ∙ amended_entries (length out₁) (entries_of 2 list) (entries_of 2 r₁) (entries_of 2 w₁)

    same : amended (entries_of 2 list) (entries_of 2 R) (entries_of 2 W) ≡ amended (entries_of 2 T) (entries_of 2 r₂) (entries_of 2 w₂)
    same =
        ap₂ (amended (entries_of 2 list)) (entries_released r₁ w₁ r₂ w₂ out_r out_w R W e) (entries_withdrawn r₁ w₁ r₂ w₂ out_r out_w R W e)
        ∙ amended_amended (entries_of 2 list) (entries_of 2 r₁) (entries_of 2 w₁) (entries_of 2 r₂) (entries_of 2 w₂)
        ∙ ap (λ (t : List Entry). amended t (entries_of 2 r₂) (entries_of 2 w₂)) (sym between)

    bulletin : Bulletin R W
    bulletin = fold_bulletin r₁ w₁ r₂ w₂ out_r out_w R W e

    clears : Clear (apply_refusals list R W (length out))
    clears = (
      first.clear 0,
      (
        bulletin.released_sound,
        (
          bulletin.withdrawn_sound,
          (
            ap no_block l ∙ second.clear 3,
            (
              apart_overlap (entries_of 2 R) (entries_of 2 W) bulletin.apart,
              (
                ap₂ (no_room set_layout) l same ∙ second.clear 5,
                tt,
              ),
            ),
          ),
        ),
      ),
    )

-- two accepted outcomes of one call leave the same words
same_words_lem : (o : Outcome) (a b c d : List ℕ) → o ≡ accepted (a ∷ b ∷ []) → o ≡ accepted (c ∷ d ∷ []) → (a ≡ c) × (b ≡ d)
same_words_lem o a b c d p q = let e : accepted (a ∷ b ∷ []) ≡ accepted (c ∷ d ∷ []) = sym p ∙ q in (first e, second e)
  where
    first : accepted (a ∷ b ∷ []) ≡ accepted (c ∷ d ∷ []) → a ≡ c
    first e = cc

    second : accepted (a ∷ b ∷ []) ≡ accepted (c ∷ d ∷ []) → b ≡ d
    second e = cc

-- a fold of two bulletins with these results, into outputs as long as those that had room for them
fold_as : (r₁ w₁ r₂ w₂ out_r out_w outR' outW' R W : List ℕ) (rs ws : List Entry) → Bulletin r₁ w₁ → Bulletin r₂ w₂
    → amended (entries_of 2 r₁) (entries_of 2 r₂) (entries_of 2 w₂) ≡ rs → amended (entries_of 2 w₁) (entries_of 2 w₂) (entries_of 2 r₂) ≡ ws
    → no_block (length out_r) ≡ 0 → no_block (length out_w) ≡ 0 → no_room set_layout (length out_r) rs ≡ 0 → no_room set_layout (length out_w) ws ≡ 0
    → R ≡ block_of (length out_r) rs → W ≡ block_of (length out_w) ws → length outR' ≡ length out_r → length outW' ≡ length out_w
    → fold_call r₁ w₁ r₂ w₂ outR' outW' ≡ accepted (R ∷ W ∷ [])
unfolding fold_call
fold_as r₁ w₁ r₂ w₂ out_r out_w outR' outW' R W rs ws b c er ew nr nw fr fw pr pw l m =
    clear_turn (fold_refusals r₁ w₁ r₂ w₂ (length outR') (length outW')) (outR' ∷ outW' ∷ []) _ clears
    ∙ ap₂ (λ (x y : List ℕ). accepted (x ∷ y ∷ [])) (ap₂ block_of l er ∙ sym pr) (ap₂ block_of m ew ∙ sym pw)
  where
    clears : Clear (fold_refusals r₁ w₁ r₂ w₂ (length outR') (length outW'))
    clears = (
      b.released_sound,
      (
        b.withdrawn_sound,
        (
          c.released_sound,
          (
            c.withdrawn_sound,
            (
              ap no_block l ∙ nr,
              (
                ap no_block m ∙ nw,
                (
                  apart_overlap (entries_of 2 r₁) (entries_of 2 w₁) b.apart,
                  (
                    apart_overlap (entries_of 2 r₂) (entries_of 2 w₂) c.apart,
                    (
                      ap₂ (no_room set_layout) l er ∙ fr,
                      (
                        ap₂ (no_room set_layout) m ew ∙ fw,
                        tt,
                      ),
                    ),
                  ),
                ),
              ),
            ),
          ),
        ),
      ),
    )

-- the inputs of an accepted fold are bulletins
module _ (r₁ w₁ r₂ w₂ out_r out_w R W : List ℕ) (e : fold_call r₁ w₁ r₂ w₂ out_r out_w ≡ accepted (R ∷ W ∷ [])) where
  g : Folded r₁ w₁ r₂ w₂ out_r out_w R W
  g = folded r₁ w₁ r₂ w₂ out_r out_w R W e

  pub earlier_bulletin : Bulletin r₁ w₁
  earlier_bulletin = record { released_sound = g.clear 0; withdrawn_sound = g.clear 1; apart = overlap_apart (entries_of 2 r₁) (entries_of 2 w₁) (g.clear 6) }

  pub later_bulletin : Bulletin r₂ w₂
  later_bulletin = record { released_sound = g.clear 2; withdrawn_sound = g.clear 3; apart = overlap_apart (entries_of 2 r₂) (entries_of 2 w₂) (g.clear 7) }

-- GROUPING: where (1, 2), then 3, and (2, 3) fold, so does 1 with (2, 3), into outputs of the same lengths, to the same words
pub fold_regroups : (r₁ w₁ r₂ w₂ r₃ w₃ : List ℕ) (o₁ o₂ o₃ o₄ o₅ o₆ o₇ o₈ : List ℕ) (R₁₂ W₁₂ R W R₂₃ W₂₃ : List ℕ)
    → fold_call r₁ w₁ r₂ w₂ o₁ o₂ ≡ accepted (R₁₂ ∷ W₁₂ ∷ [])
    → fold_call R₁₂ W₁₂ r₃ w₃ o₃ o₄ ≡ accepted (R ∷ W ∷ [])
    → fold_call r₂ w₂ r₃ w₃ o₅ o₆ ≡ accepted (R₂₃ ∷ W₂₃ ∷ [])
    → length o₇ ≡ length o₃ → length o₈ ≡ length o₄
    → fold_call r₁ w₁ R₂₃ W₂₃ o₇ o₈ ≡ accepted (R ∷ W ∷ [])
fold_regroups r₁ w₁ r₂ w₂ r₃ w₃ o₁ o₂ o₃ o₄ o₅ o₆ o₇ o₈ R₁₂ W₁₂ R W R₂₃ W₂₃ a b c l m =
    let f = folded R₁₂ W₁₂ r₃ w₃ o₃ o₄ R W b in
    fold_as r₁ w₁ R₂₃ W₂₃ o₃ o₄ o₇ o₈ R W _ _ (earlier_bulletin r₁ w₁ r₂ w₂ o₁ o₂ R₁₂ W₁₂ a) (fold_bulletin r₂ w₂ r₃ w₃ o₅ o₆ R₂₃ W₂₃ c) released withdrawn
    (f.clear 4) (f.clear 5) (f.clear 8) (f.clear 9) f.released f.withdrawn l m
  where
    released : amended (entries_of 2 r₁) (entries_of 2 R₂₃) (entries_of 2 W₂₃) ≡ amended (entries_of 2 R₁₂) (entries_of 2 r₃) (entries_of 2 w₃)
    released =
        ap₂ (amended (entries_of 2 r₁)) (entries_released r₂ w₂ r₃ w₃ o₅ o₆ R₂₃ W₂₃ c) (entries_withdrawn r₂ w₂ r₃ w₃ o₅ o₆ R₂₃ W₂₃ c)
        ∙ amended_amended (entries_of 2 r₁) (entries_of 2 r₂) (entries_of 2 w₂) (entries_of 2 r₃) (entries_of 2 w₃)
        ∙ sym (ap (λ (t : List Entry). amended t (entries_of 2 r₃) (entries_of 2 w₃)) (entries_released r₁ w₁ r₂ w₂ o₁ o₂ R₁₂ W₁₂ a))

    withdrawn : amended (entries_of 2 w₁) (entries_of 2 W₂₃) (entries_of 2 R₂₃) ≡ amended (entries_of 2 W₁₂) (entries_of 2 w₃) (entries_of 2 r₃)
    withdrawn =
        ap₂ (amended (entries_of 2 w₁)) (entries_withdrawn r₂ w₂ r₃ w₃ o₅ o₆ R₂₃ W₂₃ c) (entries_released r₂ w₂ r₃ w₃ o₅ o₆ R₂₃ W₂₃ c)
        ∙ amended_amended (entries_of 2 w₁) (entries_of 2 w₂) (entries_of 2 r₂) (entries_of 2 w₃) (entries_of 2 r₃)
        ∙ sym (ap (λ (t : List Entry). amended t (entries_of 2 w₃) (entries_of 2 r₃)) (entries_withdrawn r₁ w₁ r₂ w₂ o₁ o₂ R₁₂ W₁₂ a))

-- three bulletins fold to the same words under either grouping
pub fold_groups : (r₁ w₁ r₂ w₂ r₃ w₃ : List ℕ) (o₁ o₂ o₃ o₄ o₅ o₆ o₇ o₈ : List ℕ) (R₁₂ W₁₂ R W R₂₃ W₂₃ R' W' : List ℕ)
    → fold_call r₁ w₁ r₂ w₂ o₁ o₂ ≡ accepted (R₁₂ ∷ W₁₂ ∷ [])
    → fold_call R₁₂ W₁₂ r₃ w₃ o₃ o₄ ≡ accepted (R ∷ W ∷ [])
    → fold_call r₂ w₂ r₃ w₃ o₅ o₆ ≡ accepted (R₂₃ ∷ W₂₃ ∷ [])
    → fold_call r₁ w₁ R₂₃ W₂₃ o₇ o₈ ≡ accepted (R' ∷ W' ∷ [])
    → length o₇ ≡ length o₃ → length o₈ ≡ length o₄
    → (R ≡ R') × (W ≡ W')
fold_groups r₁ w₁ r₂ w₂ r₃ w₃ o₁ o₂ o₃ o₄ o₅ o₆ o₇ o₈ R₁₂ W₁₂ R W R₂₃ W₂₃ R' W' a b c d l m =
    same_words_lem (fold_call r₁ w₁ R₂₃ W₂₃ o₇ o₈) R W R' W' (fold_regroups r₁ w₁ r₂ w₂ r₃ w₃ o₁ o₂ o₃ o₄ o₅ o₆ o₇ o₈ R₁₂ W₁₂ R W R₂₃ W₂₃ a b c l m) d

-- EITHER ORDER: of two bulletins, neither of which releases a number that the other withdraws, a fold that is accepted in one order
-- is accepted in the other, into outputs of the same lengths, to the same words
pub fold_other_order : (r₁ w₁ r₂ w₂ out_r out_w outR' outW' R W : List ℕ)
    → Apart (entries_of 2 r₁) (entries_of 2 w₂) → Apart (entries_of 2 r₂) (entries_of 2 w₁)
    → fold_call r₁ w₁ r₂ w₂ out_r out_w ≡ accepted (R ∷ W ∷ [])
    → length outR' ≡ length out_r → length outW' ≡ length out_w
    → fold_call r₂ w₂ r₁ w₁ outR' outW' ≡ accepted (R ∷ W ∷ [])
fold_other_order r₁ w₁ r₂ w₂ out_r out_w outR' outW' R W p q a l m =
    let f = folded r₁ w₁ r₂ w₂ out_r out_w R W a in
    fold_as r₂ w₂ r₁ w₁ out_r out_w outR' outW' R W _ _ (later_bulletin r₁ w₁ r₂ w₂ out_r out_w R W a) (earlier_bulletin r₁ w₁ r₂ w₂ out_r out_w R W a)
    (amended_swap (entries_of 2 r₂) (entries_of 2 w₂) (entries_of 2 r₁) (entries_of 2 w₁) q p)
    (amended_swap (entries_of 2 w₂) (entries_of 2 r₂) (entries_of 2 w₁) (entries_of 2 r₁) (apart_sym (entries_of 2 r₁) (entries_of 2 w₂) p)
    (apart_sym (entries_of 2 r₂) (entries_of 2 w₁) q))
    (f.clear 4) (f.clear 5) (f.clear 8) (f.clear 9) f.released f.withdrawn l m

-- «Two bulletins, neither of which releases a number that the other withdraws, fold in either order, if accepted, to the same words,
-- into output blocks of the same lengths.»
pub fold_either_order : (r₁ w₁ r₂ w₂ out_r out_w outR' outW' R W R' W' : List ℕ)
    → Apart (entries_of 2 r₁) (entries_of 2 w₂) → Apart (entries_of 2 r₂) (entries_of 2 w₁)
    → fold_call r₁ w₁ r₂ w₂ out_r out_w ≡ accepted (R ∷ W ∷ [])
    → fold_call r₂ w₂ r₁ w₁ outR' outW' ≡ accepted (R' ∷ W' ∷ [])
    → length outR' ≡ length out_r → length outW' ≡ length out_w
    → (R ≡ R') × (W ≡ W')
fold_either_order r₁ w₁ r₂ w₂ out_r out_w outR' outW' R W R' W' p q a b l m =
    same_words_lem (fold_call r₂ w₂ r₁ w₁ outR' outW') R W R' W' (fold_other_order r₁ w₁ r₂ w₂ out_r out_w outR' outW' R W p q a l m) b

-- THE SAME EFFECT: two bulletins that do the same to every serial, listed before or not, hold the same ranges
module _ (r w r' w' : List ℕ) (b : Bulletin r w) (b' : Bulletin r' w') (lr : Lent r) (lw : Lent w) (lr' : Lent r') (lw' : Lent w')
    (h : (listed : Bool) (x : ℕ) → x ≤ M → Effect r w listed x ≡ Effect r' w' listed x) where
  outside : (v : List ℕ) → Lent v → (x : ℕ) → past_m ≤ x → member (entries_of 2 v) x ≡ false
  outside v l x k = ap has (bounded 2 v l x k)

  everywhere : (listed : Bool) (x : ℕ) → Effect r w listed x ≡ Effect r' w' listed x
  everywhere listed x = go (dec_lt x past_m)
    where
      go : Dec (x < past_m) → Effect r w listed x ≡ Effect r' w' listed x
      go (yes k) = h listed x (omega arith)
      go (no k) =
          let k : past_m ≤ x = omega arith in
          ap₂ (amend listed) (outside r lr x k ∙ sym (outside r' lr' x k)) (outside w lw x k ∙ sym (outside w' lw' x k))

  pub same_effect : (entries_of 2 r ≡ entries_of 2 r') × (entries_of 2 w ≡ entries_of 2 w')
  same_effect = (
    set_canonical (entries_of 2 r) (entries_of 2 r') (verdict_sound set_layout r b.released_sound).sound
        (verdict_sound set_layout r' b'.released_sound).sound (entries_plain r) (entries_plain r') released,
    set_canonical (entries_of 2 w) (entries_of 2 w') (verdict_sound set_layout w b.withdrawn_sound).sound
        (verdict_sound set_layout w' b'.withdrawn_sound).sound (entries_plain w) (entries_plain w') withdrawn,
  )
    where
      released : (x : ℕ) → member (entries_of 2 r) x ≡ member (entries_of 2 r') x
      released = effect_released (entries_of 2 r) (entries_of 2 w) (entries_of 2 r') (entries_of 2 w') b.apart b'.apart everywhere

      withdrawn : (x : ℕ) → member (entries_of 2 w) x ≡ member (entries_of 2 w') x
      withdrawn = effect_withdrawn (entries_of 2 r) (entries_of 2 w) (entries_of 2 r') (entries_of 2 w') b.apart b'.apart everywhere
