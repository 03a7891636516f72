-- Later words of an input are not read: two blocks of one length with the same stored form are judged alike, and say the same entries; and
-- two calls that judge such blocks, or that try the same refusals with other words lent to be written, come to the same.
use mathlib.Core.Path.{◌≡◌, refl, sym, ◌∙◌, ap, ap₂, subst}
use mathlib.Core.Bool.{Bool, true, false}
use mathlib.Core.List.{List, [], ◌∷◌, ◌++◌}
use Prim.Native.Nat.{ℕ, zero, suc, ◌*◌, ◌≤◌, ◌<◌}
use native.Mathlib.Omega.{arith}
use lib.Dec.{ltb, eqb}
use lib.ListN.{length, get_or, take, drop, length-drop}
use borrow.Author.Tests.{ltb-false, eqb-false}
use Rattle.entries.specs.Entries.{Entry}
use Rattle.entries.specs.Build.{pick}
use Rattle.answers.specs.Answers.{Finding}
use Rattle.answers.specs.Answers.{given, Outcome, outcome, refuse, judged, in_turn}
use Rattle.blocks.specs.declared.Layout.{Layout}
use Rattle.blocks.specs.Blocks.{capacity, entries_of, items_of, words_of, soundb, verdict}
use Rattle.forms.specs.Calls.{held_in, inputs}
use Rattle.demands.specs.Plain.{SameForm}
use Rattle.demands.specs.Stored.{SameForms, SameOutcome, both_accept, both_refuse}
use Rattle.blocks.proofs.Words.{items_shaped, items_length, read_back, write_back}
use Rattle.blocks.proofs.Judging.{room_words, verdict_sound}

-- n items read from the same words are the same
same_items : (s n : ℕ) (ws vs : List ℕ) → 2 ≤ s → s * n ≤ length ws → s * n ≤ length vs → take (s * n) ws ≡ take (s * n) vs → items_of s n ws ≡ items_of s n vs
same_items s n ws vs two h k e =
    sym (back ws h) ∙ ap (λ (l : List ℕ). items_of s n (l ++ [])) (write_back s two n ws h ∙ e ∙ sym (write_back s two n vs k)) ∙ back vs k
  where
    back : (us : List ℕ) → s * n ≤ length us → items_of s n (words_of (items_of s n us) ++ []) ≡ items_of s n us
    back us l =
        ap (λ (m : ℕ). items_of s m (words_of (items_of s n us) ++ [])) (sym (items_length s n us))
        ∙ read_back s two (items_of s n us) [] (items_shaped s two n us l)

-- TWO BLOCKS OF ONE STORED FORM
module _ (l : Layout) (two : 2 ≤ l.width) (w v : List ℕ) (same : SameForm l w v) where
  -- where word 0 is within the capacity, they say the same entries;
  fitting : 0 < length w → get_or w 0 0 ≤ capacity l (length w) → entries_of l.width w ≡ entries_of l.width v
  fitting p q =
      let r = room_words l (length w) (get_or w 0 0) p q in
      same_items l.width (get_or w 0 0) (drop 1 w) (drop 1 v) two (omega (arith, length-drop 1 w)) (omega (arith, length-drop 1 v, same.long)) same.items
      ∙ ap (λ (n : ℕ). items_of l.width n (drop 1 v)) same.count

  -- they get the same verdict,
  same_verdict : verdict l w ≡ verdict l v
  unfolding verdict
  same_verdict =
      go (eqb (length w) 0) refl (ltb (capacity l (length w)) (get_or w 0 0)) refl
      ∙ ap₂ (λ (k n : ℕ). pick (eqb k 0) 1 (pick (ltb (capacity l k) n) 2 (pick (soundb (entries_of l.width v)) 0 3))) same.long same.count
    where
      go : (a : Bool) → eqb (length w) 0 ≡ a → (b : Bool) → ltb (capacity l (length w)) (get_or w 0 0) ≡ b
          → ◌≡◌ {A = ℕ} (pick a 1 (pick b 2 (pick (soundb (entries_of l.width w)) 0 3))) (pick a 1 (pick b 2 (pick (soundb (entries_of l.width v)) 0 3)))
      go true e b f = refl
      go false e true f = refl
      go false e false f =
          let n : length w ≡ 0 → ⊥ = eqb-false (length w) 0 e in
          ap (λ (es : List Entry). pick (soundb es) 0 3) (fitting (omega arith) (ltb-false (capacity l (length w)) (get_or w 0 0) f))

  -- and sound, they say the same entries
  same_entries : verdict l w ≡ 0 → entries_of l.width w ≡ entries_of l.width v
  same_entries z = let d = verdict_sound l w z in fitting d.some d.fits

-- TWO CALLS COMPARED, by a relation R that holds between two refusals with one number and one place. Where both get the same verdict, R holds
-- between the calls, if it holds between what each goes on with
module _ (R : Outcome → Outcome → Type 0) (lent lent' : List (List ℕ)) (refusing : (n p : ℕ) → R (refuse n p lent) (refuse n p lent')) where
  judged_alike : (n m place : ℕ) → n ≡ m → (x y : Outcome) → (n ≡ 0 → R x y) → R (judged n place lent x) (judged m place lent' y)
  judged_alike n m place e x y next = subst (λ (k : ℕ). R (judged n place lent x) (judged k place lent' y)) e (go n next)
    where
      go : (n : ℕ) → (n ≡ 0 → R x y) → R (judged n place lent x) (judged n place lent' y)
      go zero next = next refl
      go (suc n) next = refusing (suc n) place

  -- where each judges its blocks in turn, and these have the same stored forms, R holds between the calls, if it holds between what each
  -- goes on with, where the blocks say the same entries
  pub inputs_alike : (l : Layout) → 2 ≤ l.width → (position : ℕ) (ws vs : List (List ℕ)) → SameForms l ws vs → (fs gs : List Finding) (x y : Outcome)
      → (held_in l ws ≡ held_in l vs → R (in_turn fs lent x) (in_turn gs lent' y))
      → R (in_turn (inputs l position ws ++ fs) lent x) (in_turn (inputs l position vs ++ gs) lent' y)
  inputs_alike l two position [] [] s fs gs x y next = next refl
  inputs_alike l two position [] (v ∷ vs) s fs gs x y next = absurd s
  inputs_alike l two position (w ∷ ws) [] s fs gs x y next = absurd s
  inputs_alike l two position (w ∷ ws) (v ∷ vs) s fs gs x y next =
      judged_alike (verdict l w) (verdict l v) position (same_verdict l two w v s.0) _ _
      (λ z. inputs_alike l two (suc position) ws vs s.1 fs gs x y (λ e. next (ap₂ ◌∷◌ (same_entries l two w v s.0 z) e)))

-- the same with equality for R, of calls that are lent the same words to be written
pub inputs_same : (lent : List (List ℕ)) (l : Layout) → 2 ≤ l.width → (position : ℕ) (ws vs : List (List ℕ)) → SameForms l ws vs
    → (fs gs : List Finding) (x y : Outcome) → (held_in l ws ≡ held_in l vs → in_turn fs lent x ≡ in_turn gs lent y)
    → in_turn (inputs l position ws ++ fs) lent x ≡ in_turn (inputs l position vs ++ gs) lent y
inputs_same lent = inputs_alike ◌≡◌ lent lent (λ n p. refl)

-- calls that try the same refusals, and are then accepted with the same answer and the same words left, have the same outcome, whatever the
-- words lent to them were
pub turn_alike : (lent lent' : List (List ℕ)) (fs : List Finding) (xs : List ℕ) (after : List (List ℕ))
    → SameOutcome lent lent' (in_turn fs lent (outcome (given xs) after)) (in_turn fs lent' (outcome (given xs) after))
turn_alike lent lent' [] xs after = both_accept xs after
turn_alike lent lent' (f ∷ fs) xs after =
    judged_alike (SameOutcome lent lent') lent lent' both_refuse f.number f.number f.place refl _ _ (λ z. turn_alike lent lent' fs xs after)
