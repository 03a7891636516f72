-- Any number of bulletins, folded into one: by induction over the chain, from the law of two.
use mathlib.Core.Path.{◌≡◌, sym}
use mathlib.Core.List.{List, [], ◌∷◌}
use Prim.Native.Nat.{ℕ}
use lib.ListN.{replicate, length-replicate}
use Rattle.answers.specs.Answers.{Outcome, outcome, given}
use Rattle.answers.proofs.Turns.{refused≢given}
use Rattle.bulletins.specs.Calls.{apply_call}
use Rattle.demands.specs.Stored.{SameOutcome, both_accept, both_refuse}
use Rattle.demands.specs.Bulletins.{one, more, ChainApplies}
use Rattle.demands.proofs.Stored.{old_words}
use Rattle.demands.proofs.Bulletins.{fold_applies}

-- of two calls that differ in the words lent alone, the second is accepted as the first is
accepted_too : (lent lent' : List (List ℕ)) (o o' : Outcome) → SameOutcome lent lent' o o' → (xs : List ℕ) (after : List (List ℕ))
    → o ≡ outcome (given xs) after → o' ≡ outcome (given xs) after
accepted_too lent lent' o o' (both_accept ys left) xs after e = e
accepted_too lent lent' o o' (both_refuse n p) xs after e = absurd (refused≢given e)

pub chain_applies : ChainApplies
chain_applies list _ _ _ _ (one r w out T e) out' l =
    accepted_too (out ∷ []) (out' ∷ []) (apply_call list r w out) (apply_call list r w out') (old_words.2 list r w out out' (sym l)) [] (T ∷ []) e
chain_applies list _ _ _ _ (more R W T L c r w out_r out_w R' W' out T' e f) out' l =
    let before : List ℕ = replicate L 0 in
    fold_applies list R W r w out_r out_w R' W' before T out T' out' e (chain_applies list R W T L c before (length-replicate {A = ℕ} L 0)) f l
