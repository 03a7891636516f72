-- The block that reading leaves, and the bytes that writing leaves.
use Prim.Native.Nat.{ℕ, ◌+◌, ◌-◌, ◌*◌, ◌≤◌}
use mathlib.Core.List.{List, [], ◌∷◌, ◌++◌}
use mathlib.Core.Path.{◌≡◌, refl, sym, ap, ap₂, ◌∙◌}
use native.Mathlib.Omega.{arith}
use lib.ListN.{length, get_or, take, drop, replicate, length-drop, length-replicate, get_or-replicate, take-append-drop}
use lib.Seq.{ext_get_or, get_or-drop, take_at}
use borrow.Rule.Slice.PartMut.{put_mid}
use Rattle.blocks.specs.Blocks.{words_of, block_of}
use Rattle.blocks.specs.Steps.{Cleared}
use Rattle.blocks.proofs.Words.{words_length}
use Rattle.blocks.proofs.Moves.{part_eq, block_path}
use Rattle.numbers.specs.Numbers.{over}
use Rattle.numbers.proofs.Patch.{tail_part, mid_over, length_over}
use Rattle.runs.specs.Runs.{entries_in}
use Rattle.runs.proofs.Running.{length_entries, entries_shaped}

-- words with zeros from f on
zeros : (ws : List ℕ) (f : ℕ) → ((k : ℕ) → f ≤ k → get_or ws k 0 ≡ 0) → drop f ws ≡ replicate (length ws - f) 0
zeros ws f h =
    ext_get_or 0 (drop f ws) (replicate (length ws - f) 0) (length-drop f ws ∙ sym (length-replicate (length ws - f) 0))
    (λ k l. get_or-drop f ws k 0 ∙ h (f + k) (omega arith) ∙ sym (get_or-replicate (length ws - f) k 0 0 (omega (arith, length-drop f ws))))

cleared : (ws ws' : List ℕ) (f : ℕ) → f ≤ length ws → Cleared ws f ws' → ws' ≡ take f ws ++ replicate (length ws - f) 0
cleared ws ws' f h c =
    sym (take-append-drop f ws')
    ∙ ap₂ ◌++◌ (part_eq ws' ws 0 0 f (omega (arith, c.same)) (omega arith) (λ k l. c.before (0 + k) (omega arith)))
    (zeros ws' f c.zero ∙ ap (λ (n : ℕ). replicate (n - f) 0) c.same)

-- a block: its count, its items, and zeros
pub store_written : (kind s n m from : ℕ) (b out b1 y b3 : List ℕ) → 2 ≤ s → 1 + s * n ≤ length out → m ≡ n → b1 ≡ over (m ∷ []) out
    → y ≡ over (words_of (entries_in kind s n (take (length b - from) (drop from b)))) (take (length b1 - 1) (drop 1 b1))
    → Cleared (put_mid 1 (length b1 - 1) b1 y) (1 + s * n) b3
    → b3 ≡ block_of (length out) (entries_in kind s n (drop from b))
store_written kind s n m from b out b1 y b3 two h e p q c =
    let es = entries_in kind s n (drop from b) in
    let us = m ∷ words_of es in
    let b2 = put_mid 1 (length b1 - 1) b1 y in
    let f = 1 + s * n in
    let le = length_entries kind s n (drop from b) in
    let lw : length (words_of es) ≡ s * n = words_length s es (entries_shaped kind s n (drop from b) two) ∙ ap (λ (k : ℕ). s * k) le in
    let lu : length us ≡ f = omega (arith, lw) in
    let w : b2 ≡ over us out =
    mid_over (m ∷ []) (words_of es) out b1 y 1 refl p (q ∙ ap (λ (l : List ℕ). over (words_of (entries_in kind s n l)) (take (length b1 - 1) (drop 1 b1)))
    (tail_part from b)) in
    let l2 : length b2 ≡ length out = ap length w ∙ length_over us out (omega arith) in
    cleared b2 b3 f (omega arith) c
    ∙ ap₂ (λ (x : List ℕ) (k : ℕ). x ++ replicate (k - f) 0) (ap (take f) w ∙ take_at us (drop (length us) out) f lu) l2
    ∙ block_path (length out) es m (length out - f) (words_of es) (e ∙ sym le) refl (omega arith)
