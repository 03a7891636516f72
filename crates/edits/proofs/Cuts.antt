-- A splice and two single words make the edit: what that makes of the entries.
use mathlib.Core.Path.{◌≡◌, refl, sym, ◌∙◌, ap}
use mathlib.Core.List.{List, [], ◌∷◌, ◌++◌, append_assoc}
use Prim.Native.Nat.{ℕ, zero, suc, ◌+◌, ◌*◌, ◌-◌, ◌≤◌, ◌<◌, min, max}
use native.Mathlib.Omega.{arith}
use native.Mathlib.Nat.{mul-suc, mul-zero}
use lib.ListN.{length, get_or, set, replicate, length-append}
use borrow.Author.Tests.{eq-eqb, ne_eqb, lt-ltb, le-ltb}
use Rattle.entries.specs.Entries.{Entry}
use Rattle.entries.proofs.Put.{raise, trim_end, trim_start}
use Rattle.blocks.specs.Blocks.{words_of, block_of, Shaped}
use Rattle.blocks.proofs.Words.{words_append, words_length, shaped_append}
use Rattle.edits.specs.Steps.{update, cut_end, cut_start}
use Rattle.blocks.proofs.Moves.{block_path}
use lib.Seq.{get_or-append-add}

set_right : (a b : List ℕ) (k v : ℕ) → set (a ++ b) (length a + k) v ≡ a ++ set b k v
set_right [] b k v = ap (λ (x : ℕ). set b x v) {x = 0 + k} {y = k} (omega arith)
set_right (x ∷ a) b k v =
    let e : length (x ∷ a) + k ≡ suc (length a + k) = omega arith in
    ap (λ (p : ℕ). set (x ∷ (a ++ b)) p v) e ∙ ap (λ (l : List ℕ). x ∷ l) (set_right a b k v)

update_right : (a b : List ℕ) (p k : ℕ) (f : ℕ → ℕ) → p ≡ length a + k → update (a ++ b) p f ≡ a ++ update b k f
update_right a b p k f e =
    ap (λ (x : ℕ). update (a ++ b) x f) e ∙ ap (λ (v : ℕ). set (a ++ b) (length a + k) (f v)) (get_or-append-add a b k 0) ∙ set_right a b k (f (get_or b k 0))

end_words : (s : ℕ) (P : List Entry) (k lo : ℕ) (rest : List ℕ) → Shaped s P → length P ≡ suc k
    → update (words_of P ++ rest) (s * k + 1) (λ h. min h (lo - 1)) ≡ words_of (trim_end lo P) ++ rest
end_words s [] k lo rest h e = absurd (omega arith)
end_words s (x ∷ []) k lo rest h e = let z : s * k + 1 ≡ 1 = (let q : k ≡ 0 = omega arith in omega (arith, ap (λ (x : ℕ). s * x) q, mul-zero s)) in
    ap (λ (p : ℕ). update (words_of (x ∷ []) ++ rest) p (λ h. min h (lo - 1))) z
end_words s (x ∷ y ∷ P) zero lo rest h e = absurd (omega arith)
end_words s (x ∷ y ∷ P) (suc k) lo rest h e =
    ap (λ (l : List ℕ). update (x.low ∷ x.high ∷ l) (s * suc k + 1) (λ h. min h (lo - 1))) (append_assoc x.value (words_of (y ∷ P)) rest)
    ∙ update_right (x.low ∷ x.high ∷ x.value) (words_of (y ∷ P) ++ rest) (s * suc k + 1) (s * k + 1) (λ h. min h (lo - 1)) (omega (arith, mul-suc s k, h.0))
    ∙ ap (λ (l : List ℕ). x.low ∷ x.high ∷ (x.value ++ l)) (end_words s (y ∷ P) k lo rest h.1 (omega arith))
    ∙ ap (λ (l : List ℕ). x.low ∷ x.high ∷ l) (sym (append_assoc x.value (words_of (trim_end lo (y ∷ P))) rest))

pub trim_length : (lo : ℕ) (P : List Entry) → length (trim_end lo P) ≡ length P
trim_length lo [] = refl
trim_length lo (x ∷ []) = refl
trim_length lo (x ∷ y ∷ P) = ap suc (trim_length lo (y ∷ P))

trim_shaped : (s lo : ℕ) (P : List Entry) → Shaped s P → Shaped s (trim_end lo P)
trim_shaped s lo [] h = tt
trim_shaped s lo (x ∷ []) h = h
trim_shaped s lo (x ∷ y ∷ P) h = (h.0, trim_shaped s lo (y ∷ P) h.1)

pub end_entries : (s L i lo : ℕ) (P Y : List Entry) (w : List ℕ) → Shaped s P → length P ≡ i → w ≡ block_of L (P ++ Y)
    → cut_end s i lo w ≡ block_of L (trim_end lo P ++ Y)
unfolding block_of
end_entries s L i lo [] Y w h e b = let z : i ≡ 0 = omega arith in rw (eq-eqb i 0 z) b
end_entries s L i lo (x ∷ P) Y w h e b =
    let ne : i ≡ 0 → ⊥ = λ q. omega arith in
    let at : s * (i - 1) + 2 ≡ 1 + (s * (i - 1) + 1) = omega arith in
    rw (ne_eqb i 0 ne) (ap (λ (l : List ℕ). update l (s * (i - 1) + 2) (λ h. min h (lo - 1)))
    (b ∙ ap (λ (l : List ℕ). n ∷ l) (ap (λ (l : List ℕ). l ++ R) (words_append (x ∷ P) Y) ∙ append_assoc (words_of (x ∷ P)) (words_of Y) R))
    ∙ update_right (n ∷ []) (words_of (x ∷ P) ++ (words_of Y ++ R)) (s * (i - 1) + 2) (s * (i - 1) + 1) (λ h. min h (lo - 1)) at
    ∙ ap (λ (l : List ℕ). n ∷ l)
    (end_words s (x ∷ P) (i - 1) lo (words_of Y ++ R) h (omega arith) ∙ sym (append_assoc (words_of (trim_end lo (x ∷ P))) (words_of Y) R))
    ∙ block_path L (trim_end lo (x ∷ P) ++ Y) n z (words_of (trim_end lo (x ∷ P)) ++ words_of Y)
    (omega (arith, length-append (x ∷ P) Y, length-append (trim_end lo (x ∷ P)) Y, trim_length lo (x ∷ P)))
    (sym (words_append (trim_end lo (x ∷ P)) Y))
    (omega (
      arith,
      ap length (words_append (x ∷ P) Y),
      length-append (words_of (x ∷ P)) (words_of Y),
      ap length (words_append (trim_end lo (x ∷ P)) Y),
      length-append (words_of (trim_end lo (x ∷ P))) (words_of Y),
      words_length s (x ∷ P) h,
      words_length s (trim_end lo (x ∷ P)) (trim_shaped s lo (x ∷ P) h),
      ap (λ (k : ℕ). s * k) (trim_length lo (x ∷ P)),
    )))
  where
    n : ℕ
    n = length ((x ∷ P) ++ Y)

    z : ℕ
    z = L - (1 + length (words_of ((x ∷ P) ++ Y)))

    R : List ℕ
    R = replicate z 0

pub start_entries : (s L k m hi : ℕ) (X Q : List Entry) (w : List ℕ) → Shaped s X → length X ≡ k → m ≡ length (X ++ Q) → w ≡ block_of L (X ++ Q)
    → cut_start s k m hi w ≡ block_of L (X ++ trim_start hi Q)
unfolding block_of
start_entries s L k m hi X [] w h e f b = let z : m ≤ k = omega (arith, length-append X []) in rw (le-ltb k m z) b
start_entries s L k m hi X (q ∷ Q) w h e f b =
    let lt : k < m = omega (arith, length-append X (q ∷ Q)) in
    let at : s * k + 1 ≡ length (n ∷ words_of X) + 0 = omega (arith, words_length s X h, ap (λ (x : ℕ). s * x) e) in
    rw (lt-ltb k m lt) (ap (λ (l : List ℕ). update l (s * k + 1) (λ l. max l (suc hi)))
    (b ∙ ap (λ (l : List ℕ). n ∷ l) (ap (λ (l : List ℕ). l ++ R) (words_append X (q ∷ Q)) ∙ append_assoc (words_of X) (words_of (q ∷ Q)) R))
    ∙ update_right (n ∷ words_of X) (words_of (q ∷ Q) ++ R) (s * k + 1) 0 (λ l. max l (suc hi)) at
    ∙ ap (λ (l : List ℕ). n ∷ l) (sym (append_assoc (words_of X) (words_of (raise hi q ∷ Q)) R))
    ∙ block_path L (X ++ (raise hi q ∷ Q)) n z (words_of X ++ words_of (raise hi q ∷ Q))
    (omega (arith, length-append X (q ∷ Q), length-append X (raise hi q ∷ Q)))
    (sym (words_append X (raise hi q ∷ Q)))
    (omega (
      arith,
      ap length (words_append X (q ∷ Q)),
      length-append (words_of X) (words_of (q ∷ Q)),
      ap length (words_append X (raise hi q ∷ Q)),
      length-append (words_of X) (words_of (raise hi q ∷ Q)),
    )))
  where
    n : ℕ
    n = length (X ++ (q ∷ Q))

    z : ℕ
    z = L - (1 + length (words_of (X ++ (q ∷ Q))))

    R : List ℕ
    R = replicate z 0

-- splice, then both cuts
pub placed : (s L i c m lo hi : ℕ) (P N Q : List Entry) (w : List ℕ) → Shaped s P → Shaped s N → length P ≡ i → length N ≡ c
    → m ≡ length (P ++ (N ++ Q)) → w ≡ block_of L (P ++ (N ++ Q))
    → cut_start s (i + c) m hi (cut_end s i lo w) ≡ block_of L (trim_end lo P ++ (N ++ trim_start hi Q))
placed s L i c m lo hi P N Q w hp hn ei ec em b =
    start_entries s L (i + c) m hi (trim_end lo P ++ N) Q (cut_end s i lo w) (shaped_append s (trim_end lo P) N (trim_shaped s lo P hp) hn)
    (omega (arith, length-append (trim_end lo P) N, trim_length lo P))
    (omega (arith, length-append P (N ++ Q), length-append N Q, length-append (trim_end lo P ++ N) Q, length-append (trim_end lo P) N, trim_length lo P))
    (end_entries s L i lo P (N ++ Q) w hp ei b ∙ ap (block_of L) (sym (append_assoc (trim_end lo P) N Q)))
    ∙ ap (block_of L) (append_assoc (trim_end lo P) N (trim_start hi Q))

-- the cuts, by their tests
module _ (s i lo : ℕ) (w : List ℕ) where
  pub no_end : i ≡ 0 → w ≡ cut_end s i lo w
  no_end e = rw (eq-eqb i 0 e)

  pub an_end : (i ≡ 0 → ⊥) → update w (s * (i - 1) + 2) (λ h. min h (lo - 1)) ≡ cut_end s i lo w
  an_end e = rw (ne_eqb i 0 e)

module _ (s k m hi : ℕ) (w : List ℕ) where
  pub no_start : m ≤ k → w ≡ cut_start s k m hi w
  no_start h = rw (le-ltb k m h)

  pub a_start : k < m → update w (s * k + 1) (λ l. max l (suc hi)) ≡ cut_start s k m hi w
  a_start h = rw (lt-ltb k m h)
