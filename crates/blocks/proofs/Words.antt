-- Words and entries: reading what was written, writing what was read, items by index.
use mathlib.Core.Path.{◌≡◌, refl, sym, ◌∙◌, ap, ap₂}
use mathlib.Core.List.{List, [], ◌∷◌, ◌++◌, append_assoc}
use Prim.Native.Nat.{ℕ, zero, suc, ◌+◌, ◌*◌, ◌-◌, ◌≤◌, ◌<◌}
use native.Mathlib.Omega.{arith}
use native.Mathlib.Nat.{mul-suc}
use lib.Dec.{lit<}
use lib.ListN.{replicate, length, get_or, take, drop, length-append, length-take, length-drop}
use lib.Seq.{take-add, drop-drop, take_at, drop_at}
use Rattle.entries.specs.Entries.{Entry, entry}
use Rattle.entries.specs.Sets.{past_m}
use Rattle.blocks.specs.Blocks.{item_of, items_of, words_of, Shaped, block_of, Lent}

pub words_append : (a b : List Entry) → words_of (a ++ b) ≡ words_of a ++ words_of b
words_append [] b = refl
words_append (e ∷ a) b = ap (λ (l : List ℕ). e.low ∷ e.high ∷ l) (rw (words_append a b) (sym (append_assoc e.value (words_of a) (words_of b))))

pub shaped_append : (s : ℕ) (a b : List Entry) → Shaped s a → Shaped s b → Shaped s (a ++ b)
shaped_append s [] b p q = q
shaped_append s (e ∷ a) b p q = (p.0, shaped_append s a b p.1 q)

pub words_length : (s : ℕ) (es : List Entry) → Shaped s es → length (words_of es) ≡ s * length es
words_length s [] h = omega (arith, native.Mathlib.Nat.mul-zero s)
words_length s (e ∷ es) h = omega (arith, length-append e.value (words_of es), words_length s es h.1, h.0, mul-suc s (length es))

pub items_length : (s n : ℕ) (ws : List ℕ) → length (items_of s n ws) ≡ n
items_length s zero ws = refl
items_length s (suc n) ws = ap suc (items_length s n (drop s ws))

module _ (s : ℕ) (two : 2 ≤ s) where
  pub items_shaped : (n : ℕ) (ws : List ℕ) → s * n ≤ length ws → Shaped s (items_of s n ws)
  items_shaped zero ws h = tt
  items_shaped (suc n) ws h =
      (omega (arith, length-take (s - 2) (drop 2 ws), length-drop 2 ws, mul-suc s n), items_shaped n (drop s ws) (omega (arith, length-drop s ws, mul-suc s n)))

  -- reading what was written
  pub read_back : (es : List Entry) (rest : List ℕ) → Shaped s es → items_of s (length es) (words_of es ++ rest) ≡ es
  read_back [] rest h = refl
  read_back (e ∷ es) rest h =
      ap₂ (λ (v : List ℕ) (l : List Entry). entry e.low e.high v ∷ l)
      (ap (take (s - 2)) (append_assoc e.value (words_of es) rest) ∙ take_at e.value (words_of es ++ rest) (s - 2) (omega (arith, h.0)))
      (ap (items_of s (length es)) (dropped ∙ drop_at e.value (words_of es ++ rest) (s - 2) (omega (arith, h.0))) ∙ read_back es rest h.1)
    where
      dropped : drop s (words_of (e ∷ es) ++ rest) ≡ drop (s - 2) (e.value ++ (words_of es ++ rest))
      dropped =
          let k : s ≡ 2 + (s - 2) = omega arith in
          ap (λ (m : ℕ). drop m (words_of (e ∷ es) ++ rest)) k ∙ sym (drop-drop (s - 2) 2 (words_of (e ∷ es) ++ rest))
          ∙ ap (drop (s - 2)) (append_assoc e.value (words_of es) rest)

  item_words : (ws : List ℕ) → 2 ≤ length ws → get_or ws 0 0 ∷ get_or ws 1 0 ∷ take (s - 2) (drop 2 ws) ≡ take s ws
  item_words [] h = absurd (omega arith)
  item_words (a ∷ []) h = absurd (omega arith)
  item_words (a ∷ b ∷ ws) h = let k : s ≡ 2 + (s - 2) = omega arith in sym (ap (λ (m : ℕ). take m (a ∷ b ∷ ws)) k ∙ take-add 2 (s - 2) (a ∷ b ∷ ws))

  -- writing what was read
  pub write_back : (n : ℕ) (ws : List ℕ) → s * n ≤ length ws → words_of (items_of s n ws) ≡ take (s * n) ws
  write_back zero ws h = rw (native.Mathlib.Nat.mul-zero s)
  write_back (suc n) ws h =
      let k : s + s * n ≡ s * suc n = omega (arith, mul-suc s n) in
      ap (λ (l : List ℕ). get_or ws 0 0 ∷ get_or ws 1 0 ∷ (take (s - 2) (drop 2 ws) ++ l)) (write_back n (drop s ws) (omega (arith, length-drop s ws, mul-suc s n)))
      ∙ ap (λ (l : List ℕ). l ++ take (s * n) (drop s ws)) (item_words ws (omega (arith, mul-suc s n)))
      ∙ sym (take-add s (s * n) ws) ∙ ap (λ (m : ℕ). take m ws) k

  pub items_take : (n i : ℕ) (ws : List ℕ) → i ≤ n → take i (items_of s n ws) ≡ items_of s i ws
  items_take n zero ws h = refl
  items_take zero (suc i) ws h = absurd (omega arith)
  items_take (suc n) (suc i) ws h = ap (λ (l : List Entry). item_of s ws ∷ l) (items_take n i (drop s ws) (omega arith))

  pub items_drop : (n j : ℕ) (ws : List ℕ) → j ≤ n → drop j (items_of s n ws) ≡ items_of s (n - j) (drop (s * j) ws)
  items_drop n zero ws h =
      let k : n ≡ n - 0 = omega arith in
      let z : 0 ≡ s * 0 = omega (arith, native.Mathlib.Nat.mul-zero s) in
      ap₂ (λ (m p : ℕ). items_of s m (drop p ws)) k z
  items_drop zero (suc j) ws h = absurd (omega arith)
  items_drop (suc n) (suc j) ws h =
      let k : s + s * j ≡ s * suc j = omega (arith, mul-suc s j) in
      let m : n - j ≡ suc n - suc j = omega arith in
      items_drop n j (drop s ws) (omega arith) ∙ ap₂ (items_of s) m (drop-drop (s * j) s ws ∙ ap (λ (m : ℕ). drop m ws) k)

  -- an item by its index
  pub item_at_lem : (n i : ℕ) (ws : List ℕ) (d : Entry) → i < n → get_or (items_of s n ws) i d ≡ item_of s (drop (s * i) ws)
  item_at_lem zero i ws d h = absurd (omega arith)
  item_at_lem (suc n) zero ws d h = let z : 0 ≡ s * 0 = omega (arith, native.Mathlib.Nat.mul-zero s) in ap (λ (p : ℕ). item_of s (drop p ws)) z
  item_at_lem (suc n) (suc i) ws d h =
      let k : s + s * i ≡ s * suc i = omega (arith, mul-suc s i) in
      item_at_lem n i (drop s ws) d (omega arith) ∙ ap (item_of s) (drop-drop (s * i) s ws ∙ ap (λ (m : ℕ). drop m ws) k)

-- WORDS below 2^64: one before others, one list before another, zeros, and the block of entries whose words are
pub lent_cons : (w : ℕ) (ws : List ℕ) → w < past_m → Lent ws → Lent (w ∷ ws)
lent_cons w ws p q zero = p
lent_cons w ws p q (suc j) = q j

pub lent_append : (ws vs : List ℕ) → Lent ws → Lent vs → Lent (ws ++ vs)
lent_append [] vs p q = q
lent_append (w ∷ ws) vs p q = lent_cons w (ws ++ vs) (p 0) (lent_append ws vs (λ j. p (suc j)) q)

pub lent_zeros : (n : ℕ) → Lent (replicate n 0)
lent_zeros zero = λ j. lit< tt
lent_zeros (suc n) = lent_cons 0 (replicate n 0) (lit< tt) (lent_zeros n)

pub lent_block : (L : ℕ) (es : List Entry) → length es < past_m → Lent (words_of es) → Lent (block_of L es)
unfolding block_of
lent_block L es h k =
    let z = L - (1 + length (words_of es)) in
    lent_cons (length es) (words_of es ++ replicate z 0) h (lent_append (words_of es) (replicate z 0) k (lent_zeros z))
