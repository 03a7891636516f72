-- Numbers and words in bytes: shifted, read back from their bytes, and their bytes from what was read.
use Prim.Native.Nat.{ℕ, zero, suc, ◌+◌, ◌*◌, ◌^◌, ◌<◌, ◌≤◌}
use mathlib.Core.List.{List, [], ◌∷◌, ◌++◌}
use mathlib.Core.Path.{◌≡◌, refl, sym, ap, ap₂, ◌∙◌}
use native.Mathlib.Omega.{arith}
use native.Mathlib.Numerals.{add-one}
use native.Mathlib.Nat.{add_assoc, div-add-mod'}
use lib.Arith.{digits_div, digits_mod}
use lib.ListN.{length, get_or, take, drop, length-drop}
use lib.Seq.{drop-cons, drop-drop, get_or-drop, take-add}
use Rattle.numbers.specs.Numbers.{Bytes, num2, num8, be2, be4, be8, words_in, word_bytes, counts_in, count_bytes}

-- seen from q on
pub num2_drop : (b : List ℕ) (q k : ℕ) → num2 (drop q b) k ≡ num2 b (q + k)
num2_drop b q k = simp (get_or-drop, add_assoc)

pub num8_drop : (b : List ℕ) (q k : ℕ) → num8 (drop q b) k ≡ num8 b (q + k)
num8_drop b q k = simp (get_or-drop, add_assoc)

pub words_drop : (n : ℕ) (b : List ℕ) (q k : ℕ) → words_in n (drop q b) k ≡ words_in n b (q + k)
words_drop zero b q k = refl
words_drop (suc n) b q k = ap₂ ◌∷◌ (num8_drop b q k) (words_drop n b q (k + 8) ∙ ap (words_in n b) (sym (add_assoc q k 8)))

pub counts_drop : (n : ℕ) (b : List ℕ) (q k : ℕ) → counts_in n (drop q b) k ≡ counts_in n b (q + k)
counts_drop zero b q k = refl
counts_drop (suc n) b q k = ap₂ ◌∷◌ (num2_drop b q k) (counts_drop n b q (k + 2) ∙ ap (counts_in n b) (sym (add_assoc q k 2)))

pub length_words : (n : ℕ) (b : List ℕ) (q : ℕ) → length (words_in n b q) ≡ n
length_words zero b q = refl
length_words (suc n) b q = ap suc (length_words n b (q + 8))

pub length_bytes : (ws : List ℕ) → length (word_bytes ws) ≡ 8 * length ws
length_bytes [] = refl
length_bytes (w ∷ ws) = omega (arith, length_bytes ws)

pub length_counts : (ns : List ℕ) → length (count_bytes ns) ≡ 2 * length ns
length_counts [] = refl
length_counts (n ∷ ns) = omega (arith, length_counts ns)

-- the bytes of one word less, of one word more, and one more word
pub bytes_more : (ws : List ℕ) (j : ℕ) → j < length ws → word_bytes (drop j ws) ≡ be8 (get_or ws j 0) ++ word_bytes (drop (j + 1) ws)
bytes_more ws j h = rw (add-one, drop-cons ws j 0)

pub bytes_so_far : (ws : List ℕ) (j : ℕ) → j < length ws → word_bytes (take (suc j) ws) ≡ word_bytes (take j ws) ++ be8 (get_or ws j 0)
bytes_so_far [] j h = absurd (omega arith)
bytes_so_far (w ∷ ws) zero h = refl
bytes_so_far (w ∷ ws) (suc j) h = rw (bytes_so_far ws j (omega arith)) refl

pub words_so_far : (j : ℕ) (b : List ℕ) (q r : ℕ) → r ≡ q + 8 * j → words_in (suc j) b q ≡ words_in j b q ++ (num8 b r ∷ [])
words_so_far zero b q r e = let z : q ≡ r = omega arith in ap (λ (k : ℕ). num8 b k ∷ []) z
words_so_far (suc j) b q r e = ap (λ (l : List ℕ). num8 b q ∷ l) (words_so_far j b (q + 8) r (omega arith))

-- read back from its bytes
pub num8_back : (v : ℕ) (r : List ℕ) → num8 (be8 v ++ r) 0 ≡ v
num8_back v r = simp div-add-mod'

pub words_back : (ws r : List ℕ) → words_in (length ws) (word_bytes ws ++ r) 0 ≡ ws
words_back [] r = refl
words_back (w ∷ ws) r =
    ap₂ ◌∷◌ (num8_back w []) (sym (words_drop (length ws) (word_bytes (w ∷ ws) ++ r) 8 0) ∙ words_back ws r)

pub counts_back : (ns r : List ℕ) → counts_in (length ns) (count_bytes ns ++ r) 0 ≡ ns
counts_back [] r = refl
counts_back (n ∷ ns) r =
    ap₂ ◌∷◌ (div-add-mod' n 256) (sym (counts_drop (length ns) (count_bytes (n ∷ ns) ++ r) 2 0) ∙ counts_back ns r)

-- the bytes of what was read
be2_back : (a b : ℕ) → b < 256 → be2 (a * 256 + b) ≡ a ∷ b ∷ []
be2_back a b h = rw (digits_div a h, digits_mod a h)

be4_back : (x y : ℕ) → y < 65536 → be4 (x * 65536 + y) ≡ be2 x ++ be2 y
be4_back x y h = rw (digits_div x h, digits_mod x h)

be8_back : (x y : ℕ) → y < 4294967296 → be8 (x * 4294967296 + y) ≡ be4 x ++ be4 y
be8_back x y h = rw (digits_div x h, digits_mod x h)

eight : (a b c d e f g h : ℕ) → b < 256 → c < 256 → d < 256 → e < 256 → f < 256 → g < 256 → h < 256
    → be8 (((a * 256 + b) * 65536 + (c * 256 + d)) * 4294967296 + ((e * 256 + f) * 65536 + (g * 256 + h))) ≡ a ∷ b ∷ c ∷ d ∷ e ∷ f ∷ g ∷ h ∷ []
eight a b c d e f g h hb hc hd he hf hg hh =
    be8_back ((a * 256 + b) * 65536 + (c * 256 + d)) ((e * 256 + f) * 65536 + (g * 256 + h)) (omega arith)
    ∙ ap₂ ◌++◌ (be4_back (a * 256 + b) (c * 256 + d) (omega arith)) (be4_back (e * 256 + f) (g * 256 + h) (omega arith))
    ∙ ap₂ ◌++◌ (ap₂ ◌++◌ (be2_back a b hb) (be2_back c d hd)) (ap₂ ◌++◌ (be2_back e f hf) (be2_back g h hh))

-- the k elements from i on
abbrev fronts : ℕ → ℕ → List ℕ → List ℕ
fronts zero i b = []
fronts (suc k) i b = get_or b i 0 ∷ fronts k (suc i) b

fronts_take : (k i : ℕ) (b : List ℕ) → i + k ≤ length b → take k (drop i b) ≡ fronts k i b
fronts_take zero i b h = refl
fronts_take (suc k) i b h =
    rw (drop-cons b i 0 (omega arith)) (ap (λ (l : List ℕ). get_or b i 0 ∷ l) (fronts_take k (suc i) b (omega arith)))

module _ (b : List ℕ) (y : Bytes b) where
  bytes_drop : (q : ℕ) → Bytes (drop q b)
  bytes_drop q i = rw (get_or-drop q b i 0) (y (q + i))

  pub two_bytes : (q : ℕ) → q + 2 ≤ length b → be2 (num2 b q) ≡ take 2 (drop q b)
  two_bytes q h =
      let l : 2 ≤ length (drop q b) = simp length-drop (omega arith) in
      ap be2 (ap (num2 b) (sym (native.Mathlib.Nat.add-zero q)) ∙ sym (num2_drop b q 0))
      ∙ be2_back (get_or (drop q b) 0 0) (get_or (drop q b) 1 0) (bytes_drop q 1) ∙ sym (fronts_take 2 0 (drop q b) l)

  pub eight_bytes : (q : ℕ) → q + 8 ≤ length b → be8 (num8 b q) ≡ take 8 (drop q b)
  eight_bytes q h =
      let d = drop q b in
      let z = bytes_drop q in
      let l : 8 ≤ length d = simp length-drop (omega arith) in
      ap be8 (ap (num8 b) (sym (native.Mathlib.Nat.add-zero q)) ∙ sym (num8_drop b q 0))
      ∙ eight (get_or d 0 0) (get_or d 1 0) (get_or d 2 0) (get_or d 3 0) (get_or d 4 0) (get_or d 5 0) (get_or d 6 0) (get_or d 7 0) (z 1) (z 2) (z 3) (z 4) (z 5) (z 6)
      (z 7)
      ∙ sym (fronts_take 8 0 d l)

  pub words_bytes : (n q : ℕ) → q + 8 * n ≤ length b → word_bytes (words_in n b q) ≡ take (8 * n) (drop q b)
  words_bytes zero q h = refl
  words_bytes (suc n) q h =
      let k : 8 + 8 * n ≡ 8 * suc n = omega arith in
      ap₂ ◌++◌ (eight_bytes q (omega arith)) (words_bytes n (q + 8) (omega arith) ∙ ap (take (8 * n)) (sym (drop-drop 8 q b)))
      ∙ sym (take-add 8 (8 * n) (drop q b)) ∙ ap (λ (m : ℕ). take m (drop q b)) k

  pub counts_bytes : (n q : ℕ) → q + 2 * n ≤ length b → count_bytes (counts_in n b q) ≡ take (2 * n) (drop q b)
  counts_bytes zero q h = refl
  counts_bytes (suc n) q h =
      let k : 2 + 2 * n ≡ 2 * suc n = omega arith in
      ap₂ ◌++◌ (two_bytes q (omega arith)) (counts_bytes n (q + 2) (omega arith) ∙ ap (take (2 * n)) (sym (drop-drop 2 q b)))
      ∙ sym (take-add 2 (2 * n) (drop q b)) ∙ ap (λ (m : ℕ). take m (drop q b)) k

  pub word_fits : (q : ℕ) → num8 b q < 2 ^ 64
  word_fits q = omega (arith, y q, y (q + 1), y (q + 2), y (q + 2 + 1), y (q + 4), y (q + 4 + 1), y (q + 4 + 2), y (q + 4 + 2 + 1))
