-- Words moved, pasted, cleared and stored, and what that makes of the entries.
use mathlib.Core.Path.{◌≡◌, refl, sym, ◌∙◌, ap, ap₂}
use mathlib.Core.List.{List, [], ◌∷◌, ◌++◌, append_assoc}
use Prim.Native.Nat.{ℕ, suc, ◌+◌, ◌*◌, ◌-◌, ◌≤◌, ◌<◌}
use native.Mathlib.Omega.{arith}
use native.Mathlib.Nat.{mul-add, mul-le-mul_left}
use lib.ListN.{length, get_or, take, drop, replicate, length-append, length-take, length-drop, length-replicate, get_or-replicate, take-append-drop}
use Rattle.entries.specs.Entries.{Entry, entry}
use Rattle.blocks.specs.Steps.{Cleared, item_at, Spliced}
use Rattle.blocks.specs.Blocks.{item_of, items_of, words_of, block_of}
use Rattle.blocks.proofs.Words.{words_append, items_length, write_back, items_take, items_drop, item_at_lem}
use lib.Seq.{drop-drop, take_all, drop-cons, get_or-drop, get_or-take, ext_get_or, length-take-le}

pub item_drop : (s p q r t : ℕ) (w : List ℕ) → q ≡ p → r ≡ suc p → t ≡ p + 2 → item_of s (drop p w) ≡ entry (get_or w q 0) (get_or w r 0) (take (s - 2) (drop t w))
item_drop s p q r t w e f g =
    let h : p + 0 ≡ q = omega arith in
    let k : p + 1 ≡ r = omega arith in
    λ m. record {
      low = (get_or-drop p w 0 0 ∙ ap (λ (x : ℕ). get_or w x 0) h) m;
      high = (get_or-drop p w 1 0 ∙ ap (λ (x : ℕ). get_or w x 0) k) m;
      value = (ap (take (s - 2)) (drop-drop 2 p w ∙ ap (λ (x : ℕ). drop x w) (sym g))) m;
    }

pub entry_at : (s : ℕ) → 2 ≤ s → (n i : ℕ) (w : List ℕ) (d : Entry) → i < n → get_or (items_of s n (drop 1 w)) i d ≡ item_at s w i
entry_at s two n i w d h =
    item_at_lem s two n i (drop 1 w) d h ∙ ap (item_of s) (drop-drop (s * i) 1 w)
    ∙ item_drop s (1 + s * i) (s * i + 1) (s * i + 2) (s * i + 3) w (omega arith) (omega arith) (omega arith)

-- equal words make equal parts
pub part_eq : (a b : List ℕ) (p q n : ℕ) → p + n ≤ length a → q + n ≤ length b → ((k : ℕ) → k < n → get_or a (p + k) 0 ≡ get_or b (q + k) 0)
    → take n (drop p a) ≡ take n (drop q b)
part_eq a b p q n h g e =
    ext_get_or 0 (take n (drop p a)) (take n (drop q b)) (la ∙ sym lb)
    (λ k l. let m : k < n = omega (arith, la) in
    get_or-take n (drop p a) k 0 m ∙ get_or-drop p a k 0 ∙ e k m ∙ sym (get_or-drop q b k 0) ∙ sym (get_or-take n (drop q b) k 0 m))
  where
    la : length (take n (drop p a)) ≡ n
    la = length-take-le n (drop p a) (omega (arith, length-drop p a))

    lb : length (take n (drop q b)) ≡ n
    lb = length-take-le n (drop q b) (omega (arith, length-drop q b))

pub zeros : (a : List ℕ) (p : ℕ) → ((k : ℕ) → p ≤ k → get_or a k 0 ≡ 0) → drop p a ≡ replicate (length a - p) 0
zeros a p h =
    ext_get_or 0 (drop p a) (replicate (length a - p) 0) (length-drop p a ∙ sym (length-replicate (length a - p) 0))
    (λ k l. get_or-drop p a k 0 ∙ h (p + k) (omega arith) ∙ sym (get_or-replicate (length a - p) k 0 0 (omega (arith, length-drop p a))))

four : (w : List ℕ) (p a b c : ℕ) → drop p w ≡ take a (drop p w) ++ (take b (drop (p + a) w) ++ (take c (drop (p + a + b) w) ++ drop (p + a + b + c) w))
four w p a b c =
    sym (take-append-drop a (drop p w)) ∙ ap (λ (l : List ℕ). take a (drop p w) ++ l) (drop-drop a p w
    ∙ sym (take-append-drop b (drop (p + a) w)) ∙ ap (λ (l : List ℕ). take b (drop (p + a) w) ++ l) (drop-drop b (p + a) w
    ∙ sym (take-append-drop c (drop (p + a + b) w)) ∙ ap (λ (l : List ℕ). take c (drop (p + a + b) w) ++ l) (drop-drop c (p + a + b) w)))

pub block_path : (L : ℕ) (es : List Entry) (n z : ℕ) (ws : List ℕ) → n ≡ length es → ws ≡ words_of es → z ≡ L - (1 + length (words_of es))
    → n ∷ (ws ++ replicate z 0) ≡ block_of L es
unfolding block_of
block_path L es n z ws e f g = ap₂ ◌∷◌ e (ap₂ ◌++◌ f (ap (λ (k : ℕ). replicate k 0) g))

-- THE SPLICE in entries: items before i, the new ones, items from j on; and 0 to the end
module _ (s : ℕ) (two : 2 ≤ s) (w new : List ℕ) (n i j c : ℕ) (held : 1 + s * n ≤ length w) (hi : i ≤ n) (hj : j ≤ n) (whole : length new ≡ s * c) where
  abbrev pub spliced-entries : List Entry
  spliced-entries = take i (items_of s n (drop 1 w)) ++ (items_of s c new ++ drop j (items_of s n (drop 1 w)))

  back_is : s * (n - j) + s * j ≡ s * n
  back_is = let e : (n - j) + j ≡ n = omega arith in omega (arith, mul-add s (n - j) j, ap (λ (x : ℕ). s * x) e)

  front_le : s * i ≤ s * n
  front_le = mul-le-mul_left s hi

  old : length (drop 1 w) ≡ length w - 1
  old = length-drop 1 w

  front_words : words_of (take i (items_of s n (drop 1 w))) ≡ take (s * i) (drop 1 w)
  front_words = ap words_of (items_take s two n i (drop 1 w) hi) ∙ write_back s two i (drop 1 w) (omega (arith, front_le, old))

  new_words : words_of (items_of s c new) ≡ new
  new_words = write_back s two c new (omega arith) ∙ take_all (s * c) new (omega arith)

  back_words : words_of (drop j (items_of s n (drop 1 w))) ≡ take (s * (n - j)) (drop (1 + s * j) w)
  back_words =
      ap words_of (items_drop s two n j (drop 1 w) hj)
      ∙ write_back s two (n - j) (drop (s * j) (drop 1 w)) (omega (arith, back_is, old, length-drop (s * j) (drop 1 w)))
      ∙ ap (take (s * (n - j))) (drop-drop (s * j) 1 w)

  pub entries_count : length spliced-entries ≡ i + c + (n - j)
  entries_count = omega (
    arith,
    length-append (take i (items_of s n (drop 1 w))) (items_of s c new ++ drop j (items_of s n (drop 1 w))),
    length-append (items_of s c new) (drop j (items_of s n (drop 1 w))),
    length-take i (items_of s n (drop 1 w)),
    length-drop j (items_of s n (drop 1 w)),
    items_length s n (drop 1 w),
    items_length s c new,
  )

  pub splice_entries : (w' : List ℕ) (m : ℕ) → m ≡ i + c + (n - j) → 1 + (s * i + s * c + s * (n - j)) ≤ length w → length w' ≡ length w
      → Spliced w new (s * i + 1) (s * j + 1) (s * n + 1) m w' → w' ≡ block_of (length w) spliced-entries
  splice_entries w' m em room len sp =
      drop-cons w' 0 0 (omega arith) ∙ ap₂ ◌∷◌ sp.head (four w' 1 (s * i) (s * c) (s * (n - j)) ∙ parts ∙ joined)
      ∙ block_path (length w) spliced-entries m z (A ++ (B ++ C)) (em ∙ sym entries_count) words left
    where
      z : ℕ
      z = length w' - (1 + s * i + s * c + s * (n - j))

      A : List ℕ
      A = words_of (take i (items_of s n (drop 1 w)))

      B : List ℕ
      B = words_of (items_of s c new)

      C : List ℕ
      C = words_of (drop j (items_of s n (drop 1 w)))

      front : take (s * i) (drop 1 w') ≡ A
      front = part_eq w' w 1 1 (s * i) (omega arith) (omega (arith, front_le)) (λ k l. sp.front (1 + k) (omega arith) (omega arith)) ∙ sym front_words

      middle : take (s * c) (drop (1 + s * i) w') ≡ B
      middle =
          part_eq w' new (1 + s * i) 0 (s * c) (omega arith) (omega arith)
          (λ k l. let e : 0 + k ≡ k = omega arith in sp.new_at (1 + s * i + k) k (omega arith) (omega arith) ∙ ap (λ (x : ℕ). get_or new x 0) (sym e))
          ∙ take_all (s * c) new (omega arith) ∙ sym new_words

      back : take (s * (n - j)) (drop (1 + s * i + s * c) w') ≡ C
      back = part_eq w' w (1 + s * i + s * c) (1 + s * j) (s * (n - j)) (omega arith) (omega (arith, back_is))
          (λ k l. sp.back (1 + s * i + s * c + k) (1 + s * j + k) (omega arith) (omega arith) (omega (arith, back_is))) ∙ sym back_words

      tail : drop (1 + s * i + s * c + s * (n - j)) w' ≡ replicate z 0
      tail = zeros w' (1 + s * i + s * c + s * (n - j)) (λ k l. sp.tail k (omega (arith, back_is)))

      parts : take (s * i) (drop 1 w') ++
          (take (s * c) (drop (1 + s * i) w') ++ (take (s * (n - j)) (drop (1 + s * i + s * c) w') ++ drop (1 + s * i + s * c + s * (n - j)) w')) ≡ A
          ++ (B ++ (C ++ replicate z 0))
      parts = ap₂ ◌++◌ front (ap₂ ◌++◌ middle (ap₂ ◌++◌ back tail))

      joined : A ++ (B ++ (C ++ replicate z 0)) ≡ (A ++ (B ++ C)) ++ replicate z 0
      joined = sym (append_assoc A (B ++ C) (replicate z 0) ∙ ap (λ (l : List ℕ). A ++ l) (append_assoc B C (replicate z 0)))

      words : A ++ (B ++ C) ≡ words_of spliced-entries
      words =
          sym (words_append (take i (items_of s n (drop 1 w))) (items_of s c new ++ drop j (items_of s n (drop 1 w)))
          ∙ ap (λ (l : List ℕ). A ++ l) (words_append (items_of s c new) (drop j (items_of s n (drop 1 w)))))

      left : z ≡ length w - (1 + length (words_of spliced-entries))
      left = omega (
        arith,
        ap length (sym words),
        length-append A (B ++ C),
        length-append B C,
        ap length (sym front),
        ap length (sym middle),
        ap length (sym back),
        length-take-le (s * i) (drop 1 w') (omega (arith, length-drop 1 w')),
        length-take-le (s * c) (drop (1 + s * i) w') (omega (arith, length-drop (1 + s * i) w')),
        length-take-le (s * (n - j)) (drop (1 + s * i + s * c) w') (omega (arith, length-drop (1 + s * i + s * c) w')),
      )

-- a block of zeros says nothing
pub cleared_block : (w w' : List ℕ) → 0 < length w → Cleared w 0 w' → w' ≡ block_of (length w) []
cleared_block w w' h c =
    drop-cons w' 0 0 (omega (arith, c.same)) ∙ ap₂ ◌∷◌ (c.zero 0 (omega arith)) (zeros w' 1 (λ k p. c.zero k (omega arith)))
    ∙ block_path (length w) [] 0 (length w' - 1) [] refl refl (omega (arith, c.same))
