-- A part that was lent and has come back, and writing one run after the other.
use Prim.Native.Nat.{ℕ, ◌+◌, ◌-◌, ◌≤◌, ◌<◌}
use mathlib.Core.List.{List, [], ◌∷◌, ◌++◌, append_assoc, append-nil}
use mathlib.Core.Path.{◌≡◌, sym, ap, ◌∙◌}
use native.Mathlib.Omega.{arith}
use native.Mathlib.Nat.{add_assoc}
use lib.ListN.{length, take, drop, set, length-drop, length-append, take-append-drop, drop_of_length-le}
use lib.Seq.{length-take-le, take_all, drop-drop, take_at, drop_at, sets-eq}
use borrow.Rule.Slice.PartMut.{put_mid}
use Rattle.numbers.specs.Numbers.{over, patch}

-- a part to the end
pub tail_part : (p : ℕ) (b : List ℕ) → take (length b - p) (drop p b) ≡ drop p b
tail_part p b = take_all (length b - p) (drop p b) (omega (arith, length-drop p b))

pub length_over : (vs b : List ℕ) → length vs ≤ length b → length (over vs b) ≡ length b
length_over vs b h = simp (length-append, length-drop) (omega arith)

-- the tail from p, written at its front, is back
pub mid_patch : (p : ℕ) (vs b y : List ℕ) → y ≡ over vs (take (length b - p) (drop p b)) → put_mid p (length b - p) b y ≡ patch p vs b
mid_patch p vs b y e =
    let d : drop (length b - p) (drop p b) ≡ [] = drop_of_length-le (drop p b) {i = length b - p} (omega (arith, length-drop p b)) in
    rw (e, tail_part, d, append-nil)

-- after us, vs
pub patch_over : (us vs b : List ℕ) (p : ℕ) → length us ≡ p → patch p vs (over us b) ≡ over (us ++ vs) b
patch_over us vs b p e =
    let l : length (us ++ vs) ≡ p + length vs = length-append us vs ∙ ap (λ (k : ℕ). k + length vs) e in
    rw (take_at us (drop (length us) b) p e, drop_at us (drop (length us) b) p e, l, ← e, drop-drop, append_assoc)

pub mid_over : (us vs b b1 y : List ℕ) (p : ℕ) → length us ≡ p → b1 ≡ over us b → y ≡ over vs (take (length b1 - p) (drop p b1))
    → put_mid p (length b1 - p) b1 y ≡ over (us ++ vs) b
mid_over us vs b b1 y p e q w = mid_patch p vs b1 y w ∙ ap (patch p vs) q ∙ patch_over us vs b p e

-- one run after the other, from p on
pub patch_more : (us vs b : List ℕ) (p k : ℕ) → length us ≡ k → p ≤ length b → patch p (us ++ vs) b ≡ patch (p + k) vs (patch p us b)
patch_more us vs b p k e h =
    let t : length (take p b ++ us) ≡ p + k = length-append (take p b) us ∙ (let l : length (take p b) ≡ p = length-take-le p b h in cc) in
    let x : patch p us b ≡ (take p b ++ us) ++ drop k (drop p b) = rw (e, append_assoc) in
    let d : drop (length (us ++ vs)) (drop p b) ≡ drop (length vs) (drop k (drop p b)) = simp (length-append, e, drop-drop, add_assoc) in
    rw (x, take_at (take p b ++ us) (drop k (drop p b)) (p + k) t, drop_at (take p b ++ us) (drop k (drop p b)) (p + k) t, d)
    (simp append_assoc)

pub patch_none : (p : ℕ) (b : List ℕ) → patch p [] b ≡ b
patch_none p b = take-append-drop p b

-- a turn of a loop that lends the part from p on: what is still to be written to the buffer of today gives the whole
pub lent_turn : (us vs b y whole : List ℕ) (p k : ℕ) → length us ≡ k → p ≤ length b → whole ≡ patch p (us ++ vs) b
    → y ≡ over us (take (length b - p) (drop p b)) → whole ≡ patch (p + k) vs (put_mid p (length b - p) b y)
lent_turn us vs b y whole p k l h e m = e ∙ patch_more us vs b p k l h ∙ ap (patch (p + k) vs) (sym (mid_patch p us b y m))

-- a turn of a loop that stores a word behind what it has written
pub store_over : (us b : List ℕ) (x p : ℕ) → length us ≡ p → p < length b → set (over us b) p x ≡ over (us ++ (x ∷ [])) b
store_over us b x p e h =
    let l : p + 1 ≤ length (over us b) = omega (arith, length_over us b (omega arith)) in
    let s : set (over us b) p x ≡ patch p (x ∷ []) (over us b) = sets-eq (x ∷ []) (over us b) p l ∙ simp (append_assoc, drop-drop) in
    s ∙ patch_over us (x ∷ []) b p e
