-- Fletcher's sums with the remainder taken once at the end, byte by byte and by the numbers that the bytes are.
use Prim.Native.Nat.{ℕ, suc, ◌+◌, ◌*◌, ◌/◌, ◌%◌, ◌<◌, ◌≤◌}
use mathlib.Core.List.{List, [], ◌∷◌, ◌++◌}
use mathlib.Core.Path.{◌≡◌, sym, ap, ap₂, ◌∙◌}
use native.Mathlib.Omega.{arith}
use native.Mathlib.Numerals.{add-one}
use native.Mathlib.Nat.{add-mod, mod-add-mod, add-mul-mod_self_left}
use lib.ListN.{length, get_or, drop, drop_of_length-le}
use lib.Seq.{drop-cons}
use Rattle.numbers.specs.Numbers.{be2, be4, be8}
use Rattle.checks.specs.Check.{fletcher}
use Rattle.checks.specs.Steps.{from, weight4}

-- one more byte
pub byte_on : (a b x : ℕ) (ys : List ℕ) → from a b (x ∷ ys) ≡ from (a + x) (b + (a + x)) ys
unfolding fletcher
byte_on a b x ys =
    let p : (a % 255 + x) % 255 ≡ (a + x) % 255 = mod-add-mod a 255 x in
    let q : (b % 255 + (a % 255 + x) % 255) % 255 ≡ (b + (a + x)) % 255 = ap (λ (u : ℕ). (b % 255 + u) % 255) p ∙ sym (add-mod b (a + x) 255) in
    ap₂ (λ (u v : ℕ). fletcher u v ys) p q

-- the kind alone
pub begun_on : (kind x : ℕ) → x ≡ kind → (ys : List ℕ) → fletcher 0 0 (kind ∷ ys) ≡ from x x ys
begun_on kind x e ys = byte_on 0 0 kind ys ∙ ap₂ (λ (u v : ℕ). from u v ys) (omega arith) (omega arith)

-- a number adds what its bytes add
pub two_on : (a b v : ℕ) (ys : List ℕ) → from a b (be2 v ++ ys) ≡ from (a + v) (b + 2 * a + v + v / 256) ys
two_on a b v ys =
    byte_on a b (v / 256) (v % 256 ∷ ys) ∙ byte_on (a + v / 256) (b + (a + v / 256)) (v % 256) ys
    ∙ ap₂ (λ (x y : ℕ). fletcher x y ys) (omega arith) (omega arith)

second_four : (a b v : ℕ) →
    (let h = v / 65536 in
    let l = v % 65536 in
    (b + 2 * a + h + h / 256 + 2 * (a + h) + l + l / 256) % 255 ≡ (b + 4 * a + weight4 v) % 255)
unfolding weight4
second_four a b v =
    let h = v / 65536 in
    let l = v % 65536 in
    let q : v / 256 ≡ 256 * h + l / 256 = omega arith in
    let r : v / 16777216 ≡ h / 256 = omega arith in
    let k : b + 4 * a + weight4 v ≡ b + 2 * a + h + h / 256 + 2 * (a + h) + l + l / 256 + 255 * (258 * h) = omega arith in
    sym (ap (λ (x : ℕ). x % 255) k ∙ add-mul-mod_self_left _ 255 (258 * h))

four_on : (a b v : ℕ) (ys : List ℕ) → from a b (be4 v ++ ys) ≡ from (a + v) (b + 4 * a + weight4 v) ys
four_on a b v ys =
    let h = v / 65536 in
    let l = v % 65536 in
    two_on a b h (be2 l ++ ys) ∙ two_on (a + h) (b + 2 * a + h + h / 256) l ys
    ∙ ap₂ (λ (x y : ℕ). fletcher x y ys) (omega arith) (second_four a b v)

pub eight_on : (a b v x y : ℕ) → x ≡ weight4 (v / 4294967296) → y ≡ weight4 (v % 4294967296) → (ys : List ℕ)
    → from a b (be8 v ++ ys) ≡ from (a + v / 4294967296 + v % 4294967296) (b + 8 * a + 4 * (v / 4294967296) + x + y) ys
eight_on a b v x y e f ys =
    let h = v / 4294967296 in
    let l = v % 4294967296 in
    let k : b + 4 * a + weight4 h + 4 * (a + h) + weight4 l ≡ b + 8 * a + 4 * h + x + y = omega arith in
    four_on a b h (be4 l ++ ys) ∙ four_on (a + h) (b + 4 * a + weight4 h) l ys ∙ ap (λ (n : ℕ). from (a + h + l) n ys) k

-- the bytes of a list, from place i on
pub sums_step : (s : List ℕ) (i a b x : ℕ) → x ≡ get_or s i 0 → i < length s → from a b (drop i s) ≡ from (a + x) (b + (a + x)) (drop (i + 1) s)
sums_step s i a b x e h = rw (add-one, drop-cons s i 0, ← e) (byte_on a b x (drop (suc i) s))

pub sums_end : (s : List ℕ) (i a b : ℕ) → length s ≤ i → from a b (drop i s) ≡ from a b []
sums_end s i a b h = rw drop_of_length-le
