-- A run of range records as a list to walk along.
use Prim.Native.Nat.{ℕ, ◌+◌, ◌-◌, ◌*◌, ◌<◌, ◌≤◌}
use mathlib.Core.Bool.{Bool, true, false}
use native.Mathlib.Omega.{arith}
use mathlib.Core.List.{List, [], ◌∷◌}
use mathlib.Core.Path.{◌≡◌, refl, sym, ap, ap₂, ◌∙◌}
use lib.ListN.{drop}
use lib.Seq.{drop-drop}
use Rattle.entries.specs.Entries.{entry}
use Rattle.numbers.specs.Numbers.{num8}
use Rattle.numbers.proofs.Numbers.{num8_drop}
use Rattle.records.specs.Records.{end_of, said}
use Rattle.searches.proofs.Walking.{View, Left, all_left, no_others, none_left, go_left, go_right, found}
use Rattle.entries.specs.Bulletins.{shareb}
use Rattle.verdicts.specs.Steps.{OneRun}
use Rattle.runs.specs.Runs.{entries_in}

-- ranges in bytes
pub in_bytes : (kind : ℕ) (b : List ℕ)
    → View (λ n p. entries_in kind 2 n (drop p b)) 21 (λ p. end_of kind (num8 b (p + 3))) (λ p. end_of kind (num8 b (p + 11)))
unfolding entries_in said
in_bytes kind b = record {
  none = λ p. refl;
  more = λ n p. ap₂ ◌∷◌
      (ap₂ (λ (x y : ℕ). entry (end_of kind x) (end_of kind y) []) (num8_drop b p 3) (num8_drop b p 11))
      (ap (entries_in kind 2 n) (drop-drop 21 p b));
}

-- a walk along two runs of ranges, of which i and j are passed
abbrev pub Walk : (first p n second q m : ℕ) (b : List ℕ) (i j : ℕ) → Type 0
Walk first p n second q m b i j = Left (in_bytes first b) (in_bytes second b) n p m q (p + 21 * i) (n - i) (q + 21 * j) (m - j)

module _ (first p n second q m : ℕ) (b : List ℕ) (o : OneRun first p n b) (r : OneRun second q m b) where
  pub walk_all : Walk first p n second q m b 0 0
  walk_all =
      let x : p + 21 * 0 ≡ p = omega arith in
      let y : q + 21 * 0 ≡ q = omega arith in
      rw (x, y) (all_left (in_bytes first b) (in_bytes second b) n p m q (n - 0) (m - 0) (omega arith) (omega arith) o.sound r.sound)

  abbrev Shared : Bool
  Shared = shareb (entries_in first 2 n (drop p b)) (entries_in second 2 m (drop q b))

  module _ (i j : ℕ) (w : Walk first p n second q m b i j) where
    pub none_left_here : n ≤ i → false ≡ Shared
    none_left_here h = none_left (in_bytes first b) (in_bytes second b) w (omega arith)

    pub no_others_here : m ≤ j → false ≡ Shared
    no_others_here h = no_others (in_bytes first b) (in_bytes second b) w (omega arith)

    module _ (h : i < n) (l : j < m) where
      pub walk_left : (x y : ℕ) → x ≡ num8 b (p + 21 * i + 11) → y ≡ num8 b (q + 21 * j + 3) → x < y → Walk first p n second q m b (i + 1) j
      walk_left x y e f t =
          let a : p + 21 * (i + 1) ≡ p + 21 * i + 21 = omega arith in
          let c : n - (i + 1) ≡ n - i - 1 = omega arith in
          rw (a, c) (go_left (in_bytes first b) (in_bytes second b) w (omega arith) (omega arith) x y (e ∙ sym (o.plain _)) (f ∙ sym (r.plain _)) t)

      pub walk_right : (x y : ℕ) → x ≡ num8 b (q + 21 * j + 11) → y ≡ num8 b (p + 21 * i + 3) → x < y → Walk first p n second q m b i (j + 1)
      walk_right x y e f t =
          let a : q + 21 * (j + 1) ≡ q + 21 * j + 21 = omega arith in
          let c : m - (j + 1) ≡ m - j - 1 = omega arith in
          rw (a, c) (go_right (in_bytes first b) (in_bytes second b) w (omega arith) (omega arith) x y (e ∙ sym (r.plain _)) (f ∙ sym (o.plain _)) t)

      pub share_here : (x y z v : ℕ) → x ≡ num8 b (p + 21 * i + 11) → y ≡ num8 b (q + 21 * j + 3) → z ≡ num8 b (q + 21 * j + 11)
          → v ≡ num8 b (p + 21 * i + 3) → y ≤ x → v ≤ z → true ≡ Shared
      share_here x y z v e f g k t u =
          found (in_bytes first b) (in_bytes second b) w (omega arith) (omega arith) x y z v (e ∙ sym (o.plain _)) (f ∙ sym (r.plain _))
          (g ∙ sym (r.plain _)) (k ∙ sym (o.plain _)) t u
