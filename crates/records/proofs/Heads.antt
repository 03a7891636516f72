-- What a record's verdict says of the bytes, both ways.
use Prim.Native.Nat.{ℕ, suc, ◌+◌, ◌<◌, ◌≤◌}
use mathlib.Core.List.{List, ◌∷◌}
use mathlib.Core.Bool.{Bool, true, false}
use mathlib.Core.Option.{Option, none, some}
use mathlib.Core.Path.{◌≡◌, refl, sym, ap, ◌∙◌}
use native.Mathlib.Omega.{arith}
use native.Mathlib.Numerals.{add-one}
use lib.ListN.{length, get_or, take, drop}
use lib.Seq.{drop-cons}
use lib.Dec.{eqb, ltb, lit≤}
use borrow.Author.Tests.{eqb-true, eqb-false, ltb-false, eq-eqb, ne_eqb, lt-ltb, le-ltb}
use Rattle.entries.specs.Build.{pick}
use Rattle.answers.specs.Answers.{last_number}
use Rattle.numbers.specs.Numbers.{num2}
use Rattle.checks.specs.Check.{check_of}
use Rattle.records.specs.Records.{body_length, body_verdict, record_verdict}
use Rattle.records.specs.Steps.{Front}

pick_else : {A : Type 0} (b : Bool) {x y z : A} → (x ≡ z → ⊥) → pick b x y ≡ z → (b ≡ false) × (y ≡ z)
pick_else true n e = absurd (n e)
pick_else false n e = (refl, e)

pick_then : {A : Type 0} (b : Bool) {x y z : A} → (y ≡ z → ⊥) → pick b x y ≡ z → (b ≡ true) × (x ≡ z)
pick_then true n e = (refl, e)
pick_then false n e = absurd (n e)

not_0 : {v : ℕ} → ◌≡◌ {A = ℕ} (suc v) 0 → ⊥
not_0 e = omega arith

-- a number of the table, whichever way a test goes
pub pick_small : (t : Bool) {x y : ℕ} → x ≤ last_number → y ≤ last_number → pick t x y ≤ last_number
pick_small true p q = p
pick_small false p q = q

-- a whole record of the kind that is due, with n bytes of body
pub record Whole (mark due n : ℕ) (b : List ℕ) : Type 0 where
  pub marked : num2 b 0 ≡ mark
  pub is_due : get_or b 2 0 ≡ due
  pub long : n + 5 ≤ length b
  pub sum : check_of mark (take (n + 1) (drop 2 b)) ≡ num2 b (n + 3)

pub kind_body : (due n : ℕ) (b : List ℕ) → get_or b 2 0 ≡ due → n + 5 ≤ length b → due ∷ take n (drop 3 b) ≡ take (n + 1) (drop 2 b)
kind_body due n b e l =
    let c = drop-cons b 2 0 (omega arith) in
    sym (rw (add-one n, c, e))

-- the tests of the code, in turn
module _ (mark due : ℕ) (b : List ℕ) (content : Bool) where
  pub front_short : length b < 3 → 8 ≡ record_verdict mark due content b
  unfolding record_verdict
  front_short h = simp (lt-ltb _ _ h)

  module _ (h : 3 ≤ length b) (m x : ℕ) (ex : x ≡ num2 b 0) (em : m ≡ mark) where
    pub front_mark : (x ≡ m → ⊥) → 9 ≡ record_verdict mark due content b
    unfolding record_verdict
    front_mark n = simp (le-ltb _ _ h, ne_eqb (num2 b 0) mark (λ z. n (ex ∙ z ∙ sym em)))

    module _ (k : x ≡ m) where
      pub front_kind : (get_or b 2 0 ≡ due → ⊥) → 10 ≡ record_verdict mark due content b
      unfolding record_verdict
      front_kind n = simp (le-ltb _ _ h, eq-eqb (num2 b 0) mark (sym ex ∙ k ∙ em), ne_eqb _ _ n)

      pub front_body : get_or b 2 0 ≡ due → (o : Option ℕ) → body_length due ≡ o → body_verdict mark o content b ≡ record_verdict mark due content b
      unfolding record_verdict
      front_body d o q = simp (le-ltb _ _ h, eq-eqb (num2 b 0) mark (sym ex ∙ k ∙ em), eq-eqb _ _ d, q)

      -- the kind that stands there is in no row of the table: no such kind is ever due
      pub front_unknown : body_length (get_or b 2 0) ≡ none → 10 ≡ record_verdict mark due content b
      front_unknown u = go (eqb (get_or b 2 0) due) refl
        where
          go : (t : Bool) → eqb (get_or b 2 0) due ≡ t → 10 ≡ record_verdict mark due content b
          go true e = let d = eqb-true (get_or b 2 0) due e in front_body d none (sym (ap body_length d) ∙ u)
          go false e = front_kind (eqb-false (get_or b 2 0) due e)

  pub length_short : (n : ℕ) → length b < n + 5 → 8 ≡ body_verdict mark (some n) content b
  length_short n l = simp (lt-ltb _ _ l)

  pub record_small : record_verdict mark due content b ≤ last_number
  unfolding record_verdict
  record_small =
      pick_small (ltb (length b) 3) (lit≤ tt)
      (pick_small (eqb (num2 b 0) mark) (pick_small (eqb (get_or b 2 0) due) (go (body_length due)) (lit≤ tt)) (lit≤ tt))
    where
      go : (o : Option ℕ) → body_verdict mark o content b ≤ last_number
      go none = lit≤ tt
      go (some n) =
          pick_small (ltb (length b) (n + 5)) (lit≤ tt)
          (pick_small (eqb (check_of mark (take (n + 1) (drop 2 b))) (num2 b (n + 3))) (pick_small content (lit≤ tt) (lit≤ tt)) (lit≤ tt))

  -- with the length of the body
  module _ (n : ℕ) (q : body_length due ≡ some n) where
    abbrev checked : Bool
    checked = eqb (check_of mark (take (n + 1) (drop 2 b))) (num2 b (n + 3))

    opened : Front mark due b → record_verdict mark due content b ≡ pick checked (pick content 0 12) 11
    unfolding record_verdict
    opened f =
        let l = f.long n q in
        let h : 3 ≤ length b = omega arith in
        simp (le-ltb _ _ h, eq-eqb _ _ f.marked, eq-eqb _ _ f.is_due, q, le-ltb _ _ l)

    -- the sums over kind and body, compared with the check that stands there
    pub record_told : Front mark due b → (x : ℕ) (body : List ℕ) → body ≡ take n (drop 3 b) → x ≡ check_of mark (due ∷ body)
        → (t : Bool) → t ≡ eqb x (num2 b (n + 3)) → pick t (pick content 0 12) 11 ≡ record_verdict mark due content b
    record_told f x body p s t k =
        let c : x ≡ check_of mark (take (n + 1) (drop 2 b)) =
        s ∙ ap (check_of mark) (ap (λ (v : List ℕ). due ∷ v) p ∙ kind_body due n b f.is_due (f.long n q)) in
        sym (opened f ∙ ap (λ (u : Bool). pick u (pick content 0 12) 11) (ap (λ (i : ℕ). eqb i (num2 b (n + 3))) (sym c) ∙ sym k))

    -- accepted exactly where the record is whole and its content right
    pub record_zero : Whole mark due n b → content ≡ true → record_verdict mark due content b ≡ 0
    unfolding record_verdict
    record_zero w c =
        let h : 3 ≤ length b = omega (arith, w.long) in
        simp (le-ltb _ _ h, eq-eqb _ _ w.marked, eq-eqb _ _ w.is_due, q, le-ltb _ _ w.long, eq-eqb _ _ w.sum, c)

    pub record_inv : record_verdict mark due content b ≡ 0 → Whole mark due n b × (content ≡ true)
    unfolding record_verdict
    record_inv e =
        let a = pick_else (ltb (length b) 3) not_0 e in
        let d = pick_then (eqb (num2 b 0) mark) not_0 a.1 in
        let f = pick_then (eqb (get_or b 2 0) due) not_0 d.1 in
        let g = pick_else (ltb (length b) (n + 5)) not_0 (rw q at f.1) in
        let t = pick_then checked not_0 g.1 in (
          record {
            marked = eqb-true _ _ d.0;
            is_due = eqb-true _ _ f.0;
            long = ltb-false _ _ g.0;
            sum = eqb-true _ _
                t.0;
          },
          (pick_then content not_0 t.1).0,
        )
