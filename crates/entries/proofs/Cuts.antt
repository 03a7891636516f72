-- Cut points: the numbers at which a function may change.
use mathlib.Core.Path.{◌≡◌, refl, ◌∙◌}
use mathlib.Core.Logic.{◌≢◌}
use mathlib.Core.Bool.{Bool, true, false}
use mathlib.Core.List.{List, [], ◌∷◌, ◌++◌}
use Prim.Native.Nat.{ℕ, zero, suc, ◌≤◌, ◌<◌}
use native.Mathlib.Omega.{arith}
use native.Mathlib.Decide.{dec_le}
use lib.Dec.{ltb, eqb}
use borrow.Author.Tests.{ltb-true, ltb-false, eqb-true, eqb-false}
use Rattle.entries.specs.Build.{pick, insert, sort}

abbrev pub NotIn : ℕ → List ℕ → Type 0
NotIn x [] = Unit {0}
NotIn x (c ∷ cs) = (x ≢ c) × NotIn x cs

pub notin_append : (x : ℕ) (cs ds : List ℕ) → NotIn x (cs ++ ds) → NotIn x cs × NotIn x ds
notin_append x [] ds h = (tt, h)
notin_append x (c ∷ cs) ds h = ((h.0, (notin_append x cs ds h.1).0), (notin_append x cs ds h.1).1)

-- strictly rising lists
abbrev pub Below : ℕ → List ℕ → Type 0
Below c [] = Unit {0}
Below c (d ∷ ds) = c < d

abbrev pub Rising : List ℕ → Type 0
Rising [] = Unit {0}
Rising (c ∷ cs) = Below c cs × Rising cs

pub notin_below : (x : ℕ) (cs : List ℕ) → Below x cs → Rising cs → NotIn x cs
notin_below x [] b r = tt
notin_below x (c ∷ cs) b r = (omega arith, notin_below x cs (less cs r.0) r.1)
  where
    less : (ds : List ℕ) → Below c ds → Below x ds
    less [] b' = tt
    less (d ∷ ds) b' = omega arith

insert_below : (b c : ℕ) (cs : List ℕ) → b < c → Below b cs → Below b (insert c cs)
insert_below b c [] h k = h
insert_below b c (d ∷ ds) h k = go (ltb c d) (eqb c d)
  where
    go : (t u : Bool) → Below b (pick t (c ∷ d ∷ ds) (pick u (d ∷ ds) (d ∷ insert c ds)))
    go true u = h
    go false true = k
    go false false = k

pub insert_rising : (c : ℕ) (cs : List ℕ) → Rising cs → Rising (insert c cs)
insert_rising c [] r = (tt, tt)
insert_rising c (d ∷ ds) r = go (insert_rising c ds r.1) (ltb c d) refl (eqb c d) refl
  where
    go : Rising (insert c ds) → (t : Bool) → ltb c d ≡ t → (u : Bool) → eqb c d ≡ u → Rising (pick t (c ∷ d ∷ ds) (pick u (d ∷ ds) (d ∷ insert c ds)))
    go ih true e u f = (ltb-true c d e, r)
    go ih false e true f = r
    go ih false e false f = (insert_below d c ds (omega (arith, ltb-false c d e, eqb-false c d f)) r.0, ih)

pub insert_notin : (x c : ℕ) (cs : List ℕ) → NotIn x (insert c cs) → NotIn x (c ∷ cs)
insert_notin x c [] h = h
insert_notin x c (d ∷ ds) h = go (insert_notin x c ds) (ltb c d) (eqb c d) refl h
  where
    go : (NotIn x (insert c ds) → NotIn x (c ∷ ds)) → (t u : Bool) → eqb c d ≡ u → NotIn x (pick t (c ∷ d ∷ ds) (pick u (d ∷ ds) (d ∷ insert c ds)))
        → NotIn x (c ∷ d ∷ ds)
    go ih true u f n = n
    go ih false true f n = (omega (arith, eqb-true c d f), n)
    go ih false false f n = ((ih n.1).0, (n.0, (ih n.1).1))

pub sort_rising : (cs : List ℕ) → Rising (sort cs)
sort_rising [] = tt
sort_rising (c ∷ cs) = insert_rising c (sort cs) (sort_rising cs)

pub sort_notin : (x : ℕ) (cs : List ℕ) → NotIn x (sort cs) → NotIn x cs
sort_notin x [] h = tt
sort_notin x (c ∷ cs) h = ((insert_notin x c (sort cs) h).0, sort_notin x cs (insert_notin x c (sort cs) h).1)

-- a function that does not change between x and y
module _ {B : Type 0} (F : ℕ → B) where
  pub constant : (x y : ℕ) → x ≤ y → ((z : ℕ) → x ≤ z → z < y → F (suc z) ≡ F z) → F y ≡ F x
  constant x zero h k = let e : x ≡ zero = omega arith in rw e
  constant x (suc y) h k = go (λ p. constant x y p (λ z a b. k z a (omega arith))) (dec_le x y)
    where
      go : (x ≤ y → F y ≡ F x) → Dec (x ≤ y) → F (suc y) ≡ F x
      go ih (yes p) = k y p (omega arith) ∙ ih p
      go ih (no p) = let e : x ≡ suc y = omega arith in rw e

  abbrev pub Changes : List ℕ → Type 0
  Changes cs = (y : ℕ) → NotIn (suc y) cs → F (suc y) ≡ F y
