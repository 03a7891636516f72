-- What is chosen from listed gaps: the first in which a run fits, or the shortest, for any allowed starts.
use mathlib.Core.Path.{◌≡◌, refl, sym, ◌∙◌, ap}
use mathlib.Core.Logic.{inl, inr}
use mathlib.Core.Bool.{Bool, true, false}
use mathlib.Core.Option.{Option, none, some}
use mathlib.Core.List.{List, [], ◌∷◌}
use Prim.Native.Nat.{ℕ, suc, ◌+◌, ◌-◌, ◌≤◌, ◌<◌}
use native.Mathlib.Omega.{arith}
use lib.Dec.{leb}
use borrow.Author.Tests.{leb-true, leb-false, le-leb}
use Rattle.entries.specs.Entries.{Entry, Sound}
use Rattle.entries.specs.Build.{pick}
use Rattle.entries.specs.Questions.{filter}
use Rattle.entries.proofs.Values.{true≢false}
use Rattle.fits.specs.Fits.{numbers, fits, first_gap, shorter, shortest_gap}
use Rattle.fits.proofs.Listed.{In, in_far}

module _ (up : ℕ → ℕ) (above : (s : ℕ) → s ≤ up s) (k : ℕ) (run : 1 ≤ k) where
  -- none fits
  abbrev pub NoFit : List Entry → Type 0
  NoFit gs = (l h : ℕ) → In l h gs → up l + k ≤ suc h → ⊥

  pub record First (gs : List Entry) (g : Entry) : Type 0 where
    pub listed : In g.low g.high gs
    pub fits : up g.low + k ≤ suc g.high
    pub least : (l h : ℕ) → In l h gs → up l + k ≤ suc h → up g.low ≤ up l

  pub record Shortest (gs : List Entry) (g : Entry) : Type 0 where
    pub listed : In g.low g.high gs
    pub fits : up g.low + k ≤ suc g.high
    pub shortest : (l h : ℕ) → In l h gs → up l + k ≤ suc h → numbers g ≤ suc h - l
    pub lowest : (l h : ℕ) → In l h gs → up l + k ≤ suc h → suc h - l ≡ numbers g → g.low ≤ l

  abbrev pub Chose : (List Entry → Entry → Type 0) → List Entry → Option Entry → Type 0
  Chose P gs none = NoFit gs
  Chose P gs (some g) = P gs g

  -- a gap in which the run does not fit
  module _ (e : Entry) (gs : List Entry) (t : leb (up e.low + k) (suc e.high) ≡ false) where
    not_first : (l h : ℕ) → In l h (e ∷ gs) → up l + k ≤ suc h → In l h gs
    not_first l h (inl p) q = absurd (true≢false (sym (le-leb (up e.low + k) (suc e.high) (rw (p.0, p.1) q)) ∙ t))
    not_first l h (inr i) q = i

    pass_none : NoFit gs → NoFit (e ∷ gs)
    pass_none n l h i q = n l h (not_first l h i q) q

  pub chose_first : (gs : List Entry) → Sound gs → Chose First gs (first_gap (filter (fits up k) gs))
  chose_first [] s = λ l h i q. i
  chose_first (e ∷ gs) s = go (fits up k e) refl (chose_first gs s.2)
    where
      on : fits up k e ≡ false → (o : Option Entry) → Chose First gs o → Chose First (e ∷ gs) o
      on t none c = pass_none e gs t c
      on t (some g) c = record { listed = inr c.listed; fits = c.fits; least = λ l h i q. c.least l h (not_first e gs t l h i q) q }

      go : (t : Bool) → fits up k e ≡ t → Chose First gs (first_gap (filter (fits up k) gs))
          → Chose First (e ∷ gs) (first_gap (pick t (e ∷ filter (fits up k) gs) (filter (fits up k) gs)))
      go true t c = record {
        listed = inl (refl, refl);
        fits = leb-true (up e.low + k) (suc e.high) t;
        least = least;
      }
        where
          least : (l h : ℕ) → In l h (e ∷ gs) → up l + k ≤ suc h → up e.low ≤ up l
          least l h (inl p) q = let u = ap up p.0 in omega arith
          least l h (inr i) q = omega (arith, leb-true (up e.low + k) (suc e.high) t, in_far e gs l h s i, above l)
      go false t c = on t (first_gap (filter (fits up k) gs)) c

  pub chose_shortest : (gs : List Entry) → Sound gs → Chose Shortest gs (shortest_gap (filter (fits up k) gs))
  chose_shortest [] s = λ l h i q. i
  chose_shortest (e ∷ gs) s = go (fits up k e) refl (chose_shortest gs s.2)
    where
      on : fits up k e ≡ false → (o : Option Entry) → Chose Shortest gs o → Chose Shortest (e ∷ gs) o
      on t none c = pass_none e gs t c
      on t (some g) c = record {
        listed = inr c.listed;
        fits = c.fits;
        shortest = λ l h i q. c.shortest l h (not_first e gs t l h i q) q;
        lowest = λ l h i q. c.lowest l h (not_first e gs t l h i q) q;
      }

      ok : fits up k e ≡ true → up e.low + k ≤ suc e.high
      ok t = leb-true (up e.low + k) (suc e.high) t

      alone : fits up k e ≡ true → NoFit gs → Shortest (e ∷ gs) e
      alone t n = record { listed = inl (refl, refl); fits = ok t; shortest = shortest; lowest = lowest }
        where
          shortest : (l h : ℕ) → In l h (e ∷ gs) → up l + k ≤ suc h → numbers e ≤ suc h - l
          shortest l h (inl p) q = omega arith
          shortest l h (inr i) q = absurd (n l h i q)

          lowest : (l h : ℕ) → In l h (e ∷ gs) → up l + k ≤ suc h → suc h - l ≡ numbers e → e.low ≤ l
          lowest l h (inl p) q m = omega arith
          lowest l h (inr i) q m = absurd (n l h i q)

      two : fits up k e ≡ true → (f : Entry) → Shortest gs f → (u : Bool) → leb (numbers e) (numbers f) ≡ u → Shortest (e ∷ gs) (pick u e f)
      two t f c true v = record { listed = inl (refl, refl); fits = ok t; shortest = shortest; lowest = lowest }
        where
          n : numbers e ≤ numbers f
          n = leb-true (numbers e) (numbers f) v

          shortest : (l h : ℕ) → In l h (e ∷ gs) → up l + k ≤ suc h → numbers e ≤ suc h - l
          shortest l h (inl p) q = omega arith
          shortest l h (inr i) q = omega (arith, n, c.shortest l h i q)

          lowest : (l h : ℕ) → In l h (e ∷ gs) → up l + k ≤ suc h → suc h - l ≡ numbers e → e.low ≤ l
          lowest l h (inl p) q m = omega arith
          lowest l h (inr i) q m = omega (arith, s.0, in_far e gs l h s i)
      two t f c false v = record { listed = inr c.listed; fits = c.fits; shortest = shortest; lowest = lowest }
        where
          n : numbers f < numbers e
          n = leb-false (numbers e) (numbers f) v

          shortest : (l h : ℕ) → In l h (e ∷ gs) → up l + k ≤ suc h → numbers f ≤ suc h - l
          shortest l h (inl p) q = omega (arith, n)
          shortest l h (inr i) q = c.shortest l h i q

          lowest : (l h : ℕ) → In l h (e ∷ gs) → up l + k ≤ suc h → suc h - l ≡ numbers f → f.low ≤ l
          lowest l h (inl p) q m = absurd (omega (arith, n))
          lowest l h (inr i) q m = c.lowest l h i q m

      first : fits up k e ≡ true → (o : Option Entry) → Chose Shortest gs o → Shortest (e ∷ gs) (shorter e o)
      first t none c = alone t c
      first t (some f) c = two t f c (leb (numbers e) (numbers f)) refl

      go : (t : Bool) → fits up k e ≡ t → Chose Shortest gs (shortest_gap (filter (fits up k) gs))
          → Chose Shortest (e ∷ gs) (shortest_gap (pick t (e ∷ filter (fits up k) gs) (filter (fits up k) gs)))
      go true t c = first t (shortest_gap (filter (fits up k) gs)) c
      go false t c = on t (shortest_gap (filter (fits up k) gs)) c
