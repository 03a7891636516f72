-- Choosing among gaps one by one: what a walk that stops at a gap of at most t numbers has chosen.
use mathlib.Core.Path.{◌≡◌, refl, ◌∙◌, ap}
use mathlib.Core.Bool.{Bool, true, false}
use mathlib.Core.Option.{Option, none, some}
use mathlib.Core.List.{List, [], ◌∷◌, ◌++◌}
use Prim.Native.Nat.{ℕ, ◌-◌, ◌≤◌, ◌<◌}
use native.Mathlib.Omega.{arith}
use lib.Dec.{leb, ltb}
use borrow.Author.Tests.{le-leb, lt-leb, leb-true, leb-false}
use Rattle.entries.specs.Entries.{Each, Entry, entry}
use Rattle.entries.specs.Build.{pick}
use Rattle.entries.specs.Questions.{filter}
use Rattle.fits.specs.Fits.{numbers, fits, aligned, first_gap, shorter, shortest_gap}
use Rattle.fits.specs.Steps.{piece, better, taken}

-- the shortest gap, or the first that has at most t numbers where that comes sooner
abbrev pub search : ℕ → List Entry → Option Entry
search t [] = none
search t (g ∷ gs) = some (pick (leb (numbers g) t) g (shorter g (search t gs)))

pub filter_all : (P : Entry → Type 0) (keep : Entry → Bool) (gs : List Entry) → Each P gs → Each P (filter keep gs)
filter_all P keep [] h = tt
filter_all P keep (g ∷ gs) h = go (keep g) (filter_all P keep gs h.1)
  where
    go : (t : Bool) → Each P (filter keep gs) → Each P (pick t (g ∷ filter keep gs) (filter keep gs))
    go true ih = (h.0, ih)
    go false ih = ih

pub filter_keeps : (P : Entry → Type 0) (keep : Entry → Bool) → ((g : Entry) → keep g ≡ true → P g) → (gs : List Entry) → Each P (filter keep gs)
filter_keeps P keep k [] = tt
filter_keeps P keep k (g ∷ gs) = go (keep g) refl (filter_keeps P keep k gs)
  where
    go : (t : Bool) → keep g ≡ t → Each P (filter keep gs) → Each P (pick t (g ∷ filter keep gs) (filter keep gs))
    go true e ih = (k g e, ih)
    go false e ih = ih

-- where every gap is short enough it is the first; where none is shorter than t it is the shortest
pub search_first : (t : ℕ) (gs : List Entry) → Each (λ g. numbers g ≤ t) gs → search t gs ≡ first_gap gs
search_first t [] h = refl
search_first t (g ∷ gs) h = rw (le-leb (numbers g) t h.0)

abbrev OptAll : (Entry → Type 0) → Option Entry → Type 0
OptAll P none = Unit {0}
OptAll P (some g) = P g

shortest_all : (P : Entry → Type 0) (gs : List Entry) → Each P gs → OptAll P (shortest_gap gs)
shortest_all P [] h = tt
shortest_all P (g ∷ gs) h = go (shortest_gap gs) (shortest_all P gs h.1)
  where
    one : (t : Bool) (f : Entry) → P f → P (pick t g f)
    one true f p = h.0
    one false f p = p

    go : (o : Option Entry) → OptAll P o → P (shorter g o)
    go none p = h.0
    go (some f) p = one (leb (numbers g) (numbers f)) f p

pub search_shortest : (t : ℕ) (gs : List Entry) → Each (λ g. t ≤ numbers g) gs → search t gs ≡ shortest_gap gs
search_shortest t [] h = refl
search_shortest t (g ∷ gs) h = go (leb (numbers g) t) refl (search_shortest t gs h.1)
  where
    lowest : numbers g ≤ t → (o : Option Entry) → OptAll (λ f. t ≤ numbers f) o → g ≡ shorter g o
    lowest k none p = refl
    lowest k (some f) p = rw (le-leb (numbers g) (numbers f) (omega arith))

    go : (s : Bool) → leb (numbers g) t ≡ s → search t gs ≡ shortest_gap gs → some (pick s g (shorter g (search t gs))) ≡ some (shorter g (shortest_gap gs))
    go true e ih = ap some (lowest (leb-true (numbers g) t e) (shortest_gap gs) (shortest_all (λ f. t ≤ numbers f) gs h.1))
    go false e ih = ap (λ (o : Option Entry). some (shorter g o)) ih

-- the shorter of three
shorter_assoc : (g c : Entry) (r : Option Entry) → shorter g (some (shorter c r)) ≡ shorter (shorter g (some c)) r
shorter_assoc g c none = refl
shorter_assoc g c (some h) = go (leb (numbers c) (numbers h)) refl (leb (numbers g) (numbers c)) refl
  where
    go : (s : Bool) → leb (numbers c) (numbers h) ≡ s → (t : Bool) → leb (numbers g) (numbers c) ≡ t
        → shorter g (some (pick s c h)) ≡ shorter (pick t g c) (some h)
    go true p true q =
        let x = leb-true (numbers c) (numbers h) p in
        let y = leb-true (numbers g) (numbers c) q in
        rw (q, le-leb (numbers g) (numbers h) (omega arith))
    go true p false q = rw (q, p)
    go false p true q = refl
    go false p false q =
        let x = leb-false (numbers c) (numbers h) p in
        let y = leb-false (numbers g) (numbers c) q in
        rw (p, lt-leb (numbers g) (numbers h) (omega arith))

-- a gap held, which the walk does not stop at, and one more: the shorter is held
hold_one : (t : ℕ) (g c : Entry) (gs : List Entry) → leb (numbers g) t ≡ false → search t (g ∷ c ∷ gs) ≡ search t (shorter g (some c) ∷ gs)
hold_one t g c gs e = rw e (go (leb (numbers c) t) refl (leb (numbers g) (numbers c)) refl)
  where
    n : t < numbers g
    n = leb-false (numbers g) t e

    go : (s : Bool) → leb (numbers c) t ≡ s → (u : Bool) → leb (numbers g) (numbers c) ≡ u
        → some (shorter g (some (pick s c (shorter c (search t gs))))) ≡ some
        (pick (leb (numbers (pick u g c)) t) (pick u g c) (shorter (pick u g c) (search t gs)))
    go true p true q =
        let x = leb-true (numbers c) t p in
        let y = leb-true (numbers g) (numbers c) q in
        absurd (omega (arith, n))
    go true p false q = rw (p, q)
    go false p true q = rw e (ap some (shorter_assoc g c (search t gs) ∙ ap (λ (b : Bool). shorter (pick b g c) (search t gs)) q))
    go false p false q = rw p (ap some (shorter_assoc g c (search t gs) ∙ ap (λ (b : Bool). shorter (pick b g c) (search t gs)) q))

-- at most one gap is held
abbrev pub AtMostOne : List Entry → Type 0
AtMostOne [] = Unit {0}
AtMostOne (g ∷ []) = Unit {0}
AtMostOne (g ∷ h ∷ gs) = ⊥

-- the walk stops at the gap that is held
abbrev pub stops : ℕ → List Entry → Bool
stops t [] = false
stops t (g ∷ gs) = leb (numbers g) t

pub hold_piece : (t j k : ℕ) (best : List Entry) (x y : ℕ) (gs : List Entry) → AtMostOne best → stops t best ≡ false
    → search t (best ++ filter (fits (aligned j) k) (piece x y ++ gs)) ≡ search t (taken j k best (piece x y) ++ filter (fits (aligned j) k) gs)
hold_piece t j k best x y gs one e = go (ltb x y)
  where
    keep : Entry → Bool
    keep = fits (aligned j) k

    c : Entry
    c = entry x (y - 1) []

    held : (best : List Entry) → AtMostOne best → stops t best ≡ false → search t (best ++ c ∷ filter keep gs) ≡ search t (better best c ++ filter keep gs)
    held [] o f = refl
    held (g ∷ []) o f = hold_one t g c (filter keep gs) f
    held (g ∷ h ∷ hs) o f = absurd o

    fit : (s : Bool) → search t (best ++ pick s (c ∷ filter keep gs) (filter keep gs)) ≡ search t (pick s (better best c) best ++ filter keep gs)
    fit true = held best one e
    fit false = refl

    go : (s : Bool) → search t (best ++ filter keep (pick s (c ∷ []) [] ++ gs)) ≡ search t (taken j k best (pick s (c ∷ []) []) ++ filter keep gs)
    go true = fit (keep c)
    go false = refl
