-- The definitions of specs/Fits mean what specs/Meaning says.
use mathlib.Core.Path.{◌≡◌, refl, sym, ◌∙◌, ap, subst}
use mathlib.Core.Option.{Option, none, some}
use mathlib.Core.List.{List, [], ◌∷◌}
use Prim.Native.Nat.{ℕ, suc, ◌+◌, ◌-◌, ◌≤◌}
use native.Mathlib.Omega.{arith}
use Rattle.entries.specs.Entries.{Entry}
use Rattle.entries.specs.Questions.{filter}
use Rattle.answers.specs.Answers.{refuse}
use Rattle.blocks.specs.Blocks.{set_layout, entries_of, SoundBlock}
use Rattle.fits.specs.Calls.{fit_call, first_fit_call, best_fit_call}
use Rattle.fits.specs.Fits.{gaps, fits, first_gap, shortest_gap, start_in, place_in, anywhere, first_fit, best_fit}
use Rattle.fits.specs.Meaning.{FreeRun, IsGap, FirstOf, BestOf}
use Rattle.fits.specs.Starts.{LeastUp, FirstAt, Holds, BestAt}
use Rattle.fits.specs.Starts.{BestFrom}
use Rattle.fits.proofs.Listed.{In, Around}
use Rattle.fits.proofs.Runs.{all, run_around, listed_gap, gap_listed}
use Rattle.fits.proofs.Asking.{at_place, fit_asked}
use Rattle.fits.proofs.Chosen.{Chose, First, Shortest, chose_first, chose_shortest}

-- [F1] `gaps` are exactly the gaps
pub gaps_are : (a b : ℕ) (es : List Entry) (l h : ℕ) → (In l h (gaps a b es) → IsGap a b es l h) × (IsGap a b es l h → In l h (gaps a b es))
gaps_are a b es l h = (listed_gap a b es l h, gap_listed a b es l h)

-- First fit, for any allowed starts
pub first_at : (up : ℕ → ℕ) (Allowed : ℕ → Type 0) → LeastUp up Allowed → (a b k : ℕ) (es : List Entry) → 1 ≤ k
    → FirstAt Allowed a b k es (place_in up first_gap a b k es)
unfolding place_in
first_at up Allowed u a b k es one =
    go (first_gap (filter (fits up k) (gaps a b es))) (chose_first up u.above k one (gaps a b es) (all a b es).sound)
  where
    fitting : (t : ℕ) → Allowed t → (r : Around (gaps a b es) t (t + k - 1)) → up r.l + k ≤ suc r.h
    fitting t ok r = omega (arith, u.least r.l t r.low ok, r.high)

    go : (o : Option Entry) → Chose up u.above k one (First up u.above k one) (gaps a b es) o → FirstAt Allowed a b k es (start_in up o)
    go none n = λ t ok q. let r = run_around a b es t (t + k - 1) q in n r.l r.h r.listed (fitting t ok r)
    go (some g) c = record { allowed = u.allowed g.low; run = run; least = least }
      where
        whole : FreeRun a b es g.low g.high
        whole = (listed_gap a b es g.low g.high c.listed).run

        run : FreeRun a b es (up g.low) (up g.low + k - 1)
        run = record {
          some = omega arith;
          from = omega (arith, whole.from, u.above g.low);
          upto = omega (arith, whole.upto, c.fits);
          free = λ x p q. whole.free x (omega (arith, u.above g.low)) (omega (arith, c.fits));
        }

        least : (t : ℕ) → Allowed t → FreeRun a b es t (t + k - 1) → up g.low ≤ t
        least t ok q =
            let r = run_around a b es t (t + k - 1) q in
            omega (arith, c.least r.l r.h r.listed (fitting t ok r), u.least r.l t r.low ok)

-- Best fit, for any allowed starts
pub best_at : (up : ℕ → ℕ) (Allowed : ℕ → Type 0) → LeastUp up Allowed → (a b k : ℕ) (es : List Entry) → 1 ≤ k
    → BestAt Allowed a b k es (place_in up shortest_gap a b k es)
unfolding place_in
best_at up Allowed u a b k es one =
    go (shortest_gap (filter (fits up k) (gaps a b es))) (chose_shortest up u.above k one (gaps a b es) (all a b es).sound)
  where
    fitting : (l h t : ℕ) → Holds Allowed k l h t → up l + k ≤ suc h
    fitting l h t q = omega (arith, u.least l t q.from q.allowed, q.upto)

    go : (o : Option Entry) → Chose up u.above k one (Shortest up u.above k one) (gaps a b es) o → BestAt Allowed a b k es (start_in up o)
    go none n = λ l h t g q. n l h (gap_listed a b es l h g) (fitting l h t q)
    go (some g) c = record {
      low = g.low;
      high = g.high;
      gap = listed_gap a b es g.low g.high c.listed;
      holds = record { allowed = u.allowed g.low; from = u.above g.low; upto = c.fits };
      least = λ t q. u.least g.low t q.from q.allowed;
      shortest = λ l h t i q. c.shortest l h (gap_listed a b es l h i) (fitting l h t q);
      lowest = λ l h t i q e. c.lowest l h (gap_listed a b es l h i) (fitting l h t q) e;
    }

-- Today every start is allowed.
any : LeastUp anywhere (λ s. Unit {0})
any = record { above = λ s. omega arith; allowed = λ s. tt; least = λ s t p q. p }

-- [F2] first fit
pub first_fit_lem : (a b k : ℕ) (es : List Entry) → 1 ≤ k → FirstOf a b k es (first_fit a b k es)
first_fit_lem a b k es one = go (first_fit a b k es) (first_at anywhere (λ s. Unit {0}) any a b k es one)
  where
    go : (o : Option ℕ) → FirstAt (λ s. Unit {0}) a b k es o → FirstOf a b k es o
    go none n = λ t q. n t tt q
    go (some s) c = record { run = c.run; least = λ t q. c.least t tt q }

-- [F3] best fit
pub best_fit_lem : (a b k : ℕ) (es : List Entry) → 1 ≤ k → BestOf a b k es (best_fit a b k es)
best_fit_lem a b k es one = go (best_fit a b k es) (best_at anywhere (λ s. Unit {0}) any a b k es one)
  where
    -- a gap of at least k numbers holds a run of k from its low end
    run : (l h : ℕ) → k ≤ suc h - l → Holds (λ s. Unit {0}) k l h l
    run l h m = record { allowed = tt; from = omega arith; upto = omega arith }

    go : (o : Option ℕ) → BestAt (λ s. Unit {0}) a b k es o → BestOf a b k es o
    go none n = λ l h g m. n l h l g (run l h m)
    go (some s) c =
        let e : s ≡ c.low = omega
        (arith, c.holds.from, c.holds.upto, c.least c.low (run c.low c.high (omega (arith, c.holds.from, c.holds.upto)))) in
        record {
          high = c.high;
          gap = rw e c.gap;
          enough = omega (arith, c.holds.upto);
          shortest = λ l h i m. omega (arith, e, c.shortest l h l i (run l h m));
          lowest = λ l h i m q. omega (arith, e, c.lowest l h l i (run l h m) (omega (arith, e)));
        }

-- [F2, F3] the meaning determines the answer: so it is none exactly if there is no such s, and no such gap
pub first_only : (a b k : ℕ) (es : List Entry) (o p : Option ℕ) → FirstOf a b k es o → FirstOf a b k es p → o ≡ p
first_only a b k es none none f g = refl
first_only a b k es none (some t) f g = absurd (f t g.run)
first_only a b k es (some s) none f g = absurd (g s f.run)
first_only a b k es (some s) (some t) f g = let e : s ≡ t = omega (arith, f.least t g.run, g.least s f.run) in ap some e

pub best_only : (a b k : ℕ) (es : List Entry) (o p : Option ℕ) → BestOf a b k es o → BestOf a b k es p → o ≡ p
best_only a b k es none none f g = refl
best_only a b k es none (some t) f g = absurd (f t g.high g.gap g.enough)
best_only a b k es (some s) none f g = absurd (g s f.high f.gap f.enough)
best_only a b k es (some s) (some t) f g =
    let n : suc f.high - s ≡ suc g.high - t = omega (arith, f.shortest t g.high g.gap g.enough, g.shortest s f.high f.gap f.enough) in
    let e : s ≡ t = omega (arith, f.lowest t g.high g.gap g.enough (sym n), g.lowest s f.high f.gap f.enough n) in
    ap some e

-- and for any allowed starts
module _ (Allowed : ℕ → Type 0) (a b k : ℕ) (es : List Entry) where
  pub first_at_only : (o p : Option ℕ) → FirstAt Allowed a b k es o → FirstAt Allowed a b k es p → o ≡ p
  first_at_only none none f g = refl
  first_at_only none (some t) f g = absurd (f t g.allowed g.run)
  first_at_only (some s) none f g = absurd (g s f.allowed f.run)
  first_at_only (some s) (some t) f g = let e : s ≡ t = omega (arith, f.least t g.allowed g.run, g.least s f.allowed f.run) in ap some e

  pub best_at_only : (o p : Option ℕ) → BestAt Allowed a b k es o → BestAt Allowed a b k es p → o ≡ p
  best_at_only none none f g = refl
  best_at_only none (some t) f g = absurd (f g.low g.high t g.gap g.holds)
  best_at_only (some s) none f g = absurd (g f.low f.high s f.gap f.holds)
  best_at_only (some s) (some t) f g = let e : s ≡ t = omega (arith, f.least t (held f g), g.least s (held g f)) in ap some e
    where
      -- both have the same gap
      held : {x y : ℕ} (f : BestFrom Allowed a b k es x) (g : BestFrom Allowed a b k es y) → Holds Allowed k f.low f.high y
      held {x} {y} f g =
          let n : suc f.high - f.low ≡ suc g.high - g.low = omega
          (arith, f.shortest g.low g.high y g.gap g.holds, g.shortest f.low f.high x f.gap f.holds) in
          let l = f.lowest g.low g.high y g.gap g.holds (sym n) in
          let m = g.lowest f.low f.high x f.gap f.holds n in
          record {
            allowed = g.holds.allowed;
            from = omega (arith, l, m, g.holds.from);
            upto = omega (arith, n, l, m, g.holds.upto, f.gap.run.some, g.gap.run.some);
          }

-- NO GAP is the same for both, whatever starts are allowed.
module _ (up : ℕ → ℕ) (a b k : ℕ) (es : List Entry) where
  pub first_none : place_in up first_gap a b k es ≡ none → place_in up shortest_gap a b k es ≡ none
  unfolding place_in
  first_none e = go (filter (fits up k) (gaps a b es)) e
    where
      go : (gs : List Entry) → start_in up (first_gap gs) ≡ none → start_in up (shortest_gap gs) ≡ none
      go [] q = refl
      go (g ∷ gs) q = let z : ◌≡◌ {A = ℕ} 0 1 = cc in absurd (omega arith)

  pub best_none : place_in up shortest_gap a b k es ≡ none → place_in up first_gap a b k es ≡ none
  unfolding place_in
  best_none e = go (filter (fits up k) (gaps a b es)) e
    where
      go : (gs : List Entry) → start_in up (shortest_gap gs) ≡ none → start_in up (first_gap gs) ≡ none
      go [] q = refl
      go (g ∷ gs) q = let z : ◌≡◌ {A = ℕ} 0 1 = cc in absurd (omega arith)

-- [R7] refused with 7 exactly if no free run as asked for exists in the window, of both questions where nothing is refused before
module _ (w : List ℕ) (a b k : ℕ) (sound : SoundBlock set_layout w) (order : a ≤ b) (one : 1 ≤ k) where
  abbrev NoRun : Type 0
  NoRun = (t : ℕ) → FreeRun a b (entries_of 2 w) t (t + k - 1) → ⊥

  no_place : (fit : ℕ → ℕ → ℕ → List Entry → Option ℕ) → fit_call fit w a b k ≡ refuse 7 0 [] → fit a b k (entries_of 2 w) ≡ none
  no_place fit e = go (fit a b k (entries_of 2 w)) refl (sym (fit_asked fit w a b k sound order one) ∙ e)
    where
      go : (o : Option ℕ) → fit a b k (entries_of 2 w) ≡ o → at_place o ≡ refuse 7 0 [] → fit a b k (entries_of 2 w) ≡ none
      go none q h = q
      go (some s) q h = let z : ◌≡◌ {A = ℕ} 0 1 = cc in absurd (omega arith)

  place_no : (fit : ℕ → ℕ → ℕ → List Entry → Option ℕ) → fit a b k (entries_of 2 w) ≡ none → fit_call fit w a b k ≡ refuse 7 0 []
  place_no fit e = fit_asked fit w a b k sound order one ∙ ap at_place e

  none_run : first_fit a b k (entries_of 2 w) ≡ none → NoRun
  none_run e = subst (FirstOf a b k (entries_of 2 w)) e (first_fit_lem a b k (entries_of 2 w) one)

  run_none : NoRun → first_fit a b k (entries_of 2 w) ≡ none
  run_none n = first_only a b k (entries_of 2 w) (first_fit a b k (entries_of 2 w)) none (first_fit_lem a b k (entries_of 2 w) one) n

  -- [R7] of first fit,
  pub first_no_gap : (first_fit_call w a b k ≡ refuse 7 0 [] → NoRun) × (NoRun → first_fit_call w a b k ≡ refuse 7 0 [])
  first_no_gap = (λ e. none_run (no_place first_fit e), λ n. place_no first_fit (run_none n))

  -- [R7] and of best fit
  pub best_no_gap : (best_fit_call w a b k ≡ refuse 7 0 [] → NoRun) × (NoRun → best_fit_call w a b k ≡ refuse 7 0 [])
  best_no_gap = (
    λ e. none_run (best_none anywhere a b k (entries_of 2 w) (no_place best_fit e)),
    λ n. place_no best_fit
        (first_none anywhere a b k (entries_of 2 w) (run_none n)),
  )
