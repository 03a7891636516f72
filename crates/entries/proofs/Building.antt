-- The sound list of a function, built from its cut points.
use mathlib.Core.Path.{◌≡◌, refl, sym, ◌∙◌, ap}
use mathlib.Core.Bool.{Bool, true, false}
use mathlib.Core.Option.{Option, none, some}
use mathlib.Core.List.{List, [], ◌∷◌}
use Prim.Native.Nat.{ℕ, suc, ◌+◌, ◌-◌, ◌≤◌, ◌<◌}
use native.Mathlib.Omega.{arith}
use native.Mathlib.Decide.{dec_le, dec_lt}
use lib.Dec.{eqb}
use borrow.Author.Tests.{eqb-true, eqb-false}
use Rattle.entries.specs.Entries.{Value, Entry, value_at, After, Sound, ListOf, entry}
use Rattle.entries.proofs.Sides.{Side, under, inside, past, side, val_in, val_past, none_under, link_like}
use Rattle.entries.specs.Build.{same_words, andb, glue, join, walk, build, sort}
use Rattle.entries.proofs.Values.{words_true, words_false}
use Rattle.entries.proofs.Cuts.{NotIn, Rising, notin_below, sort_rising, sort_notin, constant, Changes}

-- no entry begins below c
abbrev pub Begins : ℕ → List Entry → Type 0
Begins c [] = Unit {0}
Begins c (e ∷ es) = c ≤ e.low

pub begins_le : (a b : ℕ) (es : List Entry) → a ≤ b → Begins b es → Begins a es
begins_le a b [] h k = tt
begins_le a b (e ∷ es) h k = omega arith

-- what `glue` gives
pub record Glued (x h : ℕ) (o : Option Value) (es gs : List Entry) : Type 0 where
  pub sound : Sound gs
  pub begins : Begins x gs
  pub within : (y : ℕ) → x ≤ y → y ≤ h → value_at gs y ≡ o
  pub beyond : (y : ℕ) → h < y → value_at gs y ≡ value_at es y

pub glued : (x h : ℕ) (o : Option Value) (es : List Entry) → x ≤ h → Begins (suc h) es → Sound es → Glued x h o es (glue x h o es)
glued x h none [] le b s = record { sound = tt; begins = tt; within = λ y p q. refl; beyond = λ y p. refl }
glued x h none (e ∷ es) le b s =
    record { sound = s; begins = omega arith; within = λ y p q. none_under e es s y (omega arith); beyond = λ y p. refl }
glued x h (some v) [] le b s =
    record { sound = (le, tt, tt); begins = omega arith; within = λ y p q. val_in (entry x h v) [] y p q; beyond = λ y p. val_past (entry x h v) [] y p }
glued x h (some v) (e ∷ es) le b s = go (eqb (suc h) e.low) refl (same_words v e.value) refl
  where
    apart : After (entry x h v) e → Glued x h (some v) (e ∷ es) (entry x h v ∷ e ∷ es)
    apart a =
        record {
          sound = (le, a, s);
          begins = omega arith;
          within = λ y p q. val_in (entry x h v) (e ∷ es) y p q;
          beyond = λ y p. val_past (entry x h v)
              (e ∷ es) y p;
        }

    joined : suc h ≡ e.low → v ≡ e.value → Glued x h (some v) (e ∷ es) (entry x e.high v ∷ es)
    joined k w = record {
      sound = (omega arith, link_like e (entry x e.high v) es refl (sym w) s.1, s.2);
      begins = omega arith;
      within = λ y p q. val_in (entry x e.high v) es y p (omega arith);
      beyond = λ y p. on y p (side e y);
    }
      where
        on : (y : ℕ) → h < y → Side e y → value_at (entry x e.high v ∷ es) y ≡ value_at (e ∷ es) y
        on y p (under a) = absurd (omega arith)
        on y p (inside a c) = val_in (entry x e.high v) es y (omega arith) c ∙ ap some w ∙ sym (val_in e es y a c)
        on y p (past a) = val_past (entry x e.high v) es y a ∙ sym (val_past e es y a)

    go : (t : Bool) → eqb (suc h) e.low ≡ t → (u : Bool) → same_words v e.value ≡ u → Glued x h (some v) (e ∷ es) (join (andb t u) x h v e es)
    go false p u q = apart (omega arith, λ k. absurd (eqb-false (suc h) e.low p (sym k)))
    go true p false q = apart (omega arith, λ k. words_false v e.value q)
    go true p true q = joined (eqb-true (suc h) e.low p) (words_true v e.value q)

-- what `walk` gives: below c nothing, from c on the function
pub record Walked (F : ℕ → Option Value) (c : ℕ) (gs : List Entry) : Type 0 where
  pub sound : Sound gs
  pub begins : Begins c gs
  pub from : (y : ℕ) → c ≤ y → value_at gs y ≡ F y

-- `F` is `none` from `N` on
abbrev pub Ends : (ℕ → Option Value) → ℕ → Type 0
Ends F N = (y : ℕ) → N ≤ y → F y ≡ none

pub walked : (F : ℕ → Option Value) (N : ℕ) → Ends F N → (c : ℕ) (cs : List ℕ) → Rising (c ∷ cs)
    → ((y : ℕ) → c ≤ y → NotIn (suc y) (c ∷ cs) → F (suc y) ≡ F y) → Walked F c (walk F (c ∷ cs))
walked F N end c [] r k = record {
  sound = tt;
  begins = tt;
  from = λ y p. sym (sym (constant F y (y + N) (omega arith) (λ z a b. k z (omega arith) (omega arith, tt))) ∙ end (y + N) (omega arith));
}
walked F N end c (d ∷ ds) r k = put (walked F N end d ds r.1 (λ y p n. k y (omega arith) (omega arith, n)))
  where
    put : {gs : List Entry} → Walked F d gs → Walked F c (glue c (d - 1) (F c) gs)
    put {gs} w = record {
      sound = g.sound;
      begins = g.begins;
      from = λ y p. at y p (dec_lt y d);
    }
      where
        g : Glued c (d - 1) (F c) gs (glue c (d - 1) (F c) gs)
        g = glued c (d - 1) (F c) gs (omega arith) (begins_le (suc (d - 1)) d gs (omega arith) w.begins) w.sound

        at : (y : ℕ) → c ≤ y → Dec (y < d) → value_at (glue c (d - 1) (F c) gs) y ≡ F y
        at y p (yes q) =
            g.within y p (omega arith)
            ∙ sym (constant F c y p (λ z a b. k z a (omega arith, notin_below (suc z) (d ∷ ds) (omega arith) r.1)))
        at y p (no q) = g.beyond y (omega arith) ∙ w.from y (omega arith)

-- [S13] the law of `build`
pub built : (F : ℕ → Option Value) (N : ℕ) (cs : List ℕ) → Ends F N → Changes F cs → ListOf F (build F cs)
built F N cs end k = go (sort (0 ∷ cs)) (sort_rising (0 ∷ cs)) (λ x. sort_notin x (0 ∷ cs))
  where
    go : (ds : List ℕ) → Rising ds → ((x : ℕ) → NotIn x ds → NotIn x (0 ∷ cs)) → ListOf F (walk F ds)
    go [] r n = absurd ((n 0 tt).0 refl)
    go (d ∷ ds) r n = done (dec_le d 0)
      where
        w : Walked F d (walk F (d ∷ ds))
        w = walked F N end d ds r (λ y p m. k y (n (suc y) m).1)

        done : Dec (d ≤ 0) → ListOf F (walk F (d ∷ ds))
        done (yes p) = record { sound = w.sound; names = λ y. w.from y (omega arith) }
        done (no p) = absurd ((n 0 (notin_below 0 (d ∷ ds) (omega arith) r)).0 refl)
