-- The gaps of a window by their numbers: a run of non-members lies in one of them, and they cannot be made longer.
use mathlib.Core.Path.{◌≡◌, refl, sym, ◌∙◌, ap, subst}
use mathlib.Core.Bool.{Bool, true, false}
use mathlib.Core.List.{List, [], ◌∷◌}
use Prim.Native.Nat.{ℕ, suc, ◌-◌, ◌≤◌, ◌<◌}
use native.Mathlib.Omega.{arith}
use native.Mathlib.Decide.{dec_lt}
use Rattle.entries.specs.Entries.{Entry, entry}
use Rattle.entries.specs.Sets.{has, member, lessb}
use Rattle.entries.proofs.Values.{true≢false}
use Rattle.entries.proofs.Sides.{Side, under, inside, past, side, val_under, val_in, val_past}
use Rattle.entries.proofs.Sets.{SetOf, difference_is}
use Rattle.fits.specs.Fits.{gaps}
use Rattle.fits.specs.Meaning.{FreeRun, IsGap}
use Rattle.fits.proofs.Listed.{In, in_order, in_member, in_before, in_after, Around, around}

-- a number of the window that is no member
record Free (a b : ℕ) (es : List Entry) (x : ℕ) : Type 0 where
  from : a ≤ x
  upto : x ≤ b
  free : member es x ≡ false

module _ (a b : ℕ) (es : List Entry) where
  pub all : SetOf (λ x. lessb (member (entry a b [] ∷ []) x) (member es x)) (gaps a b es)
  unfolding gaps
  all = difference_is (entry a b [] ∷ []) es

  less : (t u : Bool) → lessb t u ≡ true → (t ≡ true) × (u ≡ false)
  less true true h = absurd (true≢false (sym h))
  less true false h = (refl, refl)
  less false u h = absurd (true≢false (sym h))

  in_free : (x : ℕ) → member (gaps a b es) x ≡ true → Free a b es x
  in_free x e = let m = less (member (entry a b [] ∷ []) x) (member es x) (sym (all.members x) ∙ e) in go (side (entry a b []) x) m.0 m.1
    where
      go : Side (entry a b []) x → member (entry a b [] ∷ []) x ≡ true → member es x ≡ false → Free a b es x
      go (under h) p q = absurd (true≢false (sym p ∙ ap has (val_under (entry a b []) [] x h)))
      go (inside h k) p q = record { from = h; upto = k; free = q }
      go (past h) p q = absurd (true≢false (sym p ∙ ap has (val_past (entry a b []) [] x h)))

  free_in : (x : ℕ) → a ≤ x → x ≤ b → member es x ≡ false → member (gaps a b es) x ≡ true
  free_in x h k e = all.members x ∙ rw (ap has (val_in (entry a b []) [] x h k), e)

  run_in : (l h : ℕ) → FreeRun a b es l h → (x : ℕ) → l ≤ x → x ≤ h → member (gaps a b es) x ≡ true
  run_in l h r x p q = free_in x (omega (arith, r.from)) (omega (arith, r.upto)) (r.free x p q)

  -- a run of non-members of the window lies in one of `gaps`
  pub run_around : (l h : ℕ) → FreeRun a b es l h → Around (gaps a b es) l h
  run_around l h r = around (gaps a b es) l h all.sound all.plain r.some (run_in l h r)

  pub listed_gap : (l h : ℕ) → In l h (gaps a b es) → IsGap a b es l h
  listed_gap l h i =
      record {
        run = record
            { some = order; from = (at l (omega arith) order).from; upto = (at h order (omega arith)).upto; free = λ x p q. (at x p q).free };
        longest =
            longest;
      }
    where
      order : l ≤ h
      order = in_order (gaps a b es) l h all.sound i

      at : (x : ℕ) → l ≤ x → x ≤ h → Free a b es x
      at x p q = in_free x (in_member (gaps a b es) l h x i p q)

      longest : (u v : ℕ) → FreeRun a b es u v → u ≤ l → h ≤ v → (u ≡ l) × (v ≡ h)
      longest u v r p q = (low (dec_lt u l), high (dec_lt h v))
        where
          low : Dec (u < l) → u ≡ l
          low (yes k) =
              absurd (true≢false (sym (run_in u v r (l - 1) (omega arith) (omega (arith, order)))
              ∙ in_before (gaps a b es) l h (l - 1) all.sound all.plain i (omega arith)))
          low (no k) = omega arith

          high : Dec (h < v) → v ≡ h
          high (yes k) =
              absurd (true≢false (sym (run_in u v r (suc h) (omega (arith, order)) (omega arith))
              ∙ in_after (gaps a b es) l h (suc h) all.sound all.plain i refl))
          high (no k) = omega arith

  pub gap_listed : (l h : ℕ) → IsGap a b es l h → In l h (gaps a b es)
  gap_listed l h g =
      let r = run_around l h g.run in
      let k = g.longest r.l r.h (listed_gap r.l r.h r.listed).run r.low r.high in
      subst (λ (x : ℕ). In x h (gaps a b es)) k.0 (subst (λ (y : ℕ). In r.l y (gaps a b es)) k.1 r.listed)
