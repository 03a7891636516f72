-- The step as one function, and its law.
use mathlib.Core.Path.{◌≡◌, refl, sym, ◌∙◌, ap}
use mathlib.Core.Logic.{◌≢◌}
use mathlib.Core.Bool.{Bool, true, false}
use mathlib.Core.Option.{Option, none, some}
use mathlib.Core.List.{List, [], ◌∷◌, ◌++◌, append_assoc}
use Prim.Native.Nat.{ℕ, suc, ◌≤◌, ◌<◌}
use native.Mathlib.Omega.{arith}
use native.Mathlib.Decide.{dec_lt}
use lib.Dec.{eqb}
use borrow.Author.Tests.{eqb-true, eqb-false}
use Rattle.entries.specs.Build.{same_words, andb}
use Rattle.entries.proofs.Values.{words_true, words_false}
use Rattle.entries.specs.Entries.{Value, Entry, entry}
use Rattle.entries.proofs.Sides.{val_in}
use Rattle.entries.proofs.Canon.{none≢some}
use Rattle.entries.proofs.Append.{seam_snoc, sound_right, value_right}
use Rattle.entries.proofs.Step.{Upto, step_none, step_new, step_raise}

abbrev pub last : Bool → Entry → ℕ → ℕ → Value → List Entry
last true l x h v = entry l.low h l.value ∷ []
last false l x h v = l ∷ entry x h v ∷ []

abbrev pub push : List Entry → ℕ → ℕ → Value → List Entry
push [] x h v = entry x h v ∷ []
push (l ∷ []) x h v = last (andb (eqb (suc l.high) x) (same_words l.value v)) l x h v
push (e ∷ f ∷ es) x h v = e ∷ push (f ∷ es) x h v

abbrev pub extend : List Entry → ℕ → ℕ → Option Value → List Entry
extend es x h none = es
extend es x h (some v) = push es x h v

-- `push` sees only the last entry
pub push_snoc : (a : List Entry) (l : Entry) (x h : ℕ) (v : Value) → push (a ++ l ∷ []) x h v ≡ a ++ push (l ∷ []) x h v
push_snoc [] l x h v = refl
push_snoc (e ∷ []) l x h v = refl
push_snoc (e ∷ f ∷ a) l x h v = ap (λ (t : List Entry). e ∷ t) (push_snoc (f ∷ a) l x h v)

-- a list is empty or has a last entry
pub data Ended : List Entry → Type 0 where
  empty : Ended []
  ended : (a : List Entry) (l : Entry) → Ended (a ++ l ∷ [])

pub ending : (es : List Entry) → Ended es
ending [] = empty
ending (e ∷ es) = go es (ending es)
  where
    go : (fs : List Entry) → Ended fs → Ended (e ∷ fs)
    go fs empty = ended [] e
    go fs (ended a l) = ended (e ∷ a) l

module _ (F : ℕ → Option Value) (x h : ℕ) (le : x ≤ h) where
  pushed : (a : List Entry) (l : Entry) (v : Value) → Upto F x (a ++ l ∷ []) → ((y : ℕ) → x ≤ y → y ≤ h → F y ≡ some v)
      → Upto F (suc h) (a ++ push (l ∷ []) x h v)
  pushed a l v u k = go (eqb (suc l.high) x) refl (same_words l.value v) refl
    where
      ok : l.low ≤ l.high
      ok = (sound_right a (l ∷ []) u.sound).0

      before : l.high < x
      before = go (dec_lt l.high x)
        where
          go : Dec (l.high < x) → l.high < x
          go (yes p) = p
          go (no p) = absurd (none≢some _ _ (u.above l.high (omega arith))
              (value_right a l [] u.sound l.high ok ∙ val_in l [] l.high ok (omega arith)))

      apart : (suc l.high ≡ x → l.value ≢ v) → Upto F (suc h) (a ++ (l ∷ entry x h v ∷ []))
      apart n = rw append_assoc at (step_new F x h le (a ++ l ∷ []) v u k (seam_snoc a l (entry x h v ∷ []) (before, λ e. n (sym e))))

      go : (t : Bool) → eqb (suc l.high) x ≡ t → (s : Bool) → same_words l.value v ≡ s → Upto F (suc h) (a ++ last (andb t s) l x h v)
      go true p true q = step_raise F x h le a l u (eqb-true _ _ p) (λ y b c. k y b c ∙ ap some (sym (words_true _ _ q)))
      go true p false q = apart (λ e. words_false _ _ q)
      go false p s q = apart (λ e. absurd (eqb-false _ _ p e))

  pub step : (es : List Entry) → Upto F x es → ((y : ℕ) → x ≤ y → y ≤ h → F y ≡ F x) → Upto F (suc h) (extend es x h (F x))
  step es u k = go (F x) refl (ending es)
    where
      go : (o : Option Value) → F x ≡ o → Ended es → Upto F (suc h) (extend es x h o)
      go none q e = step_none F x h le es u (λ y b c. k y b c ∙ q)
      go (some v) q e = put es e u
        where
          put : (fs : List Entry) → Ended fs → Upto F x fs → Upto F (suc h) (push fs x h v)
          put fs empty w = step_new F x h le [] v w (λ y b c. k y b c ∙ q) tt
          put fs (ended a l) w = rw push_snoc (pushed a l v w (λ y b c. k y b c ∙ q))
