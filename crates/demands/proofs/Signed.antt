-- Signed sets: the statements of specs/Signed, each from the law on numbers and from the shift.
use mathlib.Core.Path.{◌≡◌, refl, sym, ◌∙◌, ap, ap₂, subst, fun_ext}
use mathlib.Core.Bool.{Bool, true, false}
use mathlib.Core.Option.{Option}
use mathlib.Core.List.{List, [], ◌∷◌}
use Prim.Native.Nat.{ℕ, suc, ◌+◌, ◌-◌, ◌≤◌, ◌<◌}
use native.Mathlib.Omega.{arith}
use lib.Dec.{ltb, leb}
use lib.IntN.{ℤ, pos, negsuc, ◌+ℤ◌}
use lib.Signed.{lt_z, le_z}
use borrow.Author.Tests.{lt-ltb, le-ltb, ltb-true, ltb-false, le-leb, lt-leb, leb-true, leb-false}
use Rattle.keys.specs.Keys.{half, IsKey, word_of, key_of}
use Rattle.std.specs.Prelude.{Some}
use Rattle.keys.proofs.Shift.{key_back, word_back, word_bound, key_bound, below_words, above_words, order_kept, next_word}
use Rattle.keys.proofs.Differences.{by_key, too_far, by_exactly, too_far_exactly}
use Rattle.entries.specs.Entries.{Entry}
use Rattle.entries.specs.Build.{pick, andb}
use Rattle.entries.specs.Sets.{M, past_m, lessb}
use Rattle.entries.specs.Questions.{filter, count}
use Rattle.answers.specs.Answers.{Outcome, at, applies}
use Rattle.answers.proofs.Turns.{clear_at}
use Rattle.blocks.specs.Blocks.{entries_of, words_of}
use Rattle.sets.specs.Calls.{size_call}
use Rattle.fits.specs.Fits.{first_fit}
use Rattle.fits.specs.Meaning.{FreeRun, IsGap}
use Rattle.fits.specs.Calls.{ask_refusals, fit_call}
use Rattle.fits.proofs.Reserving.{fit_chosen}
use Rattle.demands.specs.Plain.{Iff, InRange, In, answers, SetLeft, between}
use Rattle.demands.specs.Questions.{Answers}
use Rattle.demands.specs.Signed.{OneKey, AllKeys, KeyOrder, NextKey, KeyDifference, InKeys, between_keys, MemberKey, LeastKey, LeastFreeKey}
use Rattle.demands.specs.Signed.{SizeKeys, WindowKeys, EqualKeys, WithinKeys, DisjointKeys, KeysLeft, InsertKeys, RemoveKeys, BackwardsKeys}
use Rattle.demands.specs.Signed.{UnionKeys, IntersectionKeys, DifferenceKeys, SymmetricDifferenceKeys, ComplementKeys, FreeKeys, FreeRuns, FirstFitKeys}
use Rattle.demands.specs.Signed.{InKeyRange}
use Rattle.demands.specs.Signed.{KeyGap, BestFitKeys, NoFreeKeys, NoFitKeys, ReserveKeys, RangeAtKeys}
use Rattle.demands.specs.Outcomes.{RunAsked, FreeSomewhere}
use Rattle.demands.proofs.Words.{split}
use Rattle.demands.proofs.Questions.{past_m_lem, member_means, range_at_means, least_member_means, least_non_member_means, size_means, set_window_means}
use Rattle.demands.proofs.Questions.{equal_answers, within_answers, disjoint_answers}
use Rattle.demands.proofs.Changes.{insert_changes, remove_changes, union_changes, intersection_changes, difference_changes, symmetric_changes}
use Rattle.demands.proofs.Changes.{complement_changes}
use Rattle.demands.proofs.Fits.{some_run, first_fit_answers, best_fit_answers, reserve_means}
use Rattle.demands.proofs.Outcomes.{iff_by}
use Rattle.demands.proofs.FitOutcomes.{no_gap_exactly}

-- THE SHIFT
pub one_key : OneKey
one_key x h = (key_bound x (omega arith), word_back x, λ k i e. sym (key_back k i) ∙ ap key_of e)

pub all_keys : AllKeys
all_keys P = record {
  to = λ h k i. h (word_of k) (omega (arith, word_bound k i));
  from = λ h x l. subst P (word_back x) (h (key_of x) (key_bound x (omega arith)));
}

pub key_order : KeyOrder
key_order = order_kept

pub next_key : NextKey
next_key = next_word

pub key_difference : KeyDifference
key_difference a b = (
  λ d. record { to = by_exactly a b d; from = λ h. sym (by_key a b (subst IsKey h.0 h.1)) ∙ ap Some (sym h.0) },
  record { to = too_far_exactly a b; from = λ n. sym (too_far a b (omega arith)) },
)

-- ORDER, of any two numbers x and y: their keys, k and l, are in the same order, past M too
module _ (x y : ℕ) where
  agree : (c d : ℕ) → (x ≤ y → c ≤ d) → (y < x → d < c) → leb c d ≡ leb x y
  agree c d f g = go (leb x y) refl
    where
      go : (t : Bool) → leb x y ≡ t → leb c d ≡ t
      go true e = le-leb c d (f (leb-true x y e))
      go false e = lt-leb c d (g (leb-false x y e))

  of_numbers : le_z (key_of x) (key_of y) ≡ leb x y
  of_numbers = go (ltb x half) (ltb y half) refl refl
    where
      go : (s t : Bool) → ltb x half ≡ s → ltb y half ≡ t → le_z (key_of x) (key_of y) ≡ leb x y
      go true true e f =
          let p = ltb-true x half e in
          let q = ltb-true y half f in
          rw (e, f) (agree (half - suc y) (half - suc x) (λ h. omega arith) (λ h. omega arith))
      go true false e f = rw (e, f) (sym (le-leb x y (omega (arith, ltb-true x half e, ltb-false y half f))))
      go false true e f = rw (e, f) (sym (lt-leb x y (omega (arith, ltb-false x half e, ltb-true y half f))))
      go false false e f =
          let p = ltb-false x half e in
          let q = ltb-false y half f in
          rw (e, f) (agree (x - half) (y - half) (λ h. omega arith) (λ h. omega arith))

  order : {k l : ℤ} → key_of x ≡ k → key_of y ≡ l → le_z k l ≡ leb x y
  order p q = sym (ap₂ le_z p q) ∙ of_numbers

  at_most : {k l : ℤ} → key_of x ≡ k → key_of y ≡ l → Iff (x ≤ y) (le_z k l ≡ true)
  at_most p q = record { to = λ h. order p q ∙ le-leb x y h; from = λ e. leb-true x y (sym (order p q) ∙ e) }

-- the same of a number x, whose key is l, and a key k and its word
module _ (x : ℕ) {l : ℤ} (p : key_of x ≡ l) (k : ℤ) (i : IsKey k) where
  pub up_to : Iff (x ≤ word_of k) (le_z l k ≡ true)
  up_to = at_most x (word_of k) p (key_back k i)

  pub down_to : Iff (word_of k ≤ x) (le_z k l ≡ true)
  down_to = at_most (word_of k) x (key_back k i) p

-- and of two keys and their words
words : (k l : ℤ) → IsKey k → IsKey l → Iff (word_of k ≤ word_of l) (le_z k l ≡ true)
words k l i j = up_to (word_of k) (key_back k i) l j

-- two numbers with one key are one number
one_number_lem : (x y : ℕ) → key_of x ≡ key_of y → x ≡ y
one_number_lem x y e = sym (word_back x) ∙ ap word_of e ∙ word_back y

-- n keys from s on end at the key of the last of their words
plus_key : (s : ℤ) (n : ℕ) → IsKey s → 1 ≤ n → key_of (word_of s + n - 1) ≡ s +ℤ pos (n - 1)
plus_key (pos m) n i h = simp (le-ltb (m + half + n - 1) half (omega arith)) (ap pos (omega arith))
plus_key (negsuc m) n i h = go (ltb (n - 1) (suc m)) refl
  where
    go : (t : Bool) → ltb (n - 1) (suc m) ≡ t → key_of (half - suc m + n - 1) ≡ negsuc m +ℤ pos (n - 1)
    go true e = let l = ltb-true (n - 1) (suc m) e in simp (e, lt-ltb (half - suc m + n - 1) half (omega arith)) (ap negsuc (omega arith))
    go false e = let l = ltb-false (n - 1) (suc m) e in simp (e, le-ltb (half - suc m + n - 1) half (omega arith)) (ap pos (omega arith))

-- QUESTIONS: an answer says anything that says the same
answers_so : {call : Outcome} {P Q : Type 0} → Iff P Q → Answers call P → Answers call Q
answers_so i a = (iff_by a.0 i.to i.from, iff_by a.1 (λ n q. n (i.from q)) (λ n p. n (i.to p)))

-- a range holds the word of a key exactly if it holds the key
abbrev pub in_keys_lem : (w : List ℕ) (k : ℤ) → IsKey k → Iff (InRange w (word_of k)) (InKeyRange w k)
in_keys_lem w k i = record {
  to = λ r. record { index = r.index; below = r.below; low = (up_to _ refl k i).to r.low; high = (down_to _ refl k i).to r.high };
  from = λ r. record { index = r.index; below = r.below; low = (up_to _ refl k i).from r.low; high = (down_to _ refl k i).from r.high };
}

pub member_key : MemberKey
member_key w k s i = answers_so (in_keys_lem w k i) (member_means w (word_of k) s)

-- what is said of all numbers from x on, and from x to below y, said of keys
module _ (m : ℕ → Bool) (t : Bool) (x : ℤ) (i : IsKey x) where
  keys_on : Iff ((z : ℕ) → z ≤ M → word_of x ≤ z → m z ≡ t) ((z : ℤ) → IsKey z → le_z x z ≡ true → m (word_of z) ≡ t)
  keys_on = record {
    to = λ h z j e. h (word_of z) (omega (arith, word_bound z j)) ((words x z i j).from e);
    from = λ h. (all_keys (λ z. word_of x ≤ z → m z ≡ t)).from (λ z j l. h z j ((words x z i j).to l));
  }

  keys_below : (y : ℤ) → IsKey y → ((z : ℕ) → word_of x ≤ z → z < word_of y → m z ≡ t)
      → (z : ℤ) → IsKey z → le_z x z ≡ true → lt_z z y ≡ true → m (word_of z) ≡ t
  keys_below y j h z g e l = h (word_of z) ((words x z i g).from e) (below_words z y g j l)

pub least_key_lem : LeastKey
least_key_lem w x s lent i =
    let k = least_member_means w (word_of x) s in (
      λ y j e. let f = k.0 (word_of y) e in
          ((words x y i j).to f.0, f.1, keys_below (In w) false x i y j f.2),
      record {
        to = λ e. (keys_on (In w) false x i).to (λ z l h. k.1.to e z h);
        from = λ f. k.1.from (λ z h. split z (λ l. (keys_on (In w) false x i).from f z l h) (past_m_lem w lent z));
      },
    )

pub least_free_key : LeastFreeKey
least_free_key w x s i =
    let k = least_non_member_means w (word_of x) s in (
      λ y j e. let f = k.0 (word_of y) e in
          ((words x y i j).to f.0, f.2, keys_below (In w) true x i y j f.3),
      record {
        to = λ e. (keys_on (In w) true x i).to (λ z l h. k.1.to e z h l);
        from = λ f. k.1.from (λ z h l. (keys_on (In w) true x i).from f z l h);
      },
    )

pub size_keys : SizeKeys
size_keys w s lent =
    let k = size_means w s lent in (
      record {
        to = λ e z i. k.0.to e (word_of z);
        from = λ f. k.0.from (λ x. split x ((all_keys (λ x. In w x ≡ false)).from f x) (past_m_lem w lent x));
      },
      subst (λ (m : ℕ → Bool). (n : ℕ) → Iff (size_call w ≡ answers (n ∷ [])) (suc n ≡ count m past_m)) (fun_ext (λ x. ap (In w) (sym (word_back x)))) k.1,
    )

pub window_keys : WindowKeys
window_keys w a b s i j e =
    set_window_means w (word_of a) (word_of b) s ((words a b i j).from e)
    ∙ ap (λ (keep : Entry → Bool). words_of (filter keep (entries_of 2 w)))
    (fun_ext (λ d. sym (ap₂ andb (order d.low (word_of b) refl (key_back b j)) (order (word_of a) d.high (key_back a i) refl))))

pub equal_keys : EqualKeys
equal_keys w v p q l m = answers_so (all_keys (λ x. In w x ≡ In v x)) (equal_answers w v p q l m)

pub within_keys : WithinKeys
within_keys w v p q l = answers_so (all_keys (λ x. In w x ≡ true → In v x ≡ true)) (within_answers w v p q l)

pub disjoint_keys : DisjointKeys
disjoint_keys w v p q l = answers_so (all_keys (λ x. In w x ≡ true → In v x ≡ true → ⊥)) (disjoint_answers w v p q l)

-- WHAT IS LEFT: the members that m accepts are the keys that n accepts
keys_left : {L : ℕ} {m : ℕ → Bool} {n : ℤ → Bool} {after : List ℕ} → SetLeft L m after → ((k : ℤ) → IsKey k → m (word_of k) ≡ n k) → KeysLeft L n after
keys_left l h = record { sound = l.sound; long = l.long; members = λ k i. l.members (word_of k) ∙ h k i; stored_form = l.stored_form }

-- t for x to y, and every other number as it was
edit_left : {L : ℕ} {a b : ℤ} {after : List ℕ} (w : List ℕ) (x y : ℕ) (t : Bool) → key_of x ≡ a → key_of y ≡ b
    → SetLeft L (λ z. pick (between x y z) t (In w z)) after → KeysLeft L (λ k. pick (between_keys a b k) t (InKeys w k)) after
edit_left w x y t p q l =
    keys_left l (λ k i. ap (λ (u : Bool). pick u t (InKeys w k))
    (sym (ap₂ andb (order x (word_of k) p (key_back k i)) (order (word_of k) y (key_back k i) q))))

pub insert_keys : InsertKeys
insert_keys w a b after i j e = edit_left w (word_of a) (word_of b) true (key_back a i) (key_back b j) (insert_changes w (word_of a) (word_of b) after e).0

pub remove_keys : RemoveKeys
remove_keys w a b after i j e = edit_left w (word_of a) (word_of b) false (key_back a i) (key_back b j) (remove_changes w (word_of a) (word_of b) after e).0

pub backwards_keys : BackwardsKeys
backwards_keys a b i j = ap (λ (t : Bool). at 0 (applies t 4)) (go (lt_z b a) refl)
  where
    go : (t : Bool) → lt_z b a ≡ t → ltb (word_of b) (word_of a) ≡ t
    go true e = lt-ltb (word_of b) (word_of a) (below_words b a j i e)
    go false e = le-ltb (word_of b) (word_of a) (above_words b a j i e)

pub union_keys : UnionKeys
union_keys w v o after e = keys_left (union_changes w v o after e).0 (λ k i. refl)

pub intersection_keys : IntersectionKeys
intersection_keys w v o after e = keys_left (intersection_changes w v o after e).0 (λ k i. refl)

pub difference_keys : DifferenceKeys
difference_keys w v o after e = keys_left (difference_changes w v o after e).0 (λ k i. refl)

pub symmetric_keys : SymmetricDifferenceKeys
symmetric_keys w v o after e = keys_left (symmetric_changes w v o after e).0 (λ k i. refl)

pub complement_keys : ComplementKeys
complement_keys w o after e =
    keys_left (complement_changes w o after e).0 (λ k i. ap (λ (t : Bool). lessb t (InKeys w k)) (le-leb (word_of k) M (omega (arith, word_bound k i))))

-- FITS: free runs and gaps, by any numbers x and y whose keys are l and h
module _ (a b : ℤ) (i : IsKey a) (j : IsKey b) (w : List ℕ) where
  -- a run in the window ends at a number up to M
  run_end : (x y : ℕ) → FreeRun (word_of a) (word_of b) (entries_of 2 w) x y → y ≤ M
  run_end x y r = omega (arith, word_bound b j, r.upto)

  free : (x y : ℕ) {l h : ℤ} → key_of x ≡ l → key_of y ≡ h → Iff (FreeRun (word_of a) (word_of b) (entries_of 2 w) x y) (FreeKeys a b w l h)
  free x y p q = record {
    to = λ r. record {
      some = (at_most x y p q).to r.some;
      from = (down_to x p a i).to r.from;
      upto = (up_to y q b j).to r.upto;
      free = λ k g d e. r.free (word_of k) ((up_to x p k g).from d) ((down_to y q k g).from e);
    };
    from = λ r.
        let u = (up_to y q b j).from r.upto in
        record {
          some = (at_most x y p q).from r.some;
          from = (down_to x p a i).from r.from;
          upto = u;
          free = λ z d e. (all_keys (λ z. x ≤ z → z ≤ y → In w z ≡ false)).from
              (λ k g d e. r.free k g ((up_to x p k g).to d) ((down_to y q k g).to e)) z (omega (arith, word_bound b j)) d e;
        };
  }

  -- n keys from s on
  run : (n : ℕ) → 1 ≤ n → (s : ℤ) → IsKey s
      → Iff (FreeRun (word_of a) (word_of b) (entries_of 2 w) (word_of s) (word_of s + n - 1)) (FreeKeys a b w s (s +ℤ pos (n - 1)))
  run n one s p = free (word_of s) (word_of s + n - 1) (key_back s p) (plus_key s n p one)

  -- a gap: what would make it longer as numbers would do so as keys, and the other way round
  key_gap : (x y : ℕ) {l h : ℤ} → key_of x ≡ l → key_of y ≡ h → Iff (IsGap (word_of a) (word_of b) (entries_of 2 w) x y) (KeyGap a b w l h)
  key_gap x y p q = record {
    to = λ g. record {
      run = (free x y p q).to g.run;
      longest = λ c d u v r e f.
          let z = g.longest (word_of c) (word_of d) ((free _ _ (key_back c u) (key_back d v)).from r) ((down_to x p c u).from e) ((up_to y q d v).from f) in
          (sym (key_back c u) ∙ ap key_of z.0 ∙ p, sym (key_back d v) ∙ ap key_of z.1 ∙ q);
    };
    from = λ g. record {
      run = (free x y p q).from g.run;
      longest = λ c d r e f.
          let m = run_end c d r in
          let z = g.longest (key_of c) (key_of d) (key_bound c (omega (arith, r.some))) (key_bound d (omega arith)) ((free c d refl refl).to r)
          ((at_most c x refl p).to e) ((at_most y d q refl).to f) in
          (one_number_lem c x (z.0 ∙ sym p), one_number_lem d y (z.1 ∙ sym q));
    };
  }

pub free_runs : FreeRuns
free_runs a b w l h i j p q = free a b i j w (word_of l) (word_of h) (key_back l p) (key_back h q)

-- a place is answered for a run of one number or more
asked_run : (fit : ℕ → ℕ → ℕ → List Entry → Option ℕ) (w : List ℕ) (a b k s : ℕ) → fit_call fit w a b k ≡ answers (s ∷ []) → 1 ≤ k
asked_run fit w a b k s e = some_run k (clear_at (ask_refusals w a b k) (fit_chosen fit w a b k s (sym e)).clear 2)

pub first_fit_keys : FirstFitKeys
first_fit_keys w a b s n i j p e =
    let f = first_fit_answers w (word_of a) (word_of b) n (word_of s) e in
    let one = asked_run first_fit w (word_of a) (word_of b) n (word_of s) e in
    ((run a b i j w n one s p).to f.run, λ t q g. (words s t p q).to (f.least (word_of t) ((run a b i j w n one t q).from g)))

pub best_fit_keys : BestFitKeys
best_fit_keys w a b s n i j p e =
    let f = best_fit_answers w (word_of a) (word_of b) n (word_of s) e in
    let back = word_back f.high in
    record {
      high = key_of f.high;
      is_key = key_bound f.high (omega (arith, run_end a b i j w (word_of s) f.high f.gap.run));
      gap = (key_gap a b i j w (word_of s) f.high (key_back s p) refl).to f.gap;
      enough = rw back f.enough;
      shortest = λ l h u v g m. rw back (f.shortest (word_of l) (word_of h) (words_gap l h u v g) m);
      lowest = λ l h u v g m q. (words s l p u).to (f.lowest (word_of l) (word_of h) (words_gap l h u v g) m (rw back at q));
    }
  where
    words_gap : (l h : ℤ) → IsKey l → IsKey h → KeyGap a b w l h → IsGap (word_of a) (word_of b) (entries_of 2 w) (word_of l) (word_of h)
    words_gap l h u v = (key_gap a b i j w (word_of l) (word_of h) (key_back l u) (key_back h v)).from

pub no_fit_keys : NoFitKeys
no_fit_keys w a b n s i j e one = let k = no_gap_exactly w (word_of a) (word_of b) n in (so k.0, so k.1)
  where
    so : {P : Type 0} → Iff P (RunAsked w (word_of a) (word_of b) n × (FreeSomewhere w (word_of a) (word_of b) n → ⊥)) → Iff P (NoFreeKeys a b w n)
    so k =
        iff_by k (λ h t p r. h.1 (record { start = word_of t; run = (run a b i j w n one t p).from r }))
        (λ h. (
          record { sound = s; order = (words a b i j).from e; some = λ z. omega arith },
          λ f. (all_keys (λ x. FreeRun (word_of a) (word_of b) (entries_of 2 w) x (x + n - 1) → ⊥)).from (λ t p r. h t p ((run a b i j w n one t p).to r))
              f.start (omega (arith, run_end a b i j w _ _ f.run)) f.run,
        ))

pub reserve_keys : ReserveKeys
reserve_keys fit w a b s n after i j p e =
    let r = reserve_means fit w (word_of a) (word_of b) n (word_of s) after e in
    let one = asked_run fit w (word_of a) (word_of b) n (word_of s) r.0 in
    (r.0, edit_left w (word_of s) (word_of s + n - 1) true (key_back s p) (plus_key s n p one) r.1)

pub range_at_keys : RangeAtKeys
range_at_keys w i s =
    let r = range_at_means w i s in (
      λ h. r.0 h ∙ sym (ap₂ (λ (l h : ℕ). answers (l ∷ h ∷ [])) (word_back _) (word_back _)),
      r.1,
    )
