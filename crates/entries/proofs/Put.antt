-- Every edit in place is one: the entries of `es` with `o` on a..b. An insertion and an assignment put a value, a removal and an erasure put none.
use mathlib.Core.Path.{◌≡◌, refl, sym, ◌∙◌, ap, ap₂}
use mathlib.Core.Logic.{◌≢◌}
use mathlib.Core.Bool.{Bool, true, false}
use mathlib.Core.Option.{Option, none, some}
use mathlib.Core.List.{List, [], ◌∷◌, ◌++◌}
use Prim.Native.Nat.{ℕ, zero, suc, ◌-◌, ◌≤◌, ◌<◌, min, max}
use native.Mathlib.Omega.{arith}
use native.Mathlib.Decide.{dec_le, dec_lt}
use lib.Dec.{leb}
use borrow.Author.Tests.{le-leb, lt-leb}
use lib.ListN.{length, get_or, take, drop}
use Rattle.entries.specs.Entries.{Value, Entry, or_else, at, value_at, After, Link, Sound, ListOf, entry}
use Rattle.entries.proofs.Sides.{Side, under, inside, past, side, at_in, at_under, at_past, val_in, val_past, none_under}
use Rattle.entries.proofs.Cuts.{Changes}
use Rattle.entries.specs.Build.{pick, with, put, andb, cuts_of}
use Rattle.entries.proofs.Building.{built}
use Rattle.entries.proofs.Operations.{end_of, value_changes, value_ends}
use Rattle.entries.proofs.Append.{value_index, Seam, sound_append, value_append, value_left, value_right, or_else_none}
use Rattle.entries.proofs.Index.{cut_left, cut_right, sound_take, sound_ok, sound_after, rises}

pub with_in : (es : List Entry) (a b : ℕ) (o : Option Value) (x : ℕ) → a ≤ x → x ≤ b → with es a b o x ≡ o
with_in es a b o x h k = rw (le-leb a x h, le-leb x b k)

pub with_under : (es : List Entry) (a b : ℕ) (o : Option Value) (x : ℕ) → x < a → with es a b o x ≡ value_at es x
with_under es a b o x h = rw (lt-leb a x h)

pub with_past : (es : List Entry) (a b : ℕ) (o : Option Value) (x : ℕ) → b < x → with es a b o x ≡ value_at es x
with_past es a b o x h = go (leb a x)
  where
    go : (t : Bool) → pick (andb t (leb x b)) o (value_at es x) ≡ value_at es x
    go true = rw (lt-leb x b h)
    go false = refl

-- [S9, S10, M2, M3, D2] an edit is o on a..b, and leaves all other numbers
pub put_is : (es : List Entry) (a b : ℕ) (o : Option Value) → ListOf (with es a b o) (put es a b o)
unfolding put
put_is es a b o = built (with es a b o) (max (suc b) (end_of es)) (a ∷ suc b ∷ cuts_of es)
    (λ y h. with_past es a b o y (omega arith) ∙ value_ends es y (omega arith)) changes
  where
    test : (y : ℕ) → suc y ≢ a → suc y ≢ suc b → andb (leb a (suc y)) (leb (suc y) b) ≡ andb (leb a y) (leb y b)
    test y p q = go (dec_le a y) (dec_le (suc y) b)
      where
        go : Dec (a ≤ y) → Dec (suc y ≤ b) → andb (leb a (suc y)) (leb (suc y) b) ≡ andb (leb a y) (leb y b)
        go (yes h) (yes k) = rw (le-leb a (suc y) (omega arith), le-leb (suc y) b k, le-leb a y h, le-leb y b (omega arith))
        go (yes h) (no k) = rw (le-leb a (suc y) (omega arith), lt-leb (suc y) b (omega arith), le-leb a y h, lt-leb y b (omega arith))
        go (no h) d = rw (lt-leb a (suc y) (omega arith), lt-leb a y (omega arith))

    changes : Changes (with es a b o) (a ∷ suc b ∷ cuts_of es)
    changes y n = ap₂ (λ (t : Bool) (p : Option Value). pick t o p) (test y n.0 n.1.0) (value_changes es y n.1.1)

-- the parts on either side, cut: the last entry ends below `lo`, the first begins past `hi`
abbrev pub cap : ℕ → Entry → Entry
cap lo e = entry e.low (min e.high (lo - 1)) e.value

abbrev pub raise : ℕ → Entry → Entry
raise hi e = entry (max e.low (suc hi)) e.high e.value

abbrev pub trim_end : ℕ → List Entry → List Entry
trim_end lo [] = []
trim_end lo (e ∷ []) = cap lo e ∷ []
trim_end lo (e ∷ f ∷ es) = e ∷ trim_end lo (f ∷ es)

abbrev pub trim_start : ℕ → List Entry → List Entry
trim_start hi [] = []
trim_start hi (e ∷ es) = raise hi e ∷ es

-- every entry begins below lo
abbrev pub Lows : ℕ → List Entry → Type 0
Lows lo [] = Unit {0}
Lows lo (e ∷ es) = (e.low < lo) × Lows lo es

pub lows_take : (d : Entry) (es : List Entry) (i lo : ℕ) → i ≤ length es → ((k : ℕ) → k < i → (get_or es k d).low < lo) → Lows lo (take i es)
lows_take d es zero lo h l = tt
lows_take d [] (suc i) lo h l = tt
lows_take d (e ∷ es) (suc i) lo h l = (l zero (omega arith), lows_take d es i lo (omega arith) (λ k p. l (suc k) (omega arith)))

cap_at : (lo : ℕ) (e : Entry) (x : ℕ) → x < lo → at (cap lo e) x ≡ at e x
cap_at lo e x h = go (side e x)
  where
    go : Side e x → at (cap lo e) x ≡ at e x
    go (under p) = at_under (cap lo e) x p ∙ sym (at_under e x p)
    go (inside p q) = at_in (cap lo e) x p (omega arith) ∙ sym (at_in e x p q)
    go (past p) = at_past (cap lo e) x (omega arith) ∙ sym (at_past e x p)

raise_at : (hi : ℕ) (e : Entry) (x : ℕ) → hi < x → at (raise hi e) x ≡ at e x
raise_at hi e x h = go (side e x)
  where
    go : Side e x → at (raise hi e) x ≡ at e x
    go (under p) = at_under (raise hi e) x (omega arith) ∙ sym (at_under e x p)
    go (inside p q) = at_in (raise hi e) x (omega arith) q ∙ sym (at_in e x p q)
    go (past p) = at_past (raise hi e) x p ∙ sym (at_past e x p)

trim_under : (lo : ℕ) (es : List Entry) (x : ℕ) → x < lo → value_at (trim_end lo es) x ≡ value_at es x
trim_under lo [] x h = refl
trim_under lo (e ∷ []) x h = rw (cap_at lo e x h)
trim_under lo (e ∷ f ∷ es) x h = ap (or_else (at e x)) (trim_under lo (f ∷ es) x h)

trim_none : (lo : ℕ) (es : List Entry) → Sound es → Lows lo es → (x : ℕ) → lo ≤ x → value_at (trim_end lo es) x ≡ none
trim_none lo [] s l x h = refl
trim_none lo (e ∷ []) s l x h = val_past (cap lo e) [] x (omega arith)
trim_none lo (e ∷ f ∷ es) s l x h = rw (at_past e x (omega arith)) (trim_none lo (f ∷ es) s.2 l.1 x h)

link_trim : (p e : Entry) (lo : ℕ) (es : List Entry) → After p e → Link p (trim_end lo (e ∷ es))
link_trim p e lo [] l = l
link_trim p e lo (f ∷ es) l = l

trim_sound : (lo : ℕ) (es : List Entry) → Sound es → Lows lo es → Sound (trim_end lo es)
trim_sound lo [] s l = tt
trim_sound lo (e ∷ []) s l = (omega arith, tt, tt)
trim_sound lo (e ∷ f ∷ es) s l = (s.0, link_trim e f lo es s.1, trim_sound lo (f ∷ es) s.2 l.1)

-- the seam asks for the last entry only
trim_seam : (d : Entry) (lo : ℕ) (es : List Entry) (i : ℕ) (c : List Entry) → i ≤ length es
    → ((k : ℕ) → suc k ≡ i → Link (cap lo (get_or es k d)) c) → Seam (trim_end lo (take i es)) c
trim_seam d lo es zero c h l = tt
trim_seam d lo [] (suc i) c h l = tt
trim_seam d lo (e ∷ es) (suc zero) c h l = l zero refl
trim_seam d lo (e ∷ []) (suc (suc i)) c h l = absurd (omega arith)
trim_seam d lo (e ∷ f ∷ []) (suc (suc zero)) c h l = l (suc zero) refl
trim_seam d lo (e ∷ f ∷ g ∷ es) (suc (suc zero)) c h l = l (suc zero) refl
trim_seam d lo (e ∷ f ∷ []) (suc (suc (suc i))) c h l = absurd (omega arith)
trim_seam d lo (e ∷ f ∷ g ∷ es) (suc (suc (suc i))) c h l = trim_seam d lo (f ∷ g ∷ es) (suc (suc i)) c (omega arith) (λ k p. l (suc k) (omega arith))

start_past : (hi : ℕ) (es : List Entry) (x : ℕ) → hi < x → value_at (trim_start hi es) x ≡ value_at es x
start_past hi [] x h = refl
start_past hi (e ∷ es) x h = rw (raise_at hi e x h)

start_sound : (d : Entry) (hi : ℕ) (es : List Entry) (j : ℕ) → Sound es → (j < length es → hi < (get_or es j d).high) → Sound (trim_start hi (drop j es))
start_sound d hi [] zero s h = tt
start_sound d hi [] (suc j) s h = tt
start_sound d hi (e ∷ es) zero s h = (omega (arith, h (omega arith)), over es s.1, s.2)
  where
    over : (fs : List Entry) → Link e fs → Link (raise hi e) fs
    over [] l = tt
    over (f ∷ fs) l = l
start_sound d hi (e ∷ es) (suc j) s h = start_sound d hi es j s.2 (λ p. h (omega arith))

start_link : (d p : Entry) (hi : ℕ) (es : List Entry) (j : ℕ) → (j < length es → After p (raise hi (get_or es j d))) → Link p (trim_start hi (drop j es))
start_link d p hi [] zero h = tt
start_link d p hi [] (suc j) h = tt
start_link d p hi (e ∷ es) zero h = h (omega arith)
start_link d p hi (e ∷ es) (suc j) h = start_link d p hi es j (λ q. h (omega arith))

start_none : (hi : ℕ) (es : List Entry) → Sound (trim_start hi es) → (x : ℕ) → x ≤ hi → value_at (trim_start hi es) x ≡ none
start_none hi [] s x h = refl
start_none hi (e ∷ es) s x h = none_under (raise hi e) es s x (omega arith)

-- where the left part ends: before item i, cut below lo
pub record Left (d : Entry) (es : List Entry) (i lo : ℕ) : Type 0 where
  pub within : i ≤ length es
  pub lows : (k : ℕ) → k < i → (get_or es k d).low < lo
  pub from : i < length es → lo ≤ (get_or es i d).low

-- where the right part begins: with item j, cut past hi
pub record Right (d : Entry) (es : List Entry) (j hi : ℕ) : Type 0 where
  pub within : j ≤ length es
  pub highs : (k : ℕ) → k < j → (get_or es k d).high ≤ hi
  pub from : j < length es → hi < (get_or es j d).high

-- lo..a-1 has the value v already, and what ends right before lo has another
pub record JoinsLeft (d : Entry) (es : List Entry) (i lo a : ℕ) (v : Value) : Type 0 where
  pub left : Left d es i lo
  pub below : lo ≤ a
  pub joined : (x : ℕ) → lo ≤ x → x < a → value_at es x ≡ some v
  pub apart : (k : ℕ) → suc k ≡ i → lo ≤ suc (get_or es k d).high → (get_or es k d).value ≢ v

pub record JoinsRight (d : Entry) (es : List Entry) (j hi b : ℕ) (v : Value) : Type 0 where
  pub right : Right d es j hi
  pub above : b ≤ hi
  pub joined : (x : ℕ) → b < x → x ≤ hi → value_at es x ≡ some v
  pub apart : j < length es → (get_or es j d).low ≤ suc hi → (get_or es j d).value ≢ v

module _ (d : Entry) (es : List Entry) (s : Sound es) (i j lo hi : ℕ) (l : Left d es i lo) (r : Right d es j hi) where
  left_sound : Sound (trim_end lo (take i es))
  left_sound = trim_sound lo (take i es) (sound_take d es i s) (lows_take d es i lo l.within l.lows)

  right_sound : Sound (trim_start hi (drop j es))
  right_sound = start_sound d hi es j s r.from

  left_under : (x : ℕ) → x < lo → value_at (trim_end lo (take i es)) x ≡ value_at es x
  left_under x h = trim_under lo (take i es) x h ∙ sym (cut_left d es i s x (λ q. omega (arith, l.from q)))

  right_past : (x : ℕ) → hi < x → value_at (trim_start hi (drop j es)) x ≡ value_at es x
  right_past x h = start_past hi (drop j es) x h ∙ sym (cut_right d es j s r.within x (λ k p. omega (arith, r.highs k (omega arith))))

  -- THE EDIT with a value: left part, one entry, right part
  module _ (a b : ℕ) (ab : a ≤ b) (v : Value) (p : JoinsLeft d es i lo a v) (q : JoinsRight d es j hi b v) where
    abbrev core : Entry
    core = entry lo hi v

    abbrev whole : List Entry
    whole = trim_end lo (take i es) ++ (core ∷ trim_start hi (drop j es))

    whole_sound : Sound whole
    whole_sound = sound_append (trim_end lo (take i es)) (core ∷ trim_start hi (drop j es)) left_sound (
      omega (arith, p.below, q.above),
      start_link d core hi es j (λ h. (omega arith, λ e w. q.apart h (omega arith) (sym w))),
      right_sound,
    )
        (trim_seam d lo es i (core ∷ trim_start hi (drop j es)) l.within
        (λ k h. (omega (arith, l.lows k (omega arith)), λ e w. p.apart k h (omega arith) w)))

    in_core : (x : ℕ) → lo ≤ x → x ≤ hi → Side (entry a b v) x → some v ≡ with es a b (some v) x
    in_core x h k (under m) = sym (with_under es a b (some v) x m ∙ p.joined x h m)
    in_core x h k (inside m n) = sym (with_in es a b (some v) x m n)
    in_core x h k (past m) = sym (with_past es a b (some v) x m ∙ q.joined x m k)

    names : (x : ℕ) → Side core x → value_at whole x ≡ with es a b (some v) x
    names x (under h) = value_left (trim_end lo (take i es)) core (trim_start hi (drop j es)) whole_sound x h ∙ left_under x h
        ∙ sym (with_under es a b (some v) x (omega (arith, p.below)))
    names x (inside h k) =
        value_right (trim_end lo (take i es)) core (trim_start hi (drop j es)) whole_sound x h ∙ val_in core (trim_start hi (drop j es)) x h k
        ∙ in_core x h k (side (entry a b v) x)
    names x (past h) = value_right (trim_end lo (take i es)) core (trim_start hi (drop j es)) whole_sound x (omega (arith, p.below, q.above))
        ∙ val_past core (trim_start hi (drop j es)) x h ∙ right_past x h
        ∙ sym (with_past es a b (some v) x (omega (arith, q.above)))

    pub put_some : ListOf (with es a b (some v)) whole
    put_some = record { sound = whole_sound; names = λ x. names x (side core x) }

  -- THE EDIT with none: left part, right part
  module _ (le : lo ≤ hi) where
    abbrev rest : List Entry
    rest = trim_end lo (take i es) ++ trim_start hi (drop j es)

    rest_sound : Sound rest
    rest_sound = sound_append (trim_end lo (take i es)) (trim_start hi (drop j es)) left_sound right_sound
        (trim_seam d lo es i (trim_start hi (drop j es)) l.within
        (λ k h. start_link d (cap lo (get_or es k d)) hi es j
        (λ m. (omega (arith, l.lows k (omega arith)), λ e. absurd (omega (arith, l.lows k (omega arith)))))))

    keep : (x : ℕ) → Side (entry lo hi d.value) x → value_at rest x ≡ with es lo hi none x
    keep x (under h) = value_append (trim_end lo (take i es)) (trim_start hi (drop j es)) x
        ∙ ap (or_else (value_at (trim_end lo (take i es)) x)) (start_none hi (drop j es) right_sound x (omega arith))
        ∙ or_else_none (value_at (trim_end lo (take i es)) x)
        ∙ left_under x h ∙ sym (with_under es lo hi none x h)
    keep x (inside h k) = value_append (trim_end lo (take i es)) (trim_start hi (drop j es)) x
        ∙ ap₂ or_else (trim_none lo (take i es) (sound_take d es i s) (lows_take d es i lo l.within l.lows) x h)
        (start_none hi (drop j es) right_sound x k) ∙ sym (with_in es lo hi none x h k)
    keep x (past h) = value_append (trim_end lo (take i es)) (trim_start hi (drop j es)) x
        ∙ ap (λ (o : Option Value). or_else o (value_at (trim_start hi (drop j es)) x))
        (trim_none lo (take i es) (sound_take d es i s) (lows_take d es i lo l.within l.lows) x (omega arith))
        ∙ right_past x h ∙ sym (with_past es lo hi none x h)

    pub put_none : ListOf (with es lo hi none) rest
    put_none = record { sound = rest_sound; names = λ x. keep x (side (entry lo hi d.value) x) }

-- whether the value joins what ends right before a..b, and what begins right after
module _ (d : Entry) (es : List Entry) (s : Sound es) where
  pub cut_here : (i a : ℕ) (v : Value) → Left d es i a → ((k : ℕ) → suc k ≡ i → a ≤ suc (get_or es k d).high → (get_or es k d).value ≢ v)
      → JoinsLeft d es i a a v
  cut_here i a v l n = record { left = l; below = omega arith; joined = λ x p q. absurd (omega arith); apart = n }

  pub join_before : (i a : ℕ) (v : Value) → Left d es (suc i) a → a ≤ suc (get_or es i d).high → (get_or es i d).value ≡ v
      → JoinsLeft d es i (get_or es i d).low a v
  join_before i a v l h e =
      record {
        left = record {
          within = omega (arith, l.within);
          lows = λ k p. omega (arith, rises d es s k i p l.within, sound_ok d es s k (omega (arith, l.within)));
          from = λ p. omega arith;
        };
        below = omega (arith, l.lows i (omega arith));
        joined = λ x p q. value_index es i d s l.within x p (omega arith) ∙ ap some e;
        apart = near;
      }
    where
      near : (k : ℕ) → suc k ≡ i → (get_or es i d).low ≤ suc (get_or es k d).high → (get_or es k d).value ≢ v
      near k p q w =
          let g : After (get_or es k d) (get_or es i d) = rw p at (sound_after d es s k (omega (arith, l.within))) in
          g.1 (omega (arith, g.0)) (w ∙ sym e)

  pub cut_there : (j b : ℕ) (v : Value) → Right d es j b → (j < length es → (get_or es j d).low ≤ suc b → (get_or es j d).value ≢ v) → JoinsRight d es j b b v
  cut_there j b v r n = record { right = r; above = omega arith; joined = λ x p q. absurd (omega arith); apart = n }

  pub join_after : (j b : ℕ) (v : Value) → Right d es j b → j < length es → (get_or es j d).low ≤ suc b → (get_or es j d).value ≡ v
      → JoinsRight d es (suc j) (get_or es j d).high b v
  join_after j b v r m h e =
      record {
        right = record {
          within = m;
          highs = λ k p. upto k (dec_lt k j) p;
          from = λ p. omega (arith, (sound_after d es s j p).0, sound_ok d es s (suc j) p);
        };
        above = omega (arith, r.from m);
        joined = λ x p q. value_index es j d s m x (omega arith) q ∙ ap some e;
        apart = λ p q w. let g = sound_after d es s j p in g.1 (omega (arith, g.0)) (e ∙ sym w);
      }
    where
      upto : (k : ℕ) → Dec (k < j) → k < suc j → (get_or es k d).high ≤ (get_or es j d).high
      upto k (yes p) q = omega (arith, r.highs k p, r.from m)
      upto k (no p) q = let f : k ≡ j = omega arith in rw f (omega arith)
