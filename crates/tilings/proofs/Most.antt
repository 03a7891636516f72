-- How many blocks a set has: at most 126 for each of its ranges. They are counted as the plain method keeps them, of the set of that one range:
-- at either end of the range each cut adds at most one.
use mathlib.Core.Path.{◌≡◌, refl, ap}
use mathlib.Core.Bool.{Bool, true, false}
use mathlib.Core.List.{List, [], ◌∷◌}
use Prim.Native.Nat.{ℕ, zero, suc, ◌+◌, ◌*◌, ◌-◌, ◌^◌, ◌≤◌, ◌<◌}
use native.Mathlib.Nat.{pow-suc}
use native.Mathlib.Omega.{arith}
use native.Mathlib.Decide.{dec_le, dec_lt}
use lib.Pow.{pow_pos}
use lib.ListN.{length, length-append}
use Rattle.entries.specs.Entries.{Entry, Sound}
use Rattle.entries.specs.Sets.{past_m, Plain, member}
use Rattle.entries.proofs.Questions.{Under}
use Rattle.tilings.specs.Prefixes.{whole, taken_all, prefixes, wholly_out, audit, audited, most}
use Rattle.tilings.proofs.Judging.{free_out, out_not, full_in, in_not, audit_dropped, audit_kept, audit_halves}
use Rattle.tilings.proofs.Greedy.{first_under, first_in, first_past}
use Rattle.tilings.proofs.Blocks.{agree}

-- how many blocks the plain method keeps of the 2^k numbers from s on, where the set is the one range r
abbrev kept : Entry → ℕ → ℕ → ℕ
kept r k s = length (audit (r ∷ []) k s)

-- at most k of every block of 2^k numbers that starts before the range and ends in it,
abbrev LowEnd : Entry → ℕ → Type 0
LowEnd r k = (s : ℕ) → s < r.low → s + 2 ^ k ≤ suc r.high → kept r k s ≤ k

-- at most k of every one that starts in the range and ends behind it (or is behind it),
abbrev HighEnd : Entry → ℕ → Type 0
HighEnd r k = (s : ℕ) → s + 2 ^ k ≤ past_m → r.low ≤ s → suc r.high < s + 2 ^ k → kept r k s ≤ k

-- and at most 2k of every block of 2^(k+1) numbers that starts before the range and ends behind it
abbrev BothEnds : Entry → ℕ → Type 0
BothEnds r k = (s : ℕ) → s + 2 ^ suc k ≤ past_m → s < r.low → suc r.high < s + 2 ^ suc k → kept r (suc k) s ≤ 2 * k

module _ (r : Entry) (so : Sound (r ∷ [])) (un : r.high < past_m) where
  -- none before the range,
  before : (k s : ℕ) → s + 2 ^ k ≤ r.low → kept r k s ≡ 0
  before k s h = ap length (audit_dropped (r ∷ []) k s (free_out (r ∷ []) so k s (λ z a b. first_under r [] so z (omega arith))))

  -- none behind it,
  behind : (k s : ℕ) → r.high < s → kept r k s ≡ 0
  behind k s h = ap length (audit_dropped (r ∷ []) k s (free_out (r ∷ []) so k s (λ z a b. first_past r [] z (omega arith))))

  -- one within it,
  within : (k s : ℕ) → r.low ≤ s → s + 2 ^ k ≤ suc r.high → kept r k s ≡ 1
  within k s h l =
      let p = pow_pos k in
      ap length (audit_kept (r ∷ []) k s
      (out_not (r ∷ []) so k s s (omega arith) (omega arith) (first_in r [] s h (omega arith)))
      (full_in (r ∷ []) so k s (omega arith) (λ z a b. first_in r [] z (omega arith) (omega arith))))

  -- and of a block that is not wholly in no more than of its halves
  halves : (k s z : ℕ) → s + 2 ^ suc k ≤ past_m → s ≤ z → z < s + 2 ^ suc k → member (r ∷ []) z ≡ false
      → kept r (suc k) s ≤ kept r k s + kept r k (s + 2 ^ k)
  halves k s z h a b m = go (wholly_out (r ∷ []) (suc k) s) refl
    where
      go : (t : Bool) → wholly_out (r ∷ []) (suc k) s ≡ t → kept r (suc k) s ≤ kept r k s + kept r k (s + 2 ^ k)
      go true o = rw (audit_dropped (r ∷ []) (suc k) s o) (omega arith)
      go false o =
          rw (audit_halves (r ∷ []) k s o (in_not (r ∷ []) so (suc k) s z h a b m))
          (omega (arith, length-append (audit (r ∷ []) k s) (audit (r ∷ []) k (s + 2 ^ k))))

  -- THE LOW END: one half is within the range or before it
  low_end : (k : ℕ) → LowEnd r k
  low_end zero s a b = omega (arith, before 0 s (omega arith))
  low_end (suc k) s a b =
      go (dec_le r.low (s + 2 ^ k)) (low_end k) (pow-suc 2 k)
      (halves k s s (omega arith) (omega arith) (omega (arith, pow_pos (suc k))) (first_under r [] so s a))
    where
      go : Dec (r.low ≤ s + 2 ^ k) → LowEnd r k → 2 ^ suc k ≡ 2 ^ k * 2 → kept r (suc k) s ≤ kept r k s + kept r k (s + 2 ^ k)
          → kept r (suc k) s ≤ suc k
      go (yes d) f p h = omega (arith, f s a (omega arith), within k (s + 2 ^ k) d (omega arith))
      go (no d) f p h = omega (arith, before k s (omega (arith, d)), f (s + 2 ^ k) (omega (arith, d)) (omega arith))

  -- THE HIGH END: one half is within the range or behind it
  high_end : (k : ℕ) → HighEnd r k
  high_end zero s l a b = omega (arith, behind 0 s (omega arith))
  high_end (suc k) s l a b =
      let q = pow_pos (suc k) in
      go (dec_le (s + 2 ^ k) (suc r.high)) (high_end k) (pow-suc 2 k)
      (halves k s (s + 2 ^ suc k - 1) l (omega arith) (omega arith) (first_past r [] (s + 2 ^ suc k - 1) (omega arith)))
    where
      go : Dec (s + 2 ^ k ≤ suc r.high) → HighEnd r k → 2 ^ suc k ≡ 2 ^ k * 2 → kept r (suc k) s ≤ kept r k s + kept r k (s + 2 ^ k)
          → kept r (suc k) s ≤ suc k
      go (yes d) f p h = omega (arith, within k s a d, f (s + 2 ^ k) (omega arith) (omega arith) (omega arith))
      go (no d) f p h = omega (arith, f s (omega arith) a (omega (arith, d)), behind k (s + 2 ^ k) (omega (arith, d)))

  -- BOTH ENDS: they are in one half, and the other is behind the range or before it; or each is in its own half
  both_ends : (k : ℕ) → BothEnds r k
  both_ends zero s l a b = absurd (omega (arith, so.0))
  both_ends (suc k) s l a b =
      go (dec_le r.low (s + 2 ^ suc k)) (dec_le (s + 2 ^ suc k) (suc r.high)) (both_ends k) (pow-suc 2 (suc k))
      (halves (suc k) s s l (omega arith) (omega (arith, pow_pos (suc (suc k)))) (first_under r [] so s a))
    where
      go : Dec (r.low ≤ s + 2 ^ suc k) → Dec (s + 2 ^ suc k ≤ suc r.high) → BothEnds r k → 2 ^ suc (suc k) ≡ 2 ^ suc k * 2
          → kept r (suc (suc k)) s ≤ kept r (suc k) s + kept r (suc k) (s + 2 ^ suc k) → kept r (suc (suc k)) s ≤ 2 * suc k
      go (yes c) (yes d) f p h = omega (arith, low_end (suc k) s a d, high_end (suc k) (s + 2 ^ suc k) (omega arith) c (omega arith))
      go (yes c) (no d) f p h = omega (arith, f s (omega arith) a (omega (arith, d)), behind (suc k) (s + 2 ^ suc k) (omega (arith, d)))
      go (no c) d f p h =
          omega (arith, before (suc k) s (omega (arith, c)), f (s + 2 ^ suc k) (omega arith) (omega (arith, c)) (omega arith))

  -- [P4] so at most 126 of the whole line
  one_range : length (audited (r ∷ [])) ≤ most
  one_range = go (dec_lt 0 r.low) (dec_lt (suc r.high) past_m)
    where
      go : Dec (0 < r.low) → Dec (suc r.high < past_m) → length (audited (r ∷ [])) ≤ most
      go (yes a) (yes b) = both_ends 63 0 (omega arith) a b
      go (yes a) (no b) = omega (arith, low_end whole 0 a (omega (arith, b)))
      go (no a) (yes b) = omega (arith, high_end whole 0 (omega arith) (omega (arith, a)) b)
      go (no a) (no b) = omega (arith, within whole 0 (omega (arith, a)) (omega (arith, b)))

-- [P4] AT MOST 126 BLOCKS FOR EACH RANGE
pub at_most : (es : List Entry) → Sound es → Plain es → Under past_m es → length (prefixes es) ≤ most * length es
unfolding prefixes
at_most [] so pl un = omega arith
at_most (r ∷ es) so pl un =
    let one : Sound (r ∷ []) = (so.0, tt, tt) in
    let ps = taken_all r.low (suc r.high - r.low) in
    omega (
      arith,
      length-append ps (prefixes es),
      length-append ps [],
      ap length (agree (r ∷ []) one (pl.0, tt) (un.0, tt)),
      one_range r one un.0,
      at_most es so.2 pl.1 un.1,
    )
