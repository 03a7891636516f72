-- What the plain method keeps of a block, cutting it into halves, is the set's tiling of that block.
use mathlib.Core.Path.{◌≡◌, refl, sym, ◌∙◌, subst}
use mathlib.Core.Bool.{Bool, true, false}
use mathlib.Core.List.{List}
use Prim.Native.Nat.{ℕ, zero, suc, ◌+◌, ◌%◌, ◌^◌, ◌≤◌, ◌<◌}
use native.Mathlib.Nat.{pow-suc}
use native.Mathlib.Omega.{arith}
use native.Mathlib.Decide.{ℕ_discrete, dec_le}
use Rattle.entries.specs.Entries.{Entry, Sound}
use Rattle.entries.specs.Sets.{past_m, member}
use Rattle.entries.proofs.Values.{true≢false}
use Rattle.tilings.specs.Prefixes.{wholly_out, wholly_in, audit}
use Rattle.tilings.proofs.Powers.{smaller, next, no_half}
use Rattle.tilings.proofs.Judging.{Full, out_free, free_out, in_full, full_in, audit_dropped, audit_kept, audit_halves}
use Rattle.tilings.proofs.Tiles.{Greatest, Tiles, done, tiles_none, tiles_first, tiles_append}

-- no larger block from s on is one that S holds
abbrev pub Bounded : (ℕ → Bool) → ℕ → ℕ → Type 0
Bounded S s e = (f : ℕ) → e < f → s % 2 ^ f ≡ 0 → Full S s f → ⊥

-- so that one that S holds is the largest
bounded_greatest : (S : ℕ → Bool) (s e : ℕ) → s % 2 ^ e ≡ 0 → Full S s e → Bounded S s e → Greatest S s e
bounded_greatest S s e a u n = record { aligned = a; full = u; most = λ f b v. go f b v (dec_le f e) }
  where
    go : (f : ℕ) → s % 2 ^ f ≡ 0 → Full S s f → Dec (f ≤ e) → f ≤ e
    go f b v (yes l) = l
    go f b v (no l) = absurd (n f (omega (arith, l)) b v)

module _ (es : List Entry) (so : Sound es) where
  -- one number is wholly in or wholly out
  single : (s : ℕ) → s < past_m → wholly_out es 0 s ≡ false → wholly_in es 0 s ≡ false → ⊥
  single s h o i = go (member es s) refl
    where
      alone : (t : Bool) → member es s ≡ t → (y : ℕ) → s ≤ y → y < s + 1 → member es y ≡ t
      alone t m y a b = let q : y ≡ s = omega arith in rw q m

      go : (t : Bool) → member es s ≡ t → ⊥
      go true m = true≢false (sym (full_in es so 0 s (omega arith) (alone true m)) ∙ i)
      go false m = true≢false (sym (free_out es so 0 s (alone false m)) ∙ o)

  -- of a block wholly out there is nothing,
  dropped : (e s : ℕ) → wholly_out es e s ≡ true → Tiles (member es) s (s + 2 ^ e) (audit es e s)
  dropped e s o = let l : s ≤ s + 2 ^ e = omega arith in rw (audit_dropped es e s o) (done l (out_free es so e s o))

  -- of one wholly in itself,
  kept : (e s : ℕ) → s + 2 ^ e ≤ past_m → s % 2 ^ e ≡ 0 → Bounded (member es) s e → wholly_out es e s ≡ false → wholly_in es e s ≡ true
      → Tiles (member es) s (s + 2 ^ e) (audit es e s)
  kept e s h a n o i =
      rw (audit_kept es e s o i)
      (tiles_first (bounded_greatest (member es) s e a (in_full es so e s h i) n) (tiles_none (s + 2 ^ e)))

  -- and of another what there is of its halves
  halved : (e s : ℕ) → wholly_out es (suc e) s ≡ false → wholly_in es (suc e) s ≡ false
      → Tiles (member es) s (s + 2 ^ e) (audit es e s) → Tiles (member es) (s + 2 ^ e) (s + 2 ^ e + 2 ^ e) (audit es e (s + 2 ^ e))
      → Tiles (member es) s (s + 2 ^ suc e) (audit es (suc e) s)
  halved e s o i t u =
      let q : s + 2 ^ e + 2 ^ e ≡ s + 2 ^ suc e = omega (arith, pow-suc 2 e) in
      rw (audit_halves es e s o i, ← q) (tiles_append t u)

  -- [P5] if no larger block from its start on is one that the set holds
  pub audit_tiles : (e s : ℕ) → s + 2 ^ e ≤ past_m → s % 2 ^ e ≡ 0 → Bounded (member es) s e → Tiles (member es) s (s + 2 ^ e) (audit es e s)
  audit_tiles zero s h a n = go (wholly_out es 0 s) refl (wholly_in es 0 s) refl
    where
      go : (t : Bool) → wholly_out es 0 s ≡ t → (u : Bool) → wholly_in es 0 s ≡ u → Tiles (member es) s (s + 2 ^ 0) (audit es 0 s)
      go true o u i = dropped 0 s o
      go false o true i = kept 0 s h a n o i
      go false o false i = absurd (single s (omega arith) o i)
  audit_tiles (suc e) s h a n = go (wholly_out es (suc e) s) refl (wholly_in es (suc e) s) refl (audit_tiles e s) (audit_tiles e (s + 2 ^ e))
    where
      first : s % 2 ^ e ≡ 0
      first = smaller s e (suc e) (omega arith) a

      not_larger : wholly_in es (suc e) s ≡ false → Bounded (member es) s e
      not_larger i f l b v = on (ℕ_discrete f (suc e))
        where
          on : Dec (f ≡ suc e) → ⊥
          on (yes q) = true≢false (sym (full_in es so (suc e) s h (subst (Full (member es) s) q v)) ∙ i)
          on (no q) = n f (omega (arith, q)) b v

      go : (t : Bool) → wholly_out es (suc e) s ≡ t → (u : Bool) → wholly_in es (suc e) s ≡ u
          → (s + 2 ^ e ≤ past_m → s % 2 ^ e ≡ 0 → Bounded (member es) s e → Tiles (member es) s (s + 2 ^ e) (audit es e s))
          → (s + 2 ^ e + 2 ^ e ≤ past_m → (s + 2 ^ e) % 2 ^ e ≡ 0 → Bounded (member es) (s + 2 ^ e) e
          → Tiles (member es) (s + 2 ^ e) (s + 2 ^ e + 2 ^ e) (audit es e (s + 2 ^ e)))
          → Tiles (member es) s (s + 2 ^ suc e) (audit es (suc e) s)
      go true o u i low high = dropped (suc e) s o
      go false o true i low high = kept (suc e) s h a n o i
      go false o false i low high =
          halved e s o i (low (omega (arith, pow-suc 2 e)) first (not_larger i))
          (high (omega (arith, pow-suc 2 e)) (next e s first) (λ f l b v. no_half e s a (smaller (s + 2 ^ e) (suc e) f (omega arith) b)))
