-- The nodes of the audit: what the first range that ends at or past a node's start tells of the node, and what its halves are.
use mathlib.Core.Path.{◌≡◌, refl, sym, ◌∙◌, ap, subst}
use mathlib.Core.Logic.{◌⊎◌, inl, inr}
use mathlib.Core.Bool.{Bool, true, false}
use mathlib.Core.List.{List, [], ◌∷◌, ◌++◌}
use Prim.Native.Nat.{ℕ, suc, ◌+◌, ◌*◌, ◌-◌, ◌/◌, ◌^◌, ◌≤◌, ◌<◌, max}
use native.Mathlib.Omega.{arith}
use native.Mathlib.Nat.{pow-suc}
use lib.Pow.{pow_pos}
use lib.Dec.{leb}
use lib.ListN.{length, get_or}
use borrow.Author.Tests.{leb-true, leb-false}
use Rattle.entries.specs.Entries.{Entry, value_at}
use Rattle.entries.specs.Build.{andb}
use Rattle.entries.specs.Sets.{past_m, has, member}
use Rattle.entries.proofs.Index.{sound_ok}
use Rattle.entries.proofs.Values.{and_true}
use Rattle.entries.proofs.Append.{value_index, value_gap}
use Rattle.entries.proofs.Windows.{Passed}
use Rattle.entries.proofs.Finding.{behind_free}
use Rattle.blocks.specs.Blocks.{entries_of}
use Rattle.blocks.specs.Steps.{zero_item}
use Rattle.blocks.proofs.Items.{entries_count, entry_is}
use Rattle.sets.proofs.Asking.{entries_plain}
use Rattle.searches.specs.Steps.{FirstFrom}
use Rattle.searches.proofs.Finding.{passed}
use Rattle.tilings.specs.Prefixes.{Prefix, prefix, wholly_out, wholly_in, audit}
use Rattle.tilings.proofs.Judging.{free_out, full_in, out_not, in_not, audit_dropped, audit_kept, audit_halves}
use Rattle.prefixes.specs.Steps.{Notes, Node}
use Rattle.prefixes.specs.declared.Pairs.{Pairs}
use Rattle.prefixes.proofs.Passes.{notes_none, notes_both}

-- of two tests that do not both hold, one fails
not_both : (s t : Bool) → andb s t ≡ false → (s ≡ false) ⊎ (t ≡ false)
not_both true t q = inr q
not_both false t q = inl refl

module _ {w : List ℕ} {start e ones at : ℕ} (g : Node w start e ones at) where
  abbrev es : List Entry
  es = entries_of 2 w

  here : Passed zero_item es start at
  here = passed 2 (omega arith) w (get_or w 0 0) refl start at g.first

  count : length es ≡ get_or w 0 0
  count = entries_count 2 (omega arith) w (get_or w 0 0) refl

  low_of : (k : ℕ) → k < get_or w 0 0 → (get_or es k zero_item).low ≡ get_or w (2 * k + 1) 0
  low_of k h = ap (λ (f : Entry). f.low) (entry_is 2 (omega arith) w (get_or w 0 0) refl k h)

  high_of : (k : ℕ) → k < get_or w 0 0 → (get_or es k zero_item).high ≡ get_or w (2 * k + 2) 0
  high_of k h = ap (λ (f : Entry). f.high) (entry_is 2 (omega arith) w (get_or w 0 0) refl k h)

  -- numbers from the start on and below the range at the place are no members
  no_member : (z : ℕ) → start ≤ z → (at < length es → z < (get_or es at zero_item).low) → member es z ≡ false
  no_member z a f = ap has (value_gap es at zero_item g.block.sound z (λ j p. omega (arith, here.before j p)) f)

  -- WHOLLY OUT, and dropped
  dropped : (p : Pairs) → (at < get_or w 0 0 → start + ones < get_or w (2 * at + 1) 0) → Notes (audit es e start) p p
  dropped p f = subst (λ (ps : List Prefix). Notes ps p p) (sym (audit_dropped es e start out)) (notes_none p)
    where
      out : wholly_out es e start ≡ true
      out = free_out es g.block.sound e start
          (λ z a b. no_member z a (λ p. let h : at < get_or w 0 0 = omega (arith, count) in omega (arith, f h, low_of at h, g.size)))

  pub dropped_end : (p : Pairs) → get_or w 0 0 ≤ at → Notes (audit es e start) p p
  dropped_end p h = dropped p (λ q. absurd (omega arith))

  -- there is a range at the place
  module _ {n : ℕ} (qn : n ≡ get_or w 0 0) (there : at < n) {low : ℕ} (ql : low ≡ get_or w (2 * at + 1) 0) where
    h : at < get_or w 0 0
    h = omega arith

    among : at < length es
    among = omega (arith, count)

    pub dropped_below : (p : Pairs) → start + ones < low → Notes (audit es e start) p p
    dropped_below p l = dropped p (λ q. omega arith)

    -- and it begins within the node or before it
    module _ (begun : low ≤ start + ones) {high : ℕ} (qh : high ≡ get_or w (2 * at + 2) 0) where
      ends : start ≤ high
      ends = omega (arith, g.first.from h)

      order : low ≤ high
      order = omega (arith, sound_ok zero_item es g.block.sound at among, low_of at h, high_of at h)

      in_range : (z : ℕ) → low ≤ z → z ≤ high → member es z ≡ true
      in_range z a b = ap has (value_index es at zero_item g.block.sound among z (omega (arith, low_of at h)) (omega (arith, high_of at h)))

      not_out : wholly_out es e start ≡ false
      not_out =
          out_not es g.block.sound e start (max start low) (omega arith) (omega (arith, g.size))
          (in_range (max start low) (omega arith) (omega (arith, order, ends)))

      in_line : start + 2 ^ e ≤ past_m
      in_line = omega (arith, g.size, g.in_line)

      -- WHOLLY IN, and kept
      module _ {t : Bool} (qt : t ≡ andb (leb low start) (leb (start + ones) high)) (yes : t ≡ true) where
        inner : andb (leb low start) (leb (start + ones) high) ≡ true
        inner = sym qt ∙ yes

        from_low : low ≤ start
        from_low = leb-true low start (and_true (leb low start) (leb (start + ones) high) inner).0

        to_high : start + ones ≤ high
        to_high = leb-true (start + ones) high (and_true (leb low start) (leb (start + ones) high) inner).1

        is_in : wholly_in es e start ≡ true
        is_in = full_in es g.block.sound e start in_line (λ y a b. in_range y (omega (arith, from_low)) (omega (arith, to_high, g.size)))

        pub kept : {p q : Pairs} → Notes (prefix start e ∷ []) p q → Notes (audit es e start) p q
        kept {p} {q} n = subst (λ (ps : List Prefix). Notes ps p q) (sym (audit_kept es e start not_out is_in)) n

      -- PARTLY IN, and cut
      module _ {t : Bool} (qt : t ≡ andb (leb low start) (leb (start + ones) high)) (no : t ≡ false) where
        partly : andb (leb low start) (leb (start + ones) high) ≡ false
        partly = sym qt ∙ no

        -- a single number is wholly in or wholly out
        pub more : e ≡ 0 → ⊥
        more z = go (not_both (leb low start) (leb (start + ones) high) partly) (ap (λ (k : ℕ). 2 ^ k) z)
          where
            go : (leb low start ≡ false) ⊎ (leb (start + ones) high ≡ false) → 2 ^ e ≡ 2 ^ 0 → ⊥
            go (inl q) x = omega (arith, leb-false low start q, g.size)
            go (inr q) x = omega (arith, leb-false (start + ones) high q, g.size, ends)

        not_in : wholly_in es e start ≡ false
        not_in = go (not_both (leb low start) (leb (start + ones) high) partly)
          where
            go : (leb low start ≡ false) ⊎ (leb (start + ones) high ≡ false) → wholly_in es e start ≡ false
            go (inl q) =
                in_not es g.block.sound e start start in_line (omega arith) (omega (arith, pow_pos e))
                (no_member start (omega arith) (λ p. omega (arith, low_of at h, leb-false low start q)))
            go (inr q) =
                let l = leb-false (start + ones) high q in
                in_not es g.block.sound e start (suc high) in_line (omega (arith, ends)) (omega (arith, g.size))
                (ap has
                (ap (λ (x : ℕ). value_at es (suc x)) (qh ∙ sym (high_of at h))
                ∙ behind_free zero_item es at (entries_plain w) g.block.sound among))

        -- the halves, each one exponent smaller
        one_less : suc (e - 1) ≡ e
        one_less = omega (arith, more)

        doubled : 2 ^ e ≡ 2 * 2 ^ (e - 1)
        doubled = ap (λ (k : ℕ). 2 ^ k) (sym one_less) ∙ omega (arith, pow-suc 2 (e - 1))

        half : ones / 2 + 1 ≡ 2 ^ (e - 1)
        half = omega (arith, g.size, doubled)

        -- the second half ends where the node does
        same_end : start + ones / 2 + 1 + ones / 2 ≡ start + ones
        same_end = omega (arith, g.size, doubled)

        pub first_half : Node w start (e - 1) (ones / 2) at
        first_half = record { block = g.block; size = half; in_line = omega (arith, g.in_line); first = g.first }

        pub second_half : {next : ℕ} → FirstFrom w 2 2 (get_or w 0 0) (start + ones / 2 + 1) next → Node w (start + ones / 2 + 1) (e - 1) (ones / 2) next
        second_half f = record { block = g.block; size = half; in_line = omega (arith, g.in_line, same_end); first = f }

        halves : audit es e start ≡ audit es (e - 1) start ++ audit es (e - 1) (start + ones / 2 + 1)
        halves =
            ap (λ (k : ℕ). audit es k start) (sym one_less)
            ∙ audit_halves es (e - 1) start (subst (λ (k : ℕ). wholly_out es k start ≡ false) (sym one_less) not_out)
            (subst (λ (k : ℕ). wholly_in es k start ≡ false) (sym one_less) not_in)
            ∙ ap (λ (s : ℕ). audit es (e - 1) start ++ audit es (e - 1) s) (omega (arith, half))

        pub cut : {p q r : Pairs} → Notes (audit es (e - 1) start) p q → Notes (audit es (e - 1) (start + ones / 2 + 1)) q r
            → Notes (audit es e start) p r
        cut a b = notes_both a b halves
