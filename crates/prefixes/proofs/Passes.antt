-- The pass over the ranges of a set: what is left to take still gives what is due.
use mathlib.Core.Path.{◌≡◌, refl, sym, ◌∙◌, ap, ap₂}
use mathlib.Core.List.{List, [], ◌∷◌, ◌++◌}
use Prim.Native.Nat.{ℕ, zero, suc, ◌+◌, ◌*◌, ◌-◌, ◌^◌, ◌≤◌, ◌<◌}
use native.Mathlib.Omega.{arith}
use lib.ListN.{length, get_or, drop}
use lib.Seq.{drop-drop, get_or-drop}
use Rattle.entries.specs.Entries.{Sound}
use Rattle.blocks.specs.Blocks.{items_of, entries_of}
use Rattle.tilings.specs.Prefixes.{Prefix, prefix, whole, largest, taken_all, prefixes}
use Rattle.tilings.proofs.Taking.{taken_one, taken_none}
use Rattle.std.proofs.Common.{append_assoc}
use Rattle.std.proofs.lemmas.List.{append-nil}
use Rattle.prefixes.specs.declared.Pairs.{Pairs}
use Rattle.prefixes.specs.Steps.{Fits, Tally, tally, all_noted, Notes, HasRoom}
use Rattle.prefixes.proofs.Noting.{all_length, all_append}

-- a pass and then another
pub notes_both : {ps qs rs : List Prefix} {p q r : Pairs} → Notes ps p q → Notes qs q r → rs ≡ ps ++ qs → Notes rs p r
notes_both {ps} {qs} {rs} {p} {q} {r} a b e = record {
  noted = b.noted
      ∙ ap₂ (λ (room : ℕ) (t : Tally). all_noted room qs t) a.room a.noted
      ∙ sym (all_append p.room ps qs (tally p.count p.out.now))
      ∙ ap (λ (l : List Prefix). all_noted p.room l (tally p.count p.out.now)) (sym e);
  room = b.room ∙ a.room;
  place = b.place ∙ a.place;
}

pub notes_none : (p : Pairs) → Notes [] p p
notes_none p = record { noted = refl; room = refl; place = refl }

pub notes_length : {ps : List Prefix} {p q : Pairs} → Notes ps p q → length q.out.now ≡ length p.out.now
notes_length {ps} {p} a = ap (λ (u : Tally). length u.words) a.noted ∙ all_length p.room ps (tally p.count p.out.now)

pub notes_room : {ps : List Prefix} {p q : Pairs} → HasRoom p.room p.out.now → Notes ps p q → HasRoom q.room q.out.now
notes_room h a = omega (arith, a.room, notes_length a)

-- ONE RANGE: the blocks before `at` are noted
pub record Taking (low high : ℕ) (p : Pairs) (at : ℕ) (q : Pairs) : Type 0 where
  pub upto : at ≤ high
  pub done : List Prefix
  pub rest : taken_all low (high + 1 - low) ≡ done ++ taken_all at (high + 1 - at)
  pub notes : Notes done p q

-- the next block is noted
module _ {low high : ℕ} {p : Pairs} {at : ℕ} {q : Pairs} (t : Taking low high p at q) {e : ℕ} (f : Fits at (high - at) e)
    (more : ℕ) (m : more + 1 ≡ 2 ^ e) {r : Pairs} (n : Notes (prefix at e ∷ []) q r) where
  one : taken_all at (high + 1 - at) ≡ prefix at e ∷ taken_all (at + more + 1) (high + 1 - (at + more + 1))
  one =
      let d : high - at + 1 ≡ high + 1 - at = omega (arith, t.upto) in
      taken_one at (high + 1 - at) (omega (arith, t.upto))
      ∙ ap (λ (r : ℕ). prefix at r ∷ taken_all (at + 2 ^ r) (high + 1 - at - 2 ^ r)) (sym (f.is ∙ ap (largest whole at) d))
      ∙ ap₂ (λ (i j : ℕ). prefix at e ∷ taken_all i j) (omega arith) (omega arith)

  behind : taken_all low (high + 1 - low) ≡ (t.done ++ (prefix at e ∷ [])) ++ taken_all (at + more + 1) (high + 1 - (at + more + 1))
  behind =
      t.rest ∙ ap (λ (l : List Prefix). t.done ++ l) one
      ∙ sym (append_assoc t.done (prefix at e ∷ []) (taken_all (at + more + 1) (high + 1 - (at + more + 1))))

  pub taking_on : more < high - at → Taking low high p (at + more + 1) r
  taking_on h = record { upto = omega arith; done = t.done ++ (prefix at e ∷ []); rest = behind; notes = notes_both t.notes n refl }

  pub taking_end : high - at ≤ more → Notes (taken_all low (high + 1 - low)) p r
  taking_end h =
      let z : high + 1 - (at + more + 1) ≡ 0 = omega arith in
      notes_both t.notes n
      (behind ∙ ap (λ (l : List Prefix). (t.done ++ (prefix at e ∷ [])) ++ l) (ap (taken_all (at + more + 1)) z ∙ taken_none (at + more + 1))
      ∙ append-nil (t.done ++ (prefix at e ∷ [])))

-- ALL RANGES: those before index i are taken
pub record Passing (w : List ℕ) (p : Pairs) (i left : ℕ) (q : Pairs) : Type 0 where
  pub place : i + left ≡ get_or w 0 0
  pub held : 1 + 2 * get_or w 0 0 ≤ length w
  pub sound : Sound (items_of 2 left (drop (2 * i + 1) w))
  pub done : List Prefix
  pub rest : prefixes (entries_of 2 w) ≡ done ++ prefixes (items_of 2 left (drop (2 * i + 1) w))
  pub notes : Notes done p q

pub passing_end : {w : List ℕ} {p : Pairs} {i left : ℕ} {q : Pairs} → Passing w p i left q → left ≡ 0 → Notes (prefixes (entries_of 2 w)) p q
unfolding prefixes
passing_end {w} {p} {i} {left} {q} s z =
    let e : prefixes (entries_of 2 w) ≡ s.done ++ [] = (rw z at s.rest) in
    notes_both s.notes (notes_none q) e

-- the next range
pub record Next (w : List ℕ) (p : Pairs) (i left : ℕ) (q : Pairs) : Type 0 where
  pub inside : 2 * i + 3 ≤ length w
  pub order : get_or w (2 * i + 1) 0 ≤ get_or w (2 * i + 2) 0
  pub on : {low high : ℕ} {r : Pairs} → low ≡ get_or w (2 * i + 1) 0 → high ≡ get_or w (2 * i + 2) 0
      → Notes (taken_all low (high + 1 - low)) q r → (fewer : ℕ) → suc fewer ≡ left → Passing w p (i + 1) fewer r

pub next : {w : List ℕ} {p : Pairs} {i : ℕ} {q : Pairs} (left : ℕ) → Passing w p i left q → 0 < left → Next w p i left q
unfolding prefixes
next zero s h = absurd (omega arith)
next {w} {p} {i} {q} (suc k) s h =
    let d₀ = 2 * i + 1 in
    let l : get_or (drop d₀ w) 0 0 ≡ get_or w (2 * i + 1) 0 = get_or-drop d₀ w 0 0 ∙ ap (λ (q : ℕ). get_or w q 0) (omega arith) in
    let g : get_or (drop d₀ w) 1 0 ≡ get_or w (2 * i + 2) 0 = get_or-drop d₀ w 1 0 ∙ ap (λ (q : ℕ). get_or w q 0) (omega arith) in
    let d : drop 2 (drop d₀ w) ≡ drop (2 * (i + 1) + 1) w = drop-drop 2 d₀ w ∙ ap (λ (q : ℕ). drop q w) (omega arith) in
    record {
      inside = omega (arith, s.place, s.held);
      order = omega (arith, s.sound.0);
      on = λ {low} {high} {r} a b n fewer f.
          let e : fewer ≡ k = omega arith in
          let t = taken_all low (high + 1 - low) in
          record {
            place = omega (arith, s.place);
            held = s.held;
            sound = rw (e, ← d) s.sound.2;
            done = s.done ++ t;
            rest = rw e
                (s.rest
                ∙ ap₂ (λ (x y : List Prefix). s.done ++ (x ++ y))
                (ap₂ taken_all (l ∙ sym a) (omega arith)) (ap (λ (ws : List ℕ). prefixes (items_of 2 k ws)) d)
                ∙ sym (append_assoc s.done t (prefixes (items_of 2 k (drop (2 * (i + 1) + 1) w)))));
            notes = notes_both s.notes n refl;
          };
    }
