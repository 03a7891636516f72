-- Bulletins: the statements of specs/Bulletins.
use mathlib.Core.Path.{◌≡◌, refl}
use mathlib.Core.List.{List, [], ◌∷◌}
use Prim.Native.Nat.{ℕ, zero, suc, ◌+◌, ◌≤◌, ◌<◌}
use native.Mathlib.Omega.{arith}
use lib.ListN.{length, get_or}
use Rattle.entries.specs.Entries.{Entry}
use Rattle.answers.specs.Answers.{Finding}
use Rattle.answers.specs.Answers.{refuse, Clear}
use Rattle.answers.proofs.Turns.{clear_at}
use Rattle.blocks.specs.Blocks.{set_layout, capacity, entries_of, block_of}
use Rattle.blocks.specs.Calls.{input, output}
use Rattle.blocks.proofs.Refusing.{some_words}
use Rattle.searches.specs.Calls.{overlap}
use Rattle.bulletins.specs.Calls.{amended_with, apply_call, fold_call}
use Rattle.forms.proofs.Forms.{has_words}
use Rattle.demands.specs.Plain.{Iff, Lacks}
use Rattle.demands.specs.Bulletins.{Apply, Fold, FoldIsOne, FoldApplies, FoldGroups, EitherOrder, BulletinsKeep, ApplyRoom, Foldable, FoldRoom}
use Rattle.demands.proofs.Findings.{Numbered}
use Rattle.demands.proofs.Rooms.{Not5, input_not, output_not, overlap_not, refused_room, refused_alone}
use Rattle.demands.proofs.Bulletins.{apply_means, fold_released, fold_withdrawn, fold_bulletin, fold_applies, fold_groups, fold_either_order}
use Rattle.demands.proofs.Bulletins.{apply_keeps, fold_keeps, overlap_apart, apart_overlap}

pub apply_leaves : Apply
apply_leaves = apply_means

pub fold_leaves : Fold
fold_leaves r₁ w₁ r₂ w₂ out_r out_w R W e = (fold_released r₁ w₁ r₂ w₂ out_r out_w R W e, fold_withdrawn r₁ w₁ r₂ w₂ out_r out_w R W e)

pub fold_is_one : FoldIsOne
fold_is_one r₁ w₁ r₂ w₂ out_r out_w R W e = fold_bulletin r₁ w₁ r₂ w₂ out_r out_w R W e

pub fold_then_apply : FoldApplies
fold_then_apply = fold_applies

pub fold_grouping : FoldGroups
fold_grouping = fold_groups

pub fold_order : EitherOrder
fold_order = fold_either_order

pub bulletins_keep : BulletinsKeep
bulletins_keep = (apply_keeps, fold_keeps)

-- ROOM exactly: what is tried before it is clear, and of the outputs the one is the first without room
pub apply_room : ApplyRoom
unfolding apply_call
apply_room list released withdrawn out = record {
  to = λ e.
      let h = exactly.to e in
      let c = clear_at firsts h.0 in
      (c 0, record { released_sound = c 1; withdrawn_sound = c 2; apart = overlap_apart r w (c 4) }, some_words (length out) (c 3), h.1);
  from = λ h.
      let b = h.1 in
      exactly.from ((h.0, (b.released_sound, (b.withdrawn_sound, (has_words (length out) h.2, (apart_overlap r w b.apart, tt))))), h.3);
}
  where
    es : List Entry
    es = amended_with list released withdrawn

    r : List Entry
    r = entries_of 2 released

    w : List Entry
    w = entries_of 2 withdrawn

    firsts : List Finding
    firsts = input 0 set_layout list ∷ input 1 set_layout released ∷ input 2 set_layout withdrawn ∷ output 3 (length out) ∷ overlap released withdrawn ∷ []

    other : Numbered Not5 firsts
    other = (
      input_not set_layout list,
      (input_not set_layout released, (input_not set_layout withdrawn, (output_not (length out), (overlap_not r w, tt)))),
    )

    exactly : Iff (apply_call list released withdrawn out ≡ refuse 5 3 (out ∷ [])) (Clear firsts × (capacity set_layout (length out) < length es))
    exactly = refused_alone set_layout 3 out es firsts other [] (block_of (length out) es ∷ [])

pub fold_room : FoldRoom
unfolding fold_call
fold_room r₁ w₁ r₂ w₂ out_r out_w = (first, second)
  where
    firsts : List Finding
    firsts =
        input 0 set_layout r₁ ∷ input 1 set_layout w₁ ∷ input 2 set_layout r₂ ∷ input 3 set_layout w₂
        ∷ output 4 (length out_r) ∷ output 5 (length out_w) ∷ overlap r₁ w₁ ∷ overlap r₂ w₂ ∷ []

    other : Numbered Not5 firsts
    other = (
      input_not set_layout r₁,
      (
        input_not set_layout w₁,
        (
          input_not set_layout r₂,
          (
            input_not set_layout w₂,
            (
              output_not (length out_r),
              (
                output_not (length out_w),
                (overlap_not (entries_of 2 r₁) (entries_of 2 w₁), (overlap_not (entries_of 2 r₂) (entries_of 2 w₂), tt)),
              ),
            ),
          ),
        ),
      ),
    )

    released : List Entry
    released = amended_with r₁ r₂ w₂

    withdrawn : List Entry
    withdrawn = amended_with w₁ w₂ r₂

    ls : List ℕ
    ls = length out_r ∷ length out_w ∷ []

    counts : List ℕ
    counts = length released ∷ length withdrawn ∷ []

    exactly : (i p : ℕ) → p ≡ 4 + i
        → Iff (fold_call r₁ w₁ r₂ w₂ out_r out_w ≡ refuse 5 p (out_r ∷ out_w ∷ [])) (Clear firsts × Lacks set_layout ls counts i)
    exactly i p e =
        refused_room set_layout 4 ls counts refl i p e firsts other (out_r ∷ out_w ∷ []) [] (block_of (length out_r) released ∷ block_of (length out_w) withdrawn ∷ [])

    foldable : Clear firsts → Foldable r₁ w₁ r₂ w₂ out_r out_w
    foldable z =
        let c = clear_at firsts z in
        record {
          earlier = record { released_sound = c 0; withdrawn_sound = c 1; apart = overlap_apart (entries_of 2 r₁) (entries_of 2 w₁) (c 6) };
          later = record { released_sound = c 2; withdrawn_sound = c 3; apart = overlap_apart (entries_of 2 r₂) (entries_of 2 w₂) (c 7) };
          words = (some_words (length out_r) (c 4), some_words (length out_w) (c 5));
        }

    clears : Foldable r₁ w₁ r₂ w₂ out_r out_w → Clear firsts
    clears h = (
      h.earlier.released_sound,
      (
        h.earlier.withdrawn_sound,
        (
          h.later.released_sound,
          (
            h.later.withdrawn_sound,
            (
              has_words (length out_r) h.words.0,
              (
                has_words (length out_w) h.words.1,
                (
                  apart_overlap (entries_of 2 r₁) (entries_of 2 w₁) h.earlier.apart,
                  (apart_overlap (entries_of 2 r₂) (entries_of 2 w₂) h.later.apart, tt),
                ),
              ),
            ),
          ),
        ),
      ),
    )

    first : Iff (fold_call r₁ w₁ r₂ w₂ out_r out_w ≡ refuse 5 4 (out_r ∷ out_w ∷ []))
        (Foldable r₁ w₁ r₂ w₂ out_r out_w × (capacity set_layout (length out_r) < length released))
    first = record {
      to = λ e. let h = (exactly 0 4 refl).to e in (foldable h.0, h.1.here);
      from = λ h. (exactly 0 4 refl).from (clears h.0, record { before = λ k l. absurd (omega arith); here = h.1 });
    }

    second : Iff (fold_call r₁ w₁ r₂ w₂ out_r out_w ≡ refuse 5 5 (out_r ∷ out_w ∷ []))
        (Foldable r₁ w₁ r₂ w₂ out_r out_w × (length released ≤ capacity set_layout (length out_r)) × (capacity set_layout (length out_w) < length withdrawn))
    second = record {
      to = λ e. let h = (exactly 1 5 refl).to e in (foldable h.0, h.1.before 0 (omega arith), h.1.here);
      from = λ h. (exactly 1 5 refl).from (clears h.0, record { before = before h.1; here = h.2 });
    }
      where
        before : length released ≤ capacity set_layout (length out_r) → (k : ℕ) → k < 1 → get_or counts k 0 ≤ capacity set_layout (get_or ls k 0)
        before l zero q = l
        before l (suc k) q = absurd (omega arith)
