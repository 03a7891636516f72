-- DAMAGE: reading refuses a form of the new mark in which one byte is changed, whichever it is, and any form in which a later mark is another.
use Rattle.std.specs.Prelude.{◌≡◌, List, ℕ, ◌+◌, ◌*◌, ◌≤◌, ◌<◌, length, get_or, set}
use Rattle.answers.specs.Answers.{refuse}
use Rattle.numbers.specs.Numbers.{Bytes}
use Rattle.checks.specs.Check.{new_mark}
use Rattle.verdicts.specs.declared.Form.{Form}
use Rattle.runs.specs.Runs.{total}
use Rattle.verdicts.specs.Forms.{of_set, mark_of, start_size, form_counts}
use Rattle.forms.specs.Calls.{read_call, member_of_form_call}
use Rattle.demands.specs.Bytes.{OfFour, IsForm, last_of_bytes}

-- the bytes are refused, with one of the numbers of bytes, whatever the outputs are
pub record BytesRefused (f : Form) (b : List ℕ) (outs : List (List ℕ)) : Type 0 where
  pub number : ℕ
  pub place : ℕ
  pub from8 : 8 ≤ number
  pub to_last : number ≤ last_of_bytes f
  pub refused : read_call f b outs ≡ refuse number place outs

-- [C4] «one changed byte in any record's kind, body or check makes reading refuse»: here any byte at all, those of the
-- marks too, the first record's among them
abbrev pub OneByte : Type 0
OneByte = (f : Form) → OfFour f → (b : List ℕ) → Bytes b → IsForm f b → mark_of b ≡ new_mark → (i v : ℕ) → i < length b → v < 256
    → (v ≡ get_or b i 0 → ⊥) → (outs : List (List ℕ)) → BytesRefused f (set b i v) outs

-- [C4, H1] and the C host's question on a set so changed is answered by 16 plus a number from 8 to 13: never by 1 or 0
abbrev pub OneByteAsked : Type 0
OneByteAsked = (b : List ℕ) → Bytes b → IsForm of_set b → mark_of b ≡ new_mark → (i v : ℕ) → i < length b → v < 256 → (v ≡ get_or b i 0 → ⊥) → (x : ℕ)
    → (16 + 8 ≤ member_of_form_call (set b i v) x) × (member_of_form_call (set b i v) x ≤ 16 + 13)

-- [C3] a form, of either mark, in which the mark of the item j behind the start is another is refused with 9 at that item
abbrev pub LaterMark : Type 0
LaterMark = (f : Form) → OfFour f → (b : List ℕ) → Bytes b → IsForm f b → (j x y : ℕ) → j < total (form_counts f b) → (x * 256 + y ≡ mark_of b → ⊥)
    → (outs : List (List ℕ))
    → (let q = start_size f + (8 * f.layout.width + 5) * j in
    read_call f (set (set b q x) (q + 1) y) outs ≡ refuse 9 q outs)
