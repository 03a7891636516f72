-- The refusal of the front, and the verdict on a record whose front is good.
use Rattle.std.proofs.Common.{ℕ, ◌≡◌, ◌∙◌, ap, refl, true, false}
use mathlib.Core.Option.{Option}
use Rattle.entries.specs.Entries.{Entry}
use Rattle.answers.specs.declared.Reason.TheVariants.{Check, Content}
use Rattle.records.specs.Records.{in_order}
use Rattle.records.specs.Reads.{item_said, entry_of}
use Rattle.records.specs.declared.Item.{Item}
use Rattle.records.proofs.Answers.{read_ok, read_err, read_failed}
use Rattle.records.proofs.Told.{item_judged}
use Rattle.records.proofs.read_item.Goals as goal

said_order : (s : ℕ) (before : Option Entry) (i j : Item) → i ≡ j → in_order before (entry_of s i) ≡ in_order before (entry_of s j)
said_order s before i j e = ap (λ (l : Item). in_order before (entry_of s l)) e

pub returns-in_err-read_front : goal.returns-in_err-read_front
returns-in_err-read_front c = read_failed _ _ _ _ c.from_residual.ensures.1 (c.in_err-read_front.ensures _)

pub returns-then-not-is_told : goal.returns-then-not-is_told
returns-then-not-is_told c =
    read_err Check _ _ (item_judged _ _ _ c.in_ok-read_front.ensures (λ i. (c.type_inv.bytes i).fits) _ false _ _ _ _ c.requires c.item_here-words.ensures
    c.item_check.ensures c.if-not-is_told.ensures refl)

pub returns-then-not-in_order : goal.returns-then-not-in_order
returns-then-not-in_order c =
    read_err Content _ _ (item_judged _ _ _ c.in_ok-read_front.ensures (λ i. (c.type_inv.bytes i).fits) _ true false _ _ _ c.requires c.item_here-words.ensures
    c.item_check.ensures c.if-not-is_told.ensures (c.if-not-in_order.ensures ∙ said_order c.args.s _ _ _ c.item_said-item.ensures))

pub returns : goal.returns
returns c =
    read_ok _ _ _ (item_judged _ _ _ c.in_ok-read_front.ensures (λ i. (c.type_inv.bytes i).fits) _ true true _ _ _ c.requires c.item_here-words.ensures
    c.item_check.ensures c.if-not-is_told.ensures (c.if-not-in_order.ensures ∙ said_order c.args.s _ _ _ c.item_said-item.ensures))
    (c.item_said-item.ensures ∙ ap (item_said c.args.kind) c.item_here-words.ensures)
