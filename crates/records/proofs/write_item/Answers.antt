use Rattle.std.proofs.Common.{ℕ, ◌+◌, ◌∙◌, sym, ap, arith, length}
use Rattle.blocks.specs.Blocks.{item_of}
use Rattle.numbers.specs.Numbers.{word_bytes}
use Rattle.checks.specs.Check.{new_mark}
use Rattle.checks.proofs.Marks.{check_new, new_old}
use Rattle.records.specs.Records.{entry_words, saying}
use Rattle.records.proofs.Ends.{saying_bytes}
use Rattle.records.proofs.Written.{record_written}
use Rattle.records.proofs.write_item.Goals as goal

pub returns : goal.returns
returns c =
    let ws = c.args.words.now in
    let l = saying_bytes c.args.kind (length ws) ws c.requires.0.two (omega arith) in
    record_written new_mark c.args.kind _ _ (word_bytes (entry_words (saying c.args.kind (item_of (length ws) ws)))) c.args.bytes.now _ _ _
    (ap (λ (n : ℕ). n + 3) l) c.put_head.ensures c.put_item-check.ensures.bytes (c.put_item-check.ensures.check ∙ sym (check_new new_mark new_old _))
    c.put2.ensures
