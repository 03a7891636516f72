use Rattle.std.proofs.Common.{◌∙◌, drop, rules}
use Rattle.numbers.specs.Numbers.{word_bytes}
use Rattle.numbers.proofs.Numbers.{bytes_more}
use Rattle.numbers.proofs.Patch.{tail_part}
use Rattle.checks.proofs.Marks.{crc_kind}
use Rattle.checks.proofs.crc_words.Goals as goal

pub loop-x-init : goal.loop-x-init
loop-x-init c =
    let ws = c.args.words.now in
    let m = bytes_more ws 0 (search rules) in
    rw (tail_part 1 ws) (crc_kind c.args.kind (word_bytes ws) ∙ cc (c.with8-word.ensures (word_bytes (drop 1 ws))))
