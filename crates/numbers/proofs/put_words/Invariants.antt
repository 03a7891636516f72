use Rattle.std.proofs.Common.{◌≡◌, take}
use Rattle.numbers.specs.Numbers.{word_bytes, over}
use Rattle.numbers.proofs.put_words.Given as goal

abbrev pub invariant-loop-j : goal.invariant-loop-j
invariant-loop-j l = l.bytes ≡ over (word_bytes (take l.j l.words)) l.fn.bytes
