use Rattle.std.proofs.Common.{◌≡◌, take}
use Rattle.numbers.specs.Numbers.{words_in, over}
use Rattle.numbers.proofs.get_words.Given as goal

abbrev pub invariant-loop-j : goal.invariant-loop-j
invariant-loop-j l = l.word-items ≡ over (words_in l.j l.bytes 0) (take l.s l.fn.out)
