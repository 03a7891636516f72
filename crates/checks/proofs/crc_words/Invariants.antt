use Rattle.std.proofs.Common.{◌≡◌, ◌∷◌, drop}
use Rattle.numbers.specs.Numbers.{word_bytes}
use Rattle.checks.specs.Check.{crc}
use Rattle.checks.specs.Steps.{on_word}
use Rattle.checks.proofs.crc_words.Given as goal

abbrev pub invariant-loop-x : goal.invariant-loop-x
invariant-loop-x l = crc (l.kind ∷ word_bytes l.words) ≡ on_word l.word.bits (word_bytes (drop l.x-index l.x-items))
