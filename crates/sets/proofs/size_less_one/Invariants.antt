-- With what the ranges from index i on have, total + 1 is the size.
use Rattle.std.proofs.Common.{◌≡◌, ◌+◌, drop}
use Rattle.entries.specs.Questions.{size_of}
use Rattle.blocks.specs.Blocks.{entries_of}
use Rattle.sets.proofs.size_less_one.Given as goal

abbrev pub invariant-loop-i : goal.invariant-loop-i
invariant-loop-i l = l.total + 1 + size_of (drop l.i (entries_of 2 l.block)) ≡ size_of (entries_of 2 l.block)
