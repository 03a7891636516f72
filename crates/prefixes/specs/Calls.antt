-- What each call on prefix blocks answers and leaves, from the words lent to it alone.
use Rattle.std.specs.Prelude.{List, ℕ}
use Rattle.entries.specs.Sets.{M}
use Rattle.answers.specs.Answers.{Outcome}
use Rattle.blocks.specs.declared.Layout.{Layout}
use Rattle.blocks.specs.Blocks.{layout, set_layout}
use Rattle.operations.specs.Calls.{from_one}
use Rattle.tilings.specs.Prefixes.{prefixes, audited, pairs_of}

-- [P2, P7] pairs in an output: two words each, as many as the words allow, since no block has so many words that M would bound them
abbrev pub pair_layout : Layout
pair_layout = layout 2 M

-- [P2, P3, P7] The blocks of a set, taken from each range, into an output: 1, 2, 3 of the set at 0, then 1 and 5 of the output at 1; else word 0
-- is how many blocks there are, their pairs stand behind it, and every later word is 0.
unfoldable pub prefix_call : List ℕ → List ℕ → Outcome
prefix_call w o = from_one set_layout pair_layout (λ es. pairs_of (prefixes es)) w o

-- [P2, P5, P7] the same by the plain method for audit
unfoldable pub audit_call : List ℕ → List ℕ → Outcome
audit_call w o = from_one set_layout pair_layout (λ es. pairs_of (audited es)) w o
