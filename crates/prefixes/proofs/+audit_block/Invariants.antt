-- The audit of a block calls itself on its two halves. Measure: the exponent, which falls by one at each call.
use Rattle.prefixes.proofs.+audit_block.Given as goal

abbrev pub decreases-audit_block : goal.decreases-audit_block
decreases-audit_block l = l.e
