use Rattle.std.proofs.Common.{ℕ, ◌+◌, ◌∙◌, sym, ap}
use Rattle.numbers.specs.Numbers.{count_bytes}
use Rattle.checks.specs.Check.{new_mark}
use Rattle.checks.proofs.Marks.{check_new, new_old}
use Rattle.records.specs.Reads.{counts_of}
use Rattle.records.proofs.Items.{counts_length}
use Rattle.records.proofs.Written.{record_written}
use Rattle.records.proofs.write_start.Goals as goal

pub returns : goal.returns
returns c =
    let a = c.args in
    record_written new_mark a.kind _ _ (count_bytes (counts_of a.k a.n a.m)) a.bytes.now _ _ _
    (ap (λ (i : ℕ). i + 3) (counts_length a.k a.n a.m c.requires.0 c.requires.1)) c.put_head.ensures c.put_counts.ensures
    (c.start_crc-check.ensures.0 ∙ sym (check_new new_mark new_old _)) c.put2.ensures
