use Rattle.std.proofs.Common.{add-one, ◌≡◌, ◌*◌, ◌≤◌, length, take, get_or, arith}
use Rattle.std.proofs.lemmas.List.{length-take-le}
use Rattle.numbers.specs.Numbers.{word_bytes, be8}
use Rattle.numbers.proofs.Numbers.{length_bytes, bytes_so_far}
use Rattle.numbers.proofs.Patch.{mid_over}
use Rattle.numbers.proofs.put_words.Goals as goal

pub loop-j-preserved : goal.loop-j-preserved
loop-j-preserved c =
    let ws = c.args.words.now in
    let j = c.loop-j.j in
    let h : j ≤ length ws = omega arith in
    let l : length (word_bytes (take j ws)) ≡ 8 * j = omega (arith, length_bytes (take j ws), length-take-le j ws h) in
    rw (add-one, bytes_so_far ws j (omega arith))
    (mid_over (word_bytes (take j ws)) (be8 (get_or ws j 0)) c.args.bytes.now c.loop-j.bytes _ (8 * j) l c.loop-j.invariant c.put8.ensures)
