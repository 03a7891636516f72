use Rattle.std.proofs.Common.{ℕ, ◌+◌, add-one, ◌*◌, ◌≡◌, ◌∙◌, [], ◌∷◌, ◌++◌, take, drop, ap, sym, arith, append-nil, drop_of_length-le}
use Rattle.std.proofs.lemmas.List.{length-take-le}
use Rattle.numbers.specs.Numbers.{words_in}
use Rattle.numbers.proofs.Numbers.{length_words, words_so_far}
use Rattle.numbers.proofs.Patch.{store_over}
use Rattle.numbers.proofs.get_words.Goals as goal

pub loop-j-preserved : goal.loop-j-preserved
loop-j-preserved c =
    let b = c.args.bytes.now in
    let j = c.loop-j.j in
    let o = take c.args.s c.args.out.now in
    let e : words_in (j + 1) b 0 ≡ words_in j b 0 ++ (c.get8.result ∷ []) =
    rw add-one (words_so_far j b 0 (8 * j) (omega arith) ∙ ap (λ (x : ℕ). words_in j b 0 ++ (x ∷ [])) (sym c.get8.ensures)) in
    rw (c.loop-j.invariant, e) (store_over (words_in j b 0) o c.get8.result j (length_words j b 0) (omega arith))

pub returns : goal.returns
returns c =
    let b = c.args.bytes.now in
    let out = c.args.out.now in
    let s = c.args.s in
    let k : c.loop-j.j ≡ s = omega (arith, length-take-le s out (omega arith)) in
    let d : drop s (take s out) ≡ [] = drop_of_length-le (take s out) {i = s} (omega (arith, length-take-le s out (omega arith))) in
    rw (c.loop-j.invariant, k, length_words s b 0, d, append-nil)
