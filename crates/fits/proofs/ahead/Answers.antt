use Rattle.std.proofs.Common.{◌≡◌, ℕ, ◌+◌, ◌-◌, ◌*◌, ◌≤◌, ◌<◌, arith}
use Prim.Native.Nat.{◌%◌, ◌^◌}
use lib.Pow.{pow_pos, pow-lt}
use Rattle.fits.specs.Calls.{last_power}
use Rattle.fits.proofs.Multiples.{ahead_is}
use Rattle.fits.proofs.ahead.Goals as goal

-- 2^j less one, since j is less than the width
ones : (j : ℕ) → j ≤ last_power → 1 * 2 ^ j % 2 ^ 64 - 1 + 1 ≡ 2 ^ j
ones j h = let l : j < 64 = omega (arith, h) in omega (arith, pow-lt l, pow_pos j)

pub returns : goal.returns
returns c = ahead_is c.args.low c.args.j _ (ones c.args.j c.requires)
