-- `domain::most_in`: from 16 bits on all that 16 bits hold.
use Rattle.std.proofs.Common.{◌-◌, ◌≤◌, ◌^◌, sym, arith}
use Rattle.std.proofs.Math.Nat.{min-eq_left}
use Rattle.std.proofs.Math.Pow.{pow_mono}
use Rattle.domain.proofs.most_in.Goals as goal

pub returns-else-depth-lt16 : goal.returns-else-depth-lt16
returns-else-depth-lt16 c = let h : 2 ^ 16 ≤ 2 ^ c.args.depth = pow_mono c.if-depth-lt16.false in
    let k : 65535 ≤ 2 ^ c.args.depth - 1 = omega arith in
    sym (min-eq_left k)
